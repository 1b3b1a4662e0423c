-- A record that bears the timestamp of a write of ours, and two items of one timestamp. Document 01, "Fragments": a timestamp is a time and the hash
-- of the cross checksum. No two different strings at hand share a hash: of these pairs alone.
--   Unlike             the record's cross checksum and fragment do not clash with those of the item that was written
--   NoClash            no record that the reply of a call bears, under the write's timestamp, clashes with those of the item that was written
--   ItemsUnlike        the cross checksums of two items, and their fragments node by node, do not clash
-- Assumes nothing.
use Rattle.std.specs.Prelude.{ℕ, ◌<◌, ◌≡◌, true, List}
use Rattle.sha256.specs.Sha256.{sha256}
use Rattle.terms.specs.declared.Plan.{Plan}
use Rattle.fragments.specs.Fragments.{fragment}
use Rattle.record.specs.Record.{stamp_of, cross_of, fragment_of, fragment_hash}
use Rattle.record.specs.Desk.{stamp_made}
use Rattle.recover.specs.Records.{cross_for}
use Rattle.frame.specs.Frame.{frame_node, body_of}
use Rattle.session.specs.Reply.{bears}
use Rattle.client.specs.Turns.{Turn}
use Rattle.client.specs.Repair.{EachTurn}

-- rec is a record that node z gave, i the item that was written
pub record Unlike (p : Plan) (i : List ℕ) (z : ℕ) (rec : List ℕ) : Type 0 where
  pub cross : sha256 (cross_of p rec) ≡ sha256 (cross_for p i) → cross_of p rec ≡ cross_for p i
  pub fragments : fragment_hash p z (fragment_of p rec) ≡ fragment_hash p z (fragment p.m p.f i z) → fragment_of p rec ≡ fragment p.m p.f i z

-- the strings at hand: what was written at a time, and what the replies of a read bore under its timestamp
abbrev pub NoClash : Plan → ℕ → List ℕ → List Turn → Type 0
NoClash p time i ts =
    EachTurn (λ (t : Turn). bears p t.reply ≡ true → stamp_of (body_of t.reply) ≡ stamp_made time (cross_for p i) → Unlike p i (frame_node t.reply) (body_of t.reply)) ts

pub record ItemsUnlike (p : Plan) (i j : List ℕ) : Type 0 where
  pub cross : sha256 (cross_for p i) ≡ sha256 (cross_for p j) → cross_for p i ≡ cross_for p j
  pub fragments : (k : ℕ) → k < p.n → fragment_hash p k (fragment p.m p.f i k) ≡ fragment_hash p k (fragment p.m p.f j k)
      → fragment p.m p.f i k ≡ fragment p.m p.f j k
