-- What document 01 makes of a decision of Figure 3, in a session s whose read round has closed, with its desk d and the item i: the outcome o.
--   Returns        line 8: done with ⟨ts, Data⟩; of the first triple, never written
--   Repairs        lines 14 to 17: the repair round opens; the desk holds what DO_WRITE sends, and its first m fragments are Data
--   Reads          line 24: the next round opens below ts; after round W (01) the end is rounds spent
--   Decides        by the decision
--   OneCross       (01) within a response set one timestamp is one cross checksum, as section 4.2.2 says of a candidate set
-- Assumes nothing.
use Rattle.std.specs.Prelude.{ℕ, ◌*◌, ◌≤◌, ◌<◌, ◌≡◌, List, length}
use Rattle.terms.specs.Stamp.{stamp_number}
use Rattle.terms.specs.Terms.{record_length}
use Rattle.terms.specs.declared.Plan.{Plan}
use Rattle.terms.specs.declared.Timestamp.{Timestamp}
use Rattle.record.specs.Desk.{fragment_in}
use Rattle.session.specs.declared.Session.{Session}
use Rattle.session.specs.Session.{ended_of, next_of, storing_of, still_open, done, never_written, aborted, rounds_spent}
use Rattle.session.specs.Reader.{Outcome, outcome}
use Rattle.report.specs.Triple.{Message, null, strung, In}
use Rattle.report.specs.Figure3.{read_latest, read_previous, Decision, returned, repaired, abort, reading}
use Rattle.report.specs.Ours.{sending}

pub record Returns (p : Plan) (s : Session) (d i : List ℕ) (o : Outcome) (ts : ℕ) (Data : List ℕ) : Type 0 where
  pub stamp : Timestamp
  pub number : stamp_number stamp ≡ ts
  pub never : ts ≡ 0 → (Data ≡ null) × (o ≡ outcome (never_written s.round.number) (ended_of s) d i)
  pub value : 1 ≤ ts → o ≡ outcome (done stamp s.round.number) (ended_of s) d Data

pub record Repairs (p : Plan) (s : Session) (i : List ℕ) (o : Outcome) (sent : List Message) (ts : ℕ) (Data : List ℕ) : Type 0 where
  pub stamp : Timestamp
  pub desk : List ℕ
  pub is : o ≡ outcome still_open (storing_of s stamp) desk i
  pub number : stamp_number stamp ≡ ts
  pub sends : sending p desk ≡ sent
  pub holds : strung (fragment_in p desk) p.m ≡ Data
  pub size : length desk ≡ p.n * record_length p

pub record Reads (p : Plan) (s : Session) (d i : List ℕ) (o : Outcome) (ts : ℕ) : Type 0 where
  pub stamp : Timestamp
  pub number : stamp_number stamp ≡ ts
  pub next : s.round.number < p.w → o ≡ outcome still_open (next_of s stamp) d i
  pub cut : p.w ≤ s.round.number → o ≡ outcome (rounds_spent s.round.number) (ended_of s) d i

abbrev pub Decides : Plan → Session → List ℕ → List ℕ → Outcome → Decision → Type 0
Decides p s d i o (returned ts Data) = Returns p s d i o ts Data
Decides p s d i o (repaired sent ts Data) = Repairs p s i o sent ts Data
Decides p s d i o abort = o ≡ outcome (aborted s.round.number) (ended_of s) d i
Decides p s d i o (reading (read_previous ts)) = Reads p s d i o ts
Decides p s d i o (reading read_latest) = ⊥

abbrev pub OneCross : List Message → Type 0
OneCross set = (x y : Message) → In x set → In y set → x.Response.ts ≡ y.Response.ts → x.Response.CC ≡ y.Response.CC
