-- Whether a set validates does not depend on the m fragments that it is regenerated from. Section 4.2.2 of the report: "Note that this check either
-- succeeds or fails for all correct clients, regardless of which storage-nodes are represented within the candidate set."
--   written_validates  a set of the timestamp of an item's write validates
--   valid_for_all      where a read ended done with a timestamp, under Byzantine clients, every set of that timestamp validates, in whichever read
-- Assumes nothing.
use Prim.Native.Nat.{ℕ, ◌*◌, ◌<◌}
use mathlib.Core.Path.{◌≡◌, refl, sym, ap, ◌∙◌}
use mathlib.Core.Bool.{true}
use mathlib.Core.List.{List, ◌∷◌}
use native.Mathlib.Omega.{arith}
use lib.ListN.{length}
use Rattle.octets.specs.Bytes.{Octets}
use Rattle.octets.proofs.Meaning.{is_alike, octets_drop}
use Rattle.terms.specs.Ladder.{None}
use Rattle.terms.specs.Stamp.{stamp_number}
use Rattle.terms.specs.Terms.{record_length, slots_of}
use Rattle.terms.specs.declared.Plan.{Plan}
use Rattle.terms.specs.declared.Timestamp.{Timestamp}
use Rattle.terms.specs.declared.Clients.{Clients}
use Rattle.terms.specs.declared.Clients.TheVariants.{Crash, Byzantine}
use Rattle.terms.proofs.Down.{clear}
use Rattle.terms.proofs.Facts.{facts}
use Rattle.terms.proofs.Plans.{plan_is}
use Rattle.fragments.specs.Fragments.{All, fragment, regenerated}
use Rattle.fragments.proofs.Interp.{all_map, all_map2}
use Rattle.fragments.proofs.Laws.{all_among}
use Rattle.fragments.proofs.Theorems.{any_fragment}
use Rattle.frame.specs.Frame.{head_bytes, version_of}
use Rattle.record.specs.Record.{cross_of, fragment_of}
use Rattle.record.specs.Desk.{slot_of}
use Rattle.record.proofs.Desks.{cross_same, fragment_in_lem}
use Rattle.record.proofs.Records.{cross_at}
use Rattle.recover.specs.Recover.{validates, lowest, trusted, sound}
use Rattle.recover.specs.Records.{cross_for, stamp_for, records_for}
use Rattle.session.specs.declared.Session.{Session}
use Rattle.session.specs.Reader.{closed}
use Rattle.session.proofs.Closings.{Led, led}
use Rattle.session.proofs.ReadKept.{asking}
use Rattle.client.specs.Endings.{read_ladder, after_reply, desk_after}
use Rattle.client.specs.Sessions.{last_session, last_desk}
use Rattle.client.specs.Held.{ReadDone, SetCloses, set_valid}
use Rattle.client.specs.SameStamp.{NoClash}
use Rattle.client.proofs.Reading.{Taken, taken}
use Rattle.client.proofs.Round.Order.{length_after}
use Rattle.client.proofs.Slots.{reply_heard}
use Rattle.client.proofs.Held.{lead_of, Closing, run_slots}
use Rattle.client.proofs.Sets.{lowest_so}
use Rattle.client.proofs.ComesBack.{written_in, written_cross}
use Rattle.client.proofs.SameStamp.{Fair, all_fair, set_written}
use Rattle.client.proofs.OneItem.{known_item}

trusts : (x : Clients) → trusted x true ≡ true
trusts Crash = refl
trusts Byzantine = refl

module _ (p : Plan) (t : ℕ) (i : List ℕ) (bytes : Octets i) (whole : length i ≡ p.m * p.f) where
  -- of the records of a write
  module _ (u : Session) (e : List ℕ) (a : ℕ) (c : Closing (Fair p t i bytes whole) p u e a) (stamped : stamp_number (closed p u e).stamp ≡ stamp_number (stamp_for p t i)) where
    abbrev qs : List ℕ
    qs = lowest p (closed p u e)

    slots : All (λ (z : ℕ). slot_of p e z ≡ slot_of p (records_for p t i) z) qs
    slots = set_written p t i bytes whole u e a c stamped

    -- what it regenerates is the item's
    pub pieces : (k : ℕ) → k < 256 → regenerated e (slots_of p) qs k ≡ fragment p.m p.f i k
    pieces =
        let l = lowest_so (Fair p t i bytes whole) p u e a c in
        let g = facts p c.plan in
        let n16 = (plan_is p c.plan).n_high in
        any_fragment p.m (slots_of p) i (omega arith) bytes whole e qs l.distinct (all_map (λ z h. omega (arith, n16)) qs l.below) l.few
        (all_map2 (λ z h s. fragment_in_lem p e z ∙ ap (fragment_of p) s ∙ written_in p t i c.plan bytes whole i whole z h) qs l.below slots)

    pub cross_so : cross_of p (slot_of p e a) ≡ cross_for p i
    cross_so =
        let l = lowest_so (Fair p t i bytes whole) p u e a c in
        ap (cross_of p) (all_among (λ (z : ℕ). slot_of p e z ≡ slot_of p (records_for p t i) z) a qs slots l.leader)
        ∙ written_cross p t i c.plan bytes whole i whole a (all_among (λ (z : ℕ). z < p.n) a qs l.below l.leader)

    pub set_validates : sound p (closed p u e) a e ≡ true
    unfolding sound validates cross_for
    set_validates =
        ap (trusted p.clients)
        (is_alike _ _
        (cross_same (regenerated e (slots_of p) qs) (fragment p.m p.f i) p.n (λ k h. let n16 = (plan_is p c.plan).n_high in pieces k (omega arith)) p
        ∙ sym cross_so ∙ cross_at p e (a * record_length p)))
        ∙ trusts p.clients

  -- A SET OF THE TIMESTAMP OF AN ITEM'S WRITE VALIDATES, whichever nodes it is of, in whichever round of a read
  module _ (stamp : Timestamp) (made : stamp_for p t i ≡ stamp) (r : SetCloses p stamp) (unlike : NoClash p t i (r.last ∷ r.before)) where
    abbrev s : Session
    s = last_session r.opened.session r.before

    abbrev d : List ℕ
    d = last_desk r.desk r.before

    abbrev f : List ℕ
    f = r.last.reply

    n : None (read_ladder p s f d (length r.last.item))
    n = r.closes.accepted

    takes : Taken p s f d (length r.last.item)
    takes = taken p s f d (length r.last.item) n

    leading : Led p (after_reply p s f) (desk_after p f d) r.node
    leading = led p (after_reply p s f) (desk_after p f d) r.node (lead_of p s f d r.node r.candidate)

    closing : Closing (Fair p t i bytes whole) p (after_reply p s f) (desk_after p f d) r.node
    closing =
        record {
          plan = takes.plan;
          long = length_after p d f takes.node takes.desk;
          leads = lead_of p s f d r.node r.candidate;
          size = omega (arith, r.enough, ap length leading.nodes_are);
          slots = reply_heard (Fair p t i bytes whole) p s f d (length r.last.item) n
              (run_slots (Fair p t i bytes whole) p r.ask r.opened r.opens r.accepted r.desk r.before r.calls
              (all_fair p t i bytes whole r.opened.session r.desk r.before r.calls unlike.1)
              (asking s.round.stage r.closes.asks (clear (read_ladder p s f d (length r.last.item)) n 14)))
              (λ b l q. record { hashes = q.hashes; octets = octets_drop (head_bytes (version_of f)) f r.call.0; unlike = unlike.0 b });
        }

    pub written_validates : set_valid p stamp r ≡ true
    written_validates = set_validates (after_reply p s f) (desk_after p f d) r.node closing (ap stamp_number (leading.stamp_is ∙ sym r.of ∙ sym made))

-- WHERE ONE READ ENDED DONE WITH A TIMESTAMP, EVERY SET OF THAT TIMESTAMP VALIDATES, in whichever read and of whichever nodes
pub valid_for_all : (p : Plan) → p.clients ≡ Byzantine → (t : Timestamp) (item : List ℕ) → ReadDone p t item → (r : SetCloses p t)
    → NoClash p t.time.0 item (r.last ∷ r.before) → set_valid p t r ≡ true
valid_for_all p byzantine t item q r =
    let k = known_item p t item q in
    written_validates p t.time.0 item k.octets k.long t (k.stamped byzantine) r
