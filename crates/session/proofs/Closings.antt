-- A read round that closes. Document 01, "The client", reading: the candidate is the greatest timestamp; its set is the replies with this
-- timestamp and the same cross checksum as the lowest-numbered of them; regenerating and decoding start from the m lowest-numbered.
--   Led led               what the close is where node a leads it
--   nodes_below heads_alike   the nodes of its set are below N, and alike in timestamp and cross checksum
--   Lowest lowest_are     the m lowest-numbered of its set: m of them, below N, each once, alike in their heads, the lead among them
--   sized sized_whole     a set that is repaired, or complete, has m nodes
--   long_repaired         a desk that was filled keeps its length
--   Ways goes             what holds of each way that a closed round can go holds of the way that it goes
-- Assumes nothing.
use Prim.Native.Nat.{ℕ, zero, suc, ◌*◌, ◌≤◌, ◌<◌}
use mathlib.Core.Path.{◌≡◌, refl, sym, ap, ◌∙◌, subst}
use mathlib.Core.Bool.{Bool, true, false, cond}
use mathlib.Core.List.{List, [], ◌∷◌}
use native.Mathlib.Omega.{arith}
use borrow.Author.Tests.{leb-true, leb-false, eq-eqb}
use lib.Dec.{leb}
use lib.ListN.{length, take}
use lib.Seq.{length-take-le}
use Rattle.octets.specs.Bytes.{part}
use Rattle.octets.proofs.Meaning.{alike_is}
use Rattle.terms.specs.Terms.{plan_ok, record_length, slots_of, slot_at, thresholds_of, complete_at, incomplete_at, decided}
use Rattle.terms.specs.Stamp.{stamp_at}
use Rattle.terms.specs.declared.Plan.{Plan}
use Rattle.terms.specs.declared.Timestamp.{Timestamp}
use Rattle.terms.specs.declared.Verdict.{Verdict}
use Rattle.terms.specs.declared.Verdict.TheVariants.{Complete, Repair, Aborted, Incomplete}
use Rattle.terms.proofs.Facts.{facts}
use Rattle.terms.proofs.Places.{record_length_lem}
pub use Rattle.terms.proofs.Picks.{either as pick}
use Rattle.fragments.specs.Fragments.{All, Distinct, among}
use Rattle.fragments.proofs.Lists.{all_take}
use Rattle.fragments.proofs.Interp.{all_map}
use Rattle.rounds.specs.declared.Heard.{Heard}
use Rattle.rounds.specs.declared.Heard.TheVariants.{Unheard, First, Record}
use Rattle.std.proofs.Common.{Option, None, Some}
use Rattle.rounds.specs.Rounds.{mark_of, lead_of, joins_of, set_of, Closed, close_with}
use Rattle.rounds.proofs.Laws.{lead_room}
use Rattle.rounds.proofs.Closes.{candidate, rising_distinct, members_are, Headed, set_headed, decided_complete, decided_repair}
use Rattle.recover.proofs.Filled.{length_filled}
use Rattle.session.specs.declared.Session.{Session}
use Rattle.session.specs.Session.{ended_of, next_of, storing_of, still_open, done, never_written, aborted, rounds_spent}
use Rattle.recover.specs.Recover.{lowest, sound, decoded, repaired}
use Rattle.session.specs.Reader.{Outcome, outcome, failing, act_on, act_for, acted, closed}

headed_among : (a m : ℕ) (l : List ℕ) → 1 ≤ m → Headed a l → among a (take m l) ≡ true
unfolding among
headed_among a zero l h k = absurd (omega arith)
headed_among a (suc m) l h k = rw (k.is, eq-eqb a a refl)

-- ---- what the close is where node a leads it
module _ (p : Plan) (s : Session) (d : List ℕ) (a : ℕ) where
  pub record Led : Type 0 where
    pub leads : lead_of s.marks d (slots_of p) p.n ≡ Some a
    pub stamp_is : (closed p s d).stamp ≡ stamp_at d (slot_at (slots_of p) a)
    pub nodes_are : (closed p s d).nodes ≡ set_of s.marks d (slots_of p) a p.n
    pub verdict_is : (closed p s d).verdict
        ≡ decided p.member (complete_at p) (incomplete_at p) (length (set_of s.marks d (slots_of p) a p.n))

  abbrev close_by : Option ℕ → Closed
  close_by x = close_with s.marks d (slots_of p) p.member (thresholds_of p) x

  lead_is : (x : Option ℕ) → (close_by x).lead ≡ x
  unfolding close_with
  lead_is None = refl
  lead_is (Some b) = refl

  pub led : (closed p s d).lead ≡ Some a → Led
  unfolding close_with
  led e =
      let l : lead_of s.marks d (slots_of p) p.n ≡ Some a = sym (lead_is (lead_of s.marks d (slots_of p) p.n)) ∙ e in
      record {
        leads = l;
        stamp_is = ap (λ (x : Option ℕ). (close_by x).stamp) l;
        nodes_are = ap (λ (x : Option ℕ). (close_by x).nodes) l;
        verdict_is = ap (λ (x : Option ℕ). (close_by x).verdict) l;
      }

  -- ---- the m lowest-numbered of its set
  pub record Lowest (l : List ℕ) : Type 0 where
    pub few : length l ≡ p.m
    pub below : All (λ (q : ℕ). q < p.n) l
    pub distinct : Distinct l
    pub heads : All (λ (q : ℕ). part d (slot_at (slots_of p) q) (slots_of p).head ≡ part d (slot_at (slots_of p) a) (slots_of p).head) l
    pub leader : among a l ≡ true

  module _ (k : Led) where
    pub lead_low : a < p.n
    lead_low = lead_room s.marks d (slots_of p) p.n a (lead_of s.marks d (slots_of p) p.n) refl k.leads

    size_is : length (closed p s d).nodes ≡ length (set_of s.marks d (slots_of p) a p.n)
    size_is = ap length k.nodes_are

    pub sized : plan_ok p ≡ true → (closed p s d).verdict ≡ Repair → p.m ≤ length (closed p s d).nodes
    sized ok v =
        let g = decided_repair p.member (complete_at p) (incomplete_at p) (length (set_of s.marks d (slots_of p) a p.n)) (sym k.verdict_is ∙ v) in
        omega (arith, g.0, (facts p ok).low_decodes g.1, size_is)

    pub sized_whole : plan_ok p ≡ true → (closed p s d).verdict ≡ Complete → p.m ≤ length (closed p s d).nodes
    sized_whole ok v =
        let g = decided_complete p.member (complete_at p) (incomplete_at p) (length (set_of s.marks d (slots_of p) a p.n)) (sym k.verdict_is ∙ v) in
        omega (arith, g, (facts p ok).high_decodes, size_is)

    pub nodes_below : All (λ (q : ℕ). q < p.n) (closed p s d).nodes
    nodes_below = rw k.nodes_are (members_are s.marks d (slots_of p) a p.n).below

    -- every node of the set has the timestamp and the cross checksum of the lead
    pub heads_alike : All (λ (q : ℕ). part d (slot_at (slots_of p) q) (slots_of p).head ≡ part d (slot_at (slots_of p) a) (slots_of p).head) (closed p s d).nodes
    unfolding joins_of
    heads_alike =
        let all = members_are s.marks d (slots_of p) a p.n in
        rw k.nodes_are (all_map (λ q e. joined q (mark_of s.marks q) e) (set_of s.marks d (slots_of p) a p.n) all.joined)
      where
        joined : (q : ℕ) (m : Heard) → joins_of d (slots_of p) a q m ≡ true
            → part d (slot_at (slots_of p) q) (slots_of p).head ≡ part d (slot_at (slots_of p) a) (slots_of p).head
        joined q Record e = alike_is _ _ e
        joined q First e = let z : ◌≡◌ {A = ℕ} 0 1 = cc in absurd (omega arith)
        joined q Unheard e = let z : ◌≡◌ {A = ℕ} 0 1 = cc in absurd (omega arith)

    pub lowest_are : plan_ok p ≡ true → p.m ≤ length (closed p s d).nodes → Lowest (lowest p (closed p s d))
    lowest_are ok size =
        let l = set_of s.marks d (slots_of p) a p.n in
        let all = members_are s.marks d (slots_of p) a p.n in
        let best = candidate s.marks d (slots_of p) p.n a k.leads in
        let go : Lowest (take p.m l) =
        record {
          few = length-take-le p.m l (omega (arith, size_is));
          below = all_take (λ (q : ℕ). q < p.n) p.m l all.below;
          distinct = distinct_take p.m l (rising_distinct l all.rises);
          heads = all_take (λ (q : ℕ). part d (slot_at (slots_of p) q) (slots_of p).head ≡ part d (slot_at (slots_of p) a) (slots_of p).head) p.m l
              (rw k.nodes_are at heads_alike);
          leader = headed_among a p.m l (facts p ok).some_needed
              (set_headed s.marks d (slots_of p) a p.n (omega arith) best p.n lead_low);
        } in
        subst (λ (x : List ℕ). Lowest (take p.m x)) (sym k.nodes_are) go
      where
        distinct_take : (m : ℕ) (l : List ℕ) → Distinct l → Distinct (take m l)
        distinct_take zero l h = tt
        distinct_take (suc m) [] h = tt
        distinct_take (suc m) (x ∷ l) h = (all_take (λ (y : ℕ). x ≡ y → ⊥) m l h.0, distinct_take m l h.1)

    pub long_repaired : plan_ok p ≡ true → length d ≡ p.n * record_length p → p.m ≤ length (closed p s d).nodes
        → length (repaired p (closed p s d) a d) ≡ length d
    unfolding repaired
    long_repaired ok l size =
        let q = lowest_are ok size in
        length_filled d (slots_of p) (lowest p (closed p s d)) a p.n (record_length_lem p) (omega arith) q.below q.leader

-- ---- the ways that a closed round can go: four endings, with the desk as it is; the next round opens; a repair round opens
pub record Ways (P : Outcome → Type 0) (p : Plan) (s : Session) (c : Closed) (d i : List ℕ) : Type 0 where
  pub finds : (stamp : Timestamp) (item : List ℕ) → P (outcome (done stamp s.round.number) (ended_of s) d item)
  pub never : P (outcome (never_written s.round.number) (ended_of s) d i)
  pub aborts : P (outcome (aborted s.round.number) (ended_of s) d i)
  pub spends : p.w ≤ s.round.number → P (outcome (rounds_spent s.round.number) (ended_of s) d i)
  pub next : (a : ℕ) → c.lead ≡ Some a → s.round.number < p.w → P (outcome still_open (next_of s c.stamp) d i)
  pub repairs : (a : ℕ) → c.lead ≡ Some a → c.verdict ≡ Repair → P (outcome still_open (storing_of s c.stamp) (repaired p c a d) i)

module _ (P : Outcome → Type 0) (p : Plan) (s : Session) (c : Closed) (d i : List ℕ) (w : Ways P p s c d i) where
  fails : (a : ℕ) → c.lead ≡ Some a → P (failing p s c.stamp d i)
  unfolding failing
  fails a e = go (leb p.w s.round.number) refl
    where
      go : (t : Bool) → leb p.w s.round.number ≡ t → P (cond t (outcome (rounds_spent s.round.number) (ended_of s) d i) (outcome still_open (next_of s c.stamp) d i))
      go true f = w.spends (leb-true p.w s.round.number f)
      go false f = w.next a e (leb-false p.w s.round.number f)

  acts : (a : ℕ) → c.lead ≡ Some a → (v : Verdict) → c.verdict ≡ v → P (act_on v p s c a d i)
  unfolding act_on
  acts a e Complete f = pick P (sound p c a d) (w.finds c.stamp (decoded p c d i)) (fails a e)
  acts a e Repair f = pick P (sound p c a d) (w.repairs a e f) (fails a e)
  acts a e Aborted f = w.aborts
  acts a e Incomplete f = fails a e

  pub goes : P (acted p s c d i)
  unfolding act_for
  goes = by c.lead refl
    where
      by : (l : Option ℕ) → c.lead ≡ l → P (act_for l p s c d i)
      by None e = w.never
      by (Some a) e = acts a e c.verdict refl
