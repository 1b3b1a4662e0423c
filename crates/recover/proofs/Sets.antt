-- The set of a close: what a function that is lent one knows, and what it gives. Assumes nothing.
use mathlib.Core.Path.{◌≡◌, sym, ◌∙◌}
use mathlib.Core.Bool.{Bool, true}
use mathlib.Core.List.{List}
use Prim.Native.Nat.{ℕ, ◌+◌, ◌*◌, ◌≤◌, ◌<◌}
use native.Mathlib.Omega.{arith}
use lib.ListN.{length, get_or, take}
use lib.Seq.{length-take-le, take-take, get_or-take}
use Rattle.octets.proofs.Laws.{slot_room}
use Rattle.terms.specs.Terms.{plan_ok, record_length, slots_of, runs_of, slot_at}
use Rattle.terms.specs.declared.Plan.{Plan}
use Rattle.terms.specs.declared.Slots.{Slots}
use Rattle.terms.specs.declared.Clients.TheVariants.{Crash, Byzantine}
use Rattle.terms.proofs.Facts.{facts}
use Rattle.terms.proofs.Plans.{plan_is}
use Rattle.terms.proofs.Places.{record_length_lem}
use Rattle.fragments.specs.Fragments.{from, laid, Sources, Room}
use Rattle.rounds.specs.declared.Close.{Close}
use Rattle.rounds.specs.Rounds.{told}
use Rattle.recover.specs.Inside.{Usable}
use Rattle.recover.specs.Recover.{validates, refilled, lowest, sound, decoded, collected, repaired}

-- ---- a set that can be decoded
module _ (p : Plan) (c : Close) (a : ℕ) (d : List ℕ) (u : Usable p c a d) where
  abbrev qs : List ℕ
  qs = take p.m c.set.nodes

  pub m16 : p.m ≤ 16
  m16 = let f = facts p u.plan in let q = plan_is p u.plan in omega arith

  pub few : p.m ≡ length qs
  few = sym (length-take-le p.m c.set.nodes (omega (arith, m16, u.nodes)))

  pub few16 : length qs ≤ 16
  few16 = omega (arith, few, m16)

  pub sources : Sources d (slots_of p) qs
  sources k h =
      let hk : k < p.m = omega (arith, few) in
      let e : get_or qs k 0 ≡ get_or c.set.nodes k 0 = get_or-take p.m c.set.nodes k 0 hk in
      let r = slot_room (get_or c.set.nodes k 0) p.n (record_length p) (length d) (u.below k hk) (omega (arith, u.desk)) in
      rw e (omega (arith, r, record_length_lem p))

  pub head_room : slot_at (slots_of p) a + (slots_of p).head ≤ length d
  head_room = let r = slot_room a p.n (record_length p) (length d) u.lead (omega (arith, u.desk)) in omega (arith, r, record_length_lem p)

  lowest_is : lowest p (told c) ≡ qs
  lowest_is = take-take p.m c.set.size c.set.nodes u.size

  pub sound_crash : p.clients ≡ Crash → true ≡ sound p (told c) a d
  unfolding sound
  sound_crash e = rw e

  pub sound_told : (x : Bool) → p.clients ≡ Byzantine → x ≡ validates p d qs a → x ≡ sound p (told c) a d
  unfolding sound
  sound_told x e v = v ∙ rw (lowest_is, e)

  pub decoded_is : (slots : Slots) → slots ≡ slots_of p → (i x : List ℕ) → x ≡ laid d slots qs (runs_of p.m slots.fragment) p.m i → x ≡ decoded p (told c) d i
  unfolding decoded
  decoded_is slots es i x v = v ∙ rw (es, lowest_is)

  pub repaired_is : (slots : Slots) → slots ≡ slots_of p → (x : List ℕ) → x ≡ refilled d slots qs a slots.n → x ≡ repaired p (told c) a d
  unfolding repaired
  repaired_is slots es x v = v ∙ rw (es, lowest_is)

-- ---- the first m slots
pub first_slots : (p : Plan) (d : List ℕ) → plan_ok p ≡ true → length d ≡ p.n * record_length p → Room (slots_of p) p.m d
first_slots p d ok l k h =
    let f = facts p ok in
    let r = slot_room k p.n (record_length p) (length d) (omega arith) (omega arith) in
    omega (arith, r, record_length_lem p)

pub collected_is : (p : Plan) (slots : Slots) → slots ≡ slots_of p → (d i x : List ℕ)
    → x ≡ laid d slots (from 0 p.m) (runs_of p.m slots.fragment) p.m i → x ≡ collected p d i
unfolding collected
collected_is p slots es d i x v = v ∙ rw es
