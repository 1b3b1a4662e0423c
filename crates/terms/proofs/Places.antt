-- What the slots of an accepted plan are. Assumes nothing.
use mathlib.Core.Path.{◌≡◌, refl}
use mathlib.Core.Bool.{true}
use Prim.Native.Nat.{ℕ, ◌+◌, ◌*◌, ◌≤◌, ◌<◌}
use native.Mathlib.Omega.{arith}
use Rattle.octets.proofs.Laws.{slot_room}
use Rattle.terms.specs.Terms.{plan_ok, record_length, slots_of, fragment_at}
use Rattle.terms.specs.declared.Plan.{Plan}
use Rattle.terms.specs.declared.Slots.{Slots}
use Rattle.terms.proofs.Plans.{plan_is}

-- a slot is its head and its fragment
pub record_length_lem : (p : Plan) → record_length p ≡ (slots_of p).head + p.f
unfolding record_length
record_length_lem p = refl

-- the numbers of slots that a plan gave, and their bounds
pub record SlotsAre (p : Plan) (s : Slots) : Type 0 where
  pub n_is : s.n ≡ p.n
  pub head_is : s.head ≡ (slots_of p).head
  pub fragment_is : s.fragment ≡ p.f
  pub size_is : s.size ≡ record_length p
  pub whole : s.size ≡ s.head + s.fragment
  pub n_low : 1 ≤ p.n
  pub n_high : p.n ≤ 16
  pub f_low : 1 ≤ p.f
  pub f_high : p.f ≤ 1024

pub slots_are : (p : Plan) (s : Slots) → plan_ok p ≡ true → s ≡ slots_of p → SlotsAre p s
slots_are p s k e =
    let q = plan_is p k in
    rw e (record {
      n_is = refl;
      head_is = refl;
      fragment_is = refl;
      size_is = refl;
      whole = record_length_lem p;
      n_low = q.n_low;
      n_high = q.n_high;
      f_low = q.f_low;
      f_high = q.f_high;
    })

-- every slot of a buffer, and its fragment, lies within it
pub fragment_fits : (s : Slots) (k l : ℕ) → s.size ≡ s.head + s.fragment → s.n * s.size ≤ l → k < s.n → fragment_at s k + s.fragment ≤ l
fragment_fits s k l e h i = omega (arith, slot_room k s.n s.size l i h)
