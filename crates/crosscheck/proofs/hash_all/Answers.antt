use Prim.Native.Nat.{◌-◌, ◌+◌, ◌/◌}
use mathlib.Core.Path.{◌≡◌, refl}
use native.Mathlib.Omega.{arith}
use Rattle.crosscheck.proofs.Stretches.{fits_last, taken_none, taken_more, all_taken}
use Rattle.crosscheck.proofs.hash_all.Goals as goal

pub whole_stretches-from-requires : goal.whole_stretches-from-requires
whole_stretches-from-requires c = let x = c.prefixes-x in
    (x.ensures.0, taken_none x.result.bytes c.args.g x.result.size (omega arith) _ _ c.start.ensures)

pub returns : goal.returns
returns c = let a = c.args in
    let r = c.whole_stretches-from.ensures in
    let i = c.whole_stretches-from.result in
    let x = c.prefixes-x in
    let z = x.result.size in
    let all = z + a.g.slots.fragment in
    let k : (all + 72) / 64 ≡ i / 64 + (all - i + 72) / 64 = omega (arith, r.0.whole, r.0.some) in
    all_taken x.result.bytes a.g z (omega arith) a.p ((all + 72) / 64) _ x.ensures.0 a.g.hashable.below refl x.ensures.1
    (taken_more x.result.bytes a.g z (omega arith) _ ((all + 72) / 64) _ _ (fits_last a.g z x.ensures.0 i (all - i) r.0 refl) refl k (λ q. omega (arith, r.0.some)) r.1 c.take_in.ensures)
