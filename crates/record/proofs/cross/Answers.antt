use mathlib.Core.Path.{◌∙◌, ap}
use Prim.Native.Nat.{ℕ}
use native.Mathlib.Omega.{arith}
use Rattle.octets.specs.Bytes.{put}
use Rattle.terms.proofs.Places.{slots_are}
use Rattle.record.specs.Desk.{fragment_in, cross_made}
use Rattle.record.proofs.Desks as laws
use Rattle.record.proofs.cross.Goals as goal

pub invariant_of-all : goal.invariant_of-all
invariant_of-all c = let x = c.prefixes-x in
    let s = c.slots_of-slots in
    let a = c.args in
    let q = slots_are _ _ c.args.p.within s.ensures in
    record { lying = laws.fragments_lie a.p.plan x.result.bytes a.desk.now x.result.size s.result c.args.p.within c.requires.0 s.ensures (omega arith) x.ensures.0; short = omega arith }

pub returns : goal.returns
returns c = let a = c.args in
    let s = c.slots_of-slots in
    let q = slots_are _ _ c.args.p.within s.ensures in
    c.digests.ensures
    ∙ laws.crossed a.p.plan c.prefixes-x.result.bytes a.desk.now c.prefixes-x.result.size s.result s.ensures c.prefixes-x.ensures.1 a.out.now a.at s.result.n
    (omega (arith, q.n_is, q.n_high)) (omega (arith, c.requires.1))
    ∙ ap (λ (n : ℕ). put a.out.now a.at (cross_made a.p.plan (fragment_in a.p.plan a.desk.now) n)) q.n_is
