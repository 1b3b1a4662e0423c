use mathlib.Core.Path.{◌≡◌, sym, ◌∙◌}
use Prim.Native.Nat.{◌+◌, ◌-◌}
use native.Mathlib.Omega.{arith}
use Rattle.terms.specs.Terms.{fragment_at}
use Rattle.fragments.specs.Inside.{points_of}
use Rattle.fragments.proofs.Laws.{laid_more, laid_none, part_length}
use Rattle.fragments.proofs.lay.Goals as goal

pub loop-k-init : goal.loop-k-init
loop-k-init c = laid_none _ _ _ _ _

pub loop-k-preserved : goal.loop-k-preserved
loop-k-preserved c = let a = c.args in
    let l = c.loop-k in
    let at = fragment_at a.to l.k in
    laid_more a.src.now a.s (points_of a.b) a.to l.k (at + a.to.fragment - at) a.out.now l.out _ c.requires.0 c.requires.1 (omega (arith, c.requires.3 l.k (omega arith))) l.invariant c.regenerate.ensures
