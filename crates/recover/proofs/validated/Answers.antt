use mathlib.Core.Path.{sym}
use Rattle.terms.proofs.Plans.{plan_is}
use Rattle.recover.proofs.Laws.{scratch_length}
use borrow.Author.Rules.{rules}
use Rattle.recover.proofs.validated.Goals as goal

pub slice_bounds-scratch-end : goal.slice_bounds-scratch-end
slice_bounds-scratch-end c = let q = plan_is _ c.args.p.within in search rules

pub slice_bounds-valid-end : goal.slice_bounds-valid-end
slice_bounds-valid-end c = sym (scratch_length c.args.p.plan.f (plan_is _ c.args.p.within).f_high)

pub valid-requires : goal.valid-requires
valid-requires c = let b = c.basis_of-b.ensures in
    (rw b c.requires.0, scratch_length c.args.p.plan.f (plan_is _ c.args.p.within).f_high, c.requires.1)
