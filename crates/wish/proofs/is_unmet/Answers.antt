use native.Mathlib.Omega.{arith}
use Rattle.wish.proofs.Laws as laws
use Rattle.wish.proofs.Turns as turns
use Rattle.wish.proofs.is_unmet.Goals as goal

pub returns-then-w-gt16 : goal.returns-then-w-gt16
returns-then-w-gt16 c = laws.unmet_if c.args.w (λ h. let t = h.t_small in let m = h.m_small in omega (arith, c.then-w-gt16.either))

pub returns : goal.returns
returns c = turns.unmet_nodes c.args.w _ c.nodes_for.ensures c.requires
