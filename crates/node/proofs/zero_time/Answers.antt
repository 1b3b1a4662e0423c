use mathlib.Core.Path.{◌∙◌}
use native.Mathlib.Omega.{arith}
use mathlib.Core.Logic.{inl, inr}
use mathlib.Core.Path.{ap}
use Prim.Native.Nat.{ℕ}
use lib.ListN.{drop}
use Rattle.record.specs.Record.{time_zero}
use Rattle.node.proofs.Laws as laws
use Rattle.node.proofs.zero_time.Goals as goal

pub time_zero-requires : goal.time_zero-requires
time_zero-requires c = let l = laws.stamped _ _ _ c.requires c.args.p.within c.in-3.is in
    omega (arith, c.head_bytes-at.ensures)

pub returns-in-3 : goal.returns-in-3
returns-in-3 c = laws.zero_yes _ _ _ c.in-3.is (c.time_zero.ensures ∙ ap (λ (x : ℕ). time_zero (drop x c.args.request.now)) c.head_bytes-at.ensures)

pub returns-in_default : goal.returns-in_default
returns-in_default c = let none = c.in_default.in_default-own.rest.1 in
    laws.zero_no _ _ (λ e. none (inl e)) (λ e. none (inr e))
