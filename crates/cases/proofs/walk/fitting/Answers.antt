-- A plan has 16 nodes at most, and its records 1,576 bytes at most.
use Rattle.std.proofs.Common.{◌≤◌, ◌*◌, ℕ, sym, ◌∙◌, mul-le-mul_right, arith}
use Rattle.terms.proofs.Plans.{plan_is}
use Rattle.cases.proofs.walk.fitting.Goals as goal

desk_small : (n r : ℕ) → n ≤ 16 → r ≤ 1576 → n * r ≤ 25216
desk_small n r h k = let l = mul-le-mul_right r h in omega arith

pub overflow_mul-p : goal.overflow_mul-p
overflow_mul-p c =
    let ok = sym c.plan_ok.ensures ∙ c.if-not-plan_ok.false in
    let l = desk_small c.args.p.n c.record_length.result (plan_is c.args.p ok).n_high c.record_length.ensures.1 in
    omega arith
