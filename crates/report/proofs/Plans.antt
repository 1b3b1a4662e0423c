-- Table 2 and equations (2) and (3): a plan is accepted exactly when it is within document 01's ranges and Table 2 holds of it
-- (accepted_is, accepted_back), and the two thresholds are the report's (equation_2, equation_3). Assumes nothing.
use Prim.Native.Nat.{ℕ, ◌≤◌, ◌<◌}
use mathlib.Core.Path.{◌≡◌}
use mathlib.Core.Bool.{true}
use native.Mathlib.Omega.{arith}
use Rattle.terms.specs.Terms.{plan_ok, complete_at, incomplete_at}
use Rattle.terms.specs.declared.Plan.{Plan}
use Rattle.terms.specs.declared.Member.{Member}
use Rattle.terms.specs.declared.Member.TheVariants.{Repairable, NonRepair}
use Rattle.terms.proofs.Plans.{Column, plan_is, plan_back}
use Rattle.terms.proofs.Facts.{facts}
use Rattle.report.specs.Table2.{Table2, SurelyComplete, SurelyIncomplete, Ranges, Table2Of}

table : (k : Member) (n t b q m : ℕ) → Column k n t b q m → Table2 k n t b q m
table Repairable n t b q m c =
    record { row_N = omega arith; row_Q_low = omega arith; row_Q_high = omega arith; row_m_low = omega arith; row_m_high = omega arith }
table NonRepair n t b q m c =
    record { row_N = omega arith; row_Q_low = omega arith; row_Q_high = omega arith; row_m_low = omega arith; row_m_high = omega arith }

column : (k : Member) (n t b q m : ℕ) → Table2 k n t b q m → Column k n t b q m
column Repairable n t b q m c = (omega arith, omega arith, omega arith, omega arith)
column NonRepair n t b q m c = (omega arith, omega arith, omega arith, omega arith)

-- AN ACCEPTED PLAN IS WITHIN ITS RANGES, AND TABLE 2 HOLDS OF IT
pub accepted_is : (p : Plan) → plan_ok p ≡ true → Ranges p × Table2Of p
accepted_is p e =
    let q = plan_is p e in (
      record { n_low = q.n_low; n_high = q.n_high; b_t = q.b_t; f_low = q.f_low; f_high = q.f_high; w_low = q.w_low; w_high = q.w_high },
      table p.member p.n p.t p.b p.q p.m q.column,
    )

-- AND EVERY SUCH PLAN IS ACCEPTED
pub accepted_back : (p : Plan) → Ranges p → Table2Of p → plan_ok p ≡ true
accepted_back p r c =
    plan_back p
    (record {
      n_low = r.n_low;
      n_high = r.n_high;
      b_t = r.b_t;
      f_low = r.f_low;
      f_high = r.f_high;
      w_low = r.w_low;
      w_high = r.w_high;
      column = column p.member p.n p.t p.b p.q p.m c;
    })

-- EQUATION (2): a candidate set of COMPLETE or more has |CandidateSet| - b ≥ Q, and no other has
pub equation_2 : (p : Plan) → plan_ok p ≡ true → (size : ℕ)
    → (complete_at p ≤ size → SurelyComplete p.q p.b size) × (SurelyComplete p.q p.b size → complete_at p ≤ size)
equation_2 p e size = let f = facts p e in ((λ h. omega arith), (λ h. omega arith))

-- EQUATION (3): one below INCOMPLETE has |CandidateSet| + t < Q, and no other has
pub equation_3 : (p : Plan) → plan_ok p ≡ true → (size : ℕ)
    → (size < incomplete_at p → SurelyIncomplete p.q p.t size) × (SurelyIncomplete p.q p.t size → size < incomplete_at p)
equation_3 p e size = let f = facts p e in ((λ h. omega arith), (λ h. omega arith))
