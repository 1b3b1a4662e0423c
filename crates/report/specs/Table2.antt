-- Table 2 of CMU-PDL-03-105, protocol family constraint summary, and equations (2) and (3) of section 5.2. Numbers are naturals: x ≤ N - y is
-- meant for y below N, which the row of N gives. Assumes nothing.
use Rattle.std.specs.Prelude.{ℕ, ◌+◌, ◌-◌, ◌*◌, ◌≤◌, ◌<◌}
use Rattle.terms.specs.declared.Plan.{Plan}
use Rattle.terms.specs.declared.Member.{Member}
use Rattle.terms.specs.declared.Member.TheVariants.{Repairable, NonRepair}

pub record RepairableColumn (N t b Q m : ℕ) : Type 0 where
  pub row_N : 2 * t + 2 * b + 1 ≤ N
  pub row_Q_low : t + b + 1 ≤ Q
  pub row_Q_high : Q ≤ N - t - b
  pub row_m_low : 1 ≤ m
  pub row_m_high : m ≤ Q - t

pub record NonRepairColumn (N t b Q m : ℕ) : Type 0 where
  pub row_N : 3 * t + 3 * b + 1 ≤ N
  pub row_Q_low : t + b + 1 ≤ Q
  pub row_Q_high : Q ≤ N - 2 * t - 2 * b
  pub row_m_low : 1 ≤ m
  pub row_m_high : m ≤ Q + b

abbrev pub Table2 : Member → (N t b Q m : ℕ) → Type 0
Table2 Repairable N t b Q m = RepairableColumn N t b Q m
Table2 NonRepair N t b Q m = NonRepairColumn N t b Q m

-- (2): |CandidateSet| - b ≥ Q, so COMPLETE = Q + b
abbrev pub SurelyComplete : (Q b size : ℕ) → Type 0
SurelyComplete Q b size = Q ≤ size - b

-- (3): |CandidateSet| + t < Q, so INCOMPLETE = Q - t
abbrev pub SurelyIncomplete : (Q t size : ℕ) → Type 0
SurelyIncomplete Q t size = size + t < Q

-- what document 01 adds to the table: N up to 16, b ≤ t, and the ranges of F and W
pub record Ranges (p : Plan) : Type 0 where
  pub n_low : 1 ≤ p.n
  pub n_high : p.n ≤ 16
  pub b_t : p.b ≤ p.t
  pub f_low : 1 ≤ p.f
  pub f_high : p.f ≤ 1024
  pub w_low : 1 ≤ p.w
  pub w_high : p.w ≤ 65535

abbrev pub Table2Of : Plan → Type 0
Table2Of p = Table2 p.member p.n p.t p.b p.q p.m
