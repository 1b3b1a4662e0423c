-- The lines so far and the values that they gave, and what the lines that are left make of them.
use Rattle.std.proofs.Common.{◌≡◌, ◌+◌, ◌≤◌, length, take}
use Rattle.plan_text.specs.Lines.{lines_of, read_lines, plan_text}
use Rattle.plan_text.proofs.read_plan.Given as goal

abbrev pub invariant-loop-rest : goal.invariant-loop-rest
invariant-loop-rest l = record {
  nine : length l.values ≡ 9;
  at_most_nine : l.k ≤ 9;
  counted : l.lines + length l.rest ≤ length l.s;
  left : read_lines l.lines (take l.k l.values) (lines_of l.rest) ≡ plan_text l.s;
}

abbrev pub decreases-loop-rest : goal.decreases-loop-rest
decreases-loop-rest l = length l.rest
