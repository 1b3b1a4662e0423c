use Rattle.answers.proofs.Laws as laws
use Rattle.answers.specs.Answers.{ending_after}
use mathlib.Core.Path.{refl}
use Rattle.answers.proofs.put_told_ending.Goals as goal

pub returns-in-Open : goal.returns-in-Open
unfolding ending_after
returns-in-Open c = laws.ending_told _ _ _ _ c.in-Open.is refl

pub returns-in-Done : goal.returns-in-Done
unfolding ending_after
returns-in-Done c = laws.ending_told _ _ _ _ c.in-Done.is c.write_ending.ensures

pub returns-in-NeverWritten : goal.returns-in-NeverWritten
unfolding ending_after
returns-in-NeverWritten c = laws.ending_told _ _ _ _ c.in-NeverWritten.is (laws.no_stamp _ _ _ c.zero_stamp-none.ensures c.write_ending-in-NeverWritten.ensures)

pub returns-in-Aborted : goal.returns-in-Aborted
unfolding ending_after
returns-in-Aborted c = laws.ending_told _ _ _ _ c.in-Aborted.is (laws.no_stamp _ _ _ c.zero_stamp-none.ensures c.write_ending-in-Aborted.ensures)

pub returns-in-RoundsSpent : goal.returns-in-RoundsSpent
unfolding ending_after
returns-in-RoundsSpent c = laws.ending_told _ _ _ _ c.in-RoundsSpent.is (laws.no_stamp _ _ _ c.zero_stamp-none.ensures c.write_ending-in-RoundsSpent.ensures)

pub returns-in-ClockSpent : goal.returns-in-ClockSpent
unfolding ending_after
returns-in-ClockSpent c = laws.ending_told _ _ _ _ c.in-ClockSpent.is (laws.no_stamp _ _ _ c.zero_stamp-none.ensures c.write_ending-in-ClockSpent.ensures)
