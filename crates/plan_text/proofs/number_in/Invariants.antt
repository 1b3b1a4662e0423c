-- The number so far, and what the bytes that are left make of it.
use Rattle.std.proofs.Common.{◌≡◌, drop}
use Rattle.plan_text.specs.Text.{numeral_from, numeral_of}
use Rattle.plan_text.proofs.number_in.Given as goal

abbrev pub invariant-loop-d : goal.invariant-loop-d
invariant-loop-d l = numeral_of l.s ≡ numeral_from l.x (drop l.d-index l.s)
