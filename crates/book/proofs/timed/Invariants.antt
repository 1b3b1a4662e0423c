use Rattle.std.proofs.Common.{◌≡◌}
use Rattle.book.specs.Records.{timed}
use Rattle.book.specs.Book.{records_in}
use Rattle.book.proofs.Turns.{left}
use Rattle.book.proofs.timed.Given as goal

abbrev pub invariant-loop-i : goal.invariant-loop-i
invariant-loop-i l = timed (records_in l.k l.book) ≡ timed (left l.book l.k.each l.k.head l.k.count l.i)
