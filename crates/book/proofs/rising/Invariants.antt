use Rattle.std.proofs.Common.{◌≡◌, ◌-◌}
use Rattle.book.specs.Records.{rising}
use Rattle.book.specs.Book.{records_in}
use Rattle.book.proofs.Turns.{left}
use Rattle.book.proofs.rising.Given as goal

abbrev pub invariant-loop-i : goal.invariant-loop-i
invariant-loop-i l = rising (records_in l.k l.book) ≡ rising (left l.book l.k.each l.k.head l.k.count (l.i - 1))
