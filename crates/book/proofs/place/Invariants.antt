use Rattle.std.proofs.Common.{◌≡◌, ◌+◌}
use Rattle.octets.specs.Bytes.{part, num}
use Rattle.book.specs.Records.{below}
use Rattle.book.specs.Book.{records_in}
use Rattle.book.proofs.Turns.{left}
use Rattle.book.proofs.place.Given as goal

abbrev pub invariant-loop-i : goal.invariant-loop-i
invariant-loop-i l =
    below (num (part l.src l.s 40)) (records_in l.k l.book) ≡ l.i + below (num (part l.src l.s 40)) (left l.book l.k.each l.k.head l.k.count l.i)
