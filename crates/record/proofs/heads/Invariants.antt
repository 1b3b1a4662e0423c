use mathlib.Core.Path.{◌≡◌}
use mathlib.Core.List.{[], ◌++◌}
use lib.ListN.{drop}
use Rattle.octets.specs.Bytes.{part}
use Rattle.terms.specs.Terms.{slot_at}
use Rattle.record.specs.Desk.{desk_of}
use Rattle.record.proofs.Desks as laws
use Rattle.record.proofs.heads.Given as goal

abbrev pub invariant-loop-k : goal.invariant-loop-k
invariant-loop-k l = (part l.desk (slot_at l.slots l.a) l.slots.head ≡ part l.initial.desk (slot_at l.slots l.a) l.slots.head)
    × (l.desk ≡ desk_of (part l.initial.desk (slot_at l.slots l.a) l.slots.head) [] (laws.rest_of l.initial.desk l.slots) l.k ++ drop (slot_at l.slots l.k) l.initial.desk)
