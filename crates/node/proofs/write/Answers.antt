use mathlib.Core.Path.{sym, ◌∙◌}
use native.Mathlib.Omega.{arith}
use Rattle.node.proofs.Laws as laws
use Rattle.node.proofs.write.Goals as goal

pub fate_of-fate-requires : goal.fate_of-fate-requires
fate_of-fate-requires c = (laws.holds_in _ _ _ _ _ c.requires.0, laws.inside _ _ _ _ _ c.requires.0 c.requires.1 _ c.head_bytes-at.ensures)

pub acknowledge-requires : goal.acknowledge-requires
acknowledge-requires c = (laws.stamp_fits _ _ _ _ _ c.requires.0 c.requires.1, (laws.room_for _ _ _ _ _ c.requires.0).1)

pub room-requires : goal.room-requires
room-requires c = let q = (laws.holds_in _ _ _ _ _ c.requires.0).inside in
    omega arith

pub returns-then-not-room : goal.returns-then-not-room
returns-then-not-room c = laws.write_full _ _ _ _ _ c.requires.1 _ (laws.fate_as _ _ _ _ _ c.requires.0 c.requires.1 _ _ c.head_bytes-at.ensures (sym c.in-Free.is ∙ c.fate_of-fate.ensures))
    (laws.room_as _ _ _ _ _ c.requires.0 c.requires.1 _ _ c.room.ensures c.if-not-room.true)

pub insert-requires : goal.insert-requires
insert-requires c = laws.placed _ _ _ _ _ c.requires.0 c.requires.1 _ _ c.head_bytes-at.ensures (sym c.in-Free.is ∙ c.fate_of-fate.ensures)
    (sym c.room.ensures ∙ c.if-not-room.false)

pub acknowledge-requires-in-Free : goal.acknowledge-requires-in-Free
acknowledge-requires-in-Free c = (laws.stamp_fits _ _ _ _ _ c.requires.0 c.requires.1, (laws.room_for _ _ _ _ _ c.requires.0).1)

pub returns-in-Held : goal.returns-in-Held
returns-in-Held c = laws.write_held _ _ _ _ _ c.requires.1 _ _ (laws.rises _ _ _ _ _ c.requires.0) (laws.fate_as _ _ _ _ _ c.requires.0 c.requires.1 _ _ c.head_bytes-at.ensures (sym c.in-Held.is ∙ c.fate_of-fate.ensures)) c.acknowledge.ensures

pub returns-in-Other : goal.returns-in-Other
returns-in-Other c = laws.write_other _ _ _ _ _ c.requires.1 (laws.fate_as _ _ _ _ _ c.requires.0 c.requires.1 _ _ c.head_bytes-at.ensures (sym c.in-Other.is ∙ c.fate_of-fate.ensures))

pub returns-else-not-room : goal.returns-else-not-room
returns-else-not-room c = laws.write_new _ _ _ _ _ c.requires.1 _ _ _ _ (laws.fate_as _ _ _ _ _ c.requires.0 c.requires.1 _ _ c.head_bytes-at.ensures (sym c.in-Free.is ∙ c.fate_of-fate.ensures))
    (laws.room_as _ _ _ _ _ c.requires.0 c.requires.1 _ _ c.room.ensures c.if-not-room.false)
    (laws.grown_as _ _ _ _ _ c.requires.0 c.requires.1 _ _ c.head_bytes-at.ensures c.insert.ensures) c.acknowledge-in-Free.ensures
