use native.Mathlib.Omega.{arith}
use Rattle.node.proofs.Laws as laws
use Rattle.node.proofs.by_kind.Goals as goal

pub tell_time-requires : goal.tell_time-requires
tell_time-requires c = let r = (laws.room_for _ _ _ _ _ c.requires).1 in
    (laws.holds_in _ _ _ _ _ c.requires, omega arith)

pub returns-then-kind-eq-TIME_REQUEST : goal.returns-then-kind-eq-TIME_REQUEST
returns-then-kind-eq-TIME_REQUEST c = laws.tells _ _ _ _ _ _ c.requires.book _ _ c.if-kind-eq-TIME_REQUEST.true c.tell_time.ensures

pub latest-requires : goal.latest-requires
latest-requires c = (laws.holds_in _ _ _ _ _ c.requires, (laws.room_for _ _ _ _ _ c.requires).0)

pub returns-then-kind-eq-READ_LATEST : goal.returns-then-kind-eq-READ_LATEST
returns-then-kind-eq-READ_LATEST c = laws.reads_last _ _ _ _ _ _ c.requires.book _ _ c.if-kind-eq-READ_LATEST.true c.latest.ensures

pub previous-requires : goal.previous-requires
previous-requires c = let l = laws.bound_length _ _ _ c.requires.request (laws.last_kind _ _ _ c.requires.request c.if-kind-eq-WRITE_REQUEST.false c.if-kind-eq-TIME_REQUEST.false c.if-kind-eq-READ_LATEST.false) in
    (laws.holds_in _ _ _ _ _ c.requires, (laws.room_for _ _ _ _ _ c.requires).0, omega arith)

pub returns : goal.returns
returns c = laws.reads_below _ _ _ _ _ _ c.requires.book _ _ (laws.last_kind _ _ _ c.requires.request c.if-kind-eq-WRITE_REQUEST.false c.if-kind-eq-TIME_REQUEST.false c.if-kind-eq-READ_LATEST.false) c.previous.ensures
