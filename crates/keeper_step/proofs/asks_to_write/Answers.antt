-- The search goes from frame to frame: its start, a turn, its two ends.
use Rattle.keeper_step.proofs.Laws as laws
use Rattle.keeper_step.proofs.asks_to_write.Goals as goal

pub loop-at-init : goal.loop-at-init
loop-at-init c = laws.seek_start _ _ c.ends-end.ensures

pub slice_bounds-is_write-end : goal.slice_bounds-is_write-end
slice_bounds-is_write-end c = laws.seek_within c.loop-at.invariant c.loop-at-test.true

pub is_write-requires : goal.is_write-requires
is_write-requires c = laws.seek_head c.loop-at.invariant c.loop-at-test.true

pub returns-then-is_write : goal.returns-then-is_write
returns-then-is_write c = laws.seek_found c.loop-at.invariant c.loop-at-test.true c.is_write.ensures c.if-is_write.true

pub loop-at-preserved : goal.loop-at-preserved
loop-at-preserved c = laws.seek_turn c.loop-at.invariant c.loop-at-test.true c.is_write.ensures c.if-is_write.false c.ends-end-in-loop-at.ensures

pub returns : goal.returns
returns c = laws.seek_done c.loop-at.invariant c.loop-at-test.false
