use Rattle.runs.proofs.Runs as laws
use Rattle.runs.proofs.room_for.Goals as goal

pub returns-then-most-frames : goal.returns-then-most-frames
returns-then-most-frames c = laws.room_none _ _ _ _ _ c.longest.ensures.0 c.if-most-frames.true

pub returns : goal.returns
returns c = laws.room_last _ _ _ _ _ c.longest.ensures.0 c.if-most-frames.false
