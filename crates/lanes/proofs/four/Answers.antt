use Rattle.lanes.proofs.Windows.{rounds_first, rounds_next}
use Rattle.lanes.proofs.four.Goals as goal

pub returns : goal.returns
returns c = let a = c.args in
    let w = a.w.now in
    let r1 = rounds_first w a.l a.t a.s _ c.lane_round-s1.ensures in
    let r2 = rounds_next w a.l a.t 1 a.s _ _ r1 c.lane_round-s2.ensures in
    let r3 = rounds_next w a.l a.t 2 a.s _ _ r2 c.lane_round-s3.ensures in
    rounds_next w a.l a.t 3 a.s _ _ r3 c.lane_round.ensures
