use lib.Dec.{lit<}
use native.Mathlib.Omega.{arith}
use Rattle.lanes.proofs.Windows.{rolling_start, rolling_next, rolled}
use Rattle.lanes.proofs.roll_lane.Goals as goal

pub returns : goal.returns
returns c = let l = c.args.l in
    let q = c.requires in
    let r0 = rolling_start l _ (omega arith) in
    let r1 = rolling_next l 0 _ _ _ q (lit< tt) r0 c.lane_step.ensures in
    let r2 = rolling_next l 1 _ _ _ q (lit< tt) r1 c.lane_step-2.ensures in
    let r3 = rolling_next l 2 _ _ _ q (lit< tt) r2 c.lane_step-3.ensures in
    let r4 = rolling_next l 3 _ _ _ q (lit< tt) r3 c.lane_step-4.ensures in
    let r5 = rolling_next l 4 _ _ _ q (lit< tt) r4 c.lane_step-5.ensures in
    let r6 = rolling_next l 5 _ _ _ q (lit< tt) r5 c.lane_step-6.ensures in
    let r7 = rolling_next l 6 _ _ _ q (lit< tt) r6 c.lane_step-7.ensures in
    let r8 = rolling_next l 7 _ _ _ q (lit< tt) r7 c.lane_step-8.ensures in
    let r9 = rolling_next l 8 _ _ _ q (lit< tt) r8 c.lane_step-9.ensures in
    let r10 = rolling_next l 9 _ _ _ q (lit< tt) r9 c.lane_step-10.ensures in
    let r11 = rolling_next l 10 _ _ _ q (lit< tt) r10 c.lane_step-11.ensures in
    let r12 = rolling_next l 11 _ _ _ q (lit< tt) r11 c.lane_step-12.ensures in
    let r13 = rolling_next l 12 _ _ _ q (lit< tt) r12 c.lane_step-13.ensures in
    let r14 = rolling_next l 13 _ _ _ q (lit< tt) r13 c.lane_step-14.ensures in
    let r15 = rolling_next l 14 _ _ _ q (lit< tt) r14 c.lane_step-15.ensures in
    rolled l _ _ (rolling_next l 15 _ _ _ q (lit< tt) r15 c.lane_step-16.ensures)
