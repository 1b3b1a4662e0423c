use Rattle.std.proofs.Common.{arith}
use Rattle.octets.proofs.Laws.{slot_room}
use Rattle.rounds.specs.Rounds.{slot_stamp}
use Rattle.rounds.proofs.Laws as laws
use Rattle.rounds.proofs.Desk.ahead.Goals as goal

pub overflow_mul-b : goal.overflow_mul-b
overflow_mul-b c = let h = slot_room c.in-Some.b _ _ _ (laws.lead_told _ _ _ c.in-Some.is c.requires.1) c.args.self.now.holds in omega (arith, h, c.well_formed)

pub less-requires : goal.less-requires
less-requires c =
    let h = slot_room c.in-Some.b _ _ _ (laws.lead_told _ _ _ c.in-Some.is c.requires.1) c.args.self.now.holds in
    let k = slot_room c.args.i _ _ _ c.requires.0 c.args.self.now.holds in
    (omega (arith, h, c.args.self.now.stamped), omega (arith, k, c.args.self.now.stamped))

pub returns-in-Some : goal.returns-in-Some
unfolding slot_stamp
returns-in-Some c = laws.ahead_no _ _ _ c.in-Some.b _ c.in-Some.is _ c.less.ensures c.if-not-less.true

pub returns-in_default : goal.returns-in_default
unfolding slot_stamp
returns-in_default c = laws.ahead_yes _ _ _ c.in-Some.b _ c.in-Some.is _ c.less.ensures c.if-not-less.false

pub returns-in_default-2 : goal.returns-in_default-2
returns-in_default-2 c = laws.ahead_first _ _ _ _ c.in_default.is
