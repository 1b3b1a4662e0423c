use Prim.Native.Nat.{◌*◌, ◌≤◌, ◌<◌}
use mathlib.Core.List.{[]}
use lib.ListN.{length}
use native.Mathlib.Omega.{arith}
use Rattle.octets.specs.Bytes.{part}
use Rattle.octets.proofs.Laws.{slot_fits}
use Rattle.terms.specs.Terms.{record_length}
use Rattle.terms.proofs.Plans.{plan_is}
use Rattle.frame.specs.Frame.{write_request_kind, time_request_kind, header_of, longest}
use Rattle.frame.proofs.Built as built
use Rattle.standing.proofs.Rules as rules
use Rattle.standing.proofs.Requests.{the_same, sent}
use Rattle.session.specs.Owed.{owed_ladder}
use Rattle.session.proofs.Known.{Known, known_owed}
use Rattle.session.proofs.Oweds as laws
use Rattle.session.proofs.Rules as here
use Rattle.session.proofs.Session.write_request.Goals as goal

pub asked-ask-requires : goal.asked-ask-requires
asked-ask-requires c =
    let known : let a = c.args in Known (owed_ladder a.p.plan a.self a.node a.desk.now (length a.request.now)) a.p.plan a.self a.desk.now = let a = c.args in known_owed a.p.plan a.self a.node a.desk.now (length a.request.now) c.requires in
    let o = known in (o.stands.low, here.ask_high _ _ o.stands)

pub overflow_mul-node : goal.overflow_mul-node
overflow_mul-node c =
    let known : let a = c.args in Known (owed_ladder a.p.plan a.self a.node a.desk.now (length a.request.now)) a.p.plan a.self a.desk.now = let a = c.args in known_owed a.p.plan a.self a.node a.desk.now (length a.request.now) c.requires in
    let node_low : c.args.node < c.args.p.plan.n = let a = c.args in laws.node_low a.p.plan a.self a.node a.desk.now (length a.request.now) (known) in
    let q = plan_is _ (known).plan_is_ok in
    let n = node_low in
    omega (arith, rules.product_low c.args.node c.record_length-r.result 16 1576 (omega arith) c.record_length-r.ensures.1)

pub with_part-requires : goal.with_part-requires
with_part-requires c =
    let known : let a = c.args in Known (owed_ladder a.p.plan a.self a.node a.desk.now (length a.request.now)) a.p.plan a.self a.desk.now = let a = c.args in known_owed a.p.plan a.self a.node a.desk.now (length a.request.now) c.requires in
    let room : longest 1 c.args.p.plan ≤ length c.args.request.now = let a = c.args in laws.request_low a.p.plan a.self a.node a.desk.now (length a.request.now) (known) in
    let node_low : c.args.node < c.args.p.plan.n = let a = c.args in laws.node_low a.p.plan a.self a.node a.desk.now (length a.request.now) (known) in
    let e = c.record_length-r.ensures.0 in
    (omega (arith, room), rw e (omega (arith, slot_fits c.args.node c.args.p.plan.n (record_length c.args.p.plan) (node_low), (known).desk_is)))

pub returns-then-storing : goal.returns-then-storing
returns-then-storing c = let wrote = built.wrote_of c.asking-h.ensures c.with_part.ensures in
    let a = c.args in
    let r = c.record_length-r.result in
    sent _ (header_of write_request_kind a.node c.asked-ask.result.0) (part a.desk.now (a.node * r) r) _ _ _
    (laws.stores _ _ _ _ _ c.asked-ask.ensures _ c.storing.ensures c.if-storing.true _ c.record_length-r.ensures.0) wrote

pub read_request-requires : goal.read_request-requires
read_request-requires c =
    let known : let a = c.args in Known (owed_ladder a.p.plan a.self a.node a.desk.now (length a.request.now)) a.p.plan a.self a.desk.now = let a = c.args in known_owed a.p.plan a.self a.node a.desk.now (length a.request.now) c.requires in
    let room : longest 1 c.args.p.plan ≤ length c.args.request.now = let a = c.args in laws.request_low a.p.plan a.self a.node a.desk.now (length a.request.now) (known) in
    omega (arith, room, c.record_length-r.ensures)

pub returns-then-reads : goal.returns-then-reads
returns-then-reads c = let a = c.args in
    the_same _ _ _ _ _ (laws.asks_record a.p.plan a.self a.node a.desk.now _ c.asked-ask.ensures _ c.storing.ensures
    c.if-storing.false _ c.reads.ensures c.if-reads.true) c.read_request.ensures

pub bare-requires : goal.bare-requires
bare-requires c =
    let known : let a = c.args in Known (owed_ladder a.p.plan a.self a.node a.desk.now (length a.request.now)) a.p.plan a.self a.desk.now = let a = c.args in known_owed a.p.plan a.self a.node a.desk.now (length a.request.now) c.requires in
    let room : longest 1 c.args.p.plan ≤ length c.args.request.now = let a = c.args in laws.request_low a.p.plan a.self a.node a.desk.now (length a.request.now) (known) in
    omega (arith, room, c.record_length-r.ensures)

pub returns : goal.returns
returns c = let wrote = built.wrote_of c.asking-h-2.ensures c.bare.ensures in
    let a = c.args in
    sent _ (header_of time_request_kind a.node c.asked-ask.result.0) [] _ _ _
    (laws.asks_time a.p.plan a.self _ _ _ c.asked-ask.ensures _ c.storing.ensures c.if-storing.false _ c.reads.ensures c.if-reads.false) wrote
