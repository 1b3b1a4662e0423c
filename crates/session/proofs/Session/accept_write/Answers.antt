use Prim.Native.Nat.{◌<◌}
use mathlib.Core.Path.{◌≡◌, ◌∙◌, sym, ap}
use native.Mathlib.Omega.{arith}
use lib.ListN.{length}
use Rattle.terms.proofs.Plans.{plan_is}
use Rattle.frame.specs.declared.Header.{Header}
use Rattle.frame.specs.Frame.{frame_node}
use Rattle.standing.specs.declared.Operation.TheVariants.{Write}
use Rattle.session.specs.Reply.{reply_ladder}
use Rattle.session.proofs.Known as known
use Rattle.session.proofs.Writers as laws
use Rattle.session.proofs.Session.accept_write.Goals as goal

pub marked-s-requires : goal.marked-s-requires
marked-s-requires c =
    let past : let a = c.args in known.Known (reply_ladder Write a.f.plan.plan a.self a.f.bytes.now a.desk.now (length a.item.now)) a.f.plan.plan a.self a.desk.now = let a = c.args in known.known_reply Write a.f.plan.plan a.self a.f.bytes.now a.desk.now (length a.item.now) c.requires.0 in
    let node_is : c.args.f.head.node ≡ frame_node c.args.f.bytes.now = ap (λ (h : Header). h.node) c.args.f.read in
    let node_low : c.args.f.head.node < 16 = let a = c.args in
    let n = plan_is _ (past).plan_is_ok in
    let k = (known.reply Write a.f.plan.plan a.self a.f.bytes.now a.desk.now (length a.item.now) (past)).node_low in
    omega (arith, node_is) in
    node_low

pub returns-then-storing : goal.returns-then-storing
returns-then-storing c =
    let node_is : c.args.f.head.node ≡ frame_node c.args.f.bytes.now = ap (λ (h : Header). h.node) c.args.f.read in
    let a = c.args in
    c.write_turn.ensures a.desk.now ∙ laws.in_write a.f.plan.plan a.self a.f.bytes.now a.desk.now a.item.now _
    c.storing.ensures _ (node_is) c.if-storing.true _ c.marked-s.ensures

pub time_in-requires : goal.time_in-requires
time_in-requires c =
    let past : let a = c.args in known.Known (reply_ladder Write a.f.plan.plan a.self a.f.bytes.now a.desk.now (length a.item.now)) a.f.plan.plan a.self a.desk.now = let a = c.args in known.known_reply Write a.f.plan.plan a.self a.f.bytes.now a.desk.now (length a.item.now) c.requires.0 in
    let a = c.args in
    let e = laws.time_there a.f.plan.plan a.self a.f.bytes.now a.desk.now (length a.item.now) (past) (sym c.storing.ensures ∙ c.if-storing.false) in
    omega (arith, ap (λ (h : Header). h.version) c.args.f.read)

pub timed-s-requires : goal.timed-s-requires
timed-s-requires c =
    let past : let a = c.args in known.Known (reply_ladder Write a.f.plan.plan a.self a.f.bytes.now a.desk.now (length a.item.now)) a.f.plan.plan a.self a.desk.now = let a = c.args in known.known_reply Write a.f.plan.plan a.self a.f.bytes.now a.desk.now (length a.item.now) c.requires.0 in
    let node_is : c.args.f.head.node ≡ frame_node c.args.f.bytes.now = ap (λ (h : Header). h.node) c.args.f.read in
    let node_low : c.args.f.head.node < 16 = let a = c.args in
    let n = plan_is _ (past).plan_is_ok in
    let k = (known.reply Write a.f.plan.plan a.self a.f.bytes.now a.desk.now (length a.item.now) (past)).node_low in
    omega (arith, node_is) in
    node_low

pub time_turn-requires : goal.time_turn-requires
time_turn-requires c =
    let past : let a = c.args in known.Known (reply_ladder Write a.f.plan.plan a.self a.f.bytes.now a.desk.now (length a.item.now)) a.f.plan.plan a.self a.desk.now = let a = c.args in known.known_reply Write a.f.plan.plan a.self a.f.bytes.now a.desk.now (length a.item.now) c.requires.0 in
    let a = c.args in
    (known.item_is Write a.f.plan.plan a.self a.f.bytes.now a.desk.now (length a.item.now) (past), (past).desk_is, c.requires.1)

pub returns : goal.returns
returns c =
    let node_is : c.args.f.head.node ≡ frame_node c.args.f.bytes.now = ap (λ (h : Header). h.node) c.args.f.read in
    let a = c.args in
    c.time_turn.ensures ∙ laws.in_time a.f.plan.plan a.self a.f.bytes.now a.desk.now a.item.now _ c.storing.ensures _
    (node_is) c.if-storing.false _ _ c.timed-s.ensures c.time_in.ensures
