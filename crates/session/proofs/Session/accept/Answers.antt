use mathlib.Core.Path.{◌≡◌, ap}
use native.Mathlib.Omega.{arith}
use Rattle.terms.proofs.Plans.{plan_is}
use Rattle.frame.specs.declared.Header.{Header}
use Rattle.frame.specs.Frame.{frame_node}
use Rattle.frame.proofs.Frames.{reply_is}
use Rattle.session.proofs.Readers as laws
use Rattle.session.proofs.Session.accept.Goals as goal

pub marked-s-requires : goal.marked-s-requires
marked-s-requires c =
    let node_is : c.args.f.head.node ≡ frame_node c.args.f.bytes.now = ap (λ (h : Header). h.node) c.args.f.read in
    let r = reply_is _ _ c.args.f.good in
    let q = plan_is _ c.args.f.plan.within in
    omega (arith, node_is, r.node_low, q.n_high)

pub returns-then-storing : goal.returns-then-storing
returns-then-storing c =
    let node_is : c.args.f.head.node ≡ frame_node c.args.f.bytes.now = ap (λ (h : Header). h.node) c.args.f.read in
    let a = c.args in
    laws.accept_stored a.f.plan.plan a.self a.f.bytes.now a.desk.now a.item.now _ _ _ _ c.storing.ensures c.if-storing.true
    (node_is) c.marked-s.ensures c.keep.ensures

pub returns : goal.returns
returns c = let a = c.args in
    laws.accept_heard a.f.plan.plan a.self a.f.bytes.now a.desk.now a.item.now _ _ c.storing.ensures c.if-storing.false c.hear.ensures
