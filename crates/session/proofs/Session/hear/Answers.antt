use Prim.Native.Nat.{◌<◌, ◌+◌, ◌*◌, ◌≤◌}
use mathlib.Core.Path.{◌≡◌, ap, ◌∙◌}
use native.Mathlib.Omega.{arith}
use lib.ListN.{length}
use Rattle.terms.proofs.Plans.{plan_is}
use Rattle.frame.specs.declared.Header.{Header}
use Rattle.frame.specs.Frame.{frame_node, head_bytes, version_of}
use Rattle.frame.proofs.Frames.{reply_is}
use Rattle.session.proofs.Readers as laws
use Rattle.session.proofs.Session.hear.Goals as goal

pub marked-s-requires : goal.marked-s-requires
marked-s-requires c =
    let node_is : c.args.f.head.node ≡ frame_node c.args.f.bytes.now = ap (λ (h : Header). h.node) c.args.f.read in
    let node_low : c.args.f.head.node < 16 = let r = reply_is _ _ c.args.f.good in
    let q = plan_is _ c.args.f.plan.within in
    omega (arith, node_is, r.node_low, q.n_high) in
    node_low

pub returns-then-not-bears_record : goal.returns-then-not-bears_record
returns-then-not-bears_record c =
    let node_is : c.args.f.head.node ≡ frame_node c.args.f.bytes.now = ap (λ (h : Header). h.node) c.args.f.read in
    let a = c.args in
    laws.heard_first a.f.plan.plan a.self a.f.bytes.now a.desk.now a.item.now _ c.bears_record.ensures a.f.head.node _ _
    c.if-not-bears_record.true (node_is) c.marked-s.ensures c.settle.ensures

pub overflow_mul-i : goal.overflow_mul-i
overflow_mul-i c =
    let node_is : c.args.f.head.node ≡ frame_node c.args.f.bytes.now = ap (λ (h : Header). h.node) c.args.f.read in
    let fits : let r = c.record_length-r.result in c.args.f.head.node * r + r ≤ length c.args.desk.now = laws.slot_fits_desk c.args.f.plan.plan c.args.f.bytes.now c.args.desk.now c.args.f.head.node c.record_length-r.result c.args.f.good (node_is) c.record_length-r.ensures.0 c.requires.0 in
    omega (arith, fits, c.well_formed)

pub copy-requires : goal.copy-requires
copy-requires c =
    let at_is : c.head_bytes-at.result ≡ head_bytes (version_of c.args.f.bytes.now) = c.head_bytes-at.ensures ∙ ap (λ (h : Header). head_bytes h.version) c.args.f.read in
    let node_is : c.args.f.head.node ≡ frame_node c.args.f.bytes.now = ap (λ (h : Header). h.node) c.args.f.read in
    let fits : let r = c.record_length-r.result in c.args.f.head.node * r + r ≤ length c.args.desk.now = laws.slot_fits_desk c.args.f.plan.plan c.args.f.bytes.now c.args.desk.now c.args.f.head.node c.record_length-r.result c.args.f.good (node_is) c.record_length-r.ensures.0 c.requires.0 in
    let a = c.args in
    let l = (laws.bears_is a.f.plan.plan a.f.bytes.now _ c.bears_record.ensures c.if-not-bears_record.false).1 in
    (omega (arith, l, c.record_length-r.ensures.0, at_is), fits)

pub marked-s-requires-2 : goal.marked-s-requires-2
marked-s-requires-2 c =
    let node_is : c.args.f.head.node ≡ frame_node c.args.f.bytes.now = ap (λ (h : Header). h.node) c.args.f.read in
    let node_low : c.args.f.head.node < 16 = let r = reply_is _ _ c.args.f.good in
    let q = plan_is _ c.args.f.plan.within in
    omega (arith, node_is, r.node_low, q.n_high) in
    node_low

pub returns : goal.returns
returns c =
    let node_is : c.args.f.head.node ≡ frame_node c.args.f.bytes.now = ap (λ (h : Header). h.node) c.args.f.read in
    let at_is : c.head_bytes-at.result ≡ head_bytes (version_of c.args.f.bytes.now) = c.head_bytes-at.ensures ∙ ap (λ (h : Header). head_bytes h.version) c.args.f.read in
    let a = c.args in
    let is = c.if-not-bears_record.false in
    laws.heard_record a.f.plan.plan a.self a.f.bytes.now a.desk.now a.item.now _ c.bears_record.ensures a.f.head.node _ _ _ is (node_is) c.marked-s-2.ensures
    (c.copy.ensures ∙ laws.slot_body a.f.plan.plan a.f.bytes.now a.desk.now a.f.head.node _ c.record_length-r.result _ c.bears_record.ensures is (at_is)
    c.record_length-r.ensures.0) c.settle-2.ensures
