use Prim.{tt}
use Prim.Native.Nat.{◌≤◌}
use mathlib.Core.Path.{◌≡◌, refl, sym, ap, ◌∙◌}
use mathlib.Core.Bool.{true, not}
use mathlib.Core.List.{List}
use lib.ListN.{length}
use native.Mathlib.Omega.{arith}
use Rattle.terms.specs.Ladder.{Rung, ◌and◌}
use Rattle.terms.proofs.Down.{at, next, Down, stop, end}
use Rattle.frame.specs.declared.Header.{Header}
use Rattle.frame.specs.Frame.{framed, frame_node, body_of}
use Rattle.frame.proofs.Frames.{reply_is}
use Rattle.record.specs.Record.{hashes_ok, time_zero}
use Rattle.session.specs.Reply.{bears, record_ladder}
use Rattle.standing.proofs.Rules as rules
use Rattle.session.proofs.Readers as laws
use Rattle.session.proofs.Session.check_record.Goals as goal

pub returns-then-not-bears_record : goal.returns-then-not-bears_record
returns-then-not-bears_record c = laws.no_record _ c.args.self _ (sym c.bears_record.ensures ∙ c.if-not-bears_record.true)

pub time_zero-requires : goal.time_zero-requires
time_zero-requires c =
    let borne : bears c.args.f.plan.plan c.args.f.bytes.now ≡ true = sym c.bears_record.ensures ∙ c.if-not-bears_record.false in
    let long : framed 1 40 ≤ length c.args.f.bytes.now = let args = c.args in
    omega (arith, laws.bears_length args.f.plan.plan args.f.bytes.now (borne), rules.record_long args.f.plan.plan) in
    omega (arith, long, c.head_bytes-at.ensures)

pub returns-then-time_zero : goal.returns-then-time_zero
returns-then-time_zero c =
    let borne : bears c.args.f.plan.plan c.args.f.bytes.now ≡ true = sym c.bears_record.ensures ∙ c.if-not-bears_record.false in
    let zero_is : let a = c.args in c.time_zero.result ≡ (bears a.f.plan.plan a.f.bytes.now and time_zero (body_of a.f.bytes.now)) = rules.and_last (borne) (laws.zero_at _ _ _ c.head_bytes-at.ensures c.time_zero.ensures) in
    stop _ _ (at 5 _ tt) (sym (zero_is) ∙ c.if-time_zero.true) refl

pub hashes_ok-requires : goal.hashes_ok-requires
hashes_ok-requires c =
    let borne : bears c.args.f.plan.plan c.args.f.bytes.now ≡ true = sym c.bears_record.ensures ∙ c.if-not-bears_record.false in
    let zero_is : let a = c.args in c.time_zero.result ≡ (bears a.f.plan.plan a.f.bytes.now and time_zero (body_of a.f.bytes.now)) = rules.and_last (borne) (laws.zero_at _ _ _ c.head_bytes-at.ensures c.time_zero.ensures) in
    let at_hash : Down (λ (l : List Rung). l) 6 = next 6 (at 5 (record_ladder c.args.f.plan.plan c.args.self c.args.f.bytes.now) tt) refl (sym (zero_is) ∙ c.if-time_zero.false) in (omega (arith, laws.bears_length _ _ (borne), c.head_bytes-at.ensures), omega (arith, ap (λ (x : Header). x.node) c.args.f.read, (reply_is _ _ c.args.f.good).node_low))

pub returns-then-not-hashes_ok : goal.returns-then-not-hashes_ok
returns-then-not-hashes_ok c =
    let borne : bears c.args.f.plan.plan c.args.f.bytes.now ≡ true = sym c.bears_record.ensures ∙ c.if-not-bears_record.false in
    let zero_is : let a = c.args in c.time_zero.result ≡ (bears a.f.plan.plan a.f.bytes.now and time_zero (body_of a.f.bytes.now)) = rules.and_last (borne) (laws.zero_at _ _ _ c.head_bytes-at.ensures c.time_zero.ensures) in
    let hash_is : let a = c.args in not c.hashes_ok.result ≡ (bears a.f.plan.plan a.f.bytes.now and not (hashes_ok a.f.plan.plan (frame_node a.f.bytes.now) (body_of a.f.bytes.now))) = rules.and_last (borne)
    (ap not (laws.hashes_at _ _ _ _ (borne) (ap (λ (x : Header). x.node) c.args.f.read) c.head_bytes-at.ensures _ c.hashes_ok.ensures)) in
    stop _ _ (at 6 _ (sym (zero_is) ∙ c.if-time_zero.false, tt)) (sym (hash_is) ∙ (ap not c.if-not-hashes_ok.true)) refl

pub under-requires : goal.under-requires
under-requires c =
    let borne : bears c.args.f.plan.plan c.args.f.bytes.now ≡ true = sym c.bears_record.ensures ∙ c.if-not-bears_record.false in
    let long : framed 1 40 ≤ length c.args.f.bytes.now = let args = c.args in
    omega (arith, laws.bears_length args.f.plan.plan args.f.bytes.now (borne), rules.record_long args.f.plan.plan) in
    omega (arith, long, c.head_bytes-at.ensures)

pub returns-then-not-under : goal.returns-then-not-under
returns-then-not-under c =
    let borne : bears c.args.f.plan.plan c.args.f.bytes.now ≡ true = sym c.bears_record.ensures ∙ c.if-not-bears_record.false in
    let zero_is : let a = c.args in c.time_zero.result ≡ (bears a.f.plan.plan a.f.bytes.now and time_zero (body_of a.f.bytes.now)) = rules.and_last (borne) (laws.zero_at _ _ _ c.head_bytes-at.ensures c.time_zero.ensures) in
    let hash_is : let a = c.args in not c.hashes_ok.result ≡ (bears a.f.plan.plan a.f.bytes.now and not (hashes_ok a.f.plan.plan (frame_node a.f.bytes.now) (body_of a.f.bytes.now))) = rules.and_last (borne)
    (ap not (laws.hashes_at _ _ _ _ (borne) (ap (λ (x : Header). x.node) c.args.f.read) c.head_bytes-at.ensures _ c.hashes_ok.ensures)) in
    let d = at 12 (record_ladder c.args.f.plan.plan c.args.self c.args.f.bytes.now) (sym (zero_is) ∙ c.if-time_zero.false, (sym (hash_is) ∙ (ap not c.if-not-hashes_ok.false), tt)) in
    stop _ _ d (sym (rules.and_last (borne) (ap not (laws.under_at _ _ _ _ c.head_bytes-at.ensures c.under.ensures))) ∙ (ap not c.if-not-under.true)) refl

pub returns : goal.returns
returns c =
    let borne : bears c.args.f.plan.plan c.args.f.bytes.now ≡ true = sym c.bears_record.ensures ∙ c.if-not-bears_record.false in
    let zero_is : let a = c.args in c.time_zero.result ≡ (bears a.f.plan.plan a.f.bytes.now and time_zero (body_of a.f.bytes.now)) = rules.and_last (borne) (laws.zero_at _ _ _ c.head_bytes-at.ensures c.time_zero.ensures) in
    let hash_is : let a = c.args in not c.hashes_ok.result ≡ (bears a.f.plan.plan a.f.bytes.now and not (hashes_ok a.f.plan.plan (frame_node a.f.bytes.now) (body_of a.f.bytes.now))) = rules.and_last (borne)
    (ap not (laws.hashes_at _ _ _ _ (borne) (ap (λ (x : Header). x.node) c.args.f.read) c.head_bytes-at.ensures _ c.hashes_ok.ensures)) in
    let d = at 12 (record_ladder c.args.f.plan.plan c.args.self c.args.f.bytes.now) (sym (zero_is) ∙ c.if-time_zero.false, (sym (hash_is) ∙ (ap not c.if-not-hashes_ok.false), tt)) in
    end _ _
    (next 0 d refl (sym (rules.and_last (borne) (ap not (laws.under_at _ _ _ _ c.head_bytes-at.ensures c.under.ensures))) ∙ (ap not c.if-not-under.false)))
    refl refl
