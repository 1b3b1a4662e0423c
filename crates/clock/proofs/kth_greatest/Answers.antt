use borrow.Author.Tests.{leb-true, leb-false}
use Rattle.std.proofs.Common.{◌≡◌, ◌∙◌, ap, sym, refl, rules, arith, length}
use Rattle.rounds.specs.Rounds.{unheard}
use Rattle.std.specs.Prelude.{get_or}
use Rattle.clock.specs.Clock.{zero_time, times_heard, greatest_with}
use Rattle.clock.proofs.Laws as laws
use Rattle.clock.proofs.kth_greatest.Goals as goal
use Rattle.clock.proofs.kth_greatest.Goals.{then-rises+then-enough, else-rises, else-rises-via-then-rises+else-enough, else-rises-via-else-rises}

pub loop-i-init : goal.loop-i-init
unfolding times_heard greatest_with
loop-i-init c = refl

pub loop-i-preserved : goal.loop-i-preserved
loop-i-preserved c =
    let a = c.args in
    let i = c.loop-i.i in
    let r = times_heard a.marks a.times in
    let b = c.loop-i.best.0 in
    let m = get_or a.marks i unheard in
    let t = get_or a.times i zero_time in
    let e : length a.marks ≡ 16 = search rules in
    let f : length a.times ≡ 16 = search rules in
    laws.kth_turn a.marks a.times i (omega arith) (omega arith) r a.k b _ c.loop-i.invariant
    (elim c.if-rises.branch [
      | then-rises+then-enough w ↦ ap (λ x. x.0) w.best-is ∙ laws.takes_place a.k r b m t _ c.rises.ensures w.if-rises.true (leb-true _ _ (sym w.enough.ensures ∙ w.if-enough.true))
      | else-rises w ↦ ap (λ x. x.0) w.best-is ∙ elim w.else-rises.branch [
        | else-rises-via-then-rises+else-enough v ↦ laws.stays_few a.k r b m t _ c.rises.ensures v.if-rises.true (leb-false _ _ (sym v.enough.ensures ∙ v.if-enough.false))
        | else-rises-via-else-rises v ↦ laws.stays_below a.k r b m t _ c.rises.ensures v.if-rises.false
      ]
    ])

pub returns : goal.returns
returns c = let a = c.args in
    let e : length a.marks ≡ 16 = search rules in
    let f : length a.times ≡ 16 = search rules in
    c.loop-i.invariant ∙ ap (greatest_with a.k (times_heard a.marks a.times) 0) (laws.heard_all a.marks a.times c.loop-i.i (omega arith) (omega arith))
