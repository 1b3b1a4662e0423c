-- Each turn is what a line more makes of the text, and the end what the end makes of it: laws of Values.
use Rattle.std.proofs.Common.{◌∙◌, ap, sym, length-set, arith}
use Rattle.std.proofs.lemmas.Bool.Decides.{nat_tests}
use Rattle.plan_text.specs.Lines.{words_of}
use Rattle.plan_text.proofs.Values as laws
use Rattle.plan_text.proofs.read_plan.Goals as goal

pub returns-in_default : goal.returns-in_default
returns-in_default c =
    laws.line_wrong _ _ _ _ _ c.loop-rest.invariant.left (omega arith) _ _ _ (c.words-w.ensures ∙ ap words_of c.first_line.ensures.line) c.first_line.ensures.then_rest
    (grind (arith, nat_tests)) (sym c.value.ensures ∙ c.in_default.is)

pub loop-rest-preserved-in-Some : goal.loop-rest-preserved-in-Some
loop-rest-preserved-in-Some c =
    let is = sym c.value.ensures ∙ c.in-Some.is in
    let few = laws.nine _ _ _ c.loop-rest.invariant.at_most_nine is in record {
      nine = length-set c.loop-rest.values c.loop-rest.k c.in-Some.x ∙ c.loop-rest.invariant.nine;
      at_most_nine = omega arith;
      counted = omega arith;
      left =
          laws.line_given _ _ _ _ _ c.loop-rest.invariant.left (omega arith) _ _ _ (c.words-w.ensures ∙ ap words_of c.first_line.ensures.line) c.first_line.ensures.then_rest _
          (grind (arith, nat_tests)) is (omega arith);
    }

pub loop-rest-preserved : goal.loop-rest-preserved
loop-rest-preserved c = record {
  nine = c.loop-rest.invariant.nine;
  at_most_nine = omega arith;
  counted = omega arith;
  left =
      laws.line_blank _ _ _ _ _ c.loop-rest.invariant.left (omega arith) _ _ _ (c.words-w.ensures ∙ ap words_of c.first_line.ensures.line) c.first_line.ensures.then_rest
      (grind (arith, nat_tests));
}

pub returns-then-few : goal.returns-then-few
returns-then-few c = laws.end_short _ _ _ _ _ c.loop-rest.invariant.left (omega arith) (grind (arith, nat_tests)) (omega arith)

pub returns : goal.returns
returns c = laws.end_plan _ _ _ _ _ c.loop-rest.invariant.left (omega arith) (grind (arith, nat_tests)) (omega arith) (omega arith) _ c.plan_of.ensures
