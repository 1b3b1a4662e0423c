use Rattle.sha256.proofs.Laws.{round_first, round_step}
use Rattle.sha256.proofs.rounds_alone.Goals as goal

pub returns : goal.returns
returns c = λ x e. let a = c.args in
    let w = a.w.now in
    let t = a.t in
    let r1 = round_first w x a.s _ t e c.at-s1.ensures in
    let r2 = round_step w x _ _ t 1 r1 c.at-s2.ensures in
    let r3 = round_step w x _ _ t 2 r2 c.at-s3.ensures in
    let r4 = round_step w x _ _ t 3 r3 c.at-s4.ensures in
    let r5 = round_step w x _ _ t 4 r4 c.at-s5.ensures in
    let r6 = round_step w x _ _ t 5 r5 c.at-s6.ensures in
    let r7 = round_step w x _ _ t 6 r6 c.at-s7.ensures in
    round_step w x _ _ t 7 r7 c.at.ensures
