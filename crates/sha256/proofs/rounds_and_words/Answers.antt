use Rattle.sha256.proofs.Laws.{turn_more}
use Rattle.sha256.proofs.rounds_and_words.Goals as goal

pub returns : goal.returns
returns c = let t = c.args.t in
    let w = c.args.w.now in
    let s = c.args.s in
    let u1 = c.round_and_word-s1.ensures in
    let u2 = turn_more 1 t w _ _ s _ _ u1 c.round_and_word-s2.ensures in
    let u3 = turn_more 2 t w _ _ s _ _ u2 c.round_and_word-s3.ensures in
    let u4 = turn_more 3 t w _ _ s _ _ u3 c.round_and_word-s4.ensures in
    let u5 = turn_more 4 t w _ _ s _ _ u4 c.round_and_word-s5.ensures in
    let u6 = turn_more 5 t w _ _ s _ _ u5 c.round_and_word-s6.ensures in
    let u7 = turn_more 6 t w _ _ s _ _ u6 c.round_and_word-s7.ensures in
    turn_more 7 t w _ _ s _ _ u7 c.round_and_word.ensures
