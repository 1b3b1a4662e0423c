use borrow.Author.Rules.{rules}
use mathlib.Core.Path.{◌≡◌, sym, ◌∙◌}
use Prim.Native.Nat.{◌+◌, ◌-◌, ◌*◌, ◌^◌}
use native.Mathlib.Omega.{arith}
use lib.ListN.{length, get_or, drop}
use Rattle.sha256.specs.Sha256.{words}
use Rattle.sha256.proofs.Laws.{two_whole, word_drop, words_at}
use Rattle.lanes.proofs.Windows.{loaded_as}
use Rattle.lanes.proofs.load_block.Goals as goal

pub returns-then-at-p-2 : goal.returns-then-at-p-2
returns-then-at-p-2 c = let a = c.args in
    let s = a.s.now in
    let from = 64 * a.b - length a.p.now in
    loaded_as _ _ _ _ _ (two_whole a.before a.p.now s (64 * a.b) (omega arith) (omega arith)) (c.load_lane.ensures (words 16 (drop from s)) (λ i x h q.
    let e : x ≡ get_or s (from + 4 * i) 0 * 2 ^ 24 + get_or s (from + 4 * i + 1) 0 * 2 ^ 16 + get_or s (from + 4 * i + 2) 0 * 2 ^ 8 + get_or s (from + 4 * i + 3) 0 = search rules in
    e ∙ sym (word_drop s from i) ∙ sym (words_at 16 (drop from s) i h)))

pub returns : goal.returns
returns c = loaded_as _ _ _ _ _ c.load-m.ensures (c.load_lane-2.ensures c.load-m.result (λ i x h q. search rules))
