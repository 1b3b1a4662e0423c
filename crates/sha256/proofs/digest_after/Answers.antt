use mathlib.Core.Path.{◌≡◌, sym, ap, ap₂, ◌∙◌}
use mathlib.Core.List.{List, ◌++◌}
use Prim.Native.Nat.{ℕ, ◌+◌, ◌*◌, ◌/◌}
use native.Mathlib.Omega.{arith}
use lib.ListN.{length, drop, length-append}
use Rattle.sha256.specs.Sha256.{H0, words, after, pad, compress_of, bytes_of, sha256}
use Rattle.sha256.proofs.Laws.{after_more, pad_length, ended_none}
use Rattle.sha256.proofs.digest_after.Goals as goal

pub loop-k-init : goal.loop-k-init
unfolding after
loop-k-init c = c.initial-h.ensures

pub loop-k-preserved : goal.loop-k-preserved
loop-k-preserved c = let l = c.loop-k in
    let a = c.args in
    c.compress-h.ensures
    ∙ ap₂ compress_of l.invariant (c.load-m.ensures ∙ ap (λ (x : List ℕ). words 16 (drop (64 * l.k) x)) (ended_none (a.p.now ++ a.s.now)))
    ∙ sym (after_more H0 l.k (pad (a.p.now ++ a.s.now)))

pub returns : goal.returns
unfolding sha256
returns c = let l = c.loop-k in
    let a = c.args in
    let m = a.p.now ++ a.s.now in
    let e : length (pad m) ≡ (length m + 72) / 64 * 64 = pad_length m in
    let d : length m ≡ length a.p.now + length a.s.now = length-append a.p.now a.s.now in
    let q : l.k ≡ length (pad m) / 64 = omega arith in
    c.bytes_of.ensures ∙ ap bytes_of (l.invariant ∙ ap (λ (k : ℕ). after H0 k (pad m)) q)
