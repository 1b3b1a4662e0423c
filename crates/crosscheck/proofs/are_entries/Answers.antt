use Prim.Native.Nat.{ℕ}
use mathlib.Core.Path.{refl}
use mathlib.Core.List.{List}
use native.Mathlib.Omega.{arith}
use Rattle.sha256.specs.Sha256.{bytes_of}
use Rattle.lanes.specs.Lanes.{lane_of}
use Rattle.lanes.proofs.Batches.{all_bytes}
use Rattle.crosscheck.proofs.Entries.{agrees_none, agrees_more, agrees_not, entry_is}
use Rattle.crosscheck.proofs.are_entries.Goals as goal

pub loop-l-init : goal.loop-l-init
loop-l-init c = agrees_none _ _ _

pub returns-then-not-same : goal.returns-then-not-same
returns-then-not-same c = let a = c.args in
    let f : ℕ → List ℕ = λ k. bytes_of (lane_of a.h.now k) in
    agrees_not f a.s.now a.at (λ k. refl) c.loop-l.l 1 a.n c.same.result (omega arith) c.requires.1
    (entry_is f a.s.now a.at c.loop-l.l c.same.result c.hash_of-d.result (all_bytes _ _ c.hash_of-d.ensures) c.same.ensures) c.if-not-same.true c.loop-l.invariant

pub loop-l-preserved : goal.loop-l-preserved
loop-l-preserved c = let a = c.args in
    let f : ℕ → List ℕ = λ k. bytes_of (lane_of a.h.now k) in
    agrees_more f a.s.now a.at (λ k. refl) c.loop-l.l 1 c.same.result (omega (arith, c.requires.1)) c.loop-l.invariant
    (entry_is f a.s.now a.at c.loop-l.l c.same.result c.hash_of-d.result (all_bytes _ _ c.hash_of-d.ensures) c.same.ensures) c.if-not-same.false
