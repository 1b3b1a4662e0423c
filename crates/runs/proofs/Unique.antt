-- The contract of a run determines its outcome: the answer and the bytes of all three buffers. Assumes nothing.
use mathlib.Core.Path.{◌≡◌, sym, ap, ◌∙◌}
use mathlib.Core.List.{List}
use Prim.Native.Nat.{ℕ}
use native.Mathlib.Omega.{arith}
use Rattle.terms.specs.declared.Plan.{Plan}
use Rattle.terms.proofs.Rungs as rungs
use Rattle.runs.specs.declared.Ran.{Ran}
use Rattle.terms.specs.declared.Refusal.{Refusal}
use Rattle.std.specs.Prelude.{Result, Ok, Err}
use Rattle.runs.specs.Runs.{ran_of, said_ran, refused, did, RunOutcome, RunCall}

pub not_did : (k a b c : ℕ) → refused k ≡ did a b c → ⊥
not_did k a b c e = let z : ◌≡◌ {A = ℕ} 0 1 = cc in omega arith

pub ran_one : (a b : Result Ran Refusal) → said_ran a ≡ said_ran b → a ≡ b
ran_one (Err r) (Err s) e = ap Err (rungs.refusal_one r s (cc))
ran_one (Err r) (Ok x) e = absurd (not_did _ x.frames x.written x.ended e)
ran_one (Ok x) (Err s) e = absurd (not_did _ x.frames x.written x.ended (sym e))
ran_one (Ok x) (Ok y) e =
    let p : x.frames ≡ y.frames = cc in
    let q : x.written ≡ y.written = cc in
    let r : x.ended ≡ y.ended = cc in
    (λ i. Ok (ran_of (p i) (q i) (r i)))

pub run_one : (p : Plan) (s b y z : List ℕ) (a₁ a₂ : Result Ran Refusal) (b₁ b₂ y₁ y₂ z₁ z₂ : List ℕ) → RunCall p s b y z a₁ b₁ y₁ z₁ → RunCall p s b y z a₂ b₂ y₂ z₂
    → (a₁ ≡ a₂) × (b₁ ≡ b₂) × (y₁ ≡ y₂) × (z₁ ≡ z₂)
run_one p s b y z a₁ a₂ b₁ b₂ y₁ y₂ z₁ z₂ c d =
    let e = c.is ∙ sym d.is in
    (ran_one a₁ a₂ (ap (λ (o : RunOutcome). o.answer) e), ap (λ (o : RunOutcome). o.book) e, ap (λ (o : RunOutcome). o.reply) e, ap (λ (o : RunOutcome). o.numbers) e)
