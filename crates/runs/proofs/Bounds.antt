-- What a run that is not refused tells: what it counts lies within the buffers. Assumes nothing.
use Prim.Native.Nat.{ℕ, suc, ◌≤◌}
use mathlib.Core.Path.{◌≡◌, refl, sym, ap}
use mathlib.Core.List.{List, [], ◌∷◌}
use native.Mathlib.Omega.{arith}
use lib.ListN.{length, drop, length-append}
use Rattle.octets.specs.Bytes.{over}
use Rattle.terms.specs.Ladder.{None}
use Rattle.terms.specs.declared.Plan.{Plan}
use Rattle.terms.proofs.Ladders as ladders
use Rattle.node.specs.Node.{served}
use Rattle.std.specs.Prelude.{Ok}
use Rattle.runs.specs.Cuts.{cut_run}
use Rattle.runs.specs.Runs.{ran_of, refused, did, RunOutcome, run_outcome, singly, run_ladder, run_of, ran_over, RunCall}
use Rattle.runs.proofs.Unique.{not_did}

over_long : (new old : List ℕ) → length new ≤ length (over new old)
unfolding over
over_long new old = let e = length-append new (drop (length new) old) in omega (arith, e)

-- a run has as many numbers as frames
pub as_many : (p : Plan) (fs : List (List ℕ)) (b y : List ℕ) → length (singly p fs b y).numbers ≡ length fs
unfolding singly
as_many p [] b y = refl
as_many p (f ∷ fs) b y = ap suc (as_many p fs (served p f b y).book y)

module _ (p : Plan) (s b y z : List ℕ) (n w e : ℕ) (b₂ y₂ z₂ : List ℕ) (c : RunCall p s b y z (Ok (ran_of n w e)) b₂ y₂ z₂) where
  -- none of its refusals applies, and its outcome is its frames'
  pub ran_is : None (run_ladder p s b y z) × (run_outcome (did n w e) b₂ y₂ z₂ ≡ run_of p s b y z)
  unfolding ran_over
  ran_is =
      ladders.by_ladder (λ (o : RunOutcome). run_outcome (did n w e) b₂ y₂ z₂ ≡ o → None (run_ladder p s b y z) × (run_outcome (did n w e) b₂ y₂ z₂ ≡ run_of p s b y z))
      (run_ladder p s b y z) (λ (k : ℕ). run_outcome (refused k) b y z) (run_of p s b y z)
      (λ k g h. absurd (not_did k n w e (sym (ap (λ (o : RunOutcome). o.answer) h)))) (λ m h. (m, h)) c.is

  told : did n w e ≡ did (length (cut_run s).frames) (length (singly p (cut_run s).frames b y).replies) (cut_run s).ended
      → (n ≡ length (cut_run s).frames) × (w ≡ length (singly p (cut_run s).frames b y).replies)
  told d = (cc, cc)

  -- the bytes of replies that it tells lie within the reply buffer, and its numbers within theirs
  pub written_fits : w ≤ length y₂
  written_fits =
      let q = ran_is.1 in
      let x : List ℕ = (singly p (cut_run s).frames b y).replies in
      let ew : w ≡ length x = (told (ap (λ (o : RunOutcome). o.answer) q)).1 in
      let ey : length y₂ ≡ length (over x y) = ap (λ (o : RunOutcome). length o.reply) q in
      omega (arith, over_long x y)

  pub frames_fit : n ≤ length z₂
  frames_fit =
      let q = ran_is.1 in
      let x : List ℕ = (singly p (cut_run s).frames b y).numbers in
      let en : n ≡ length (cut_run s).frames = (told (ap (λ (o : RunOutcome). o.answer) q)).0 in
      let ex : length x ≡ length (cut_run s).frames = as_many p (cut_run s).frames b y in
      let ez : length z₂ ≡ length (over x z) = ap (λ (o : RunOutcome). length o.numbers) q in
      omega (arith, over_long x z)
