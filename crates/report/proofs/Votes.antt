-- The time replies by node: as many nodes reach a time as replies are that or more (reach_count). So where
-- more replies are v or more than nodes lie, one that does not lie is among them (some_honest); and where Q nodes executed a write and N-t replied,
-- Q-t replies are of its time or more (enough_reach). Assumes nothing.
use Prim.{Unit}
use Prim.Native.Nat.{ℕ, ◌+◌, ◌≤◌, ◌<◌}
use mathlib.Core.Path.{◌≡◌, refl, sym, ap, ◌∙◌}
use mathlib.Core.Bool.{Bool, true, false, cond}
use mathlib.Core.List.{List, [], ◌∷◌}
use mathlib.Core.Logic.{inl, inr}
use native.Mathlib.Omega.{arith}
use borrow.Author.Tests.{leb-true, le-leb, eqb-true}
use lib.Dec.{leb, eqb}
use lib.ListN.{length}
use Rattle.terms.specs.Ladder.{◌and◌}
use Rattle.terms.proofs.Rungs.{both, clash}
use Rattle.clock.specs.Clock.{or_more}
use Rattle.clock.proofs.Kth.{more_all}
use Rattle.report.specs.Triple.{each, In}
use Rattle.report.specs.Figure2.{in_set_of, Clock, Times}
use Rattle.rounds.specs.Numbers.{number_of}
use Rattle.rounds.proofs.Numbers.{one_if, number_none, number_both, number_more, number_left, number_one}
use Rattle.report.specs.NewTime.{NearHonest}
use Rattle.report.proofs.Lists.{length_each}

-- ---- time replies by node
abbrev pub node_of : Clock → ℕ
node_of x = x.S

-- the reply of node k is v or more
reaching : ℕ → List Clock → ℕ → Bool
reaching v [] k = false
reaching v (x ∷ R) k = cond (eqb x.S k) (leb v x.Time) (reaching v R k)

-- no two of one node, and all of nodes below n
abbrev pub Apart : ℕ → List Clock → Type 0
Apart n [] = Unit {0}
Apart n (x ∷ R) = (x.S < n) × (in_set_of node_of x.S R ≡ false) × Apart n R

not_reaching : (v : ℕ) (R : List Clock) (k : ℕ) → in_set_of node_of k R ≡ false → reaching v R k ≡ false
unfolding in_set_of reaching
not_reaching v [] k e = refl
not_reaching v (x ∷ R) k e = go (eqb x.S k) e (not_reaching v R k)
  where
    go : (t : Bool) → cond t true (in_set_of node_of k R) ≡ false → (in_set_of node_of k R ≡ false → reaching v R k ≡ false)
        → cond t (leb v x.Time) (reaching v R k) ≡ false
    go true h ih = absurd (clash h)
    go false h ih = ih h

reach_count : (v n : ℕ) (R : List Clock) → Apart n R → number_of (reaching v R) n ≡ or_more v (Times R)
unfolding reaching Times each or_more
reach_count v n [] a = number_none n
reach_count v n (x ∷ R) a =
    number_one (reaching v R) x.S (leb v x.Time) (not_reaching v R x.S a.1) n a.0
    ∙ ap (λ (m : ℕ). one_if (leb v x.Time) + m) (reach_count v n R a.2)

record Found (R : List Clock) (k : ℕ) : Type 0 where
  reply : Clock
  one : In reply R
  node : reply.S ≡ k
  is : (v : ℕ) → reaching v R k ≡ leb v reply.Time

found : (v : ℕ) (R : List Clock) (k : ℕ) → reaching v R k ≡ true → Found R k
unfolding reaching
found v [] k e = absurd (clash (sym e))
found v (x ∷ R) k e = go (eqb x.S k) refl e (found v R k)
  where
    go : (t : Bool) → eqb x.S k ≡ t → cond t (leb v x.Time) (reaching v R k) ≡ true → (reaching v R k ≡ true → Found R k) → Found (x ∷ R) k
    go true q h ih = record { reply = x; one = inl refl; node = eqb-true x.S k q; is = λ w. rw q }
    go false q h ih =
        let f = ih h in
        record { reply = f.reply; one = inr f.one; node = f.node; is = λ w. rw q (f.is w) }

-- more are v or more than nodes lie
pub some_honest : (lies : ℕ → Bool) (n v : ℕ) (R : List Clock) → Apart n R → number_of lies n < or_more v (Times R) → NearHonest lies R (v + 1)
some_honest lies n v R a h =
    let l = number_left (reaching v R) lies n (omega (arith, reach_count v n R a)) in
    let f = found v R l.node l.is in
    record {
      reply = f.reply;
      one = f.one;
      honest = ap lies f.node ∙ l.not_other;
      near = let g = leb-true v f.reply.Time (sym (f.is v) ∙ l.is) in omega arith;
    }

-- of q nodes those that replied, all but n - length R, reach w
pub enough_reach : (executed : ℕ → Bool) (n w : ℕ) (R : List Clock) → Apart n R → ((x : Clock) → In x R → executed x.S ≡ true → w ≤ x.Time)
    → number_of executed n + length R ≤ n + or_more w (Times R)
unfolding Times
enough_reach executed n w R a h =
    omega (
      arith,
      number_both executed (reaching 0 R) n,
      reach_count 0 n R a,
      more_all (Times R),
      length_each (λ (x : Clock). x.Time) R,
      reach_count w n R a,
      number_more (λ (k : ℕ). executed k and reaching 0 R k) (reaching w R) n (λ k l. reaches k),
    )
  where
    reaches : (k : ℕ) → (executed k and reaching 0 R k) ≡ true → reaching w R k ≡ true
    reaches k e =
        let q = both (executed k) (reaching 0 R k) e in
        let f = found 0 R k q.1 in
        f.is w ∙ le-leb w f.reply.Time (h f.reply f.one (ap executed f.node ∙ q.0))
