-- Laws of the words at hand: sixteen of the schedule, which roll on. Assumes nothing.
use mathlib.Core.Path.{◌≡◌, refl, ap, ap₂, sym, subst, ◌∙◌}
use Prim.Native.Nat.{ℕ, suc, zero, ◌+◌, ◌-◌, ◌*◌, ◌/◌, ◌%◌, ◌≤◌, ◌<◌}
use mathlib.Core.List.{List}
use native.Mathlib.Nat.{zero-add}
use native.Mathlib.Omega.{arith}
use native.Mathlib.Decide.{ℕ_discrete, dec_le}
use lib.ListN.{length, get_or, set, drop, length-set}
use lib.Seq.{get_or-set_same, get_or-set_other}
use Rattle.sha256.specs.declared.State.{State}
use Rattle.sha256.specs.Sha256.{K, round_of, rounds_of, schedule_of, added_of, compress_of, words, after}
use Rattle.sha256.proofs.Laws.{schedule_word, schedule_block, words_length, after_more}
use Rattle.lanes.specs.Lanes.{lane_of, EachLane}
use Rattle.lanes.specs.Inside.{rounds_at, next_in, Window, Kept, Rolled, AllRolled, Loaded, AllLoaded, Standing, Rounded, Blocked}

-- a word written in lane l leaves every other lane
set_kept : (w : List ℕ) (l j t x : ℕ) → l < 8 → j < 8 → (j ≡ l → ⊥) → Kept j w (set w (8 * t + l) x)
set_kept w l j t x hl hj q i = get_or-set_other w (8 * t + l) (8 * i + j) x 0 (λ e. q (apart e))
  where
    apart : 8 * i + j ≡ 8 * t + l → j ≡ l
    apart e = omega arith

-- and every other word of its own
set_past : (w : List ℕ) (l j t x : ℕ) → (j ≡ t → ⊥) → get_or (set w (8 * t + l) x) (8 * j + l) 0 ≡ get_or w (8 * j + l) 0
set_past w l j t x q = get_or-set_other w (8 * t + l) (8 * j + l) x 0 (λ e. q (apart e))
  where
    apart : 8 * j + l ≡ 8 * t + l → j ≡ t
    apart e = omega arith

-- ---- sixteen words of one lane

-- the first i of the next sixteen are made, the others still as they were
pub record Rolling (l i : ℕ) (old new : List ℕ) : Type 0 where
  pub long : length new ≡ 128
  pub made : (m : List ℕ) (t : ℕ) → length m ≡ 16 → t + 32 ≤ 64 → Window m t old l → (j : ℕ) → j < i → get_or new (8 * j + l) 0 ≡ get_or (schedule_of 48 m) (t + 16 + j) 0
  pub kept : (j : ℕ) → i ≤ j → get_or new (8 * j + l) 0 ≡ get_or old (8 * j + l) 0
  pub others : (j : ℕ) → j < 8 → (j ≡ l → ⊥) → Kept j old new

pub rolling_start : (l : ℕ) (w : List ℕ) → length w ≡ 128 → Rolling l 0 w w
rolling_start l w z = record { long = z; made = λ m t y b v j h. absurd (omega arith); kept = λ j h. refl; others = λ j h q i. refl }

-- the word that stands d before the next one
module _ (l i : ℕ) (old w : List ℕ) (u : Rolling l i old w) (m : List ℕ) (t : ℕ) (y : length m ≡ 16) (b : t + 32 ≤ 64) (v : Window m t old l) (hi : i < 16) where
  back : (k d : ℕ) → 1 ≤ d → d ≤ 16 → k ≡ (i + (16 - d)) % 16 → get_or w (8 * k + l) 0 ≡ get_or (schedule_of 48 m) (t + 16 + i - d) 0
  back k d h g e = split (dec_le d i)
    where
      split : Dec (d ≤ i) → get_or w (8 * k + l) 0 ≡ get_or (schedule_of 48 m) (t + 16 + i - d) 0
      split (yes a) =
          let p : k ≡ i - d = omega arith in
          let q : t + 16 + (i - d) ≡ t + 16 + i - d = omega arith in
          ap (λ (x : ℕ). get_or w (8 * x + l) 0) p ∙ u.made m t y b v (i - d) (omega arith) ∙ ap (λ (x : ℕ). get_or (schedule_of 48 m) x 0) q
      split (no a) =
          let q : t + k ≡ t + 16 + i - d = omega arith in
          u.kept k (omega arith) ∙ v k (omega arith) ∙ ap (λ (x : ℕ). get_or (schedule_of 48 m) x 0) q

  next : next_in w i l ≡ get_or (schedule_of 48 m) (t + 16 + i) 0
  next =
      rw (back ((i + 14) % 16) 2 (omega arith) (omega arith) refl, back ((i + 9) % 16) 7 (omega arith) (omega arith) refl, back ((i + 1) % 16) 15 (omega arith) (omega arith) refl, back i 16 (omega arith) (omega arith) (omega arith))
      (sym (schedule_word m (t + 16 + i) y (omega arith) (omega arith)))

pub rolling_next : (l i : ℕ) (old w new : List ℕ) → l < 8 → i < 16 → Rolling l i old w → new ≡ set w (8 * i + l) (next_in w i l) → Rolling l (suc i) old new
rolling_next l i old w new hl hi u q =
    let z : length w ≡ 128 = u.long in
    record {
      long = ap length q ∙ length-set w (8 * i + l) _ ∙ z;
      made = λ m t y b v j h. ap (λ (x : List ℕ). get_or x (8 * j + l) 0) q ∙ made m t y b v j h (ℕ_discrete j i);
      kept = λ j h. ap (λ (x : List ℕ). get_or x (8 * j + l) 0) q ∙ set_past w l j i _ (λ e. off j h e) ∙ u.kept j (omega arith);
      others = λ j hj p k. ap (λ (x : List ℕ). get_or x (8 * k + j) 0) q ∙ set_kept w l j i _ hl hj p k ∙ u.others j hj p k;
    }
  where
    off : (j : ℕ) → suc i ≤ j → j ≡ i → ⊥
    off j h e = omega arith

    made : (m : List ℕ) (t : ℕ) → length m ≡ 16 → t + 32 ≤ 64 → Window m t old l → (j : ℕ) → j < suc i → Dec (j ≡ i)
        → get_or (set w (8 * i + l) (next_in w i l)) (8 * j + l) 0 ≡ get_or (schedule_of 48 m) (t + 16 + j) 0
    made m t y b v j h (yes e) =
        let z : length w ≡ 128 = u.long in
        rw e (get_or-set_same w (8 * i + l) (next_in w i l) 0 (omega arith) ∙ next l i old w u m t y b v hi)
    made m t y b v j h (no e) = set_past w l j i _ e ∙ u.made m t y b v j (omega arith)

pub rolled : (l : ℕ) (old new : List ℕ) → Rolling l 16 old new → Rolled l old new
rolled l old new u = record { long = u.long; onward = λ m t y b v i h. u.made m t y b v i h; others = u.others }

-- ---- rounds by the words at hand

pub rounds_first : (w : List ℕ) (l t : ℕ) (s r : State) → r ≡ round_of s (get_or K t 0) (get_or w (8 * (t % 16) + l) 0) → r ≡ rounds_at w l t 1 s
unfolding rounds_at
rounds_first w l t s r q = let e : t ≡ t + 0 = omega arith in q ∙ ap (λ (x : ℕ). round_of s (get_or K x 0) (get_or w (8 * (x % 16) + l) 0)) e

pub rounds_next : (w : List ℕ) (l t n : ℕ) (s o r : State) → o ≡ rounds_at w l t n s → r ≡ round_of o (get_or K (t + n) 0) (get_or w (8 * ((t + n) % 16) + l) 0) → r ≡ rounds_at w l t (suc n) s
unfolding rounds_at
rounds_next w l t n s o r e q = q ∙ ap (λ (x : State). round_of x (get_or K (t + n) 0) (get_or w (8 * ((t + n) % 16) + l) 0)) e

rounds_window : (m w : List ℕ) (l t n : ℕ) (s : State) → t % 4 ≡ 0 → n ≤ 4 → Window m (t / 16 * 16) w l
    → rounds_at w l t n (rounds_of (schedule_of 48 m) t s) ≡ rounds_of (schedule_of 48 m) (t + n) s
unfolding rounds_at rounds_of
rounds_window m w l t zero s q h v = let e : t ≡ t + 0 = omega arith in ap (λ (x : ℕ). rounds_of (schedule_of 48 m) x s) e
rounds_window m w l t (suc n) s q h v =
    let e : suc (t + n) ≡ t + suc n = omega arith in
    let d : t / 16 * 16 + (t + n) % 16 ≡ t + n = omega arith in
    ap₂ (λ (x : State) (y : ℕ). round_of x (get_or K (t + n) 0) y) (rounds_window m w l t n s q (omega arith) v) (v ((t + n) % 16) (omega arith) ∙ ap (λ (x : ℕ). get_or (schedule_of 48 m) x 0) d)
    ∙ ap (λ (x : ℕ). rounds_of (schedule_of 48 m) x s) e

-- ---- the words of a block

-- the first i words of m are in lane l
pub record Loading (m : List ℕ) (l i : ℕ) (old new : List ℕ) : Type 0 where
  pub long : length new ≡ 128
  pub same : (j : ℕ) → j < i → get_or new (8 * j + l) 0 ≡ get_or m j 0
  pub others : (j : ℕ) → j < 8 → (j ≡ l → ⊥) → Kept j old new

pub loading_next : (m : List ℕ) (l i x : ℕ) (old w : List ℕ) → i < 16 → l < 8 → x ≡ get_or m i 0 → Loading m l i old w → Loading m l (i + 1) old (set w (8 * i + l) x)
loading_next m l i x old w h hl q u =
    let y : length w ≡ 128 = u.long in
    record {
      long = length-set w (8 * i + l) _ ∙ y;
      same = λ j b. same j b (ℕ_discrete j i);
      others = λ j hj p k. set_kept w l j i _ hl hj p k ∙ u.others j hj p k;
    }
  where
    same : (j : ℕ) → j < i + 1 → Dec (j ≡ i) → get_or (set w (8 * i + l) x) (8 * j + l) 0 ≡ get_or m j 0
    same j b (yes e) = let y : length w ≡ 128 = u.long in rw e (get_or-set_same w (8 * i + l) x 0 (omega arith) ∙ q)
    same j b (no e) = set_past w l j i _ e ∙ u.same j (omega arith)

pub loaded_as : (m k : List ℕ) (l : ℕ) (old new : List ℕ) → m ≡ k → Loaded m l old new → Loaded k l old new
loaded_as m k l old new e u = record { long = u.long; same = λ i h. u.same i h ∙ ap (λ (x : List ℕ). get_or x i 0) e; others = u.others }

pub loads_next : (f : ℕ → List ℕ) (n : ℕ) (w new : List ℕ) → n < 8 → length (f n) ≡ 16 → AllLoaded f n w → Loaded (f n) n w new → AllLoaded f (n + 1) new
loads_next f n w new h y u v = record { long = v.long; done = λ l k. done l k (ℕ_discrete l n) }
  where
    done : (l : ℕ) → l < n + 1 → Dec (l ≡ n) → Window (f l) 0 new l
    done l k (yes z) = rw z (λ i g. v.same i g ∙ sym (schedule_block (f n) i (omega arith)) ∙ ap (λ (x : ℕ). get_or (schedule_of 48 (f n)) x 0) (sym (zero-add i)))
    done l k (no z) = λ i g. v.others l (omega arith) z i ∙ u.done l (omega arith) i g

-- ---- all rounds, four after four

pub standing_rolled : (n t : ℕ) (w v : List ℕ) → 0 < t → t < 64 → t % 16 ≡ 0 → AllRolled n w v → Standing t n w v
standing_rolled n t w v p h q u =
    let d : (t - 1) / 16 * 16 + 16 ≡ t / 16 * 16 = omega arith in
    record { long = u.long; done = λ l k m y a. subst (λ (x : ℕ). Window m x v l) d (u.onward l k m ((t - 1) / 16 * 16) y (omega arith) a) }

pub rounded_start : (n : ℕ) (s w : List ℕ) → length s ≡ 64 → length w ≡ 128 → Rounded 0 n s w s w
unfolding rounds_of
rounded_start n s w z y = record { long = z; wide = y; done = λ l h m e v. refl; at_hand = λ l h m e v. v }

pub rounded_next : (t n : ℕ) (s₀ w₀ s w s' w' : List ℕ) → t % 4 ≡ 0 → Rounded t n s₀ w₀ s w → Standing t n w w' → EachLane (λ l. rounds_at w' l t 4 (lane_of s l)) n s s'
    → Rounded (t + 4) n s₀ w₀ s' w'
rounded_next t n s₀ w₀ s w s' w' q u v e =
    let d : t / 16 * 16 ≡ (t + 4 - 1) / 16 * 16 = omega arith in
    record {
      long = e.long;
      wide = v.long;
      done = λ l h m y p.
          e.done l h ∙ ap (λ (x : State). rounds_at w' l t 4 x) (u.done l h m y p)
          ∙ rounds_window m w' l t 4 (lane_of s₀ l) q (omega arith) (v.done l h m y (u.at_hand l h m y p));
      at_hand = λ l h m y p. subst (λ (k : ℕ). Window m k w' l) d (v.done l h m y (u.at_hand l h m y p));
    }

pub blocked : (n : ℕ) (h w s h' w' : List ℕ) → Rounded 64 n h w s w' → EachLane (λ l. added_of (lane_of h l) (lane_of s l)) n h h' → Blocked n h w h' w'
unfolding compress_of
blocked n h w s h' w' u e =
    record { long = e.long; wide = u.wide; done = λ l b m y p. e.done l b ∙ ap (added_of (lane_of h l)) (u.done l b m y p); left = e.left }

-- ---- block after block

pub blocks_start : (p : ℕ → List ℕ) (n : ℕ) (h : List ℕ) → length h ≡ 64 → EachLane (λ l. after (lane_of h l) 0 (p l)) n h h
unfolding after
blocks_start p n h z = record { long = z; done = λ l b. refl; left = λ l k b. refl }

pub blocks_next : (p : ℕ → List ℕ) (n b : ℕ) (old h w new v : List ℕ) → EachLane (λ l. after (lane_of old l) b (p l)) n old h
    → AllLoaded (λ l. words 16 (drop (64 * b) (p l))) n w → Blocked n h w new v → EachLane (λ l. after (lane_of old l) (b + 1) (p l)) n old new
blocks_next p n b old h w new v u a k =
    record {
      long = k.long;
      done = λ l q.
          k.done l q (words 16 (drop (64 * b) (p l))) (words_length 16 _) (a.done l q)
          ∙ ap (λ (x : State). compress_of x (words 16 (drop (64 * b) (p l)))) (u.done l q) ∙ sym (after_more (lane_of old l) b (p l));
      left = λ l q d. k.left l q d ∙ u.left l q d;
    }
