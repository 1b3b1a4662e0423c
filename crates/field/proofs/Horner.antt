-- Why doubling and adding makes the sum of products: with the weights' bits taken from the highest, the sum so far is that of the products
-- by the weights without their b lowest bits. Assumes nothing.
use mathlib.Core.Path.{◌≡◌, refl, sym, ap, ap₂, ◌∙◌}
use mathlib.Core.Bool.{Bool, true, false, cond}
use mathlib.Core.List.{List}
use Prim.Native.Nat.{ℕ, zero, suc, ◌+◌, ◌-◌, ◌*◌, ◌/◌, ◌%◌, ◌^◌, ◌≤◌, ◌<◌}
use native.Mathlib.Omega.{arith}
use native.Mathlib.Nat.{pow-suc, mul-zero, mul-one, div-div-eq-div-mul, div-le_self, div-one}
use native.Mathlib.Decide.{ℕ_discrete}
use native.Mathlib.Numerals.{add-one}
use borrow.Author.Tests.{ltb-true, ltb-false, lt-ltb, le-ltb}
use lib.Bits.{bit_xor, xor_comm, xor_zero_r, xor_zero_l}
use lib.Dec.{ltb, lit<}
use lib.ListN.{length, get_or}
use Rattle.field.specs.Field.{xtime, mul_n, mul}
use Rattle.field.specs.Sums.{sum_from, weighted}
use Rattle.field.specs.Inside.{bit_of, with_bit, pair, Next}
use Rattle.field.proofs.Laws.{xtime_plus, mul_n_xtime, mul_comm_f, zero_mul, one_mul, mul_lt, twice_mul}
use Rattle.octets.proofs.Xor.{xor_assoc, xor_swap}

-- ---- one weight: its lowest bit apart
-- a place more, of a number that has no such bit
mul_n_more : (n a b : ℕ) → b < 2 ^ n → mul_n (suc n) a b ≡ mul_n n a b
unfolding mul_n
mul_n_more zero a b h =
    let e : b % 2 ≡ 0 = omega arith in
    ap (λ (x : ℕ). bit_xor (a * x) 0) e ∙ ap (λ (x : ℕ). bit_xor x 0) (mul-zero a)
mul_n_more (suc n) a b h = ap (bit_xor (a * (b % 2))) (mul_n_more n (xtime a) (b / 2) (omega (arith, pow-suc 2 n)))

last_bit : (w f : ℕ) → w < 256 → f < 256 → mul w f ≡ bit_xor (xtime (mul (w / 2) f)) (f * (w % 2))
unfolding mul mul_n
last_bit w f hw hf =
    let ew : w % 256 ≡ w = omega arith in
    let ef : f % 256 ≡ f = omega arith in
    let eq : w / 2 % 256 ≡ w / 2 = omega arith in
    mul_comm_f w f
    ∙ ap₂ (mul_n 8) ef ew
    ∙ ap (bit_xor (f * (w % 2))) (mul_n_xtime 7 f (w / 2) ∙ ap xtime (sym (mul_n_more 7 f (w / 2) (omega arith)) ∙ sym (ap₂ (mul_n 8) ef eq) ∙ mul_comm_f f (w / 2)))
    ∙ xor_comm (f * (w % 2)) (xtime (mul (w / 2) f))

halved : (w b : ℕ) → w / 2 ^ b / 2 ≡ w / 2 ^ suc b
halved w b = div-div-eq-div-mul w (2 ^ b) 2 ∙ ap (λ (n : ℕ). w / n) (sym (pow-suc 2 b))

-- ---- a row of them
next_bit : (b : ℕ) (w f : ℕ → ℕ) → ((j : ℕ) → w j < 256) → ((j : ℕ) → f j < 256) → (k n : ℕ)
    → sum_from (λ j. mul (w j / 2 ^ b) (f j)) k n
    ≡ bit_xor (xtime (sum_from (λ j. mul (w j / 2 ^ suc b) (f j)) k n)) (sum_from (λ j. f j * (w j / 2 ^ b % 2)) k n)
unfolding sum_from
next_bit b w f hw hf k zero = unfold xtime in refl
next_bit b w f hw hf k (suc n) =
    let low = w k / 2 ^ b in
    let H = sum_from (λ j. mul (w j / 2 ^ suc b) (f j)) (suc k) n in
    let B = sum_from (λ j. f j * (w j / 2 ^ b % 2)) (suc k) n in
    let one : mul low (f k) ≡ bit_xor (xtime (mul (w k / 2 ^ suc b) (f k))) (f k * (low % 2)) =
    last_bit low (f k) (omega (arith, div-le_self (w k) (2 ^ b), hw k)) (hf k)
    ∙ ap (λ (x : ℕ). bit_xor (xtime (mul x (f k))) (f k * (low % 2))) (halved (w k) b) in
    ap₂ bit_xor one (next_bit b w f hw hf (suc k) n)
    ∙ xor_swap (xtime (mul (w k / 2 ^ suc b) (f k))) (f k * (low % 2)) (xtime H) B
    ∙ ap (λ (x : ℕ). bit_xor x (bit_xor (f k * (low % 2)) B)) (sym (xtime_plus (mul (w k / 2 ^ suc b) (f k)) H))

sum_zero : (g : ℕ → ℕ) → ((j : ℕ) → g j ≡ 0) → (k n : ℕ) → sum_from g k n ≡ 0
unfolding sum_from
sum_zero g z k zero = refl
sum_zero g z k (suc n) = ap₂ bit_xor (z k) (sum_zero g z (suc k) n)

sum_ext : (g h : ℕ → ℕ) → ((j : ℕ) → g j ≡ h j) → (k n : ℕ) → sum_from g k n ≡ sum_from h k n
unfolding sum_from
sum_ext g h e k zero = refl
sum_ext g h e k (suc n) = ap₂ bit_xor (e k) (sum_ext g h e (suc k) n)

-- ---- byte i of the sum so far: the weights without their b lowest bits
module _ (ws at src : List ℕ) (i : ℕ) where
  source : ℕ → ℕ
  source j = get_or src (get_or at j 0 + i) 0

  pub high : ℕ → ℕ
  high b = sum_from (λ j. mul (get_or ws j 0 / 2 ^ b) (get_or src (get_or at j 0 + i) 0)) 0 (length ws)

  with_all : (b : ℕ) → with_bit b ws at src i 0 ≡ sum_from (λ j. source j * (get_or ws j 0 / 2 ^ b % 2)) 0 (length ws)
  unfolding with_bit bit_of source
  with_all b = let e : length ws - 0 ≡ length ws = omega arith in ap (sum_from (λ j. source j * (get_or ws j 0 / 2 ^ b % 2)) 0) e

  module _ (hw : (j : ℕ) → get_or ws j 0 < 256) (hs : (j : ℕ) → get_or src j 0 < 256) where
    lower : (b : ℕ) → high b ≡ bit_xor (xtime (high (suc b))) (with_bit b ws at src i 0)
    unfolding high source
    lower b = next_bit b (λ j. get_or ws j 0) source hw (λ j. hs (get_or at j 0 + i)) 0 (length ws) ∙ ap (bit_xor (xtime (high (suc b)))) (sym (with_all b))

    -- before the first turn
    pub horner_start : (x : ℕ) → mul 0 x ≡ high 8
    unfolding high
    horner_start x =
        zero_mul x
        ∙ sym (sum_zero (λ j. mul (get_or ws j 0 / 2 ^ 8) (get_or src (get_or at j 0 + i) 0))
        (λ j. ap (λ (n : ℕ). mul n (get_or src (get_or at j 0 + i) 0)) (byte (get_or ws j 0) (hw j)) ∙ zero_mul (get_or src (get_or at j 0 + i) 0)) 0 (length ws))
      where
        byte : (n : ℕ) → n < 256 → n / 2 ^ 8 ≡ 0
        byte n h = omega arith

    -- a turn: x is the sum so far, y twice that, z the turn's
    pub horner_turn : (b c x y z : ℕ) → c ≡ suc b → x ≡ high c → y ≡ xtime x → z ≡ bit_xor y (with_bit b ws at src i 0) → z ≡ high b
    horner_turn b c x y z e p q t =
        t ∙ ap (λ (n : ℕ). bit_xor n (with_bit b ws at src i 0)) (q ∙ ap xtime (p ∙ ap high e)) ∙ sym (lower b)

    -- after the turn of bit 0
    pub horner_end : (b x : ℕ) → b ≡ 0 → x ≡ high b → x ≡ weighted ws at src i
    unfolding high weighted
    horner_end b x e p =
        p ∙ ap high e
        ∙ sum_ext (λ j. mul (get_or ws j 0 / 1) (get_or src (get_or at j 0 + i) 0)) (λ j. mul (get_or ws j 0) (get_or src (get_or at j 0 + i) 0))
        (λ j. ap (λ (n : ℕ). mul n (get_or src (get_or at j 0 + i) 0)) (div-one (get_or ws j 0))) 0 (length ws)

-- ---- the turn of a bit: what is left to add
sum_step : (g : ℕ → ℕ) (k m : ℕ) → k < m → sum_from g k (m - k) ≡ bit_xor (g k) (sum_from g (k + 1) (m - (k + 1)))
unfolding sum_from
sum_step g k m h = let e : m - k ≡ suc (m - (k + 1)) = omega arith in rw (e, add-one k)

sum_skip : (g : ℕ → ℕ) (m d k : ℕ) → k + d ≤ m → ((j : ℕ) → k ≤ j → j < k + d → g j ≡ 0) → sum_from g k (m - k) ≡ sum_from g (k + d) (m - (k + d))
sum_skip g m zero k h z = let e : k ≡ k + 0 = omega arith in ap (λ (n : ℕ). sum_from g n (m - n)) e
sum_skip g m (suc d) k h z =
    let e : k + 1 + d ≡ k + suc d = omega arith in
    sum_step g k m (omega arith)
    ∙ ap (λ (n : ℕ). bit_xor n (sum_from g (k + 1) (m - (k + 1)))) (z k (omega arith) (omega arith))
    ∙ xor_zero_l (sum_from g (k + 1) (m - (k + 1)))
    ∙ sum_skip g m d (k + 1) (omega arith) (λ j l u. z j (omega arith) (omega arith))
    ∙ ap (λ (n : ℕ). sum_from g n (m - n)) e

module _ (b : ℕ) (ws at src : List ℕ) (i : ℕ) where
  with_end : (k : ℕ) → length ws ≤ k → with_bit b ws at src i k ≡ 0
  unfolding with_bit sum_from
  with_end k h = let e : length ws - k ≡ 0 = omega arith in rw e

  -- a source that has the bit
  with_here : (k : ℕ) → k < length ws → bit_of b ws k ≡ 1 → with_bit b ws at src i k ≡ bit_xor (get_or src (get_or at k 0 + i) 0) (with_bit b ws at src i (k + 1))
  unfolding with_bit
  with_here k h e =
      let f = get_or src (get_or at k 0 + i) 0 in
      sum_step (λ j. get_or src (get_or at j 0 + i) 0 * bit_of b ws j) k (length ws) h
      ∙ ap (λ (n : ℕ). bit_xor n (with_bit b ws at src i (k + 1))) (ap (λ (n : ℕ). f * n) e ∙ mul-one f)

  -- those that have it not, up to the next that has
  pub with_next : (k r : ℕ) → Next b ws k r → with_bit b ws at src i k ≡ with_bit b ws at src i r
  unfolding with_bit
  with_next k r n = go (ltb k (length ws)) refl
    where
      far : length ws ≤ k → with_bit b ws at src i k ≡ with_bit b ws at src i r
      far h = with_end k h ∙ sym (with_end r (omega (arith, n.none h)))

      near : k < length ws → with_bit b ws at src i k ≡ with_bit b ws at src i r
      near h =
          let p : k ≤ r = n.past (omega arith) in
          let e : k + (r - k) ≡ r = omega arith in
          sum_skip (λ j. get_or src (get_or at j 0 + i) 0 * bit_of b ws j) (length ws) (r - k) k (omega (arith, n.within))
          (λ j l u. ap (λ (x : ℕ). get_or src (get_or at j 0 + i) 0 * x) (n.between j l (omega arith)) ∙ mul-zero (get_or src (get_or at j 0 + i) 0))
          ∙ ap (λ (x : ℕ). with_bit b ws at src i x) e

      go : (t : Bool) → ltb k (length ws) ≡ t → with_bit b ws at src i k ≡ with_bit b ws at src i r
      go true e = near (ltb-true k (length ws) e)
      go false e = far (ltb-false k (length ws) e)

  -- two sources, or the last one
  with_pair : (k r s : ℕ) → length at ≡ length ws → k < length ws → bit_of b ws k ≡ 1 → Next b ws (k + 1) r → Next b ws (r + 1) s
      → with_bit b ws at src i k ≡ bit_xor (pair at src i k r) (with_bit b ws at src i s)
  unfolding pair
  with_pair k r s l h e n o =
      with_here k h e ∙ ap (bit_xor first) (with_next (k + 1) r n ∙ second (ltb r (length at)) refl)
      ∙ sym (xor_assoc first (cond (ltb r (length at)) (get_or src (get_or at r 0 + i) 0) 0) (with_bit b ws at src i s))
    where
      first : ℕ
      first = get_or src (get_or at k 0 + i) 0

      second : (t : Bool) → ltb r (length at) ≡ t
          → with_bit b ws at src i r ≡ bit_xor (cond (ltb r (length at)) (get_or src (get_or at r 0 + i) 0) 0) (with_bit b ws at src i s)
      second true q =
          let h : r < length ws = omega (arith, ltb-true r (length at) q) in
          rw q (with_here r h (n.here h) ∙ ap (bit_xor (get_or src (get_or at r 0 + i) 0)) (with_next (r + 1) s o))
      second false q =
          let h : length ws ≤ r = omega (arith, ltb-false r (length at) q) in
          rw q (with_end r h ∙ sym (xor_zero_l (with_bit b ws at src i s) ∙ with_end s (omega (arith, o.none (omega arith)))))

  -- a pass of the turn: what the sum comes to stays
  pub turn_pass : (k r s g x y R : ℕ) → length at ≡ length ws → k < length ws → bit_of b ws k ≡ 1 → Next b ws (k + 1) r → Next b ws (r + 1) s
      → bit_xor (mul g x) (with_bit b ws at src i k) ≡ R → y < 256 → y ≡ bit_xor (mul g x) (pair at src i k r)
      → bit_xor (mul 1 y) (with_bit b ws at src i s) ≡ R
  turn_pass k r s g x y R l h e n o q hy p =
      ap (λ (v : ℕ). bit_xor v (with_bit b ws at src i s)) (one_mul y hy ∙ p)
      ∙ xor_assoc (mul g x) (pair at src i k r) (with_bit b ws at src i s)
      ∙ ap (bit_xor (mul g x)) (sym (with_pair k r s l h e n o)) ∙ q

  pub turn_start : (k g x : ℕ) → Next b ws 0 k → bit_xor (mul g x) (with_bit b ws at src i k) ≡ bit_xor (mul g x) (with_bit b ws at src i 0)
  turn_start k g x n = ap (bit_xor (mul g x)) (sym (with_next 0 k n))

  pub turn_end : (k y R : ℕ) → length ws ≤ k → bit_xor y (with_bit b ws at src i k) ≡ R → y ≡ R
  turn_end k y R h q = sym (xor_zero_r y) ∙ ap (bit_xor y) (sym (with_end k h)) ∙ q

-- ---- looking for the next weight with the bit
pub found : (b : ℕ) (ws : List ℕ) (from k : ℕ) → from ≤ k → k < length ws → ((j : ℕ) → from ≤ j → j < k → bit_of b ws j ≡ 0)
    → get_or ws k 0 / 2 ^ b % 2 ≡ 1 → Next b ws from k
unfolding bit_of
found b ws from k l h z e =
    record { within = omega arith; past = λ u. l; between = z; here = λ u. e; none = λ u. absurd (omega arith) }

pub passed_by : (b : ℕ) (ws : List ℕ) (from k : ℕ) → ((j : ℕ) → from ≤ j → j < k → bit_of b ws j ≡ 0) → (get_or ws k 0 / 2 ^ b % 2 ≡ 1 → ⊥)
    → (j : ℕ) → from ≤ j → j < k + 1 → bit_of b ws j ≡ 0
unfolding bit_of
passed_by b ws from k z ne j l u = go (ℕ_discrete j k)
  where
    bit : (n : ℕ) → (n % 2 ≡ 1 → ⊥) → n % 2 ≡ 0
    bit n e = omega arith

    go : Dec (j ≡ k) → get_or ws j 0 / 2 ^ b % 2 ≡ 0
    go (yes q) = rw q (bit (get_or ws k 0 / 2 ^ b) ne)
    go (no q) = z j l (omega arith)

-- the search goes on behind what it found
pub further : (b : ℕ) (ws : List ℕ) (k r s : ℕ) → k < length ws → Next b ws (k + 1) r → Next b ws (r + 1) s → length ws - s < length ws - k
further b ws k r s h n o =
    let p : k + 1 ≤ r = n.past (omega arith) in go (ltb r (length ws)) refl
  where
    go : (t : Bool) → ltb r (length ws) ≡ t → length ws - s < length ws - k
    go true e = let q : r + 1 ≤ s = o.past (omega (arith, ltb-true r (length ws) e)) in omega (arith, n.past (omega arith), o.within)
    go false e = let q : s ≡ length ws = o.none (omega (arith, ltb-false r (length ws) e)) in omega arith

-- ---- one pass: two sources, or one
pub both_folded : (at src : List ℕ) (k i j x : ℕ) → j < length at
    → bit_xor x (bit_xor (get_or src (get_or at i 0 + k) 0) (get_or src (get_or at j 0 + k) 0)) ≡ bit_xor x (pair at src k i j)
unfolding pair
both_folded at src k i j x h = rw (lt-ltb j (length at) h)

pub one_folded : (at src : List ℕ) (k i j x : ℕ) → length at ≤ j → bit_xor x (get_or src (get_or at i 0 + k) 0) ≡ bit_xor x (pair at src k i j)
unfolding pair
one_folded at src k i j x h = rw (le-ltb j (length at) h) (ap (bit_xor x) (sym (xor_zero_r (get_or src (get_or at i 0 + k) 0))))

-- ---- what is owed, doubled
pub paid_twice : (x y : ℕ) → y ≡ mul 4 x → mul 2 y ≡ xtime (mul 4 x)
paid_twice x y e = twice_mul 1 y (lit< tt) ∙ ap xtime (ap (mul 1) e ∙ one_mul (mul 4 x) (mul_lt 4 x))
