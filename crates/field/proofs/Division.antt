-- The inverse, division, and the powers that they are made of. That a byte above 0 times its inverse is 1 is one computed test. Assumes nothing.
use mathlib.Core.Path.{◌≡◌, refl, sym, ap, ap₂, ◌∙◌}
use mathlib.Core.Bool.{Bool}
use Prim.Native.Nat.{ℕ, zero, suc, ◌+◌, ◌<◌}
use native.Mathlib.Nat.{not-suc-le-zero, le_of_suc-le-suc}
use native.Mathlib.Omega.{arith}
use lib.Dec.{T, eqb, eqb→eq, lit<}
use Rattle.field.specs.Field.{xtime, mul_n, mul, pow, square, sum_pow, inv, div}
use Rattle.field.proofs.Below.{every, below}
use Rattle.field.proofs.Laws.{mul_lt, mul_comm_f, mul_assoc_f, mul_left_comm, zero_mul, one_mul, mul_one_f}

-- ---- powers
pub pow_lt : (a n : ℕ) → pow a n < 256
unfolding pow
pow_lt a zero = lit< tt
pow_lt a (suc n) = mul_lt a (pow a n)

pub pow_add : (a i j : ℕ) → mul (pow a i) (pow a j) ≡ pow a (i + j)
unfolding pow
pow_add a zero j = one_mul (pow a j) (pow_lt a j) ∙ ap (pow a) (plus j)
  where
    plus : (j : ℕ) → j ≡ 0 + j
    plus j = omega arith
pow_add a (suc i) j =
    mul_assoc_f a (pow a i) (pow a j) ∙ ap (mul a) (pow_add a i j)
    ∙ ap (pow a) (plus i j)
  where
    plus : (i j : ℕ) → suc (i + j) ≡ suc i + j
    plus i j = omega arith

-- the product of two powers that are at hand
pub powers : (a i j x y r : ℕ) → x ≡ pow a i → y ≡ pow a j → r ≡ mul x y → r ≡ pow a (i + j)
powers a i j x y r p q e = e ∙ ap₂ mul p q ∙ pow_add a i j

pub pow_one : (a : ℕ) → a < 256 → pow a 1 ≡ a
unfolding pow
pow_one a h = mul_one_f a h

-- squaring and multiplying, from the power i
grow : (a i t : ℕ) → t ≡ pow a i → mul (square t) a ≡ pow a (suc (i + i))
unfolding square
grow a i t e =
    ap (λ (x : ℕ). mul (mul x x) a) e ∙ ap (λ (x : ℕ). mul x a) (pow_add a i i) ∙ mul_comm_f (pow a (i + i)) a ∙ (unfold pow in refl)

sum_pow_pow : (a : ℕ) → a < 256 → sum_pow 6 a ≡ pow a 127
unfolding sum_pow
sum_pow_pow a h =
    grow a 63 (sum_pow 5 a) (grow a 31 (sum_pow 4 a) (grow a 15 (sum_pow 3 a) (grow a 7 (sum_pow 2 a) (grow a 3 (sum_pow 1 a) (grow a 1 a (sym (pow_one a h)))))))

pub inv_pow : (a : ℕ) → a < 256 → inv a ≡ pow a 254
unfolding inv square
inv_pow a h = ap₂ mul (sum_pow_pow a h) (sum_pow_pow a h) ∙ pow_add a 127 127

-- ---- the inverse
-- the squares of a, one after the other, and their product
pub by_squares : (a a2 a4 a8 a16 a32 a64 a128 l l' low h high r : ℕ) → a < 256
    → a2 ≡ mul a a → a4 ≡ mul a2 a2 → a8 ≡ mul a4 a4 → a16 ≡ mul a8 a8 → a32 ≡ mul a16 a16 → a64 ≡ mul a32 a32 → a128 ≡ mul a64 a64
    → l ≡ mul a2 a4 → l' ≡ mul a8 a16 → low ≡ mul l l' → h ≡ mul a32 a64 → high ≡ mul h a128 → r ≡ mul low high → r ≡ inv a
by_squares a a2 a4 a8 a16 a32 a64 a128 l l' low h high r b e2 e4 e8 e16 e32 e64 e128 f f' flow g ghigh e =
    let p1 : a ≡ pow a 1 = sym (pow_one a b) in
    let p2 : a2 ≡ pow a 2 = powers a 1 1 a a a2 p1 p1 e2 in
    let p4 : a4 ≡ pow a 4 = powers a 2 2 a2 a2 a4 p2 p2 e4 in
    let p8 : a8 ≡ pow a 8 = powers a 4 4 a4 a4 a8 p4 p4 e8 in
    let p16 : a16 ≡ pow a 16 = powers a 8 8 a8 a8 a16 p8 p8 e16 in
    let p32 : a32 ≡ pow a 32 = powers a 16 16 a16 a16 a32 p16 p16 e32 in
    let p64 : a64 ≡ pow a 64 = powers a 32 32 a32 a32 a64 p32 p32 e64 in
    let p128 : a128 ≡ pow a 128 = powers a 64 64 a64 a64 a128 p64 p64 e128 in
    let plow : low ≡ pow a 30 = powers a 6 24 l l' low (powers a 2 4 a2 a4 l p2 p4 f) (powers a 8 16 a8 a16 l' p8 p16 f') flow in
    let phigh : high ≡ pow a 224 = powers a 96 128 h a128 high (powers a 32 64 a32 a64 h p32 p64 g) p128 ghigh in
    powers a 30 224 low high r plow phigh e ∙ sym (inv_pow a b)

inverse_test : ℕ → Bool
inverse_test n = eqb (mul (suc n) (inv (suc n))) 1

inverses_tested : T (every inverse_test 255)
unfolding inverse_test inv square sum_pow mul mul_n xtime
inverses_tested = tt

pub mul_inv : (a : ℕ) → 0 < a → a < 256 → mul a (inv a) ≡ 1
unfolding inverse_test
mul_inv zero p h = absurd (not-suc-le-zero p)
mul_inv (suc n) p h = eqb→eq (mul (suc n) (inv (suc n))) 1 (below inverse_test 255 inverses_tested n (le_of_suc-le-suc h))

pub inv_lt : (a : ℕ) → inv a < 256
unfolding inv square
inv_lt a = mul_lt (sum_pow 6 a) (sum_pow 6 a)

pub div_inv : (a b : ℕ) → div a b ≡ mul a (inv b)
unfolding div
div_inv a b = refl

-- b (a / b) and (b a) / b
pub mul_div : (a b : ℕ) → a < 256 → 0 < b → b < 256 → mul b (div a b) ≡ a
unfolding div
mul_div a b ha p hb = mul_left_comm b a (inv b) ∙ ap (mul a) (mul_inv b p hb) ∙ mul_one_f a ha

pub div_mul : (a b : ℕ) → a < 256 → 0 < b → b < 256 → div (mul b a) b ≡ a
unfolding div
div_mul a b ha p hb =
    ap (λ (x : ℕ). mul x (inv b)) (mul_comm_f b a) ∙ mul_assoc_f a b (inv b) ∙ ap (mul a) (mul_inv b p hb) ∙ mul_one_f a ha

pub zero_div : (b : ℕ) → div 0 b ≡ 0
unfolding div
zero_div b = zero_mul (inv b)

pub div_lt : (a b : ℕ) → div a b < 256
unfolding div
div_lt a b = mul_lt a (inv b)

-- no zero divisors
pub no_zero : (a b : ℕ) → a < 256 → 0 < a → b < 256 → mul a b ≡ 0 → b ≡ 0
no_zero a b ha p hb e = sym (div_mul b a hb p ha) ∙ ap (λ (x : ℕ). div x a) e ∙ zero_div a

-- ---- products of quotients
-- (a b) (c d) = (a c) (b d)
mul_swap : (a b c d : ℕ) → mul (mul a b) (mul c d) ≡ mul (mul a c) (mul b d)
mul_swap a b c d = mul_assoc_f a b (mul c d) ∙ ap (mul a) (mul_left_comm b c d) ∙ sym (mul_assoc_f a c (mul b d))

pow_times : (a b n : ℕ) → pow (mul a b) n ≡ mul (pow a n) (pow b n)
unfolding pow
pow_times a b zero = sym (one_mul 1 (lit< tt))
pow_times a b (suc n) = ap (mul (mul a b)) (pow_times a b n) ∙ mul_swap a b (pow a n) (pow b n)

inv_times : (a b : ℕ) → a < 256 → b < 256 → inv (mul a b) ≡ mul (inv a) (inv b)
inv_times a b ha hb = inv_pow (mul a b) (mul_lt a b) ∙ pow_times a b 254 ∙ sym (ap₂ mul (inv_pow a ha) (inv_pow b hb))

-- (n u) / (d v) = (u / v) (n / d)
pub div_times : (n u d v : ℕ) → d < 256 → v < 256 → div (mul n u) (mul d v) ≡ mul (div u v) (div n d)
unfolding div
div_times n u d v hd hv =
    ap₂ mul (mul_comm_f n u) (inv_times d v hd hv ∙ mul_comm_f (inv d) (inv v)) ∙ mul_swap u n (inv v) (inv d)

pub div_one : div 1 1 ≡ 1
unfolding div
div_one = mul_inv 1 (lit< tt) (lit< tt)
