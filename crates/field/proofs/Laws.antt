-- The laws of the field. Assumes nothing.
use mathlib.Core.Path.{◌≡◌, refl, sym, ap, ap₂, ◌∙◌}
use mathlib.Core.Bool.{Bool}
use Prim.Native.Nat.{ℕ, zero, suc, ◌+◌, ◌-◌, ◌*◌, ◌/◌, ◌%◌, ◌^◌, ◌≤◌, ◌<◌}
use native.Mathlib.Numerals.{add-one}
use native.Mathlib.Nat.{pow-suc, div-div-eq-div-mul, mod-lt, mod-eq_of_lt, mul-zero, mul-one}
use native.Mathlib.Omega.{arith}
use lib.Dec.{T, eqb, eqb→eq, lit<}
use lib.Bits.{bit_xor, xor_shr, xor_mod, xor_lt, xor_block, xor_zero_l, xor_zero_r}
use Rattle.field.specs.Field.{xtime, mul_n, mul}
use Rattle.field.proofs.Below.{every, below}
use Rattle.octets.proofs.Xor.{two_cases, bit_lt, xor_assoc, xor_swap, times_bit}

-- ---- doubling
xor_double : (a b : ℕ) → bit_xor a b * 2 ≡ bit_xor (a * 2) (b * 2)
xor_double a b =
    sym (ap₂ bit_xor (plus0 (a * 2)) (plus0 (b * 2)) ∙ xor_block 1 a b 0 0 (lit< tt) (lit< tt) ∙ sym (plus0 (bit_xor a b * 2)))
  where
    plus0 : (n : ℕ) → n ≡ n + 0
    plus0 n = omega arith

poly_bit : (x y : ℕ) → x < 2 → y < 2 → 27 * bit_xor x y ≡ bit_xor (27 * x) (27 * y)
poly_bit x y hx hy =
    two_cases (λ x. 27 * bit_xor x y ≡ bit_xor (27 * x) (27 * y)) refl
    (two_cases (λ y. 27 * bit_xor 1 y ≡ bit_xor (27 * 1) (27 * y)) refl refl y hy) x hx

pub xtime_plus : (a b : ℕ) → xtime (bit_xor a b) ≡ bit_xor (xtime a) (xtime b)
unfolding xtime
xtime_plus a b =
    ap₂ bit_xor
    (ap (λ (n : ℕ). n % 256) (xor_double a b) ∙ xor_mod (a * 2) (b * 2) 8)
    (ap (λ (n : ℕ). 27 * n)
    (ap (λ (n : ℕ). n % 2) (xor_shr a b 7) ∙ xor_mod (a / 128) (b / 128) 1)
    ∙ poly_bit (a / 128 % 2) (b / 128 % 2) (bit_lt (a / 128)) (bit_lt (b / 128)))
    ∙ xor_swap (a * 2 % 256) (b * 2 % 256) (27 * (a / 128 % 2)) (27 * (b / 128 % 2))

pub xtime_lt : (a : ℕ) → xtime a < 256
unfolding xtime
xtime_lt a = xor_lt 8 (a * 2 % 256) (27 * (a / 128 % 2)) (mod-lt (a * 2) (lit< tt)) (omega (arith, bit_lt (a / 128)))

-- a function times a bit
bit_of : (f : ℕ → ℕ) → f 0 ≡ 0 → (a x : ℕ) → x < 2 → f (a * x) ≡ f a * x
bit_of f z a x h =
    two_cases (λ x. f (a * x) ≡ f a * x)
    (ap f (mul-zero a) ∙ z ∙ sym (mul-zero (f a)))
    (ap f (mul-one a) ∙ sym (mul-one (f a))) x h

-- ---- the product, in its first factor
pub mul_n_plus : (n a b c : ℕ) → mul_n n (bit_xor a b) c ≡ bit_xor (mul_n n a c) (mul_n n b c)
unfolding mul_n
mul_n_plus zero a b c = refl
mul_n_plus (suc n) a b c =
    ap₂ bit_xor (times_bit a b (c % 2) (bit_lt c))
    (ap (λ (x : ℕ). mul_n n x (c / 2)) (xtime_plus a b) ∙ mul_n_plus n (xtime a) (xtime b) (c / 2))
    ∙ xor_swap (a * (c % 2)) (b * (c % 2)) (mul_n n (xtime a) (c / 2)) (mul_n n (xtime b) (c / 2))

pub mul_n_xtime : (n a b : ℕ) → mul_n n (xtime a) b ≡ xtime (mul_n n a b)
unfolding mul_n
mul_n_xtime zero a b = unfold xtime in refl
mul_n_xtime (suc n) a b =
    ap₂ bit_xor (sym (bit_of xtime (unfold xtime in refl) a (b % 2) (bit_lt b))) (mul_n_xtime n (xtime a) (b / 2))
    ∙ sym (xtime_plus (a * (b % 2)) (mul_n n (xtime a) (b / 2)))

mul_n_zero : (n b : ℕ) → mul_n n 0 b ≡ 0
unfolding mul_n xtime
mul_n_zero zero b = refl
mul_n_zero (suc n) b = ap₂ bit_xor (nought (b % 2)) (mul_n_zero n (b / 2))
  where
    nought : (n : ℕ) → 0 * n ≡ 0
    nought n = omega arith

-- the product of two bytes as it stands; the laws of this one ask for bytes
m : ℕ → ℕ → ℕ
m a b = mul_n 8 a b

m_plus_l : (a b c : ℕ) → m (bit_xor a b) c ≡ bit_xor (m a c) (m b c)
unfolding m
m_plus_l a b c = mul_n_plus 8 a b c

zero_m : (b : ℕ) → m 0 b ≡ 0
unfolding m
zero_m b = mul_n_zero 8 b

m_xtime : (a b : ℕ) → m (xtime a) b ≡ xtime (m a b)
unfolding m
m_xtime a b = mul_n_xtime 8 a b

-- (x b) a = (x a) b, whatever stands for b's places
turn : (n x a b : ℕ) → m (mul_n n x b) a ≡ mul_n n (m x a) b
unfolding mul_n
turn zero x a b = zero_m a
turn (suc n) x a b =
    m_plus_l (x * (b % 2)) (mul_n n (xtime x) (b / 2)) a
    ∙ ap₂ bit_xor (bit_of (λ (y : ℕ). m y a) (zero_m a) x (b % 2) (bit_lt b))
    (turn n (xtime x) a (b / 2) ∙ ap (λ (y : ℕ). mul_n n y (b / 2)) (m_xtime x a))

swap : (x a b : ℕ) → m (m x b) a ≡ m (m x a) b
unfolding m
swap x a b = turn 8 x a b

-- ---- 1, order, grouping
one_test : ℕ → Bool
one_test b = eqb (m 1 b) b

one_tested : T (every one_test 256)
unfolding one_test m mul_n xtime
one_tested = tt

one_m : (b : ℕ) → b < 256 → m 1 b ≡ b
unfolding one_test
one_m b h = eqb→eq (m 1 b) b (below one_test 256 one_tested b h)

m_comm : (a b : ℕ) → a < 256 → b < 256 → m a b ≡ m b a
m_comm a b ha hb =
    ap (λ (x : ℕ). m x b) (sym (one_m a ha)) ∙ swap 1 b a ∙ ap (λ (x : ℕ). m x a) (one_m b hb)

-- a byte times a bit is a byte
pub bit_fits : (a b : ℕ) → a < 256 → a * (b % 2) < 256
bit_fits a b h = two_cases (λ x. a * x < 256) (omega arith) (omega arith) (b % 2) (bit_lt b)

mul_n_lt : (n a b : ℕ) → a < 256 → mul_n n a b < 256
unfolding mul_n
mul_n_lt zero a b h = lit< tt
mul_n_lt (suc n) a b h = xor_lt 8 (a * (b % 2)) (mul_n n (xtime a) (b / 2)) (bit_fits a b h) (mul_n_lt n (xtime a) (b / 2) (xtime_lt a))

m_lt : (a b : ℕ) → a < 256 → m a b < 256
unfolding m
m_lt a b h = mul_n_lt 8 a b h

m_assoc : (a b c : ℕ) → a < 256 → b < 256 → c < 256 → m (m a b) c ≡ m a (m b c)
m_assoc a b c ha hb hc =
    ap (λ (x : ℕ). m x c) (m_comm a b ha hb) ∙ swap b c a ∙ m_comm (m b c) a (m_lt b c hb) ha

-- ---- the laws
byte : (a : ℕ) → a % 256 < 256
byte a = mod-lt a (lit< tt)

pub mul_lt : (a b : ℕ) → mul a b < 256
unfolding mul m
mul_lt a b = m_lt (a % 256) (b % 256) (byte a)

low : (a b : ℕ) → mul a b % 256 ≡ mul a b
low a b = mod-eq_of_lt (mul_lt a b)

pub mul_comm_f : (a b : ℕ) → mul a b ≡ mul b a
unfolding mul m
mul_comm_f a b = m_comm (a % 256) (b % 256) (byte a) (byte b)

pub mul_assoc_f : (a b c : ℕ) → mul (mul a b) c ≡ mul a (mul b c)
mul_assoc_f a b c = left ∙ m_assoc (a % 256) (b % 256) (c % 256) (byte a) (byte b) (byte c) ∙ right
  where
    left : mul (mul a b) c ≡ m (m (a % 256) (b % 256)) (c % 256)
    left = unfold mul m in ap (λ (x : ℕ). mul_n 8 x (c % 256)) (low a b)

    right : m (a % 256) (m (b % 256) (c % 256)) ≡ mul a (mul b c)
    right = unfold mul m in ap (λ (x : ℕ). mul_n 8 (a % 256) x) (sym (low b c))

pub plus_mul : (a b c : ℕ) → mul (bit_xor a b) c ≡ bit_xor (mul a c) (mul b c)
unfolding mul m
plus_mul a b c = ap (λ (x : ℕ). mul_n 8 x (c % 256)) (xor_mod a b 8) ∙ m_plus_l (a % 256) (b % 256) (c % 256)

pub mul_plus : (a b c : ℕ) → mul a (bit_xor b c) ≡ bit_xor (mul a b) (mul a c)
mul_plus a b c = mul_comm_f a (bit_xor b c) ∙ plus_mul b c a ∙ ap₂ bit_xor (mul_comm_f b a) (mul_comm_f c a)

pub zero_mul : (b : ℕ) → mul 0 b ≡ 0
unfolding mul m
zero_mul b = zero_m (b % 256)

pub mul_zero_f : (a : ℕ) → mul a 0 ≡ 0
mul_zero_f a = mul_comm_f a 0 ∙ zero_mul a

pub one_mul : (b : ℕ) → b < 256 → mul 1 b ≡ b
unfolding mul m
one_mul b h = ap (mul_n 8 1) (mod-eq_of_lt h) ∙ one_m b h

-- twice a factor below 128, which needs no reducing
twice_small : (a : ℕ) → a < 128 → xtime a ≡ a * 2
unfolding xtime
twice_small a h =
    let e : a * 2 % 256 ≡ a * 2 = omega arith in
    let z : 27 * (a / 128 % 2) ≡ 0 = omega arith in
    ap₂ bit_xor e z ∙ xor_zero_r (a * 2)

pub twice_mul : (a b : ℕ) → a < 128 → mul (a * 2) b ≡ xtime (mul a b)
unfolding mul m
twice_mul a b h =
    let l : a % 256 ≡ a = omega arith in
    let e : a * 2 % 256 ≡ xtime a = omega (arith, twice_small a h) in
    ap (λ (x : ℕ). mul_n 8 x (b % 256)) e ∙ m_xtime a (b % 256) ∙ ap (λ (x : ℕ). xtime (mul_n 8 x (b % 256))) (sym l)

pub mul_one_f : (a : ℕ) → a < 256 → mul a 1 ≡ a
mul_one_f a h = mul_comm_f a 1 ∙ one_mul a h

-- a (b c) = b (a c)
pub mul_left_comm : (a b c : ℕ) → mul a (mul b c) ≡ mul b (mul a c)
mul_left_comm a b c = sym (mul_assoc_f a b c) ∙ ap (λ (x : ℕ). mul x c) (mul_comm_f a b) ∙ mul_assoc_f b a c

-- ---- the loop of a product: the sum so far, and the places that are left
pub product_start : (a b : ℕ) → a < 256 → b < 256 → bit_xor 0 (mul_n 8 a (b / 2 ^ 0)) ≡ mul a b
unfolding mul
product_start a b ha hb = let z : b / 1 ≡ b = omega arith in rw z (xor_zero_l (mul_n 8 a b) ∙ sym (ap₂ (mul_n 8) (mod-eq_of_lt ha) (mod-eq_of_lt hb)))

pub product_turn : (i s a x b R : ℕ) → i < 8 → x ≡ xtime a → bit_xor s (mul_n (8 - i) a (b / 2 ^ i)) ≡ R
    → bit_xor (bit_xor s (a * (b / 2 ^ i % 2))) (mul_n (8 - (i + 1)) x (b / 2 ^ (i + 1))) ≡ R
unfolding mul_n
product_turn i s a x b R h e q =
    let n : 8 - i ≡ suc (8 - (i + 1)) = omega arith in
    let y = b / 2 ^ i in
    let d : b / 2 ^ (i + 1) ≡ y / 2 = rw (add-one, pow-suc) (sym (div-div-eq-div-mul b (2 ^ i) 2)) in
    rw d (xor_assoc s (a * (y % 2)) (mul_n (8 - (i + 1)) x (y / 2))
    ∙ ap (λ (z : ℕ). bit_xor s (bit_xor (a * (y % 2)) (mul_n (8 - (i + 1)) z (y / 2)))) e
    ∙ sym (ap (λ (k : ℕ). bit_xor s (mul_n k a y)) n) ∙ q)

pub product_end : (i s a b R : ℕ) → 8 ≤ i → bit_xor s (mul_n (8 - i) a b) ≡ R → s ≡ R
unfolding mul_n
product_end i s a b R h q =
    let n : 8 - i ≡ 0 = omega arith in sym (xor_zero_r s) ∙ sym (ap (λ (k : ℕ). bit_xor s (mul_n k a b)) n) ∙ q

-- a doubled is {02} times a, and twice doubled {04} times a
pub doubled_once : (a x : ℕ) → a < 256 → x ≡ xtime a → x ≡ mul 2 a
doubled_once a x h e = e ∙ sym (twice_mul 1 a (lit< tt) ∙ ap xtime (one_mul a h))

pub doubled_again : (a x y : ℕ) → a < 256 → x ≡ xtime a → y ≡ xtime x → y ≡ mul 4 a
doubled_again a x y h e f = f ∙ ap xtime (doubled_once a x h e) ∙ sym (twice_mul 2 a (lit< tt))
