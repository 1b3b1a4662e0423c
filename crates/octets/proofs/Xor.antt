-- Laws of the exclusive or that lib.Bits lacks. Assumes nothing.
use mathlib.Core.Path.{◌≡◌, refl, sym, ap, ap₂, ◌∙◌}
use Prim.Native.Nat.{ℕ, zero, suc, ◌+◌, ◌*◌, ◌/◌, ◌%◌, ◌<◌}
use native.Mathlib.Nat.{mod-lt, mul-zero, mul-one}
use native.Mathlib.Omega.{arith}
use lib.Arith.{bin_ind, digits_mod}
use lib.Bits.{bit_xor, differ, xor_step, xor_zero_l, xor_zero_r, xor_comm, xor_self, xor_shr}
use lib.Dec.{lit<}

pub two_cases : (P : ℕ → Type 0) → P 0 → P 1 → (n : ℕ) → n < 2 → P n
two_cases P p q zero h = p
two_cases P p q (suc zero) h = q
two_cases P p q (suc (suc n)) h = absurd (omega arith)

differ_lt : (x y : ℕ) → x < 2 → y < 2 → differ x y < 2
differ_lt x y hx hy =
    two_cases (λ x. differ x y < 2) hy (two_cases (λ y. differ 1 y < 2) (lit< tt) (lit< tt) y hy) x hx

differ_assoc : (x y z : ℕ) → x < 2 → y < 2 → z < 2 → differ (differ x y) z ≡ differ x (differ y z)
differ_assoc x y z hx hy hz =
    two_cases (λ x. differ (differ x y) z ≡ differ x (differ y z)) refl
    (two_cases (λ y. differ (differ 1 y) z ≡ differ 1 (differ y z)) refl
    (two_cases (λ z. differ (differ 1 1) z ≡ differ 1 (differ 1 z)) refl refl z hz) y hy) x hx

pub bit_lt : (a : ℕ) → a % 2 < 2
bit_lt a = mod-lt a (lit< tt)

pub xor_half : (a b : ℕ) → bit_xor a b / 2 ≡ bit_xor (a / 2) (b / 2)
xor_half a b = xor_shr a b 1

pub xor_odd : (a b : ℕ) → bit_xor a b % 2 ≡ differ (a % 2) (b % 2)
xor_odd a b =
    ap (λ (n : ℕ). n % 2) (xor_step a b)
    ∙ digits_mod (bit_xor (a / 2) (b / 2)) (differ_lt (a % 2) (b % 2) (bit_lt a) (bit_lt b))

join : {r r' c c' : ℕ} → r ≡ r' → c ≡ c' → r * 2 + c ≡ r' * 2 + c'
join p q = ap₂ (λ (x y : ℕ). x * 2 + y) p q

pub xor_assoc : (a b c : ℕ) → bit_xor (bit_xor a b) c ≡ bit_xor a (bit_xor b c)
xor_assoc a =
    bin_ind (λ (a : ℕ). (b c : ℕ) → bit_xor (bit_xor a b) c ≡ bit_xor a (bit_xor b c))
    (λ b c. ap (λ (n : ℕ). bit_xor n c) (xor_zero_l b) ∙ sym (xor_zero_l (bit_xor b c)))
    (λ a ih b c.
    xor_step (bit_xor a b) c
    ∙ join (ap (λ (n : ℕ). bit_xor n (c / 2)) (xor_half a b) ∙ ih (b / 2) (c / 2)
    ∙ ap (λ (n : ℕ). bit_xor (a / 2) n) (sym (xor_half b c)))
    (ap (λ (n : ℕ). differ n (c % 2)) (xor_odd a b)
    ∙ differ_assoc (a % 2) (b % 2) (c % 2) (bit_lt a) (bit_lt b) (bit_lt c)
    ∙ ap (λ (n : ℕ). differ (a % 2) n) (sym (xor_odd b c)))
    ∙ sym (xor_step a (bit_xor b c)))
    a

-- (a + b) + (c + d) = (a + c) + (b + d)
pub xor_swap : (a b c d : ℕ) → bit_xor (bit_xor a b) (bit_xor c d) ≡ bit_xor (bit_xor a c) (bit_xor b d)
xor_swap a b c d =
    xor_assoc a b (bit_xor c d)
    ∙ ap (λ (n : ℕ). bit_xor a n) (sym (xor_assoc b c d) ∙ ap (λ (n : ℕ). bit_xor n d) (xor_comm b c) ∙ xor_assoc c b d)
    ∙ sym (xor_assoc a c (bit_xor b d))

-- a sum taken twice is gone
pub xor_cancel : (a b : ℕ) → bit_xor a (bit_xor a b) ≡ b
xor_cancel a b = sym (xor_assoc a a b) ∙ ap (λ (n : ℕ). bit_xor n b) (xor_self a) ∙ xor_zero_l b

pub xor_eq : (a b : ℕ) → bit_xor a b ≡ 0 → a ≡ b
xor_eq a b e = sym (xor_zero_r a) ∙ ap (λ (n : ℕ). bit_xor a n) (sym e) ∙ xor_cancel a b

-- a number times a bit, and times the sum of two bits
pub times_bit : (a b x : ℕ) → x < 2 → bit_xor a b * x ≡ bit_xor (a * x) (b * x)
times_bit a b x h =
    two_cases (λ x. bit_xor a b * x ≡ bit_xor (a * x) (b * x))
    (mul-zero (bit_xor a b) ∙ sym (ap₂ bit_xor (mul-zero a) (mul-zero b)))
    (mul-one (bit_xor a b) ∙ sym (ap₂ bit_xor (mul-one a) (mul-one b)))
    x h
