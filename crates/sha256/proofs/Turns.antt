-- A rotation of a sum is the sum of the rotations, and a rotation of a rotation is one rotation. Assumes nothing.
use mathlib.Core.Path.{◌≡◌, sym, ap, ap₂, ◌∙◌}
use Prim.Native.Nat.{ℕ, ◌+◌, ◌*◌, ◌/◌, ◌%◌, ◌^◌, ◌<◌}
use native.Mathlib.Omega.{arith}
use native.Mathlib.Nat.{div-add-mod'}
use lib.Arith.{digits_mod, digits_div}
use lib.Bits.{bit_or, bit_xor, xor_shr, xor_mod, xor_block, xor_lt, or_shifted_r}
use Rattle.octets.proofs.Xor.{xor_assoc}
use Rattle.sha256.specs.Sha256.{ROTR, Σ0, Σ1}

-- ---- a rotation by n, of which k is the rest of 32, as a sum
abbrev rot : ℕ → ℕ → ℕ → ℕ
rot n k x = x % 2 ^ n * 2 ^ k + x / 2 ^ n

-- what n and k are to each other
record Whole (n k : ℕ) : Type 0 where
  low : (x : ℕ) → x < 2 ^ 32 → x * 2 ^ k % 2 ^ 32 ≡ x % 2 ^ n * 2 ^ k
  high : (x : ℕ) → x < 2 ^ 32 → x / 2 ^ n < 2 ^ k
  fits : (x : ℕ) → x < 2 ^ 32 → rot n k x < 2 ^ 32

abbrev R : ℕ → ℕ → ℕ → ℕ
R n k x = bit_or (x / 2 ^ n) (x * 2 ^ k % 2 ^ 32)

module _ (n k : ℕ) (h : Whole n k) where
  turned : (x : ℕ) → x < 2 ^ 32 → R n k x ≡ rot n k x
  turned x l = ap (bit_or (x / 2 ^ n)) (h.low x l) ∙ or_shifted_r (x % 2 ^ n) k (x / 2 ^ n) (h.high x l)

  R_lt : (x : ℕ) → x < 2 ^ 32 → R n k x < 2 ^ 32
  R_lt x l = let e : R n k x ≡ rot n k x = turned x l in let b : rot n k x < 2 ^ 32 = h.fits x l in omega arith

  -- a rotation of a sum
  spread : (x y : ℕ) → x < 2 ^ 32 → y < 2 ^ 32 → R n k (bit_xor x y) ≡ bit_xor (R n k x) (R n k y)
  spread x y l m =
      turned (bit_xor x y) (xor_lt 32 x y l m)
      ∙ ap₂ (λ (a b : ℕ). a * 2 ^ k + b) (xor_mod x y n) (xor_shr x y n)
      ∙ sym (ap₂ bit_xor (turned x l) (turned y m) ∙ xor_block k (x % 2 ^ n) (y % 2 ^ n) (x / 2 ^ n) (y / 2 ^ n) (h.high x l) (h.high y m))

-- a rotation of a rotation
twice : (a c b d e g : ℕ) → (p : Whole a c) → (q : Whole b d) → (r : Whole e g) → ((x : ℕ) → x < 2 ^ 32 → rot a c (rot b d x) ≡ rot e g x)
    → (x : ℕ) → x < 2 ^ 32 → R a c (R b d x) ≡ R e g x
twice a c b d e g p q r f x l =
    ap (R a c) (turned b d q x l) ∙ turned a c p (rot b d x) (q.fits x l) ∙ f x l ∙ sym (turned e g r x l)

split : (n k q r : ℕ) → r < 2 ^ n → rot n k (q * 2 ^ n + r) ≡ r * 2 ^ k + q
split n k q r h = ap₂ (λ (a b : ℕ). a * 2 ^ k + b) (digits_mod q h) (digits_div q h)

compose : (a c b d e g : ℕ) → ((x : ℕ) → x % 2 ^ a < 2 ^ a) → ((x : ℕ) → x % 2 ^ b < 2 ^ b)
    → ((lo m hi : ℕ) → lo * 2 ^ d + (hi * 2 ^ a + m) ≡ (lo * 2 ^ g + hi) * 2 ^ a + m)
    → ((lo m hi : ℕ) → m * 2 ^ c + (lo * 2 ^ g + hi) ≡ (m * 2 ^ b + lo) * 2 ^ g + hi)
    → ((lo m hi : ℕ) → (hi * 2 ^ a + m) * 2 ^ b + lo ≡ hi * 2 ^ e + (m * 2 ^ b + lo))
    → ((lo m : ℕ) → lo < 2 ^ b → m < 2 ^ a → m * 2 ^ b + lo < 2 ^ e)
    → (x : ℕ) → rot a c (rot b d x) ≡ rot e g x
compose a c b d e g ha hb p q r t x =
    let lo : ℕ = x % 2 ^ b in
    let m : ℕ = x / 2 ^ b % 2 ^ a in
    let hi : ℕ = x / 2 ^ b / 2 ^ a in
    let s : x / 2 ^ b ≡ hi * 2 ^ a + m = sym (div-add-mod' (x / 2 ^ b) (2 ^ a)) in
    let w : x ≡ hi * 2 ^ e + (m * 2 ^ b + lo) = sym (div-add-mod' x (2 ^ b)) ∙ ap (λ (y : ℕ). y * 2 ^ b + lo) s ∙ r lo m hi in
    ap (λ (y : ℕ). rot a c (lo * 2 ^ d + y)) s
    ∙ ap (rot a c) (p lo m hi)
    ∙ split a c (lo * 2 ^ g + hi) m (ha (x / 2 ^ b))
    ∙ q lo m hi
    ∙ sym (ap (rot e g) w ∙ split e g hi (m * 2 ^ b + lo) (t lo m (hb x) (ha (x / 2 ^ b))))

-- x + (x + x turned by b) turned by a, turned by n
nest : (n k a c b d a' c' t k' u v : ℕ) → Whole n k → Whole a c → Whole b d → Whole a' c'
    → ((x : ℕ) → x < 2 ^ 32 → R a c (R b d x) ≡ R a' c' x)
    → ((x : ℕ) → x < 2 ^ 32 → R n k (R a c x) ≡ R t k' x)
    → ((x : ℕ) → x < 2 ^ 32 → R n k (R a' c' x) ≡ R u v x)
    → (x : ℕ) → x < 2 ^ 32 → R n k (bit_xor x (R a c (bit_xor x (R b d x)))) ≡ bit_xor (bit_xor (R n k x) (R t k' x)) (R u v x)
nest n k a c b d a' c' t k' u v N A B A' f g h x l =
    let lb : R b d x < 2 ^ 32 = R_lt b d B x l in
    let la : R a c x < 2 ^ 32 = R_lt a c A x l in
    let la' : R a' c' x < 2 ^ 32 = R_lt a' c' A' x l in
    ap (λ (y : ℕ). R n k (bit_xor x y)) (spread a c A x (R b d x) l lb ∙ ap (bit_xor (R a c x)) (f x l))
    ∙ spread n k N x (bit_xor (R a c x) (R a' c' x)) l (xor_lt 32 (R a c x) (R a' c' x) la la')
    ∙ ap (bit_xor (R n k x)) (spread n k N (R a c x) (R a' c' x) la la' ∙ ap₂ bit_xor (g x l) (h x l))
    ∙ sym (xor_assoc (R n k x) (R t k' x) (R u v x))

w2 : Whole 2 30
w2 = record { low = λ x l. omega arith; high = λ x l. omega arith; fits = λ x l. omega arith }

w5 : Whole 5 27
w5 = record { low = λ x l. omega arith; high = λ x l. omega arith; fits = λ x l. omega arith }

w6 : Whole 6 26
w6 = record { low = λ x l. omega arith; high = λ x l. omega arith; fits = λ x l. omega arith }

w9 : Whole 9 23
w9 = record { low = λ x l. omega arith; high = λ x l. omega arith; fits = λ x l. omega arith }

w11 : Whole 11 21
w11 = record { low = λ x l. omega arith; high = λ x l. omega arith; fits = λ x l. omega arith }

w13 : Whole 13 19
w13 = record { low = λ x l. omega arith; high = λ x l. omega arith; fits = λ x l. omega arith }

w14 : Whole 14 18
w14 = record { low = λ x l. omega arith; high = λ x l. omega arith; fits = λ x l. omega arith }

w19 : Whole 19 13
w19 = record { low = λ x l. omega arith; high = λ x l. omega arith; fits = λ x l. omega arith }

w20 : Whole 20 12
w20 = record { low = λ x l. omega arith; high = λ x l. omega arith; fits = λ x l. omega arith }

w22 : Whole 22 10
w22 = record { low = λ x l. omega arith; high = λ x l. omega arith; fits = λ x l. omega arith }

w25 : Whole 25 7
w25 = record { low = λ x l. omega arith; high = λ x l. omega arith; fits = λ x l. omega arith }

pub nested0 : (x : ℕ) → x < 2 ^ 32 → ROTR 2 (bit_xor x (ROTR 11 (bit_xor x (ROTR 9 x)))) ≡ Σ0 x
nested0 =
    nest 2 30 11 21 9 23 20 12 13 19 22 10 w2 w11 w9 w20
    (twice 11 21 9 23 20 12 w11 w9 w20 (λ x l. compose 11 21 9 23 20 12 (λ y. omega arith) (λ y. omega arith) (λ lo m hi. omega arith) (λ lo m hi. omega arith) (λ lo m hi. omega arith) (λ lo m h k. omega arith) x))
    (twice 2 30 11 21 13 19 w2 w11 w13 (λ x l. compose 2 30 11 21 13 19 (λ y. omega arith) (λ y. omega arith) (λ lo m hi. omega arith) (λ lo m hi. omega arith) (λ lo m hi. omega arith) (λ lo m h k. omega arith) x))
    (twice 2 30 20 12 22 10 w2 w20 w22 (λ x l. compose 2 30 20 12 22 10 (λ y. omega arith) (λ y. omega arith) (λ lo m hi. omega arith) (λ lo m hi. omega arith) (λ lo m hi. omega arith) (λ lo m h k. omega arith) x))

pub nested1 : (x : ℕ) → x < 2 ^ 32 → ROTR 6 (bit_xor x (ROTR 5 (bit_xor x (ROTR 14 x)))) ≡ Σ1 x
nested1 =
    nest 6 26 5 27 14 18 19 13 11 21 25 7 w6 w5 w14 w19
    (twice 5 27 14 18 19 13 w5 w14 w19 (λ x l. compose 5 27 14 18 19 13 (λ y. omega arith) (λ y. omega arith) (λ lo m hi. omega arith) (λ lo m hi. omega arith) (λ lo m hi. omega arith) (λ lo m h k. omega arith) x))
    (twice 6 26 5 27 11 21 w6 w5 w11 (λ x l. compose 6 26 5 27 11 21 (λ y. omega arith) (λ y. omega arith) (λ lo m hi. omega arith) (λ lo m hi. omega arith) (λ lo m hi. omega arith) (λ lo m h k. omega arith) x))
    (twice 6 26 19 13 25 7 w6 w19 w25 (λ x l. compose 6 26 19 13 25 7 (λ y. omega arith) (λ y. omega arith) (λ lo m hi. omega arith) (λ lo m hi. omega arith) (λ lo m hi. omega arith) (λ lo m h k. omega arith) x))
