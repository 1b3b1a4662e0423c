-- The field of FIPS 197, section 4.2: a byte is a polynomial of degree below 8 over two elements, the sum is the exclusive or,
-- the product is taken modulo x^8 + x^4 + x^3 + x + 1, by doubling and reducing.
-- Assumes nothing.
use Rattle.std.specs.Prelude.{ℕ, zero, suc, ◌*◌, ◌/◌, ◌%◌}
use Rattle.std.specs.Int.Bits.{bit_xor}

-- {02} times a: a shifted left by one, and {1b} added where bit 7 was set
unfoldable pub xtime : ℕ → ℕ
xtime a = bit_xor (a * 2 % 256) (27 * (a / 128 % 2))

-- the sum, over the n low bits of b that are set, of a doubled once for each place
unfoldable pub mul_n : ℕ → ℕ → ℕ → ℕ
mul_n zero a b = 0
mul_n (suc n) a b = bit_xor (a * (b % 2)) (mul_n n (xtime a) (b / 2))

-- the product of two bytes; of other numbers, that of their low bytes, so that the laws want no bounds
unfoldable pub mul : ℕ → ℕ → ℕ
mul a b = mul_n 8 (a % 256) (b % 256)

-- a to the power n
unfoldable pub pow : ℕ → ℕ → ℕ
pow a zero = 1
pow a (suc n) = mul a (pow a n)

-- the inverse of a: a to the power 254 = 2 + 4 + 8 + .. + 128, by squaring; inverse of 0 is 0
unfoldable pub square : ℕ → ℕ
square a = mul a a

unfoldable pub sum_pow : ℕ → ℕ → ℕ
sum_pow zero a = a
sum_pow (suc n) a = mul (square (sum_pow n a)) a

unfoldable pub inv : ℕ → ℕ
inv a = square (sum_pow 6 a)

unfoldable pub div : ℕ → ℕ → ℕ
div a b = mul a (inv b)
