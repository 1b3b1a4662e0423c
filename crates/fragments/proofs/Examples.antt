-- The starred cases of document 01's "Both sides of each edge" that are of the field and of columns: antt computes each. Assumes nothing.
use mathlib.Core.Path.{◌≡◌, refl}
use mathlib.Core.List.{List, [], ◌∷◌}
use Prim.Native.Nat.{ℕ}
use Rattle.field.specs.Field.{xtime, mul_n, mul, square, sum_pow, inv, div}
use Rattle.octets.specs.Bytes.{part}
use Rattle.fragments.specs.Fragments.{All, ratio, weight_of, blend, value, from, tabulate, fragment}

pub product_57_83 : mul 0x57 0x83 ≡ 0xc1
unfolding mul mul_n xtime
product_57_83 = refl

pub product_57_13 : mul 0x57 0x13 ≡ 0xfe
unfolding mul mul_n xtime
product_57_13 = refl

-- fragment k of the column a b, with m = 2
abbrev pub column : ℕ → ℕ → ℕ → List ℕ
column a b k = fragment 2 1 (a ∷ b ∷ []) k

pub column_00_80 : (column 0 0x80 2 ≡ 0x1b ∷ []) × (column 0 0x80 3 ≡ 0x9b ∷ []) × (column 0 0x80 4 ≡ 0x36 ∷ [])
unfolding fragment part tabulate value blend weight_of ratio from mul mul_n xtime div inv square sum_pow
column_00_80 = (refl, refl, refl)

pub column_57_57 : All (λ (k : ℕ). column 0x57 0x57 k ≡ 0x57 ∷ []) (from 0 16)
unfolding fragment part tabulate value blend weight_of ratio from mul mul_n xtime div inv square sum_pow
column_57_57 = (refl, (refl, (refl, (refl, (refl, (refl, (refl, (refl, (refl, (refl, (refl, (refl, (refl, (refl, (refl, (refl, tt))))))))))))))))
