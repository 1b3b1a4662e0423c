-- A pick by a test: `yes` and `no` where the test is known, the others where it is not. Assumes nothing.
use mathlib.Core.Path.{◌≡◌, subst, sym, refl}
use mathlib.Core.Bool.{Bool, true, false, cond}

pub yes : {A : Type 0} (x y : A) {t : Bool} {z : A} → t ≡ true → z ≡ x → z ≡ cond t x y
yes x y {t} {z} e p = subst (λ (b : Bool). z ≡ cond b x y) (sym e) p

pub no : {A : Type 0} (x y : A) {t : Bool} {z : A} → t ≡ false → z ≡ y → z ≡ cond t x y
no x y {t} {z} e p = subst (λ (b : Bool). z ≡ cond b x y) (sym e) p

-- what holds of both holds of the one that is picked
pub either : {A : Type 0} (P : A → Type 0) (t : Bool) {x y : A} → P x → P y → P (cond t x y)
either P true h k = h
either P false h k = k

pub itself : (t : Bool) → t ≡ cond t true false
itself true = refl
itself false = refl

pub neither : (t : Bool) → cond t false false ≡ false
neither true = refl
neither false = refl
