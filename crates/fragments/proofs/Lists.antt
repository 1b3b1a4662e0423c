-- A list given by its elements, and what holds of all of them. Assumes nothing.
use mathlib.Core.Path.{◌≡◌, refl, sym, ap, ap₂, ◌∙◌}
use mathlib.Core.List.{List, ◌∷◌, []}
use Prim.Native.Nat.{ℕ, zero, suc, ◌<◌, suc-le-suc, zero-le}
use native.Mathlib.Nat.{not-suc-le-zero, le_of_suc-le-suc}
use native.Mathlib.Omega.{arith}
use lib.ListN.{length, get_or, take}
use lib.Seq.{ext_get_or}
use Rattle.fragments.specs.Fragments.{tabulate, All}

pub length_tabulate : (n : ℕ) (f : ℕ → ℕ) → length (tabulate n f) ≡ n
unfolding tabulate
length_tabulate zero f = refl
length_tabulate (suc n) f = ap suc (length_tabulate n (λ i. f (suc i)))

pub get_d_tabulate : (n : ℕ) (f : ℕ → ℕ) (i : ℕ) → i < n → get_or (tabulate n f) i 0 ≡ f i
unfolding tabulate
get_d_tabulate zero f i h = absurd (not-suc-le-zero h)
get_d_tabulate (suc n) f zero h = refl
get_d_tabulate (suc n) f (suc i) h = get_d_tabulate n (λ j. f (suc j)) i (le_of_suc-le-suc h)

pub tabulate_ext : (n : ℕ) (f g : ℕ → ℕ) → ((i : ℕ) → i < n → f i ≡ g i) → tabulate n f ≡ tabulate n g
unfolding tabulate
tabulate_ext zero f g e = refl
tabulate_ext (suc n) f g e =
    ap₂ ◌∷◌ (e zero (suc-le-suc zero-le)) (tabulate_ext n (λ i. f (suc i)) (λ i. g (suc i)) (λ i h. e (suc i) (suc-le-suc h)))

pub to_tabulate : (xs : List ℕ) (n : ℕ) (f : ℕ → ℕ) → length xs ≡ n → ((i : ℕ) → i < n → get_or xs i 0 ≡ f i) → xs ≡ tabulate n f
to_tabulate xs n f l e =
    ext_get_or 0 xs (tabulate n f) (l ∙ sym (length_tabulate n f))
    (λ i h. e i (omega arith) ∙ sym (get_d_tabulate n f i (omega arith)))

-- ---- what holds of every element of a list: of its start, and of the one at an index
pub all_take : (P : ℕ → Type 0) (n : ℕ) (l : List ℕ) → All P l → All P (take n l)
all_take P zero l h = tt
all_take P (suc n) [] h = tt
all_take P (suc n) (x ∷ l) h = (h.0, all_take P n l h.1)

pub all_at : (P : ℕ → Type 0) (l : List ℕ) → All P l → (k : ℕ) → k < length l → P (get_or l k 0)
all_at P [] h k u = absurd (omega arith)
all_at P (x ∷ l) h zero u = h.0
all_at P (x ∷ l) h (suc k) u = all_at P l h.1 k (omega arith)
