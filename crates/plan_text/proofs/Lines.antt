-- Laws of the lines and words of a text.
--   until_is until_len past_is   what stands before the first x, and its length; what is left without the blanks at the start
--   chop_take                    what is left without the blanks at the end, which are counted from behind
--   line_rest                    a text is its first line and the lines after it
-- Assumes nothing.
use Rattle.std.proofs.Common.{◌≡◌, ℕ, suc, ◌+◌, ◌-◌, ◌<◌, ◌≤◌, min, Bool, true, false, not, cond, List, [], ◌∷◌, ◌++◌, length, reverse, take, drop, refl, sym, ◌∙◌, ap, arith}
use Rattle.std.proofs.lemmas.List.Folds.{length-prefix_len}
use Rattle.std.proofs.lemmas.List.Sums.{prefix_len-le-length}
use Rattle.std.specs.List.{prefix_len, take_while}
use Rattle.std.proofs.lemmas.List.{drop_min, length-append, length-drop, length-reverse, reverse-append, reverse-reverse, take-append-le}
use Rattle.std.proofs.Math.Seq.{take_all}
use lib.Dec.{eqb}
use Rattle.plan_text.specs.Lines.{blank, until, past, keep, chop, onto, lines_of, words_of}

-- all from a place on
rest_is : (n : ℕ) (s : List ℕ) → take (length s - n) (drop n s) ≡ drop n s
rest_is n s = take_all (length s - n) (drop n s) (let e = length-drop n s in omega arith)

-- ---- the search for x
grown : (b : Bool) (y : ℕ) (l m : List ℕ) (n : ℕ) → take n l ≡ m → take (cond (not b) (1 + n) 0) (y ∷ l) ≡ cond b [] (y ∷ m)
grown true y l m n e = refl
grown false y l m n e = let z : 1 + n ≡ suc n = omega arith in rw z (ap (λ (k : List ℕ). y ∷ k) e)

until_is : (x : ℕ) (s : List ℕ) → take_while (λ (y : ℕ). not (eqb y x)) s ≡ until x s
unfolding until
until_is x [] = refl
until_is x (y ∷ l) = grown (eqb y x) y l (until x l) _ (until_is x l)

first_len : (p : ℕ → Bool) (s : List ℕ) → take (length (take_while p s)) s ≡ take_while p s
first_len p s = ap (λ (n : ℕ). take n s) (length-prefix_len p s)

pub until_take : (x n : ℕ) (s : List ℕ) → n ≡ length (take_while (λ (y : ℕ). not (eqb y x)) s) → take n s ≡ until x s
until_take x n s e = ap (λ (k : ℕ). take k s) e ∙ first_len (λ (y : ℕ). not (eqb y x)) s ∙ until_is x s

pub while_fits : (p : ℕ → Bool) (n : ℕ) (s : List ℕ) → n ≡ length (take_while p s) → n ≤ length s
while_fits p n s e = let h = prefix_len-le-length p s in let k = length-prefix_len p s in omega arith

-- ---- the blanks at the start
dropped : (b : Bool) (y : ℕ) (l m : List ℕ) (n : ℕ) → drop n l ≡ m → drop (cond b (1 + n) 0) (y ∷ l) ≡ cond b m (y ∷ l)
dropped true y l m n e = let z : 1 + n ≡ suc n = omega arith in rw z e
dropped false y l m n e = refl

past_is : (s : List ℕ) → drop (prefix_len blank s) s ≡ past s
unfolding past
past_is [] = refl
past_is (y ∷ l) = dropped (blank y) y l (past l) _ (past_is l)

pub past_drop : (n : ℕ) (s : List ℕ) → n ≡ length (take_while blank s) → take (length s - n) (drop n s) ≡ past s
past_drop n s e = rest_is n s ∙ ap (λ (k : ℕ). drop k s) (e ∙ length-prefix_len blank s) ∙ past_is s

-- ---- the blanks at the end
chop_blank : (l : List ℕ) (y : ℕ) → blank y ≡ true → chop (l ++ (y ∷ [])) ≡ chop l
unfolding chop keep
chop_blank [] y e = rw e
chop_blank (z ∷ l) y e = ap (keep z) (chop_blank l y e)

keep_before : (z : ℕ) (l : List ℕ) (y : ℕ) → keep z (l ++ (y ∷ [])) ≡ z ∷ (l ++ (y ∷ []))
unfolding keep
keep_before z [] y = refl
keep_before z (w ∷ l) y = refl

chop_word : (l : List ℕ) (y : ℕ) → blank y ≡ false → chop (l ++ (y ∷ [])) ≡ l ++ (y ∷ [])
unfolding chop keep
chop_word [] y e = rw e
chop_word (z ∷ l) y e = ap (keep z) (chop_word l y e) ∙ keep_before z l y

pub ends_fit : (n : ℕ) (s : List ℕ) → n ≡ length (take_while blank (reverse s)) → n ≤ length s
ends_fit n s e = let h = while_fits blank n (reverse s) e in let k = length-reverse s in omega arith

last_of : (y : ℕ) (r : List ℕ) → reverse (y ∷ r) ≡ reverse r ++ (y ∷ [])
last_of y r = reverse-append (y ∷ []) r

chop_end : (b : Bool) (y : ℕ) (r : List ℕ) (n : ℕ) → blank y ≡ b → n ≤ length r → chop (reverse r) ≡ take (length r - n) (reverse r)
    → chop (reverse r ++ (y ∷ [])) ≡ take (length (y ∷ r) - cond b (1 + n) 0) (reverse r ++ (y ∷ []))
chop_end true y r n e h here =
    let k : length (y ∷ r) - (1 + n) ≡ length r - n = omega arith in
    let f : length r - n ≤ length (reverse r) = let z = length-reverse r in omega arith in
    chop_blank (reverse r) y e ∙ here ∙ sym (rw k (take-append-le (length r - n) (reverse r) (y ∷ []) f))
chop_end false y r n e h here =
    chop_word (reverse r) y e
    ∙ sym (take_all (length (y ∷ r) - 0) (reverse r ++ (y ∷ [])) (let z = length-reverse r in simp length-append (omega arith)))

chop_back : (r : List ℕ) → chop (reverse r) ≡ take (length r - prefix_len blank r) (reverse r)
unfolding chop
chop_back [] = refl
chop_back (y ∷ r) = rw (last_of y r) (chop_end (blank y) y r (prefix_len blank r) refl (prefix_len-le-length blank r) (chop_back r))

pub chop_take : (n : ℕ) (s : List ℕ) → n ≡ length (take_while blank (reverse s)) → take (length s - n) s ≡ chop s
chop_take n s e =
    let back = chop_back (reverse s) in
    let f : n ≡ prefix_len blank (reverse s) = e ∙ length-prefix_len blank (reverse s) in
    rw (f, ← length-reverse s) (sym (rw reverse-reverse at back))

-- ---- lines
lines_by : (c : ℕ) (m : List ℕ) (t : Bool) → eqb c 10 ≡ t → onto c (lines_of m) ≡ (c ∷ until 10 m) ∷ lines_of (drop (suc (length (until 10 m))) m)
    → lines_of (c ∷ m) ≡ until 10 (c ∷ m) ∷ lines_of (drop (suc (length (until 10 (c ∷ m)))) (c ∷ m))
unfolding lines_of until
lines_by c m true e h = rw e
lines_by c m false e h = rw e h

lines_cons : (c : ℕ) (m : List ℕ) → lines_of (c ∷ m) ≡ until 10 (c ∷ m) ∷ lines_of (drop (suc (length (until 10 (c ∷ m)))) (c ∷ m))
unfolding lines_of until onto
lines_cons c [] = lines_by c [] (eqb c 10) refl refl
lines_cons c (d ∷ m) = lines_by c (d ∷ m) (eqb c 10) refl (ap (onto c) (lines_cons d m))

-- the lines after the first begin at this place
pub line_rest : (s : List ℕ) (n next : ℕ) → 0 < length s → n ≡ length (take_while (λ (y : ℕ). not (eqb y 10)) s) → next ≡ min (n + 1) (length s)
    → lines_of s ≡ until 10 s ∷ lines_of (take (length s - next) (drop next s))
line_rest [] n next h e f = absurd (omega arith)
line_rest (c ∷ m) n next h e f =
    let k : suc (length (until 10 (c ∷ m))) ≡ n + 1 = let u = ap length (until_is 10 (c ∷ m)) in omega arith in
    lines_cons c m ∙ ap (λ (l : List ℕ). until 10 (c ∷ m) ∷ lines_of l) (sym (rest_is next (c ∷ m) ∙ rw (k, f) (drop_min (n + 1) (c ∷ m))))

-- the words of a line: no comment, no blanks at the start, none at the end
pub words_are : (line c b w : List ℕ) → c ≡ until 35 line → b ≡ past c → w ≡ chop b → w ≡ words_of line
unfolding words_of
words_are line c b w e f g = g ∙ ap chop (f ∙ ap past e)
