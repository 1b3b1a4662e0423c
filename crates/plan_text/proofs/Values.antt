-- Laws of the value on a line, and of the text as a whole.
--   same-..                  equal bytes by `==` are alike
--   name-..                  what follows a name: the value, or nothing
--   chosen-..                which of two words
--   line-..                  what a line more makes of the text: nothing, a value, or one that is not to be had
--   end-..                   the end of the text
-- Assumes nothing.
use Rattle.std.proofs.Common.{◌≡◌, ℕ, ◌+◌, ◌-◌, ◌≤◌, ◌<◌, true, false, List, [], ◌∷◌, ◌++◌, length, get_or, take, drop, set, Some, None, Result, Ok, Err, refl, sym, ◌∙◌, ap, arith, add-one, append-nil, length-drop}
use Rattle.std.proofs.lemmas.Slice.Eq.{bytes_eq-Decides}
use Rattle.std.proofs.Math.Seq.{take_all, take-suc-set, length-take-le}
use Rattle.std.specs.Cmp.Lexicographic.{pointwise}
use borrow.Author.Tests.{lt-ltb, le-ltb}
use lib.Dec.{eqb}
use Rattle.octets.specs.Bytes.{part, alike}
use Rattle.octets.proofs.Meaning.{is_alike, not_alike}
use Rattle.terms.specs.declared.Plan.{Plan}
use Rattle.plan_text.specs.declared.Wrong.{Wrong}
use Rattle.plan_text.specs.Lines.{blank, past, lines_of, words_of, after_name, chosen, written, value_of, is_not, list_of, wrong, wrong_in, given_by, plan_from, read_lines, plan_text}

-- ---- equal bytes
same_yes : (a b : List ℕ) → pointwise eqb a b ≡ true → alike a b ≡ true
same_yes a b e = is_alike a b ((bytes_eq-Decides a b).0 e)

same_no : (a b : List ℕ) → pointwise eqb a b ≡ false → alike a b ≡ false
same_no a b e = not_alike a b (λ h. let t = (bytes_eq-Decides a b).1 h in cc)

turned_yes : (a b : List ℕ) → pointwise eqb a b ≡ true → alike b a ≡ true
turned_yes a b e = is_alike b a (sym ((bytes_eq-Decides a b).0 e))

turned_no : (a b : List ℕ) → pointwise eqb a b ≡ false → alike b a ≡ false
turned_no a b e = not_alike b a (λ h. let t = (bytes_eq-Decides a b).1 (sym h) in cc)

-- ---- a name
module _ (w name : List ℕ) where
  pub name_short : length w ≤ length name → [] ≡ after_name name w
  unfolding after_name
  name_short h = sym (rw (le-ltb (length name) (length w) h))

  pub name_other : length name < length w → pointwise eqb name (take (length name) w) ≡ false → [] ≡ after_name name w
  unfolding after_name part
  name_other h e = sym (rw (lt-ltb (length name) (length w) h, turned_no name (take (length name) w) e))

  pub name_tight : length name < length w → pointwise eqb name (take (length name) w) ≡ true → blank (get_or w (length name) 0) ≡ false → [] ≡ after_name name w
  unfolding after_name part
  name_tight h e b = sym (rw (lt-ltb (length name) (length w) h, turned_yes name (take (length name) w) e, b))

  pub name_is : length name < length w → pointwise eqb name (take (length name) w) ≡ true → blank (get_or w (length name) 0) ≡ true
      → (v : List ℕ) → v ≡ past (take (length w - length name) (drop (length name) w)) → v ≡ after_name name w
  unfolding after_name part
  name_is h e b v p =
      p ∙ ap past (take_all (length w - length name) (drop (length name) w) (simp length-drop (omega arith)))
      ∙ sym (rw (lt-ltb (length name) (length w) h, turned_yes name (take (length name) w) e, b))

-- ---- a word
module _ (zero one v a : List ℕ) (is : v ≡ a) where
  pub chosen_zero : pointwise eqb v zero ≡ true → Some 0 ≡ chosen zero one a
  unfolding chosen
  chosen_zero e = rw (sym is, same_yes v zero e)

  pub chosen_one : pointwise eqb v zero ≡ false → pointwise eqb v one ≡ true → Some 1 ≡ chosen zero one a
  unfolding chosen
  chosen_one n e = rw (sym is, same_no v zero n, same_yes v one e)

  pub chosen_none : pointwise eqb v zero ≡ false → pointwise eqb v one ≡ false → None ≡ chosen zero one a
  unfolding chosen
  chosen_none n e = rw (sym is, same_no v zero n, same_no v one e)

-- the eighth value is what is left of nine
above : (k j : ℕ) → j ≤ k → (k ≡ j → ⊥) → j + 1 ≤ k
above k j h n = omega (arith, n)

between : (k : ℕ) → k < 9 → 8 ≤ k → k ≡ 8
between k h l = omega arith

at_least : (k : ℕ) → 0 ≤ k
at_least k = omega arith

pub eighth : (k : ℕ) → k < 9 → (k ≡ 0 → ⊥) → (k ≡ 1 → ⊥) → (k ≡ 2 → ⊥) → (k ≡ 3 → ⊥) → (k ≡ 4 → ⊥) → (k ≡ 5 → ⊥) → (k ≡ 6 → ⊥) → (k ≡ 7 → ⊥) → k ≡ 8
eighth k h a b c d e f g i =
    between k h (above k 7 (above k 6 (above k 5 (above k 4 (above k 3 (above k 2 (above k 1 (above k 0 (at_least k) a) b) c) d) e) f) g) i)

-- ---- a line
wrong_is : (k : ℕ) (w : List ℕ) → 0 < length w → wrong_in k w ≡ is_not (value_of k w)
unfolding wrong_in
wrong_is k [] h = absurd (omega arith)
wrong_is k (c ∷ w) h = refl

given_is : (k : ℕ) (w : List ℕ) → 0 < length w → given_by k w ≡ list_of (value_of k w)
unfolding given_by
given_is k [] h = absurd (omega arith)
given_is k (c ∷ w) h = refl

none_wrong : (k : ℕ) (w : List ℕ) → length w ≡ 0 → wrong_in k w ≡ false
unfolding wrong_in
none_wrong k [] h = refl
none_wrong k (c ∷ w) h = absurd (omega arith)

none_given : (k : ℕ) (w : List ℕ) → length w ≡ 0 → given_by k w ≡ []
unfolding given_by
none_given k [] h = refl
none_given k (c ∷ w) h = absurd (omega arith)

no_tenth : (w : List ℕ) → value_of 9 w ≡ None
unfolding value_of written
no_tenth w = refl

-- there are nine values
pub nine : (k x : ℕ) (w : List ℕ) → k ≤ 9 → value_of k w ≡ Some x → k < 9
nine k x w h e =
    let n : k ≡ 9 → ⊥ = λ q. let z = sym e ∙ ap (λ (i : ℕ). value_of i w) q ∙ no_tenth w in cc in
    omega (arith, n)

-- ---- a text
none_left : (l : List ℕ) → length l ≡ 0 → l ≡ []
none_left [] h = refl
none_left (c ∷ l) h = absurd (omega arith)

pub start : (s : List ℕ) → read_lines 0 [] (lines_of s) ≡ plan_text s
unfolding plan_text
start s = refl

-- a text of which n lines are read, which gave the first k of vs
module _ (t : Result Plan Wrong) (vs rest : List ℕ) (n k : ℕ) (here : read_lines n (take k vs) (lines_of rest) ≡ t) (l : k ≤ length vs) where
  count : length (take k vs) ≡ k
  count = length-take-le k vs l

  module _ (line w next : List ℕ) (ws : w ≡ words_of line) (ls : lines_of rest ≡ line ∷ lines_of next) where
    first : read_lines n (take k vs) (line ∷ lines_of next) ≡ t
    first = ap (read_lines n (take k vs)) (sym ls) ∙ here

    stops : wrong_in k w ≡ true → read_lines n (take k vs) (line ∷ lines_of next) ≡ Err (wrong (n + 1) k)
    unfolding read_lines
    stops e = rw (count, sym ws, e)

    goes : wrong_in k w ≡ false
        → read_lines n (take k vs) (line ∷ lines_of next) ≡ read_lines (n + 1) (take k vs ++ given_by k w) (lines_of next)
    unfolding read_lines
    goes e = rw (count, sym ws, e)

    pub line_wrong : 0 < length w → value_of k w ≡ None → Err (wrong (n + 1) k) ≡ t
    line_wrong h e = sym (stops (wrong_is k w h ∙ ap is_not e)) ∙ first

    pub line_blank : length w ≡ 0 → read_lines (n + 1) (take k vs) (lines_of next) ≡ t
    line_blank h =
        ap (λ (u : List ℕ). read_lines (n + 1) u (lines_of next)) (sym (append-nil (take k vs)) ∙ ap (λ (u : List ℕ). take k vs ++ u) (sym (none_given k w h)))
        ∙ sym (goes (none_wrong k w h)) ∙ first

    given : (x : ℕ) → 0 < length w → value_of k w ≡ Some x → k < length vs → take (k + 1) (set vs k x) ≡ take k vs ++ given_by k w
    given x h e b =
        ap (λ (i : ℕ). take i (set vs k x)) (add-one k) ∙ take-suc-set vs k x b
        ∙ ap (λ (u : List ℕ). take k vs ++ u) (sym (given_is k w h ∙ ap list_of e))

    pub line_given : (x : ℕ) → 0 < length w → value_of k w ≡ Some x → k < length vs → read_lines (n + 1) (take (k + 1) (set vs k x)) (lines_of next) ≡ t
    line_given x h e b =
        ap (λ (u : List ℕ). read_lines (n + 1) u (lines_of next)) (given x h e b)
        ∙ sym (goes (wrong_is k w h ∙ ap is_not e)) ∙ first

  ended : length rest ≡ 0 → read_lines n (take k vs) [] ≡ t
  unfolding lines_of
  ended h = ap (λ (r : List ℕ). read_lines n (take k vs) (lines_of r)) (sym (none_left rest h)) ∙ here

  short : k < 9 → read_lines n (take k vs) [] ≡ Err (wrong n k)
  unfolding read_lines
  short h = rw (count, lt-ltb k 9 h)

  pub end_short : length rest ≡ 0 → k < 9 → Err (wrong n k) ≡ t
  end_short h b = sym (short b) ∙ ended h

  whole : 9 ≤ k → take k vs ≡ vs → read_lines n (take k vs) [] ≡ Ok (plan_from vs)
  unfolding read_lines
  whole h e = rw (count, le-ltb k 9 h, e)

  pub end_plan : length rest ≡ 0 → 9 ≤ k → length vs ≡ 9 → (p : Plan) → p ≡ plan_from vs → Ok p ≡ t
  end_plan h b e p q = ap Ok q ∙ sym (whole b (take_all k vs (omega arith))) ∙ ended h
