-- The text of a plan: document 01's nine values in its order, each a name and a value on a line of its own (docs/KEEPER.md, "PLAN").
--   blank                a tab, a carriage return, a space
--   until past chop      what stands before the first x; less the blanks at the start; less those at the end
--   lines_of words_of      the lines of a text; the words of a line, before its comment
--   after_name            what follows a name and blanks
--   Form forms           how a value is written; the nine
--   value_of              value k of the nine, as the words of a line give it
--   wrong_in given_by      whether the words of a line are wrong where value k belongs; the value that they give, if they give one
--   plan_from               which value goes to which field
--   read_lines plan_text   what a text says: a plan, or the line and the value that is not to be had there
-- Assumes nothing.
use Rattle.std.specs.Prelude.{ℕ, ◌+◌, Bool, true, false, cond, List, [], ◌∷◌, ◌++◌, Option, Some, None, Result, Ok, Err, length, drop, get_or, ltb, eqb}
use Rattle.octets.specs.Bytes.{part, alike}
use Rattle.terms.specs.declared.Plan.{Plan}
use Rattle.terms.specs.declared.Member.{Member}
use Rattle.terms.specs.declared.Member.TheVariants.{Repairable, NonRepair}
use Rattle.terms.specs.declared.Clients.{Clients}
use Rattle.terms.specs.declared.Clients.TheVariants.{Crash, Byzantine}
use Rattle.plan_text.specs.declared.Wrong.{Wrong}
use Rattle.plan_text.specs.Text.{numeral_of}

-- ---- lines and words
unfoldable pub blank : ℕ → Bool
blank x = cond (eqb x 9) true (cond (eqb x 13) true (eqb x 32))

unfoldable pub until : ℕ → List ℕ → List ℕ
until x [] = []
until x (y ∷ l) = cond (eqb y x) [] (y ∷ until x l)

unfoldable pub past : List ℕ → List ℕ
past [] = []
past (y ∷ l) = cond (blank y) (past l) (y ∷ l)

unfoldable pub keep : ℕ → List ℕ → List ℕ
keep y [] = cond (blank y) [] (y ∷ [])
keep y (z ∷ l) = y ∷ z ∷ l

unfoldable pub chop : List ℕ → List ℕ
chop [] = []
chop (y ∷ l) = keep y (chop l)

unfoldable pub onto : ℕ → List (List ℕ) → List (List ℕ)
onto y [] = (y ∷ []) ∷ []
onto y (l ∷ ls) = (y ∷ l) ∷ ls

-- the lines of a text: 10 ends a line
unfoldable pub lines_of : List ℕ → List (List ℕ)
lines_of [] = []
lines_of (y ∷ s) = cond (eqb y 10) ([] ∷ lines_of s) (onto y (lines_of s))

-- 35, a #, begins a comment
unfoldable pub words_of : List ℕ → List ℕ
words_of l = chop (past (until 35 l))

-- ---- a value
unfoldable pub after_name : List ℕ → List ℕ → List ℕ
after_name name w =
    cond (ltb (length name) (length w))
    (cond (alike (part w 0 (length name)) name) (cond (blank (get_or w (length name) 0)) (past (drop (length name) w)) []) [])
    []

-- a number by its name, or one of two words, which stand for 0 and 1, by its name
pub data Form : Type 0 where
  number : List ℕ → Form
  choice : List ℕ → List ℕ → List ℕ → Form
  nothing : Form

-- N, t, b, Q, m, F, member (repairable or non-repair), clients (crash or byzantine), W
abbrev pub forms : List Form
forms =
    number (78 ∷ []) ∷ number (116 ∷ []) ∷ number (98 ∷ []) ∷ number (81 ∷ []) ∷ number (109 ∷ []) ∷ number (70 ∷ [])
    ∷ choice (109 ∷ 101 ∷ 109 ∷ 98 ∷ 101 ∷ 114 ∷ [])
    (114 ∷ 101 ∷ 112 ∷ 97 ∷ 105 ∷ 114 ∷ 97 ∷ 98 ∷ 108 ∷ 101 ∷ [])
    (110 ∷ 111 ∷ 110 ∷ 45 ∷ 114 ∷ 101 ∷ 112 ∷ 97 ∷ 105 ∷ 114 ∷ [])
    ∷ choice (99 ∷ 108 ∷ 105 ∷ 101 ∷ 110 ∷ 116 ∷ 115 ∷ [])
    (99 ∷ 114 ∷ 97 ∷ 115 ∷ 104 ∷ [])
    (98 ∷ 121 ∷ 122 ∷ 97 ∷ 110 ∷ 116 ∷ 105 ∷ 110 ∷ 101 ∷ [])
    ∷ number (87 ∷ []) ∷ []

unfoldable pub chosen : List ℕ → List ℕ → List ℕ → Option ℕ
chosen zero one v = cond (alike v zero) (Some 0) (cond (alike v one) (Some 1) None)

unfoldable pub written : Form → List ℕ → Option ℕ
written (number name) w = numeral_of (after_name name w)
written (choice name zero one) w = chosen zero one (after_name name w)
written nothing w = None

unfoldable pub value_of : ℕ → List ℕ → Option ℕ
value_of k w = written (get_or forms k nothing) w

-- ---- a line
abbrev pub is_not : Option ℕ → Bool
is_not (Some x) = false
is_not None = true

abbrev pub list_of : Option ℕ → List ℕ
list_of (Some x) = x ∷ []
list_of None = []

unfoldable pub wrong_in : ℕ → List ℕ → Bool
wrong_in k [] = false
wrong_in k (c ∷ w) = is_not (value_of k (c ∷ w))

unfoldable pub given_by : ℕ → List ℕ → List ℕ
given_by k [] = []
given_by k (c ∷ w) = list_of (value_of k (c ∷ w))

-- ---- a text
unfoldable pub member_from : ℕ → Member
member_from x = cond (eqb x 0) Repairable NonRepair

unfoldable pub clients_from : ℕ → Clients
clients_from x = cond (eqb x 0) Crash Byzantine

unfoldable pub plan_from : List ℕ → Plan
plan_from v =
    record {
      n = get_or v 0 0;
      t = get_or v 1 0;
      b = get_or v 2 0;
      q = get_or v 3 0;
      m = get_or v 4 0;
      f = get_or v 5 0;
      member = member_from (get_or v 6 0);
      clients = clients_from (get_or v 7 0);
      w = get_or v 8 0;
    }

-- at line n, where value k is not to be had
abbrev pub wrong : ℕ → ℕ → Wrong
wrong n k = record { line = n; value = k }

-- the lines that are left, after n lines that gave the values v
unfoldable pub read_lines : ℕ → List ℕ → List (List ℕ) → Result Plan Wrong
read_lines n v [] = cond (ltb (length v) 9) (Err (wrong n (length v))) (Ok (plan_from v))
read_lines n v (l ∷ ls) =
    cond (wrong_in (length v) (words_of l)) (Err (wrong (n + 1) (length v))) (read_lines (n + 1) (v ++ given_by (length v) (words_of l)) ls)

unfoldable pub plan_text : List ℕ → Result Plan Wrong
plan_text s = read_lines 0 [] (lines_of s)
