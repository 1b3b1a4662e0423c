-- For the functions below the call: one frame after the other, in one state. Assumes nothing.
--   State state        the book, the replies so far and their bytes, the numbers so far and how many
--   after taken ran    one frame more, by a single call that was lent the room of one reply past those so far; all frames
--   GoodLent Ready     a book that refusals 1 to 3 leave; and with it the room of one reply
--   Took               one frame taken
--   Fit TookAll        what the four refusals of a run leave; every frame taken
use Rattle.std.specs.Prelude.{ℕ, ◌+◌, ◌≤◌, ◌≡◌, true, List, [], ◌∷◌, length}
use Rattle.octets.specs.Bytes.{part, put}
use Rattle.terms.specs.Terms.{plan_ok}
use Rattle.terms.specs.declared.Plan.{Plan}
use Rattle.frame.specs.Frame.{longest}
use Rattle.book.specs.Book.{good_book, Itself, book_lent}
use Rattle.node.specs.Node.{ServedOutcome, served}
use Rattle.runs.specs.Cuts.{cut_run}
use Rattle.runs.specs.Runs.{number_said, length_said, room_for}

pub record State : Type 0 where
  pub book : List ℕ
  pub reply : List ℕ
  pub out : ℕ
  pub numbers : List ℕ
  pub count : ℕ

abbrev pub state : List ℕ → List ℕ → ℕ → List ℕ → ℕ → State
state b y out z k = record { book = b; reply = y; out = out; numbers = z; count = k }

abbrev pub after : State → ServedOutcome → State
after s o =
    state o.book (put s.reply s.out o.reply) (s.out + length_said o.answer)
    (put s.numbers s.count (number_said o.answer ∷ [])) (s.count + 1)

unfoldable pub taken : Plan → List ℕ → State → State
taken p f s = after s (served p f s.book (part s.reply s.out (longest 1 p)))

unfoldable pub ran : Plan → List (List ℕ) → State → State
ran p [] s = s
ran p (f ∷ fs) s = ran p fs (taken p f s)

-- a lent book that refusals 1 to 3 leave
pub record GoodLent (p : Plan) (b : List ℕ) : Type 0 where
  pub plan : plan_ok p ≡ true
  pub lent : book_lent (length b) ≡ true
  pub good : good_book p b ≡ true
  pub laid : Itself p b

-- and the room of one reply past those so far
pub record Ready (p : Plan) (b y : List ℕ) (out room : ℕ) : Type 0 where
  pub book : GoodLent p b
  pub room_is : room ≡ longest 1 p
  pub fits : out + room ≤ length y

-- one frame taken: n bytes of reply
pub record Took (p : Plan) (f b y : List ℕ) (out : ℕ) (z : List ℕ) (k n : ℕ) (b₂ y₂ z₂ : List ℕ) : Type 0 where
  pub is : state b₂ y₂ (out + n) z₂ (k + 1) ≡ taken p f (state b y out z k)
  pub short : n ≤ longest 1 p

-- what the four refusals of a run leave
pub record Fit (p : Plan) (s b y z : List ℕ) : Type 0 where
  pub book : GoodLent p b
  pub room : room_for p (length (cut_run s).frames) (length y) (length z) ≡ true

-- every frame of a run taken: out bytes of replies
pub record TookAll (p : Plan) (s b y z : List ℕ) (out : ℕ) (b₂ y₂ z₂ : List ℕ) : Type 0 where
  pub is : state b₂ y₂ out z₂ (length (cut_run s).frames) ≡ ran p (cut_run s).frames (state b y 0 z 0)
