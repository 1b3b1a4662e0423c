-- A run of request frames at a node. Document 02, Q-3: "The outcome is as if they came singly in that order: same book, replies end to end, one
-- number a frame, 0 if accepted. A refused frame adds no reply and the run goes on."
--   number_said, reply_in    a single call's number, and the reply that it wrote
--   Left, left, before     what some frames leave: the book, the replies end to end, the numbers; one frame before others
--   singly                 the frames, each by the single call, in order
--   room_for, run_ladder     "Refusals: 21, not 2, for under R+15 reply bytes or one number place per frame cut, after 2 and before 3"
--   ran_of SaidRan, said_ran an answer in the papers' terms: a refusal's number; or frames cut, bytes of replies written, place where the run ended
--   RunOutcome, run_outcome the answer, the book, the reply buffer and the number places as a run leaves them
--   run_of                  a run that is not refused
--   ran_over, RunCall       the call, and its contract
-- Assumes nothing.
use Rattle.std.specs.Prelude.{ℕ, ◌*◌, ◌≡◌, Bool, not, List, [], ◌∷◌, ◌++◌, length, take, leb, Result, Ok, Err}
use Rattle.octets.specs.Bytes.{over}
use Rattle.terms.specs.Ladder.{Rung, on, first, ◌and◌}
use Rattle.terms.specs.Terms.{plan_ok, refusal_number}
use Rattle.terms.specs.declared.Plan.{Plan}
use Rattle.frame.specs.Frame.{longest}
use Rattle.book.specs.Book.{good_book, book_lent}
use Rattle.node.specs.Node as node
use Rattle.node.specs.Node.{SaidServed, ServedOutcome, served}
use Rattle.runs.specs.Cuts.{Cutting, cut_run}
use Rattle.runs.specs.declared.Ran.{Ran}
use Rattle.terms.specs.declared.Refusal.{Refusal}

-- "one number a frame, 0 if accepted"
abbrev pub number_said : SaidServed → ℕ
number_said (node.refused k) = k
number_said (node.replied n) = 0

-- "a refused frame adds no reply"
abbrev pub length_said : SaidServed → ℕ
length_said (node.refused k) = 0
length_said (node.replied n) = n

abbrev pub reply_in : ServedOutcome → List ℕ
reply_in o = take (length_said o.answer) o.reply

-- ---- the frames, each alone, in order
pub record Left : Type 0 where
  pub book : List ℕ
  pub replies : List ℕ
  pub numbers : List ℕ

abbrev pub left : List ℕ → List ℕ → List ℕ → Left
left b ys ns = record { book = b; replies = ys; numbers = ns }

-- "replies end to end, one number a frame": those of one frame, then those of the frames after it
abbrev pub before : ServedOutcome → Left → Left
before o l = left l.book (reply_in o ++ l.replies) (number_said o.answer ∷ l.numbers)

-- "as if they came singly in that order": each on the book that the one before it left, and lent the reply buffer as it came
unfoldable pub singly : Plan → List (List ℕ) → List ℕ → List ℕ → Left
singly p [] b y = left b [] []
singly p (f ∷ fs) b y = before (served p f b y) (singly p fs (served p f b y).book y)

-- ---- the run's own refusals
unfoldable pub room_for : Plan → ℕ → ℕ → ℕ → Bool
room_for p frames reply numbers = leb (frames * longest 1 p) reply and leb frames numbers

abbrev pub run_ladder : Plan → List ℕ → List ℕ → List ℕ → List ℕ → List Rung
run_ladder p s b y z =
    on 1 (not (plan_ok p)) ∷
    on 2 (not (book_lent (length b))) ∷
    on 21 (not (room_for p (length (cut_run s).frames) (length y) (length z))) ∷
    on 3 (not (good_book p b)) ∷ []

-- ---- the answer in the papers' terms
pub data SaidRan : Type 0 where
  refused : ℕ → SaidRan
  did : ℕ → ℕ → ℕ → SaidRan

abbrev pub ran_of : ℕ → ℕ → ℕ → Ran
ran_of frames written ended = record { frames = frames; written = written; ended = ended }

abbrev pub said_ran : Result Ran Refusal → SaidRan
said_ran (Err r) = refused (refusal_number r)
said_ran (Ok x) = did x.frames x.written x.ended

pub record RunOutcome : Type 0 where
  pub answer : SaidRan
  pub book : List ℕ
  pub reply : List ℕ
  pub numbers : List ℕ

abbrev pub run_outcome : SaidRan → List ℕ → List ℕ → List ℕ → RunOutcome
run_outcome a b y z = record { answer = a; book = b; reply = y; numbers = z }

-- what is left of the frames that were cut: bytes past the replies and the numbers stay
abbrev pub leaves : Cutting → Left → List ℕ → List ℕ → RunOutcome
leaves c l y z = run_outcome (did (length c.frames) (length l.replies) c.ended) l.book (over l.replies y) (over l.numbers z)

abbrev pub run_of : Plan → List ℕ → List ℕ → List ℕ → List ℕ → RunOutcome
run_of p s b y z = leaves (cut_run s) (singly p (cut_run s).frames b y) y z

-- the first refusal that applies leaves all as it came; where none does, the frames
unfoldable pub ran_over : Plan → List ℕ → List ℕ → List ℕ → List ℕ → RunOutcome
ran_over p s b y z = first (run_ladder p s b y z) (λ (k : ℕ). run_outcome (refused k) b y z) (run_of p s b y z)

-- the contract of the call: its inputs, then its outcome
pub record RunCall (p : Plan) (s b y z : List ℕ) (a : Result Ran Refusal) (b₂ y₂ z₂ : List ℕ) : Type 0 where
  pub is : run_outcome (said_ran a) b₂ y₂ z₂ ≡ ran_over p s b y z
