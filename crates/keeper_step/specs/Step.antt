-- What a run of requests comes to. Document 01, "The node": a request that stores nothing changes no byte of the book, and what a reply tells of
-- is stored. Document 02, Q-3: the frames of a run are served as if they came singly. d says whether the book was on the disk as it came, so that
-- no power cut takes it back.
--   some_writes      whether one of some frames is a write request
--   asks_to_write s   whether a frame of the run s is one: no other may change a book
--   answer_of x      the answer of the run's call in what a step answers
--   may_tell w d     whether w bytes of replies may go out over a book that is as it came
--   waiting next_after   what the replies of a run wait for, and the run with it
--   next_of a e d    what a step answers of the run's answer, where e says whether the book is as it came
--   frames_of written_of a   the frames of a run, and the bytes of its replies; 0 for one that is refused
--   Looked Stepped  the contracts of `look` and `step`
--   due_of goes_out   the replies of a run, and whether they may go out
--   due_after x s    what is due after a step, where s says whether the book is on the disk since
-- Assumes nothing.
use Rattle.std.specs.Prelude.{ℕ, ◌≤◌, ◌≡◌, Bool, true, false, cond, List, [], ◌∷◌, length, eqb, Option, Some, None, Result, Ok, Err}
use Rattle.octets.specs.Bytes.{alike}
use Rattle.terms.specs.Ladder.{◌or◌}
use Rattle.terms.specs.declared.Plan.{Plan}
use Rattle.terms.specs.declared.Refusal.{Refusal}
use Rattle.frame.specs.Frame.{header_in}
use Rattle.node.specs.Node.{writes}
use Rattle.runs.specs.Cuts.{cut_run}
use Rattle.runs.specs.Runs.{RunCall}
use Rattle.runs.specs.declared.Ran.{Ran}
use Rattle.keeper_step.specs.declared.Waits.{Waits}
use Rattle.keeper_step.specs.declared.Waits.TheVariants.{Nothing, Sync, Store}
use Rattle.keeper_step.specs.declared.Next.{Next}
use Rattle.keeper_step.specs.declared.Due.{Due}

unfoldable pub some_writes : List (List ℕ) → Bool
some_writes [] = false
some_writes (f ∷ fs) = writes (header_in f) or some_writes fs

unfoldable pub asks_to_write : List ℕ → Bool
asks_to_write s = some_writes (cut_run s).frames

abbrev pub answer_of : Result Next Refusal → Result Ran Refusal
answer_of (Err r) = Err r
answer_of (Ok x) = Ok x.ran

-- it was on the disk, or nothing is told of it
abbrev pub may_tell : ℕ → Bool → Bool
may_tell w d = cond (eqb w 0) true d

-- a book that has changed is to be stored; one that is as it came has to get to the disk, unless it may be told of
abbrev pub waiting : Bool → Bool → Waits
waiting true true = Nothing
waiting true false = Sync
waiting false t = Store

abbrev pub next_after : Ran → Bool → Bool → Next
next_after x e d = record { ran = x; waits = waiting e (may_tell x.written d) }

abbrev pub next_of : Result Ran Refusal → Bool → Bool → Result Next Refusal
next_of (Err r) e d = Err r
next_of (Ok x) e d = Ok (next_after x e d)

abbrev pub frames_of : Result Ran Refusal → ℕ
frames_of (Err r) = 0
frames_of (Ok x) = x.frames

abbrev pub written_of : Result Ran Refusal → ℕ
written_of (Err r) = 0
written_of (Ok x) = x.written

-- the run's call, which leaves the book as it was; the replies lie within their buffer, and the numbers within theirs
pub record Looked (p : Plan) (d : Bool) (s b y z : List ℕ) (x : Result Next Refusal) (b₂ y₂ z₂ : List ℕ) : Type 0 where
  pub call : RunCall p s b y z (answer_of x) b₂ y₂ z₂
  pub stays : b₂ ≡ b
  pub next : x ≡ next_of (answer_of x) true d
  pub fits : written_of (answer_of x) ≤ length y₂
  pub numbered : frames_of (answer_of x) ≤ length z₂

-- the run's call; the book is to be stored exactly where it changed; the replies lie within their buffer, and the numbers within theirs
pub record Stepped (p : Plan) (d : Bool) (s b y z : List ℕ) (x : Result Next Refusal) (b₂ y₂ z₂ : List ℕ) : Type 0 where
  pub call : RunCall p s b y z (answer_of x) b₂ y₂ z₂
  pub next : x ≡ next_of (answer_of x) (alike b₂ b) d
  pub fits : written_of (answer_of x) ≤ length y₂
  pub numbered : frames_of (answer_of x) ≤ length z₂

-- a refusal is said; replies go out only over a book that is on the disk: as it came, or since
abbrev pub due_of : Ran → Due
due_of x = record { frames = x.frames; written = x.written }

abbrev pub goes_out : Waits → Bool → Bool
goes_out Nothing s = true
goes_out Sync s = s
goes_out Store s = s

abbrev pub due_after : Result Next Refusal → Bool → Result (Option Due) Refusal
due_after (Err r) s = Err r
due_after (Ok x) s = Ok (cond (goes_out x.waits s) (Some (due_of x.ran)) None)
