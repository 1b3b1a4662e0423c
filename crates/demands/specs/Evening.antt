-- Write requests delivered to N books in runs. Document 02, Q-3: "Demand 3 reads over the frames so cut, of runs not refused."
--   RunDelivery            a run brought to a node and not refused: a call, with what it was lent, what it told and what it left
--   books_after_run, delivered_by_runs   the books after a run, and after some
--   RunsCalled             the calls met their contracts, each on the book that the runs before it left at its node
--   frames_to               the frames that these runs bring to a node, in order
--   DeliversByRuns         a node is brought nothing but the set, and each request of the set that passes there at least once
--   RunSetting             what the demand takes
--   Framed, laid_end_to_end   a frame by its length alone; frames laid end to end
--   is_frame_number, all_numbers   what a frame's number may be
-- Assumes nothing.
use Prim.{Unit}
use Rattle.std.specs.Prelude.{ℕ, ◌+◌, ◌≤◌, ◌<◌, ◌≡◌, Bool, true, cond, List, [], ◌∷◌, ◌++◌, length, eqb, Ok}
use Rattle.terms.specs.Ladder.{◌and◌}
use Rattle.terms.specs.Terms.{plan_ok}
use Rattle.terms.specs.declared.Plan.{Plan}
use Rattle.frame.specs.Frame.{rest_of, one_of}
use Rattle.runs.specs.Cuts.{cut_run}
use Rattle.runs.specs.Runs.{RunCall, ran_of}
use Rattle.store.specs.Deliver.{Among, passes, Ready}

pub record RunDelivery : Type 0 where
  pub node : ℕ
  pub run : List ℕ
  pub reply : List ℕ
  pub numbers : List ℕ
  pub frames : ℕ
  pub written : ℕ
  pub ended : ℕ
  pub book_left : List ℕ
  pub reply_left : List ℕ
  pub numbers_left : List ℕ

abbrev pub books_after_run : RunDelivery → (ℕ → List ℕ) → ℕ → List ℕ
books_after_run d books i = cond (eqb i d.node) d.book_left (books i)

unfoldable pub delivered_by_runs : List RunDelivery → (ℕ → List ℕ) → ℕ → List ℕ
delivered_by_runs [] books = books
delivered_by_runs (d ∷ ds) books = delivered_by_runs ds (books_after_run d books)

abbrev pub RunsCalled : Plan → (ℕ → List ℕ) → List RunDelivery → Type 0
RunsCalled p books [] = Unit {0}
RunsCalled p books (d ∷ ds) =
    RunCall p d.run (books d.node) d.reply d.numbers (Ok (ran_of d.frames d.written d.ended)) d.book_left d.reply_left d.numbers_left
    × RunsCalled p (books_after_run d books) ds

unfoldable pub frames_to : ℕ → List RunDelivery → List (List ℕ)
frames_to i [] = []
frames_to i (d ∷ ds) = cond (eqb i d.node) ((cut_run d.run).frames ++ frames_to i ds) (frames_to i ds)

pub record DeliversByRuns (p : Plan) (fs : List (List ℕ)) (ds : List RunDelivery) (i : ℕ) : Type 0 where
  pub only : (z : List ℕ) → Among z (frames_to i ds) → Among z fs
  pub each : (z : List ℕ) → Among z fs → passes p i z ≡ true → Among z (frames_to i ds)

-- an accepted plan, N books that are ready for the set, and runs, none refused, whose frames deliver it
pub record RunSetting (p : Plan) (books : ℕ → List ℕ) (fs : List (List ℕ)) (ds : List RunDelivery) : Type 0 where
  pub plan : plan_ok p ≡ true
  pub ready : (i : ℕ) → i < p.n → Ready p books fs i
  pub delivers : (i : ℕ) → i < p.n → DeliversByRuns p fs ds i
  pub calls : RunsCalled p books ds

-- ---- "a run of frames laid end to end"
pub record Framed (f : List ℕ) : Type 0 where
  pub long : 15 ≤ length f
  pub told : 4 + rest_of f ≡ length f

unfoldable pub laid_end_to_end : List (List ℕ) → List ℕ
laid_end_to_end [] = []
laid_end_to_end (f ∷ fs) = f ++ laid_end_to_end fs

abbrev pub AllFramed : List (List ℕ) → Type 0
AllFramed [] = Unit {0}
AllFramed (f ∷ fs) = Framed f × AllFramed fs

-- ---- "one number a frame, 0 if accepted"; 1 to 3 refuse a run and not a frame
abbrev pub is_frame_number : ℕ → Bool
is_frame_number k = one_of k (0 ∷ 4 ∷ 5 ∷ 6 ∷ 7 ∷ 8 ∷ [])

unfoldable pub all_numbers : List ℕ → Bool
all_numbers [] = true
all_numbers (k ∷ ks) = is_frame_number k and all_numbers ks
