-- The hypotheses of the theorems on runs can be met: the node, the fresh book and the two write requests of the instances of store, brought in
-- one run, and in two runs in another order and with a repeat. Assumes nothing.
use Rattle.std.specs.Prelude.{Ok}
use Prim.{tt}
use Prim.Native.Nat.{ℕ, ◌+◌, ◌*◌, ◌≤◌}
use mathlib.Core.Path.{◌≡◌, refl, sym, ap, subst}
use mathlib.Core.Bool.{true, not}
use mathlib.Core.List.{List, [], ◌∷◌, ◌++◌}
use mathlib.Core.Logic.{◌⊎◌, inl, inr}
use native.Mathlib.Omega.{arith}
use borrow.Author.Tests.{le-leb}
use lib.ListN.{length}
use Rattle.terms.specs.Ladder.{None}
use Rattle.terms.proofs.Ladders.{is_passed}
use Rattle.frame.specs.Frame.{longest}
use Rattle.frame.proofs.Frames.{request_is}
use Rattle.book.specs.Book.{good_book, book_lent, Itself}
use Rattle.runs.specs.Cuts.{cut_run}
use Rattle.runs.specs.Runs.{singly, room_for, run_ladder, refused, run_outcome, run_of, ran_over, RunCall, ran_of}
use Rattle.store.specs.Deliver.{Among, Ready}
use Rattle.store.proofs.Order as order
use Rattle.store.proofs.One as one
use Rattle.store.proofs.Kept.{StaysGood}
use Rattle.store.proofs.Instances.{plan, r_is, zeros, length_zeros, books, set, request, passing, at_zero, given_first}
use Rattle.demands.specs.Evening.{RunDelivery, delivered_by_runs, RunsCalled, frames_to, DeliversByRuns, RunSetting, Framed, laid_end_to_end, AllFramed}
use Rattle.demands.proofs.Evening.{cut_back, singly_stays}
use Rattle.demands.proofs.Demand3.{runs_in_any_order}

-- ---- the frames
framed : (f : List ℕ) → one.PassIs plan 0 f → Framed f
framed f q =
    let i = (request_is plan 0 f q.frame).frame_is in
    let l = i.low in
    let w = i.whole in
    record { long = l; told = omega arith }

framed_1 : Framed (request 1)
framed_1 = framed (request 1) (one.pass_is plan 0 (request 1) (passing 1 (omega arith) (omega arith)))

framed_2 : Framed (request 2)
framed_2 = framed (request 2) (one.pass_is plan 0 (request 2) (passing 2 (omega arith) (omega arith)))

-- ---- a run of frames laid end to end, on a good book, with room: it is not refused
module _ (fs : List (List ℕ)) (framed_all : AllFramed fs) (b z : List ℕ) (lent : book_lent (length b) ≡ true) (good : good_book plan b ≡ true) (places : length fs ≤ length z) where
  abbrev run_bytes : List ℕ
  run_bytes = laid_end_to_end fs

  abbrev lent_reply : List ℕ
  lent_reply = zeros (length fs * 88)

  cut_is : (cut_run run_bytes).frames ≡ fs
  cut_is = ap (λ c. c.frames) (cut_back fs framed_all)

  room : room_for plan (length (cut_run run_bytes).frames) (length lent_reply) (length z) ≡ true
  unfolding room_for
  room =
      let n : length (cut_run run_bytes).frames ≡ length fs = ap length cut_is in
      let e : longest 1 plan ≡ 88 = ap (λ (r : ℕ). r + 15) r_is in
      let l = length_zeros (length fs * 88) in
      rw (n, e, le-leb (length fs * 88) (length lent_reply) (omega arith), le-leb (length fs) (length z) places)

  pub brought_run : RunDelivery
  brought_run = record {
    node = 0;
    run = run_bytes;
    reply = lent_reply;
    numbers = z;
    frames = length (cut_run run_bytes).frames;
    written = length (singly plan (cut_run run_bytes).frames b lent_reply).replies;
    ended = (cut_run run_bytes).ended;
    book_left = (run_of plan run_bytes b lent_reply z).book;
    reply_left = (run_of plan run_bytes b lent_reply z).reply;
    numbers_left = (run_of plan run_bytes b lent_reply z).numbers;
  }

  none : None (run_ladder plan run_bytes b lent_reply z)
  none = (ap not given_first.plan, (ap not lent, (ap not room, (ap not good, tt))))

  pub ran_so : let d = brought_run in RunCall plan d.run b d.reply d.numbers (Ok (ran_of d.frames d.written d.ended)) d.book_left d.reply_left d.numbers_left
  unfolding brought_run ran_over
  ran_so =
      record { is = sym (is_passed (run_ladder plan run_bytes b lent_reply z) (λ (k : ℕ). run_outcome (refused k) b lent_reply z) (run_of plan run_bytes b lent_reply z) none) }

-- ---- the book as it comes, and as a run leaves it
ready : Ready plan books set 0
unfolding plan
ready = given_first.ready 0 (omega arith)

laid_0 : Itself plan (books 0)
laid_0 = one.is_itself (one.itself plan (books 0) given_first.plan ready.good ready.bytes ready.high)

lent_as : (b : List ℕ) → length b ≡ length (books 0) → book_lent (length b) ≡ true
lent_as b e = let r = ready.room in let h = ready.high in rw (le-leb 11 (length b) (omega arith), le-leb (length b) 65536 (omega arith))

later : (fs : List (List ℕ)) (y : List ℕ) → StaysGood plan (books 0) (singly plan fs (books 0) y).book
later fs y = singly_stays plan fs (books 0) y given_first.plan ready.good laid_0 ready.high

-- ---- both requests in one run
abbrev pair : List (List ℕ)
pair = request 1 ∷ request 2 ∷ []

abbrev two_places : List ℕ
two_places = 0 ∷ 0 ∷ []

pub one_run : List RunDelivery
one_run = brought_run pair (framed_1, (framed_2, tt)) (books 0) two_places (lent_as (books 0) refl) ready.good (omega arith) ∷ []

one_called : RunsCalled plan books one_run
unfolding one_run brought_run
one_called = (ran_so pair (framed_1, (framed_2, tt)) (books 0) two_places (lent_as (books 0) refl) ready.good (omega arith), tt)

-- ---- the second alone, then both
abbrev after_2 : List ℕ
after_2 = (run_of plan (laid_end_to_end (request 2 ∷ [])) (books 0) (zeros 88) (0 ∷ [])).book

good_2 : good_book plan after_2 ≡ true
good_2 = (later (cut_run (laid_end_to_end (request 2 ∷ []))).frames (zeros 88)).good

lent_2 : book_lent (length after_2) ≡ true
lent_2 = lent_as after_2 (later (cut_run (laid_end_to_end (request 2 ∷ []))).frames (zeros 88)).size

pub two_runs : List RunDelivery
two_runs =
    brought_run (request 2 ∷ []) (framed_2, tt) (books 0) (0 ∷ []) (lent_as (books 0) refl) ready.good (omega arith)
    ∷ brought_run pair (framed_1, (framed_2, tt)) after_2 two_places lent_2 good_2 (omega arith)
    ∷ []

two_called : RunsCalled plan books two_runs
unfolding two_runs brought_run
two_called = (
  ran_so (request 2 ∷ []) (framed_2, tt) (books 0) (0 ∷ []) (lent_as (books 0) refl) ready.good (omega arith),
  (ran_so pair (framed_1, (framed_2, tt)) after_2 two_places lent_2 good_2 (omega arith), tt),
)

-- ---- what they bring
one_frames : frames_to 0 one_run ≡ pair
unfolding frames_to one_run brought_run
one_frames = ap (λ c. c.frames ++ []) (cut_back pair (framed_1, (framed_2, tt)))

two_frames : frames_to 0 two_runs ≡ request 2 ∷ pair
unfolding frames_to two_runs brought_run
two_frames = λ u. (cut_back (request 2 ∷ []) (framed_2, tt) u).frames ++ ((cut_back pair (framed_1, (framed_2, tt)) u).frames ++ [])

one_delivers : DeliversByRuns plan set one_run 0
unfolding set
one_delivers = record { only = λ z h. subst (Among z) one_frames h; each = λ z h _. subst (Among z) (sym one_frames) h }

two_delivers : DeliversByRuns plan set two_runs 0
unfolding set
two_delivers = record {
  only = λ z h. less z (order.among_case (request 2) z pair (subst (Among z) two_frames h));
  each = λ z h _. subst (Among z) (sym two_frames) (order.among_later (request 2) z pair h);
}
  where
    less : (z : List ℕ) → (request 2 ≡ z) ⊎ Among z pair → Among z pair
    less z (inl e) = order.among_later (request 1) z (request 2 ∷ []) (order.among_first (request 2) z [] e)
    less z (inr h) = h

pub given_one : RunSetting plan books set one_run
unfolding plan
given_one = record { plan = given_first.plan; ready = given_first.ready; delivers = at_zero (DeliversByRuns plan set one_run) one_delivers; calls = one_called }

pub given_two : RunSetting plan books set two_runs
unfolding plan
given_two = record { plan = given_first.plan; ready = given_first.ready; delivers = at_zero (DeliversByRuns plan set two_runs) two_delivers; calls = two_called }

-- the third demand holds of them
pub same_bytes : delivered_by_runs one_run books 0 ≡ delivered_by_runs two_runs books 0
unfolding plan
same_bytes = (runs_in_any_order plan books set one_run two_runs given_one given_two 0 (omega arith)).0
