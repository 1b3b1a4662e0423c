-- DOCUMENT 02, Q-3: A RUN OF FRAMES. That the outcome is as if they came singly is its contract. Assumes nothing.
--   runs_left              a run is its frames brought singly, each lent the run's reply buffer: the same books (for demand 3)
--   cut_back               frames laid end to end are cut into themselves, and the run ends with them
--   singly_stays           whatever its frames are, a run leaves a good book good
--   frame_numbers          a frame's number is 0 or 4 to 8
use Rattle.std.specs.Prelude.{Ok}
use Prim.{Unit, tt}
use Prim.Native.Nat.{ℕ, ◌+◌, ◌-◌, ◌*◌, ◌≤◌}
use mathlib.Core.Path.{◌≡◌, refl, sym, ap, ◌∙◌, subst}
use mathlib.Core.Bool.{Bool, true, false, cond, not}
use mathlib.Core.List.{List, [], ◌∷◌, ◌++◌, append_assoc}
use native.Mathlib.Nat.{suc-mul}
use native.Mathlib.Omega.{arith}
use borrow.Author.Tests.{eqb-true, not-false, le-ltb, ltb-false, le-leb}
use lib.ListN.{length, take, length-append}
use lib.Seq.{take_at}
use lib.Dec.{eqb}
use Rattle.octets.specs.Bytes.{part, num, over, Octets}
use Rattle.octets.proofs.Laws.{part_past, part_left, part_middle}
use Rattle.terms.specs.Ladder.{Rung, None, since}
use Rattle.terms.specs.Terms.{plan_ok}
use Rattle.terms.specs.declared.Plan.{Plan}
use Rattle.terms.proofs.Down as down
use Rattle.terms.proofs.Ladders.{by_ladder}
use Rattle.frame.specs.Frame.{longest, rest_of, header_in, body_of, one_of, cut_at}
use Rattle.book.specs.Book.{good_book, book_lent, Itself}
use Rattle.book.proofs.Laws as books
use Rattle.node.specs.Node.{ServedOutcome, served_outcome, refused, node_ladder, book_reply_ok, sends, answered, served}
use Rattle.node.proofs.Laws.{lengths_are}
use Rattle.pasis.proofs.Laws.{of_given}
use Rattle.runs.specs.Cuts.{next_place, cut_into, cut_run}
use Rattle.runs.specs.Runs.{number_said, singly, room_for, did, run_ladder, RunOutcome, run_outcome, run_of, RunCall, ran_of}
use Rattle.runs.proofs.Cuts.{cut_after, past, one_more, none_left}
use Rattle.runs.proofs.Runs.{room_is}
use Rattle.runs.proofs.Bounds.{as_many, ran_is}
use Rattle.store.specs.Deliver.{Among}
use Rattle.store.proofs.Run.{Brought, requests_of, through, RoomyEach}
use Rattle.store.proofs.Books.{Brings}
use Rattle.store.proofs.Kept.{StaysGood, served_stays}
use Rattle.demands.specs.Evening.{RunDelivery, books_after_run, delivered_by_runs, RunsCalled, frames_to, DeliversByRuns, Framed, laid_end_to_end, AllFramed, is_frame_number, all_numbers}

-- ---- one run: its frames, each lent the run's reply buffer
unfoldable pub each : List ℕ → List (List ℕ) → List Brought
each y [] = []
each y (f ∷ fs) = record { request = f; reply = y } ∷ each y fs

each_through : (p : Plan) (fs : List (List ℕ)) (b y : List ℕ) → (singly p fs b y).book ≡ through p (each y fs) b
unfolding each through singly
each_through p [] b y = refl
each_through p (f ∷ fs) b y = each_through p fs (served p f b y).book y

each_requests : (fs : List (List ℕ)) (y : List ℕ) → requests_of (each y fs) ≡ fs
unfolding each requests_of
each_requests [] y = refl
each_requests (f ∷ fs) y = ap (λ (l : List (List ℕ)). f ∷ l) (each_requests fs y)

long_roomy : (p : Plan) (fs : List (List ℕ)) (y : List ℕ) → longest 1 p ≤ length y → RoomyEach p (each y fs)
unfolding each
long_roomy p [] y h = tt
long_roomy p (f ∷ fs) y h = (h, long_roomy p fs y h)

each_roomy : (p : Plan) (fs : List (List ℕ)) (y : List ℕ) → length fs * longest 1 p ≤ length y → RoomyEach p (each y fs)
unfolding each
each_roomy p [] y h = tt
each_roomy p (f ∷ fs) y h = let m = suc-mul (length fs) (longest 1 p) in long_roomy p (f ∷ fs) y (omega arith)

-- ---- one after the other
through_append : (p : Plan) (xs ys : List Brought) (b : List ℕ) → through p (xs ++ ys) b ≡ through p ys (through p xs b)
unfolding through
through_append p [] ys b = refl
through_append p (d ∷ xs) ys b = through_append p xs ys (served p d.request b d.reply).book

requests_append : (xs ys : List Brought) → requests_of (xs ++ ys) ≡ requests_of xs ++ requests_of ys
unfolding requests_of
requests_append [] ys = refl
requests_append (d ∷ xs) ys = ap (λ (l : List (List ℕ)). d.request ∷ l) (requests_append xs ys)

roomy_append : (p : Plan) (xs ys : List Brought) → RoomyEach p xs → RoomyEach p ys → RoomyEach p (xs ++ ys)
roomy_append p [] ys h k = k
roomy_append p (d ∷ xs) ys h k = (h.0, roomy_append p xs ys h.1 k)

-- ---- runs
unfoldable pub brought_by : ℕ → List RunDelivery → List Brought
brought_by i [] = []
brought_by i (d ∷ ds) = cond (eqb i d.node) (each d.reply (cut_run d.run).frames ++ brought_by i ds) (brought_by i ds)

by_requests : (i : ℕ) (ds : List RunDelivery) → requests_of (brought_by i ds) ≡ frames_to i ds
unfolding brought_by frames_to requests_of
by_requests i [] = refl
by_requests i (d ∷ ds) = go (eqb i d.node) (by_requests i ds)
  where
    go : (t : Bool) → requests_of (brought_by i ds) ≡ frames_to i ds
        → requests_of (cond t (each d.reply (cut_run d.run).frames ++ brought_by i ds) (brought_by i ds))
        ≡ cond t ((cut_run d.run).frames ++ frames_to i ds) (frames_to i ds)
    go true ih =
        requests_append (each d.reply (cut_run d.run).frames) (brought_by i ds)
        ∙ (λ u. each_requests (cut_run d.run).frames d.reply u ++ ih u)
    go false ih = ih

by_roomy : (p : Plan) (i : ℕ) (books : ℕ → List ℕ) (ds : List RunDelivery) → RunsCalled p books ds → RoomyEach p (brought_by i ds)
unfolding brought_by
by_roomy p i books [] h = tt
by_roomy p i books (d ∷ ds) h = go (eqb i d.node) (by_roomy p i (books_after_run d books) ds h.1)
  where
    run_is : None (run_ladder p d.run (books d.node) d.reply d.numbers) × (run_outcome (did d.frames d.written d.ended) d.book_left d.reply_left d.numbers_left ≡ run_of p d.run (books d.node) d.reply d.numbers)
    run_is = ran_is p d.run (books d.node) d.reply d.numbers d.frames d.written d.ended d.book_left d.reply_left d.numbers_left h.0

    fits : room_for p (length (cut_run d.run).frames) (length d.reply) (length d.numbers) ≡ true
    fits =
        not-false (room_for p (length (cut_run d.run).frames) (length d.reply) (length d.numbers))
        (down.clear (run_ladder p d.run (books d.node) d.reply d.numbers) run_is.0 21)

    go : (t : Bool) → RoomyEach p (brought_by i ds) → RoomyEach p (cond t (each d.reply (cut_run d.run).frames ++ brought_by i ds) (brought_by i ds))
    go true ih =
        roomy_append p (each d.reply (cut_run d.run).frames) (brought_by i ds)
        (each_roomy p (cut_run d.run).frames d.reply (room_is p _ _ _ fits).0) ih
    go false ih = ih

-- a run is its frames, each alone, in order
by_through : (p : Plan) (i : ℕ) (books : ℕ → List ℕ) (ds : List RunDelivery) → RunsCalled p books ds
    → delivered_by_runs ds books i ≡ through p (brought_by i ds) (books i)
unfolding delivered_by_runs brought_by through
by_through p i books [] h = refl
by_through p i books (d ∷ ds) h = by_through p i (books_after_run d books) ds h.1 ∙ go (eqb i d.node) refl
  where
    xs : List Brought
    xs = each d.reply (cut_run d.run).frames

    left : d.book_left ≡ through p xs (books d.node)
    left =
        ap (λ (o : RunOutcome). o.book) (ran_is p d.run (books d.node) d.reply d.numbers _ _ _ _ _ _ h.0).1
        ∙ each_through p (cut_run d.run).frames (books d.node) d.reply

    go : (t : Bool) → eqb i d.node ≡ t
        → through p (brought_by i ds) (cond t d.book_left (books i)) ≡ through p (cond t (xs ++ brought_by i ds) (brought_by i ds)) (books i)
    go true e =
        ap (through p (brought_by i ds)) (left ∙ ap (λ (j : ℕ). through p xs (books j)) (sym (eqb-true i d.node e)))
        ∙ sym (through_append p xs (brought_by i ds) (books i))
    go false e = refl

-- what the runs leave, and that it is what their frames bring
pub runs_left : (p : Plan) (i : ℕ) (books : ℕ → List ℕ) (fs : List (List ℕ)) (ds : List RunDelivery) → RunsCalled p books ds → DeliversByRuns p fs ds i
    → (delivered_by_runs ds books i ≡ through p (brought_by i ds) (books i)) × Brings p fs (brought_by i ds) i
runs_left p i books fs ds h d =
    let e = by_requests i ds in (
      by_through p i books ds h,
      record {
        only = λ z m. d.only z (subst (Among z) e m);
        each = λ z m k. subst (Among z) (sym e) (d.each z m k);
        room = by_roomy p i books ds h;
      },
    )

-- ---- frames laid end to end
next_at : (pre f rest : List ℕ) → Framed f → next_place (pre ++ (f ++ rest)) (length pre) ≡ length pre + length f
unfolding next_place cut_at
next_at pre f rest h =
    let s : List ℕ = pre ++ (f ++ rest) in
    let at : ℕ = length pre in
    let a = length-append pre (f ++ rest) in
    let b = length-append f rest in
    let l = h.long in
    let t = h.told in
    let z : at + 0 ≡ at = omega arith in
    let e : num (part s at 4) ≡ rest_of f =
    ap num (ap (λ (i : ℕ). part s i 4) (sym z) ∙ part_past pre (f ++ rest) at 0 4 refl ∙ part_left f rest 0 4 (omega arith)) in
    rw (e, le-ltb (length s - at) 4 (omega arith), le-ltb (rest_of f) 11 (omega arith), le-ltb (length s - at - 4) (rest_of f) (omega arith)) (omega arith)

-- the frames after some bytes
cut_after_lem : (fs : List (List ℕ)) (pre : List ℕ) → AllFramed fs
    → cut_after (pre ++ laid_end_to_end fs) (length pre) ≡ cut_into fs (length (pre ++ laid_end_to_end fs))
unfolding laid_end_to_end
cut_after_lem [] pre h =
    let l = length-append pre [] in
    let e : length pre ≡ length (pre ++ []) = l_is l in
    none_left (pre ++ []) (length pre) (none_past (pre ++ []) (length pre) (omega arith)) ∙ ap (cut_into []) e
  where
    l_is : length (pre ++ []) ≡ length pre + length {A = ℕ} [] → length pre ≡ length (pre ++ [])
    l_is l = omega arith

    none_past : (s : List ℕ) (at : ℕ) → length s ≤ at → next_place s at ≤ at
    none_past s at q = ltb-false _ _ (past s at q)
cut_after_lem (f ∷ fs) pre h =
    let rest : List ℕ = laid_end_to_end fs in
    let s : List ℕ = pre ++ (f ++ rest) in
    let at : ℕ = length pre in
    let g = h.0.long in
    let n : next_place s at ≡ at + length f = next_at pre f rest h.0 in
    let m : at + length f ≡ length (pre ++ f) = sym (length-append pre f) in
    let k : next_place s at - at ≡ length f = omega arith in
    let x : part s at (next_place s at - at) ≡ f = part_middle s pre f rest at (next_place s at - at) refl refl (sym k) in
    let ih : cut_after s (next_place s at) ≡ cut_into fs (length s) =
    ap (cut_after s) (n ∙ m) ∙ subst (λ (w : List ℕ). cut_after w (length (pre ++ f)) ≡ cut_into fs (length w)) (append_assoc pre f rest) (cut_after_lem fs (pre ++ f) h.1) in
    one_more s at (omega arith) ∙ (λ u. cut_into (x u ∷ (ih u).frames) (ih u).ended)

-- "A run of frames laid end to end" is cut into them, and ends with the last.
pub cut_back : (fs : List (List ℕ)) → AllFramed fs → cut_run (laid_end_to_end fs) ≡ cut_into fs (length (laid_end_to_end fs))
unfolding cut_run
cut_back fs h = cut_after_lem fs [] h

-- ---- a good book is good after a run, and as long
pub singly_stays : (p : Plan) (fs : List (List ℕ)) (b y : List ℕ) → plan_ok p ≡ true → good_book p b ≡ true → Itself p b → length b ≤ 65536
    → StaysGood p b (singly p fs b y).book
unfolding singly
singly_stays p [] b y pk g i h = record { good = g; laid = i; size = refl }
singly_stays p (f ∷ fs) b y pk g i h =
    let st = served_stays p f b y pk g i h in
    let e = st.size in
    let r = singly_stays p fs (served p f b y).book y pk st.good st.laid (omega arith) in
    record { good = r.good; laid = r.laid; size = r.size ∙ e }

-- ---- the numbers
module _ (p : Plan) (f b y : List ℕ) (pk : plan_ok p ≡ true) (l : book_reply_ok p (length b) (length y) ≡ true) (g : good_book p b ≡ true) where
  abbrev ladder : Unit {0} → List Rung
  ladder u = node_ladder p f b y

  -- none of 1 to 3 applies
  at_frame : down.Down ladder 4
  at_frame = record { start = tt; none = (ap not pk, (ap not l, (ap not g, tt))) }

  one_number : is_frame_number (number_said (served p f b y).answer) ≡ true
  unfolding served answered sends one_of
  one_number =
      let refuse : ℕ → ServedOutcome = λ k. served_outcome (refused k) b y in
      let pass : ServedOutcome = answered p (header_in f) (body_of f) b y in
      subst (λ (o : ServedOutcome). is_frame_number (number_said o.answer) ≡ true) (down.goes_on refuse pass at_frame refl)
      (by_ladder (λ (o : ServedOutcome). is_frame_number (number_said o.answer) ≡ true) (since 4 (node_ladder p f b y)) refuse pass
      (of_given is_frame_number (since 4 (node_ladder p f b y)) refl) (λ n. refl))

singly_numbers : (p : Plan) (fs : List (List ℕ)) (b y : List ℕ) → plan_ok p ≡ true → book_reply_ok p (length b) (length y) ≡ true → good_book p b ≡ true → Itself p b
    → all_numbers (singly p fs b y).numbers ≡ true
unfolding singly all_numbers
singly_numbers p [] b y pk l g i = refl
singly_numbers p (f ∷ fs) b y pk l g i =
    let st = served_stays p f b y pk g i (lengths_are p (length b) (length y) l).high in
    let m : book_reply_ok p (length (served p f b y).book) (length y) ≡ true = ap (λ (n : ℕ). book_reply_ok p n (length y)) st.size ∙ l in
    rw (one_number p f b y pk l g) (singly_numbers p fs (served p f b y).book y pk m st.good st.laid)

module _ (p : Plan) (s b y z : List ℕ) (n w e : ℕ) (b₂ y₂ z₂ : List ℕ) (o : Octets b) (c : RunCall p s b y z (Ok (ran_of n w e)) b₂ y₂ z₂) where
  fs : List (List ℕ)
  fs = (cut_run s).frames

  ns : List ℕ
  ns = (singly p fs b y).numbers

  -- the first n number places are the frames'
  places : take n z₂ ≡ ns
  unfolding fs ns over
  places =
      let q = (ran_is p s b y z n w e b₂ y₂ z₂ c).1 in
      let k : n ≡ length (singly p (cut_run s).frames b y).numbers = told (ap (λ (x : RunOutcome). x.answer) q) ∙ sym (as_many p (cut_run s).frames b y) in
      ap (take n) (ap (λ (x : RunOutcome). x.numbers) q) ∙ take_at (singly p (cut_run s).frames b y).numbers _ n (sym k)
    where
      told : did n w e ≡ did (length (cut_run s).frames) (length (singly p (cut_run s).frames b y).replies) (cut_run s).ended → n ≡ length (cut_run s).frames
      told d = cc

  all_good : all_numbers ns ≡ true
  unfolding fs ns book_reply_ok singly all_numbers
  all_good = go (cut_run s).frames (room_is p _ _ _ (not-false _ (down.clear (run_ladder p s b y z) m 21))).0
    where
      m : None (run_ladder p s b y z)
      m = (ran_is p s b y z n w e b₂ y₂ z₂ c).0

      g : good_book p b ≡ true
      g = not-false (good_book p b) (down.clear (run_ladder p s b y z) m 3)

      lent : book_lent (length b) ≡ true
      lent = not-false (book_lent (length b)) (down.clear (run_ladder p s b y z) m 2)

      lengths : longest 1 p ≤ length y → book_reply_ok p (length b) (length y) ≡ true
      lengths h = rw (lent, le-leb (longest 1 p) (length y) h)

      start : (xs : List (List ℕ)) → longest 1 p ≤ length y → all_numbers (singly p xs b y).numbers ≡ true
      start xs h = singly_numbers p xs b y (not-false (plan_ok p) (down.clear (run_ladder p s b y z) m 1)) (lengths h) g (books.good_laid p b o (books.good_is p b g))

      go : (xs : List (List ℕ)) → length xs * longest 1 p ≤ length y → all_numbers (singly p xs b y).numbers ≡ true
      go [] h = refl
      go (x ∷ xs) h = let k = suc-mul (length xs) (longest 1 p) in start (x ∷ xs) (omega arith)

  -- Of a run that is not refused, each frame's number is 0, or 4 to 8: 1 to 3 and 21 refuse the run.
  pub frame_numbers : all_numbers (take n z₂) ≡ true
  frame_numbers = ap all_numbers places ∙ all_good
