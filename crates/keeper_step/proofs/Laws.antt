-- Laws of what a run of requests comes to, over the contract of the run's call.
--   Seeking           the frames from a place on, in a search for a write request: its start, a turn, its two ends
--   one_stays look_stays   a frame that is no write request leaves the book; a run without one does
--   fits numbered     the replies lie within their buffer, the numbers within theirs
--   told              the comparison with a copy of the book tells whether the book changed
--   answer_of_lem         what a step answers has the run's answer in it
--   looks_refused looks_as                the contract of `look`, by the case of the run's answer
--   refuses_as steps_as                   the contract of `step`
--   counted_due       what is due counts bytes of the replies and of the numbers
-- Assumes nothing.
use mathlib.Core.Path.{◌≡◌, refl, sym, ap, ◌∙◌, subst}
use mathlib.Core.Bool.{Bool, true, false, cond}
use mathlib.Core.List.{List, [], ◌∷◌}
use Prim.Native.Nat.{ℕ, suc, ◌+◌, ◌-◌, ◌≤◌, ◌<◌}
use native.Mathlib.Omega.{arith}
use borrow.Author.Tests.{eq-eqb, ne_eqb}
use lib.ListN.{length, length-append, take, drop}
use lib.Dec.{eqb}
use Rattle.octets.specs.Bytes.{part, put, over, alike}
use Rattle.octets.proofs.Laws.{length_part, part_all, part_put_same}
use Rattle.terms.specs.Ladder.{◌or◌}
use Rattle.terms.specs.declared.Plan.{Plan}
use Rattle.terms.specs.declared.Refusal.{Refusal}
use Rattle.terms.proofs.Ladders as ladders
use Rattle.frame.specs.Frame.{head_bytes, header_in, body_of}
use Rattle.node.specs.Node.{writes, answered, served, node_ladder}
use Rattle.node.proofs.Laws as nodes
use Rattle.store.proofs.One as one
use Rattle.runs.specs.Cuts.{next_place, Cutting, cut_run}
use Rattle.runs.specs.Runs.{singly, run_ladder, SaidRan, said_ran, ran_of, refused, did, RunOutcome, run_outcome, run_of, ran_over, RunCall}
use Rattle.runs.specs.declared.Ran.{Ran}
use Rattle.runs.proofs.Cuts as cuts
use Rattle.runs.proofs.Unique as unique
use Rattle.io.specs.Counts.{IsPrefixLen}
use Rattle.io.proofs.Counting.{prefix_len_of_le}
use Rattle.keeper_step.specs.declared.Next.{Next}
use Rattle.keeper_step.specs.declared.Due.{Due}
use Rattle.keeper_step.specs.declared.Waits.{Waits}
use Rattle.keeper_step.specs.declared.Waits.TheVariants.{Nothing, Sync, Store}
use Rattle.keeper_step.specs.Step.{some_writes, asks_to_write, answer_of, may_tell, waiting, next_after, next_of, frames_of, written_of, Looked, Stepped, due_of, goes_out, due_after}
use Rattle.std.specs.Prelude.{Option, Some, None, Result, Ok, Err}

-- ---- the search for a write request: none stands before the place at, and the next frame ends at e
pub record Seeking (s : List ℕ) (at e : ℕ) : Type 0 where
  pub left : some_writes (cuts.cut_after s at).frames ≡ asks_to_write s
  pub next : e ≡ next_place s at

pub seek_start : (s : List ℕ) (e : ℕ) → e ≡ next_place s 0 → Seeking s 0 e
unfolding asks_to_write cut_run
seek_start s e h = record { left = refl; next = h }

module _ {s : List ℕ} {at e : ℕ} (k : Seeking s at e) (h : at < e) where
  far : cuts.Far s at e
  far = subst (λ (x : ℕ). cuts.Far s at x) (sym k.next) (cuts.next_far s at (subst (λ (x : ℕ). at < x) k.next h))

  -- the frame, and those after it
  first_left : (writes (header_in (take (e - at) (drop at s))) or some_writes (cuts.cut_after s e).frames) ≡ asks_to_write s
  unfolding some_writes part
  first_left =
      let q = cuts.one_more s at (subst (λ (x : ℕ). at < x) k.next h) in
      let m = ap (λ (c : Cutting). some_writes c.frames) q in
      subst (λ (x : ℕ). (writes (header_in (take (x - at) (drop at s))) or some_writes (cuts.cut_after s x).frames) ≡ asks_to_write s) (sym k.next) (sym m ∙ k.left)

  pub seek_within : e ≤ length s
  seek_within = far.high

  pub seek_low : at ≤ e
  seek_low = let l = far.low in omega arith

  pub seek_head : head_bytes 1 ≤ length (take (e - at) (drop at s))
  unfolding part
  seek_head =
      let l = far.low in
      let g = far.high in
      let m = length_part s at (e - at) (omega arith) in
      omega (arith, m)

  pub seek_found : {w : Bool} → w ≡ writes (header_in (take (e - at) (drop at s))) → w ≡ true → true ≡ asks_to_write s
  seek_found g t = ap (λ (x : Bool). x or some_writes (cuts.cut_after s e).frames) (sym t ∙ g) ∙ first_left

  pub seek_turn : {w : Bool} {e₂ : ℕ} → w ≡ writes (header_in (take (e - at) (drop at s))) → w ≡ false → e₂ ≡ next_place s e → Seeking s e e₂
  seek_turn g t n = record { left = ap (λ (x : Bool). x or some_writes (cuts.cut_after s e).frames) (sym t ∙ g) ∙ first_left; next = n }

  pub seek_less : length s - e < length s - at
  seek_less =
      let l = far.low in
      let g = far.high in
      omega arith

pub seek_done : {s : List ℕ} {at e : ℕ} → Seeking s at e → e ≤ at → false ≡ asks_to_write s
unfolding some_writes
seek_done {s} {at} {e} k h =
    let q = cuts.none_left s at (subst (λ (x : ℕ). x ≤ at) k.next h) in
    sym (ap (λ (c : Cutting). some_writes c.frames) q) ∙ k.left

-- ---- a run that asks for no write
one_stays : (p : Plan) (f b y : List ℕ) → writes (header_in f) ≡ false → (served p f b y).book ≡ b
unfolding served
one_stays p f b y e =
    one.first_stays b y (answered p (header_in f) (body_of f) b y) (node_ladder p f b y) (λ n. one.answered_book p f b y ∙ nodes.after_other p (header_in f) (body_of f) b e)

neither : (s t : Bool) → (s or t) ≡ false → (s ≡ false) × (t ≡ false)
neither false t e = (refl, e)
neither true t e = absurd (let z : ◌≡◌ {A = ℕ} 0 1 = cc in omega arith)

all_stay : (p : Plan) (fs : List (List ℕ)) (b y : List ℕ) → some_writes fs ≡ false → (singly p fs b y).book ≡ b
unfolding singly some_writes
all_stay p [] b y e = refl
all_stay p (f ∷ fs) b y e =
    let q = neither (writes (header_in f)) (some_writes fs) e in
    all_stay p fs (served p f b y).book y q.1 ∙ one_stays p f b y q.0

look_stays : (p : Plan) (s b y z : List ℕ) (a : Result Ran Refusal) (b₂ y₂ z₂ : List ℕ) → asks_to_write s ≡ false → RunCall p s b y z a b₂ y₂ z₂ → b₂ ≡ b
unfolding asks_to_write ran_over
look_stays p s b y z a b₂ y₂ z₂ w c =
    ap (λ (o : RunOutcome). o.book) c.is
    ∙ ladders.by_ladder (λ (o : RunOutcome). o.book ≡ b) (run_ladder p s b y z) (λ (k : ℕ). run_outcome (refused k) b y z) (run_of p s b y z)
    (λ k g. refl) (λ n. all_stay p (cut_run s).frames b y w)

-- ---- the replies and the numbers lie within their buffers
over_long : (new old : List ℕ) → length new ≤ length (over new old)
unfolding over
over_long new old = let e = length-append new (drop (length new) old) in omega (arith, e)

as_many : (p : Plan) (fs : List (List ℕ)) (b y : List ℕ) → length (singly p fs b y).numbers ≡ length fs
unfolding singly
as_many p [] b y = refl
as_many p (f ∷ fs) b y = ap suc (as_many p fs (served p f b y).book y)

pub record Within (a : Result Ran Refusal) (y z : List ℕ) : Type 0 where
  pub fits : written_of a ≤ length y
  pub numbered : frames_of a ≤ length z

did_within : (p : Plan) (s b y z : List ℕ) (n w e : ℕ) (b₂ y₂ z₂ : List ℕ) → run_outcome (did n w e) b₂ y₂ z₂ ≡ run_of p s b y z → Within (Ok (ran_of n w e)) y₂ z₂
did_within p s b y z n w e b₂ y₂ z₂ q =
    let l = singly p (cut_run s).frames b y in
    let g : did n w e ≡ did (length (cut_run s).frames) (length l.replies) (cut_run s).ended = ap (λ (o : RunOutcome). o.answer) q in
    let i : n ≡ length (cut_run s).frames = cc in
    let j : w ≡ length l.replies = cc in
    let u : y₂ ≡ over l.replies y = ap (λ (o : RunOutcome). o.reply) q in
    let v : z₂ ≡ over l.numbers z = ap (λ (o : RunOutcome). o.numbers) q in
    let m = as_many p (cut_run s).frames b y in
    record {
      fits = subst (λ (x : List ℕ). w ≤ length x) (sym u) (omega (arith, over_long l.replies y, j));
      numbered = subst (λ (x : List ℕ). n ≤ length x) (sym v) (omega (arith, over_long l.numbers z, m, i));
    }

pub within : (p : Plan) (s b y z : List ℕ) (a : Result Ran Refusal) (b₂ y₂ z₂ : List ℕ) → RunCall p s b y z a b₂ y₂ z₂ → Within a y₂ z₂
unfolding ran_over
within p s b y z (Err r) b₂ y₂ z₂ c = record { fits = omega arith; numbered = omega arith }
within p s b y z (Ok x) b₂ y₂ z₂ c =
    let n = x.frames in
    let w = x.written in
    let e = x.ended in
    ladders.by_ladder (λ (o : RunOutcome). run_outcome (did n w e) b₂ y₂ z₂ ≡ o → Within (Ok (ran_of n w e)) y₂ z₂) (run_ladder p s b y z) (λ (k : ℕ). run_outcome (refused k) b y z) (run_of p s b y z)
    (λ k g h. absurd (unique.not_did k n w e (sym (ap (λ (o : RunOutcome). o.answer) h))))
    (λ g h. did_within p s b y z n w e b₂ y₂ z₂ h)
    c.is

-- ---- the comparison
pub told : (b b₂ d d₂ : List ℕ) (n : ℕ) (t : Bool) → d₂ ≡ put d 0 (part b 0 n) → t ≡ alike (part b₂ 0 n) (part d₂ 0 n)
    → length b ≡ n → length b₂ ≡ n → n ≤ length d → t ≡ alike b₂ b
told b b₂ d d₂ n t g e l m h =
    let x : part d₂ 0 n ≡ b =
    ap (λ (q : List ℕ). part q 0 n) g ∙ part_put_same d 0 (part b 0 n) n (length_part b 0 n (omega arith)) (omega arith)
    ∙ ap (part b 0) (sym l) ∙ part_all b in
    let z : part b₂ 0 n ≡ b₂ = ap (part b₂ 0) (sym m) ∙ part_all b₂ in
    e ∙ ap (λ (q : List ℕ). alike q (part d₂ 0 n)) z ∙ ap (alike b₂) x

-- ---- the contracts
answer_of_lem : (a : Result Ran Refusal) (e d : Bool) → answer_of (next_of a e d) ≡ a
answer_of_lem (Err r) e d = refl
answer_of_lem (Ok x) e d = refl

looks : (p : Plan) (d : Bool) (f b y z : List ℕ) (a : Result Ran Refusal) (x : Result Next Refusal) (b₂ y₂ z₂ : List ℕ) → asks_to_write f ≡ false → RunCall p f b y z a b₂ y₂ z₂ → x ≡ next_of a true d → Looked p d f b y z x b₂ y₂ z₂
looks p d f b y z a x b₂ y₂ z₂ w c e =
    let s : answer_of x ≡ a = ap (λ (z : Result Next Refusal). answer_of z) e ∙ answer_of_lem a true d in
    let i = within p f b y z a b₂ y₂ z₂ c in
    record {
      call = subst (λ (r : Result Ran Refusal). RunCall p f b y z r b₂ y₂ z₂) (sym s) c;
      stays = look_stays p f b y z a b₂ y₂ z₂ w c;
      next = e ∙ ap (λ (r : Result Ran Refusal). next_of r true d) (sym s);
      fits = subst (λ (r : Result Ran Refusal). written_of r ≤ length y₂) (sym s) i.fits;
      numbered = subst (λ (r : Result Ran Refusal). frames_of r ≤ length z₂) (sym s) i.numbered;
    }

steps : (p : Plan) (d : Bool) (f b y z : List ℕ) (a : Result Ran Refusal) (x : Result Next Refusal) (b₂ y₂ z₂ : List ℕ) → RunCall p f b y z a b₂ y₂ z₂ → x ≡ next_of a (alike b₂ b) d → Stepped p d f b y z x b₂ y₂ z₂
steps p d f b y z a x b₂ y₂ z₂ c e =
    let s : answer_of x ≡ a = ap (λ (z : Result Next Refusal). answer_of z) e ∙ answer_of_lem a (alike b₂ b) d in
    let i = within p f b y z a b₂ y₂ z₂ c in
    record {
      call = subst (λ (r : Result Ran Refusal). RunCall p f b y z r b₂ y₂ z₂) (sym s) c;
      next = e ∙ ap (λ (r : Result Ran Refusal). next_of r (alike b₂ b) d) (sym s);
      fits = subst (λ (r : Result Ran Refusal). written_of r ≤ length y₂) (sym s) i.fits;
      numbered = subst (λ (r : Result Ran Refusal). frames_of r ≤ length z₂) (sym s) i.numbered;
    }

-- an answer by its case, as a `?` tells it
pub looks_refused : (p : Plan) (d : Bool) (f b y z : List ℕ) (a : Result Ran Refusal) (r : Refusal) (b₂ y₂ z₂ : List ℕ) → asks_to_write f ≡ false → a ≡ Err r
    → RunCall p f b y z a b₂ y₂ z₂ → Looked p d f b y z (Err r) b₂ y₂ z₂
looks_refused p d f b y z a r b₂ y₂ z₂ w e c = looks p d f b y z a (Err r) b₂ y₂ z₂ w c (sym (ap (λ (x : Result Ran Refusal). next_of x true d) e))

pub looks_as : (p : Plan) (d : Bool) (f b y z : List ℕ) (a : Result Ran Refusal) (n : Ran) (x : Next) (b₂ y₂ z₂ : List ℕ) → asks_to_write f ≡ false → a ≡ Ok n
    → x ≡ next_after n true d → RunCall p f b y z a b₂ y₂ z₂ → Looked p d f b y z (Ok x) b₂ y₂ z₂
looks_as p d f b y z a n x b₂ y₂ z₂ w e u c = looks p d f b y z a (Ok x) b₂ y₂ z₂ w c (ap Ok u ∙ sym (ap (λ (r : Result Ran Refusal). next_of r true d) e))

pub refuses_as : (p : Plan) (d : Bool) (f b y z : List ℕ) (a : Result Ran Refusal) (r : Refusal) (b₂ y₂ z₂ : List ℕ) → a ≡ Err r → RunCall p f b y z a b₂ y₂ z₂
    → Stepped p d f b y z (Err r) b₂ y₂ z₂
refuses_as p d f b y z a r b₂ y₂ z₂ e c = steps p d f b y z a (Err r) b₂ y₂ z₂ c (sym (ap (λ (x : Result Ran Refusal). next_of x (alike b₂ b) d) e))

pub steps_as : (p : Plan) (d : Bool) (f b y z : List ℕ) (a : Result Ran Refusal) (n : Ran) (t : Bool) (x : Next) (b₂ y₂ z₂ : List ℕ) → a ≡ Ok n → x ≡ next_after n t d
    → RunCall p f b y z a b₂ y₂ z₂ → t ≡ alike b₂ b → Stepped p d f b y z (Ok x) b₂ y₂ z₂
steps_as p d f b y z a n t x b₂ y₂ z₂ e u c q =
    steps p d f b y z a (Ok x) b₂ y₂ z₂ c
    (ap Ok u ∙ ap (λ (s : Bool). Ok (next_after n s d)) q ∙ sym (ap (λ (r : Result Ran Refusal). next_of r (alike b₂ b) d) e))

-- ---- what is due counts bytes
pub counted_due : (x : Result Next Refusal) (s : Bool) (d : Result (Option Due) Refusal) (e : Due) (y z : List ℕ) → d ≡ due_after x s → d ≡ Ok (Some e)
    → written_of (answer_of x) ≤ length y → frames_of (answer_of x) ≤ length z → IsPrefixLen e.written y × IsPrefixLen e.frames z
counted_due x s d u y z e f h g = go x (sym f ∙ e) h g
  where
    both : (v : Due) → u ≡ v → v.written ≤ length y → v.frames ≤ length z → IsPrefixLen u.written y × IsPrefixLen u.frames z
    both v e h g =
        (subst (λ (w : Due). IsPrefixLen w.written y) (sym e) (prefix_len_of_le v.written y h), subst (λ (w : Due). IsPrefixLen w.frames z) (sym e) (prefix_len_of_le v.frames z g))

    by_waits : (t : Bool) (v : Due) → ◌≡◌ {A = Result (Option Due) Refusal} (Ok (Some u)) (Ok (cond t (Some v) None)) → v.written ≤ length y → v.frames ≤ length z
        → IsPrefixLen u.written y × IsPrefixLen u.frames z
    by_waits true v e h g = both v (cc) h g
    by_waits false v e h g = absurd (let z : ◌≡◌ {A = ℕ} 0 1 = cc in omega arith)

    go : (x : Result Next Refusal) → ◌≡◌ {A = Result (Option Due) Refusal} (Ok (Some u)) (due_after x s) → written_of (answer_of x) ≤ length y
        → frames_of (answer_of x) ≤ length z → IsPrefixLen u.written y × IsPrefixLen u.frames z
    go (Err r) e h g = absurd (let z : ◌≡◌ {A = ℕ} 0 1 = cc in omega arith)
    go (Ok x) e h g = by_waits (goes_out x.waits s) (due_of x.ran) e h g
