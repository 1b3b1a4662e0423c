-- "As if they came singly in that order: same book, replies end to end, one number a frame." The state that a run leaves is the book after the
-- single calls, their replies end to end over the reply buffer, and their numbers over the number places; bytes past them stay.
-- Assumes nothing.
use Prim.Native.Nat.{ℕ, suc, ◌+◌, ◌*◌, ◌≤◌}
use mathlib.Core.Path.{◌≡◌, refl, sym, ap, ◌∙◌}
use mathlib.Core.Bool.{true}
use mathlib.Core.List.{List, [], ◌∷◌, ◌++◌, append_assoc}
use native.Mathlib.Nat.{suc-mul}
use native.Mathlib.Omega.{arith}
use lib.ListN.{length, take, drop, take-append-drop, length-append, length-drop, length-take}
use lib.Seq.{drop-drop, drop-append-le}
use Rattle.octets.specs.Bytes.{part, put, over}
use Rattle.octets.proofs.Laws.{length_part, length_put, put_nil, put_then}
use Rattle.terms.specs.Ladder.{first}
use Rattle.terms.specs.declared.Plan.{Plan}
use Rattle.frame.specs.Frame.{longest}
use Rattle.node.specs.Node.{ServedOutcome, served}
use Rattle.runs.specs.Cuts.{cut_run}
use Rattle.runs.specs.Runs.{number_said, length_said, reply_in, singly, room_for, run_ladder, refused, did, said_ran, run_outcome, run_of, ran_over, RunCall}
use Rattle.runs.specs.declared.Ran.{Ran}
use Rattle.std.specs.Prelude.{Result}
use Rattle.terms.specs.declared.Refusal.{Refusal}
use Rattle.runs.specs.Inside.{State, state, taken, ran, TookAll}
use Rattle.runs.proofs.Runs.{room_is}
use Rattle.runs.proofs.Short.{Short, served_short, Alike, served_alike, served_over}

-- ---- bytes
put_over : (y : List ℕ) (out m : ℕ) (f : List ℕ) → length f ≤ m → out + m ≤ length y → put y out (over f (part y out m)) ≡ put y out f
unfolding put over part
put_over y out m f h k =
    let d : List ℕ = drop out y in
    let ld = length-drop out y in
    let lt : length (take m d) ≡ m = length_part_is in
    let g : List ℕ = drop (length f) (take m d) in
    let lg : length (f ++ g) ≡ m = let a = length-append f g in let b = length-drop (length f) (take m d) in omega arith in
    let e : g ++ drop (out + m) y ≡ drop (out + length f) y =
    ap (λ (x : List ℕ). g ++ x) (sym (drop-drop m out y)) ∙ sym (drop-append-le (length f) (take m d) (drop m d) (omega arith))
    ∙ ap (drop (length f)) (take-append-drop m d) ∙ drop-drop (length f) out y in
    ap (λ (n : ℕ). take out y ++ ((f ++ g) ++ drop (out + n) y)) lg ∙ ap (λ (x : List ℕ). take out y ++ x) (append_assoc f g (drop (out + m) y) ∙ ap (λ (x : List ℕ). f ++ x) e)
  where
    length_part_is : length (take m (drop out y)) ≡ m
    length_part_is = length_part y out m k

-- ---- one frame of a run: w is the reply buffer that the single calls are lent
module _ (p : Plan) (f : List ℕ) (s : State) (w : List ℕ) (room : s.out + (longest 1 p) ≤ length s.reply) (long : longest 1 p ≤ length w) where
  abbrev here : ServedOutcome
  here = served p f s.book (part s.reply s.out (longest 1 p))

  abbrev alone : ServedOutcome
  alone = served p f s.book w

  lent : length (part s.reply s.out (longest 1 p)) ≡ longest 1 p
  lent = length_part s.reply s.out (longest 1 p) room

  same : Alike here alone
  same = let l = lent in served_alike p f s.book (part s.reply s.out (longest 1 p)) w (omega arith) long

  short : Short p here
  short = served_short p f s.book (part s.reply s.out (longest 1 p)) lent

  pub counted : length (reply_in alone) ≡ length_said alone.answer
  counted =
      let q = short in
      let a = q.answer in
      let r = q.reply in
      let t = length-take (length_said here.answer) here.reply in
      let e : length (reply_in here) ≡ length_said here.answer = omega arith in
      sym (ap length same.bytes) ∙ e ∙ ap length_said same.answer

  pub taken_is : taken p f s ≡ state alone.book (put s.reply s.out (reply_in alone)) (s.out + length (reply_in alone)) (put s.numbers s.count (number_said alone.answer ∷ [])) (s.count + 1)
  unfolding taken
  taken_is =
      let c = counted in
      let q = short in
      let a = q.answer in
      let lb : length (reply_in here) ≤ longest 1 p = let t = length-take (length_said here.answer) here.reply in omega arith in
      let e : put s.reply s.out here.reply ≡ put s.reply s.out (reply_in alone) =
      ap (put s.reply s.out) (served_over p f s.book (part s.reply s.out (longest 1 p)))
      ∙ put_over s.reply s.out (longest 1 p) (reply_in here) lb room ∙ ap (put s.reply s.out) same.bytes in
      let n : length_said here.answer ≡ length (reply_in alone) = ap length_said same.answer ∙ sym c in
      (λ i. state (same.book i) (e i) (s.out + n i) (put s.numbers s.count (number_said (same.answer i) ∷ [])) (s.count + 1))

  pub short_bytes : length (reply_in alone) ≤ longest 1 p
  short_bytes = let c = counted in let q = short in let a = q.answer in let e : length_said here.answer ≡ length_said alone.answer = ap length_said same.answer in omega arith

-- ---- all frames
abbrev ends_in : Plan → List (List ℕ) → State → List ℕ → State
ends_in p fs s w =
    state (singly p fs s.book w).book (put s.reply s.out (singly p fs s.book w).replies) (s.out + length (singly p fs s.book w).replies)
    (put s.numbers s.count (singly p fs s.book w).numbers) (s.count + length fs)

pub end_to_end : (p : Plan) (fs : List (List ℕ)) (s : State) (w : List ℕ) → longest 1 p ≤ length w → s.out + length fs * (longest 1 p) ≤ length s.reply
    → s.count + length fs ≤ length s.numbers → ran p fs s ≡ ends_in p fs s w
unfolding ran singly
end_to_end p [] s w long h k =
    let z : s.out + 0 ≡ s.out = omega arith in
    let c : s.count + 0 ≡ s.count = omega arith in
    (λ i. state s.book (sym (put_nil s.reply s.out) i) (sym z i) (sym (put_nil s.numbers s.count) i) (sym c i))
end_to_end p (f ∷ fs) s w long h k =
    let m = suc-mul (length fs) (longest 1 p) in
    let room : s.out + (longest 1 p) ≤ length s.reply = omega arith in
    let o : ServedOutcome = served p f s.book w in
    let x : List ℕ = reply_in o in
    let v : ℕ = number_said o.answer in
    let rest : List ℕ = (singly p fs o.book w).replies in
    let more : List ℕ = (singly p fs o.book w).numbers in
    let sb : length x ≤ longest 1 p = short_bytes p f s w room long in
    let t : State = state o.book (put s.reply s.out x) (s.out + length x) (put s.numbers s.count (v ∷ [])) (s.count + 1) in
    let ly : length (put s.reply s.out x) ≡ length s.reply = length_put s.reply s.out x (omega arith) in
    let lz : length (put s.numbers s.count (v ∷ [])) ≡ length s.numbers = length_put s.numbers s.count (v ∷ []) (omega arith) in
    let ih : ran p fs t ≡ ends_in p fs t w = end_to_end p fs t w long (omega arith) (omega arith) in
    let ey : put (put s.reply s.out x) (s.out + length x) rest ≡ put s.reply s.out (x ++ rest) = put_then s.reply s.out (s.out + length x) x rest refl (omega arith) in
    let ez : put (put s.numbers s.count (v ∷ [])) (s.count + 1) more ≡ put s.numbers s.count (v ∷ more) = put_then s.numbers s.count (s.count + 1) (v ∷ []) more refl (omega arith) in
    let eo : s.out + length x + length rest ≡ s.out + length (x ++ rest) = let a = length-append x rest in omega arith in
    let ek : s.count + 1 + length fs ≡ s.count + suc (length fs) = omega arith in
    ap (ran p fs) (taken_is p f s w room long) ∙ ih ∙ (λ i. state (singly p fs o.book w).book (ey i) (eo i) (ez i) (ek i))

-- ---- the call
put_start : (l x : List ℕ) → put l 0 x ≡ over x l
unfolding put over
put_start l x = let e : 0 + length x ≡ length x = omega arith in ap (λ (n : ℕ). x ++ drop n l) e

-- the room that a run has for its replies is the room of one, where it has a frame
pub from_start : (p : Plan) (fs : List (List ℕ)) (b y z : List ℕ) → length fs * (longest 1 p) ≤ length y → length fs ≤ length z
    → ran p fs (state b y 0 z 0) ≡ state (singly p fs b y).book (over (singly p fs b y).replies y) (length (singly p fs b y).replies) (over (singly p fs b y).numbers z) (length fs)
unfolding ran singly over
from_start p [] b y z h k = refl
from_start p (f ∷ fs) b y z h k =
    let m = suc-mul (length fs) (longest 1 p) in
    let x : List ℕ = (singly p (f ∷ fs) b y).replies in
    let v : List ℕ = (singly p (f ∷ fs) b y).numbers in
    let a : 0 + length x ≡ length x = omega arith in
    let c : 0 + length (f ∷ fs) ≡ length (f ∷ fs) = omega arith in
    end_to_end p (f ∷ fs) (state b y 0 z 0) y (omega arith) (omega arith) (omega arith)
    ∙ (λ i. state (singly p (f ∷ fs) b y).book (put_start y x i) (a i) (put_start z v i) (c i))

pub all_done : (p : Plan) (s b y z : List ℕ) (n out ended : ℕ) (b₂ y₂ z₂ : List ℕ) → room_for p (length (cut_run s).frames) (length y) (length z) ≡ true
    → n ≡ length (cut_run s).frames → ended ≡ (cut_run s).ended → TookAll p s b y z out b₂ y₂ z₂ → run_outcome (did n out ended) b₂ y₂ z₂ ≡ run_of p s b y z
all_done p s b y z n out ended b₂ y₂ z₂ r en ee t =
    let q = room_is p (length (cut_run s).frames) (length y) (length z) r in
    let e = t.is ∙ from_start p (cut_run s).frames b y z q.0 q.1 in
    (λ i. run_outcome (did (en i) out (ee i)) b₂ y₂ z₂)
    ∙ ap (λ (u : State). run_outcome (did (length (cut_run s).frames) u.out (cut_run s).ended) u.book u.reply u.numbers) e

pub called : (p : Plan) (s b y z : List ℕ) (a : Result Ran Refusal) (b₂ y₂ z₂ : List ℕ)
    → run_outcome (said_ran a) b₂ y₂ z₂ ≡ first (run_ladder p s b y z) (λ (k : ℕ). run_outcome (refused k) b y z) (run_of p s b y z) → RunCall p s b y z a b₂ y₂ z₂
unfolding ran_over
called p s b y z a b₂ y₂ z₂ e = record { is = e }
