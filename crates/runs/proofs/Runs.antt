-- Laws of a run of frames. Assumes nothing.
use Rattle.terms.specs.declared.Refusal.{Refusal}
use Rattle.std.specs.Prelude.{Result}
use mathlib.Core.Path.{◌≡◌, refl, sym, ap, ◌∙◌, subst}
use mathlib.Core.Bool.{Bool, true, false}
use mathlib.Core.List.{List, [], ◌∷◌, ◌++◌}
use Prim.Native.Nat.{ℕ, suc, ◌+◌, ◌-◌, ◌*◌, ◌/◌, ◌≤◌, ◌<◌}
use native.Mathlib.Nat.{div-lt_iff_lt-mul, le-div_iff_mul-le, add-mul}
use native.Mathlib.Omega.{arith}
use borrow.Author.Tests.{lt-leb, le-leb, leb-true}
use lib.Dec.{leb}
use lib.ListN.{length, take, drop, set}
use lib.Seq.{drop-drop}
use Rattle.octets.specs.Bytes.{part, put}
use Rattle.octets.proofs.Laws.{put_nil, put_cons, length_part}
use Rattle.terms.specs.Terms.{plan_ok}
use Rattle.terms.specs.declared.Plan.{Plan}
use Rattle.terms.proofs.Rungs.{both}
use Rattle.frame.specs.Frame.{longest}
use Rattle.book.specs.declared.Book.{Book}
use Rattle.book.specs.Book.{book_in, book_lent, Sound}
use Rattle.book.proofs.Laws as books
use Rattle.node.specs.Node.{NodeCall, said_served, ServedOutcome, served_outcome, served, book_reply_ok}
use Rattle.node.specs.Inside.{Open}
use Rattle.store.proofs.Kept.{StaysGood, served_stays}
use Rattle.runs.specs.Cuts.{next_place, Cutting, cut_run}
use Rattle.runs.specs.Runs.{number_said, length_said, room_for}
use Rattle.runs.specs.Inside.{State, state, after, taken, ran, GoodLent, Ready, Took, Fit, TookAll}
use Rattle.runs.proofs.Cuts as cuts
use Rattle.runs.proofs.Short.{served_short}

-- ---- the run's own refusals
module _ (p : Plan) (frames reply numbers r : ℕ) (e : r ≡ longest 1 p) where
  pub room_none : reply / r < frames → false ≡ room_for p frames reply numbers
  unfolding room_for
  room_none h =
      let m : reply < frames * longest 1 p = subst (λ (x : ℕ). reply < frames * x) e ((div-lt_iff_lt-mul {k = r} {x = reply} {y = frames} (omega arith)).0 h) in
      rw (lt-leb (frames * longest 1 p) reply m)

  pub room_last : frames ≤ reply / r → leb frames numbers ≡ room_for p frames reply numbers
  unfolding room_for
  room_last h =
      let m : frames * longest 1 p ≤ reply = subst (λ (x : ℕ). frames * x ≤ reply) e ((le-div_iff_mul-le {k = r} {x = frames} {y = reply} (omega arith)).0 h) in
      rw (le-leb (frames * longest 1 p) reply m)

pub room_is : (p : Plan) (frames reply numbers : ℕ) → room_for p frames reply numbers ≡ true → (frames * (longest 1 p) ≤ reply) × (frames ≤ numbers)
unfolding room_for
room_is p frames reply numbers e = let q = both (leb (frames * (longest 1 p)) reply) _ e in (leb-true _ _ q.0, leb-true _ _ q.1)

-- ---- one frame
set_put : (z : List ℕ) (k v : ℕ) → k < length z → set z k v ≡ put z k (v ∷ [])
set_put z k v h = ap (λ (l : List ℕ). set l k v) (sym (put_nil z (suc k))) ∙ put_cons z k [] v h

length_lent : (y : List ℕ) (out n : ℕ) → out + n ≤ length y → length (take n (drop out y)) ≡ n
unfolding part
length_lent y out n h = length_part y out n h

-- the book and the lent room pass the single call's first three checks
module _ {p : Plan} {b y : List ℕ} {out room : ℕ} (m : ℕ) (r : Ready p b y out room) (e : m ≡ room) where
  lengths : book_reply_ok p (length b) (length (take m (drop out y))) ≡ true
  unfolding book_reply_ok
  lengths =
      let f = r.fits in
      let a = r.room_is in
      let l = length_lent y out m (omega arith) in
      rw (r.book.lent, le-leb (longest 1 p) (length (take m (drop out y))) (omega arith))

  pub lent_open : (k : Book) → k ≡ book_in p b → k.count < 65536 → Open p k b (take m (drop out y))
  lent_open k ek small =
      let g = r.book in
      record { plan = g.plan; lengths = lengths; book = record { is = ek; good = g.good; laid = g.laid; small = small } }

  pub took : {f z : List ℕ} {k : ℕ} {a : (Result ℕ Refusal)} {b₂ w : List ℕ} {v n : ℕ} → k < length z → NodeCall p f b (take m (drop out y)) a b₂ w → length w ≡ m
      → v ≡ number_said (said_served a) → n ≡ length_said (said_served a) → Took p f b y out z k n b₂ (take out y ++ (w ++ drop m (drop out y))) (set z k v)
  unfolding taken put part
  took {f} {z} {k} {a} {b₂} {w} {v} {n} g c lw ev en =
      let h = r.fits in
      let x : List ℕ = take (longest 1 p) (drop out y) in
      let em : m ≡ longest 1 p = e ∙ r.room_is in
      let q : served_outcome (said_served a) b₂ w ≡ served p f b x = c.is ∙ ap (λ (i : ℕ). served p f b (take i (drop out y))) em in
      let s : set z k v ≡ put z k (number_said (said_served a) ∷ []) = set_put z k v g ∙ ap (λ (i : ℕ). put z k (i ∷ [])) ev in
      let t : length_said (said_served a) ≤ longest 1 p =
      subst (λ (o : ServedOutcome). length_said o.answer ≤ longest 1 p) (sym q) (served_short p f b x (length_lent y out (longest 1 p) (omega arith))).answer in
      let u : take out y ++ (w ++ drop m (drop out y)) ≡ put y out w =
      ap (λ (i : List ℕ). take out y ++ (w ++ i)) (drop-drop m out y ∙ ap (λ (i : ℕ). drop (out + i) y) (sym lw)) in
      record {
        is = (λ i. state b₂ (u i) (out + en i) (s i) (k + 1)) ∙ ap (after (state b y out z k)) q;
        short = omega arith;
      }

-- ---- all frames: what is left to do from here is what was to do from the start
pub record Going (p : Plan) (s b₀ y₀ z₀ : List ℕ) (room at k out e : ℕ) (b y z : List ℕ) : Type 0 where
  pub count : cuts.Counting s at k e
  pub same : ran p (cuts.cut_after s at).frames (state b y out z k) ≡ ran p (cut_run s).frames (state b₀ y₀ 0 z₀ 0)
  pub book : GoodLent p b
  pub room_is : room ≡ longest 1 p
  pub replies : out + length (cuts.cut_after s at).frames * room ≤ length y
  pub numbers : length (cut_run s).frames ≤ length z

pub start : (p : Plan) (s b y z : List ℕ) (room e : ℕ) → Fit p s b y z → room ≡ longest 1 p → e ≡ next_place s 0 → Going p s b y z room 0 0 0 e b y z
unfolding cut_run
start p s b y z room e f m h =
    let q = room_is p (length (cut_run s).frames) (length y) (length z) f.room in
    record {
      count = cuts.count_start s e h;
      same = refl;
      book = f.book;
      room_is = m;
      replies = subst (λ (x : ℕ). 0 + length (cut_run s).frames * x ≤ length y) (sym m) (omega (arith, q.0));
      numbers = q.1;
    }

module _ {p : Plan} {s b₀ y₀ z₀ : List ℕ} {room at k out e : ℕ} {b y z : List ℕ} (g : Going p s b₀ y₀ z₀ room at k out e b y z) (h : at < e) where
  here : at < next_place s at
  here = subst (λ (x : ℕ). at < x) g.count.next h

  pub inside : e ≤ length s
  inside = let f = cuts.next_far s at here in let l = f.high in let x = g.count.next in omega arith

  left : length (cuts.cut_after s at).frames ≡ length (cuts.cut_after s e).frames + 1
  left =
      let q = cuts.one_more s at here in
      let x = g.count.next in
      let lf : length (cuts.cut_after s at).frames ≡ suc (length (cuts.cut_after s (next_place s at)).frames) = ap (λ (d : Cutting). length d.frames) q in
      lf ∙ ap (λ (m : ℕ). suc (length (cuts.cut_after s m).frames)) (sym x) ∙ omega arith

  pub place : k < length z
  place = let l = left in let cf = g.count.frames in let r = g.numbers in omega arith

  -- the room of one reply, and of those after it
  rooms : out + room + length (cuts.cut_after s e).frames * room ≤ length y
  rooms =
      let m : out + (length (cuts.cut_after s e).frames + 1) * room ≤ length y = subst (λ (x : ℕ). out + x * room ≤ length y) left g.replies in
      omega (arith, add-mul (length (cuts.cut_after s e).frames) 1 room)

  pub ready : Ready p b y out room
  ready =
      let m = rooms in
      record { book = g.book; room_is = g.room_is; fits = omega arith }

  pub turn : (n e₂ : ℕ) (b₂ y₂ z₂ : List ℕ) → Took p (take (e - at) (drop at s)) b y out z k n b₂ y₂ z₂ → e₂ ≡ next_place s e → length y₂ ≡ length y → length z₂ ≡ length z
      → Going p s b₀ y₀ z₀ room e (k + 1) (out + n) e₂ b₂ y₂ z₂
  unfolding ran part taken
  turn n e₂ b₂ y₂ z₂ t ee ly lz =
      let f : List ℕ = take (e - at) (drop at s) in
      let q = cuts.one_more s at here in
      let x = g.count.next in
      let u : ran p (cuts.cut_after s at).frames (state b y out z k) ≡ ran p (cuts.cut_after s e).frames (taken p f (state b y out z k)) =
      ap (λ (d : Cutting). ran p d.frames (state b y out z k)) q
      ∙ ap (λ (m : ℕ). ran p (cuts.cut_after s m).frames (taken p (take (m - at) (drop at s)) (state b y out z k))) (sym x) in
      let w : List ℕ = take (longest 1 p) (drop out y) in
      let v = g.book in
      let eb : b₂ ≡ (served p f b w).book = ap (λ (a : State). a.book) t.is in
      let sb : StaysGood p b b₂ =
      subst (StaysGood p b) (sym eb) (served_stays p f b w v.plan v.good v.laid (books.lent_is (length b) v.lent).1) in
      let r = g.numbers in
      let m = rooms in
      let sh = t.short in
      record {
        count = cuts.count_turn s at k e e₂ g.count h ee;
        same = ap (ran p (cuts.cut_after s e).frames) t.is ∙ sym u ∙ g.same;
        book = record { plan = v.plan; lent = ap (λ (l : ℕ). book_lent l) sb.size ∙ v.lent; good = sb.good; laid = sb.laid };
        room_is = g.room_is;
        replies = omega arith;
        numbers = omega arith;
      }

pub done : {p : Plan} {s b₀ y₀ z₀ : List ℕ} {room at k out e : ℕ} {b y z : List ℕ} → Going p s b₀ y₀ z₀ room at k out e b y z → e ≤ at
    → TookAll p s b₀ y₀ z₀ out b y z
unfolding ran
done {p} {s} {b₀} {y₀} {z₀} {room} {at} {k} {out} {e} {b} {y} {z} g h =
    let q = cuts.none_left s at (subst (λ (x : ℕ). x ≤ at) g.count.next h) in
    let c = cuts.count_done s at k e g.count h in
    record { is = ap (state b y out z) (sym c.0) ∙ sym (ap (λ (d : Cutting). ran p d.frames (state b y out z k)) q) ∙ g.same }

-- a test of the run's frames, counted
pub counted_room : (p : Plan) (s : List ℕ) (n reply numbers : ℕ) {r : Bool} → r ≡ room_for p n reply numbers → n ≡ length (cut_run s).frames
    → r ≡ room_for p (length (cut_run s).frames) reply numbers
counted_room p s n reply numbers e h = e ∙ ap (λ (m : ℕ). room_for p m reply numbers) h

pub fit : {p : Plan} {s b y z : List ℕ} {k : Book} → plan_ok p ≡ true → book_lent (length b) ≡ true → room_for p (length (cut_run s).frames) (length y) (length z) ≡ true
    → Sound p k b → Fit p s b y z
fit pk l m c = record { book = record { plan = pk; lent = l; good = c.good; laid = c.laid }; room = m }
