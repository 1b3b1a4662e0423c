-- A single call's reply: it lies within its buffer, has R+15 bytes or fewer, and is the same whatever room the call is lent. Assumes nothing.
--   Short served_short     the reply's length, and the buffer's, where it has R+15 bytes
--   Alike served_alike     two rooms of R+15 bytes or more: the same answer, book and reply
--   served_over            the buffer is the reply, over what it was
use Prim.{tt}
use Prim.Native.Nat.{ℕ, ◌≤◌}
use mathlib.Core.Path.{◌≡◌, refl, sym, ap, ◌∙◌, subst}
use mathlib.Core.Bool.{Bool, true, false, cond, not}
use mathlib.Core.List.{List, [], ◌∷◌}
use native.Mathlib.Omega.{arith}
use lib.ListN.{length, length-take, take, drop}
use lib.Seq.{take_at}
use lib.Dec.{eqb}
use borrow.Author.Tests.{le-leb, not-false}
use Rattle.octets.specs.Bytes.{part, be, over}
use Rattle.octets.proofs.Laws.{length_be}
use Rattle.octets.proofs.Meaning.{length_over}
use Rattle.terms.specs.Ladder.{Rung, on, first}
use Rattle.terms.specs.Stamp.{stamp, time}
use Rattle.terms.specs.Terms.{plan_ok, record_length}
use Rattle.terms.specs.declared.Plan.{Plan}
use Rattle.terms.proofs.Rungs as rungs
use Rattle.terms.proofs.Ladders as ladders
use Rattle.frame.specs.declared.Header.{Header}
use Rattle.frame.specs.Frame.{time_request_kind, time_reply_kind, write_request_kind, write_reply_kind, read_latest_kind, read_previous_kind, read_reply_kind, longest, framed, header_in, body_of, frame_of, replying, good_request}
use Rattle.frame.proofs.Built.{length_frame}
use Rattle.book.specs.Records.{last_of, last_below, those}
use Rattle.book.specs.Book.{records_of, count_of, book_head, book_lent, good_book, node_of}
use Rattle.book.proofs.Laid as laid
use Rattle.book.proofs.Back as back
use Rattle.book.proofs.Laws as books
use Rattle.node.specs.Node.{ServedOutcome, served_outcome, refused, Reply, reply_of, no_reply, reply_to, sends, book_after, answered, served, node_ladder, work_ladder, book_reply_ok}
use Rattle.runs.specs.Runs.{length_said, reply_in}

-- ---- the record in a reply
last_short : (r : ℕ) (rs : List (List ℕ)) → laid.Sized r rs → length (last_of rs) ≤ r
unfolding last_of
last_short r [] s = omega arith
last_short r (x ∷ []) s = let e = s.0 in omega arith
last_short r (x ∷ y ∷ rs) s = last_short r (y ∷ rs) s.1

those_sized : (t : List ℕ → Bool) (r : ℕ) (rs : List (List ℕ)) → laid.Sized r rs → laid.Sized r (those t rs)
unfolding those
those_sized t r [] s = tt
those_sized t r (x ∷ rs) s = go (t x) (those_sized t r rs s.1)
  where
    go : (c : Bool) → laid.Sized r (those t rs) → laid.Sized r (cond c (x ∷ those t rs) (those t rs))
    go true ih = (s.0, ih)
    go false ih = ih

body_short : (p : Plan) (kind : ℕ) (body : List ℕ) (rs : List (List ℕ)) → plan_ok p ≡ true → laid.Sized (record_length p) rs
    → length (reply_to kind body rs).body ≤ record_length p
unfolding reply_to part
body_short p kind body rs pk s =
    let l = back.long p pk in
    let b : length (be 8 (time (last_of rs))) ≤ record_length p = let e = length_be 8 (time (last_of rs)) in omega arith in
    let c : length (take 40 (drop 0 body)) ≤ record_length p = let e = length-take 40 (drop 0 body) in omega arith in
    let d = last_short (record_length p) rs s in
    let e : length (last_below (stamp body) rs) ≤ record_length p = last_short (record_length p) _ (those_sized _ (record_length p) rs s) in
    go (eqb kind time_request_kind) (eqb kind write_request_kind) (eqb kind read_latest_kind) (eqb kind read_previous_kind) b c d e
  where
    go : (x y z w : Bool) → length (be 8 (time (last_of rs))) ≤ record_length p → length (take 40 (drop 0 body)) ≤ record_length p
        → length (last_of rs) ≤ record_length p → length (last_below (stamp body) rs) ≤ record_length p
        → length (cond x (reply_of time_reply_kind (be 8 (time (last_of rs)))) (cond y (reply_of write_reply_kind (take 40 (drop 0 body))) (cond z (reply_of read_reply_kind (last_of rs)) (cond w (reply_of read_reply_kind (last_below (stamp body) rs)) no_reply)))).body ≤ record_length p
    go true y z w b c d e = b
    go false true z w b c d e = c
    go false false true w b c d e = d
    go false false false true b c d e = e
    go false false false false b c d e = omega arith

-- ---- the length of a reply
pub record Short (p : Plan) (o : ServedOutcome) : Type 0 where
  pub answer : length_said o.answer ≤ longest 1 p
  pub reply : length o.reply ≡ longest 1 p

sends_short : (p : Plan) (h : Header) (r : Reply) (b y : List ℕ) → length r.body ≤ record_length p → length y ≡ longest 1 p → Short p (sends h r b y)
unfolding sends
sends_short p h r b y l e =
    let n = length_frame (replying h r.kind) r.body in
    record { answer = omega arith; reply = length_over (frame_of (replying h r.kind) r.body) y (omega arith) ∙ e }

-- ---- the bytes of a reply
pub record Alike (o o₂ : ServedOutcome) : Type 0 where
  pub answer : o.answer ≡ o₂.answer
  pub book : o.book ≡ o₂.book
  pub bytes : reply_in o ≡ reply_in o₂

sends_bytes : (h : Header) (r : Reply) (b y : List ℕ) → reply_in (sends h r b y) ≡ frame_of (replying h r.kind) r.body
unfolding sends over
sends_bytes h r b y =
    let new = frame_of (replying h r.kind) r.body in
    take_at new (drop (length new) y) (framed h.version (length r.body)) (length_frame (replying h r.kind) r.body)

sends_alike : (h : Header) (r : Reply) (b y w : List ℕ) → Alike (sends h r b y) (sends h r b w)
unfolding sends
sends_alike h r b y w = record { answer = refl; book = refl; bytes = sends_bytes h r b y ∙ sym (sends_bytes h r b w) }

sends_over : (h : Header) (r : Reply) (b y : List ℕ) → (sends h r b y).reply ≡ over (reply_in (sends h r b y)) y
unfolding sends
sends_over h r b y = ap (λ (x : List ℕ). over x y) (sym (sends_bytes h r b y))

module _ (p : Plan) (f b : List ℕ) where
  abbrev refuse : List ℕ → ℕ → ServedOutcome
  refuse y k = served_outcome (refused k) b y

  abbrev answer : List ℕ → ServedOutcome
  answer y = answered p (header_in f) (body_of f) b y

  pub served_short : (y : List ℕ) → length y ≡ longest 1 p → Short p (served p f b y)
  unfolding served answered
  served_short y e =
      ladders.by_ladder (Short p) (node_ladder p f b y) (refuse y) (answer y)
      (λ k _. record { answer = omega arith; reply = e })
      (λ n.
      let pk : plan_ok p ≡ true = not-false _ n.0 in
      let i = books.good_is p b (not-false _ n.1.1.0) in
      sends_short p (header_in f) (reply_to (header_in f).kind (body_of f) (records_of p b)) (book_after p (header_in f) (body_of f) b) y
      (body_short p (header_in f).kind (body_of f) (records_of p b) pk (laid.sized b (record_length p) (count_of b) (book_head 1) i.fill.inside)) e)

  room_told : (y : List ℕ) → longest 1 p ≤ length y → book_reply_ok p (length b) (length y) ≡ book_lent (length b)
  unfolding book_reply_ok
  room_told y h = rw (le-leb (longest 1 p) (length y) h) (always (book_lent (length b)))
    where
      always : (t : Bool) → cond t true false ≡ t
      always true = refl
      always false = refl

  ladder_told : (y w : List ℕ) → longest 1 p ≤ length y → longest 1 p ≤ length w → node_ladder p f b y ≡ node_ladder p f b w
  ladder_told y w h k =
      ap (λ (t : Bool). on 1 (not (plan_ok p)) ∷ on 2 (not t) ∷ on 3 (not (good_book p b)) ∷ on 4 (not (good_request p (node_of b) f)) ∷ work_ladder p (header_in f) (body_of f) b)
      (room_told y h ∙ sym (room_told w k))

  pub served_alike : (y w : List ℕ) → longest 1 p ≤ length y → longest 1 p ≤ length w → Alike (served p f b y) (served p f b w)
  unfolding served answered
  served_alike y w h k =
      let l : List Rung = node_ladder p f b y in
      let u : first l (refuse y) (answer y) ≡ rungs.read (first l rungs.refused rungs.passes) (refuse y) (answer y) = rungs.first_read l (refuse y) (answer y) in
      let v : served p f b w ≡ rungs.read (first l rungs.refused rungs.passes) (refuse w) (answer w) =
      ap (λ (m : List Rung). first m (refuse w) (answer w)) (sym (ladder_told y w h k)) ∙ rungs.first_read l (refuse w) (answer w) in
      subst (λ (o : ServedOutcome). Alike o (served p f b w)) (sym u)
      (subst (λ (o : ServedOutcome). Alike (rungs.read (first l rungs.refused rungs.passes) (refuse y) (answer y)) o) (sym v) (go (first l rungs.refused rungs.passes)))
    where
      go : (c : rungs.Came) → Alike (rungs.read c (refuse y) (answer y)) (rungs.read c (refuse w) (answer w))
      go (rungs.refused k) = record { answer = refl; book = refl; bytes = refl }
      go rungs.passes = sends_alike (header_in f) (reply_to (header_in f).kind (body_of f) (records_of p b)) (book_after p (header_in f) (body_of f) b) y w

  pub served_over : (y : List ℕ) → (served p f b y).reply ≡ over (reply_in (served p f b y)) y
  unfolding served answered over
  served_over y =
      subst (λ (o : ServedOutcome). o.reply ≡ over (reply_in o) y) (sym (rungs.first_read (node_ladder p f b y) (refuse y) (answer y)))
      (go (first (node_ladder p f b y) rungs.refused rungs.passes))
    where
      go : (c : rungs.Came) → (rungs.read c (refuse y) (answer y)).reply ≡ over (reply_in (rungs.read c (refuse y) (answer y))) y
      go (rungs.refused k) = refl
      go rungs.passes = sends_over (header_in f) (reply_to (header_in f).kind (body_of f) (records_of p b)) (book_after p (header_in f) (body_of f) b) y
