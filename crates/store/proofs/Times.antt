-- THE TIME THAT A NODE TELLS is no lower than that of any record that it holds (tells_every_time): a greater timestamp has no lower time
-- (time_order). Assumes nothing.
use Rattle.std.specs.Prelude.{Ok}
use Prim.Native.Nat.{ℕ, zero, suc, ◌+◌, ◌*◌, ◌^◌, ◌≤◌, ◌<◌}
use mathlib.Core.Path.{◌≡◌, refl, sym, ap, ◌∙◌, subst}
use mathlib.Core.Bool.{Bool, true, false}
use mathlib.Core.List.{List}
use mathlib.Core.Logic.{◌⊎◌, inl, inr}
use native.Mathlib.Nat.{mul-le-mul_right, suc-mul}
use native.Mathlib.Omega.{arith}
use borrow.Author.Tests.{leb-true, leb-false}
use lib.Dec.{leb}
use lib.ListN.{length, take}
use Rattle.octets.specs.Bytes.{part, num, be, Octets}
use Rattle.octets.proofs.Laws.{length_part, length_be, part_all}
use Rattle.octets.proofs.Meaning.{num_append, num_be, num_small, part_add, part_small, bytes_part, bytes_all, octets_part}
use Rattle.terms.specs.Stamp.{stamp, time}
use Rattle.terms.specs.Terms.{record_length}
use Rattle.terms.specs.declared.Plan.{Plan}
use Rattle.terms.proofs.Places.{record_length_lem}
use Rattle.frame.specs.Frame.{time_request_kind, time_reply_kind, kind_of, header_in, body_of, replying}
use Rattle.frame.proofs.Built as built
use Rattle.book.specs.Records.{last_of}
use Rattle.book.specs.Book.{records_from, records_of, count_of, book_head}
use Rattle.book.proofs.Laid as laid
use Rattle.book.proofs.Laws as books
use Rattle.node.specs.Node.{Reply, reply_of, reply_to, NodeCall}
use Rattle.store.specs.Deliver.{Among}
use Rattle.store.proofs.Order.{among_case, among_none}
use Rattle.store.proofs.Node as calls
use Rattle.store.proofs.Replies.{replied_frame}
use Rattle.store.proofs.Latest.{last_high}

-- ---- a timestamp is its time, and then its verifier
high_part : (m a b x y : ℕ) → y < m → a * m + x ≤ b * m + y → a ≤ b
high_part m a b x y h l = go (leb a b) refl
  where
    go : (t : Bool) → leb a b ≡ t → a ≤ b
    go true e = leb-true a b e
    go false e =
        let q : suc b * m ≤ a * m = mul-le-mul_right m (leb-false a b e) in
        absurd (omega (arith, suc-mul b m))

split : (z : List ℕ) → 40 ≤ length z → stamp z ≡ time z * 256 ^ length (part z 8 32) + num (part z 8 32)
split z l = ap num (part_add z 0 8 32) ∙ num_append (part z 0 8) (part z 8 32)

time_order : (w z : List ℕ) → Octets z → 40 ≤ length w → 40 ≤ length z → stamp w ≤ stamp z → time w ≤ time z
time_order w z o lw lz h =
    let e : length (part w 8 32) ≡ length (part z 8 32) = length_part w 8 32 (omega arith) ∙ sym (length_part z 8 32 (omega arith)) in
    high_part (256 ^ length (part z 8 32)) (time w) (time z) (num (part w 8 32)) (num (part z 8 32)) (num_small (part z 8 32) (bytes_part z 8 32 (bytes_all z o)))
    (subst (λ (n : ℕ). time w * 256 ^ n + num (part w 8 32) ≤ time z * 256 ^ length (part z 8 32) + num (part z 8 32)) e
    (subst (λ (s : ℕ). s ≤ time z * 256 ^ length (part z 8 32) + num (part z 8 32)) (split w lw) (subst (λ (s : ℕ). stamp w ≤ s) (split z lz) h)))

-- ---- what holds of every part of r bytes holds of every record
each_record : (P : List ℕ → Type 0) (b : List ℕ) (r : ℕ) → ((at : ℕ) → at + r ≤ length b → P (part b at r))
    → (m at : ℕ) → at + m * r ≤ length b → (z : List ℕ) → Among z (records_from b r m at) → P z
unfolding records_from
each_record P b r h zero at l z k = absurd (among_none z k)
each_record P b r h (suc m) at l z k = go (among_case (part b at r) z (records_from b r m (at + r)) k) (each_record P b r h m (at + r) (omega (arith, suc-mul m r)) z)
  where
    go : (part b at r ≡ z) ⊎ Among z (records_from b r m (at + r)) → (Among z (records_from b r m (at + r)) → P z) → P z
    go (inl e) ih = subst P e (h at (omega (arith, suc-mul m r)))
    go (inr q) ih = ih q

module _ (p : Plan) (f b y : List ℕ) (k : kind_of f ≡ time_request_kind) (n : ℕ) (b₂ y₂ : List ℕ) (c : NodeCall p f b y (Ok n) b₂ y₂) where
  abbrev body : List ℕ
  body = be 8 (time (last_of (records_of p b)))

  abbrev told : Reply
  told = reply_to (kind_of f) (body_of f) (records_of p b)

  told_so : told ≡ reply_of time_reply_kind body
  unfolding reply_to
  told_so = rw k

  -- the reply bears the time of the last record
  bears_last : body_of (take n y₂) ≡ body
  bears_last =
      ap body_of (replied_frame p f b y n b₂ y₂ c) ∙ built.body_frame (replying (header_in f) told.kind) told.body ∙ ap (λ (r : Reply). r.body) told_so

  module _ (o : Octets b) where
    good : laid.BookIs 1 (book_head 1) p b
    good = books.good_is p b (calls.clear p f b y (calls.replied_is p f b y n b₂ y₂ c).0).good

    whole : (w : List ℕ) → Among w (records_of p b) → (40 ≤ length w) × Octets w
    whole =
        each_record (λ (v : List ℕ). (40 ≤ length v) × Octets v) b (record_length p)
        (λ at l. (omega (arith, length_part b at (record_length p) l, record_length_lem p), octets_part b at (record_length p) o)) (count_of b) (book_head 1) good.fill.inside

    pub tells_every_time : (z : List ℕ) → Among z (records_of p b) → time z ≤ time (body_of (take n y₂))
    tells_every_time z m =
        let high = last_high z (records_of p b) good.fill.rise m in
        let last = whole (last_of (records_of p b)) high.1 in
        let t : time (body_of (take n y₂)) ≡ time (last_of (records_of p b)) =
        ap (λ (l : List ℕ). time l) bears_last ∙ ap (λ (l : List ℕ). num l) (ap (part body 0) (sym (length_be 8 (time (last_of (records_of p b))))) ∙ part_all body)
        ∙ num_be 8 (time (last_of (records_of p b))) (part_small (last_of (records_of p b)) 0 8 last.1) in
        rw t (time_order z (last_of (records_of p b)) last.1 (whole z m).0 last.0 high.0)
