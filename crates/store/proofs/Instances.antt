-- The hypotheses of the theorems can be met. One node, one fragment of one byte (N1 t0 b0 Q1 m1 F1, R = 73), a fresh book with room for two
-- records, and two write requests, of times 1 and 2: two runs of them, in two orders and with a repeat. Assumes nothing.
use Rattle.std.specs.Prelude.{Ok, Err}
use Prim.{tt}
use mathlib.Core.Path.{◌≡◌, refl, sym, ap, ◌∙◌, subst}
use mathlib.Core.Bool.{Bool, true, false, not}
use mathlib.Core.List.{List, [], ◌∷◌, ◌++◌, append_assoc}
use mathlib.Core.Logic.{◌⊎◌, inl, inr}
use Prim.Native.Nat.{ℕ, zero, suc, ◌+◌, ◌*◌, ◌^◌, ◌≤◌, ◌<◌}
use native.Mathlib.Omega.{arith}
use borrow.Author.Tests.{eq-eqb, ne_eqb}
use lib.ListN.{length, length-append}
use lib.Dec.{lit<}
use Rattle.octets.specs.Bytes.{part, num, be, be_onto, over}
use Rattle.octets.proofs.Laws.{length_be, length_part, part_middle}
use Rattle.octets.proofs.Meaning.{num_be, num_append, alike_refl}
use Rattle.sha256.specs.Sha256.{sha256}
use Rattle.sha256.proofs.Laws.{sha256_length, whole}
use Rattle.terms.specs.Ladder.{Rung, on, first, all}
use Rattle.terms.specs.Stamp.{stamp, time}
use Rattle.terms.specs.Terms.{plan_ok, counts_ok, limits_ok, column_of, record_length}
use Rattle.terms.specs.declared.Plan.{Plan}
use Rattle.terms.specs.declared.Member.TheVariants.{Repairable}
use Rattle.terms.specs.declared.Clients.TheVariants.{Byzantine}
use Rattle.terms.proofs.Small.{small, small_octets}
use Rattle.frame.specs.Frame.{kind_of, frame_node, body_of, frame, good_request, body_fits, for_party, one_of, header_in, longest, write_request_kind, time_request_kind, header_of, framed}
use Rattle.frame.specs.declared.Party.TheVariants.{Node}
use Rattle.frame.proofs.Frames as frames
use Rattle.frame.proofs.Built as built
use Rattle.record.specs.Record.{hashes_ok, time_zero, fragment_hash, prefix_of}
use Rattle.book.specs.Records.{holds, kept, timed, rising}
use Rattle.book.specs.Book.{laid_out, laid_as, header, joined, records_of, node_of, book_head}
use Rattle.book.proofs.Lists.{length_insert}
use Rattle.node.specs.Fresh.{FreshCall, freshened}
use Rattle.terms.specs.declared.Refusal.TheVariants.{OutsidePlan}
use Rattle.store.proofs.Node as calls
use Rattle.node.specs.Node.{time_fails, hash_fails, served, answered, sends, reply_to, replied, ServedOutcome, served_outcome, NodeCall, node_ladder}
use Rattle.store.specs.Deliver.{Among, passes, accepted_at, kept_all, gathered, Delivery, sent, delivered, Called, Ready, Delivers, Setting}
use Rattle.store.specs.History.{Call, History}
use Rattle.store.proofs.Order as order
use Rattle.store.proofs.One as one
use Rattle.store.proofs.Kept as keeps
use Rattle.store.proofs.Books as theorems

unfoldable pub plan : Plan
plan = record { n = 1; t = 0; b = 0; q = 1; m = 1; f = 1; member = Repairable; clients = Byzantine; w = 1 }

accepted_plan : plan_ok plan ≡ true
unfolding plan plan_ok counts_ok limits_ok column_of all
accepted_plan = refl

pub r_is : record_length plan ≡ 73
unfolding plan record_length
r_is = refl

pub zeros : ℕ → List ℕ
zeros zero = []
zeros (suc k) = 0 ∷ zeros k

pub length_zeros : (k : ℕ) → length (zeros k) ≡ k
unfolding zeros
length_zeros zero = refl
length_zeros (suc k) = ap suc (length_zeros k)

-- ---- a fresh book with room for 146 bytes of records
abbrev room : ℕ
room = book_head 1 + 146

pub book : List ℕ
book = over (laid_out plan 0 []) (zeros room)

fresh : one.Laid plan 0 (zeros room) book []
unfolding book timed rising plan
fresh = record {
  plan = accepted_plan;
  low = omega arith;
  high = omega (arith, length_zeros room);
  bytes = refl;
  sizes = tt;
  times = refl;
  rise = refl;
  fits = omega (arith, length_zeros room);
}

-- it is what the making of a fresh book leaves
pub made_so : FreshCall plan 0 (zeros room) (Ok tt) book
unfolding freshened first book plan
made_so = record { is = rw (accepted_plan, length_zeros room) }

book_small : small book ≡ true
unfolding book small zeros over laid_as header joined be be_onto plan record_length
book_small = refl

-- ---- a record of a time, and the request to write it
pub fragment : List ℕ
fragment = 7 ∷ []

pub cross : List ℕ
cross = sha256 fragment

pub record_of : ℕ → List ℕ
record_of t = be 8 t ++ (sha256 cross ++ (cross ++ fragment))

pub request : ℕ → List ℕ
request t = frame write_request_kind 0 5 (record_of t)

length_record : (t : ℕ) → length (record_of t) ≡ 73
unfolding record_of cross fragment
length_record t = simp (length-append, length_be, sha256_length)

module _ (t : ℕ) (low : 0 < t) (high : t < 256) where
  time_is : time (record_of t) ≡ t
  unfolding record_of
  time_is = ap num (part_middle _ [] (be 8 t) (sha256 cross ++ (cross ++ fragment)) 0 8 refl refl (length_be 8 t)) ∙ num_be 8 t (omega arith)

  verifier_is : part (record_of t) 8 32 ≡ sha256 cross
  unfolding record_of
  verifier_is = part_middle _ (be 8 t) (sha256 cross) (cross ++ fragment) 8 32 refl (length_be 8 t) (sha256_length cross)

  cross_is : part (record_of t) 40 32 ≡ cross
  unfolding record_of cross
  cross_is =
      ap (λ (l : List ℕ). part l 40 32) (sym (append_assoc (be 8 t) (sha256 cross) (cross ++ fragment)))
      ∙ part_middle _ (be 8 t ++ sha256 cross) cross fragment 40 32 refl (simp (length-append, length_be, sha256_length)) (sha256_length fragment)

  fragment_is : part (record_of t) 72 1 ≡ fragment
  unfolding record_of cross fragment
  fragment_is =
      let e : be 8 t ++ (sha256 cross ++ (cross ++ fragment)) ≡ (be 8 t ++ sha256 cross ++ cross) ++ (fragment ++ []) = simp append_assoc in
      ap (λ (l : List ℕ). part l 72 1) e ∙ part_middle _ (be 8 t ++ sha256 cross ++ cross) fragment [] 72 1 refl
      (simp (length-append, length_be, sha256_length)) refl

  entry_is : part cross 0 32 ≡ sha256 fragment
  unfolding cross
  entry_is = whole fragment cross refl

  hashes : hashes_ok plan 0 (record_of t) ≡ true
  unfolding hashes_ok fragment_hash prefix_of plan
  hashes = rw (cross_is, verifier_is, fragment_is, entry_is, alike_refl (sha256 cross)) (alike_refl (sha256 fragment))

  kind_is : kind_of (request t) ≡ write_request_kind
  unfolding request
  kind_is = built.kind_frame (header_of write_request_kind 0 5) (record_of t) (omega arith)

  node_is : frame_node (request t) ≡ 0
  unfolding request
  node_is = built.node_frame (header_of write_request_kind 0 5) (record_of t) (omega arith)

  pub body_is : body_of (request t) ≡ record_of t
  unfolding request
  body_is = built.body_frame (header_of write_request_kind 0 5) (record_of t)

  good : good_request plan 0 (request t) ≡ true
  unfolding request for_party one_of body_fits
  good =
      let l = length_record t in
      let fits : body_fits plan 3 (length (record_of t)) ≡ true = eq-eqb _ _ (l ∙ sym r_is) in
      frames.request_back plan 0 (request t)
      (record { frame_is = built.built_good (header_of write_request_kind 0 5) (record_of t) Node plan refl (omega arith) (omega arith) refl fits; node_is = node_is })

  timed_so : time_fails (header_in (request t)) (body_of (request t)) ≡ false
  unfolding time_fails time_zero
  timed_so = rw (eq-eqb (kind_of (request t)) write_request_kind kind_is, body_is, time_is) (ne_eqb t 0 (λ z. omega arith))

  hashed_so : hash_fails plan (header_in (request t)) (body_of (request t)) ≡ false
  unfolding hash_fails
  hashed_so = rw (eq-eqb (kind_of (request t)) write_request_kind kind_is, node_is, body_is) (ap not hashes)

  pub passing : passes plan 0 (request t) ≡ true
  passing =
      one.pass_back plan 0 (request t) (record { frame = good; kind = eq-eqb (kind_of (request t)) write_request_kind kind_is; time = timed_so; hash = hashed_so })

  stamp_is : stamp (record_of t) ≡ t * 256 ^ 32 + num (sha256 cross)
  unfolding record_of
  stamp_is =
      let e : be 8 t ++ (sha256 cross ++ (cross ++ fragment)) ≡ [] ++ (be 8 t ++ sha256 cross ++ (cross ++ fragment)) = simp append_assoc in
      ap (λ (l : List ℕ). num (part l 0 40)) e
      ∙ ap num (part_middle _ [] (be 8 t ++ sha256 cross) (cross ++ fragment) 0 40 refl refl (simp (length-append, length_be, sha256_length)))
      ∙ num_append (be 8 t) (sha256 cross) ∙ (λ i. num_be 8 t (omega arith) i * 256 ^ sha256_length cross i + num (sha256 cross))

-- ---- the set of two requests
unfoldable pub set : List (List ℕ)
set = request 1 ∷ request 2 ∷ []

accepted_is : accepted_at plan 0 set ≡ record_of 1 ∷ record_of 2 ∷ []
unfolding accepted_at set
accepted_is =
    rw (passing 1 (omega arith) (omega arith), passing 2 (omega arith) (omega arith), body_is 1 (omega arith) (omega arith), body_is 2 (omega arith) (omega arith))

apart : (x v : ℕ) → 0 < x → 1 * x + v ≡ 2 * x + v → ⊥
apart x v h e = omega arith

stamps_differ : stamp (record_of 1) ≡ stamp (record_of 2) → ⊥
stamps_differ e =
    apart (256 ^ 32) (num (sha256 cross)) (lit< tt) (sym (stamp_is 1 (omega arith) (omega arith)) ∙ e ∙ stamp_is 2 (omega arith) (omega arith))

-- one of two
pair : (x y z : List ℕ) → Among z (x ∷ y ∷ []) → (x ≡ z) ⊎ (y ≡ z)
pair x y z h = go (order.among_case x z (y ∷ []) h)
  where
    lone : (y ≡ z) ⊎ Among z [] → (x ≡ z) ⊎ (y ≡ z)
    lone (inl e) = inr e
    lone (inr k) = absurd (order.among_none z k)

    go : (x ≡ z) ⊎ Among z (y ∷ []) → (x ≡ z) ⊎ (y ≡ z)
    go (inl e) = inl e
    go (inr k) = lone (order.among_case y z [] k)

one_each : (z w : List ℕ) → (record_of 1 ≡ z) ⊎ (record_of 2 ≡ z) → (record_of 1 ≡ w) ⊎ (record_of 2 ≡ w) → stamp z ≡ stamp w → z ≡ w
one_each z w (inl a) (inl c) e = sym a ∙ c
one_each z w (inr a) (inr c) e = sym a ∙ c
one_each z w (inl a) (inr c) e = absurd (stamps_differ (ap (λ (x : List ℕ). stamp x) a ∙ e ∙ ap (λ (x : List ℕ). stamp x) (sym c)))
one_each z w (inr a) (inl c) e = absurd (stamps_differ (sym (ap (λ (x : List ℕ). stamp x) a ∙ e ∙ ap (λ (x : List ℕ). stamp x) (sym c))))

kept_most : (xs rs : List (List ℕ)) → length (kept_all xs rs) ≤ length rs + length xs
unfolding kept_all
kept_most [] rs = omega arith
kept_most (x ∷ xs) rs = let a = kept_most xs (kept x rs) in let c = more (holds x rs) refl in omega arith
  where
    more : (t : Bool) → holds x rs ≡ t → length (kept x rs) ≤ length rs + 1
    more true e = rw (order.kept_held x rs e) (omega arith)
    more false e = rw (order.kept_new x rs e) (omega (arith, length_insert x rs))

pub books : ℕ → List ℕ
books i = book

ready : Ready plan books set 0
unfolding books gathered
ready =
    let n : node_of book ≡ 0 = one.is_node fresh in
    let e : records_of plan book ≡ [] = one.is_records fresh in
    let l : length book ≡ room = one.is_length fresh ∙ length_zeros room in
    let g : gathered plan book set ≡ kept_all (record_of 1 ∷ record_of 2 ∷ []) [] = (λ i. kept_all ((ap (λ (k : ℕ). accepted_at plan k set) n ∙ accepted_is) i) (e i)) in
    let m = kept_most (record_of 1 ∷ record_of 2 ∷ []) [] in
    record {
      good = one.is_good fresh;
      node = n;
      bytes = small_octets book book_small;
      high = omega arith;
      requests = λ z w hz hw q. one_each z w (pair _ _ z (subst (Among z) accepted_is hz)) (pair _ _ w (subst (Among w) accepted_is hw)) q;
      held = λ z w hz hw q. absurd (order.among_none w (subst (Among w) e hw));
      room = rw (g, r_is) (omega arith);
    }

-- ---- calls that acknowledge
roomy : longest 1 plan ≤ length (zeros 88)
roomy = rw r_is (omega (arith, length_zeros 88))

alone : (x : List ℕ) → length (kept x []) ≤ 1
unfolding kept_all
alone x = let a = kept_most (x ∷ []) [] in omega arith

two : (x y : List ℕ) → length (kept y (kept x [])) ≤ 2
unfolding kept_all
two x y = let a = kept_most (x ∷ y ∷ []) [] in omega arith

-- a book over the same bytes, in which no record is another than the two of the set
record Takes (b : List ℕ) (rs : List (List ℕ)) : Type 0 where
  laid : one.Laid plan 0 (zeros room) b rs
  of : (z : List ℕ) → Among z rs → (record_of 1 ≡ z) ⊎ (record_of 2 ≡ z)

takes_fresh : Takes book []
takes_fresh = record { laid = fresh; of = λ z h. absurd (order.among_none z h) }

-- what a call at such a book leaves, and how it answers
pub left_of : ℕ → List ℕ → ServedOutcome
left_of t b = served plan (request t) b (zeros 88)

module _ (t : ℕ) (low : 0 < t) (high : t < 256) (is : (record_of 1 ≡ record_of t) ⊎ (record_of 2 ≡ record_of t)) (b : List ℕ) (rs : List (List ℕ)) (q : Takes b rs)
    (few : length (kept (record_of t) rs) ≤ 2) where
  body : body_of (request t) ≡ record_of t
  body = body_is t low high

  own : one.Own (body_of (request t)) rs
  own z h e = one_each z (record_of t) (q.of z h) is (e ∙ ap (λ (x : List ℕ). stamp x) body) ∙ sym body

  fits : book_head 1 + length (kept (body_of (request t)) rs) * record_length plan ≤ length (zeros room)
  fits = rw (body, r_is) (omega (arith, few, length_zeros room))

  reply_length : (answered plan (header_in (request t)) (body_of (request t)) b (zeros 88)).answer ≡ replied (framed 1 40)
  unfolding answered sends reply_to
  reply_length =
      let k : kind_of (request t) ≡ write_request_kind = kind_is t low high in
      let l : length (body_of (request t)) ≡ 73 = ap length body ∙ length_record t in
      rw (ne_eqb (kind_of (request t)) time_request_kind (λ z. omega arith), eq-eqb (kind_of (request t)) write_request_kind k)
      (ap (λ (n : ℕ). replied (framed 1 n)) (length_part (body_of (request t)) 0 40 (omega arith)))

  acknowledges : NodeCall plan (request t) b (zeros 88) (Ok (framed 1 40)) (left_of t b).book (left_of t b).reply
  unfolding left_of
  acknowledges =
      let s = one.served_is q.laid (request t) (zeros 88) roomy (passing t low high) own fits in
      record { is = λ i. served_outcome ((sym (ap (λ (x : ServedOutcome). x.answer) s ∙ reply_length)) i) (left_of t b).book (left_of t b).reply }

  takes_more : Takes (left_of t b).book (kept (record_of t) rs)
  unfolding left_of
  takes_more =
      let l = one.deliver_one q.laid (request t) (zeros 88) roomy (passing t low high) own fits in
      let k = order.kept_is rs (record_of t) q.laid.rise (λ z h e. own z h (e ∙ ap (λ (x : List ℕ). stamp x) (sym body)) ∙ body) in
      record { laid = subst (λ (x : List ℕ). one.Laid plan 0 (zeros room) (left_of t b).book (kept x rs)) body l; of = λ z h. back z (k.only z h) }
    where
      back : (z : List ℕ) → (record_of t ≡ z) ⊎ Among z rs → (record_of 1 ≡ z) ⊎ (record_of 2 ≡ z)
      back z (inl e) = go is
        where
          go : (record_of 1 ≡ record_of t) ⊎ (record_of 2 ≡ record_of t) → (record_of 1 ≡ z) ⊎ (record_of 2 ≡ z)
          go (inl a) = inl (a ∙ e)
          go (inr a) = inr (a ∙ e)
      back z (inr h) = q.of z h

-- ---- two runs of calls
pub brought : ℕ → List ℕ → Delivery
brought t b =
    record { node = 0; request = request t; reply = zeros 88; answer = Ok (framed 1 40); book_left = (left_of t b).book; reply_left = (left_of t b).reply }

pub first_run : List Delivery
first_run = brought 1 book ∷ brought 2 (left_of 1 book).book ∷ []

pub second_run : List Delivery
second_run = brought 2 book ∷ brought 1 (left_of 2 book).book ∷ brought 2 (left_of 1 (left_of 2 book).book).book ∷ []

after_1 : Takes (left_of 1 book).book (kept (record_of 1) [])
after_1 = takes_more 1 (omega arith) (omega arith) (inl refl) book [] takes_fresh (omega (arith, alone (record_of 1)))

after_2 : Takes (left_of 2 book).book (kept (record_of 2) [])
after_2 = takes_more 2 (omega arith) (omega arith) (inr refl) book [] takes_fresh (omega (arith, alone (record_of 2)))

after_21 : Takes (left_of 1 (left_of 2 book).book).book (kept (record_of 1) (kept (record_of 2) []))
after_21 = takes_more 1 (omega arith) (omega arith) (inl refl) (left_of 2 book).book (kept (record_of 2) []) after_2 (two (record_of 2) (record_of 1))

-- the repeat is held already
held_2 : length (kept (record_of 2) (kept (record_of 1) (kept (record_of 2) []))) ≤ 2
held_2 =
    let own : one.Own (record_of 1) (kept (record_of 2) []) = (λ z h e. one_each z (record_of 1) (after_2.of z h) (inl refl) e) in
    let k = order.kept_is (kept (record_of 2) []) (record_of 1) after_2.laid.rise own in
    let j = order.kept_is [] (record_of 2) fresh.rise (λ z h e. absurd (order.among_none z h)) in
    rw (order.kept_held (record_of 2) (kept (record_of 1) (kept (record_of 2) [])) (k.keeps (record_of 2) j.has)) (two (record_of 2) (record_of 1))

first_calls : Called plan books first_run
unfolding first_run brought books
first_calls = (
  acknowledges 1 (omega arith) (omega arith) (inl refl) book [] takes_fresh (omega (arith, alone (record_of 1))),
  (acknowledges 2 (omega arith) (omega arith) (inr refl) (left_of 1 book).book (kept (record_of 1) []) after_1 (two (record_of 1) (record_of 2)), tt),
)

second_calls : Called plan books second_run
unfolding second_run brought books
second_calls = (
  acknowledges 2 (omega arith) (omega arith) (inr refl) book [] takes_fresh (omega (arith, alone (record_of 2))),
  (
    acknowledges 1 (omega arith) (omega arith) (inl refl) (left_of 2 book).book (kept (record_of 2) []) after_2 (two (record_of 2) (record_of 1)),
    (acknowledges 2 (omega arith) (omega arith) (inr refl) (left_of 1 (left_of 2 book).book).book (kept (record_of 1) (kept (record_of 2) [])) after_21 held_2, tt),
  ),
)

first_delivers : Delivers plan set first_run 0
unfolding first_run brought sent set
first_delivers = record { only = λ z h. h; each = λ z h _. h; room = (roomy, (roomy, tt)) }

second_delivers : Delivers plan set second_run 0
unfolding second_run brought sent set
second_delivers = record {
  only = λ z h. less z (order.among_case (request 2) z (request 1 ∷ request 2 ∷ []) h);
  each = λ z h _. order.among_later (request 2) z (request 1 ∷ request 2 ∷ []) h;
  room = (roomy, (roomy, (roomy, tt)));
}
  where
    less : (z : List ℕ) → (request 2 ≡ z) ⊎ Among z (request 1 ∷ request 2 ∷ []) → Among z (request 1 ∷ request 2 ∷ [])
    less z (inl e) = order.among_later (request 1) z (request 2 ∷ []) (order.among_first (request 2) z [] e)
    less z (inr h) = h

pub at_zero : (P : ℕ → Type 0) → P 0 → (i : ℕ) → i < 1 → P i
at_zero P h zero l = h
at_zero P h (suc i) l = absurd (omega arith)

-- the third demand holds of them
pub given_first : Setting plan books set first_run
unfolding plan
given_first =
    record { plan = accepted_plan; ready = at_zero (Ready plan books set) ready; delivers = at_zero (Delivers plan set first_run) first_delivers; calls = first_calls }

pub given_second : Setting plan books set second_run
unfolding plan
given_second =
    record { plan = accepted_plan; ready = at_zero (Ready plan books set) ready; delivers = at_zero (Delivers plan set second_run) second_delivers; calls = second_calls }

pub same_bytes : delivered first_run books 0 ≡ delivered second_run books 0
unfolding plan
same_bytes = theorems.any_order plan books set first_run second_run given_first given_second 0 (omega arith)

-- ---- a history
pub left : ServedOutcome
left = left_of 1 book

pub acknowledged : NodeCall plan (request 1) book (zeros 88) (Ok (framed 1 40)) left.book left.reply
unfolding left
acknowledged = acknowledges 1 (omega arith) (omega arith) (inl refl) book [] takes_fresh (omega (arith, alone (record_of 1)))

-- it is a history of one call, and its record is there for good
pub call : Call
call = record { plan = plan; request = request 1; reply = zeros 88; answer = Ok (framed 1 40); book_left = left.book; reply_left = left.reply }

pub history : History book (call ∷ [])
unfolding call
history = (small_octets book book_small, acknowledged, tt)

pub stored : Among (body_of (request 1)) (records_of plan left.book)
stored =
    keeps.stored_for_good plan (request 1) book (zeros 88) (framed 1 40) left.book left.reply [] (one.is_good fresh)
    (small_octets book book_small) acknowledged
    (eq-eqb (kind_of (request 1)) write_request_kind (kind_is 1 (omega arith) (omega arith))) tt

-- ---- a call that is refused
pub off_plan : Plan
off_plan = record { n = 0; t = 0; b = 0; q = 1; m = 1; f = 1; member = Repairable; clients = Byzantine; w = 1 }

off_plan_no : plan_ok off_plan ≡ false
unfolding off_plan plan_ok counts_ok all
off_plan_no = refl

abbrev rest_of : List Rung → List Rung
rest_of [] = []
rest_of (x ∷ xs) = xs

pub refused_so : NodeCall off_plan [] [] [] (Err OutsidePlan) [] []
refused_so =
    calls.is_refused off_plan [] [] [] OutsidePlan
    (record { before = []; after = rest_of (node_ladder off_plan [] [] []); is = λ i. on 1 (not (off_plan_no i)) ∷ rest_of (node_ladder off_plan [] [] []); none = tt })
