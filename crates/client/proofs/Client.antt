-- The client's calls: what their contracts determine, and when each answer is given. Assumes nothing.
--   said_one               the paper's terms determine the answer
--   opening_refused owed_refused write_refused read_refused   a refused call changes nothing; its condition holds, and none before it
--   opening_refuses owed_refuses                       and so it answers wherever that is so; for replies so_write and so_read
--   write_answers so_write read_answers so_read        each answer of a reply exactly when its condition holds (specs/Endings.antt)
use Rattle.std.specs.Prelude.{Result, Err, Ok}
use Prim.Native.Nat.{ℕ}
use mathlib.Core.Path.{◌≡◌, refl, sym, ap, ◌∙◌, subst}
use mathlib.Core.Bool.{cond}
use mathlib.Core.List.{List}
use native.Mathlib.Omega.{arith}
use lib.Dec.{eqb}
use lib.ListN.{length}
use Rattle.octets.specs.Bytes.{over}
use Rattle.terms.specs.Stamp.{zero_stamp}
use Rattle.terms.specs.Terms.{refusal_number}
use Rattle.terms.specs.declared.Ask.{Ask}
use Rattle.terms.specs.declared.Plan.{Plan}
use Rattle.terms.specs.declared.Refusal.{Refusal}
use Rattle.terms.specs.declared.Refusal.TheVariants.{OutsidePlan}
use Rattle.terms.specs.declared.Timestamp.{Timestamp}
use Rattle.terms.specs.Ladder.{Given}
use Rattle.terms.proofs.Rungs.{refusal_one, refusal_low}
use Rattle.std.proofs.Common.{None}
use Rattle.session.specs.declared.Session.{Session}
use Rattle.standing.specs.declared.Operation.{Operation}
use Rattle.session.specs.declared.Took.{Took}
use Rattle.session.specs.declared.Answer.{Answer}
use Rattle.session.specs.declared.Answer.TheVariants.{Open, Done, NeverWritten, Aborted, RoundsSpent, ClockSpent}
use Rattle.session.specs.declared.opening.Opened.{Opened}
use Rattle.session.specs.Session.{Said, refused, still_open, done, never_written, aborted, rounds_spent, clock_spent, said_of}
use Rattle.session.specs.Opening.{OpenCall, Opens, opens, opening_ladder, opening_number, open_with, fresh_of, no_session}
use Rattle.session.specs.Owed.{OwedCall, Dues, dues, due_of, written, owed_to, owed_ladder, request_of}
use Rattle.session.specs.Owed as owed
use Rattle.session.specs.Reader.{ReadReplyCall, Outcome}
use Rattle.session.specs.Writer.{WriteReplyCall, Leaves}
use Rattle.session.proofs.Openings.{opening_one}
use Rattle.session.proofs.Oweds.{due_one}
use Rattle.client.specs.Endings.{read_ladder, write_ladder, ReadGives, WriteGives}
use Rattle.terms.proofs.Ladders as ladders
use Rattle.client.proofs.Reading as reading
use Rattle.client.proofs.Writing as writing

-- ---- the paper's terms determine the answer
-- an answer cut into its parts, those that it has not filled in
pub record Parts : Type 0 where
  pub which : ℕ
  pub refusal : Refusal
  pub stamp : Timestamp
  pub rounds : ℕ

abbrev parts : ℕ → Refusal → Timestamp → ℕ → Parts
parts k r t n = record { which = k; refusal = r; stamp = t; rounds = n }

abbrev pub parts_of : Result Answer Refusal → Parts
parts_of (Err r) = parts 0 r zero_stamp 0
parts_of (Ok Open) = parts 1 OutsidePlan zero_stamp 0
parts_of (Ok (Done t n)) = parts 2 OutsidePlan t n
parts_of (Ok (NeverWritten n)) = parts 3 OutsidePlan zero_stamp n
parts_of (Ok (Aborted n)) = parts 4 OutsidePlan zero_stamp n
parts_of (Ok (RoundsSpent n)) = parts 5 OutsidePlan zero_stamp n
parts_of (Ok ClockSpent) = parts 6 OutsidePlan zero_stamp 0

whole : Parts → Result Answer Refusal
whole x =
    cond (eqb x.which 0) (Err x.refusal) (cond (eqb x.which 1) (Ok Open) (cond (eqb x.which 2) (Ok (Done x.stamp x.rounds))
    (cond (eqb x.which 3) (Ok (NeverWritten x.rounds)) (cond (eqb x.which 4) (Ok (Aborted x.rounds)) (cond (eqb x.which 5) (Ok (RoundsSpent x.rounds)) (Ok ClockSpent))))))

whole_back : (a : Result Answer Refusal) → whole (parts_of a) ≡ a
unfolding whole
whole_back (Err r) = refl
whole_back (Ok Open) = refl
whole_back (Ok (Done t n)) = refl
whole_back (Ok (NeverWritten n)) = refl
whole_back (Ok (Aborted n)) = refl
whole_back (Ok (RoundsSpent n)) = refl
whole_back (Ok ClockSpent) = refl

-- the same parts of what was said, the refusal as a number
record Numbers : Type 0 where
  which : ℕ
  refusal : ℕ
  stamp : Timestamp
  rounds : ℕ

abbrev numbers : ℕ → ℕ → Timestamp → ℕ → Numbers
numbers k r t n = record { which = k; refusal = r; stamp = t; rounds = n }

abbrev numbers_of : Said → Numbers
numbers_of (refused r) = numbers 0 r zero_stamp 0
numbers_of still_open = numbers 1 1 zero_stamp 0
numbers_of (done t n) = numbers 2 1 t n
numbers_of (never_written n) = numbers 3 1 zero_stamp n
numbers_of (aborted n) = numbers 4 1 zero_stamp n
numbers_of (rounds_spent n) = numbers 5 1 zero_stamp n
numbers_of clock_spent = numbers 6 1 zero_stamp 0

abbrev counted : Parts → Numbers
counted x = numbers x.which (refusal_number x.refusal) x.stamp x.rounds

numbers_are : (a : Result Answer Refusal) → numbers_of (said_of a) ≡ counted (parts_of a)
numbers_are (Err r) = refl
numbers_are (Ok Open) = refl
numbers_are (Ok (Done t n)) = refl
numbers_are (Ok (NeverWritten n)) = refl
numbers_are (Ok (Aborted n)) = refl
numbers_are (Ok (RoundsSpent n)) = refl
numbers_are (Ok ClockSpent) = refl

pub said_one : (a b : Result Answer Refusal) → said_of a ≡ said_of b → a ≡ b
said_one a b e =
    let h : counted (parts_of a) ≡ counted (parts_of b) = sym (numbers_are a) ∙ ap numbers_of e ∙ numbers_are b in
    let k = ap (λ (x : Numbers). x.which) h in
    let r = refusal_one (parts_of a).refusal (parts_of b).refusal (ap (λ (x : Numbers). x.refusal) h) in
    let t = ap (λ (x : Numbers). x.stamp) h in
    let n = ap (λ (x : Numbers). x.rounds) h in
    sym (whole_back a) ∙ ap whole (λ i. parts (k i) (r i) (t i) (n i)) ∙ whole_back b

-- ---- an opening: order 1, 13
module _ (op : Operation) (p : Plan) (a : Ask) (r : Opened) (call : OpenCall op p a r) where
  abbrev none : ℕ → Opens
  none k = opens k (no_session op)

  abbrev begun : Opens
  begun = opens 0 (fresh_of op 1 None a)

  -- A refused opening hands back the session that no call takes; its condition holds, and none before it.
  pub opening_refused : (q : Refusal) → r.answer ≡ Err q → Given (opening_ladder p a.0) (refusal_number q) × (r.session ≡ no_session op)
  unfolding open_with
  opening_refused q e =
      ladders.by_ladder (λ (o : Opens). opens (opening_number r.answer) r.session ≡ o → Given (opening_ladder p a.0) (refusal_number q) × (r.session ≡ no_session op))
      (opening_ladder p a.0) none begun
      (λ k g z. let n : refusal_number q ≡ k = ap opening_number (sym e) ∙ ap (λ (o : Opens). o.number) z in
      (subst (Given (opening_ladder p a.0)) (sym n) g, ap (λ (o : Opens). o.session) z))
      (λ m z. let n : refusal_number q ≡ 0 = ap opening_number (sym e) ∙ ap (λ (o : Opens). o.number) z in absurd (omega (arith, refusal_low q)))
      call.is

  pub opening_refuses : (q : Refusal) → Given (opening_ladder p a.0) (refusal_number q) → r.answer ≡ Err q
  unfolding open_with
  opening_refuses q g =
      opening_one r.answer (Err q)
      (ap (λ (o : Opens). o.number) (call.is ∙ ladders.is_given (opening_ladder p a.0) none begun (refusal_number q) g))

-- ---- a request owed: order 1, 2, 9, 14, 4, 11
module _ (p : Plan) (s : Session) (node : ℕ) (d q : List ℕ) (r : Result ℕ Refusal) (q₂ : List ℕ) (call : OwedCall p s node d q r q₂) where
  abbrev stay : ℕ → Dues
  stay k = dues (owed.refused k) q

  abbrev give : Dues
  give = dues (written (length (request_of p s node d))) (over (request_of p s node d) q)

  -- A refused one writes no byte of the request buffer; its condition holds, and none before it.
  pub owed_refused : (x : Refusal) → r ≡ Err x → Given (owed_ladder p s node d (length q)) (refusal_number x) × (q₂ ≡ q)
  unfolding owed_to
  owed_refused x e =
      ladders.by_ladder (λ (o : Dues). dues (due_of r) q₂ ≡ o → Given (owed_ladder p s node d (length q)) (refusal_number x) × (q₂ ≡ q))
      (owed_ladder p s node d (length q)) stay give
      (λ k g z. let h : owed.refused (refusal_number x) ≡ owed.refused k = ap due_of (sym e) ∙ ap (λ (o : Dues). o.due) z in
      let n : k ≡ refusal_number x = cc in
      (subst (Given (owed_ladder p s node d (length q))) n g, ap (λ (o : Dues). o.request) z))
      (λ m z. let h : owed.refused (refusal_number x) ≡ written (length (request_of p s node d)) = ap due_of (sym e) ∙ ap (λ (o : Dues). o.due) z in
      let n : ◌≡◌ {A = ℕ} 0 1 = cc in absurd (omega arith))
      call.is

  pub owed_refuses : (x : Refusal) → Given (owed_ladder p s node d (length q)) (refusal_number x) → r ≡ Err x
  unfolding owed_to
  owed_refuses x g =
      due_one r (Err x)
      (ap (λ (o : Dues). o.due) (call.is ∙ ladders.is_given (owed_ladder p s node d (length q)) stay give (refusal_number x) g))

-- ---- a reply to a writer: order 1, 2, 9, 14, 4, 10, 11
module _ (p : Plan) (s : Session) (f d i : List ℕ) (t : Took) (d₂ : List ℕ) (call : WriteReplyCall p s f d i t d₂) where
  -- Each answer is given only where its condition holds …
  pub write_answers : WriteGives p s f d (length i) (said_of t.answer)
  write_answers = subst (WriteGives p s f d (length i)) (sym (ap (λ (o : Leaves). o.said) call.is)) (writing.gives p s f d i)

  -- … and wherever it holds.
  pub so_write : (x : Said) → WriteGives p s f d (length i) x → said_of t.answer ≡ x
  so_write x g = ap (λ (o : Leaves). o.said) call.is ∙ writing.so_gives p s f d i x g

  -- A refused reply hands back the session it was given, and changes no byte of the desk.
  pub write_refused : (k : ℕ) → said_of t.answer ≡ refused k → Given (write_ladder p s f d (length i)) k × (t.session ≡ s) × (d₂ ≡ d)
  write_refused k e =
      let g : Given (write_ladder p s f d (length i)) k = subst (WriteGives p s f d (length i)) e write_answers in
      let z = call.is ∙ writing.one_ladder p s f d i ∙ ladders.is_given (write_ladder p s f d (length i)) _ _ k g in
      (g, ap (λ (o : Leaves). o.session) z, ap (λ (o : Leaves). o.desk) z)

-- ---- a reply to a reader: order 1, 2, 9, 14, 4, 10, 11, 5, 6, 12
module _ (p : Plan) (s : Session) (f d i : List ℕ) (t : Took) (d₂ i₂ : List ℕ) (call : ReadReplyCall p s f d i t d₂ i₂) where
  -- Each answer is given only where its condition holds …
  pub read_answers : ReadGives p s f d (length i) (said_of t.answer)
  read_answers = subst (ReadGives p s f d (length i)) (sym (ap (λ (o : Outcome). o.said) call.is)) (reading.gives p s f d i)

  -- … and wherever it holds.
  pub so_read : (x : Said) → ReadGives p s f d (length i) x → said_of t.answer ≡ x
  so_read x g = ap (λ (o : Outcome). o.said) call.is ∙ reading.so_gives p s f d i x g

  -- A refused reply hands back the session it was given, and changes no byte of the desk or of the item.
  pub read_refused : (k : ℕ) → said_of t.answer ≡ refused k
      → Given (read_ladder p s f d (length i)) k × (t.session ≡ s) × (d₂ ≡ d) × (i₂ ≡ i)
  read_refused k e =
      let g : Given (read_ladder p s f d (length i)) k = subst (ReadGives p s f d (length i)) e read_answers in
      let z = call.is ∙ reading.one_ladder p s f d i ∙ ladders.is_given (read_ladder p s f d (length i)) _ _ k g in
      (g, ap (λ (o : Outcome). o.session) z, ap (λ (o : Outcome). o.desk) z, ap (λ (o : Outcome). o.item) z)
