-- A call on bytes is the call below on the plan and the session that the bytes are. What an accepted opening left is read back as the session
-- that it opened (opened_below); a request owed is that of the session (owed_below); what a reply call left, as the answer and the session that the call below gives (read_below, write_below).
--   Held         session bytes and a desk as the calls hand them on
--   Came         what a reply call left is an outcome of the call below, and is held
-- An ending that is not 42 bytes is refused 2, and nothing changes (read_unlent, write_unlent).
-- Assumes nothing.
use Rattle.terms.specs.declared.Refusal.{Refusal}
use Rattle.std.specs.Prelude.{Result, Ok, Err}
use Prim.{tt}
use Prim.Native.Nat.{ℕ}
use mathlib.Core.Path.{◌≡◌, refl, sym, ap, ◌∙◌, subst}
use mathlib.Core.Bool.{Bool, true, false, cond, not}
use mathlib.Core.List.{List, [], ◌++◌}
use borrow.Author.Tests.{eq-eqb, not-false}
use lib.Dec.{eqb}
use lib.ListN.{length}
use Rattle.octets.specs.Bytes.{Octets}
use Rattle.octets.proofs.Meaning.{octets_all}
use Rattle.terms.specs.Ladder.{Rung, first, rung, None}
use Rattle.terms.specs.Terms.{plan_ok, opening_ok, refusal_at}
use Rattle.terms.proofs.Down.{clear}
use Rattle.terms.proofs.Ladders.{by_ladder, is_passed}
use Rattle.terms.proofs.Picks.{either}
use Rattle.terms.proofs.Rungs as rungs
use Rattle.std.specs.declared.option.Option.TheVariants as option
use Rattle.standing.specs.declared.Operation.{Operation}
use Rattle.session.specs.declared.Session.{Session}
use Rattle.standing.specs.Standing.{is_read}
use Rattle.session.specs.Session.{Said, said_of, is_refused}
use Rattle.session.specs.Opening.{opening_ladder, fresh_of, no_session, Opens, opens, open_with}
use Rattle.session.specs.Owed as owed
use Rattle.session.specs.Owed.{owed_ladder, due_of, Dues, dues, owed_to, OwedCall}
use Rattle.session.specs.Reader.{Outcome, outcome, read_reply}
use Rattle.session.specs.Writer.{write_reply}
use Rattle.session.proofs.Checks.{first_map, none_applies}
use Rattle.packing.specs.PlanBytes.{plan_of}
use Rattle.packing.specs.SessionBytes.{session_length, session_bytes, session_of}
use Rattle.packing.proofs.Inverse.{session_back}
use Rattle.packing.proofs.Laws.{length_session}
use Rattle.answers.specs.Answers.{both_fit, lent_ladder, due_number, answer_number, ending_after, answer_of}
use Rattle.pasis.specs.Client.{session_fits, session_after, OpenedBytes, opened_bytes, opened_as, open_bytes, OpenServes, Asked, asked, asked_as, owed_bytes, OwedServes, TookBytes, took_bytes, took_as, with_item, read_bytes, write_bytes, WriteServes, ReadServes}
use Rattle.pasis.proofs.Carried.{Lasts, Carried, opened_lasts, read_carried, write_carried, given_refusal, answer_back}
use Rattle.pasis.proofs.Nine.{lent_none}

pub record Held (s d : List ℕ) : Type 0 where
  pub long : length s ≡ session_length
  pub lasts : Lasts (session_of s) d

-- the answer, the session, the desk and the item that the bytes are: o
pub record Came (o : Outcome) (r : ℕ) (s₂ d₂ i₂ e₂ : List ℕ) : Type 0 where
  pub is : outcome (said_of (answer_of r e₂)) (session_of s₂) d₂ i₂ ≡ o
  pub held : Held s₂ d₂

-- ---- opening
pub record OpenedBelow (op : Operation) (x : List ℕ) (a : ℕ) (s : List ℕ) : Type 0 where
  pub plan : plan_ok (plan_of x) ≡ true
  pub opened : opens 0 (session_of s) ≡ open_with op option.None (plan_of x) (record { 0 = a })
  pub held : (d : List ℕ) → (is_read op ≡ true → Octets d) → Held s d

module _ (op : Operation) (x : List ℕ) (a : ℕ) (s₀ s : List ℕ) (c : OpenServes op x a s₀ 0 s) where
  abbrev fresh : Session
  fresh = fresh_of op 1 option.None (record { 0 = a })

  abbrev order : List Rung
  order = lent_ladder (plan_of x) (session_fits (length s₀)) ++ opening_ladder (plan_of x) a

  -- its number is 0: no refusal applied
  none : None order
  unfolding open_bytes open_with first
  none =
      none_applies order refl
      (sym (ap (λ (o : OpenedBytes). o.number) c.is
      ∙ first_map (λ (o : OpenedBytes). o.number) (lent_ladder (plan_of x) (session_fits (length s₀))) (λ (k : ℕ). opened_bytes k s₀) (opened_as (open_with op option.None (plan_of x) (record { 0 = a })) s₀)
      ∙ ap (first (lent_ladder (plan_of x) (session_fits (length s₀))) (λ (k : ℕ). k))
      (first_map (λ (o : Opens). o.number) (opening_ladder (plan_of x) a) (λ (k : ℕ). opens k (no_session op)) (opens 0 fresh))))

  past : (k : ℕ) → rung k order ≡ false
  past = clear order none

  opens_fresh : open_with op option.None (plan_of x) (record { 0 = a }) ≡ opens 0 fresh
  unfolding open_with
  opens_fresh = is_passed (opening_ladder (plan_of x) a) (λ (k : ℕ). opens k (no_session op)) (opens 0 fresh) (past 1, (past 13, tt))

  bytes_are : s ≡ session_bytes fresh
  unfolding open_bytes
  bytes_are =
      ap (λ (o : OpenedBytes). o.session)
      (c.is ∙ is_passed (lent_ladder (plan_of x) (session_fits (length s₀))) (λ (k : ℕ). opened_bytes k s₀) _ (past 1, (past 2, tt)) ∙ ap (λ (o : Opens). opened_as o s₀) opens_fresh)

  lasting : (d : List ℕ) → (is_read op ≡ true → Octets d) → Lasts fresh d
  lasting d = opened_lasts op (plan_of x) a d (not-false (opening_ok (plan_of x) a) (past 13))

  session_is : session_of s ≡ fresh
  session_is = ap session_of bytes_are ∙ session_back fresh (lasting [] (λ z. octets_all [] tt)).fits

  pub opened_below : OpenedBelow op x a s
  opened_below =
      record {
        plan = not-false (plan_ok (plan_of x)) (past 1);
        opened = ap (opens 0) session_is ∙ sym opens_fresh;
        held = λ d o. record { long = ap length bytes_are ∙ length_session fresh refl refl; lasts = subst (λ (u : Session). Lasts u d) (sym session_is) (lasting d o) };
      }

-- ---- the request owed
-- the answer of the call below, and its number
pub record OwedBelow (x s : List ℕ) (n : ℕ) (d q : List ℕ) (r : ℕ) (q₂ : List ℕ) : Type 0 where
  pub owed : Result ℕ Refusal
  pub call : OwedCall (plan_of x) (session_of s) n d q owed q₂
  pub number : r ≡ due_number (due_of owed)

record IsDue (o : Dues) : Type 0 where
  answer : Result ℕ Refusal
  is : due_of answer ≡ o.due

module _ (x s : List ℕ) (n : ℕ) (d q : List ℕ) (r : ℕ) (q₂ : List ℕ) (ok : plan_ok (plan_of x) ≡ true) (long : length s ≡ session_length) (c : OwedServes x s n d q r q₂) where
  due : IsDue (owed_to (plan_of x) (session_of s) n d q)
  unfolding owed_to
  due =
      by_ladder IsDue (owed_ladder (plan_of x) (session_of s) n d (length q)) (λ (k : ℕ). dues (owed.refused k) q) _
      (λ k g. record { answer = Err (refusal_at k); is = ap owed.refused (given_refusal (owed_ladder (plan_of x) (session_of s) n d (length q)) refl k g).1 })
      (λ z. record { answer = Ok _; is = refl })

  pub owed_below : OwedBelow x s n d q r q₂
  unfolding owed_bytes
  owed_below =
      let e : asked r q₂ ≡ asked_as (owed_to (plan_of x) (session_of s) n d q) = c.is ∙ sym (lent_none (plan_of x) _ _ _ ok (eq-eqb (length s) session_length long) refl) in
      record {
        owed = due.answer;
        call = record { is = λ j. dues (due.is j) (e j).request };
        number = ap (λ (a : Asked). a.number) e ∙ ap due_number (sym due.is);
      }

-- ---- a reply
-- s and e are the session and the ending that a call was lent, o what the call below gives
module _ (s e : List ℕ) (o : Outcome) (long : length s ≡ session_length) (c : Carried (session_of s) o) where
  session_kept : session_of (session_after o.said o.session s) ≡ o.session
  unfolding session_after
  session_kept = go (is_refused o.said) refl
    where
      go : (t : Bool) → is_refused o.said ≡ t → session_of (cond t s (session_bytes o.session)) ≡ o.session
      go true q = sym (c.stays q)
      go false q = session_back o.session c.lasts.fits

  session_long : length (session_after o.said o.session s) ≡ session_length
  unfolding session_after
  session_long = either (λ (l : List ℕ). length l ≡ session_length) (is_refused o.said) long (length_session o.session c.lasts.fits.times.nodes c.lasts.fits.marks)

  answer_kept : said_of (answer_of (answer_number o.said) (ending_after o.said e)) ≡ o.said
  answer_kept =
      ap said_of (subst (λ (a : Said). answer_of (answer_number a) (ending_after a e) ≡ c.answer) c.said (answer_back c.answer c.wide e)) ∙ c.said

  came : (r : ℕ) (s₂ d₂ i₂ e₂ : List ℕ) → took_bytes r s₂ d₂ i₂ e₂ ≡ took_as o s e → Came o r s₂ d₂ i₂ e₂
  came r s₂ d₂ i₂ e₂ q =
      let z = ap (λ (w : TookBytes). w.session) q in
      let k = ap (λ (w : TookBytes). w.desk) q in
      record {
        is = ap (λ (w : TookBytes). outcome (said_of (answer_of w.number w.ending)) (session_of w.session) w.desk w.item) q
            ∙ (λ j. outcome (answer_kept j) (session_kept j) o.desk o.item);
        held = record {
          long = ap length z ∙ session_long;
          lasts = subst (λ (u : Session). Lasts u d₂) (sym (ap session_of z ∙ session_kept)) (subst (Lasts o.session) (sym k) c.lasts);
        };
      }

module _ (x s d : List ℕ) (ok : plan_ok (plan_of x) ≡ true) (h : Held s d) (f i e : List ℕ) where
  both_fit_lem : eqb (length e) 42 ≡ true → both_fit (length s) (length e) ≡ true
  unfolding both_fit
  both_fit_lem t = rw (eq-eqb (length s) session_length h.long, t)

  not_both : eqb (length e) 42 ≡ false → both_fit (length s) (length e) ≡ false
  unfolding both_fit
  not_both t = rw (eq-eqb (length s) session_length h.long, t)

  none_lent : (pass : TookBytes) → eqb (length e) 42 ≡ false
      → first (lent_ladder (plan_of x) (both_fit (length s) (length e))) (λ (k : ℕ). took_bytes k s d i e) pass ≡ took_bytes 2 s d i e
  none_lent pass t = sym (rungs.go_on 1 _ _ _ (ap not ok) (rungs.stop 2 _ _ _ (ap not (not_both t)) refl))

  module _ (r : ℕ) (s₂ d₂ i₂ e₂ : List ℕ) (c : ReadServes x s f d i e r s₂ d₂ i₂ e₂) where
    pub read_below : Octets f → eqb (length e) 42 ≡ true → Came (read_reply (plan_of x) (session_of s) f d i) r s₂ d₂ i₂ e₂
    unfolding read_bytes
    read_below o t =
        came s e (read_reply (plan_of x) (session_of s) f d i) h.long (read_carried (plan_of x) (session_of s) f d i o h.lasts) r s₂ d₂ i₂ e₂
        (c.is ∙ sym (lent_none (plan_of x) _ _ _ ok (both_fit_lem t) refl))

    pub read_unlent : eqb (length e) 42 ≡ false → (s₂ ≡ s) × (d₂ ≡ d)
    unfolding read_bytes
    read_unlent t = let q = c.is ∙ none_lent _ t in (ap (λ (w : TookBytes). w.session) q, ap (λ (w : TookBytes). w.desk) q)

  module _ (r : ℕ) (s₂ d₂ e₂ : List ℕ) (c : WriteServes x s f d i e r s₂ d₂ e₂) where
    pub write_below : Octets f → eqb (length e) 42 ≡ true → Came (with_item (write_reply (plan_of x) (session_of s) f d i) i) r s₂ d₂ i e₂
    unfolding write_bytes
    write_below o t =
        came s e (with_item (write_reply (plan_of x) (session_of s) f d i) i) h.long (write_carried (plan_of x) (session_of s) i f d o h.lasts) r s₂ d₂ i e₂
        (c.is ∙ sym (lent_none (plan_of x) _ _ _ ok (both_fit_lem t) refl))

    pub write_unlent : eqb (length e) 42 ≡ false → (s₂ ≡ s) × (d₂ ≡ d)
    unfolding write_bytes
    write_unlent t = let q = c.is ∙ none_lent _ t in (ap (λ (w : TookBytes). w.session) q, ap (λ (w : TookBytes). w.desk) q)
