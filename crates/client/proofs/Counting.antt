-- The rounds that a read reports are the rounds that it closed, and at most W. Assumes nothing.
--   counted_rounds         from an opening on, whatever replies come
use Prim.{tt}
use Rattle.std.specs.Prelude.{Ok}
use Prim.Native.Nat.{ℕ, ◌+◌, ◌-◌, ◌≤◌, ◌<◌}
use mathlib.Core.Path.{◌≡◌, refl, sym, ap, ◌∙◌, subst}
use mathlib.Core.Bool.{Bool, true, false, cond, not}
use mathlib.Core.List.{List, [], ◌∷◌}
use native.Mathlib.Nat.{add-zero}
use native.Mathlib.Omega.{arith}
use borrow.Author.Tests.{lt-leb, le-leb, leb-true, leb-false, ltb-true, ltb-false}
use lib.Dec.{leb}
use lib.ListN.{length, length-set}
use Rattle.terms.specs.Ladder.{◌and◌, None}
use Rattle.terms.specs.declared.Ask.{Ask}
use Rattle.terms.specs.declared.Plan.{Plan}
use Rattle.terms.proofs.Down.{clear}
use Rattle.terms.proofs.Rungs.{clash}
use Rattle.terms.proofs.Plans.{plan_is}
use Rattle.frame.specs.Frame.{frame_node}
use Rattle.rounds.specs.declared.Heard.{Heard}
use Rattle.rounds.specs.declared.Heard.TheVariants.{Record}
use Rattle.rounds.specs.Rounds.{heard_count}
use Rattle.session.specs.declared.Session.{Session}
use Rattle.standing.specs.declared.Operation.TheVariants.{Read}
use Rattle.session.specs.declared.opening.Opened.{Opened}
use Rattle.standing.specs.Standing.{is_asking, is_storing, is_ended, replies}
use Rattle.session.specs.Session.{marked_of, ended_of, Said, refused, still_open, said_of, is_refused, round_open}
use Rattle.session.specs.Opening.{OpenCall}
use Rattle.session.specs.Reply.{is_heard}
use Rattle.session.specs.Reader.{Outcome, outcome, read_reply}
use Rattle.session.proofs.Openings.{accepted_session}
use Rattle.session.proofs.ReadKept.{asking as is_asking_lem, not_asking}
use Rattle.client.specs.Endings.{read_ladder, heard_as, after_reply}
use Rattle.client.specs.Turns.{Turn, ReadTurn, Calls, closed_rounds, Reports, last_said}
use Rattle.terms.proofs.Ladders as ladders
use Rattle.client.proofs.Reading as reading
use Rattle.session.proofs.Closings as shapes
use Rattle.client.proofs.Round.Kept as kept

-- ---- the rounds that a session has closed: those before the one that is open
pub rounds_behind : Session → ℕ
rounds_behind s = cond (is_asking s.round.stage) (s.round.number - 1) s.round.number

-- k replies were accepted in the read round that is open
pub record At (s : Session) (k : ℕ) : Type 0 where
  pub marks : length s.marks ≡ 16
  pub heard : is_asking s.round.stage ≡ true → heard_count s.marks ≡ k
  pub low : 1 ≤ s.round.number

-- what one reply comes to: x is 1 where it closed a round, k₂ were accepted in the round that is open after it
pub record Step (p : Plan) (s : Session) (k : ℕ) (o : Outcome) (x k₂ : ℕ) : Type 0 where
  pub at : At o.session k₂
  pub more : rounds_behind o.session ≡ rounds_behind s + x
  pub tells : (n : ℕ) → Reports o.said n → (n ≡ rounds_behind o.session) × (n ≤ p.w)

-- a reply that is refused or of a repair round; one that its round goes on after; the last of its round
pub data Turned (p : Plan) (s : Session) (k : ℕ) (o : Outcome) : Type 0 where
  apart : (is_asking s.round.stage and not (is_refused o.said)) ≡ false → Step p s k o 0 k → Turned p s k o
  more : (is_asking s.round.stage and not (is_refused o.said)) ≡ true → k + 1 < replies p → Step p s k o 0 (k + 1) → Turned p s k o
  last : (is_asking s.round.stage and not (is_refused o.said)) ≡ true → replies p ≤ k + 1 → Step p s k o 1 0 → Turned p s k o

module _ (p : Plan) (s : Session) (f d i : List ℕ) (k : ℕ) (a : At s k) where
  length_marks : (h : Heard) → length (marked_of s (frame_node f) h).marks ≡ 16
  length_marks h = length-set s.marks (frame_node f) h ∙ a.marks

  -- a mark changes nothing of what is behind the round
  stays : (h : Heard) → rounds_behind (marked_of s (frame_node f) h) ≡ rounds_behind s + 0
  unfolding rounds_behind
  stays h = sym (add-zero (rounds_behind s))

  module _ (n : None (read_ladder p s f d (length i))) where
    ended_not : is_ended s.round.stage ≡ false
    ended_not = clear (read_ladder p s f d (length i)) n 14

    heard_not : is_heard s (frame_node f) ≡ false
    heard_not = clear (read_ladder p s f d (length i)) n 11

    in_marks : frame_node f < 16
    in_marks = let t = reading.taken p s f d (length i) n in let q = (plan_is p t.plan).n_high in let h = t.node in omega arith

    -- a read round
    module _ (q : is_storing s.round.stage ≡ false) where
      asking : is_asking s.round.stage ≡ true
      asking = is_asking_lem s.round.stage q ended_not

      count_is : heard_count (after_reply p s f).marks ≡ k + 1
      count_is =
          kept.count_marked p s f a.marks in_marks heard_not
          ∙ ap (λ (x : ℕ). x + 1) (a.heard asking)

      here : rounds_behind s ≡ s.round.number - 1
      unfolding rounds_behind
      here = rw asking

      -- what the close comes to has one round more behind it
      abbrev Closing : Outcome → Type 0
      Closing o = (is_refused o.said ≡ false) × Step p s k o 1 0

      low : s.round.number ≤ p.w
      low = reading.low_round p s f d i n

      one_more : rounds_behind s + 1 ≡ s.round.number
      one_more = let h = here in let l = a.low in omega arith

      ended : (o : Outcome) → o.session ≡ ended_of (after_reply p s f) → ((m : ℕ) → Reports o.said m → m ≡ s.round.number) → Step p s k o 1 0
      unfolding rounds_behind
      ended o e t =
          let z : rounds_behind o.session ≡ s.round.number = rw e in
          record {
            at = rw e (record { marks = length_marks (heard_as p f); heard = λ w. (let y : ◌≡◌ {A = ℕ} 0 1 = cc in absurd (omega arith)); low = a.low });
            more = z ∙ sym one_more;
            tells = λ m h. let y = t m h in (y ∙ sym z, (let v = low in omega arith));
          }

      closing : Closing (reading.act_of p s f d i)
      unfolding rounds_behind heard_count
      closing =
          shapes.goes Closing p (after_reply p s f) _ _ i
          (record {
            finds = λ x y. (refl, ended _ refl (λ m h. h));
            never = (refl, ended _ refl (λ m h. h));
            aborts = (refl, ended _ refl (λ m h. h));
            spends = λ g. (refl, ended _ refl (λ m h. h));
            next = λ l q g. (refl, record { at = record { marks = refl; heard = λ w. refl; low = omega arith }; more = (let v = one_more in omega arith); tells = λ m h. absurd h });
            repairs = λ l q v. (
              refl,
              record {
                at = record { marks = refl; heard = λ w. (let y : ◌≡◌ {A = ℕ} 0 1 = cc in absurd (omega arith)); low = a.low };
                more = sym one_more;
                tells = λ m h. absurd h;
              },
            );
          })

      counts_it : (x : Said) → is_refused x ≡ false → (is_asking s.round.stage and not (is_refused x)) ≡ true
      counts_it x e = rw (asking, e)

      in_read : Turned p s k (read_reply p s f d i)
      in_read = go (leb (replies p) (k + 1)) refl
        where
          go : (x : Bool) → leb (replies p) (k + 1) ≡ x → Turned p s k (read_reply p s f d i)
          go true g =
              let h = leb-true (replies p) (k + 1) g in
              let l : replies p ≤ heard_count (after_reply p s f).marks = let v = count_is in omega arith in
              subst (Turned p s k) (sym (reading.closes_read p s f d i n q l)) (last (counts_it (reading.act_of p s f d i).said closing.0) h closing.1)
          go false g =
              let h = leb-false (replies p) (k + 1) g in
              let l : heard_count (after_reply p s f).marks < replies p = let v = count_is in omega arith in
              subst (Turned p s k) (sym (reading.waits_read p s f d i n q l))
              (more (counts_it still_open refl) h (record {
                at = record { marks = length_marks (heard_as p f); heard = λ w. count_is; low = a.low };
                more = stays (heard_as p f);
                tells = λ m y. absurd y;
              }))

    -- a repair round
    in_repair : is_storing s.round.stage ≡ true → Turned p s k (read_reply p s f d i)
    unfolding rounds_behind
    in_repair q = go (round_open p (marked_of s (frame_node f) Record)) refl
      where
        off : is_asking s.round.stage ≡ false
        off = not_asking s.round.stage q

        go : (x : Bool) → round_open p (marked_of s (frame_node f) Record) ≡ x → Turned p s k (read_reply p s f d i)
        go true g =
            subst (Turned p s k) (sym (reading.waits_repair p s f d i n q (ltb-true _ _ g)))
            (apart (rw off) (record {
              at = record { marks = length_marks Record; heard = λ w. absurd (clash (sym w ∙ off)); low = a.low };
              more = stays Record;
              tells = λ m y. absurd y;
            }))
        go false g =
            let v = reading.low_round p s f d i n in
            subst (Turned p s k) (sym (reading.ends_repair p s f d i n q (ltb-false _ _ g)))
            (apart (rw off) (record {
              at = record { marks = length_marks Record; heard = λ w. (let y : ◌≡◌ {A = ℕ} 0 1 = cc in absurd (omega arith)); low = a.low };
              more = rw off (sym (add-zero s.round.number));
              tells = λ m y. (y, (omega arith));
            }))

  pub turned : Turned p s k (read_reply p s f d i)
  turned =
      subst (Turned p s k) (sym (reading.one_ladder p s f d i))
      (ladders.by_ladder (Turned p s k) (read_ladder p s f d (length i)) (λ (j : ℕ). outcome (refused j) s d i) _
      (λ j g. apart (side (is_asking s.round.stage)) (record { at = a; more = sym (add-zero (rounds_behind s)); tells = λ m y. absurd y }))
      (λ n. subst (Turned p s k) (reading.is_accepted p s f d i n) (go n (is_storing s.round.stage) refl)))
    where
      side : (x : Bool) → (x and false) ≡ false
      side true = refl
      side false = refl

      go : None (read_ladder p s f d (length i)) → (x : Bool) → is_storing s.round.stage ≡ x → Turned p s k (read_reply p s f d i)
      go n true q = in_repair n q
      go n false q = in_read n q

-- ---- a history
module _ (p : Plan) where
  -- what a reply left
  abbrev left : Turn → Outcome
  left t = outcome (said_of t.took.answer) t.took.session t.desk_left t.item_left

  -- the last answer reports n: the rounds behind s, x, and those that the replies us close
  abbrev Told : ℕ → Session → ℕ → ℕ → Session → List Turn → Type 0
  Told n s x k₂ s₂ us = (n ≡ rounds_behind s + (x + closed_rounds p k₂ s₂ us)) × (n ≤ p.w)

  onward : (s : Session) (k : ℕ) (t : Turn) (us : List Turn) (n : ℕ) → Turned p s k (left t)
      → ((x k₂ : ℕ) → Step p s k (left t) x k₂ → Told n s x k₂ t.took.session us) → (n ≡ rounds_behind s + closed_rounds p k s (t ∷ us)) × (n ≤ p.w)
  unfolding closed_rounds
  onward s k t us n (apart e w) f = let z = f 0 k w in rw e (omega (arith, z.0), z.1)
  onward s k t us n (more e g w) f = let z = f 0 (k + 1) w in rw (e, lt-leb (replies p) (k + 1) g) (omega (arith, z.0), z.1)
  onward s k t us n (last e g w) f = rw (e, le-leb (replies p) (k + 1) g) (f 1 0 w)

  -- the last answer, if it reports rounds, reports those closed before and those that the replies closed
  counts_all : (s : Session) (d : List ℕ) (k : ℕ) (t : Turn) (ts : List Turn) → At s k → Calls (ReadTurn p) s d (t ∷ ts) → (n : ℕ) → Reports (last_said t ts) n
      → (n ≡ rounds_behind s + closed_rounds p k s (t ∷ ts)) × (n ≤ p.w)
  counts_all s d k t [] a h n r =
      onward s k t [] n (subst (Turned p s k) (sym h.0.1.is) (turned p s t.reply d t.item k a))
      (λ x k₂ w. let y = w.tells n r in let z = w.more in unfold closed_rounds in (omega arith, y.1))
  counts_all s d k t (v ∷ us) a h n r =
      onward s k t (v ∷ us) n (subst (Turned p s k) (sym h.0.1.is) (turned p s t.reply d t.item k a))
      (λ x k₂ w. let y = counts_all t.took.session t.desk_left k₂ v us w.at h.1 n r in let z = w.more in (omega arith, y.1))

-- THE ROUNDS THAT A READ REPORTS ARE THOSE IT CLOSED, and at most W: from an accepted opening on, whatever replies come, late, damaged or
-- refused ones among them, with whatever desk and item buffers.
pub counted_rounds : (p : Plan) (a : Ask) (r : Opened) → OpenCall Read p a r → r.answer ≡ (Ok tt) → (d : List ℕ) (t : Turn) (ts : List Turn)
    → Calls (ReadTurn p) r.session d (t ∷ ts) → (n : ℕ) → Reports (last_said t ts) n → (n ≡ closed_rounds p 0 r.session (t ∷ ts)) × (n ≤ p.w)
unfolding rounds_behind heard_count
counted_rounds p a r call e d t ts h n q =
    let z = accepted_session Read p a r call e in
    let y = counts_all p r.session d 0 t ts (rw z (record { marks = refl; heard = λ w. refl; low = omega arith })) h n q in
    let b : rounds_behind r.session ≡ 0 = rw z in
    (omega (arith, y.0, b), y.1)
