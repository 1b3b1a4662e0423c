-- Replies that a round hears one after another, of a round of any kind.
--   Kind                 a round of one kind: its call, what an accepted reply leaves, what that comes to; and what is known of them
--   Hears hear           replies that it accepts together, not more than close it; what they come to
--   heard_so             replies that were accepted in their turn are such
--   at_opening in_turn   of a round that opens: accepted in their turn, and acceptable where it opens, one a node, say the same
--   any_order            in another order they come to the same, and every call answers as the call in its place
-- Assumes nothing.
use mathlib.Core.Path.{◌≡◌, refl, sym, ap, ◌∙◌, subst}
use mathlib.Core.Bool.{true, false}
use mathlib.Core.List.{List, [], ◌∷◌}
use Prim.{tt}
use Prim.Native.Nat.{ℕ, zero, suc, ◌+◌, ◌≤◌, ◌<◌}
use native.Mathlib.Omega.{arith}
use lib.Dec.{eqb}
use lib.ListN.{length, set, length-set}
use lib.Seq.{get_or-set_same, get_or-set_other}
use Rattle.terms.specs.declared.Plan.{Plan}
use Rattle.terms.proofs.Rungs.{clash}
use Rattle.frame.specs.Frame.{frame_node}
use Rattle.rounds.specs.declared.Heard.{Heard}
use Rattle.rounds.specs.Rounds.{heard_at, heard_count, bit_of, mark_of, unheard, unheards}
use Rattle.rounds.proofs.Laws.{count_set, not_heard}
use Rattle.session.specs.declared.Session.{Session}
use Rattle.standing.specs.Standing.{replies}
use Rattle.session.specs.Session.{Said, still_open, is_refused, round_open}
use Rattle.session.specs.Reply.{is_heard}
use Rattle.session.specs.Reader.{Outcome}
use Rattle.session.proofs.Rules.{few_open}
use Rattle.client.specs.Round.{ReplyCall, round_at, ending_by, said_by, open_until, Accepted, AcceptableBy, Each, OneANode, all_of, SameReplies}
use Rattle.client.proofs.Round.Swaps.{Reordered, swaps, length_kept, each_kept, one_kept}

pub each_map : (P Q : List ℕ → Type 0) → ((f : List ℕ) → P f → Q f) → (fs : List (List ℕ)) → Each P fs → Each Q fs
each_map P Q g [] a = tt
each_map P Q g (f ∷ fs) a = (g f a.0, each_map P Q g fs a.1)

each_both : (P Q : List ℕ → Type 0) (fs : List (List ℕ)) → Each P fs → Each Q fs → Each (λ (f : List ℕ). P f × Q f) fs
each_both P Q [] a b = tt
each_both P Q (f ∷ fs) a b = ((a.0, b.0), each_both P Q fs a.1 b.1)

-- ---- marks: a node is marked as heard, and no other
module _ (ms : List Heard) (k : ℕ) (h : Heard) (b : bit_of h ≡ 1) (low : k < length ms) where
  pub one_more : heard_at ms k ≡ false → heard_count (set ms k h) ≡ heard_count ms + 1
  one_more e = count_set ms k h low (not_heard (mark_of ms k) e) b ∙ omega arith

  now_heard : heard_at (set ms k h) k ≡ true
  now_heard = ap (λ (m : Heard). eqb (bit_of m) 1) (get_or-set_same ms k h unheard low) ∙ ap (λ (n : ℕ). eqb n 1) b

pub others_stay : (ms : List Heard) (k : ℕ) (h : Heard) (j : ℕ) → (j ≡ k → ⊥) → heard_at (set ms k h) j ≡ heard_at ms j
others_stay ms k h j n = ap (λ (m : Heard). eqb (bit_of m) 1) (get_or-set_other ms k j h unheard n)

-- ---- a round of one kind, under a plan, each call lent the item i
pub record Kind (p : Plan) (i : List ℕ) : Type 1 where
  pub call : ReplyCall
  -- the session is in such a round
  pub Asks : Session → Type 0
  -- an accepted reply leaves a mark; session and desk with it; and what these come to: open, or what ends the round
  pub mark : List ℕ → Heard
  pub after : Session → List ℕ → Session
  pub filed : List ℕ → List ℕ → List ℕ
  pub settles : Session → List ℕ → Outcome
  -- what is known of them
  pub bit : (f : List ℕ) → bit_of (mark f) ≡ 1
  pub marks : (s : Session) (f : List ℕ) → (after s f).marks ≡ set s.marks (frame_node f) (mark f)
  pub asks_on : (s : Session) (f : List ℕ) → Asks s → Asks (after s f)
  pub waits : (s : Session) (d : List ℕ) → round_open p s ≡ true → settles s d ≡ round_at s d i
  pub said_so : (s : Session) (d : List ℕ) → is_refused (settles s d).said ≡ false
  pub low : (s : Session) (d f : List ℕ) → Asks s → AcceptableBy call s d i f → frame_node f < 16
  pub fresh : (s : Session) (d f : List ℕ) → Asks s → AcceptableBy call s d i f → is_heard s (frame_node f) ≡ false
  pub accepts : (s : Session) (d f : List ℕ) → Asks s → AcceptableBy call s d i f → call s f d i ≡ settles (after s f) (filed d f)
  -- of two nodes' replies, the other is accepted behind the one exactly where it was accepted before it
  pub later : (s : Session) (d f g : List ℕ) → Asks s → AcceptableBy call s d i f → AcceptableBy call s d i g → (frame_node g ≡ frame_node f → ⊥)
      → round_open p (after s f) ≡ true → AcceptableBy call (after s f) (filed d f) i g
  pub before : (s : Session) (d f g : List ℕ) → Asks s → AcceptableBy call s d i f → AcceptableBy call (after s f) (filed d f) i g → (frame_node g ≡ frame_node f → ⊥)
      → AcceptableBy call s d i g
  pub same : (s : Session) (d f : List ℕ) (fs gs : List (List ℕ)) → Asks s → Reordered (f ∷ fs) gs → Each (AcceptableBy call s d i) (f ∷ fs) → OneANode (f ∷ fs)
      → settles (all_of after s (f ∷ fs)) (all_of filed d (f ∷ fs)) ≡ settles (all_of after s gs) (all_of filed d gs)

-- ---- replies that are heard one after another
module _ (p : Plan) (i : List ℕ) (k : Kind p i) where
  abbrev Ok : Session → List ℕ → List ℕ → Type 0
  Ok s d f = AcceptableBy k.call s d i f

  abbrev Apart : List ℕ → List ℕ → Type 0
  Apart f z = frame_node z ≡ frame_node f → ⊥

  -- such a round, and replies that it accepts: not more than close it
  pub record Hears (s : Session) (d : List ℕ) (fs : List (List ℕ)) : Type 0 where
    pub asks : k.Asks s
    pub long : length s.marks ≡ 16
    pub each : Each (Ok s d) fs
    pub one : OneANode fs
    pub few : heard_count s.marks + length fs ≤ replies p

  -- what an accepted reply leaves: one mark more
  module _ (s : Session) (d f : List ℕ) (l : length s.marks ≡ 16) (q : k.Asks s) (a : Ok s d f) where
    in_marks : frame_node f < length s.marks
    in_marks = omega (arith, k.low s d f q a)

    counted : heard_count (k.after s f).marks ≡ heard_count s.marks + 1
    unfolding is_heard
    counted = ap heard_count (k.marks s f) ∙ one_more s.marks (frame_node f) (k.mark f) (k.bit f) in_marks (k.fresh s d f q a)

    longer : length (k.after s f).marks ≡ 16
    longer = ap length (k.marks s f) ∙ length-set s.marks (frame_node f) (k.mark f) ∙ l

    -- so what is accepted behind it is of another node
    apart : (z : List ℕ) → Ok (k.after s f) (k.filed d f) z → Apart f z
    unfolding is_heard
    apart z c e =
        let m : heard_at (k.after s f).marks (frame_node f) ≡ true =
        ap (λ (ms : List Heard). heard_at ms (frame_node f)) (k.marks s f) ∙ now_heard s.marks (frame_node f) (k.mark f) (k.bit f) in_marks in
        clash (sym m ∙ ap (heard_at (k.after s f).marks) (sym e) ∙ k.fresh (k.after s f) (k.filed d f) z (k.asks_on s f q) c)

  -- a reply that is not the last leaves the round open, for the others
  module _ (s : Session) (d f g : List ℕ) (fs : List (List ℕ)) (l : length s.marks ≡ 16)
      (few : heard_count s.marks + length (f ∷ g ∷ fs) ≤ replies p) (q : k.Asks s) (a : Ok s d f) where
    open_so : round_open p (k.after s f) ≡ true
    open_so = few_open p (k.after s f) (omega (arith, counted s d f l q a))

    step : k.call s f d i ≡ round_at (k.after s f) (k.filed d f) i
    step = k.accepts s d f q a ∙ k.waits (k.after s f) (k.filed d f) open_so

    rest : Each (Ok s d) (g ∷ fs) → OneANode (f ∷ g ∷ fs) → Hears (k.after s f) (k.filed d f) (g ∷ fs)
    rest b o =
        record {
          asks = k.asks_on s f q;
          long = longer s d f l q a;
          each = each_map (λ (z : List ℕ). Ok s d z × Apart f z) (Ok (k.after s f) (k.filed d f)) (λ z c. k.later s d f z q a c.0 c.1 open_so) (g ∷ fs)
              (each_both (Ok s d) (Apart f) (g ∷ fs) b o.0);
          one = o.1;
          few = omega (arith, counted s d f l q a);
        }

    back : Hears (k.after s f) (k.filed d f) (g ∷ fs) → Hears s d (f ∷ g ∷ fs)
    back h =
        record {
          asks = q;
          long = l;
          each = (a, each_map (Ok (k.after s f) (k.filed d f)) (Ok s d) (λ z c. k.before s d f z q a c (apart s d f l q a z c)) (g ∷ fs) h.each);
          one = (each_map (Ok (k.after s f) (k.filed d f)) (Apart f) (apart s d f l q a) (g ∷ fs) h.each, h.one);
          few = few;
        }

  -- what all replies come to
  abbrev pub last : Session → List ℕ → List (List ℕ) → Outcome
  last s d fs = k.settles (all_of k.after s fs) (all_of k.filed d fs)

  -- all but the last leave it open
  pub record Ran (s : Session) (d f : List ℕ) (fs : List (List ℕ)) : Type 0 where
    pub ends : ending_by k.call (round_at s d i) (f ∷ fs) ≡ last s d (f ∷ fs)
    pub said : said_by k.call (round_at s d i) (f ∷ fs) ≡ open_until (length fs) (last s d (f ∷ fs)).said
    pub count : heard_count (all_of k.after s (f ∷ fs)).marks ≡ heard_count s.marks + length (f ∷ fs)

  pub hear : (f : List ℕ) (fs : List (List ℕ)) (s : Session) (d : List ℕ) → Hears s d (f ∷ fs) → Ran s d f fs
  unfolding ending_by said_by all_of
  hear f [] s d h =
      let e = k.accepts s d f h.asks h.each.0 in
      record { ends = e; said = ap (λ (o : Outcome). o.said ∷ []) e; count = counted s d f h.long h.asks h.each.0 }
  hear f (g ∷ fs) s d h =
      let e = step s d f g fs h.long h.few h.asks h.each.0 in
      let c = counted s d f h.long h.asks h.each.0 in
      let r = hear g fs (k.after s f) (k.filed d f) (rest s d f g fs h.long h.few h.asks h.each.0 h.each.1 h.one) in
      record {
        ends = ap (λ (o : Outcome). ending_by k.call o (g ∷ fs)) e ∙ r.ends;
        said = ap (λ (o : Outcome). o.said ∷ said_by k.call o (g ∷ fs)) e ∙ ap (λ (l : List Said). still_open ∷ l) r.said;
        count = r.count ∙ omega (arith, c);
      }

  -- replies that were accepted in their turn
  heard_so : (f : List ℕ) (fs : List (List ℕ)) (s : Session) (d : List ℕ) → k.Asks s → length s.marks ≡ 16
      → heard_count s.marks + length (f ∷ fs) ≤ replies p → Accepted (said_by k.call (round_at s d i) (f ∷ fs)) → Hears s d (f ∷ fs)
  unfolding said_by
  heard_so f [] s d q l few a = record { asks = q; long = l; each = (a.0, tt); one = (tt, tt); few = few }
  heard_so f (g ∷ fs) s d q l few a =
      let b : Accepted (said_by k.call (round_at (k.after s f) (k.filed d f) i) (g ∷ fs)) =
      subst (λ (o : Outcome). Accepted (said_by k.call o (g ∷ fs))) (step s d f g fs l few q a.0) a.1 in
      back s d f g fs l few q a.0
      (heard_so g fs (k.after s f) (k.filed d f) (k.asks_on s f q) (longer s d f l q a.0) (omega (arith, counted s d f l q a.0)) b)

  open_accepted : (n : ℕ) (a : Said) → is_refused a ≡ false → Accepted (open_until n a)
  open_accepted zero a e = (e, tt)
  open_accepted (suc n) a e = (refl, open_accepted n a e)

  -- ---- a round that opens
  module _ (s : Session) (d : List ℕ) (q : k.Asks s) (none : s.marks ≡ unheards) where
    pub none_heard : heard_count s.marks ≡ 0
    unfolding heard_count
    none_heard = rw none

    pub hears : (f : List ℕ) (fs : List (List ℕ)) → length (f ∷ fs) ≤ replies p → Accepted (said_by k.call (round_at s d i) (f ∷ fs)) → Hears s d (f ∷ fs)
    hears f fs few a = heard_so f fs s d q (rw none) (omega (arith, none_heard)) a

    pub at_opening : (fs : List (List ℕ)) → length fs ≤ replies p → Accepted (said_by k.call (round_at s d i) fs) → Each (Ok s d) fs × OneANode fs
    at_opening [] few a = (tt, tt)
    at_opening (f ∷ fs) few a = let h = hears f fs few a in (h.each, h.one)

    pub in_turn : (fs : List (List ℕ)) → length fs ≤ replies p → Each (Ok s d) fs → OneANode fs → Accepted (said_by k.call (round_at s d i) fs)
    unfolding said_by
    in_turn [] few a o = tt
    in_turn (f ∷ fs) few a o =
        let h = hear f fs s d (record { asks = q; long = rw none; each = a; one = o; few = omega (arith, none_heard) }) in
        subst Accepted (sym h.said) (open_accepted (length fs) (last s d (f ∷ fs)).said (k.said_so (all_of k.after s (f ∷ fs)) (all_of k.filed d (f ∷ fs))))

    pub any_order : (fs gs : List (List ℕ)) → length fs ≤ replies p → Accepted (said_by k.call (round_at s d i) fs) → SameReplies fs gs
        → (ending_by k.call (round_at s d i) gs ≡ ending_by k.call (round_at s d i) fs) × (said_by k.call (round_at s d i) gs ≡ said_by k.call (round_at s d i) fs)
    unfolding ending_by said_by
    any_order [] [] few a e = (refl, refl)
    any_order [] (g ∷ gs) few a e = absurd (omega (arith, length_kept (swaps [] (g ∷ gs) e)))
    any_order (f ∷ fs) [] few a e = absurd (omega (arith, length_kept (swaps (f ∷ fs) [] e)))
    any_order (f ∷ fs) (g ∷ gs) few a e =
        let r = swaps (f ∷ fs) (g ∷ gs) e in
        let n : length gs ≡ length fs = omega (arith, length_kept r) in
        let h = hears f fs few a in
        let x = hear f fs s d h in
        let y = hear g gs s d (record { asks = q; long = h.long; each = each_kept (Ok s d) r h.each; one = one_kept r h.one; few = omega (arith, n, h.few) }) in
        let z : last s d (g ∷ gs) ≡ last s d (f ∷ fs) = sym (k.same s d f fs (g ∷ gs) q r h.each h.one) in
        (y.ends ∙ z ∙ sym x.ends, y.said ∙ (λ j. open_until (n j) (z j).said) ∙ sym x.said)
