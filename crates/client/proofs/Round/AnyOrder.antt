-- The third demand, for read rounds. "From one session, desk and sheet buffer, a read round that opens there and hears the same N - t
-- acceptable replies, one a node, ends alike in whichever order they come."
--   in_turn, at_opening   the two readings of "acceptable replies, one a node" say the same: each is accepted where the round opens, and no two
--                         are of one node; each is accepted in its turn, in one order
--   closes                at the last of N-t such replies, and not before, the round closes, on the marks and the slots that they leave
--   any_order_read        the same replies in another order: the same answer, session, desk and item
--   any_order_answers     and the same answers in turn; any_order_accepted: none of them is a refusal
--   any_order_acceptable  the demand as it is worded
-- Run.antt has the proof, for rounds of any kind; here it is said of read rounds (reads).
-- Assumes nothing.
use mathlib.Core.Path.{◌≡◌, refl, sym, ◌∙◌, subst}
use mathlib.Core.Bool.{true}
use mathlib.Core.List.{List, [], ◌∷◌}
use Prim.Native.Nat.{ℕ, suc, ◌-◌, ◌≤◌, ◌<◌}
use native.Mathlib.Omega.{arith}
use lib.ListN.{length}
use Rattle.terms.specs.declared.Plan.{Plan}
use Rattle.terms.specs.Terms.{plan_ok}
use Rattle.terms.proofs.Facts.{facts}
use Rattle.frame.specs.Frame.{frame_node}
use Rattle.rounds.specs.Rounds.{heard_count}
use Rattle.session.specs.declared.Session.{Session}
use Rattle.standing.specs.Standing.{replies}
use Rattle.standing.proofs.Rules.{lengths_are}
use Rattle.session.specs.Session.{read_round, round_open}
use Rattle.session.specs.Reader.{acted, closed, settled, read_reply}
use Rattle.session.proofs.Rules.{many_over}
use Rattle.client.specs.Endings.{heard_as, after_reply, desk_after}
use Rattle.client.specs.Round.{round_at, ending, said_in_turn, open_until, RoundOpens, Accepted, Acceptable, Each, OneANode, all_marked, all_slotted, SameReplies}
use Rattle.client.proofs.Round.Run.{each_map, Kind}
use Rattle.client.proofs.Round.Run as run
use Rattle.client.proofs.Round.Order.{same_marks, same_slots}
use Rattle.client.proofs.Round.Reply.{taken, accepts, acceptable, settled_taken}
use Rattle.client.proofs.Round.Kept.{bit_mark, heard_other, fits_later, fits_before, low, low_16, next}

-- ---- a read round, of the kinds of round
settled_open : (p : Plan) (s : Session) (d i : List ℕ) → round_open p s ≡ true → settled p s d i ≡ round_at s d i
unfolding settled
settled_open p s d i h = rw h

settled_closed : (p : Plan) (s : Session) (d i : List ℕ) → replies p ≤ heard_count s.marks → settled p s d i ≡ acted p s (closed p s d) d i
unfolding settled
settled_closed p s d i h = rw (many_over p s h)

abbrev reads : (p : Plan) (i : List ℕ) → Kind p i
reads p i =
    record {
      call = read_reply p;
      Asks = λ s. read_round s ≡ true;
      mark = heard_as p;
      after = after_reply p;
      filed = λ d f. desk_after p f d;
      settles = λ s d. settled p s d i;
      bit = bit_mark p;
      marks = λ s f. refl;
      asks_on = λ s f q. q;
      waits = λ s d h. settled_open p s d i h;
      said_so = λ s d. settled_taken p s d i;
      low = λ s d f q a. low_16 p s f d i (taken p s f d i q a);
      fresh = λ s d f q a. (taken p s f d i q a).fresh;
      accepts = λ s d f q a. accepts p s f d i (taken p s f d i q a);
      later = λ s d f g q a b n o. (
          let c = taken p s g d i q b in
          acceptable p (after_reply p s f) g (desk_after p f d) i (record {
            ready = next p s f d i (taken p s f d i q a) o;
            fits = fits_later p s (frame_node f) (heard_as p f) g c.fits;
            fresh = heard_other p s f (frame_node g) n ∙ c.fresh;
          }));
      before = λ s d f g q a b n. (
          let c = taken p (after_reply p s f) g (desk_after p f d) i q b in
          acceptable p s g d i (record {
            ready = (taken p s f d i q a).ready;
            fits = fits_before p s (frame_node f) (heard_as p f) g c.fits;
            fresh = sym (heard_other p s f (frame_node g) n) ∙ c.fresh;
          }));
      same = λ s d f fs gs q r a o. (
          let l = (lengths_are p (length d) (length i) (taken p s f d i q a.0).ready.lengths).desk_is in
          let h = each_map (Acceptable p s d i) (λ (z : List ℕ). frame_node z < p.n) (λ z e. low p s z d i (taken p s z d i q e)) (f ∷ fs) a in
          (λ j. settled p (same_marks p r s o j) (same_slots p r d l o h j) i));
    }

less : (n : ℕ) → n ≡ suc n - 1
less n = omega arith

module _ (p : Plan) (s : Session) (d i : List ℕ) (open_so : RoundOpens s) where
  -- Replies that are accepted in their turn are of different nodes, and each would be accepted as the first.
  pub at_opening : (fs : List (List ℕ)) → length fs ≤ replies p → Accepted (said_in_turn p (round_at s d i) fs) → Each (Acceptable p s d i) fs × OneANode fs
  at_opening fs few a = run.at_opening p i (reads p i) s d open_so.round open_so.marks fs few a

  -- And replies of different nodes, each of which would be accepted as the first, are accepted in their turn.
  pub in_turn : (fs : List (List ℕ)) → length fs ≤ replies p → Each (Acceptable p s d i) fs → OneANode fs → Accepted (said_in_turn p (round_at s d i) fs)
  in_turn fs few a o = run.in_turn p i (reads p i) s d open_so.round open_so.marks fs few a o

  -- At the last of N-t such replies the round closes: every answer before it is "open", and it comes to what the reader makes of the close
  -- of the marks and the slots that all of them leave.
  pub record Closes (fs : List (List ℕ)) : Type 0 where
    pub ends : ending p (round_at s d i) fs ≡ acted p (all_marked p s fs) (closed p (all_marked p s fs) (all_slotted p d fs)) (all_slotted p d fs) i
    pub said : said_in_turn p (round_at s d i) fs ≡ open_until (length fs - 1) (ending p (round_at s d i) fs).said

  pub closes : (fs : List (List ℕ)) → plan_ok p ≡ true → length fs ≡ replies p → Accepted (said_in_turn p (round_at s d i) fs) → Closes fs
  closes [] ok size a = let z = facts p ok in absurd (omega arith)
  closes (f ∷ fs) ok size a =
      let h = run.hear p i (reads p i) f fs s d (run.hears p i (reads p i) s d open_so.round open_so.marks f fs (omega arith) a) in
      let z = run.none_heard p i (reads p i) s d open_so.round open_so.marks in
      record {
        ends = h.ends ∙ settled_closed p (all_marked p s (f ∷ fs)) (all_slotted p d (f ∷ fs)) i (omega (arith, h.count, z));
        said = h.said ∙ (λ j. open_until (less (length fs) j) (sym h.ends j).said);
      }

  -- The third demand, for read rounds: N-t replies that are accepted in their turn end the round alike in every other order, with the same
  -- answer, its timestamp and its rounds, and the same session, desk and item. It holds of fewer too, which leave the round open.
  pub any_order_read : (fs gs : List (List ℕ)) → length fs ≤ replies p → Accepted (said_in_turn p (round_at s d i) fs) → SameReplies fs gs
      → ending p (round_at s d i) gs ≡ ending p (round_at s d i) fs
  any_order_read fs gs few a e = (run.any_order p i (reads p i) s d open_so.round open_so.marks fs gs few a e).0

  -- The calls answer alike in turn; so none of the replies is refused in the other order either.
  pub any_order_answers : (fs gs : List (List ℕ)) → length fs ≤ replies p → Accepted (said_in_turn p (round_at s d i) fs) → SameReplies fs gs
      → said_in_turn p (round_at s d i) gs ≡ said_in_turn p (round_at s d i) fs
  any_order_answers fs gs few a e = (run.any_order p i (reads p i) s d open_so.round open_so.marks fs gs few a e).1

  pub any_order_accepted : (fs gs : List (List ℕ)) → length fs ≤ replies p → Accepted (said_in_turn p (round_at s d i) fs) → SameReplies fs gs
      → Accepted (said_in_turn p (round_at s d i) gs)
  any_order_accepted fs gs few a e = subst Accepted (sym (any_order_answers fs gs few a e)) a

  -- The same in the customer's words: acceptable where the round opens, one a node.
  pub any_order_acceptable : (fs gs : List (List ℕ)) → length fs ≡ replies p → Each (Acceptable p s d i) fs → OneANode fs → SameReplies fs gs
      → ending p (round_at s d i) gs ≡ ending p (round_at s d i) fs
  any_order_acceptable fs gs size a o e = any_order_read fs gs (omega arith) (in_turn fs (omega arith) a o) e
