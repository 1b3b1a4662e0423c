-- The third demand for read rounds, of the calls themselves: whatever calls met their contracts, each on the session, the desk and the item
-- that the one before it left (any_order_calls); and as the demand is worded, of N-t replies that are acceptable where the round opens, one a
-- node (any_order_acceptable_calls). Assumes nothing.
use mathlib.Core.Path.{◌≡◌, refl, sym, ap, ◌∙◌, subst}
use mathlib.Core.List.{List, [], ◌∷◌}
use Prim.Native.Nat.{ℕ, ◌≤◌}
use native.Mathlib.Omega.{arith}
use lib.ListN.{length}
use Rattle.terms.specs.declared.Plan.{Plan}
use Rattle.session.specs.declared.Session.{Session}
use Rattle.standing.specs.Standing.{replies}
use Rattle.session.specs.Session.{Said, said_of}
use Rattle.session.specs.Reader.{Outcome, outcome, read_reply}
use Rattle.client.specs.Turns.{Turn, ReadTurn, Calls}
use Rattle.client.specs.Round.{round_at, ending_by, said_by, ending, said_in_turn, RoundOpens, Accepted, Acceptable, Each, OneANode, SameReplies, Lent, replies_of, answers_of, left_by}
use Rattle.client.proofs.Round.AnyOrder.{in_turn, any_order_read, any_order_answers}

-- what calls that met their contracts leave and answer is what the definition gives
calls_are : (p : Plan) (ts : List Turn) (o : Outcome) → Calls (ReadTurn p) o.session o.desk ts → Lent o.item ts
    → (left_by o ts ≡ ending p o (replies_of ts)) × (answers_of ts ≡ said_in_turn p o (replies_of ts))
unfolding ending_by said_by
calls_are p [] o h l = (refl, refl)
calls_are p (t ∷ ts) o h l =
    let u : Outcome = outcome (said_of t.took.answer) t.took.session t.desk_left t.item_left in
    let e : u ≡ read_reply p o.session t.reply o.desk o.item = h.0.1.is ∙ ap (read_reply p o.session t.reply o.desk) l.0 in
    let r = calls_are p ts u h.1 l.1 in (
      r.0 ∙ ap (λ (x : Outcome). ending p x (replies_of ts)) e,
      ap (λ (x : List Said). u.said ∷ x) r.1 ∙ ap (λ (x : Outcome). x.said ∷ said_in_turn p x (replies_of ts)) e,
    )

-- Two runs of calls on a read round that opens, over the same replies and at most N-t of them: if none was refused in the one, the other
-- left the same answer, session, desk and item, and every call of it answered as the call in its place.
pub any_order_calls : (p : Plan) (s : Session) (d i : List ℕ) (ts us : List Turn) → RoundOpens s → Calls (ReadTurn p) s d ts → Lent i ts → Calls (ReadTurn p) s d us
    → Lent i us → length (replies_of ts) ≤ replies p → Accepted (answers_of ts) → SameReplies (replies_of ts) (replies_of us)
    → (left_by (round_at s d i) us ≡ left_by (round_at s d i) ts) × (answers_of us ≡ answers_of ts)
any_order_calls p s d i ts us q ht lt hu lu few a e =
    let x = calls_are p ts (round_at s d i) ht lt in
    let y = calls_are p us (round_at s d i) hu lu in
    let b : Accepted (said_in_turn p (round_at s d i) (replies_of ts)) = subst Accepted x.1 a in (
      y.0 ∙ any_order_read p s d i q (replies_of ts) (replies_of us) few b e ∙ sym x.0,
      y.1 ∙ any_order_answers p s d i q (replies_of ts) (replies_of us) few b e ∙ sym x.1,
    )

-- The same in the customer's words.
pub any_order_acceptable_calls : (p : Plan) (s : Session) (d i : List ℕ) (ts us : List Turn) → RoundOpens s → Calls (ReadTurn p) s d ts → Lent i ts → Calls (ReadTurn p) s d us
    → Lent i us → length (replies_of ts) ≡ replies p → Each (Acceptable p s d i) (replies_of ts) → OneANode (replies_of ts) → SameReplies (replies_of ts) (replies_of us)
    → (left_by (round_at s d i) us ≡ left_by (round_at s d i) ts) × (answers_of us ≡ answers_of ts)
any_order_acceptable_calls p s d i ts us q ht lt hu lu size a o e =
    any_order_calls p s d i ts us q ht lt hu lu (omega arith)
    (subst Accepted (sym (calls_are p ts (round_at s d i) ht lt).1) (in_turn p s d i q (replies_of ts) (omega arith) a o)) e
