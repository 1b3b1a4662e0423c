-- Laws for runs that are given call by call: whose requests they are, and who wrote which reply.
--   stands_between     wherever an operation of ours stands, its ask number is its opening one or at most W above it
--   not_owed other_ask own_ask   a frame of another ask number is no request of it, and so none that it must have owed; one that it owed
--   owes_at            where it stands and nothing is refused, what its round asks of a node is a request of it
--   wrote_so           a call wrote the frame that it replied with
--   from_honest from_liar   a reply under the number of an honest node, which that node wrote; one under the liar's
-- Assumes nothing.
use Prim.{tt}
use Prim.Native.Nat.{ℕ, ◌+◌, ◌*◌, ◌^◌, ◌≤◌, ◌<◌}
use mathlib.Core.Path.{◌≡◌, refl, sym, ap, ◌∙◌, subst}
use mathlib.Core.Bool.{true, false}
use mathlib.Core.List.{List, [], ◌∷◌, ◌++◌}
use mathlib.Core.Logic.{◌⊎◌, inl, inr}
use native.Mathlib.Omega.{arith}
use lib.ListN.{length}
use Rattle.octets.specs.Bytes.{over}
use Rattle.terms.specs.Ladder.{None}
use Rattle.terms.specs.Terms.{record_length}
use Rattle.terms.specs.declared.Plan.{Plan}
use Rattle.terms.proofs.Ladders.{is_passed}
use Rattle.terms.proofs.Rungs.{clash}
use Rattle.frame.specs.Frame.{ask_of, frame_node, frame, header_of}
use Rattle.frame.proofs.Built as built
use Rattle.standing.specs.declared.Operation.{Operation}
use Rattle.standing.specs.declared.Operation.TheVariants.{Write, Read}
use Rattle.standing.specs.Standing.{is_ended}
use Rattle.session.specs.declared.Session.{Session}
use Rattle.session.specs.Session.{ask_now}
use Rattle.session.specs.Owed.{owed_ladder, request_of, refused, written, dues, owed_to}
use Rattle.store.specs.History.{Call, Wrote}
use Rattle.store.proofs.Replies.{cut_off}
use Rattle.client.specs.Sessions.{last_session, last_desk}
use Rattle.client.specs.Turns.{Turn, EitherTurn, Calls, Takes}
use Rattle.client.specs.Repair.{EachTurn}
use Rattle.client.proofs.Asks.{asks_between}
use Rattle.safety.specs.Run.{Met, Ours, Stands, Owes}
use Rattle.safety.proofs.Rounds.{calls_of}
use Rattle.safety.proofs.Requests.{owned}
use Rattle.safety.proofs.Instances.Nodes.{buffer, spoke}
use Rattle.safety.proofs.Instances.Lives.{honest}

-- ---- the ask numbers of an operation
eithers : (op : Operation) (p : Plan) (s : Session) (d : List ℕ) (ts : List Turn) → Calls (Met op p) s d ts → Calls (EitherTurn p) s d ts
eithers op p s d [] h = tt
eithers Read p s d (t ∷ ts) h = (inr h.0, eithers Read p t.took.session t.desk_left ts h.1)
eithers Write p s d (t ∷ ts) h = (inl h.0, eithers Write p t.took.session t.desk_left ts h.1)

-- a request with the ask number of a round that the operation was in is one that it owed
abbrev pub Asked : {op : Operation} {p : Plan} → Ours op p → List ℕ → Type 0
Asked o f = (s : Session) (d : List ℕ) → Stands o s d → is_ended s.round.stage ≡ false → ask_of f ≡ ask_now s → Owes o f

module _ {op : Operation} {p : Plan} (o : Ours op p) (long : length o.desk ≡ p.n * record_length p) where
  pub stands_between : (s : Session) (d : List ℕ) → Stands o s d → (o.ask.0 ≤ ask_now s) × (ask_now s ≤ o.ask.0 + p.w)
  stands_between s d x =
      let h = calls_of (Met op p) o.opened.session o.desk x.before x.after (subst (Calls (Met op p) o.opened.session o.desk) x.is o.calls) in
      subst (λ (u : Session). (o.ask.0 ≤ ask_now u) × (ask_now u ≤ o.ask.0 + p.w)) (sym x.session)
      (asks_between op p o.ask o.opened o.opens o.accepted o.desk long x.before (eithers op p o.opened.session o.desk x.before h))

  abbrev Outside : ℕ → Type 0
  Outside ask = (ask < o.ask.0) ⊎ (o.ask.0 + p.w < ask)

  outside : (ask : ℕ) → Outside ask → (s : Session) (d : List ℕ) → Stands o s d → ask ≡ ask_now s → ⊥
  outside ask (inl l) s d x e = let b = stands_between s d x in omega arith
  outside ask (inr l) s d x e = let b = stands_between s d x in omega arith

  module _ (kind node ask : ℕ) (body : List ℕ) (low : ask < 256 ^ 8) (other : Outside ask) where
    pub not_owed : Owes o (frame kind node ask body) → ⊥
    not_owed w =
        let q = owned o (frame kind node ask body) w in
        outside ask other q.session q.desk q.stands (sym (built.ask_frame (header_of kind node ask) body low) ∙ q.ask)

    pub other_ask : Asked o (frame kind node ask body)
    other_ask s d x g e = absurd (outside ask other s d x (sym (built.ask_frame (header_of kind node ask) body low) ∙ e))

-- ---- a request of it
module _ {op : Operation} {p : Plan} (o : Ours op p) where
  pub own_ask : (f : List ℕ) → Owes o f → Asked o f
  own_ask f w s d x g e = w

  module _ (a b : List Turn) (is : o.turns ≡ a ++ b) where
    abbrev at : Session
    at = last_session o.opened.session a

    abbrev desk : List ℕ
    desk = last_desk o.desk a

    pub owes_at : (i : ℕ) → None (owed_ladder p at i desk (length buffer)) → (f : List ℕ) → request_of p at i desk ≡ f → Owes o f
    unfolding owed_to
    owes_at i none f e =
        let g = request_of p at i desk in
        record {
          session = at;
          desk = desk;
          stands = record { before = a; after = b; is = is; session = refl; desk = refl };
          node = i;
          buffer = buffer;
          size = length g;
          left = over g buffer;
          owed = record { is = sym (is_passed (owed_ladder p at i desk (length buffer)) (λ (k : ℕ). dues (refused k) buffer) (dues (written (length g)) (over g buffer)) none) };
          is = sym e ∙ sym (cut_off g buffer (over g buffer) (length g) refl refl);
        }

-- ---- who wrote a reply
-- two lists of calls, one after the other
pub each_of : (P : Turn → Type 0) (a b : List Turn) → EachTurn P a → EachTurn P b → EachTurn P (a ++ b)
each_of P [] b x y = y
each_of P (t ∷ a) b x y = (x.0, each_of P a b x.1 y)

-- the reply of a call, where it is taken under the number of an honest node, was written in this part of its life
abbrev pub Own : (ℕ → List Call) → Turn → Type 0
Own part t = Takes t → honest (frame_node t.reply) ≡ true → Wrote t.reply (part (frame_node t.reply))

pub wrote_so : (before after : List Call) (f g b : List ℕ) (n : ℕ) → length g ≡ n → Wrote g (before ++ (spoke f g b n ∷ after))
wrote_so before after f g b n l =
    record { at = record { before = before; call = spoke f g b n; after = after; is = refl }; size = n; replied = refl; is = sym (cut_off g buffer (over g buffer) n refl (sym l)) }

module _ (part : ℕ → List Call) (kind ask : ℕ) (body : List ℕ) where
  pub from_honest : (i : ℕ) → i < 256 → Wrote (frame kind i ask body) (part i) → honest (frame_node (frame kind i ask body)) ≡ true
      → Wrote (frame kind i ask body) (part (frame_node (frame kind i ask body)))
  from_honest i l w h = subst (λ (k : ℕ). Wrote (frame kind i ask body) (part k)) (sym (built.node_frame (header_of kind i ask) body l)) w

  pub from_liar : honest (frame_node (frame kind 4 ask body)) ≡ true → Wrote (frame kind 4 ask body) (part (frame_node (frame kind 4 ask body)))
  from_liar h = absurd (clash (sym (ap (λ (k : ℕ). honest k) (sym (built.node_frame (header_of kind 4 ask) body (omega arith))) ∙ h)))
