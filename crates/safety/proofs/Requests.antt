-- WHAT A REQUEST OF AN OPERATION IS: what its round asks, under its round's ask number (owned). A reply of an honest node that has the ask number of the open round
-- was written for a request of that round (own_request). Assumes nothing.
use Prim.Native.Nat.{ℕ, ◌<◌, ◌^◌}
use mathlib.Core.Path.{◌≡◌, sym, ap, ◌∙◌, subst}
use mathlib.Core.Bool.{true, false}
use mathlib.Core.List.{List, []}
use Rattle.octets.specs.Bytes.{be}
use Rattle.terms.specs.Stamp.{stamp_number}
use Rattle.terms.specs.declared.Plan.{Plan}
use Rattle.frame.specs.Frame.{ask_of, header_of, time_request_kind, write_request_kind, read_latest_kind, read_previous_kind}
use Rattle.frame.proofs.Built as built
use Rattle.record.specs.Desk.{slot_of}
use Rattle.standing.specs.declared.Operation.{Operation}
use Rattle.standing.specs.Standing.{is_ended}
use Rattle.session.specs.declared.Session.{Session}
use Rattle.session.specs.Session.{ask_now}
use Rattle.session.specs.Owed.{request_of}
use Rattle.store.specs.History.{Wrote}
use Rattle.store.proofs.Lives.{each_one}
use Rattle.report.proofs.Exchange as exchange
use Rattle.report.proofs.Exchange.{time_due, latest_due, previous_due, record_due}
use Rattle.safety.specs.Run.{Nodes, life_of, Ours, Stands, Owes}
use Rattle.safety.specs.Safety.{HonestLives, OwnAsks}
use Rattle.safety.proofs.Rounds.{OneRound, one_round}
use Rattle.safety.proofs.Answers.{wrote_ask}

pub record Own {op : Operation} {p : Plan} (o : Ours op p) (f : List ℕ) : Type 0 where
  pub session : Session
  pub desk : List ℕ
  pub stands : Stands o session desk
  pub going : is_ended session.round.stage ≡ false
  pub node : ℕ
  pub low : node < p.n
  pub due : exchange.Owes p session node desk f
  pub ask : ask_of f ≡ ask_now session

pub owned : {op : Operation} {p : Plan} (o : Ours op p) (f : List ℕ) → Owes o f → Own o f
owned {op} {p} o f w =
    let x = exchange.was_written p w.session w.node w.desk w.buffer w.size w.left w.owed in
    let e : f ≡ request_of p w.session w.node w.desk = w.is ∙ x.is in
    let d = subst (exchange.Owes p w.session w.node w.desk) (sym e) (exchange.owes p w.session w.node w.desk) in
    record { session = w.session; desk = w.desk; stands = w.stands; going = x.going; node = w.node; low = x.low; due = d; ask = asks w.session w.node w.desk x.ask d }
  where
    asks : (s : Session) (S : ℕ) (d : List ℕ) → ask_now s < 256 ^ 8 → exchange.Owes p s S d f → ask_of f ≡ ask_now s
    asks s S d l (time_due a b e) = ap ask_of e ∙ built.ask_frame (header_of time_request_kind S (ask_now s)) [] l
    asks s S d l (latest_due a b c e) = ap ask_of e ∙ built.ask_frame (header_of read_latest_kind S (ask_now s)) [] l
    asks s S d l (previous_due a b u c e) = ap ask_of e ∙ built.ask_frame (header_of read_previous_kind S (ask_now s)) (be 40 (stamp_number u)) l
    asks s S d l (record_due a e) = ap ask_of e ∙ built.ask_frame (header_of write_request_kind S (ask_now s)) (slot_of p d S) l

-- a reply of an honest node: the request that it was written for, which was owed in the round that is open
pub record Answered {op : Operation} {p : Plan} (o : Ours op p) (s : Session) (d f : List ℕ) : Type 0 where
  pub owes : Owes o f
  pub own : Own o f
  pub one : OneRound s d own.session own.desk

pub own_request : {op : Operation} {p : Plan} (N : Nodes) (o : Ours op p) → HonestLives p N → OwnAsks N o → (s : Session) (d : List ℕ) → Stands o s d → is_ended s.round.stage ≡ false
    → (i : ℕ) → i < p.n → N.honest i ≡ true → (f : List ℕ) (w : Wrote f (life_of N i)) → ask_of f ≡ ask_now s → Answered o s d w.at.call.request
own_request {op} {p} N o lives asks s d here going i low h f w q =
    let ask : ask_of w.at.call.request ≡ ask_now s = sym (wrote_ask p i (life_of N i) (lives i low h) f w) ∙ q in
    let owes : Owes o w.at.call.request = each_one _ (life_of N i) (asks i low h) w.at s d here going ask in
    let own = owned o w.at.call.request owes in
    record { owes = owes; own = own; one = one_round o s own.session d own.desk here own.stands going own.going (sym ask ∙ own.ask) }
