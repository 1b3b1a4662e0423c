-- What our client sends, against the SEND lines of the figures: line 4 of READ_TIMESTAMP, DO_WRITE and DO_READ send to the storage-nodes that are not
-- in the response set. (01) A request bears an ask number; the frame that is owed to one node is asked for by a call.
--   read_frame          the frame of what DO_READ sends
--   SendsOwn           a write request with the node's own member of what DO_WRITE sends
--   Commands           what READ has to send to a node, by what it has come to; nothing where it has returned
--   WriteCommands      the same of WRITE, in READ_TIMESTAMP and in DO_WRITE
--   in_response_set      whether a node is in the response set of the loop that READ is in
--   Frame Owes         an answer to the call: the frame that is commanded; and 11 is for a node that is in the response set
-- Assumes nothing.
use Rattle.std.specs.Prelude.{ℕ, ◌≡◌, Bool, false, List, []}
use Rattle.octets.specs.Bytes.{be, over}
use Rattle.terms.specs.Ladder.{Rung, None, rung, upto}
use Rattle.terms.specs.declared.Plan.{Plan}
use Rattle.frame.specs.Frame.{time_request_kind, write_request_kind, read_latest_kind, read_previous_kind, frame}
use Rattle.standing.specs.declared.Stage.{Stage}
use Rattle.standing.specs.declared.Stage.TheVariants.{Asking, Storing, Ended}
use Rattle.session.specs.Owed.{Due, written}
use Rattle.report.specs.Triple.{Message, In}
use Rattle.report.specs.Figure2.{in_set_of, Clock, clocks, acknowledged, write}
use Rattle.report.specs.Figure3.{Command, read_latest, read_previous, Decision, returned, repaired, abort, reading, has, response_set}
use Rattle.report.specs.Ours.{family, triple_of}
use Rattle.report.specs.Run.{Polled}
use Rattle.report.specs.WriteRun.{Responses}

-- SEND(S, READ_COMMAND, ts)
abbrev pub read_frame : Command → (S ask : ℕ) → List ℕ
read_frame read_latest S ask = frame read_latest_kind S ask []
read_frame (read_previous ts) S ask = frame read_previous_kind S ask (be 40 ts)

-- SEND(S, WRITE_REQUEST, ts, D, CC): the record is S's own member of the set that is sent
pub record SendsOwn (p : Plan) (sent : List Message) (S ask : ℕ) (f : List ℕ) : Type 0 where
  pub rec : List ℕ
  pub is : f ≡ frame write_request_kind S ask rec
  pub own : In (record { S = S; Response = triple_of p rec }) sent

abbrev pub Commands : Plan → Decision → (S ask : ℕ) → List ℕ → Type 0
Commands p (reading command) S ask f = f ≡ read_frame command S ask
Commands p (repaired sent ts Data) S ask f = SendsOwn p sent S ask f
Commands p (returned ts Data) S ask f = ⊥
Commands p abort S ask f = ⊥

-- SEND(S, TIME_REQUEST), and then what DO_WRITE sends
abbrev pub WriteCommands : Plan → Stage → Responses → (S ask : ℕ) → List ℕ → Type 0
WriteCommands p Asking w S ask f = f ≡ frame time_request_kind S ask []
WriteCommands p Storing w S ask f = SendsOwn p (write (family p) w.Data w.times) S ask f
WriteCommands p Ended w S ask f = ⊥

-- S ∈ response_set.S
abbrev pub in_response_set : Plan → Stage → Polled → ℕ → Bool
in_response_set p Asking w S = has S (response_set (family p) w.rounds w.now)
in_response_set p Storing w S = in_set_of (λ (x : ℕ). x) S (acknowledged w.stored)
in_response_set p Ended w S = false

abbrev pub in_write_set : Stage → Responses → ℕ → Bool
in_write_set Asking w S = in_set_of (λ (x : Clock). x.S) S (clocks w.times)
in_write_set Storing w S = in_set_of (λ (x : ℕ). x) S (acknowledged w.stored)
in_write_set Ended w S = false

pub record Frame (Command : List ℕ → Type 0) (q q₂ : List ℕ) : Type 0 where
  pub frame : List ℕ
  pub is : Command frame
  pub bytes : q₂ ≡ over frame q

-- an answer, a request buffer as it came and as it is left: a frame that was written is the one that is commanded; and the condition of refusal 11,
-- where no refusal before it applies, is that the node is in the response set
pub record Owes (Command : List ℕ → Type 0) (ladder : List Rung) (in_set : Bool) (due : Due) (q q₂ : List ℕ) : Type 0 where
  pub sends : (n : ℕ) → due ≡ written n → Frame Command q q₂
  pub heard : None (upto 11 ladder) → rung 11 ladder ≡ in_set
