-- A client and a node together: the frame that a call of one party wrote goes to the other, and which refusals it does not meet there.
--   OwedBy             the frame of a request that a session of ours owes to a node, after calls of its operation from an accepted opening
--   asker asker_desk    that session, and its desk
--   RepairFits         in a repair under crash clients the fragments of the desk are those of its cross checksum
--   StillAsks          the session that asked, or what hearing nodes leaves of it while the same round is open: marks and times may be others
--   NoneOf             a refusal is none of some numbers
-- Assumes nothing.
use Prim.{tt}
use Rattle.std.specs.Prelude.{ℕ, ◌*◌, ◌≡◌, true, false, List, length, take, Ok}
use Rattle.octets.specs.Bytes.{Octets}
use Rattle.terms.specs.Terms.{record_length, refusal_number}
use Rattle.terms.specs.declared.Ask.{Ask}
use Rattle.terms.specs.declared.Clients.TheVariants.{Crash}
use Rattle.terms.specs.declared.Plan.{Plan}
use Rattle.terms.specs.declared.Refusal.{Refusal}
use Rattle.frame.specs.Frame.{one_of}
use Rattle.record.specs.Record.{cross_of}
use Rattle.record.specs.Desk.{slot_of, fragment_in, cross_made}
use Rattle.standing.specs.Standing.{is_storing}
use Rattle.session.specs.declared.Session.{Session}
use Rattle.standing.specs.declared.Operation.{Operation}
use Rattle.session.specs.declared.opening.Opened.{Opened}
use Rattle.session.specs.Opening.{OpenCall}
use Rattle.session.specs.Owed.{OwedCall}
use Rattle.client.specs.Sessions.{last_session, last_desk}
use Rattle.client.specs.Turns.{Turn, Calls}

-- Met is what each call met, a reader's contract or a writer's; f is the frame that was written, cut off by the length that was told
pub record OwedBy (op : Operation) (Met : Session → List ℕ → Turn → Type 0) (p : Plan) (S : ℕ) (f : List ℕ) : Type 0 where
  pub ask : Ask
  pub opened : Opened
  pub opens : OpenCall op p ask opened
  pub accepted : opened.answer ≡ (Ok tt)
  pub desk : List ℕ
  pub long : length desk ≡ p.n * record_length p
  pub bytes : Octets desk
  pub turns : List Turn
  pub calls : Calls Met opened.session desk turns
  pub buffer : List ℕ
  pub size : ℕ
  pub left : List ℕ
  pub owed : OwedCall p (last_session opened.session turns) S (last_desk desk turns) buffer (Ok size) left
  pub is : f ≡ take size left

abbrev pub asker : {op : Operation} {Met : Session → List ℕ → Turn → Type 0} {p : Plan} {S : ℕ} {f : List ℕ} → OwedBy op Met p S f → Session
asker x = last_session x.opened.session x.turns

abbrev pub asker_desk : {op : Operation} {Met : Session → List ℕ → Turn → Type 0} {p : Plan} {S : ℕ} {f : List ℕ} → OwedBy op Met p S f → List ℕ
asker_desk x = last_desk x.desk x.turns

-- as validation asks under Byzantine clients: the hashes of all N fragments are the cross checksum
abbrev pub RepairFits : Plan → Session → List ℕ → Type 0
RepairFits p s d = p.clients ≡ Crash → is_storing s.round.stage ≡ true → cross_made p (fragment_in p d) p.n ≡ cross_of p (slot_of p d 0)

pub record StillAsks (s u : Session) : Type 0 where
  pub operation : u.operation ≡ s.operation
  pub round : u.round ≡ s.round
  pub opening : u.opening ≡ s.opening
  pub stamp : u.stamp ≡ s.stamp

abbrev pub NoneOf : List ℕ → Refusal → Type 0
NoneOf ks r = one_of (refusal_number r) ks ≡ false
