-- What is known between two calls of a read: by the stage, of the session, its desk and what was received. Assumes nothing.
use Prim.{Unit}
use Prim.Native.Nat.{ℕ, zero, suc, ◌*◌, ◌≤◌}
use mathlib.Core.Path.{◌≡◌, refl}
use mathlib.Core.Bool.{true, false}
use mathlib.Core.List.{List, []}
use native.Mathlib.Omega.{arith}
use borrow.Author.Tests.{eqb-false}
use lib.Dec.{eqb}
use lib.ListN.{length}
use Rattle.octets.specs.Bytes.{Octets}
use Rattle.terms.specs.Stamp.{stamp_number}
use Rattle.terms.specs.Terms.{record_length}
use Rattle.terms.specs.declared.Plan.{Plan}
use Rattle.record.specs.Desk.{fragment_in}
use Rattle.session.specs.declared.Session.{Session}
use Rattle.standing.specs.declared.Stage.{Stage}
use Rattle.standing.specs.declared.Stage.TheVariants.{Asking, Storing, Ended}
use Rattle.standing.specs.Standing.{is_read}
use Rattle.session.specs.Reader.{Outcome}
use Rattle.report.specs.Triple.{Message, strung}
use Rattle.report.specs.Figure2.{acknowledged}
use Rattle.report.specs.Figure3.{repaired, reading, do_read, read}
use Rattle.report.specs.Ours.{family, responses, sending, command_of}
use Rattle.report.specs.Run.{Polled, Tells, AllFull}
use Rattle.client.specs.Held.{EverySlot, Passed}
use Rattle.report.proofs.Gathers.{Marked}

pub positive : (x : ℕ) → eqb x 0 ≡ false → 1 ≤ x
positive zero h = absurd (eqb-false 0 0 h refl)
positive (suc x) h = omega arith

-- ---- what is known between two calls: by the stage, of the session, its desk and what was received
-- in a read round: READ is to send what the bound says, and the marks and slots are the response set of its DO_READ
pub record Asks (p : Plan) (s : Session) (d : List ℕ) (w : Polled) : Type 0 where
  pub decision : read (family p) w.rounds ≡ reading (command_of s.round.bound)
  pub rounds : s.round.number ≡ suc (length w.rounds)
  pub set : do_read (family p) (command_of s.round.bound) w.now ≡ responses p s.marks d p.n
  pub desk : length d ≡ p.n * record_length p
  pub octets : Octets d
  pub size : length s.marks ≡ 16
  pub passed : EverySlot (Passed p) p s.marks d
  pub unstored : w.stored ≡ []
  pub reads : is_read s.operation ≡ true

-- in a repair round: READ has repaired, and the desk holds what DO_WRITE sends
pub record Stores (p : Plan) (s : Session) (d : List ℕ) (w : Polled) : Type 0 where
  pub sent : List Message
  pub Data : List ℕ
  pub decision : read (family p) w.rounds ≡ repaired sent (stamp_number s.stamp) Data
  pub sends : sending p d ≡ sent
  pub holds : strung (fragment_in p d) p.m ≡ Data
  pub rounds : s.round.number ≡ length w.rounds
  pub size : length s.marks ≡ 16
  pub marked : Marked (λ (S : ℕ). S) s.marks (acknowledged w.stored)
  pub reads : is_read s.operation ≡ true

abbrev pub KeepsAt : Stage → Plan → Session → List ℕ → Polled → Type 0
KeepsAt Asking p s d w = Asks p s d w
KeepsAt Storing p s d w = Stores p s d w
KeepsAt Ended p s d w = Unit {0}

abbrev pub Keeps : Plan → Session → List ℕ → Polled → Type 0
Keeps p s d w = KeepsAt s.round.stage p s d w

-- what a call leaves, and what it says
pub record Leaves (p : Plan) (o : Outcome) (w : Polled) : Type 0 where
  pub keeps : Keeps p o.session o.desk w
  pub tells : Tells p o.said o.item w
  pub full : AllFull p w.rounds
