-- Opening a write and a read. Document 01, "Refusal numbers": at opening, which lends no buffer, 1, 13. "The client": every round opens
-- with all marks unheard.
--   opening_ladder      the order
--   fresh_of no_session  a session that asks, with all marks unheard, and zero in the fields not in use; the one that no call takes
--   Opens opens        the answer and the session as an opening leaves them
--   open_with           the call, below a bound: the first that applies refuses, and the session is one of round 0, which is in no range
--   OpenCall           the contract of both calls
-- Assumes nothing.
use Rattle.terms.specs.declared.Refusal.{Refusal}
use Prim.{Unit, tt}
use Rattle.std.specs.Prelude.{ℕ, ◌≡◌, not, List, [], ◌∷◌, Option, None, Result, Ok, Err}
use Rattle.terms.specs.Ladder.{Rung, on, first}
use Rattle.terms.specs.Terms.{plan_ok, opening_ok, refusal_number}
use Rattle.terms.specs.Stamp.{zero_stamp}
use Rattle.terms.specs.declared.Ask.{Ask}
use Rattle.terms.specs.declared.Plan.{Plan}
use Rattle.terms.specs.declared.Timestamp.{Timestamp}
use Rattle.rounds.specs.Rounds.{unheards}
use Rattle.clock.specs.Clock.{zero_times}
use Rattle.session.specs.declared.Session.{Session}
use Rattle.standing.specs.declared.Operation.{Operation}
use Rattle.standing.specs.declared.Stage.TheVariants.{Asking}
use Rattle.session.specs.Session.{session_with}
use Rattle.session.specs.declared.opening.Opened.{Opened}

abbrev pub opening_ladder : Plan → ℕ → List Rung
opening_ladder p a = on 1 (not (plan_ok p)) ∷ on 13 (not (opening_ok p a)) ∷ []

abbrev pub fresh_of : Operation → ℕ → Option Timestamp → Ask → Session
fresh_of op round b a = session_with op (record { stage = Asking; number = round; bound = b }) a zero_times zero_stamp unheards

-- an answer as a number: 0 where the opening is accepted
abbrev pub opening_number : Result (Unit {0}) Refusal → ℕ
opening_number (Err r) = refusal_number r
opening_number (Ok u) = 0

pub record Opens : Type 0 where
  pub number : ℕ
  pub session : Session

abbrev pub opens : ℕ → Session → Opens
opens k s = record { number = k; session = s }

-- the session that no call takes
abbrev pub no_session : Operation → Session
no_session op = fresh_of op 0 None (record { 0 = 0 })

unfoldable pub open_with : Operation → Option Timestamp → Plan → Ask → Opens
open_with op b p a = first (opening_ladder p a.0) (λ (k : ℕ). opens k (no_session op)) (opens 0 (fresh_of op 1 b a))

-- the contract of the two calls: operation and inputs, then the outcome; round 1 has no bound
pub record OpenCall (op : Operation) (p : Plan) (a : Ask) (r : Opened) : Type 0 where
  pub is : opens (opening_number r.answer) r.session ≡ open_with op None p a
