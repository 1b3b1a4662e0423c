-- Refusal 9: session out of its ranges, or of the other operation. Document 01, "Refusal numbers", in its order; the rules that an ended
-- session meets too stand apart.
--   standing_rules      round, bound, opening ask, marks from N on: for every session
--   open_rules          timestamp, first triple marks, heard count, slots: for an open session
--   in_range           all of them
-- Assumes nothing.
use Rattle.std.specs.Prelude.{ℕ, Bool, not, List, [], ◌∷◌, leb}
use Rattle.terms.specs.Ladder.{all, ◌and◌, ◌or◌}
use Rattle.terms.specs.Terms.{slots_of, opening_ok}
use Rattle.terms.specs.declared.Plan.{Plan}
use Rattle.rounds.specs.Rounds.{rest_unheard, none_first, slots_fit}
use Rattle.session.specs.declared.Session.{Session}
use Rattle.standing.specs.Standing.{is_storing, is_ended, round_rules}
use Rattle.session.specs.Session.{read_round, round_open}

-- "round 1 to W, and 1 in a write; a bound exactly when round is above 1, time 1 or more"; "marks from N on unheard"; "opening ask as for 13"
unfoldable pub standing_rules : Plan → Session → Bool
standing_rules p s =
    all (
    round_rules p.w s.operation s.round ∷
    rest_unheard s.marks p.n ∷
    opening_ok p s.opening.0 ∷ [])

-- "a timestamp being written of time 1 or more"; "no first triple mark in a time or write round"; "fewer than N-t heard while open";
-- "in a read round each slot marked 'record' must hold a time of 1 or more and a timestamp below the bound, if there is one"
unfoldable pub open_rules : Plan → Session → List ℕ → Bool
open_rules p s d =
    all (
    (not (is_storing s.round.stage) or leb 1 s.stamp.time.0) ∷
    (read_round s or none_first s.marks) ∷
    round_open p s ∷
    (not (read_round s) or slots_fit s.marks d (slots_of p) s.round.bound p.n) ∷ [])

-- "An ended session meets only the rules on round, bound, opening ask and marks from N on."
unfoldable pub in_range : Plan → Session → List ℕ → Bool
in_range p s d = standing_rules p s and (is_ended s.round.stage or open_rules p s d)
