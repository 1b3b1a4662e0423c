-- Ask numbers over the rounds of one operation. Document 01, "Records, books, frames": "A reply repeats the ask number of its request. The
-- report has no ask number and no timestamp in the write reply; we add both so that a late reply of an earlier round is never counted."
-- "The client": the opening ask number serves round 1, each round takes the next, a write or repair round the one after.
--   Goes Moves         what one call does to the round that is open: it goes on, the session ends, or the next round opens
--   IsOver             the round that was open at s is not the one that is open at u
--   NotCounted         a refusal that comes no later than 10 in the client's order
-- Assumes nothing.
use Rattle.std.specs.Prelude.{ℕ, ◌+◌, ◌≡◌, true, false, [], ◌∷◌}
use Rattle.frame.specs.Frame.{one_of}
use Rattle.session.specs.declared.Session.{Session}
use Rattle.standing.specs.Standing.{is_ended}
use Rattle.session.specs.Session.{ask_now, Said, refused}

-- s is the session that a call was handed, u the one that it handed back
pub data Goes (s u : Session) : Type 0 where
  stays : u.round.stage ≡ s.round.stage → u.round.number ≡ s.round.number → ask_now u ≡ ask_now s → Goes s u
  ends : is_ended u.round.stage ≡ true → Goes s u
  opens : is_ended s.round.stage ≡ false → is_ended u.round.stage ≡ false → ask_now u ≡ ask_now s + 1 → Goes s u

pub record Moves (s u : Session) : Type 0 where
  pub opening : u.opening ≡ s.opening
  pub goes : Goes s u

-- stage and round number name a round of an operation
abbrev pub IsOver : Session → Session → Type 0
IsOver s u = u.round.stage ≡ s.round.stage → u.round.number ≡ s.round.number → ⊥

pub record NotCounted (said : Said) : Type 0 where
  pub number : ℕ
  pub is : said ≡ refused number
  pub early : one_of number (1 ∷ 2 ∷ 9 ∷ 14 ∷ 4 ∷ 10 ∷ []) ≡ true
