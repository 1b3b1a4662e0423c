-- How the schedule and the rounds of one block stand between two rounds. Assumes nothing.
--   Held   an array of 64 words has the first t of the schedule
--   Turn   the words up to t + 16 are made, and t rounds are done
--   Turned of any block, n rounds more are done from there, and n words more made
use Rattle.std.specs.Prelude.{◌≡◌, List, ℕ, ◌+◌, ◌-◌, length, take}
use Rattle.sha256.specs.declared.State.{State}
use Rattle.sha256.specs.Sha256.{rounds_of, schedule_of}

pub record Held (m : List ℕ) (t : ℕ) (w : List ℕ) : Type 0 where
  pub long : length w ≡ 64
  pub held : take t w ≡ schedule_of (t - 16) m

pub record Turn (m : List ℕ) (s₀ : State) (t : ℕ) (w : List ℕ) (s : State) : Type 0 where
  pub words_held : Held m (t + 16) w
  pub rounds_done : s ≡ rounds_of (schedule_of 48 m) t s₀

pub record Turned (n t : ℕ) (w : List ℕ) (s : State) (v : List ℕ) (r : State) : Type 0 where
  pub long : length v ≡ 64
  pub turned : (m : List ℕ) (s₀ : State) → length m ≡ 16 → Turn m s₀ t w s → Turn m s₀ (t + n) v r
