-- Fragments that can be hashed side by side: n of them, from number i on, in these slots. Assumes nothing.
use Rattle.std.specs.Prelude.{ℕ, ◌+◌, ◌≤◌, ◌<◌}
use Rattle.terms.specs.declared.Slots.{Slots}

pub record Hashable (slots : Slots) (i n : ℕ) : Type 0 where
  pub some : 0 < slots.fragment
  pub short : slots.fragment ≤ 1024
  pub low : slots.head ≤ 552
  pub few : n ≤ 8
  pub below : i + n ≤ 16
