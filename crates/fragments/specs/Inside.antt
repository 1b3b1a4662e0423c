-- What only the functions below encode, decode and regenerate need: the points of a basis, and fragments of which a strip is regenerated.
-- Assumes nothing.
use Rattle.std.specs.Prelude.{List, ℕ, ◌+◌, take}
use Rattle.terms.specs.declared.Slots.{Slots}
use Rattle.fragments.specs.declared.basis.Basis.{Basis}

-- n bytes of the fragment of each slot, from byte o of it on
abbrev pub strip_of : Slots → ℕ → ℕ → Slots
strip_of s o n = record { n = s.n; head = s.head + o; fragment = n; size = s.size }

abbrev pub points_of : Basis → List ℕ
points_of b = take b.size b.points
