use mathlib.Core.Path.{◌≡◌}
use Prim.Native.Nat.{◌*◌}
use Rattle.sha256.specs.declared.State.{State}
use Rattle.sha256.specs.Sha256.{rounds_of}
use Rattle.sha256.specs.Inside.{Turn}
use Rattle.sha256.proofs.rounds.Given as goal

abbrev pub invariant-loop-i : goal.invariant-loop-i
invariant-loop-i l = Turn l.m l.initial.s (8 * l.i) l.w l.s

abbrev pub invariant-loop-i-2 : goal.invariant-loop-i-2
invariant-loop-i-2 l = (x : State) → l.initial.s ≡ rounds_of l.w 48 x → l.s ≡ rounds_of l.w (8 * l.i) x
