use mathlib.Core.Path.{refl, ap, ◌∙◌}
use mathlib.Core.List.{List}
use Prim.Native.Nat.{ℕ}
use native.Mathlib.Omega.{arith}
use Rattle.octets.specs.Bytes.{part, put}
use Rattle.octets.proofs.Laws.{length_part, slot_fits}
use Rattle.terms.specs.Terms.{slot_at}
use Rattle.record.proofs.Desks as laws
use Rattle.record.proofs.heads.Goals as goal

pub loop-k-init : goal.loop-k-init
loop-k-init c = let a = c.args in (
  refl,
  laws.start a.desk.now (part a.desk.now (slot_at a.slots a.a) a.slots.head) a.slots c.requires.1
      (length_part _ _ _ (omega (arith, slot_fits _ _ a.slots.size c.requires.2))) c.requires.0,
)

pub loop-k-preserved : goal.loop-k-preserved
loop-k-preserved c = let t = c.loop-k-test.true in
    let l = c.loop-k in
    let a = c.args in
    let s = a.slots in
    let i = l.invariant in
    let head : List ℕ = part a.desk.now (slot_at s a.a) s.head in
    let x = slot_fits _ _ s.size c.requires.2 in
    let lh = length_part a.desk.now (slot_at s a.a) s.head (omega arith) in
    let z = c.within.ensures ∙ ap (λ (z : List ℕ). put l.desk (slot_at s l.k) z) i.0 in
    let stays = laws.head_stays l.desk head a.a l.k s (omega arith) lh c.requires.0 t i.0 in (
      ap (λ (z : List ℕ). part z (slot_at s a.a) s.head) z ∙ stays,
      z ∙ laws.turn a.desk.now head s c.requires.1 lh c.requires.0 l.k l.desk t i.1,
    )
