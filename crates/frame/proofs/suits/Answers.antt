use mathlib.Core.Path.{sym, ap, ◌∙◌}
use Prim.Native.Nat.{ℕ, ◌-◌}
use Rattle.frame.specs.Frame.{body_fits}
use Rattle.frame.proofs.Frames as laws
use Rattle.frame.proofs.suits.Goals as goal

pub returns-then-not-for_party : goal.returns-then-not-for_party
returns-then-not-for_party c = let f = c.for_party in
    laws.suits_stray _ _ _ _ (sym f.ensures ∙ c.if-not-for_party.true)

pub returns : goal.returns
returns c = let f = c.for_party in
    let a = c.args in
    laws.suits_last _ _ _ _ _ (sym f.ensures ∙ c.if-not-for_party.false)
    (c.body_fits.ensures ∙ ap (λ (x : ℕ). body_fits a.p.plan a.h.kind (a.n - x)) c.head_bytes-head.ensures)
