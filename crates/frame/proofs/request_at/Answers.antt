use mathlib.Core.Path.{sym, ◌∙◌}
use Rattle.frame.specs.declared.Party.TheVariants.{Node}
use Rattle.frame.proofs.Frames as laws
use Rattle.frame.proofs.request_at.Goals as goal

pub returns-then-not-shaped : goal.returns-then-not-shaped
returns-then-not-shaped c = let s = c.shaped in
    laws.request_shut _ _ _ (laws.frame_unshaped _ _ _ (sym s.ensures ∙ c.if-not-shaped.true))

pub header_of-h-requires : goal.header_of-h-requires
header_of-h-requires c = let s = c.shaped in
    (laws.shaped_is _ (sym s.ensures ∙ c.if-not-shaped.false)).low

pub suits-requires : goal.suits-requires
suits-requires c = let s = c.shaped in
    (laws.shaped_is _ (sym s.ensures ∙ c.if-not-shaped.false)).low

pub returns-then-not-suits : goal.returns-then-not-suits
returns-then-not-suits c = let s = c.shaped in
    let t = c.suits in
    laws.request_shut _ _ _
    (sym (laws.frame_read Node _ _ _ (sym s.ensures ∙ c.if-not-shaped.false) c.header_of-h.ensures.0 t.ensures)
    ∙ c.if-not-suits.true)
