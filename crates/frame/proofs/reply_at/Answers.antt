use mathlib.Core.Path.{sym, ◌∙◌}
use Rattle.frame.specs.declared.Party.TheVariants.{Client}
use Rattle.frame.proofs.Frames as laws
use Rattle.frame.proofs.reply_at.Goals as goal

pub returns-then-not-shaped : goal.returns-then-not-shaped
returns-then-not-shaped c = let s = c.shaped in
    laws.reply_shut _ _ (laws.frame_unshaped _ _ _ (sym s.ensures ∙ c.if-not-shaped.true))

pub header_of-h-requires : goal.header_of-h-requires
header_of-h-requires c = let s = c.shaped in
    (laws.shaped_is _ (sym s.ensures ∙ c.if-not-shaped.false)).low

pub suits-requires : goal.suits-requires
suits-requires c = let s = c.shaped in
    (laws.shaped_is _ (sym s.ensures ∙ c.if-not-shaped.false)).low

pub returns-then-not-suits : goal.returns-then-not-suits
returns-then-not-suits c = let s = c.shaped in
    let t = c.suits in
    laws.reply_shut _ _
    (sym (laws.frame_read Client _ _ _ (sym s.ensures ∙ c.if-not-shaped.false) c.header_of-h.ensures.0 t.ensures)
    ∙ c.if-not-suits.true)

pub returns-then-here-n : goal.returns-then-here-n
returns-then-here-n c = let s = c.shaped in
    let t = c.suits in
    let h = c.header_of-h.ensures.0 in
    laws.reply_door _ _ _
    (sym (laws.frame_read Client _ _ _ (sym s.ensures ∙ c.if-not-shaped.false) h t.ensures) ∙ c.if-not-suits.false)
    h c.if-here-n.true

pub returns : goal.returns
returns c = let s = c.shaped in
    let t = c.suits in
    let h = c.header_of-h.ensures.0 in
    laws.reply_elsewhere _ _ _
    (sym (laws.frame_read Client _ _ _ (sym s.ensures ∙ c.if-not-shaped.false) h t.ensures) ∙ c.if-not-suits.false)
    h c.if-here-n.false
