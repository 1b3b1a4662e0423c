use Rattle.primitives.proofs.Laws.{encode_is, encode_room}
use mathlib.Core.Path.{sym, ◌∙◌}
use Rattle.primitives.proofs.primitives_encode.Goals as goal

pub encode-requires : goal.encode-requires
encode-requires c = let e = sym c.encode_fits.ensures ∙ c.if-not-encode_fits.false in
    let h = encode_is _ _ _ _ _ e in
    rw c.runs_of-slots.ensures (h.1.length_is, h.1.high, h.2.high, encode_room _ _ _ _ _ e)
