use Rattle.primitives.proofs.Laws.{decode_is, named_within}
use mathlib.Core.Path.{sym, ◌∙◌}
use native.Mathlib.Omega.{arith}
use Rattle.primitives.proofs.primitives_decode.Goals as goal

pub decode-requires : goal.decode-requires
decode-requires c = let a = c.args in
    let h = decode_is _ _ _ _ _ (sym c.decode_fits.ensures ∙ c.if-not-decode_fits.false) in
    rw c.runs_of-slots.ensures (named_within _ a.desk.now a.nodes.now h.1, h.0.high, h.0.length_is, omega (arith, h.2, h.0.high))
