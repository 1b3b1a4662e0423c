use mathlib.Core.Path.{◌≡◌, ◌∙◌, ap}
use native.Mathlib.Omega.{arith}
use Rattle.octets.specs.Bytes.{part, num, be}
use Rattle.octets.proofs.Meaning.{be_part}
use Rattle.octets.proofs.Words.{word_part}
use Rattle.octets.proofs.word.Goals as goal

pub returns : goal.returns
returns c =
    let a = c.args in
    let x : c.from_be_bytes.result ≡ num (part a.b.now a.at 8) = word_part a.b.now a.at _ (omega arith) c.from_be_bytes.ensures in
    (x, omega arith, ap (be 8) x ∙ be_part a.b.now a.at 8 (omega arith) (λ i. omega (arith, c.type_inv.b i)))
