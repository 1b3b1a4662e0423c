use Rattle.terms.specs.Stamp.{stamp_at}
use Rattle.terms.proofs.stamp_at.Goals as goal

pub returns : goal.returns
unfolding stamp_at
returns c = let w0 = c.word.ensures.0 in
    let w1 = c.word-a.ensures.0 in
    let w2 = c.word-b.ensures.0 in
    let w3 = c.word-c.ensures.0 in
    let w4 = c.word-d.ensures.0 in
    λ i. record { time = record { 0 = w0 i }; verifier = record { 0 = w1 i; 1 = w2 i; 2 = w3 i; 3 = w4 i } }
