use Rattle.book.proofs.Laws as laws
use Rattle.book.proofs.last_below.Goals as goal

pub span_of-requires : goal.span_of-requires
span_of-requires c = let q = c.requires in
    (laws.place_low c.args.k _ _ _ c.place-i.ensures, q.0.inside)

pub returns : goal.returns
returns c = let q = c.requires in
    laws.below_is c.args.k _ _ _ _ q.0.rise c.place-i.ensures c.span_of.ensures
