use mathlib.Core.Path.{sym, ◌∙◌}
use native.Mathlib.Omega.{arith}
use Rattle.fragments.specs.Inside.{points_of}
use Rattle.fragments.proofs.Laws.{source_fits, copied, computed}
use Rattle.fragments.proofs.regenerate.Goals as goal

pub overflow_mul-x : goal.overflow_mul-x
overflow_mul-x c = let h = source_fits c.args.src.now c.args.s (points_of c.args.b) c.args.x _ c.requires.0 c.has.ensures c.if-has.true in
    omega (arith, h)

pub overflow_add-s : goal.overflow_add-s
overflow_add-s c = let h = source_fits c.args.src.now c.args.s (points_of c.args.b) c.args.x _ c.requires.0 c.has.ensures c.if-has.true in
    omega (arith, h)

pub copy-requires : goal.copy-requires
copy-requires c = let h = source_fits c.args.src.now c.args.s (points_of c.args.b) c.args.x _ c.requires.0 c.has.ensures c.if-has.true in
    (h, omega (arith, c.requires.1))

pub returns-then-has : goal.returns-then-has
returns-then-has c = let a = c.args in
    c.copy.ensures
    ∙ copied a.src.now a.s (points_of a.b) a.x a.out.now (sym c.if-has.true ∙ c.has.ensures) c.requires.0 c.requires.1

pub returns-else-has : goal.returns-else-has
returns-else-has c = let a = c.args in
    computed a.src.now a.s (points_of a.b) a.x _ (sym c.if-has.false ∙ c.has.ensures) c.combine.ensures
