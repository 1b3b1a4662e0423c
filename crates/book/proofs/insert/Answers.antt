use native.Mathlib.Omega.{arith}
use Rattle.book.proofs.Laws as laws
use Rattle.book.proofs.insert.Goals as goal

pub overflow_mul-at : goal.overflow_mul-at
overflow_mul-at c = let q = laws.placed_fits _ _ _ _ _ c.requires in
    omega arith

pub overflow_add-at : goal.overflow_add-at
overflow_add-at c = let q = laws.placed_fits _ _ _ _ _ c.requires in
    omega arith

pub overflow_sub-end : goal.overflow_sub-end
overflow_sub-end c = let q = laws.placed_fits _ _ _ _ _ c.requires in
    omega arith

pub up-requires : goal.up-requires
up-requires c = let q = laws.placed_fits _ _ _ _ _ c.requires in
    omega arith

pub copy-requires : goal.copy-requires
copy-requires c = let q = laws.placed_fits _ _ _ _ _ c.requires in
    (c.requires.inside, omega arith)

pub returns : goal.returns
returns c = laws.insert_done _ _ _ _ _ _ c.requires (laws.steps _ _ _ _ _ _ _ _ _ _ c.up.ensures c.copy.ensures c.put_num.ensures c.put_num-2.ensures)
