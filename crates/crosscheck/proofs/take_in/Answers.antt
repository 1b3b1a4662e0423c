use native.Mathlib.Omega.{arith}
use Rattle.crosscheck.proofs.Stretches.{split, strip_short, strip_lies, sizes, lanes_are, stretches_lie, taken_in}
use Rattle.crosscheck.proofs.take_in.Goals as goal

pub strip-t-requires : goal.strip-t-requires
strip-t-requires c = let f = c.requires in
    let q = split c.args.g c.args.y c.head_in-k.result f c.head_in-k.ensures in
    (q.inner, q.past, omega arith)

pub rows-requires : goal.rows-requires
rows-requires c = let k = c.head_in-k in
    let t = c.strip-t in
    let a = c.args in (
      strip_lies t.result a.g a.y k.result c.requires k.ensures t.ensures,
      strip_short t.result a.g a.y k.result c.requires k.ensures t.ensures,
    )

pub invariant_of-m : goal.invariant_of-m
invariant_of-m c = let x = c.batch in
    let t = c.strip-t in
    let k = c.head_in-k in
    let a = c.args in
    let f = c.requires in
    let z = sizes t.result a.g a.y k.result f k.ensures t.ensures x.result x.ensures in
    record { lying = stretches_lie t.result a.g a.y k.result f k.ensures t.ensures x.result x.ensures a.heads.now _ (omega arith) c.rows.ensures; short = omega arith }

pub absorb-requires : goal.absorb-requires
absorb-requires c = let x = c.batch in
    let t = c.strip-t in
    let k = c.head_in-k in
    let a = c.args in
    let f = c.requires in
    let z = sizes t.result a.g a.y k.result f k.ensures t.ensures x.result x.ensures in
    let n = lanes_are t.result a.g a.y k.result f k.ensures t.ensures x.result x.ensures in
    (omega arith, f.whole, omega (arith, f.blocks), omega arith)

pub returns : goal.returns
returns c = let x = c.batch in
    let t = c.strip-t in
    let k = c.head_in-k in
    let a = c.args in
    taken_in t.result a.g a.y k.result c.requires k.ensures t.ensures x.result x.ensures a.heads.now _ (omega arith) c.rows.ensures _ _ c.absorb.ensures
