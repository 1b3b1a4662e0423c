use Prim.Native.Nat.{ℕ, ◌+◌, ◌-◌}
use native.Mathlib.Omega.{arith}
use Rattle.book.proofs.Laws as books
use Rattle.runs.proofs.Runs as laws
use Rattle.runs.proofs.take_one.Goals as goal

pub serve_at-a-requires : goal.serve_at-a-requires
serve_at-a-requires c =
    let lent : ℕ = c.args.out + c.args.room - c.args.out in
    laws.lent_open (lent) c.requires.0 (omega arith) _ c.header_of-h.ensures.0 c.header_of-h.ensures.1

pub returns : goal.returns
returns c =
    let lent : ℕ = c.args.out + c.args.room - c.args.out in
    laws.took (lent) c.requires.0 (omega arith) c.requires.1 c.serve_at-a.ensures (omega arith) c.number_of.ensures c.length_of.ensures
