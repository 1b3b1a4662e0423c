-- An array of a million has that length.
use Rattle.std.proofs.Common.{ℕ, sym}
use lib.ListN.{length-replicate}
use Rattle.vectors.proofs.million.Goals as goal

pub returns : goal.returns
returns c = sym (length-replicate {0} {A = ℕ} 1000000 97)
