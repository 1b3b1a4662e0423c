use native.Mathlib.Omega.{arith}
use Rattle.frame.proofs.Built as built
use Rattle.frame.proofs.head.Goals as goal

pub returns : goal.returns
returns c = let h = c.head_bytes.ensures in (
  built.head_is _ _ _ _ _ _ _ _ _ (omega (arith, h)) c.put_num.ensures c.put_num-2.ensures c.put_num-3.ensures c.put_num-4.ensures c.put_word.ensures,
  omega (arith, h),
)
