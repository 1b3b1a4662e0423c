use Rattle.sha256.proofs.Turns as turns
use borrow.Author.Rules.{rules}
use Rattle.sha256.proofs.turned1.Goals as goal

pub returns : goal.returns
returns c = rw (c.rotate_right-3.ensures, c.rotate_right-2.ensures, c.rotate_right.ensures) (turns.nested1 c.args.x (search rules))
