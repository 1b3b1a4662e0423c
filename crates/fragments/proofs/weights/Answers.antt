use Rattle.fragments.proofs.Parts.{weights_are}
use Rattle.fragments.proofs.weights.Goals as goal

pub returns : goal.returns
returns c = weights_are c.args.b c.args.x c.times_distances.new.row c.times_distances.ensures
