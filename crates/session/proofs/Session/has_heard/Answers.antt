use Rattle.session.specs.Reply.{is_heard}
use Rattle.session.proofs.Session.has_heard.Goals as goal

pub returns : goal.returns
unfolding is_heard
returns c = c.has_heard.ensures
