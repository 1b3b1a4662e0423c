use Rattle.std.proofs.Common.{rules, ◌≡◌}
use Rattle.packing.specs.SessionBytes.{session_bytes}
use Rattle.packing.proofs.Laws as laws
use Rattle.packing.proofs.write_session.Goals as goal

pub returns : goal.returns
returns c =
    let whole : c.write_heard.new.x ≡ session_bytes c.args.s = laws.session_put c.args.s _ _ _ (search rules) (search rules) (search rules) c.write_asks.ensures c.write_heard.ensures in
    search (rules, whole)
