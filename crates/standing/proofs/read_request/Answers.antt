use mathlib.Core.List.{[]}
use Rattle.octets.specs.Bytes.{be}
use Rattle.terms.specs.Stamp.{stamp_number}
use Rattle.frame.specs.Frame.{read_latest_kind, read_previous_kind, header_of}
use Rattle.standing.proofs.Requests as laws
use Rattle.standing.proofs.read_request.Goals as goal

pub returns-in-None : goal.returns-in-None
returns-in-None c = laws.sent _ (header_of read_latest_kind c.args.node c.args.ask.0) [] _ _ _ (laws.read_latest _ _ _ c.in-None.is) c.latest.ensures

pub returns-in-Some : goal.returns-in-Some
returns-in-Some c =
    laws.sent _ (header_of read_previous_kind c.args.node c.args.ask.0) (be 40 (stamp_number c.in-Some.u)) _ _ _
    (laws.read_previous _ _ _ _ c.in-Some.is) c.previous.ensures
