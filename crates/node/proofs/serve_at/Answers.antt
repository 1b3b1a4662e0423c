use Prim.{tt}
use mathlib.Core.Path.{refl, sym, ap, ◌∙◌}
use mathlib.Core.Bool.{not}
use Rattle.terms.proofs.Down.{at, stop, goes_on}
use Rattle.book.proofs.Laws as books
use Rattle.frame.specs.Frame.{good_request}
use Rattle.frame.proofs.Frames as frames
use Rattle.frame.proofs.Frames.{Opened}
use Rattle.node.specs.Node.{node_ladder}
use Rattle.node.proofs.Laws as laws
use Rattle.node.proofs.serve_at.Goals as goal

pub respond-requires : goal.respond-requires
respond-requires c =
    let opened : let a = c.args in Opened (good_request a.p.plan a.k.node a.request.now) a.request.now c.in-Some.h = frames.was_open _ _ _ (sym c.in-Some.is ∙ c.request_at.ensures) in
    let s = c.requires in
    laws.admitted _ _ _ _ _ _ _ s.plan s.lengths s.book refl (opened)

pub returns-in_default : goal.returns-in_default
returns-in_default c =
    laws.called _ _ _ _ _ _ _ (stop _ _ (at 4 _ (ap not c.requires.plan, (ap not c.requires.lengths, (ap not c.requires.book.good, tt)))) (ap not ((laws.here _ _ _ (books.node_of_lem _ _ _ c.requires.book.is)) (frames.was_shut _ _ (sym c.in_default.is ∙ c.request_at.ensures)))) refl)

pub returns : goal.returns
returns c =
    let opened : let a = c.args in Opened (good_request a.p.plan a.k.node a.request.now) a.request.now c.in-Some.h = frames.was_open _ _ _ (sym c.in-Some.is ∙ c.request_at.ensures) in
    laws.called _ _ _ _ _ _ _ (goes_on _ _ (at 5 _ (ap not c.requires.plan, (ap not c.requires.lengths, (ap not c.requires.book.good, (ap not ((laws.here _ _ _ (books.node_of_lem _ _ _ c.requires.book.is)) opened.good), tt)))))
    (laws.is_responded _ _ _ _ _ _ (opened).is c.respond.ensures))
