-- DEMAND 3. Order of arrival does not matter: at the nodes' books (books_in_any_order), also where the requests come in runs (runs_in_any_order, runs_as_singly; document
-- 02, Q-3), and in a read round (replies_in_any_order); nor does it in a time round, whose replies decide the new time (times_in_any_order; document 02, Q-2). Assumes nothing.
use Prim.Native.Nat.{ℕ, ◌<◌}
use mathlib.Core.Path.{◌≡◌, sym, ◌∙◌}
use mathlib.Core.List.{List}
use lib.ListN.{length}
use Rattle.terms.specs.declared.Plan.{Plan}
use Rattle.session.specs.declared.Session.{Session}
use Rattle.standing.specs.Standing.{replies}
use Rattle.store.specs.Deliver.{Delivery, Setting, delivered, final_book, Contents}
use Rattle.session.specs.Session.{still_open}
use Rattle.session.specs.Writer.{leaves}
use Rattle.client.specs.Turns.{Turn, ReadTurn, WriteTurn, Calls}
use Rattle.client.specs.Round.{round_at, RoundOpens, Acceptable, Each, OneANode, SameReplies, Lent, replies_of, answers_of, left_by}
use Rattle.client.specs.TimeRound.{TimeRoundOpens, AcceptableTime, LentEach, last_leaves}
use Rattle.store.proofs.Books.{left, holding, every_book, what_is_left, any_order}
use Rattle.client.proofs.Round.Calls.{any_order_acceptable_calls}
use Rattle.client.proofs.Round.Times.{any_order_times}
use Rattle.demands.specs.Evening.{RunDelivery, delivered_by_runs, RunSetting}
use Rattle.demands.proofs.Evening.{runs_left}

-- "Take good books and a set of write requests. Each book and reply buffer has room, and at one node no two requests that pass the checks,
-- and no such request and held record, share a timestamp but not the record (Setting). Then delivering all of them, in any order and with
-- repeats, leaves the same bytes in all N books: the old records and the accepted ones, each once, by timestamp" (final_book, Contents). A
-- delivery is a call of the node that met its contract, on the book that the calls before it left there.
pub books_in_any_order : (p : Plan) (books : ℕ → List ℕ) (requests : List (List ℕ)) (one other : List Delivery)
    → Setting p books requests one → Setting p books requests other → (i : ℕ) → i < p.n
    → (delivered one books i ≡ delivered other books i) × (delivered one books i ≡ final_book p (books i) requests) × Contents p (books i) requests
books_in_any_order p books requests one other g h i l =
    (any_order p books requests one other g h i l, every_book p books requests one g i l, what_is_left p books requests one g i l)

-- "Demand 3 reads over the frames so cut, of runs not refused." Any two deliveries whose cut frames deliver the set, cut into runs in any way, in any order and with
-- repeats, leave the same bytes in all N books: the old records and the accepted ones, each once, by timestamp.
pub runs_in_any_order : (p : Plan) (books : ℕ → List ℕ) (requests : List (List ℕ)) (one other : List RunDelivery)
    → RunSetting p books requests one → RunSetting p books requests other → (i : ℕ) → i < p.n
    → (delivered_by_runs one books i ≡ delivered_by_runs other books i) × (delivered_by_runs one books i ≡ final_book p (books i) requests) × Contents p (books i) requests
runs_in_any_order p books requests one other g h i l =
    let a = runs_left p i books requests one g.calls (g.delivers i l) in
    let e = a.0 ∙ left p books requests i g.plan (g.ready i l) _ a.1 in
    let b = runs_left p i books requests other h.calls (h.delivers i l) in
    let f = b.0 ∙ left p books requests i h.plan (h.ready i l) _ b.1 in
    (e ∙ sym f, e, holding p books requests i g.plan (g.ready i l) _ a.1)

-- And the same bytes as single calls leave that deliver the same set.
pub runs_as_singly : (p : Plan) (books : ℕ → List ℕ) (requests : List (List ℕ)) (runs : List RunDelivery) (calls : List Delivery)
    → RunSetting p books requests runs → Setting p books requests calls → (i : ℕ) → i < p.n → delivered_by_runs runs books i ≡ delivered calls books i
runs_as_singly p books requests runs calls g h i l =
    (runs_in_any_order p books requests runs runs g g i l).1 ∙ sym (every_book p books requests calls h i l)

-- "From one session, desk and sheet buffer, a read round that opens there and hears the same N - t acceptable replies, one a node, ends alike
-- in whichever order they come": the same answers in turn, and at the end the same session, desk and item. Acceptable is a reply that is not
-- refused where the round opens. For fewer than N-t replies, and by what was answered: any_order_calls of client.
pub replies_in_any_order : (p : Plan) (s : Session) (desk item : List ℕ) (one other : List Turn) → RoundOpens s → Calls (ReadTurn p) s desk one → Lent item one
    → Calls (ReadTurn p) s desk other → Lent item other → length (replies_of one) ≡ replies p → Each (Acceptable p s desk item) (replies_of one)
    → OneANode (replies_of one) → SameReplies (replies_of one) (replies_of other)
    → (left_by (round_at s desk item) other ≡ left_by (round_at s desk item) one) × (answers_of other ≡ answers_of one)
replies_in_any_order = any_order_acceptable_calls

-- The same of a time round: from one session and desk, a time round that opens there and hears the same N - t acceptable replies, one a node, each call lent
-- the same item, ends alike in whichever order they come: the same answers in turn, and at the end the same session and desk.
pub times_in_any_order : (p : Plan) (s : Session) (desk item : List ℕ) (one other : List Turn) → TimeRoundOpens s → Calls (WriteTurn p) s desk one → LentEach item one
    → Calls (WriteTurn p) s desk other → LentEach item other → length (replies_of one) ≡ replies p → Each (AcceptableTime p s desk item) (replies_of one)
    → OneANode (replies_of one) → SameReplies (replies_of one) (replies_of other)
    → (last_leaves (leaves still_open s desk) other ≡ last_leaves (leaves still_open s desk) one) × (answers_of other ≡ answers_of one)
times_in_any_order = any_order_times
