-- DEMAND 2. "Node, writer and reader act as CMU-PDL-03-105 lays down for its asynchronous members, with SHA-256 of FIPS 180-4 and the field of
-- FIPS 197. A sheet block that is encoded comes back from any m of its N fragments, and each refusal is given exactly when document 01 says."
--   plan_as_the_report plan_by_the_report    accepted exactly by the ranges and Table 2
--   node_as_the_report node_over_time    the replies, and the set of versions after them, are Figure 1's
--   valid_as_the_report invalid_as_the_report   when a write request is executed, and when it is turned away
--   write_as_the_report    a whole write, from its opening, is Figure 2's WRITE
--   read_as_the_report     a whole read, from its opening, is Figure 3's READ, cut at W
--   rounds_are_counted     the rounds that a read reports are those that it closed, and at most W
--   read_requests_as_the_report write_requests_as_the_report   what is sent to a node is what the figures send to it
--   comes_back written_comes_back   an encoded block comes back from any m of its N fragments; so does what our writer writes
--   written_read_back      a whole read that ends done with a write's timestamp leaves what was written
--   read_of_its_timestamp one_timestamp_one_item one_write_one_item   two reads that end done with one timestamp leave one item
--   valid_for_all_readers  whether a set validates does not depend on the nodes that it is of
-- The figures are in report/specs, with (01) beside what document 01 adds or closes. That the hash and the field are those of the papers is
-- said by the contracts of `digest`, `product` and `quotient`, over sha256/specs and field/specs. Each refusal exactly: Refusals.
-- Assumes nothing.
use Rattle.terms.specs.declared.Refusal.{Refusal}
use Prim.{tt}
use Rattle.std.specs.Prelude.{Result, Ok}
use Prim.Native.Nat.{ℕ, ◌*◌, ◌≤◌, ◌<◌}
use mathlib.Core.Path.{◌≡◌}
use mathlib.Core.Bool.{true, false}
use mathlib.Core.List.{List, ◌∷◌}
use lib.ListN.{length}
use Rattle.octets.specs.Bytes.{Octets}
use Rattle.fragments.specs.Fragments.{All, Distinct, Room, laid, encoded}
use Rattle.fragments.proofs.Theorems.{any_m_of_n}
use Rattle.terms.specs.Terms.{plan_ok, record_length, slots_of, runs_of}
use Rattle.terms.specs.declared.Ask.{Ask}
use Rattle.terms.specs.declared.Plan.{Plan}
use Rattle.terms.specs.declared.Slots.{Slots}
use Rattle.terms.specs.declared.Timestamp.{Timestamp}
use Rattle.terms.specs.declared.Clients.TheVariants.{Byzantine}
use Rattle.frame.specs.Frame.{write_request_kind, kind_of, body_of, good_request}
use Rattle.book.specs.Book.{node_of}
use Rattle.node.specs.Node.{NodeCall}
use Rattle.node.specs.Fresh.{FreshCall}
use Rattle.session.specs.declared.opening.Opened.{Opened}
use Rattle.standing.specs.declared.Operation.TheVariants.{Write, Read}
use Rattle.session.specs.Opening.{OpenCall}
use Rattle.recover.specs.Records.{stamp_for, records_for}
use Rattle.store.specs.History.{Call, History, last_book}
use Rattle.client.specs.Turns.{Turn, ReadTurn, WriteTurn, Calls, closed_rounds, Reports, last_said}
use Rattle.report.specs.Triple.{Same}
use Rattle.client.proofs.ComesBack.{block_comes_back}
use Rattle.client.proofs.Counting.{counted_rounds}
use Rattle.client.specs.Held.{ReadDone, SetCloses, set_valid}
use Rattle.client.specs.SameStamp.{NoClash, ItemsUnlike}
use Rattle.client.proofs.SameStamp.{done_comes_back}
use Rattle.client.proofs.OneItem.{done_of_item, done_one_item, written_one_item}
use Rattle.client.proofs.Validation.{valid_for_all}
use Rattle.report.specs.Figure1.{initialize, validate}
use Rattle.report.specs.Ours.{history, family, triple_of}
use Rattle.report.specs.Run.{InBytes, received, unpolled, polled_over, AllApart, AllFull, EachTells}
use Rattle.report.specs.WriteRun.{untimed, EachWrites, timed_over}
use Rattle.report.proofs.Plans.{accepted_is, accepted_back}
use Rattle.report.proofs.Node.{time_acts, latest_acts, previous_acts, write_acts, invalid_acts, valid_executes, fresh_run}
use Rattle.report.proofs.Run.{opened_read}
use Rattle.report.proofs.Write.{opened_write}
use Rattle.report.specs.Table2.{Ranges, Table2Of}
use Rattle.report.specs.Acts.{AsFigure1, Added, Executes}
use Rattle.session.specs.Session.{ask_now}
use Rattle.session.specs.Owed.{owed_ladder, due_of, OwedCall}
use Rattle.client.specs.Sessions.{last_session, last_desk}
use Rattle.report.specs.Figure3.{read}
use Rattle.report.specs.Sent.{Commands, WriteCommands, in_response_set, in_write_set, Owes}
use Rattle.report.proofs.Sent.{read_owes, write_owes}

-- A plan is accepted exactly when it is within document 01's ranges and Table 2 holds of it.
pub plan_as_the_report : (p : Plan) → plan_ok p ≡ true → Ranges p × Table2Of p
plan_as_the_report = accepted_is

pub plan_by_the_report : (p : Plan) → Ranges p → Table2Of p → plan_ok p ≡ true
plan_by_the_report = accepted_back

pub node_as_the_report : (p : Plan) (f b y : List ℕ) → Octets f → Octets b → (n : ℕ) (b₂ y₂ : List ℕ) → NodeCall p f b y (Ok n) b₂ y₂
    → AsFigure1 p f b y b₂ y₂
node_as_the_report p f b y of ob n b₂ y₂ c =
    record {
      time = time_acts p f b y ob of n b₂ y₂ c;
      latest = latest_acts p f b y ob of n b₂ y₂ c;
      previous = previous_acts p f b y ob of n b₂ y₂ c;
      write = write_acts p f b y ob of n b₂ y₂ c;
    }

-- A write request that VALIDATE lets through is executed, unless one of the conditions that document 01 adds stands against it (Added): whatever the
-- call answers. One that VALIDATE turns away leaves the History and sends nothing.
pub valid_as_the_report : (p : Plan) (f b y : List ℕ) → Octets f → Octets b → Added p f b y → kind_of f ≡ write_request_kind
    → validate (family p) (node_of b) (triple_of p (body_of f)) ≡ true → (a : Result ℕ Refusal) (b₂ y₂ : List ℕ) → NodeCall p f b y a b₂ y₂ → Executes p f b y b₂ y₂
valid_as_the_report p f b y of ob = valid_executes p f b y ob of

pub invalid_as_the_report : (p : Plan) (f b y : List ℕ) → Octets f → Octets b → good_request p (node_of b) f ≡ true → kind_of f ≡ write_request_kind
    → validate (family p) (node_of b) (triple_of p (body_of f)) ≡ false
    → (a : Result ℕ Refusal) (b₂ y₂ : List ℕ) → NodeCall p f b y a b₂ y₂ → (history p b₂ ≡ history p b) × (y₂ ≡ y)
invalid_as_the_report p f b y of ob = invalid_acts p f b y ob of

-- Over any calls, from a fresh book on: the versions that a book holds are those that Figure 1 holds from INITIALIZE on, given every well-shaped write
-- request that 5, 7 and 8 do not bar. Each call has a plan of its own: the book fixes N and F, and under others a call changes nothing.
pub node_over_time : (p : Plan) (node : ℕ) (b b₂ : List ℕ) (cs : List Call) → FreshCall p node b (Ok tt) b₂ → History b₂ cs → InBytes cs
    → Same (history p (last_book b₂ cs)) (received p node initialize b₂ cs)
node_over_time = fresh_run

-- Over any replies from an accepted opening on: the write round sends what Figure 2's WRITE sends for the responses of READ_TIMESTAMP and the item,
-- "done" bears its timestamp, with N-t responses to DO_WRITE, and "open" says that WRITE has not returned.
pub write_as_the_report : (p : Plan) (a : Ask) (r : Opened) (d : List ℕ) (cs : List Turn) → OpenCall Write p a r → r.answer ≡ (Ok tt)
    → Calls (WriteTurn p) r.session d cs → EachWrites p r.session d untimed cs
write_as_the_report = opened_write

-- Over any replies from an accepted opening on: each answer is what Figure 3's READ says of the messages received in the rounds closed so far,
-- DO_READ gathering from them; "open" says that READ has not returned. Each closed round has its N-t responses, to the command that READ was to
-- send. Received are the frames of the run in their order, refused ones among them, but for those that document 01 adds refusals for
-- (is_message). Where no two cross checksums of one response set share a hash under one timestamp.
pub read_as_the_report : (p : Plan) (a : Ask) (r : Opened) (d : List ℕ) (cs : List Turn) → OpenCall Read p a r → r.answer ≡ (Ok tt)
    → length d ≡ p.n * record_length p → Octets d → Calls (ReadTurn p) r.session d cs → AllApart p (polled_over p r.session d unpolled cs).rounds
    → EachTells p r.session d unpolled cs × AllFull p (polled_over p r.session d unpolled cs).rounds
read_as_the_report = opened_read

-- "Rounds used are reported with every read ending and never exceed W": from an accepted opening on, whatever replies come, the rounds that the last
-- answer reports are the read rounds that the calls closed, each at its N-t-th accepted reply (closed_rounds), and at most W.
pub rounds_are_counted : (p : Plan) (a : Ask) (r : Opened) → OpenCall Read p a r → r.answer ≡ (Ok tt) → (d : List ℕ) (t : Turn) (ts : List Turn)
    → Calls (ReadTurn p) r.session d (t ∷ ts) → (n : ℕ) → Reports (last_said t ts) n → (n ≡ closed_rounds p 0 r.session (t ∷ ts)) × (n ≤ p.w)
rounds_are_counted = counted_rounds

-- In every state that those replies lead to, a request owed to a node S is the frame of what READ has to send to S then, READ_LATEST, READ_PREVIOUS
-- with the candidate's timestamp, or WRITE with S's own member of the set that is sent; and 11 is for a node that is in the response set.
pub read_requests_as_the_report : (p : Plan) (a : Ask) (r : Opened) (d : List ℕ) (cs : List Turn) → OpenCall Read p a r → r.answer ≡ (Ok tt)
    → length d ≡ p.n * record_length p → Octets d → Calls (ReadTurn p) r.session d cs → AllApart p (polled_over p r.session d unpolled cs).rounds
    → (S : ℕ) (q : List ℕ) (o : Result ℕ Refusal) (q₂ : List ℕ) → OwedCall p (last_session r.session cs) S (last_desk d cs) q o q₂
    → Owes (Commands p (read (family p) (polled_over p r.session d unpolled cs).rounds) S (ask_now (last_session r.session cs)))
    (owed_ladder p (last_session r.session cs) S (last_desk d cs) (length q))
    (in_response_set p (last_session r.session cs).round.stage (polled_over p r.session d unpolled cs) S) (due_of o) q q₂
read_requests_as_the_report = read_owes

-- The same of a write: TIME, and then WRITE with S's own member of what DO_WRITE sends.
pub write_requests_as_the_report : (p : Plan) (a : Ask) (r : Opened) (d : List ℕ) (cs : List Turn) → OpenCall Write p a r → r.answer ≡ (Ok tt)
    → Calls (WriteTurn p) r.session d cs → (S : ℕ) (q : List ℕ) (o : Result ℕ Refusal) (q₂ : List ℕ)
    → OwedCall p (last_session r.session cs) S (last_desk d cs) q o q₂
    → Owes (WriteCommands p (last_session r.session cs).round.stage (timed_over p r.session d untimed cs) S (ask_now (last_session r.session cs)))
    (owed_ladder p (last_session r.session cs) S (last_desk d cs) (length q))
    (in_write_set (last_session r.session cs).round.stage (timed_over p r.session d untimed cs) S) (due_of o) q q₂
write_requests_as_the_report = write_owes

-- An item of m·F bytes, encoded into n fragments of F bytes in whatever slots of a buffer, comes back from any m of them.
pub comes_back : (m : ℕ) (s : Slots) (item : List ℕ) → m ≤ 256 → Octets item → length item ≡ m * s.fragment → (n : ℕ) (desk : List ℕ) → s.fragment ≤ s.size
    → Room s n desk → n ≤ 256 → (nodes : List ℕ) → Distinct nodes → All (λ (z : ℕ). z < n) nodes → length nodes ≡ m → (out : List ℕ) → length out ≡ m * s.fragment
    → laid (encoded m item s n desk) s nodes (runs_of m s.fragment) m out ≡ item
comes_back = any_m_of_n

-- The N records that our writer makes of an item at a time, in its desk, give the item to our reader's decoding from any m of its N slots.
pub written_comes_back : (p : Plan) (time : ℕ) (item : List ℕ) → plan_ok p ≡ true → Octets item → length item ≡ p.m * p.f → (out : List ℕ)
    → length out ≡ p.m * p.f → (nodes : List ℕ) → Distinct nodes → All (λ (z : ℕ). z < p.n) nodes → length nodes ≡ p.m
    → laid (records_for p time item) (slots_of p) nodes (runs_of p.m p.f) p.m out ≡ item
written_comes_back = block_comes_back

-- A read, over any replies from an accepted opening on, that ends done with the timestamp of a write of an item leaves that item: whichever nodes it
-- heard, in whichever round, its set complete or repaired, under either client model. Where no record that a reply bore under that timestamp
-- clashes with those that were written: its cross checksum is the item's, or has another hash; its fragment is the one for its node, or has another.
pub written_read_back : (p : Plan) (time : ℕ) (item : List ℕ) → Octets item → length item ≡ p.m * p.f → (out : List ℕ) (r : ReadDone p (stamp_for p time item) out)
    → NoClash p time item (r.first ∷ r.rest) → out ≡ item
written_read_back = done_comes_back

-- The report's Lemma 1: "If c_1 performs a read operation that returns <ts_1, v_1>, c_2 performs a read operation that returns <ts_2, v_2>, and
-- ts_1 = ts_2, then v_1 = v_2." Under Byzantine clients a read validates: it regenerates all N fragments and compares the cross checksum. So the
-- timestamp that it is done with is the one that a writer of its item makes, whoever wrote it and whichever m fragments were chosen, without a word on
-- clashes;
pub read_of_its_timestamp : (p : Plan) → p.clients ≡ Byzantine → (t : Timestamp) (item : List ℕ) → ReadDone p t item → stamp_for p t.time.0 item ≡ t
read_of_its_timestamp = done_of_item

-- and two reads that end done with one timestamp leave one item, whichever nodes each heard, complete or repaired. Where the cross checksums of the
-- two items, and for each node their fragments, are alike or have two hashes.
pub one_timestamp_one_item : (p : Plan) → p.clients ≡ Byzantine → (t : Timestamp) (i j : List ℕ) → ReadDone p t i → ReadDone p t j → ItemsUnlike p i j → i ≡ j
one_timestamp_one_item = done_one_item

-- Under crash clients a read does not validate; of what our writer wrote two reads leave one item under either client model.
pub one_write_one_item : (p : Plan) (time : ℕ) (item : List ℕ) → Octets item → length item ≡ p.m * p.f → (i j : List ℕ)
    (r : ReadDone p (stamp_for p time item) i) (q : ReadDone p (stamp_for p time item) j) → NoClash p time item (r.first ∷ r.rest) → NoClash p time item (q.first ∷ q.rest) → i ≡ j
one_write_one_item = written_one_item

-- Section 4.2.2, of validation: "Note that this check either succeeds or fails for all correct clients, regardless of which storage-nodes are
-- represented within the candidate set." Under Byzantine clients, where one read ended done with a timestamp, every set of m nodes or more of that
-- timestamp validates, in whichever round of whichever read. Where no record that a reply of the other read bore under that timestamp clashes with
-- those of the item.
pub valid_for_all_readers : (p : Plan) → p.clients ≡ Byzantine → (t : Timestamp) (item : List ℕ) → ReadDone p t item → (r : SetCloses p t)
    → NoClash p t.time.0 item (r.last ∷ r.before) → set_valid p t r ≡ true
valid_for_all_readers = valid_for_all
