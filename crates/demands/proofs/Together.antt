-- DEMAND 2, CLIENT AND NODE TOGETHER. What our client sends our node takes, and what it answers the client takes: neither finds fault with the other's
-- frames, records, ask numbers or timestamps.
--   write_request_is_taken read_request_is_taken   a request that is owed is not refused 4, 5 or 6 by a good book of that node and plan
--   write_reply_is_taken read_reply_is_taken       its reply is not refused 4, 5, 6, 10 or 12 by the session that asked
--   written_repair_fits                            what a repair under crash clients takes holds of an item that our writer wrote
--   writer_still_asks reader_still_asks            a call that leaves its round open leaves a session that still asks
-- The request is one that a session owes after any calls from an accepted opening (OwedBy); the reply is of a book that calls of the node, under
-- whatever plans, made of a fresh one (OfCalls), and comes to the session that asked while its round is open, whichever nodes it heard since
-- (StillAsks). Assumes nothing.
use Rattle.std.specs.Prelude.{Result, Ok, Err}
use Prim.Native.Nat.{ℕ, ◌*◌}
use mathlib.Core.Path.{◌≡◌}
use mathlib.Core.Bool.{true}
use mathlib.Core.List.{List, [], ◌∷◌}
use lib.ListN.{length, take}
use Rattle.octets.specs.Bytes.{Octets}
use Rattle.terms.specs.declared.Plan.{Plan}
use Rattle.terms.specs.declared.Refusal.{Refusal}
use Rattle.book.specs.Book.{good_book, node_of}
use Rattle.node.specs.Node.{NodeCall}
use Rattle.session.specs.declared.Session.{Session}
use Rattle.session.specs.declared.Took.{Took}
use Rattle.standing.specs.declared.Operation.TheVariants.{Write, Read}
use Rattle.session.specs.Writer.{WriteReplyCall}
use Rattle.session.specs.Reader.{ReadReplyCall}
use Rattle.recover.specs.Records.{stamp_for}
use Rattle.store.specs.History.{OfCalls}
use Rattle.client.specs.SameStamp.{NoClash}
use Rattle.client.specs.Turns.{Turn, ReadTurn, WriteTurn}
use Rattle.report.specs.Together.{OwedBy, asker, asker_desk, RepairFits, StillAsks, NoneOf}
use Rattle.report.proofs.Sendable.{written_fits}
use Rattle.report.proofs.StillAsks.{write_still_asks, read_still_asks}
use Rattle.report.proofs.Together.{write_request_taken, write_reply_taken, read_request_taken, read_reply_taken}

-- ---- a write
pub write_request_is_taken : (p : Plan) (S : ℕ) (f : List ℕ) → OwedBy Write (WriteTurn p) p S f → (b y : List ℕ) → good_book p b ≡ true → node_of b ≡ S
    → (a : Result ℕ Refusal) (b₂ y₂ : List ℕ) → NodeCall p f b y a b₂ y₂ → (r : Refusal) → a ≡ Err r → NoneOf (4 ∷ 5 ∷ 6 ∷ []) r
write_request_is_taken = write_request_taken

pub write_reply_is_taken : (p : Plan) (S : ℕ) (f : List ℕ) (x : OwedBy Write (WriteTurn p) p S f) (b y : List ℕ) → OfCalls p S b
    → (n : ℕ) (b₂ y₂ : List ℕ) → NodeCall p f b y (Ok n) b₂ y₂ → (u : Session) → StillAsks (asker x) u
    → (d i : List ℕ) (t : Took) (d₂ : List ℕ) → WriteReplyCall p u (take n y₂) d i t d₂ → (r : Refusal) → t.answer ≡ Err r
    → NoneOf (4 ∷ 5 ∷ 6 ∷ 10 ∷ 12 ∷ []) r
write_reply_is_taken = write_reply_taken

-- ---- a read, its repair round too. Under crash clients a set that a misbehaving client wrote may be repaired to records that fail their hash check at a
-- node; where the N fragments of the desk are those of its cross checksum (RepairFits), as validation asks under Byzantine clients, they pass.
pub read_request_is_taken : (p : Plan) (S : ℕ) (f : List ℕ) (x : OwedBy Read (ReadTurn p) p S f) → RepairFits p (asker x) (asker_desk x)
    → (b y : List ℕ) → good_book p b ≡ true → node_of b ≡ S
    → (a : Result ℕ Refusal) (b₂ y₂ : List ℕ) → NodeCall p f b y a b₂ y₂ → (r : Refusal) → a ≡ Err r → NoneOf (4 ∷ 5 ∷ 6 ∷ []) r
read_request_is_taken = read_request_taken

pub read_reply_is_taken : (p : Plan) (S : ℕ) (f : List ℕ) (x : OwedBy Read (ReadTurn p) p S f) → RepairFits p (asker x) (asker_desk x)
    → (b y : List ℕ) → OfCalls p S b → (n : ℕ) (b₂ y₂ : List ℕ) → NodeCall p f b y (Ok n) b₂ y₂ → (u : Session) → StillAsks (asker x) u
    → (d i : List ℕ) (t : Took) (d₂ i₂ : List ℕ) → ReadReplyCall p u (take n y₂) d i t d₂ i₂ → (r : Refusal) → t.answer ≡ Err r
    → NoneOf (4 ∷ 5 ∷ 6 ∷ 10 ∷ 12 ∷ []) r
read_reply_is_taken = read_reply_taken

-- So it is, under either client model, where the timestamp being repaired is that of a write of ours, and the records that the replies bore under it do not
-- clash with those that were written.
pub written_repair_fits : (p : Plan) (S : ℕ) (f : List ℕ) (x : OwedBy Read (ReadTurn p) p S f) (time : ℕ) (item : List ℕ) → Octets item → length item ≡ p.m * p.f
    → (asker x).stamp ≡ stamp_for p time item → NoClash p time item x.turns → RepairFits p (asker x) (asker_desk x)
written_repair_fits p S f x = written_fits p x.ask x.opened x.desk x.turns x.opens x.accepted x.calls

-- ---- the session that asked: hearing another node in the same round leaves it asking
pub writer_still_asks : (p : Plan) (s : Session) (d : List ℕ) (c : Turn) → WriteTurn p s d c → c.took.session.round.stage ≡ s.round.stage
    → c.took.session.round.number ≡ s.round.number → StillAsks s c.took.session
writer_still_asks = write_still_asks

pub reader_still_asks : (p : Plan) (s : Session) (d : List ℕ) (c : Turn) → ReadTurn p s d c → c.took.session.round.stage ≡ s.round.stage
    → c.took.session.round.number ≡ s.round.number → StillAsks s c.took.session
reader_still_asks = read_still_asks
