-- CLIENT AND NODE TOGETHER. A request that our client owes is not refused 4, 5 or 6 by a good book of its node and plan; the reply to it, from a book
-- that calls of the node made of a fresh one, is not refused 4, 5, 6, 10 or 12 by the session that asked, while its round is open.
--   write_request_taken write_reply_taken   of a write
--   read_request_taken read_reply_taken     of a read: in a repair under crash clients where the fragments fit the cross checksum (RepairFits)
-- Assumes nothing.
use Rattle.std.specs.Prelude.{Result, Ok, Err}
use Prim.{tt}
use Prim.Native.Nat.{ℕ}
use mathlib.Core.Path.{◌≡◌, refl, sym, ap, ◌∙◌, subst}
use mathlib.Core.Bool.{true, not}
use mathlib.Core.List.{List, [], ◌∷◌}
use lib.ListN.{length, take}
use Rattle.terms.specs.Terms.{refusal_number}
use Rattle.terms.specs.declared.Plan.{Plan}
use Rattle.terms.specs.declared.Refusal.{Refusal}
use Rattle.terms.specs.declared.Time.{Time}
use Rattle.terms.proofs.Rungs.{clash}
use Rattle.frame.specs.Frame.{one_of}
use Rattle.rounds.specs.Rounds.{unheards}
use Rattle.book.specs.Book.{good_book, node_of}
use Rattle.node.specs.Node.{NodeCall}
use Rattle.standing.specs.Standing.{ask_in, awaits_in}
use Rattle.session.specs.declared.Session.{Session}
use Rattle.session.specs.declared.Took.{Took}
use Rattle.standing.specs.declared.Operation.TheVariants.{Write, Read}
use Rattle.session.specs.Session.{session_with, said_of}
use Rattle.session.specs.Reply.{awaited}
use Rattle.session.specs.Writer.{WriteReplyCall}
use Rattle.session.specs.Reader.{ReadReplyCall}
use Rattle.store.specs.History.{OfCalls}
use Rattle.store.proofs.Passed.{fresh_passes}
use Rattle.client.specs.Endings.{read_ladder, write_ladder}
use Rattle.client.specs.Turns.{ReadTurn, WriteTurn}
use Rattle.client.proofs.Client.{write_refused, read_refused}
use Rattle.report.specs.Together.{OwedBy, asker, asker_desk, RepairFits, StillAsks, NoneOf}
use Rattle.report.proofs.Exchange.{Quiet, quiet_given, AtNode, AtClient, Sendable, Written, was_written, request_passes, not_refused_there, reply_passes}
use Rattle.report.proofs.Sendable.{write_sendable, read_sendable}

-- ---- the session that asked, while its round is open
-- what is awaited does not go by the marks or the times
awaited_bare : (s : Session) (g : List Time) (f : List ℕ) → awaited s f ≡ awaited (session_with s.operation s.round s.opening g s.stamp unheards) f
unfolding awaited ask_in awaits_in
awaited_bare s g f = refl

still_client : (p : Plan) (s u : Session) (f : List ℕ) → StillAsks s u → AtClient p s f → AtClient p u f
still_client p s u f k a =
    record {
      good = a.good;
      await =
          awaited_bare u s.times f
          ∙ (λ i. awaited (session_with (k.operation i) (k.round i) (k.opening i) s.times (k.stamp i) unheards) f) ∙ sym (awaited_bare s s.times f) ∙ a.await;
      timed = a.timed;
      hashed = a.hashed;
      under = rw k.round a.under;
    }

-- ---- a client's call
quiet_write : (p : Plan) (s : Session) (f d : List ℕ) (item : ℕ) → AtClient p s f → Quiet (4 ∷ 5 ∷ 6 ∷ 10 ∷ 12 ∷ []) (write_ladder p s f d item)
unfolding one_of
quiet_write p s f d item a = (
  (λ e. absurd (clash (sym e))),
  ((λ e. absurd (clash (sym e))), ((λ e. absurd (clash (sym e))), ((λ e. absurd (clash (sym e))), ((λ e. ap not a.good), ((λ e. ap not a.await), ((λ e. absurd (clash (sym e))), tt)))))),
)

quiet_read : (p : Plan) (s : Session) (f d : List ℕ) (item : ℕ) → AtClient p s f → Quiet (4 ∷ 5 ∷ 6 ∷ 10 ∷ 12 ∷ []) (read_ladder p s f d item)
unfolding one_of
quiet_read p s f d item a = (
  (λ e. absurd (clash (sym e))),
  (
    (λ e. absurd (clash (sym e))),
    (
      (λ e. absurd (clash (sym e))),
      (
        (λ e. absurd (clash (sym e))),
        ((λ e. ap not a.good), ((λ e. ap not a.await), ((λ e. absurd (clash (sym e))), ((λ e. a.timed), ((λ e. a.hashed), ((λ e. a.under), tt)))))),
      ),
    ),
  ),
)

writer_takes : (p : Plan) (s : Session) (f : List ℕ) → AtClient p s f → (d i : List ℕ) (t : Took) (d₂ : List ℕ) → WriteReplyCall p s f d i t d₂
    → (r : Refusal) → t.answer ≡ Err r → NoneOf (4 ∷ 5 ∷ 6 ∷ 10 ∷ 12 ∷ []) r
writer_takes p s f a d i t d₂ c r e =
    quiet_given (4 ∷ 5 ∷ 6 ∷ 10 ∷ 12 ∷ []) (write_ladder p s f d (length i)) (quiet_write p s f d (length i) a) (refusal_number r)
    (write_refused p s f d i t d₂ c (refusal_number r) (ap said_of e)).0

reader_takes : (p : Plan) (s : Session) (f : List ℕ) → AtClient p s f → (d i : List ℕ) (t : Took) (d₂ i₂ : List ℕ) → ReadReplyCall p s f d i t d₂ i₂
    → (r : Refusal) → t.answer ≡ Err r → NoneOf (4 ∷ 5 ∷ 6 ∷ 10 ∷ 12 ∷ []) r
reader_takes p s f a d i t d₂ i₂ c r e =
    quiet_given (4 ∷ 5 ∷ 6 ∷ 10 ∷ 12 ∷ []) (read_ladder p s f d (length i)) (quiet_read p s f d (length i) a) (refusal_number r)
    (read_refused p s f d i t d₂ i₂ c (refusal_number r) (ap said_of e)).0

-- ---- one exchange
module _ (p : Plan) (s : Session) (S : ℕ) (d f : List ℕ) (w : Written p s S d f) (ready : Sendable p s d) (b y : List ℕ) where
  node_takes : good_book p b ≡ true → node_of b ≡ S → (a : Result ℕ Refusal) (b₂ y₂ : List ℕ) → NodeCall p f b y a b₂ y₂
      → (r : Refusal) → a ≡ Err r → NoneOf (4 ∷ 5 ∷ 6 ∷ []) r
  node_takes g n = not_refused_there p f b y (subst (λ (k : ℕ). AtNode p k f) (sym n) (request_passes p s S d f w ready))

  client_takes : OfCalls p S b → (n : ℕ) (b₂ y₂ : List ℕ) → NodeCall p f b y (Ok n) b₂ y₂ → (u : Session) → StillAsks s u → AtClient p u (take n y₂)
  client_takes k n b₂ y₂ c u a =
      let x = fresh_passes p S b k in
      still_client p s u (take n y₂) a (reply_passes p s S d f w ready b y x.0 x.1 x.2 n b₂ y₂ c)

-- ---- a write
module _ (p : Plan) (S : ℕ) (f : List ℕ) (x : OwedBy Write (WriteTurn p) p S f) where
  wrote : Written p (asker x) S (asker_desk x) f
  wrote = subst (Written p (asker x) S (asker_desk x)) (sym x.is) (was_written p (asker x) S (asker_desk x) x.buffer x.size x.left x.owed)

  wrote_ready : Sendable p (asker x) (asker_desk x)
  wrote_ready = write_sendable p x.ask x.opened x.desk x.turns x.opens x.accepted x.long x.calls

  pub write_request_taken : (b y : List ℕ) → good_book p b ≡ true → node_of b ≡ S → (a : Result ℕ Refusal) (b₂ y₂ : List ℕ) → NodeCall p f b y a b₂ y₂
      → (r : Refusal) → a ≡ Err r → NoneOf (4 ∷ 5 ∷ 6 ∷ []) r
  write_request_taken b y = node_takes p (asker x) S (asker_desk x) f wrote wrote_ready b y

  pub write_reply_taken : (b y : List ℕ) → OfCalls p S b → (n : ℕ) (b₂ y₂ : List ℕ) → NodeCall p f b y (Ok n) b₂ y₂ → (u : Session) → StillAsks (asker x) u
      → (d i : List ℕ) (t : Took) (d₂ : List ℕ) → WriteReplyCall p u (take n y₂) d i t d₂ → (r : Refusal) → t.answer ≡ Err r → NoneOf (4 ∷ 5 ∷ 6 ∷ 10 ∷ 12 ∷ []) r
  write_reply_taken b y k n b₂ y₂ c u a =
      writer_takes p u (take n y₂) (client_takes p (asker x) S (asker_desk x) f wrote wrote_ready b y k n b₂ y₂ c u a)

-- ---- a read
module _ (p : Plan) (S : ℕ) (f : List ℕ) (x : OwedBy Read (ReadTurn p) p S f) (fits : RepairFits p (asker x) (asker_desk x)) where
  read : Written p (asker x) S (asker_desk x) f
  read = subst (Written p (asker x) S (asker_desk x)) (sym x.is) (was_written p (asker x) S (asker_desk x) x.buffer x.size x.left x.owed)

  read_ready : Sendable p (asker x) (asker_desk x)
  read_ready = read_sendable p x.ask x.opened x.desk x.turns x.opens x.accepted x.bytes x.calls read.range read.going fits

  pub read_request_taken : (b y : List ℕ) → good_book p b ≡ true → node_of b ≡ S → (a : Result ℕ Refusal) (b₂ y₂ : List ℕ) → NodeCall p f b y a b₂ y₂
      → (r : Refusal) → a ≡ Err r → NoneOf (4 ∷ 5 ∷ 6 ∷ []) r
  read_request_taken b y = node_takes p (asker x) S (asker_desk x) f read read_ready b y

  pub read_reply_taken : (b y : List ℕ) → OfCalls p S b → (n : ℕ) (b₂ y₂ : List ℕ) → NodeCall p f b y (Ok n) b₂ y₂ → (u : Session) → StillAsks (asker x) u
      → (d i : List ℕ) (t : Took) (d₂ i₂ : List ℕ) → ReadReplyCall p u (take n y₂) d i t d₂ i₂ → (r : Refusal) → t.answer ≡ Err r
      → NoneOf (4 ∷ 5 ∷ 6 ∷ 10 ∷ 12 ∷ []) r
  read_reply_taken b y k n b₂ y₂ c u a =
      reader_takes p u (take n y₂) (client_takes p (asker x) S (asker_desk x) f read read_ready b y k n b₂ y₂ c u a)
