-- One theorem an answer: each exactly when its condition in document 01 holds; and what is true of every close. Assumes nothing.
--   read_open read_done never_written_lem is_aborted rounds_spent_lem write_open write_done clock_spent_lem
--   only_done_writes       an ending other than done, a refusal or an open round leaves the item
--   first_triple_complete  "(It always has COMPLETE replies.)"
--   greatest set_is        the candidate is the greatest timestamp heard; the set is rising, below N, and all that bear its timestamp and cross checksum
--   decodes repairs        where it is decoded or repaired, the set has m nodes
use Prim.Native.Nat.{ℕ, ◌≤◌, ◌<◌}
use mathlib.Core.Path.{◌≡◌, refl, sym, ◌∙◌, subst}
use mathlib.Core.Bool.{Bool, true, false}
use mathlib.Core.List.{List}
use native.Mathlib.Omega.{arith}
use lib.ListN.{length}
use Rattle.terms.specs.Terms.{complete_at, slots_of}
use Rattle.terms.specs.declared.Plan.{Plan}
use Rattle.terms.specs.declared.Timestamp.{Timestamp}
use Rattle.terms.proofs.Facts.{facts}
use Rattle.frame.specs.Frame.{frame_node}
use Rattle.rounds.specs.declared.Heard.{Heard}
use Rattle.rounds.specs.declared.Heard.TheVariants.{Unheard, First, Record}
use Rattle.rounds.specs.Rounds.{bit_of, heard_count, mark_of, set_of}
use Rattle.rounds.specs.Closes.{Best, Members}
use Rattle.rounds.proofs.Closes.{candidate, members_are}
use Rattle.session.specs.declared.Session.{Session}
use Rattle.session.specs.declared.Took.{Took}
use Rattle.standing.specs.Standing.{is_storing}
use Rattle.session.specs.Session.{marked_of, Said, refused, still_open, done, never_written, aborted, rounds_spent, clock_spent, said_of, round_open}
use Rattle.session.specs.Reader.{ReadReplyCall, Outcome, outcome, closed, settled, stored, accepted}
use Rattle.session.specs.Writer.{WriteReplyCall}
use Rattle.client.specs.Endings.{Exactly, read_ladder, after_reply, desk_after, Candidate, size, WhenNever, WhenAborted, WhenSpent, WhenDone, WhenOpen, DoneByRead, RepairOpens, WriteDone, WriteClock, WriteOpen, ReadGives, WriteGives}
use Rattle.terms.proofs.Ladders as ladders
use Rattle.client.proofs.Reading as reading
use Rattle.session.proofs.Closings as shapes
use Rattle.client.proofs.Client as client

-- ---- a read
module _ (p : Plan) (s : Session) (f d i : List ℕ) (t : Took) (d₂ i₂ : List ℕ) (call : ReadReplyCall p s f d i t d₂ i₂) where
  abbrev said : Said
  said = said_of t.answer

  exactly : (x : Said) → Exactly (said ≡ x) (ReadGives p s f d (length i) x)
  exactly x = ((λ e. subst (ReadGives p s f d (length i)) e (client.read_answers p s f d i t d₂ i₂ call)), client.so_read p s f d i t d₂ i₂ call x)

  -- Never written, exactly when the round closes and every node that is heard gave the first triple.
  pub never_written_lem : (n : ℕ) → Exactly (said ≡ never_written n) (WhenNever p s f d (length i) n)
  never_written_lem n = exactly (never_written n)

  -- Aborted, exactly when the candidate's set is unclassifiable and the member non-repair.
  pub is_aborted : (n : ℕ) → Exactly (said ≡ aborted n) (WhenAborted p s f d (length i) n)
  is_aborted n = exactly (aborted n)

  -- Rounds spent, exactly when round W closes incomplete or invalid.
  pub rounds_spent_lem : (n : ℕ) → Exactly (said ≡ rounds_spent n) (WhenSpent p s f d (length i) n)
  rounds_spent_lem n = exactly (rounds_spent n)

  -- Done, exactly when the set is complete and validates, or a repair round has N-t replies.
  pub read_done : (stamp : Timestamp) (n : ℕ) → Exactly (said ≡ done stamp n) (WhenDone p s f d (length i) stamp n)
  read_done stamp n = exactly (done stamp n)

  -- Still open, exactly when the round is not full, or the next round or a repair round opens.
  pub read_open : Exactly (said ≡ still_open) (WhenOpen p s f d (length i))
  read_open = exactly still_open

-- ---- a write
module _ (p : Plan) (s : Session) (f d i : List ℕ) (t : Took) (d₂ : List ℕ) (call : WriteReplyCall p s f d i t d₂) where
  exactly_write : (x : Said) → Exactly (said_of t.answer ≡ x) (WriteGives p s f d (length i) x)
  exactly_write x = ((λ e. subst (WriteGives p s f d (length i)) e (client.write_answers p s f d i t d₂ call)), client.so_write p s f d i t d₂ call x)

  -- Done, exactly when the write round has N-t replies that bear the timestamp.
  pub write_done : (stamp : Timestamp) (n : ℕ) → Exactly (said_of t.answer ≡ done stamp n) (WriteDone p s f d (length i) stamp n)
  write_done stamp n = exactly_write (done stamp n)

  -- Clock spent, exactly when the time round has N-t replies and the (b+1)-th greatest of them is 2^64-1.
  pub clock_spent_lem : Exactly (said_of t.answer ≡ clock_spent) (WriteClock p s f d (length i))
  clock_spent_lem = exactly_write clock_spent

  -- Still open, exactly when the round is not full, or the write round opens.
  pub write_open : Exactly (said_of t.answer ≡ still_open) (WriteOpen p s f d (length i))
  write_open = exactly_write still_open

-- ---- "Only "done" of a read writes the item buffer."
abbrev pub is_done : Said → Bool
is_done (refused k) = false
is_done still_open = false
is_done (done stamp n) = true
is_done (never_written n) = false
is_done (aborted n) = false
is_done (rounds_spent n) = false
is_done clock_spent = false

module _ (i : List ℕ) where
  abbrev Stays : Outcome → Type 0
  Stays o = is_done o.said ≡ false → o.item ≡ i

  wrong : {A : Type 0} → true ≡ false → A
  wrong e = let z : ◌≡◌ {A = ℕ} 0 1 = cc in absurd (omega arith)

  settled_stays : (p : Plan) (s : Session) (d : List ℕ) → Stays (settled p s d i)
  unfolding settled
  settled_stays p s d =
      shapes.pick Stays (round_open p s) (λ e. refl)
      (shapes.goes Stays p s (closed p s d) d i
      (record { finds = λ x y e. wrong e; never = λ e. refl; aborts = λ e. refl; spends = λ h e. refl; next = λ a l h e. refl; repairs = λ a l v e. refl }))

  accepted_stays : (p : Plan) (s : Session) (f d : List ℕ) → Stays (accepted p s f d i)
  unfolding accepted stored
  accepted_stays p s f d =
      shapes.pick Stays (is_storing s.round.stage)
      (shapes.pick Stays (round_open p (marked_of s (frame_node f) Record)) (λ e. refl) (λ e. wrong e))
      (subst Stays (sym (reading.heard_settles p s f d i)) (settled_stays p (after_reply p s f) (desk_after p f d)))

pub only_done_writes : (p : Plan) (s : Session) (f d i : List ℕ) (t : Took) (d₂ i₂ : List ℕ) → ReadReplyCall p s f d i t d₂ i₂
    → is_done (said_of t.answer) ≡ false → i₂ ≡ i
only_done_writes p s f d i t d₂ i₂ call =
    subst (Stays i) (sym (call.is ∙ reading.one_ladder p s f d i))
    (ladders.by_ladder (Stays i) (read_ladder p s f d (length i)) (λ (k : ℕ). outcome (refused k) s d i) (accepted p s f d i) (λ k g e. refl)
    (λ n. accepted_stays i p s f d))

-- ---- what is true of every close
-- "First triple: never written. (It always has COMPLETE replies.)": at least COMPLETE nodes are heard, and all of them gave the first triple
pub first_triple_complete : (p : Plan) (s : Session) (f d : List ℕ) (item n : ℕ) → WhenNever p s f d item n
    → (complete_at p ≤ heard_count (after_reply p s f).marks) × ((k : ℕ) → k < p.n → bit_of (mark_of (after_reply p s f).marks k) ≡ 1 → mark_of (after_reply p s f).marks k ≡ First)
first_triple_complete p s f d item n w =
    let t = reading.taken p s f d item w.closes.accepted in
    let g = facts p t.plan in
    let e = w.closes.enough in
    (omega arith, λ k h b. go (mark_of (after_reply p s f).marks k) b (w.first k h))
  where
    go : (m : Heard) → bit_of m ≡ 1 → (m ≡ Record → ⊥) → m ≡ First
    go Unheard b h = absurd (omega arith)
    go First b h = refl
    go Record b h = absurd (h refl)

-- the candidate is the greatest timestamp heard, at the lowest-numbered node that bears it
pub greatest : (p : Plan) (s : Session) (f d : List ℕ) (a : ℕ) → Candidate p s f d a → Best (after_reply p s f).marks (desk_after p f d) (slots_of p) p.n a
greatest p s f d a h = candidate (after_reply p s f).marks (desk_after p f d) (slots_of p) p.n a h

-- the set is rising, below N, and its nodes are exactly those that bear the candidate's timestamp and cross checksum
pub set_is : (p : Plan) (s : Session) (f d : List ℕ) (a : ℕ)
    → Members (desk_after p f d) (slots_of p) a p.n (after_reply p s f).marks
    (set_of (after_reply p s f).marks (desk_after p f d) (slots_of p) a p.n)
set_is p s f d a = members_are (after_reply p s f).marks (desk_after p f d) (slots_of p) a p.n

-- where a set is decoded, and where it is repaired, it has m nodes
pub decodes : (p : Plan) (s : Session) (f d : List ℕ) (item : ℕ) (stamp : Timestamp) (n : ℕ) (w : DoneByRead p s f d item stamp n) → p.m ≤ size p s f d w.node
decodes p s f d item stamp n w =
    let g = facts p (reading.taken p s f d item w.closes.accepted).plan in
    let h = w.full in
    omega arith

pub repairs : (p : Plan) (s : Session) (f d : List ℕ) (item : ℕ) (w : RepairOpens p s f d item) → p.m ≤ size p s f d w.node
repairs p s f d item w =
    let g = facts p (reading.taken p s f d item w.closes.accepted).plan in
    let h = w.low in
    let m = g.low_decodes w.member in
    omega arith
