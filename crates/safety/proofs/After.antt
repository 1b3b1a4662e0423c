-- ONE OPERATION OF OURS AFTER ANOTHER (corollaries of document 02's Q-5). Assumes nothing.
--   saved_is_never_lost       what was saved is never lost to an older sheet: from one client's done to the next client's open
--   later_read_not_older      a later read is never older than an earlier one
--   later_read_same_bytes     at the same timestamp it has the same bytes, where the item was validated
--   later_read_as_written     or where it is that of a write
use Prim.{tt}
use Prim.Native.Nat.{ℕ, ◌*◌, ◌^◌, ◌≤◌, ◌<◌}
use mathlib.Core.Path.{◌≡◌, refl, sym, ap, ◌∙◌, subst}
use mathlib.Core.Bool.{true}
use mathlib.Core.List.{List, [], ◌∷◌, ◌++◌}
use mathlib.Core.Logic.{inl, inr}
use native.Mathlib.Omega.{arith}
use lib.ListN.{length}
use Rattle.octets.specs.Bytes.{part, alike, Octets}
use Rattle.octets.proofs.Laws.{part_part}
use Rattle.octets.proofs.Meaning.{alike_is, octets_drop}
use Rattle.sha256.specs.Sha256.{sha256}
use Rattle.terms.specs.Stamp.{stamp, stamp_number}
use Rattle.terms.specs.declared.Plan.{Plan}
use Rattle.terms.specs.declared.Timestamp.{Timestamp}
use Rattle.terms.specs.declared.Clients.{Clients}
use Rattle.terms.specs.declared.Clients.TheVariants.{Crash, Byzantine}
use Rattle.terms.proofs.Rungs.{both}
use Rattle.frame.specs.Frame.{body_of, head_bytes, version_of}
use Rattle.record.specs.Record.{verifier_of, cross_of, hashes_ok}
use Rattle.recover.specs.Records.{stamp_for}
use Rattle.recover.specs.Recover.{sound}
use Rattle.standing.specs.declared.Operation.TheVariants.{Write, Read}
use Rattle.session.specs.declared.Session.{Session}
use Rattle.session.specs.Session.{Said, refused, still_open, done, never_written, aborted, rounds_spent, clock_spent, said_of}
use Rattle.session.specs.Reply.{bears}
use Rattle.session.proofs.Openings.{accepted_plan}
use Rattle.client.specs.Endings.{WriteGives}
use Rattle.client.specs.Turns.{Turn, ReadTurn, WriteTurn, Calls, last_said}
use Rattle.client.specs.Sessions.{last_session, last_desk, last_item}
use Rattle.client.specs.Repair.{EachTurn}
use Rattle.client.specs.Held.{SomeTurn, ReadDone}
use Rattle.client.specs.Older.{NotBelow}
use Rattle.client.proofs.Bytes.{one_stamp}
use Rattle.client.proofs.Client.{write_answers}
use Rattle.client.proofs.Held.{each_turn, each_finds, start}
use Rattle.client.proofs.OneItem.{known_item}
use Rattle.client.proofs.Older.{never_below}
use Rattle.client.proofs.SameStamp.{Fair, found_written}
use Rattle.client.proofs.Slots.{EachBrings}
use Rattle.report.proofs.Sendable.{write_made}
use Rattle.safety.specs.Run.{Life, Nodes, Ours, Reading}
use Rattle.safety.specs.Safety.{OwnNumbers, HonestLives, FewOthers, NoneAlike, cross_borne, NeverOlder}
use Rattle.safety.specs.Done.{Done, HonestQuorum, Saved, After}
use Rattle.safety.proofs.Rounds.{each_of, each_at, calls_of, calls_on}
use Rattle.safety.proofs.Heeds.{all_heed}
use Rattle.safety.proofs.Theorem.{all_apart, opens_free, sheet_safe}
use Rattle.safety.proofs.Done.{life_of, done_is_executed, saved_is_executed}

pub early_lives : {p : Plan} (N : Nodes) → HonestLives p N → (i : ℕ) → i < p.n → N.honest i ≡ true → Life p i (N.early i)
early_lives {p} N lives i l h = life_of p i (N.early i) (N.late i) (lives i l h)

-- ---- the item and the time of a save that is done
pub record Made (p : Plan) (item : List ℕ) (v : Timestamp) : Type 0 where
  pub at : ℕ
  pub low : 1 ≤ at
  pub high : at < 256 ^ 8
  pub size : length item ≡ p.m * p.f
  pub is : v ≡ stamp_for p at item

pub saved_made : {p : Plan} (save : Ours Write p) (item : List ℕ) (v : Timestamp) → Saved save item v → Made p item v
saved_made {p} save item v w =
    let z = w.done in
    let s = last_session save.opened.session z.before in
    let d = last_desk save.desk z.before in
    let c = subst (Calls (WriteTurn p) save.opened.session save.desk) z.is save.calls in
    let last = (calls_on (WriteTurn p) save.opened.session save.desk z.before (z.last ∷ []) c).0 in
    let g = subst (WriteGives p s z.last.reply d (length z.last.item)) z.says
    (write_answers p s z.last.reply d z.last.item z.last.took z.last.desk_left last.1) in
    let m = write_made (λ (i : List ℕ). i ≡ item) p save.ask save.opened save.desk z.before save.opens save.accepted w.long
    (calls_of (WriteTurn p) save.opened.session save.desk z.before (z.last ∷ []) c)
    (each_of (λ (t : Turn). t.item ≡ item) z.before (z.last ∷ []) (subst (EachTurn (λ (t : Turn). t.item ≡ item)) z.is w.lent)) g.stores in
    record { at = m.at; low = m.low; high = m.high; size = ap length (sym m.lent) ∙ m.whole; is = g.of ∙ m.stamped ∙ ap (stamp_for p m.at) m.lent }

-- WHAT WAS SAVED IS NEVER LOST TO AN OLDER SHEET
pub saved_is_never_lost : {p : Plan} (N : Nodes) (save : Ours Write p) (r : Reading p) (item : List ℕ) (v : Timestamp) → HonestLives p N → FewOthers p N
    → Saved save item v → OwnNumbers N save N.early → After N r → NoneAlike p item r.turns
    → EachTurn (λ (t : Turn). NeverOlder (stamp_number v) item (said_of t.took.answer) t.item_left) r.turns
saved_is_never_lost {p} N save r item v lives few saved numbers after apart =
    let m = saved_made save item v saved in
    let q = saved_is_executed N save N.early (early_lives N lives) few numbers v saved.done in
    let h : HonestQuorum p N N.early p.q (stamp_number v) =
    record { executed = q.0.executed; enough = omega (arith, q.0.enough, q.1); honest = q.0.honest; each = q.0.each } in
    let e : stamp_number v ≡ stamp_number (stamp_for p m.at item) = ap stamp_number m.is in
    subst (λ (x : ℕ). EachTurn (λ (t : Turn). NeverOlder x item (said_of t.took.answer) t.item_left) r.turns) (sym e)
    (sheet_safe N r lives after m.at item saved.bytes m.size (subst (HonestQuorum p N N.early p.q) e h) apart)

-- ---- an earlier read that is done
module _ {p : Plan} (N : Nodes) (lives : HonestLives p N) (few : FewOthers p N) (earlier : Reading p) (v : Timestamp) (ended : Done earlier v)
    (numbers : OwnNumbers N earlier N.early) (r : Reading p) (after : After N r) where
  quorum : HonestQuorum p N N.early p.q (stamp_number v)
  quorum = done_is_executed N earlier N.early (early_lives N lives) few numbers v ended

  -- as the client's laws have it
  as_done : ReadDone p v ended.last.item_left
  as_done = go ended.before (subst (Calls (ReadTurn p) earlier.opened.session earlier.desk) ended.is earlier.calls)
    where
      said_last : (x : Turn) (xs : List Turn) → last_said x (xs ++ (ended.last ∷ [])) ≡ said_of ended.last.took.answer
      said_last x [] = refl
      said_last x (y ∷ xs) = said_last y xs

      item_last : (x : Turn) (xs : List Turn) → last_item x (xs ++ (ended.last ∷ [])) ≡ ended.last.item_left
      item_last x [] = refl
      item_last x (y ∷ xs) = item_last y xs

      made : (first : Turn) (rest : List Turn) → Calls (ReadTurn p) earlier.opened.session earlier.desk (first ∷ rest) → last_said first rest ≡ done v ended.rounds
          → last_item first rest ≡ ended.last.item_left → ReadDone p v ended.last.item_left
      made first rest c s l =
          record {
            ask = earlier.ask;
            opened = earlier.opened;
            opens = earlier.opens;
            accepted = earlier.accepted;
            desk = earlier.desk;
            first = first;
            rest = rest;
            calls = c;
            rounds = ended.rounds;
            says = s;
            left = l;
          }

      go : (before : List Turn) → Calls (ReadTurn p) earlier.opened.session earlier.desk (before ++ (ended.last ∷ [])) → ReadDone p v ended.last.item_left
      go [] c = made ended.last [] c ended.says refl
      go (x ∷ xs) c = made x (xs ++ (ended.last ∷ [])) c (said_last x xs ∙ ended.says) (item_last x xs)

  -- AT THE SAME TIMESTAMP THE SAME BYTES, where the item was validated
  pub later_read_same_bytes : p.clients ≡ Byzantine → NoneAlike p ended.last.item_left r.turns
      → EachTurn (λ (t : Turn). NeverOlder (stamp_number v) ended.last.item_left (said_of t.took.answer) t.item_left) r.turns
  later_read_same_bytes byzantine apart =
      let item = ended.last.item_left in
      let k = known_item p v item as_done in
      let e : stamp_number v ≡ stamp_number (stamp_for p v.time.0 item) = ap stamp_number (sym (k.stamped byzantine)) in
      subst (λ (x : ℕ). EachTurn (λ (t : Turn). NeverOlder x item (said_of t.took.answer) t.item_left) r.turns) (sym e)
      (sheet_safe N r lives after v.time.0 item k.octets k.long (subst (HonestQuorum p N N.early p.q) e quorum) apart)

  -- or where it is the timestamp of a write: the earlier read gave its bytes, and the later one gives them at that timestamp
  pub later_read_as_written : (at : ℕ) (item : List ℕ) → Octets item → length item ≡ p.m * p.f → v ≡ stamp_for p at item → NoneAlike p item earlier.turns → NoneAlike p item r.turns
      → (ended.last.item_left ≡ item) × EachTurn (λ (t : Turn). NeverOlder (stamp_number v) item (said_of t.took.answer) t.item_left) r.turns
  later_read_as_written at item bytes size made apart apart₂ =
      let F : ℕ → List ℕ → Type 0 = Fair p at item bytes size in
      let o = earlier in
      let found = each_at _ ended.before ended.last [] o.turns ended.is
      (each_finds F p o.opened.session o.desk o.turns (start F p o.ask o.opened o.opens o.accepted o.desk) o.calls
      (all_apart p item at bytes size o.opened.session o.desk o.turns o.calls apart)) v ended.rounds ended.says in
      let e : stamp_number v ≡ stamp_number (stamp_for p at item) = ap stamp_number made in (
        found_written p at item bytes size v ended.last.item_left e found,
        subst (λ (x : ℕ). EachTurn (λ (t : Turn). NeverOlder x item (said_of t.took.answer) t.item_left) r.turns) (sym e)
            (sheet_safe N r lives after at item bytes size (subst (HonestQuorum p N N.early p.q) e quorum) apart₂),
      )

  -- ---- under crash clients a set is not validated: the timestamps alone
  record Sound (turns : List Turn) (k : ℕ) (rec : List ℕ) : Type 0 where
    hashes : hashes_ok p k rec ≡ true
    octets : Octets rec
    borne : SomeTurn (λ (t : Turn). (bears p t.reply ≡ true) × (cross_of p rec ≡ cross_of p (body_of t.reply))) turns

  sound_brings : (s : Session) (d : List ℕ) (cs : List Turn) → Calls (ReadTurn p) s d cs → EachBrings (Sound cs) p cs
  sound_brings s d [] c = tt
  sound_brings s d (t ∷ cs) c = (
    λ k b l q. record { hashes = q.hashes; octets = octets_drop (head_bytes (version_of t.reply)) t.reply c.0.0; borne = inl (b, refl) },
    each_turn _ _ (λ e h k b l q. let w = h k b l q in record { hashes = w.hashes; octets = w.octets; borne = inr w.borne }) cs (sound_brings t.took.session t.desk_left cs c.1),
  )

  -- one timestamp, one verifier, one cross checksum
  sound_cross : (item : List ℕ) → NoneAlike p item r.turns → (j k : ℕ) (x y : List ℕ) → Sound r.turns j x → Sound r.turns k y → stamp x ≡ stamp_number v → stamp y ≡ stamp_number v
      → 40 ≤ length x → 40 ≤ length y → cross_of p x ≡ cross_of p y
  unfolding hashes_ok
  sound_cross item apart j k x y a b e f l m =
      apart (cross_of p x) (cross_of p y) (cross_borne a.borne) (cross_borne b.borne)
      (verified j x a.hashes ∙ one ∙ sym (verified k y b.hashes))
    where
      verified : (z : ℕ) (w : List ℕ) → hashes_ok p z w ≡ true → sha256 (cross_of p w) ≡ verifier_of w
      verified z w h = alike_is (sha256 (cross_of p w)) (verifier_of w) (both (alike (sha256 (cross_of p w)) (verifier_of w)) _ h).0

      one : verifier_of x ≡ verifier_of y
      one =
          sym (part_part x 0 40 8 32 (omega arith)) ∙ ap (λ (w : List ℕ). part w 8 32) (one_stamp x y a.octets b.octets l m (e ∙ sym f)) ∙ part_part y 0 40 8 32 (omega arith)

  not_below_crash : p.clients ≡ Crash → NoneAlike p ended.last.item_left r.turns → EachTurn (λ (t : Turn). NotBelow (stamp_number v) (said_of t.took.answer)) r.turns
  unfolding sound
  not_below_crash crash apart =
      never_below p (accepted_plan Read p r.ask r.opened r.opens r.accepted) (stamp_number v) quorum.executed quorum.enough (Sound r.turns) (λ k rec s. s.octets)
      (sound_cross ended.last.item_left apart) (λ u e a c z. rw crash) r.opened.session r.desk r.turns (opens_free p (stamp_number v) r) r.calls
      (sound_brings r.opened.session r.desk r.turns r.calls)
      (all_heed N r after.before lives after.numbers after.asks (stamp_number v) quorum.executed quorum.honest quorum.each)

  not_older : (ts : ℕ) (item left : List ℕ) (a : Said) → NeverOlder ts item a left → NotBelow ts a
  not_older ts item left (refused k) h = tt
  not_older ts item left still_open h = tt
  not_older ts item left (done stamp n) (inl h) = omega arith
  not_older ts item left (done stamp n) (inr h) = omega (arith, h.0)
  not_older ts item left (never_written n) h = h
  not_older ts item left (aborted n) h = tt
  not_older ts item left (rounds_spent n) h = tt
  not_older ts item left clock_spent h = h

  -- A LATER READ IS NEVER OLDER THAN AN EARLIER ONE, under either client model
  pub later_read_not_older : NoneAlike p ended.last.item_left r.turns → EachTurn (λ (t : Turn). NotBelow (stamp_number v) (said_of t.took.answer)) r.turns
  later_read_not_older apart = go p.clients refl
    where
      go : (x : Clients) → p.clients ≡ x → EachTurn (λ (t : Turn). NotBelow (stamp_number v) (said_of t.took.answer)) r.turns
      go Crash e = not_below_crash e apart
      go Byzantine e =
          each_turn _ _ (λ t h. not_older (stamp_number v) ended.last.item_left t.item_left (said_of t.took.answer) h) r.turns (later_read_same_bytes e apart)
