-- NEVER AN OLDER SHEET. Document 02, Q-5. Assumes nothing.
--   opens_free         an accepted read opens without a bound
--   all_apart          strings that are none alike do not clash: of each record that the read takes
--   sheet_safe         the theorem, of a timestamp of which Q honest nodes executed a record
--   never_an_older_sheet   the theorem
use Prim.{tt}
use Prim.Native.Nat.{ℕ, ◌*◌, ◌<◌}
use mathlib.Core.Path.{◌≡◌, refl, sym, ap, ◌∙◌, subst}
use mathlib.Core.Bool.{true}
use mathlib.Core.List.{List, [], ◌∷◌, ◌++◌}
use mathlib.Core.Logic.{◌⊎◌, inl, inr}
use native.Mathlib.Decide.{ℕ_discrete}
use native.Mathlib.Omega.{arith}
use lib.ListN.{length, drop}
use lib.Seq.{drop-append_seam}
use Rattle.octets.specs.Bytes.{Octets}
use Rattle.octets.proofs.Meaning.{octets_drop}
use Rattle.terms.specs.Stamp.{stamp, stamp_number}
use Rattle.terms.specs.declared.Plan.{Plan}
use Rattle.terms.specs.declared.Timestamp.{Timestamp}
use Rattle.fragments.specs.Fragments.{fragment}
use Rattle.frame.specs.Frame.{frame_node, body_of, head_bytes, version_of}
use Rattle.record.specs.Record.{prefix_of, cross_of, fragment_of, fragment_hash}
use Rattle.recover.specs.Records.{cross_for, stamp_for}
use Rattle.standing.specs.declared.Operation.TheVariants.{Read}
use Rattle.session.specs.declared.Session.{Session}
use Rattle.session.specs.Session.{Said, refused, still_open, done, never_written, aborted, rounds_spent, clock_spent, said_of}
use Rattle.session.specs.Reply.{bears}
use Rattle.session.proofs.Openings.{accepted_session, accepted_plan}
use Rattle.client.specs.Turns.{Turn, ReadTurn, Calls}
use Rattle.client.specs.Repair.{EachTurn}
use Rattle.client.specs.SameStamp.{Unlike}
use Rattle.client.specs.Older.{OpensAbove, NotBelow}
use Rattle.client.proofs.Bytes.{written_stamp}
use Rattle.client.proofs.Slots.{EachBrings}
use Rattle.client.proofs.Held.{each_finds, start}
use Rattle.client.proofs.SameStamp.{Fair, fair_cross, found_written}
use Rattle.client.proofs.Validation.{set_validates}
use Rattle.client.proofs.Older.{never_below}
use Rattle.safety.specs.Run.{Nodes, record_to, Reading}
use Rattle.safety.specs.Safety.{Hashed, cross_written, fragment_written, cross_borne, fragment_borne, NoneAlike, HonestLives, NeverOlder, Safety}
use Rattle.safety.specs.Done.{HonestQuorum, After}
use Rattle.safety.proofs.Heeds.{all_heed}

-- ---- strings
module _ (p : Plan) (item : List ℕ) where
  -- the same, of one more reply
  some_more : (t : Turn) (ts : List Turn) (x : List ℕ) → Hashed p item ts x → Hashed p item (t ∷ ts) x
  some_more t ts x (cross_written e) = cross_written e
  some_more t ts x (fragment_written k l e) = fragment_written k l e
  some_more t ts x (cross_borne k) = cross_borne (inr k)
  some_more t ts x (fragment_borne k) = fragment_borne (inr k)

  cut_prefix : (k : ℕ) (x y : List ℕ) → prefix_of p k ++ x ≡ prefix_of p k ++ y → x ≡ y
  cut_prefix k x y e = sym (drop-append_seam (prefix_of p k) x) ∙ ap (drop (length (prefix_of p k))) e ∙ drop-append_seam (prefix_of p k) y

  -- a record that a reply bore, of a node of the plan, does not clash with what was written
  unlike : (t : Turn) (ts : List Turn) → NoneAlike p item (t ∷ ts) → bears p t.reply ≡ true → frame_node t.reply < p.n → Unlike p item (frame_node t.reply) (body_of t.reply)
  unfolding fragment_hash
  unlike t ts h b l =
      let k = frame_node t.reply in
      let x = fragment_of p (body_of t.reply) in
      let y = fragment p.m p.f item k in
      record {
        cross = h (cross_of p (body_of t.reply)) (cross_for p item) (cross_borne (inl (b, refl))) (cross_written refl);
        fragments = λ e. cut_prefix k x y (h (prefix_of p k ++ x) (prefix_of p k ++ y) (fragment_borne (inl (b, refl))) (fragment_written k l refl) e);
      }

  pub all_apart : (time : ℕ) (bytes : Octets item) (whole : length item ≡ p.m * p.f) (s : Session) (d : List ℕ) (ts : List Turn) → Calls (ReadTurn p) s d ts → NoneAlike p item ts
      → EachBrings (Fair p time item bytes whole) p ts
  all_apart time bytes whole s d [] c h = tt
  all_apart time bytes whole s d (t ∷ ts) c h = (
    λ k b l q. record { hashes = q.hashes; octets = octets_drop (head_bytes (version_of t.reply)) t.reply c.0.0; unlike = λ e. unlike t ts h b l },
    all_apart time bytes whole t.took.session t.desk_left ts c.1 (λ x y a b. h x y (some_more t ts x a) (some_more t ts y b)),
  )

-- ---- an accepted read opens without a bound
pub opens_free : (p : Plan) (ts : ℕ) (r : Reading p) → OpensAbove ts r.opened.session
opens_free p ts r =
    subst (OpensAbove ts) (sym (accepted_session Read p r.ask r.opened r.opens r.accepted)) (record { opens = record { round = refl; marks = refl }; above = tt })

-- ---- both sayings of one call
both_of : (A B C : Turn → Type 0) → ((t : Turn) → A t → B t → C t) → (ts : List Turn) → EachTurn A ts → EachTurn B ts → EachTurn C ts
both_of A B C f [] a b = tt
both_of A B C f (t ∷ ts) a b = (f t a.0 b.0, both_of A B C f ts a.1 b.1)

never_older : (ts : ℕ) (item left : List ℕ) (a : Said) → NotBelow ts a → ((stamp : Timestamp) (n : ℕ) → a ≡ done stamp n → stamp_number stamp ≡ ts → left ≡ item) → NeverOlder ts item a left
never_older ts item left (refused k) b f = tt
never_older ts item left still_open b f = tt
never_older ts item left (done stamp n) b f = go (ℕ_discrete (stamp_number stamp) ts)
  where
    go : Dec (stamp_number stamp ≡ ts) → (ts < stamp_number stamp) ⊎ ((stamp_number stamp ≡ ts) × (left ≡ item))
    go (yes e) = inr (e, f stamp n refl e)
    go (no e) = inl (omega (arith, b, e))
never_older ts item left (never_written n) b f = b
never_older ts item left (aborted n) b f = tt
never_older ts item left (rounds_spent n) b f = tt
never_older ts item left clock_spent b f = b

-- ---- a timestamp of this item at this time, of which Q honest nodes executed a record early
module _ {p : Plan} (N : Nodes) (r : Reading p) (lives : HonestLives p N) (after : After N r) (time : ℕ) (item : List ℕ) (bytes : Octets item) (size : length item ≡ p.m * p.f) where
  abbrev ts : ℕ
  ts = stamp_number (stamp_for p time item)

  pub sheet_safe : HonestQuorum p N N.early p.q ts → NoneAlike p item r.turns → EachTurn (λ (t : Turn). NeverOlder ts item (said_of t.took.answer) t.item_left) r.turns
  sheet_safe quorum apart =
      let ok = accepted_plan Read p r.ask r.opened r.opens r.accepted in
      let F : ℕ → List ℕ → Type 0 = Fair p time item bytes size in
      let brings : EachBrings F p r.turns = all_apart p item time bytes size r.opened.session r.desk r.turns r.calls apart in
      let heeds = all_heed N r after.before lives after.numbers after.asks ts quorum.executed quorum.honest quorum.each in
      let low = never_below p ok ts quorum.executed quorum.enough F (λ k rec f. f.octets)
      (λ j k x y a b e z l m. fair_cross p time item bytes size j x a e l ∙ sym (fair_cross p time item bytes size k y b z m))
      (λ u e a c z. set_validates p time item bytes size u e a c z)
      r.opened.session r.desk r.turns (opens_free p ts r) r.calls brings heeds in
      let found = each_finds F p r.opened.session r.desk r.turns (start F p r.ask r.opened r.opens r.accepted r.desk) r.calls brings in
      both_of _ _ _
      (λ t b f. never_older ts item t.item_left (said_of t.took.answer) b
      (λ stamp n e z. found_written p time item bytes size stamp t.item_left z (f stamp n e))) r.turns low found

-- NEVER AN OLDER SHEET
pub never_an_older_sheet : Safety
never_an_older_sheet p run g =
    let w = run.write in
    let x = g.executed in
    sheet_safe run.nodes run.read g.honest (record { before = g.before; numbers = g.numbers; asks = g.asks }) w.time w.item w.bytes w.size
    (record {
      executed = run.executed;
      enough = x.enough;
      honest = x.honest;
      each = λ i l e. record { rec = record_to w i; of = written_stamp p w.time w.item w.size i l; executed = x.each i l e };
    })
    g.apart
