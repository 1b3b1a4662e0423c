-- One law for each hard need of the reader's functions. Assumes nothing.
use Prim.{Unit, tt}
use Rattle.std.specs.Prelude.{Result, Ok, Err}
use mathlib.Core.Path.{◌≡◌, refl, sym, ap, ap₂, ◌∙◌, subst}
use mathlib.Core.Bool.{Bool, true, false}
use mathlib.Core.List.{List}
use Prim.Native.Nat.{ℕ, ◌+◌, ◌*◌, ◌≤◌, ◌<◌}
use native.Mathlib.Omega.{arith}
use borrow.Author.Tests.{lt-leb, le-leb, eqb-true, eq-eqb, ne_eqb}
use lib.Dec.{eqb}
use lib.ListN.{length, get_or, drop}
use lib.Seq.{get_or-take}
use Rattle.octets.specs.Bytes.{part, put, num}
use Rattle.octets.proofs.Laws.{slot_room}
use Rattle.terms.specs.Ladder.{first}
use Rattle.terms.specs.declared.Refusal.{Refusal}
use Rattle.terms.specs.Terms.{plan_ok, record_length, refusal_number, slots_of, thresholds_of}
use Rattle.terms.specs.Stamp.{stamp}
use Rattle.terms.specs.declared.Plan.{Plan}
use Rattle.terms.specs.declared.Timestamp.{Timestamp}
use Rattle.terms.specs.declared.Verdict.{Verdict}
use Rattle.terms.specs.declared.Verdict.TheVariants.{Complete, Repair, Aborted, Incomplete}
use Rattle.terms.proofs.Rungs.{both}
use Rattle.terms.proofs.Plans.{plan_is}
use Rattle.fragments.proofs.Lists.{all_at}
use Rattle.terms.specs.declared.Slots.{Slots}
use Rattle.terms.specs.declared.Thresholds.{Thresholds}
use Rattle.session.proofs.Rules.{body_stamp}
use Rattle.std.proofs.Common.{Option, None, Some}
use Rattle.frame.specs.declared.Header.{Header}
use Rattle.frame.specs.Frame.{kind_of, frame_node, body_of, good_reply, framed, head_bytes, version_of, header_in}
use Rattle.frame.specs.Frame.{read_reply_kind}
use Rattle.frame.proofs.Frames.{reply_is, body_is}
use Rattle.rounds.specs.declared.Heard.TheVariants.{First, Record}
use Rattle.rounds.specs.declared.Close.{Close}
use Rattle.record.specs.Record.{hashes_ok, time_zero}
use Rattle.rounds.specs.Rounds.{listed, told, Closed, close_of, under_of}
use Rattle.rounds.proofs.Laws.{size_is}
use Rattle.recover.specs.Inside.{Usable}
use Rattle.recover.specs.Recover.{sound, decoded, collected, repaired}
use Rattle.session.specs.declared.Session.{Session}
use Rattle.standing.specs.Standing.{is_storing}
use Rattle.session.specs.Session.{marked_of, ended_of, next_of, storing_of, still_open, done, never_written, aborted, rounds_spent, refused, round_open}
use Rattle.standing.specs.declared.Operation.{Operation}
use Rattle.standing.specs.declared.Operation.TheVariants.{Read}
use Rattle.session.specs.Reply.{bears, reply_ladder, record_ladder, check_number, taken_number, Headed}
use Rattle.session.proofs.Known.{Known, known_reply}
use Rattle.session.proofs.Checks.{goes_on as ladder_goes_on, check_passed, check_failed}
use Rattle.session.proofs.Closings.{Led, led, lead_low, nodes_below, sized, sized_whole}
use Rattle.session.specs.Inside.{Acting}
use Rattle.session.specs.Reader.{Outcome, outcome, failing, act_on, act_for, acted, closed, settled, heard, stored, accepted, read_reply}

-- ---- each way that a closed round can go
module _ (p : Plan) (s : Session) (t : Timestamp) (d i : List ℕ) where
  pub spent : (e : Session) → p.w ≤ s.round.number → e ≡ ended_of s → outcome (rounds_spent s.round.number) e d i ≡ failing p s t d i
  unfolding failing
  spent e h q = rw (le-leb p.w s.round.number h, q)

  pub goes_on : (e : Session) → s.round.number < p.w → e ≡ next_of s t → outcome still_open e d i ≡ failing p s t d i
  unfolding failing
  goes_on e h q = rw (lt-leb p.w s.round.number h, q)

module _ (p : Plan) (s : Session) (c : Closed) (a : ℕ) (d i : List ℕ) (v : Verdict) where
  pub act_done : (x : Bool) (e : Session) (y : List ℕ) → v ≡ Complete → x ≡ sound p c a d → x ≡ true → e ≡ ended_of s → y ≡ decoded p c d i
      → outcome (done c.stamp s.round.number) e d y ≡ act_on v p s c a d i
  unfolding act_on
  act_done x e y k f t q r = rw (k, ← f, t, q, r)

  pub act_ill : (x : Bool) (o : Outcome) → v ≡ Complete → x ≡ sound p c a d → x ≡ false → o ≡ failing p s c.stamp d i → o ≡ act_on v p s c a d i
  unfolding act_on
  act_ill x o k f t q = q ∙ rw (k, ← f, t)

  pub act_repair : (x : Bool) (e : Session) (y : List ℕ) → v ≡ Repair → x ≡ sound p c a d → x ≡ true → e ≡ storing_of s c.stamp → y ≡ repaired p c a d
      → outcome still_open e y i ≡ act_on v p s c a d i
  unfolding act_on
  act_repair x e y k f t q r = rw (k, ← f, t, q, r)

  pub act_unsound : (x : Bool) (o : Outcome) → v ≡ Repair → x ≡ sound p c a d → x ≡ false → o ≡ failing p s c.stamp d i → o ≡ act_on v p s c a d i
  unfolding act_on
  act_unsound x o k f t q = q ∙ rw (k, ← f, t)

  pub act_aborted : (e : Session) → v ≡ Aborted → e ≡ ended_of s → outcome (aborted s.round.number) e d i ≡ act_on v p s c a d i
  unfolding act_on
  act_aborted e k q = rw (k, q)

  pub act_incomplete : (o : Outcome) → v ≡ Incomplete → o ≡ failing p s c.stamp d i → o ≡ act_on v p s c a d i
  unfolding act_on
  act_incomplete o k q = q ∙ rw k

module _ (p : Plan) (s : Session) (c : Closed) (d i : List ℕ) where
  pub act_never : (e : Session) → c.lead ≡ None → e ≡ ended_of s → outcome (never_written s.round.number) e d i ≡ acted p s c d i
  unfolding act_for
  act_never e k q = rw (k, q)

  pub act_led : (a : ℕ) (o : Outcome) → c.lead ≡ Some a → o ≡ act_on c.verdict p s c a d i → o ≡ acted p s c d i
  unfolding act_for
  act_led a o k q = q ∙ rw k

-- ---- a close that is this round's can be acted on
module _ (p : Plan) (s : Session) (d : List ℕ) (c : Close) (ok : plan_ok p ≡ true) (l : length d ≡ p.n * record_length p)
    (t : told c ≡ closed p s d) (len : length c.set.nodes ≡ 16) (few : c.set.size ≤ p.n) where
  is_led : (a : ℕ) → c.lead ≡ Some a → Led p s d a
  is_led a e = led p s d a (sym (ap (λ (x : Closed). x.lead) t) ∙ e)

  usable : (a : ℕ) → c.lead ≡ Some a → p.m ≤ length (closed p s d).nodes → Usable p c a d
  usable a e m =
      let k = is_led a e in
      let same : listed c.set ≡ (closed p s d).nodes = ap (λ (x : Closed). x.nodes) t in
      let size : c.set.size ≡ length (closed p s d).nodes = size_is c.set (closed p s d).nodes len (omega (arith, (plan_is p ok).n_high)) same in
      record {
        plan = ok;
        desk = l;
        lead = lead_low p s d a k;
        nodes = len;
        size = omega arith;
        below = λ j u.
            let b : get_or (closed p s d).nodes j 0 < p.n = all_at (λ (y : ℕ). y < p.n) (closed p s d).nodes (nodes_below p s d a k) j (omega arith) in
            let g : get_or c.set.nodes j 0 ≡ get_or (closed p s d).nodes j 0 =
            sym (get_or-take c.set.size c.set.nodes j 0 (omega arith)) ∙ ap (λ (x : List ℕ). get_or x j 0) same in
            omega (arith, b, g);
      }

  pub acting : (i : List ℕ) → length i ≡ p.m * p.f → Acting p c d i
  acting i li =
      let verdict : c.verdict ≡ (closed p s d).verdict = ap (λ (x : Closed). x.verdict) t in
      record {
        plan = ok;
        item = li;
        whole = λ a e v. usable a e (sized_whole p s d a (is_led a e) ok (sym verdict ∙ v));
        half = λ a e v. usable a e (sized p s d a (is_led a e) ok (sym verdict ∙ v));
      }

-- ---- after a mark
module _ (p : Plan) (s : Session) (d i : List ℕ) (x : Bool) (e : x ≡ round_open p s) where
  pub settled_open : x ≡ true → outcome still_open s d i ≡ settled p s d i
  unfolding settled
  settled_open h = rw (← e, h)

  pub settled_acts : (o : Outcome) (c : Closed) → x ≡ false → c ≡ closed p s d → o ≡ acted p s c d i → o ≡ settled p s d i
  unfolding settled
  settled_acts o c h k q = q ∙ rw (k, ← e, h)

  pub stored_open : x ≡ true → outcome still_open s d i ≡ stored p s d i
  unfolding stored
  stored_open h = rw (← e, h)

  pub stored_done : (o : Session) (y : List ℕ) → x ≡ false → o ≡ ended_of s → y ≡ collected p d i
      → outcome (done s.stamp s.round.number) o d y ≡ stored p s d i
  unfolding stored
  stored_done o y h q r = rw (← e, h, q, r)

-- ---- an accepted reply
module _ (p : Plan) (s : Session) (f d i : List ℕ) (x : Bool) (b : x ≡ bears p f) where
  pub heard_first : (k : ℕ) (m : Session) (o : Outcome) → x ≡ false → k ≡ frame_node f → m ≡ marked_of s k First → o ≡ settled p m d i → o ≡ heard p s f d i
  unfolding heard
  heard_first k m o t e g q = q ∙ rw (← b, t, g, e)

  pub heard_record : (k : ℕ) (m : Session) (d₂ : List ℕ) (o : Outcome) → x ≡ true → k ≡ frame_node f → m ≡ marked_of s k Record
      → d₂ ≡ put d (k * record_length p) (body_of f) → o ≡ settled p m d₂ i → o ≡ heard p s f d i
  unfolding heard
  heard_record k m d₂ o t e g w q = q ∙ rw (← b, t, g, w, e)

-- the test for a record, one after the other
pub bears_not : (p : Plan) (f : List ℕ) (h : Header) → h ≡ header_in f → (h.kind ≡ read_reply_kind → ⊥) → false ≡ bears p f
unfolding bears
bears_not p f h i n = rw (ne_eqb (kind_of f) read_reply_kind (λ e. n (ap (λ (g : Header). g.kind) i ∙ e)))

pub bears_last : (p : Plan) (f : List ℕ) (h : Header) (at r : ℕ) → h ≡ header_in f → h.kind ≡ read_reply_kind → at ≡ head_bytes h.version → r ≡ record_length p
    → eqb (length f) (at + r) ≡ bears p f
unfolding bears
bears_last p f h at r i k ea er = rw (eq-eqb (kind_of f) read_reply_kind (sym (ap (λ (g : Header). g.kind) i) ∙ k)) (λ j. eqb (length f) (ea j + er j))

-- what a reply that bears a record is
pub bears_is : (p : Plan) (f : List ℕ) (x : Bool) → x ≡ bears p f → x ≡ true → (kind_of f ≡ read_reply_kind) × (length f ≡ framed (version_of f) (record_length p))
unfolding bears
bears_is p f x e t =
    let q = both (eqb (kind_of f) read_reply_kind) _ (sym e ∙ t) in
    (eqb-true (kind_of f) read_reply_kind q.0, eqb-true (length f) (framed (version_of f) (record_length p)) q.1)

pub body_at : (p : Plan) (f : List ℕ) (at r : ℕ) → at ≡ head_bytes (version_of f) → r ≡ record_length p → length f ≡ framed (version_of f) (record_length p) → part f at r ≡ body_of f
body_at p f at r ea e l = (λ i. part f (ea i) (e i)) ∙ sym (body_is (head_bytes (version_of f)) f (record_length p) l)

pub accept_stored : (p : Plan) (s : Session) (f d i : List ℕ) (x : Bool) (k : ℕ) (m : Session) (o : Outcome) → x ≡ is_storing s.round.stage → x ≡ true
    → k ≡ frame_node f → m ≡ marked_of s k Record → o ≡ stored p m d i → o ≡ accepted p s f d i
unfolding accepted
accept_stored p s f d i x k m o e t n g q = q ∙ rw (← e, t, g, n)

pub accept_heard : (p : Plan) (s : Session) (f d i : List ℕ) (x : Bool) (o : Outcome) → x ≡ is_storing s.round.stage → x ≡ false → o ≡ heard p s f d i → o ≡ accepted p s f d i
unfolding accepted
accept_heard p s f d i x o e t q = q ∙ rw (← e, t)

-- what is known where a reply passed
pub check_passes : (op : Operation) (p : Plan) (s : Session) (f d : List ℕ) (item : ℕ) (k : Result Header Refusal) → taken_number k ≡ first (reply_ladder op p s f d item) (λ (n : ℕ). n) 0
    → (h : Header) → k ≡ Ok h → Known (reply_ladder op p s f d item) p s d
check_passes op p s f d item k e h q = known_reply op p s f d item (check_passed (reply_ladder op p s f d item) (taken_number k) e (ap taken_number q))

pub header_read : (k : Result Header Refusal) (f : List ℕ) → Headed k f → (h : Header) → k ≡ Ok h → h ≡ header_in f
header_read k f e h q = subst (λ (x : Result Header Refusal). Headed x f) q e

-- ---- the call
module _ (p : Plan) (s : Session) (f d i : List ℕ) (k : Result Header Refusal) (e : taken_number k ≡ first (reply_ladder Read p s f d (length i)) (λ (n : ℕ). n) 0) where
  pub refused_early : (r : Refusal) → k ≡ Err r → outcome (refused (refusal_number r)) s d i ≡ read_reply p s f d i
  unfolding read_reply first
  refused_early r q = check_failed (reply_ladder Read p s f d (length i)) (taken_number k) e (λ (n : ℕ). outcome (refused n) s d i) _ r (ap taken_number q)

  module _ (j : Result (Unit {0}) Refusal) (g : check_number j ≡ first (record_ladder p s f) (λ (n : ℕ). n) 0) (h : Header) (q : k ≡ Ok h) where
    past : first (record_ladder p s f) (λ (n : ℕ). outcome (refused n) s d i) (accepted p s f d i) ≡ read_reply p s f d i
    unfolding read_reply first
    past =
        ladder_goes_on (λ (n : ℕ). outcome (refused n) s d i) _ (reply_ladder Read p s f d (length i)) refl
        (check_passed (reply_ladder Read p s f d (length i)) (taken_number k) e (ap taken_number q))

    pub refused_late : (r : Refusal) → j ≡ Err r → outcome (refused (refusal_number r)) s d i ≡ read_reply p s f d i
    refused_late r w = check_failed (record_ladder p s f) (check_number j) g (λ (n : ℕ). outcome (refused n) s d i) (accepted p s f d i) r (ap check_number w) ∙ past

    pub accepts : (o : Outcome) → j ≡ (Ok tt) → o ≡ accepted p s f d i → o ≡ read_reply p s f d i
    accepts o w a =
        a ∙ ladder_goes_on (λ (n : ℕ). outcome (refused n) s d i) (accepted p s f d i) (record_ladder p s f) refl
        (check_passed (record_ladder p s f) (check_number j) g (ap check_number w)) ∙ past

-- ---- the close, with the slots and the thresholds that the code worked out
pub desk_room : (p : Plan) (slots : Slots) → slots ≡ slots_of p → (d : List ℕ) → length d ≡ p.n * record_length p → slots.n * slots.size ≤ length d
desk_room p slots e d l = rw e (omega arith)

pub closed_is : (p : Plan) (s : Session) (d : List ℕ) (x : Closed) (slots : Slots) (t : Thresholds) → slots ≡ slots_of p → t ≡ thresholds_of p
    → x ≡ close_of s.marks d slots p.member t → x ≡ closed p s d
closed_is p s d x slots t e f q = q ∙ rw (e, f)

-- ---- rungs 5, 6, 12
pub no_record : (p : Plan) (s : Session) (f : List ℕ) → bears p f ≡ false → 0 ≡ first (record_ladder p s f) (λ (n : ℕ). n) 0
unfolding first
no_record p s f t = rw t

pub bears_length : (p : Plan) (f : List ℕ) → bears p f ≡ true → length f ≡ framed (version_of f) (record_length p)
bears_length p f t = (bears_is p f (bears p f) refl t).1

pub zero_at : (f : List ℕ) (at : ℕ) (y : Bool) → at ≡ head_bytes (version_of f) → y ≡ time_zero (drop at f) → y ≡ time_zero (body_of f)
zero_at f at y e q = q ∙ ap (λ (n : ℕ). time_zero (drop n f)) e

pub under_at : (f : List ℕ) (b : Option Timestamp) (at : ℕ) (y : Bool) → at ≡ head_bytes (version_of f) → y ≡ under_of b (num (part f at 40)) → y ≡ under_of b (stamp (body_of f))
under_at f b at y e q = q ∙ ap (λ (n : ℕ). under_of b (num (part f n 40))) e ∙ ap (under_of b) (body_stamp f)

pub hashes_at : (p : Plan) (f : List ℕ) (k at : ℕ) → bears p f ≡ true → k ≡ frame_node f → at ≡ head_bytes (version_of f) → (y : Bool)
    → y ≡ hashes_ok p k (part f at (record_length p)) → y ≡ hashes_ok p (frame_node f) (body_of f)
hashes_at p f k at t e ea y q = q ∙ ap₂ (hashes_ok p) e (body_at p f at (record_length p) ea refl (bears_length p f t))

-- ---- a record in its slot
pub slot_fits_desk : (p : Plan) (f d : List ℕ) (k r : ℕ) → good_reply p f ≡ true → k ≡ frame_node f → r ≡ record_length p → length d ≡ p.n * record_length p
    → k * r + r ≤ length d
slot_fits_desk p f d k r g e q l =
    let n : k < p.n = omega (arith, e, (reply_is p f g).node_low) in
    rw q (slot_room k p.n (record_length p) (length d) n (omega arith))

pub slot_body : (p : Plan) (f d : List ℕ) (k at r : ℕ) (x : Bool) → x ≡ bears p f → x ≡ true → at ≡ head_bytes (version_of f) → r ≡ record_length p
    → put d (k * r) (part f at r) ≡ put d (k * record_length p) (body_of f)
slot_body p f d k at r x b t ea q =
    ap (λ (g : List ℕ). put d (k * r) g) (body_at p f at r ea q (bears_is p f x b t).1) ∙ ap (λ (n : ℕ). put d (k * n) (body_of f)) q
