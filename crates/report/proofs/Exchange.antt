-- One exchange between a client and a node, over plain variables.
--   Quiet quiet_given  no rung of some numbers applies; then a refusal that is given is none of them
--   AtNode AtClient    what a node asks of a request (4, 5, 6), and a client of a reply (4, 5, 6, 10, 12)
--   Sendable           what is known of a session and its desk where a request is owed
--   Written was_written   a call that wrote a request, cut off from its buffer
--   request_passes     a request that is owed passes at its node; not_refused_there: so a call is not refused for it
--   reply_passes       the reply to it, from a good book whose records pass, passes at the session that asked
-- Assumes nothing.
use Rattle.std.specs.Prelude.{Result, Ok, Err}
use Prim.{Unit, tt}
use Prim.Native.Nat.{ℕ, ◌+◌, ◌-◌, ◌*◌, ◌^◌, ◌≤◌, ◌<◌}
use mathlib.Core.Path.{◌≡◌, refl, sym, ap, ◌∙◌, subst}
use mathlib.Core.Bool.{Bool, true, false, cond, not}
use mathlib.Core.List.{List, [], ◌∷◌, ◌++◌}
use mathlib.Core.Logic.{◌⊎◌, inl, inr}
use native.Mathlib.Omega.{arith}
use borrow.Author.Tests.{eq-eqb, ne_eqb, not-false, ltb-true}
use lib.Dec.{eqb, ltb}
use lib.ListN.{length, take}
use Rattle.octets.specs.Bytes.{num, be, over}
use Rattle.octets.proofs.Laws.{length_part, length_be, part_part}
use Rattle.terms.specs.Ladder.{Rung, on, Given, ◌and◌}
use Rattle.terms.specs.Stamp.{stamp, time, stamp_number}
use Rattle.terms.specs.Terms.{plan_ok, record_length, refusal_number}
use Rattle.terms.specs.declared.Plan.{Plan}
use Rattle.terms.specs.declared.Refusal.{Refusal}
use Rattle.terms.specs.declared.Timestamp.{Timestamp}
use Rattle.terms.proofs.Down.{clear}
use Rattle.terms.proofs.Ladders.{by_ladder}
use Rattle.terms.proofs.Picks.{neither}
use Rattle.terms.proofs.Places.{record_length_lem}
use Rattle.terms.proofs.Plans.{plan_is}
use Rattle.terms.proofs.Rungs.{clash}
use Rattle.frame.specs.declared.Header.{Header}
use Rattle.frame.specs.declared.Party.TheVariants.{Node, Client}
use Rattle.frame.specs.Frame.{time_request_kind, time_reply_kind, write_request_kind, write_reply_kind, read_latest_kind, read_previous_kind, read_reply_kind, framed, kind_of, frame_node, ask_of, header_in, header_of, body_of, frame, frame_of, replying, body_fits, for_party, one_of, good_request, good_reply, version_of}
use Rattle.frame.proofs.Frames.{request_back, reply_back}
use Rattle.frame.proofs.Built as built
use Rattle.record.specs.Record.{stamp_of, hashes_ok, time_zero}
use Rattle.record.specs.Desk.{slot_of}
use Rattle.std.proofs.Common.{Option, None, Some}
use Rattle.rounds.specs.Rounds.{under_of}
use Rattle.standing.specs.Standing.{ask_in, awaits_in, is_ended, is_read, is_storing, read_request}
use Rattle.standing.proofs.Rules.{room_is}
use Rattle.session.specs.declared.Session.{Session}
use Rattle.session.specs.Session.{ask_now, awaits_kind}
use Rattle.session.specs.Ranges.{in_range}
use Rattle.session.specs.Reply.{awaited, bears}
use Rattle.session.specs.Owed.{owed_ladder, request_of, refused, written, Dues, dues, owed_to, OwedCall}
use Rattle.session.proofs.Rules.{range_stands, ask_high}
use Rattle.book.specs.Records.{last_of, last_below, those}
use Rattle.book.specs.Book.{book_head, good_book, node_of, count_of, records_of}
use Rattle.book.proofs.Laid as laid
use Rattle.book.proofs.Laid.{Sized}
use Rattle.book.proofs.Laws as books
use Rattle.node.specs.Node.{time_fails, hash_fails, node_ladder, reply_to, NodeCall}
use Rattle.store.specs.Deliver.{Among}
use Rattle.store.specs.History.{AllPass}
use Rattle.store.proofs.Node as calls
use Rattle.client.proofs.Slots.{long_slot}
use Rattle.store.proofs.Replies.{cut_off, replied_frame}
use Rattle.store.proofs.Latest.{last_of_lem, those_of, sized_of}
use Rattle.client.specs.Held.{Passed}
use Rattle.report.specs.Together.{NoneOf}

-- ---- ladders
-- no rung of these numbers applies
abbrev pub Quiet : List ℕ → List Rung → Type 0
Quiet ks [] = Unit {0}
Quiet ks (x ∷ xs) = (one_of x.number ks ≡ true → x.applies ≡ false) × Quiet ks xs

quiet_after : (ks : List ℕ) (before after : List Rung) (x : Rung) → Quiet ks (before ++ (x ∷ after)) → one_of x.number ks ≡ true → x.applies ≡ false
quiet_after ks [] after x q = q.0
quiet_after ks (y ∷ before) after x q = quiet_after ks before after x q.1

pub quiet_given : (ks : List ℕ) (l : List Rung) → Quiet ks l → (k : ℕ) → Given l k → one_of k ks ≡ false
quiet_given ks l q k g = go (one_of k ks) refl
  where
    go : (t : Bool) → one_of k ks ≡ t → t ≡ false
    go true e = absurd (clash (quiet_after ks g.before g.after (on k true) (subst (Quiet ks) g.is q) e))
    go false e = refl

-- ---- frames
-- what a node asks of a request, and a client of a reply
pub record AtNode (p : Plan) (S : ℕ) (f : List ℕ) : Type 0 where
  pub good : good_request p S f ≡ true
  pub timed : time_fails (header_in f) (body_of f) ≡ false
  pub hashed : hash_fails p (header_in f) (body_of f) ≡ false

pub record AtClient (p : Plan) (s : Session) (f : List ℕ) : Type 0 where
  pub good : good_reply p f ≡ true
  pub await : awaited s f ≡ true
  pub timed : (bears p f and time_zero (body_of f)) ≡ false
  pub hashed : (bears p f and not (hashes_ok p (frame_node f) (body_of f))) ≡ false
  pub under : (bears p f and not (under_of s.round.bound (stamp (body_of f)))) ≡ false

-- a time that is not 0
not_zero : (rec : List ℕ) → 1 ≤ time rec → time_zero rec ≡ false
unfolding time_zero
not_zero rec h = ne_eqb (time rec) 0 (λ z. omega arith)

-- ask number, kind and timestamp are the ones awaited
awaits : (s : Session) (f : List ℕ) → ask_of f ≡ ask_now s → awaits_kind s (kind_of f) ≡ true
    → (is_storing s.round.stage ≡ false) ⊎ (stamp (body_of f) ≡ stamp_number s.stamp) → awaited s f ≡ true
unfolding awaited
awaits s f a w (inl e) = rw (eq-eqb (ask_of f) (ask_now s) a, w, e)
awaits s f a w (inr e) = rw (eq-eqb (ask_of f) (ask_now s) a, w, eq-eqb (stamp (body_of f)) (stamp_number s.stamp) e) (either (not (is_storing s.round.stage)))
  where
    either : (t : Bool) → cond t true true ≡ true
    either true = refl
    either false = refl

-- a record is short
short_record : (p : Plan) → plan_ok p ≡ true → record_length p ≤ 1576
unfolding record_length
short_record p ok = let q = plan_is p ok in omega (arith, q.n_high, q.f_high)

module _ (p : Plan) (ok : plan_ok p ≡ true) (S ask : ℕ) (low : S < p.n) (small : ask < 256 ^ 8) (kind : ℕ) (body : List ℕ) (k : kind < 256) (short : length body ≤ 1576) where
  abbrev h : Header
  h = header_of kind S ask

  abbrev f : List ℕ
  f = frame kind S ask body

  S_small : S < 256
  S_small = omega (arith, (plan_is p ok).n_high)

  header : header_in f ≡ h
  header = built.header_frame h body (omega arith) k S_small small

  pub at_node : for_party Node kind ≡ true → body_fits p kind (length body) ≡ true → time_fails h body ≡ false → hash_fails p h body ≡ false → AtNode p S f
  at_node fp bf t x =
      record {
        good = request_back p S f (record { frame_is = built.built_good h body Node p refl k (omega arith) fp bf; node_is = built.node_frame h body S_small });
        timed = (λ i. time_fails (header i) (built.body_frame h body i)) ∙ t;
        hashed = (λ i. hash_fails p (header i) (built.body_frame h body i)) ∙ x;
      }

  good_reply_lem : for_party Client kind ≡ true → body_fits p kind (length body) ≡ true → good_reply p f ≡ true
  good_reply_lem fp bf =
      reply_back p f (record { frame_is = built.built_good h body Client p refl k (omega arith) fp bf; node_low = rw (built.node_frame h body S_small) low })

  -- what the body of a read reply may be: none, or a record that passes, below the bound
  abbrev Borne : Session → Type 0
  Borne s = (kind ≡ read_reply_kind → ⊥) ⊎ ((length body ≡ 0) ⊎ (Passed p S body × (under_of s.round.bound (stamp body) ≡ true)))

  no_record : length body ≡ 0 → bears p f ≡ false
  unfolding bears
  no_record e =
      rw (ne_eqb (length f) (framed (version_of f) (record_length p)) (λ z. omega (arith, built.length_frame h body, record_length_lem p)))
      (neither (eqb (kind_of f) read_reply_kind))

  other_kind : (kind ≡ read_reply_kind → ⊥) → bears p f ≡ false
  unfolding bears
  other_kind n = rw (ne_eqb (kind_of f) read_reply_kind (λ z. n (sym (built.kind_frame h body k) ∙ z)))

  pub at_client : for_party Client kind ≡ true → body_fits p kind (length body) ≡ true → (s : Session) → ask_now s ≡ ask → awaits_kind s kind ≡ true
      → (is_storing s.round.stage ≡ false) ⊎ (stamp body ≡ stamp_number s.stamp) → Borne s → AtClient p s f
  at_client fp bf s a w z b = by b
    where
      node : frame_node f ≡ S
      node = built.node_frame h body S_small

      whole : body_of f ≡ body
      whole = built.body_frame h body

      await : awaited s f ≡ true
      await = awaits s f (built.ask_frame h body small ∙ sym a) (ap (awaits_kind s) (built.kind_frame h body k) ∙ w) (stamped z)
        where
          stamped : (is_storing s.round.stage ≡ false) ⊎ (stamp body ≡ stamp_number s.stamp) → (is_storing s.round.stage ≡ false) ⊎ (stamp (body_of f) ≡ stamp_number s.stamp)
          stamped (inl e) = inl e
          stamped (inr e) = inr (ap (λ (x : List ℕ). stamp x) whole ∙ e)

      bare : bears p f ≡ false → AtClient p s f
      bare e = record { good = good_reply_lem fp bf; await = await; timed = rw e; hashed = rw e; under = rw e }

      by : Borne s → AtClient p s f
      by (inl n) = bare (other_kind n)
      by (inr (inl e)) = bare (no_record e)
      by (inr (inr e)) =
          record {
            good = good_reply_lem fp bf;
            await = await;
            timed = rw (whole, not_zero body e.0.timed) (neither (bears p f));
            hashed = rw (whole, node, e.0.hashes) (neither (bears p f));
            under = rw (whole, e.1) (neither (bears p f));
          }

-- ---- a request that is owed
-- what is known of a session and its desk: a bound has a time, and in a write or repair round every slot is a record of the timestamp being written
pub record Sendable (p : Plan) (s : Session) (d : List ℕ) : Type 0 where
  pub bound : is_storing s.round.stage ≡ false → is_read s.operation ≡ true → (u : Timestamp) → s.round.bound ≡ Some u → (1 ≤ time (be 40 (stamp_number u))) × (stamp (be 40 (stamp_number u)) ≡ stamp_number u)
  pub slots : is_storing s.round.stage ≡ true → (k : ℕ) → k < p.n → Passed p k (slot_of p d k) × (stamp (slot_of p d k) ≡ stamp_number s.stamp)

-- the frame that is owed, by the round
pub data Owes (p : Plan) (s : Session) (S : ℕ) (d : List ℕ) (f : List ℕ) : Type 0 where
  time_due : is_storing s.round.stage ≡ false → is_read s.operation ≡ false → f ≡ frame time_request_kind S (ask_now s) [] → Owes p s S d f
  latest_due : is_storing s.round.stage ≡ false → is_read s.operation ≡ true → s.round.bound ≡ None → f ≡ frame read_latest_kind S (ask_now s) [] → Owes p s S d f
  previous_due : is_storing s.round.stage ≡ false → is_read s.operation ≡ true → (u : Timestamp) → s.round.bound ≡ Some u
      → f ≡ frame read_previous_kind S (ask_now s) (be 40 (stamp_number u)) → Owes p s S d f
  record_due : is_storing s.round.stage ≡ true → f ≡ frame write_request_kind S (ask_now s) (slot_of p d S) → Owes p s S d f

pub owes : (p : Plan) (s : Session) (S : ℕ) (d : List ℕ) → Owes p s S d (request_of p s S d)
unfolding request_of read_request
owes p s S d = go (is_storing s.round.stage) refl (is_read s.operation) refl
  where
    by_bound : is_storing s.round.stage ≡ false → is_read s.operation ≡ true → (b : Option Timestamp) → s.round.bound ≡ b → Owes p s S d (read_request b S (ask_now s))
    by_bound x y None e = latest_due x y e refl
    by_bound x y (Some u) e = previous_due x y u e refl

    go : (t : Bool) → is_storing s.round.stage ≡ t → (r : Bool) → is_read s.operation ≡ r
        → Owes p s S d (cond t (frame write_request_kind S (ask_now s) (slot_of p d S)) (cond r (read_request s.round.bound S (ask_now s)) (frame time_request_kind S (ask_now s) [])))
    go true x r y = record_due x refl
    go false x true y = by_bound x y s.round.bound refl
    go false x false y = time_due x y refl

-- a call that wrote a request
pub record Written (p : Plan) (s : Session) (S : ℕ) (d : List ℕ) (f : List ℕ) : Type 0 where
  pub plan : plan_ok p ≡ true
  pub desk : length d ≡ p.n * record_length p
  pub range : in_range p s d ≡ true
  pub going : is_ended s.round.stage ≡ false
  pub low : S < p.n
  pub ask : ask_now s < 256 ^ 8
  pub is : f ≡ request_of p s S d

module _ (p : Plan) (s : Session) (S : ℕ) (d q : List ℕ) (n : ℕ) (q₂ : List ℕ) (call : OwedCall p s S d q (Ok n) q₂) where
  ask_small : in_range p s d ≡ true → ask_now s < 256 ^ 8
  unfolding ask_in
  ask_small r = go (is_storing s.round.stage)
    where
      go : (t : Bool) → cond t (s.opening.0 + s.round.number) (s.opening.0 + (s.round.number - 1)) < 256 ^ 8
      go true = omega (arith, ask_high p s (range_stands p s d r))
      go false = omega (arith, ask_high p s (range_stands p s d r))

  pub was_written : Written p s S d (take n q₂)
  unfolding owed_to
  was_written =
      by_ladder (λ (x : Dues). dues (written n) q₂ ≡ x → Written p s S d (take n q₂)) (owed_ladder p s S d (length q)) (λ (k : ℕ). dues (refused k) q)
      (dues (written (length (request_of p s S d))) (over (request_of p s S d) q))
      (λ k g z. absurd (let e : written n ≡ refused k = ap (λ (x : Dues). x.due) z in let y : ◌≡◌ {A = ℕ} 0 1 = cc in omega arith))
      (λ m z.
      let e : written n ≡ written (length (request_of p s S d)) = ap (λ (x : Dues). x.due) z in
      record {
        plan = not-false _ (clear (owed_ladder p s S d (length q)) m 1);
        desk = (room_is p (length d) (length q) (not-false _ (clear (owed_ladder p s S d (length q)) m 2))).desk_is;
        range = not-false _ (clear (owed_ladder p s S d (length q)) m 9);
        going = clear (owed_ladder p s S d (length q)) m 14;
        low = ltb-true S p.n (not-false _ (clear (owed_ladder p s S d (length q)) m 4));
        ask = ask_small (not-false _ (clear (owed_ladder p s S d (length q)) m 9));
        is = cut_off (request_of p s S d) q q₂ n (ap (λ (x : Dues). x.request) z) (cc);
      })
      call.is

-- IT PASSES 4, 5 AND 6 AT ITS NODE
module _ (p : Plan) (s : Session) (S : ℕ) (d f : List ℕ) (w : Written p s S d f) (ready : Sendable p s d) where
  pub request_passes : AtNode p S f
  unfolding for_party one_of body_fits time_fails hash_fails
  request_passes = go (subst (Owes p s S d) (sym w.is) (owes p s S d))
    where
      fits_record : body_fits p write_request_kind (length (slot_of p d S)) ≡ true
      fits_record = eq-eqb _ _ (long_slot p d S w.desk w.low)

      fits_bound : (x : ℕ) → body_fits p read_previous_kind (length (be 40 x)) ≡ true
      fits_bound x = eq-eqb _ _ (length_be 40 x)

      go : Owes p s S d f → AtNode p S f
      go (time_due x y e) = subst (AtNode p S) (sym e) (at_node p w.plan S (ask_now s) w.low w.ask time_request_kind [] (omega arith) (omega arith) refl refl refl refl)
      go (latest_due x y b e) = subst (AtNode p S) (sym e) (at_node p w.plan S (ask_now s) w.low w.ask read_latest_kind [] (omega arith) (omega arith) refl refl refl refl)
      go (previous_due x y u b e) =
          let z = ready.bound x y u b in
          subst (AtNode p S) (sym e)
          (at_node p w.plan S (ask_now s) w.low w.ask read_previous_kind (be 40 (stamp_number u)) (omega arith) (omega (arith, length_be 40 (stamp_number u))) refl
          (fits_bound (stamp_number u)) (not_zero (be 40 (stamp_number u)) z.0) refl)
      go (record_due x e) =
          let z = (ready.slots x S w.low).0 in
          subst (AtNode p S) (sym e)
          (at_node p w.plan S (ask_now s) w.low w.ask write_request_kind (slot_of p d S) (omega arith)
          (omega (arith, long_slot p d S w.desk w.low, short_record p w.plan)) refl fits_record (not_zero (slot_of p d S) z.timed) (ap not z.hashes))

-- ---- the node's call
quiet_node : (p : Plan) (f b y : List ℕ) → AtNode p (node_of b) f → Quiet (4 ∷ 5 ∷ 6 ∷ []) (node_ladder p f b y)
unfolding one_of
quiet_node p f b y a = (
  (λ e. absurd (clash (sym e))),
  ((λ e. absurd (clash (sym e))), ((λ e. absurd (clash (sym e))), ((λ e. ap not a.good), ((λ e. a.timed), ((λ e. a.hashed), ((λ e. absurd (clash (sym e))), ((λ e. absurd (clash (sym e))), tt))))))),
)

pub not_refused_there : (p : Plan) (f b y : List ℕ) → AtNode p (node_of b) f → (a : Result ℕ Refusal) (b₂ y₂ : List ℕ) → NodeCall p f b y a b₂ y₂
    → (r : Refusal) → a ≡ Err r → NoneOf (4 ∷ 5 ∷ 6 ∷ []) r
not_refused_there p f b y at a b₂ y₂ c r e =
    quiet_given (4 ∷ 5 ∷ 6 ∷ []) (node_ladder p f b y) (quiet_node p f b y at) (refusal_number r)
    (calls.refused_is p f b y r b₂ y₂ (subst (λ (x : Result ℕ Refusal). NodeCall p f b y x b₂ y₂) e c)).0

-- THE REPLY TO IT PASSES 4, 5, 6, 10 AND 12 AT THE SESSION THAT ASKED
module _ (p : Plan) (s : Session) (S : ℕ) (d f : List ℕ) (w : Written p s S d f) (ready : Sendable p s d)
    (b y : List ℕ) (good : good_book p b ≡ true) (node : node_of b ≡ S) (all : AllPass p b)
    (n : ℕ) (b₂ y₂ : List ℕ) (c : NodeCall p f b y (Ok n) b₂ y₂) where
  abbrev rs : List (List ℕ)
  rs = records_of p b

  abbrev ask : ℕ
  ask = ask_now s

  sized_rs : Sized (record_length p) rs
  sized_rs = laid.sized b (record_length p) (count_of b) (book_head 1) (books.good_is p b good).fill.inside

  reply_is : (kind : ℕ) (body : List ℕ) → kind < 256 → f ≡ frame kind S ask body → take n y₂ ≡ frame (reply_to kind body rs).kind S ask (reply_to kind body rs).body
  reply_is kind body k e =
      let S_low : S < 256 = omega (arith, (plan_is p w.plan).n_high, w.low) in
      let h : header_in f ≡ header_of kind S ask =
      ap (λ (x : List ℕ). header_in x) e ∙ built.header_frame (header_of kind S ask) body (omega arith) k S_low w.ask in
      let x : body_of f ≡ body = ap (λ (x : List ℕ). body_of x) e ∙ built.body_frame (header_of kind S ask) body in
      replied_frame p f b y n b₂ y₂ c ∙ (λ i. frame_of (replying (h i) (reply_to (h i).kind (x i) rs).kind) (reply_to (h i).kind (x i) rs).body)

  passes_here : (z : List ℕ) → Among z rs → Passed p S z
  passes_here z m = let q = all z m in record { timed = q.0; hashes = ap (λ (k : ℕ). hashes_ok p k z) (sym node) ∙ q.1 }

  -- a read reply with none, or with one of the records
  with_body : is_storing s.round.stage ≡ false → is_read s.operation ≡ true → (body : List ℕ)
      → (body ≡ []) ⊎ (Among body rs × (under_of s.round.bound (stamp body) ≡ true)) → AtClient p s (frame read_reply_kind S ask body)
  unfolding for_party one_of body_fits awaits_in
  with_body x r body (inl e) =
      at_client p w.plan S ask w.low w.ask read_reply_kind body (omega arith) (omega (arith, ap length e)) refl (rw e (either (eqb 0 (record_length p)))) s refl (rw (x, r)) (inl x)
      (inr (inl (ap length e)))
    where
      either : (t : Bool) → cond t true true ≡ true
      either true = refl
      either false = refl
  with_body x r body (inr e) =
      let l : length body ≡ record_length p = sized_of (record_length p) rs sized_rs body e.0 in
      at_client p w.plan S ask w.low w.ask read_reply_kind body (omega arith) (omega (arith, short_record p w.plan)) refl
      (rw (eq-eqb (length body) (record_length p) l)) s refl (rw (x, r)) (inl x) (inr (inr (passes_here body e.0, e.1)))

  pub reply_passes : AtClient p s (take n y₂)
  unfolding for_party one_of body_fits awaits_in reply_to under_of
  reply_passes = go (subst (Owes p s S d) (sym w.is) (owes p s S d))
    where
      latest : s.round.bound ≡ None → (last_of rs ≡ []) ⊎ Among (last_of rs) rs → (last_of rs ≡ []) ⊎ (Among (last_of rs) rs × (under_of s.round.bound (stamp (last_of rs)) ≡ true))
      latest e (inl z) = inl z
      latest e (inr m) = inr (m, rw e)

      previous : (u : Timestamp) (x : ℕ) → x ≡ stamp_number u → s.round.bound ≡ Some u → (last_below x rs ≡ []) ⊎ Among (last_below x rs) (those (λ (z : List ℕ). ltb (stamp z) x) rs)
          → (last_below x rs ≡ []) ⊎ (Among (last_below x rs) rs × (under_of s.round.bound (stamp (last_below x rs)) ≡ true))
      previous u x q e (inl z) = inl z
      previous u x q e (inr m) =
          let t = those_of (λ (z : List ℕ). ltb (stamp z) x) (last_below x rs) rs m in
          inr (t.0, rw e (ap (ltb (stamp (last_below x rs))) (sym q) ∙ t.1))

      go : Owes p s S d f → AtClient p s (take n y₂)
      go (time_due x r e) =
          let body : List ℕ = be 8 (time (last_of rs)) in
          subst (AtClient p s) (sym (reply_is time_request_kind [] (omega arith) e))
          (at_client p w.plan S ask w.low w.ask time_reply_kind body (omega arith) (omega (arith, length_be 8 (time (last_of rs)))) refl
          (eq-eqb (length body) 8 (length_be 8 (time (last_of rs)))) s refl (rw (x, r)) (inl x) (inl (λ z. omega arith)))
      go (latest_due x r e q) =
          subst (AtClient p s) (sym (reply_is read_latest_kind [] (omega arith) q)) (with_body x r (last_of rs) (latest e (last_of_lem rs)))
      go (previous_due x r u e q) =
          subst (AtClient p s) (sym (reply_is read_previous_kind (be 40 (stamp_number u)) (omega arith) q))
          (with_body x r (last_below (stamp (be 40 (stamp_number u))) rs)
          (previous u (stamp (be 40 (stamp_number u))) (ready.bound x r u e).1 e (last_of_lem (those (λ (z : List ℕ). ltb (stamp z) (stamp (be 40 (stamp_number u)))) rs))))
      go (record_due x q) =
          let body : List ℕ = stamp_of (slot_of p d S) in
          let l : length body ≡ 40 = length_part (slot_of p d S) 0 40 (omega (arith, long_slot p d S w.desk w.low, record_length_lem p)) in
          subst (AtClient p s) (sym (reply_is write_request_kind (slot_of p d S) (omega arith) q))
          (at_client p w.plan S ask w.low w.ask write_reply_kind body (omega arith) (omega (arith, l)) refl (eq-eqb (length body) 40 l) s refl (rw x)
          (inr (ap num (part_part (slot_of p d S) 0 40 0 40 (omega arith)) ∙ (ready.slots x S w.low).1)) (inl (λ z. omega arith)))
