-- The repair round over its calls.
--   Refilled refills   a reply that opens a repair round leaves the desk filled, from the desk as it was with that reply in its slot
--   repair_opens       so every slot k holds the set's timestamp and cross checksum and fragment k of the polynomials through the m lowest
--   repair_ends        whatever replies follow leave that desk, and the one that ends the read writes the item that the m lowest decode to
-- Assumes nothing.
use Prim.{tt}
use Prim.Native.Nat.{ℕ, ◌*◌, ◌≤◌, ◌<◌}
use mathlib.Core.Path.{◌≡◌, refl, sym, ◌∙◌, subst}
use mathlib.Core.Bool.{Bool, true, false, cond}
use mathlib.Core.List.{List, [], ◌∷◌}
use native.Mathlib.Omega.{arith}
use lib.ListN.{length}
use Rattle.octets.specs.Bytes.{put, Octets}
use Rattle.octets.proofs.Meaning.{octets_drop, octets_put}
use Rattle.terms.specs.Ladder.{first}
use Rattle.terms.specs.Terms.{plan_ok, record_length}
use Rattle.terms.specs.declared.Plan.{Plan}
use Rattle.terms.specs.declared.Timestamp.{Timestamp}
use Rattle.terms.proofs.Rungs.{clash}
use Rattle.frame.specs.Frame.{frame_node, body_of, head_bytes, version_of}
use Rattle.rounds.specs.declared.Heard.TheVariants.{Record}
use Rattle.std.proofs.Common.{Some}
use Rattle.session.specs.declared.Session.{Session}
use Rattle.standing.specs.declared.Stage.{Stage}
use Rattle.standing.specs.declared.Stage.TheVariants.{Asking, Storing, Ended}
use Rattle.session.specs.declared.Took.{Took}
use Rattle.standing.specs.declared.Operation.TheVariants.{Read}
use Rattle.standing.specs.Standing.{is_asking, is_storing, is_ended}
use Rattle.session.specs.Session.{marked_of, ended_of, refused, still_open, done, round_open}
use Rattle.session.specs.Reply.{bears, reply_ladder, record_ladder}
use Rattle.recover.specs.Recover.{decoded, collected, repaired}
use Rattle.session.specs.Reader.{Outcome, outcome, acted, closed, settled, stored, accepted, read_reply, ReadReplyCall}
use Rattle.session.proofs.Checks.{outcome_all}
use Rattle.session.proofs.Closings.{led, sized, goes}
use Rattle.session.proofs.ReadKept.{not_asking}
use Rattle.session.proofs.Known.{Known, known_reply, reply}
use Rattle.client.specs.Endings.{after_reply, desk_after}
use Rattle.client.specs.Turns.{Turn, ReadTurn, Calls}
use Rattle.client.specs.Repair.{Holds, EachTurn, Rests}
use Rattle.client.proofs.Reading.{heard_settles}
use Rattle.client.proofs.Round.Order.{length_after}
use Rattle.client.proofs.Repair.{repaired_holds, repaired_item}

never : {A : Type 0} → false ≡ true → A
never z = absurd (clash (sym z))

-- ---- bytes
octets_after : (p : Plan) (d f : List ℕ) → Octets d → Octets f → Octets (desk_after p f d)
octets_after p d f h k = go (bears p f)
  where
    go : (b : Bool) → Octets (cond b (put d (frame_node f * record_length p) (body_of f)) d)
    go true = octets_put d (frame_node f * record_length p) (body_of f) h (octets_drop (head_bytes (version_of f)) f k)
    go false = h

-- ---- the reply that opens it
-- the desk e₂ is the desk e filled for repair, at the close of the round in which the session u is
pub record Refilled (p : Plan) (u : Session) (e e₂ : List ℕ) : Type 0 where
  pub plan : plan_ok p ≡ true
  pub long : length e ≡ p.n * record_length p
  pub node : ℕ
  pub leads : (closed p u e).lead ≡ Some node
  pub size : p.m ≤ length (closed p u e).nodes
  pub is : e₂ ≡ repaired p (closed p u e) node e

module _ (p : Plan) (u : Session) (e i : List ℕ) (ok : plan_ok p ≡ true) (long : length e ≡ p.n * record_length p) (asks : is_storing u.round.stage ≡ false) where
  abbrev Full : Outcome → Type 0
  Full x = is_storing x.session.round.stage ≡ true → Refilled p u e x.desk

  settles : Full (settled p u e i)
  unfolding settled
  settles = go (round_open p u)
    where
      go : (c : Bool) → Full (cond c (outcome still_open u e i) (acted p u (closed p u e) e i))
      go true = λ t. never (sym asks ∙ t)
      go false =
          goes Full p u (closed p u e) e i
          (record {
            finds = λ x y t. never t;
            never = λ t. never t;
            aborts = λ t. never t;
            spends = λ h t. never t;
            next = λ a l h t. never t;
            repairs = λ a l v t. record { plan = ok; long = long; node = a; leads = l; size = sized p u e a (led p u e a l) ok v; is = refl };
          })

module _ (p : Plan) (s : Session) (f d i : List ℕ) (asks : is_storing s.round.stage ≡ false) (t : Took) (d₂ i₂ : List ℕ) (call : ReadReplyCall p s f d i t d₂ i₂)
    (opens : is_storing t.session.round.stage ≡ true) where
  abbrev Right : Outcome → Type 0
  Right x = is_storing x.session.round.stage ≡ true → Refilled p (after_reply p s f) (desk_after p f d) x.desk

  takes : Known (reply_ladder Read p s f d (length i)) p s d → Right (accepted p s f d i)
  unfolding accepted
  takes q =
      rw asks
      (subst Right (sym (heard_settles p s f d i))
      (settles p (after_reply p s f) (desk_after p f d) i q.plan_is_ok (length_after p d f (reply Read p s f d (length i) q).node_low q.desk_is) asks))

  pub refills : Refilled p (after_reply p s f) (desk_after p f d) d₂
  unfolding read_reply first
  refills =
      subst Right (sym call.is)
      (outcome_all Right (reply_ladder Read p s f d (length i)) (λ (j : ℕ). outcome (refused j) s d i) _ (λ j z. never (sym asks ∙ z))
      (λ e. outcome_all Right (record_ladder p s f) (λ (j : ℕ). outcome (refused j) s d i) (accepted p s f d i) (λ j z. never (sym asks ∙ z))
      (λ g. takes (known_reply Read p s f d (length i) e))))
      opens

  -- A REPLY THAT OPENS A REPAIR ROUND fills the desk: every slot k holds the set's timestamp and cross checksum and fragment k of the
  -- polynomials through the m lowest, from the desk as it was with that reply in its slot
  pub repair_opens : Octets d → Octets f → (k : ℕ) → k < p.n → Holds p (closed p (after_reply p s f) (desk_after p f d)) (desk_after p f d) d₂ k
  repair_opens od of k h =
      let r = refills in
      subst (λ (x : List ℕ). Holds p (closed p (after_reply p s f) (desk_after p f d)) (desk_after p f d) x k) (sym r.is)
      (repaired_holds p (after_reply p s f) (desk_after p f d) r.node r.plan r.long r.leads r.size (octets_after p d f od of) k h)

-- ---- the replies that follow
storing : (x : Stage) → is_asking x ≡ false → is_ended x ≡ false → is_storing x ≡ true
storing Asking a b = sym a
storing Storing a b = refl
storing Ended a b = sym b

-- in a repair round or after the end
module _ (p : Plan) (s : Session) (f d i : List ℕ) (past : is_asking s.round.stage ≡ false) where
  -- what a reply leaves there
  record Stays (x : Outcome) : Type 0 where
    desk : x.desk ≡ d
    item : (t : Timestamp) (n : ℕ) → x.said ≡ done t n → x.item ≡ collected p d i
    later : is_asking x.session.round.stage ≡ false

  turned_away : (j : ℕ) → Stays (outcome (refused j) s d i)
  turned_away j = record { desk = refl; item = λ t n e. let z : ◌≡◌ {A = ℕ} 0 1 = cc in absurd (omega arith); later = past }

  counts : is_ended s.round.stage ≡ false → Stays (accepted p s f d i)
  unfolding accepted stored
  counts e = rw (storing s.round.stage past e) (go (round_open p (marked_of s (frame_node f) Record)))
    where
      go : (b : Bool)
          → Stays (cond b (outcome still_open (marked_of s (frame_node f) Record) d i)
          (outcome (done s.stamp s.round.number) (ended_of (marked_of s (frame_node f) Record)) d (collected p d i)))
      go true = record { desk = refl; item = λ t n e. let z : ◌≡◌ {A = ℕ} 0 1 = cc in absurd (omega arith); later = past }
      go false = record { desk = refl; item = λ t n e. refl; later = refl }

  stays : Stays (read_reply p s f d i)
  unfolding read_reply first
  stays =
      outcome_all Stays (reply_ladder Read p s f d (length i)) (λ (j : ℕ). outcome (refused j) s d i) _ turned_away
      (λ e. outcome_all Stays (record_ladder p s f) (λ (j : ℕ). outcome (refused j) s d i) (accepted p s f d i) turned_away
      (λ g. counts (known_reply Read p s f d (length i) e).going))

module _ (p : Plan) (u : Session) (e d : List ℕ) (r : Refilled p u e d) where
  rests : (s : Session) (ts : List Turn) → is_asking s.round.stage ≡ false → Calls (ReadTurn p) s d ts → EachTurn (Rests p (closed p u e) e d) ts
  rests s [] past h = tt
  rests s (t ∷ ts) past h =
      let x : Stays p s t.reply d t.item past _ = subst (Stays p s t.reply d t.item past) (sym h.0.1.is) (stays p s t.reply d t.item past) in
      let same : t.desk_left ≡ d = x.desk in
      let item : collected p d t.item ≡ decoded p (closed p u e) e t.item =
      rw r.is (repaired_item p u e r.node r.plan r.long r.leads r.size t.item) in (
        record { desk = same; item = λ n k z. x.item n k z ∙ item },
        rests t.took.session ts x.later (subst (λ (y : List ℕ). Calls (ReadTurn p) t.took.session y ts) same h.1),
      )

-- WHATEVER REPLIES FOLLOW leave the desk so filled; the one that ends the read writes the item that the m lowest of the set decode to, from
-- the desk as it was: what the desk's first m slots give
pub repair_ends : (p : Plan) (s : Session) (f d i : List ℕ) → is_storing s.round.stage ≡ false → (t : Took) (d₂ i₂ : List ℕ) → ReadReplyCall p s f d i t d₂ i₂
    → is_storing t.session.round.stage ≡ true → (ts : List Turn) → Calls (ReadTurn p) t.session d₂ ts
    → EachTurn (Rests p (closed p (after_reply p s f) (desk_after p f d)) (desk_after p f d) d₂) ts
repair_ends p s f d i asks t d₂ i₂ call opens ts h =
    rests p (after_reply p s f) (desk_after p f d) d₂ (refills p s f d i asks t d₂ i₂ call opens) t.session ts (not_asking t.session.round.stage opens) h
