-- What an accepted reply of a read round leaves: one mark more (count_marked, heard_other), the same asked of other replies
-- (fits_later, fits_before), and a session and a desk that are in their ranges while the round is open (next). Assumes nothing.
use mathlib.Core.Path.{◌≡◌, refl, sym, ap, ◌∙◌}
use mathlib.Core.Bool.{Bool, true, false, cond}
use mathlib.Core.List.{List}
use Prim.Native.Nat.{ℕ, ◌+◌, ◌*◌, ◌<◌}
use native.Mathlib.Omega.{arith}
use borrow.Author.Tests.{not-false}
use lib.ListN.{length}
use Rattle.terms.specs.Terms.{record_length, slots_of}
use Rattle.terms.specs.Stamp.{stamp}
use Rattle.terms.specs.declared.Plan.{Plan}
use Rattle.terms.proofs.Plans.{plan_is}
use Rattle.frame.specs.Frame.{frame_node, body_of}
use Rattle.frame.proofs.Frames.{reply_is}
use Rattle.rounds.specs.declared.Heard.{Heard}
use Rattle.rounds.specs.declared.Heard.TheVariants.{First, Record}
use Rattle.rounds.specs.Rounds.{heard_count, bit_of, under_of, slots_fit}
use Rattle.session.specs.declared.Session.{Session}
use Rattle.session.specs.Session.{marked_of, round_open}
use Rattle.standing.specs.Standing.{lengths_ok, ask_in, awaits_in}
use Rattle.session.specs.Reply.{awaited, is_heard, bears}
use Rattle.standing.proofs.Rules.{lengths_are}
use Rattle.session.proofs.Made.{rest_set}
use Rattle.session.proofs.Slots.{slots_after}
use Rattle.client.specs.Endings.{heard_as, after_reply, desk_after}
use Rattle.client.proofs.Round.Run.{one_more, others_stay}
use Rattle.client.proofs.Round.Order.{length_after}
use Rattle.client.proofs.Round.Reply.{Fits, Ready, Taken}

-- ---- marks
pub bit_mark : (p : Plan) (f : List ℕ) → bit_of (heard_as p f) ≡ 1
bit_mark p f = go (bears p f)
  where
    go : (t : Bool) → bit_of (cond t Record First) ≡ 1
    go true = refl
    go false = refl

pub count_marked : (p : Plan) (s : Session) (f : List ℕ) → length s.marks ≡ 16 → frame_node f < 16 → is_heard s (frame_node f) ≡ false
    → heard_count (after_reply p s f).marks ≡ heard_count s.marks + 1
unfolding is_heard
count_marked p s f l h e = one_more s.marks (frame_node f) (heard_as p f) (bit_mark p f) (omega arith) e

pub heard_other : (p : Plan) (s : Session) (f : List ℕ) (k : ℕ) → (k ≡ frame_node f → ⊥) → is_heard (after_reply p s f) k ≡ is_heard s k
unfolding is_heard
heard_other p s f k n = others_stay s.marks (frame_node f) (heard_as p f) k n

-- a mark changes nothing of what the round asks of another reply
pub fits_later : (p : Plan) (s : Session) (k : ℕ) (h : Heard) (f : List ℕ) → Fits p s f → Fits p (marked_of s k h) f
unfolding awaited ask_in awaits_in
fits_later p s k h f q = record { good = q.good; await = q.await; timed = q.timed; hashed = q.hashed; under = q.under }

pub fits_before : (p : Plan) (s : Session) (k : ℕ) (h : Heard) (f : List ℕ) → Fits p (marked_of s k h) f → Fits p s f
unfolding awaited ask_in awaits_in
fits_before p s k h f q = record { good = q.good; await = q.await; timed = q.timed; hashed = q.hashed; under = q.under }

-- ---- what an accepted reply leaves
module _ (p : Plan) (s : Session) (f d i : List ℕ) (t : Taken p s f d i) where
  abbrev k : ℕ
  k = frame_node f

  abbrev r : ℕ
  r = record_length p

  pub low : k < p.n
  low = (reply_is p f t.fits.good).node_low

  pub low_16 : k < 16
  low_16 = let q = plan_is p t.ready.plan in omega (arith, low)

  desk_is : length d ≡ p.n * r
  desk_is = (lengths_are p (length d) (length i) t.ready.lengths).desk_is

  pub next : round_open p (after_reply p s f) ≡ true → Ready p (after_reply p s f) (desk_after p f d) i
  next few =
      let g = t.ready in
      let o = g.slots in
      let q = g.standing in
      let old : slots_fit s.marks d (slots_of p) s.round.bound p.n ≡ true = rw g.round at o.slots in
      let new : slots_fit (after_reply p s f).marks (desk_after p f d) (slots_of p) s.round.bound p.n ≡ true =
      slots_after p f d low desk_is s.marks s.round.bound (λ e. rw e at t.fits.timed)
      (λ e. not-false (under_of s.round.bound (stamp (body_of f))) (rw e at t.fits.under)) old (bears p f) refl in
      record {
        plan = g.plan;
        lengths = ap (λ (n : ℕ). lengths_ok p n (length i)) (length_after p d f low desk_is ∙ sym desk_is) ∙ g.lengths;
        round = g.round;
        standing = record {
          low = q.low;
          high = q.high;
          counted = q.counted;
          bounded = q.bounded;
          rest = rest_set s.marks p.n k (heard_as p f) low ∙ q.rest;
          opening = q.opening;
        };
        slots = record { stamped = o.stamped; firsts = rw g.round; few = few; slots = rw g.round new };
      }
