-- No two different strings of the run share a hash. Every string that is hashed is one of four: the cross checksum of the byte 7, the byte 7, and both of 9;
-- their hashes start with 173, 202, 57 and 43.
--   Named named_apart  one of the four; two of them with one hash are one
--   apart_first apart_second apart_both   no two strings of the first read share a hash, none of the second, none of both
-- Assumes nothing.
use Prim.{tt}
use Prim.Native.Nat.{ℕ}
use mathlib.Core.Path.{◌≡◌, refl, sym, ap, ◌∙◌}
use mathlib.Core.Bool.{true}
use mathlib.Core.List.{List, [], ◌∷◌, ◌++◌}
use mathlib.Core.Logic.{inl, inr}
use native.Mathlib.Omega.{arith}
use lib.ListN.{get_or}
use Rattle.octets.specs.Bytes.{part, num, num_from, be, be_onto}
use Rattle.sha256.specs.Sha256.{sha256}
use Rattle.terms.specs.Terms.{record_length}
use Rattle.terms.proofs.Rungs.{clash}
use Rattle.field.specs.Field.{xtime, mul_n, mul}
use Rattle.fragments.specs.Fragments.{from, fragment, tabulate, ratio, weight_of, blend, value}
use Rattle.frame.specs.Frame.{frame_node, body_of, header_of, read_reply_kind}
use Rattle.frame.proofs.Built as built
use Rattle.record.specs.Record.{prefix_of, cross_of, fragment_of}
use Rattle.session.specs.Reply.{bears}
use Rattle.client.specs.Turns.{Turn}
use Rattle.client.specs.Repair.{EachTurn}
use Rattle.client.specs.Held.{SomeTurn}
use Rattle.safety.specs.Safety.{Hashed, cross_written, fragment_written, cross_borne, fragment_borne, NoneAlike}
use Rattle.safety.proofs.Instances.Data.{plan, by_node, hash, cross, verifier, stamp_bytes, sheet, lie_hash, lie_cross, lie_verifier, lie_stamp, lie, cross_so, hash_so, verifier_so, lie_hash_so, lie_verifier_so}
use Rattle.safety.proofs.Instances.Nodes.{write_reply_of, sheet_reply, first_reply}
use Rattle.safety.proofs.Instances.Asks.{each_of}
use Rattle.safety.proofs.Instances.Read.{first, lie_reply}
use Rattle.safety.proofs.Instances.Second.{second}

-- ---- the four strings
pub data Named (x : List ℕ) : Type 0 where
  is_cross : x ≡ cross → Named x
  is_seven : x ≡ 7 ∷ [] → Named x
  is_lie_cross : x ≡ lie_cross → Named x
  is_nine : x ≡ 9 ∷ [] → Named x

-- the first byte of the hash
abbrev byte_of : {x : List ℕ} → Named x → ℕ
byte_of (is_cross e) = 173
byte_of (is_seven e) = 202
byte_of (is_lie_cross e) = 57
byte_of (is_nine e) = 43

starts : (x : List ℕ) (n : Named x) → get_or (sha256 x) 0 0 ≡ byte_of n
unfolding verifier hash lie_verifier lie_hash
starts x (is_cross e) = ap (λ (l : List ℕ). get_or (sha256 l) 0 0) e ∙ ap (λ (l : List ℕ). get_or l 0 0) verifier_so
starts x (is_seven e) = ap (λ (l : List ℕ). get_or (sha256 l) 0 0) e ∙ ap (λ (l : List ℕ). get_or l 0 0) hash_so
starts x (is_lie_cross e) = ap (λ (l : List ℕ). get_or (sha256 l) 0 0) e ∙ ap (λ (l : List ℕ). get_or l 0 0) lie_verifier_so
starts x (is_nine e) = ap (λ (l : List ℕ). get_or (sha256 l) 0 0) e ∙ ap (λ (l : List ℕ). get_or l 0 0) lie_hash_so

pub named_apart : (x y : List ℕ) → Named x → Named y → sha256 x ≡ sha256 y → x ≡ y
named_apart x y n m e = go n m (sym (starts x n) ∙ ap (λ (l : List ℕ). get_or l 0 0) e ∙ starts y m)
  where
    go : (n : Named x) (m : Named y) → byte_of n ≡ byte_of m → x ≡ y
    go (is_cross a) (is_cross b) z = a ∙ sym b
    go (is_seven a) (is_seven b) z = a ∙ sym b
    go (is_lie_cross a) (is_lie_cross b) z = a ∙ sym b
    go (is_nine a) (is_nine b) z = a ∙ sym b
    go (is_cross a) (is_seven b) z = absurd (omega (arith, z))
    go (is_cross a) (is_lie_cross b) z = absurd (omega (arith, z))
    go (is_cross a) (is_nine b) z = absurd (omega (arith, z))
    go (is_seven a) (is_cross b) z = absurd (omega (arith, z))
    go (is_seven a) (is_lie_cross b) z = absurd (omega (arith, z))
    go (is_seven a) (is_nine b) z = absurd (omega (arith, z))
    go (is_lie_cross a) (is_cross b) z = absurd (omega (arith, z))
    go (is_lie_cross a) (is_seven b) z = absurd (omega (arith, z))
    go (is_lie_cross a) (is_nine b) z = absurd (omega (arith, z))
    go (is_nine a) (is_cross b) z = absurd (omega (arith, z))
    go (is_nine a) (is_seven b) z = absurd (omega (arith, z))
    go (is_nine a) (is_lie_cross b) z = absurd (omega (arith, z))

-- ---- the strings of a reply
abbrev Strings : List ℕ → Type 0
Strings f = bears plan f ≡ true → Named (cross_of plan (body_of f)) × Named (prefix_of plan (frame_node f) ++ fragment_of plan (body_of f))

sheet_strings : (i ask : ℕ) → Strings (sheet_reply i ask)
unfolding prefix_of part sheet stamp_bytes cross verifier hash
sheet_strings i ask b =
    let e = built.body_frame (header_of read_reply_kind i ask) sheet in
    (is_cross (ap (λ (r : List ℕ). cross_of plan r) e), is_seven (ap (λ (r : List ℕ). fragment_of plan r) e))

lie_strings : Strings lie_reply
unfolding prefix_of part lie lie_stamp lie_cross lie_verifier lie_hash
lie_strings b =
    let e = built.body_frame (header_of read_reply_kind 4 11) lie in
    (is_lie_cross (ap (λ (r : List ℕ). cross_of plan r) e), is_nine (ap (λ (r : List ℕ). fragment_of plan r) e))

-- these bear none
first_strings : (i ask : ℕ) → Strings (first_reply i ask)
unfolding bears record_length part num num_from be be_onto
first_strings i ask b = absurd (clash (sym b))

write_strings : (i ask : ℕ) → Strings (write_reply_of i ask)
unfolding bears record_length part num num_from be be_onto stamp_bytes verifier
write_strings i ask b = absurd (clash (sym b))

abbrev Each : List Turn → Type 0
Each ts = EachTurn (λ (t : Turn). Strings t.reply) ts

first_each : Each first.turns
first_each =
    (sheet_strings 0 11, (sheet_strings 1 11, (first_strings 3 11, (lie_strings, (sheet_strings 0 12, (sheet_strings 1 12, (first_strings 3 12, (first_strings 4 12, (write_strings 0 13, (write_strings 1 13, (write_strings 3 13, (write_strings 4 13, tt))))))))))))

second_each : Each second.turns
second_each = (sheet_strings 0 21, (sheet_strings 1 21, (sheet_strings 2 21, (sheet_strings 3 21, tt))))

-- ---- every string that is hashed is one of the four
from_some : (P : Turn → Type 0) (C : Type 0) (ts : List Turn) → EachTurn (λ (t : Turn). P t → C) ts → SomeTurn P ts → C
from_some P C [] h s = absurd s
from_some P C (t ∷ ts) h (inl a) = h.0 a
from_some P C (t ∷ ts) h (inr s) = from_some P C ts h.1 s

each_to : (P Q : Turn → Type 0) → ((t : Turn) → P t → Q t) → (ts : List Turn) → EachTurn P ts → EachTurn Q ts
each_to P Q f [] h = tt
each_to P Q f (t ∷ ts) h = (f t h.0, each_to P Q f ts h.1)

same : (x y : List ℕ) → x ≡ y → Named y → Named x
same x y e (is_cross a) = is_cross (e ∙ a)
same x y e (is_seven a) = is_seven (e ∙ a)
same x y e (is_lie_cross a) = is_lie_cross (e ∙ a)
same x y e (is_nine a) = is_nine (e ∙ a)

named : (ts : List Turn) → Each ts → (x : List ℕ) → Hashed plan (7 ∷ []) ts x → Named x
unfolding prefix_of fragment part tabulate value blend weight_of ratio from xtime mul_n mul
named ts h x (cross_written e) = is_cross (e ∙ cross_so)
named ts h x (fragment_written k l e) = is_seven (e ∙ by_node (λ (k : ℕ). prefix_of plan k ++ fragment 1 1 (7 ∷ []) k ≡ 7 ∷ []) refl refl refl refl refl k l)
named ts h x (cross_borne s) =
    from_some _ (Named x) ts (each_to _ _ (λ t f b. same x (cross_of plan (body_of t.reply)) b.1 (f b.0).0) ts h) s
named ts h x (fragment_borne s) =
    from_some _ (Named x) ts (each_to _ _ (λ t f b. same x (prefix_of plan (frame_node t.reply) ++ fragment_of plan (body_of t.reply)) b.1 (f b.0).1) ts h) s

none_alike : (ts : List Turn) → Each ts → NoneAlike plan (7 ∷ []) ts
none_alike ts h x y a b = named_apart x y (named ts h x a) (named ts h y b)

pub apart_first : NoneAlike plan (7 ∷ []) first.turns
apart_first = none_alike first.turns first_each

pub apart_second : NoneAlike plan (7 ∷ []) second.turns
apart_second = none_alike second.turns second_each

pub apart_both : NoneAlike plan (7 ∷ []) (first.turns ++ second.turns)
apart_both = none_alike (first.turns ++ second.turns) (each_of (λ (t : Turn). Strings t.reply) first.turns second.turns first_each second_each)
