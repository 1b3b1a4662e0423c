-- NEVER AN OLDER SHEET, at the run of these instances: the byte 7 is saved at nodes 0, 1 and 2, and the first read, which a liar led to a greater timestamp and
-- which had to repair, gives it back.
--   saving run         the write, and the parties of the run
--   executed_so        Q honest nodes executed it before the read
--   given older_so     all that the theorem takes, and what it says
--   told_so            of the last call: it is done, the timestamp is the write's, and the item is the byte 7
--   executed_later given_later older_later told_later   the same of the second read, with the lives cut after the first
-- Assumes nothing.
use Prim.Native.Nat.{ℕ, ◌<◌}
use mathlib.Core.Path.{◌≡◌, refl, sym, ap, ◌∙◌}
use mathlib.Core.Bool.{Bool, true}
use mathlib.Core.List.{List, [], ◌∷◌}
use mathlib.Core.Logic.{◌⊎◌, inl, inr}
use native.Mathlib.Omega.{arith}
use lib.Dec.{ltb}
use Rattle.octets.specs.Bytes.{part, num, num_from, be, be_onto}
use Rattle.terms.specs.Stamp.{stamp_number}
use Rattle.terms.specs.Terms.{record_length}
use Rattle.terms.specs.declared.Timestamp.{Timestamp}
use Rattle.terms.proofs.Small.{small, small_octets}
use Rattle.terms.proofs.Rungs.{clash}
use Rattle.frame.specs.Frame.{header_of, write_request_kind}
use Rattle.frame.proofs.Built as built
use Rattle.record.specs.Desk.{slot_of}
use Rattle.rounds.specs.Numbers.{number_of}
use Rattle.session.specs.Session.{done, said_of}
use Rattle.store.specs.History.{Call, Executed}
use Rattle.client.specs.Turns.{Turn}
use Rattle.client.specs.Repair.{EachTurn}
use Rattle.safety.specs.Run.{Saving, record_to, stamp_in}
use Rattle.safety.specs.Safety.{ExecutedBy, Parties, Given, NeverOlder}
use Rattle.safety.proofs.Theorem.{never_an_older_sheet}
use Rattle.safety.proofs.Instances.Data.{plan, by_node, hash, cross, verifier, stamp_bytes, sheet, stamp_seven, desk_full, written_so, stamped_so}
use Rattle.safety.proofs.Instances.Lives.{saves, firsts, time_call, write_call, none_call, nothing_call, honest, after_save, after_first, by_honest, lives, lives_later, few_others, few_others_later}
use Rattle.safety.proofs.Instances.Read.{first, call_12}
use Rattle.safety.proofs.Instances.Numbers.{first_numbers, first_asks, first_before}
use Rattle.safety.proofs.Instances.Second.{second, call_4, second_numbers, second_asks_later, second_before}
use Rattle.safety.proofs.Instances.Apart.{apart_first, apart_second}

-- ---- the write
pub seven_small : small (7 ∷ []) ≡ true
unfolding small
seven_small = refl

abbrev pub saving : Saving plan
saving = record { item = 7 ∷ []; time = 1; size = refl; bytes = small_octets (7 ∷ []) seven_small; low = omega arith; high = omega arith }

pub saving_stamp : stamp_in saving ≡ stamp_number stamp_seven
saving_stamp = ap (λ (t : Timestamp). stamp_number t) stamped_so

-- the record for each node
slots_hold : (i : ℕ) → i < 5 → record_to saving i ≡ sheet
unfolding record_length part sheet stamp_bytes cross verifier hash
slots_hold = by_node (λ (i : ℕ). record_to saving i ≡ sheet) (at 0 refl) (at 1 refl) (at 2 refl) (at 3 refl) (at 4 refl)
  where
    at : (i : ℕ) → slot_of plan desk_full i ≡ sheet → record_to saving i ≡ sheet
    at i e = ap (λ (d : List ℕ). slot_of plan d i) written_so ∙ e

-- ---- nodes 0, 1 and 2 executed it
abbrev pub executed : ℕ → Bool
executed i = ltb i 3

stored : (i : ℕ) → i < 5 → (after : List Call) → Executed (record_to saving i) (time_call i ∷ write_call i 2 ∷ after)
unfolding part num num_from be be_onto
stored i l after =
    record {
      at = record { before = time_call i ∷ []; call = write_call i 2; after = after; is = refl };
      kind = refl;
      body = built.body_frame (header_of write_request_kind i 2) sheet ∙ sym (slots_hold i l);
      size = 55;
      replied = refl;
    }

pub executed_so : ExecutedBy plan after_save saving executed
unfolding number_of
executed_so =
    record {
      enough = omega arith;
      honest = by_node (λ (i : ℕ). executed i ≡ true → honest i ≡ true) (λ e. refl) (λ e. refl) (λ e. refl) (λ e. refl) (λ e. absurd (clash (sym e)));
      each = by_node (λ (i : ℕ). executed i ≡ true → Executed (record_to saving i) (saves i)) (λ e. stored 0 (omega arith) []) (λ e. stored 1 (omega arith) []) (λ e. stored 2 (omega arith) [])
          (λ e. absurd (clash (sym e))) (λ e. absurd (clash (sym e)));
    }

-- ---- the run
abbrev pub run : Parties plan
run = record { nodes = after_save; write = saving; executed = executed; read = first }

pub given : Given plan run
given =
    record { executed = executed_so; before = first_before; honest = lives; others = few_others; numbers = first_numbers; apart = apart_first; asks = first_asks }

pub older_so : EachTurn (λ (t : Turn). NeverOlder (stamp_in saving) (7 ∷ []) (said_of t.took.answer) t.item_left) first.turns
older_so = never_an_older_sheet plan run given

-- ---- what it says of the last call: of its two cases the second
not_above : (a b : ℕ) → a ≡ b → a < b → ⊥
not_above a b e l = omega arith

written : (left : List ℕ) → (stamp_in saving < stamp_number stamp_seven) ⊎ ((stamp_number stamp_seven ≡ stamp_in saving) × (left ≡ 7 ∷ []))
    → (stamp_number stamp_seven ≡ stamp_in saving) × (left ≡ 7 ∷ [])
written left (inl l) = absurd (not_above (stamp_in saving) (stamp_number stamp_seven) saving_stamp l)
written left (inr e) = e

pub told_so : (said_of call_12.took.answer ≡ done stamp_seven 2) × (stamp_number stamp_seven ≡ stamp_in saving) × (call_12.item_left ≡ 7 ∷ [])
told_so = let w = written call_12.item_left older_so.1.1.1.1.1.1.1.1.1.1.1.0 in (refl, w.0, w.1)

-- ---- the second read: by then node 3 has executed the record too, in the repair
abbrev pub executed_by_then : ℕ → Bool
executed_by_then i = ltb i 4

repaired : Executed (record_to saving 3) (firsts 3)
unfolding part num num_from be be_onto
repaired =
    record {
      at = record { before = none_call 3 ∷ nothing_call 3 ∷ []; call = write_call 3 13; after = []; is = refl };
      kind = refl;
      body = built.body_frame (header_of write_request_kind 3 13) sheet ∙ sym (slots_hold 3 (omega arith));
      size = 55;
      replied = refl;
    }

pub executed_later : ExecutedBy plan after_first saving executed_by_then
unfolding number_of
executed_later =
    record {
      enough = omega arith;
      honest = λ i l e. e;
      each = by_honest (λ (i : ℕ). Executed (record_to saving i) (after_first.early i)) (stored 0 (omega arith) (firsts 0)) (stored 1 (omega arith) (firsts 1))
          (stored 2 (omega arith) []) repaired;
    }

abbrev pub run_later : Parties plan
run_later = record { nodes = after_first; write = saving; executed = executed_by_then; read = second }

pub given_later : Given plan run_later
given_later =
    record {
      executed = executed_later;
      before = second_before;
      honest = lives_later;
      others = few_others_later;
      numbers = second_numbers;
      apart = apart_second;
      asks = second_asks_later;
    }

pub older_later : EachTurn (λ (t : Turn). NeverOlder (stamp_in saving) (7 ∷ []) (said_of t.took.answer) t.item_left) second.turns
older_later = never_an_older_sheet plan run_later given_later

pub told_later : (said_of call_4.took.answer ≡ done stamp_seven 1) × (stamp_number stamp_seven ≡ stamp_in saving) × (call_4.item_left ≡ 7 ∷ [])
told_later = let w = written call_4.item_left older_later.1.1.1.0 in (refl, w.0, w.1)
