-- ONE OPERATION AFTER ANOTHER, at the run of these instances: the save is done with three honest nodes and the liar, the first read ends with what was saved, and the
-- second with what the first gave.
--   save_so first_ended   the save and the first read are done
--   written_so         the save was executed, record by record, by N-t-b honest nodes
--   lost_so            it is not lost to the first read
--   had_so read_so     the first read's timestamp had been executed by an honest node, and is executed by Q at its end
--   not_older_so same_so as_written_so   the second read is not older than the first, and gives the same bytes
--   bounded_so         the core, from a round that opens below a bound
-- Assumes nothing.
use Prim.{tt}
use Prim.Native.Nat.{ℕ, ◌<◌}
use mathlib.Core.Path.{◌≡◌, refl, sym, ◌∙◌, subst}
use mathlib.Core.Bool.{true}
use mathlib.Core.List.{[], ◌∷◌, ◌++◌}
use borrow.Author.Tests.{ltb-true}
use lib.Dec.{ltb}
use Rattle.octets.specs.Bytes.{part, num, num_from, be, be_onto}
use Rattle.terms.specs.Stamp.{stamp, stamp_number, stamp_at, then}
use Rattle.terms.proofs.Small.{small_octets}
use Rattle.standing.specs.declared.Operation.TheVariants.{Read}
use Rattle.session.specs.Session.{said_of}
use Rattle.session.proofs.Openings.{accepted_plan}
use Rattle.client.specs.Turns.{Turn}
use Rattle.client.specs.Repair.{EachTurn}
use Rattle.client.specs.Older.{OpensAbove, NotBelow}
use Rattle.client.proofs.Bytes.{written_stamp}
use Rattle.client.proofs.SameStamp.{Fair, fair_cross}
use Rattle.client.proofs.Validation.{set_validates}
use Rattle.client.proofs.Older.{never_below}
use Rattle.safety.specs.Run.{life_of, record_to, stamp_in}
use Rattle.safety.specs.Safety.{NeverOlder}
use Rattle.safety.specs.Done.{Done, HadExecuted, HonestQuorum, Saved, WrittenBy, After}
use Rattle.safety.proofs.Heeds.{all_heed}
use Rattle.safety.proofs.Theorem.{all_apart}
use Rattle.safety.proofs.Done.{done_had_executed, done_is_executed}
use Rattle.safety.proofs.After.{early_lives, saved_is_never_lost, later_read_not_older, later_read_same_bytes, later_read_as_written}
use Rattle.safety.proofs.Saved.{saved_is_written}
use Rattle.safety.proofs.Instances.Data.{plan, verifier, stamp_bytes, stamp_seven, lie_verifier, lie_stamp, stamp_nine, stamped_so}
use Rattle.safety.proofs.Instances.Lives.{after_save, after_first, lives, lives_later, few_others, few_others_later}
use Rattle.safety.proofs.Instances.Save as save
use Rattle.safety.proofs.Instances.Save.{save, desk_long, save_numbers, save_asks}
use Rattle.safety.proofs.Instances.Read as read
use Rattle.safety.proofs.Instances.Read.{first}
use Rattle.safety.proofs.Instances.Numbers.{first_numbers, first_numbers_early, first_asks, first_before}
use Rattle.safety.proofs.Instances.Second.{second, second_numbers, second_asks_later, second_before}
use Rattle.safety.proofs.Instances.Apart.{apart_first, apart_second}
use Rattle.safety.proofs.Instances.Given.{seven_small, saving, saving_stamp, executed, executed_so}

-- ---- the save
pub save_so : Saved save (7 ∷ []) stamp_seven
save_so =
    record {
      bytes = small_octets (7 ∷ []) seven_small;
      long = desk_long;
      lent = (refl, (refl, (refl, (refl, (refl, (refl, (refl, (refl, tt))))))));
      done = record {
        before = save.time_turns ++ (save.call_5 ∷ save.call_6 ∷ save.call_7 ∷ []);
        last = save.call_8;
        rounds = 0;
        is = refl;
        says = save.save_done;
      };
    }

pub written_so : WrittenBy plan after_save (7 ∷ []) stamp_seven
written_so = saved_is_written after_save save (7 ∷ []) stamp_seven lives few_others save_so save_numbers save_asks

-- ---- the first read
abbrev pub first_after : After after_save first
first_after = record { before = first_before; numbers = first_numbers; asks = first_asks }

pub lost_so : EachTurn (λ (t : Turn). NeverOlder (stamp_number stamp_seven) (7 ∷ []) (said_of t.took.answer) t.item_left) first.turns
lost_so = saved_is_never_lost after_save save first (7 ∷ []) stamp_seven lives few_others save_so save_numbers first_after apart_first

abbrev pub first_ended : Done first stamp_seven
first_ended =
    record { before = read.round_1 ++ (read.round_2 ++ (read.call_9 ∷ read.call_10 ∷ read.call_11 ∷ [])); last = read.call_12; rounds = 2; is = refl; says = refl }

pub had_so : HadExecuted plan after_save (life_of after_save) first.turns (stamp_number stamp_seven)
had_so = done_had_executed after_save first (life_of after_save) lives few_others first_numbers stamp_seven first_ended

pub read_so : HonestQuorum plan after_first after_first.early 3 (stamp_number stamp_seven)
read_so = done_is_executed after_first first after_first.early (early_lives after_first lives_later) few_others_later first_numbers_early stamp_seven first_ended

-- ---- the second read
abbrev pub second_after : After after_first second
second_after = record { before = second_before; numbers = second_numbers; asks = second_asks_later }

pub not_older_so : EachTurn (λ (t : Turn). NotBelow (stamp_number stamp_seven) (said_of t.took.answer)) second.turns
not_older_so = later_read_not_older after_first lives_later few_others_later first stamp_seven first_ended first_numbers_early second second_after apart_second

pub same_so : EachTurn (λ (t : Turn). NeverOlder (stamp_number stamp_seven) (7 ∷ []) (said_of t.took.answer) t.item_left) second.turns
same_so = later_read_same_bytes after_first lives_later few_others_later first stamp_seven first_ended first_numbers_early second second_after refl apart_second

pub as_written_so : ((read.call_12).item_left ≡ 7 ∷ []) × EachTurn (λ (t : Turn). NeverOlder (stamp_number stamp_seven) (7 ∷ []) (said_of t.took.answer) t.item_left) second.turns
as_written_so =
    later_read_as_written after_first lives_later few_others_later first stamp_seven first_ended first_numbers_early second second_after 1 (7 ∷ []) (small_octets (7 ∷ []) seven_small) refl
    (sym stamped_so) apart_first apart_second

-- ---- the core from a round that opens below a bound: the second round of the first read, below what the liar told
bound_above : ltb (stamp_number stamp_seven) (stamp (be 40 (stamp_number stamp_nine))) ≡ true
unfolding stamp_number then part num num_from be be_onto stamp_at stamp_bytes verifier lie_stamp lie_verifier
bound_above = refl

opens_above : OpensAbove (stamp_in saving) read.second_round
opens_above =
    record {
      opens = record { round = refl; marks = refl };
      above = subst (λ (x : ℕ). x < stamp (be 40 (stamp_number stamp_nine))) (sym saving_stamp) (ltb-true _ _ bound_above);
    }

pub bounded_so : EachTurn (λ (t : Turn). NotBelow (stamp_in saving) (said_of t.took.answer)) (read.round_2 ++ read.repair)
bounded_so =
    let b = saving.bytes in
    let w = executed_so in
    let brings = all_apart plan (7 ∷ []) 1 b refl first.opened.session first.desk first.turns first.calls apart_first in
    let heeds = all_heed after_save first first_before lives first_numbers first_asks (stamp_in saving) executed w.honest
    (λ i l x. record { rec = record_to saving i; of = written_stamp plan 1 (7 ∷ []) refl i l; executed = w.each i l x }) in
    never_below plan (accepted_plan Read plan first.ask first.opened first.opens first.accepted) (stamp_in saving) executed w.enough (Fair plan 1 (7 ∷ []) b refl) (λ k rec f. f.octets)
    (λ j k x y a c e z l m. fair_cross plan 1 (7 ∷ []) b refl j x a e l ∙ sym (fair_cross plan 1 (7 ∷ []) b refl k y c z m)) (λ u e a c z. set_validates plan 1 (7 ∷ []) b refl u e a c z)
    read.second_round read.desk_lie (read.round_2 ++ read.repair) opens_above first.calls.1.1.1.1 brings.1.1.1.1 heeds.1.1.1.1
