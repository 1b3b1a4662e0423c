-- Two whole reads of one write, from their openings, under one plan, with Byzantine clients: that of Stamp.antt, whose set is complete and whose nodes
-- are 1 and 2, and that of Read.antt, which needs two rounds and a repair and hears of the write from node 0 alone. The hypotheses of the theorems on
-- reads that end done can be met: both leave the byte 7 that was written at time 1.
--   slots_so           what slot 0 holds in round 2 of the second read
--   complete_read repaired_read   both reads; complete_unlike repaired_unlike: what their replies bore does not clash with what was written
--   complete_so repaired_so   both leave the item that was written
--   stamp_so one_so written_so   the timestamp is that of the item; so both leave one item
--   round_two valid_so   round 2 of the second read comes to a set of node 0; it validates, as that of nodes 1 and 2 does
-- Assumes nothing.
use Prim.{tt}
use Prim.Native.Nat.{ℕ}
use mathlib.Core.Path.{◌≡◌, refl, sym, ap, ◌∙◌, subst}
use mathlib.Core.Bool.{true, false}
use mathlib.Core.List.{List, [], ◌∷◌}
use native.Mathlib.Omega.{arith}
use lib.ListN.{get_or}
use Rattle.octets.specs.Bytes.{part, num, num_from, be, be_onto, alike}
use Rattle.terms.specs.Ladder.{all, None}
use Rattle.terms.specs.Stamp.{then, stamp_at, stamp_number}
use Rattle.terms.specs.Terms.{plan_ok, counts_ok, limits_ok, column_of, record_length, slots_of}
use Rattle.terms.specs.declared.Timestamp.{Timestamp}
use Rattle.terms.proofs.Rungs.{clash}
use Rattle.terms.proofs.Small.{small_octets}
use Rattle.field.specs.Field.{xtime, mul_n, mul}
use Rattle.fragments.specs.Fragments.{from, fragment, tabulate, ratio, weight_of, blend, value}
use Rattle.frame.specs.Frame.{body_of, frame_node, shaped, body_fits, one_of, for_party, good_frame, good_reply, suits}
use Rattle.record.specs.Record.{stamp_of, cross_of, fragment_of}
use Rattle.record.specs.Desk.{stamp_made}
use Rattle.record.proofs.Desks.{time_made}
use Rattle.std.proofs.Common.{Some}
use Rattle.rounds.specs.Rounds.{heard_count, every, slot_stamp, ahead_of, step_of, lead_of, joins_of, set_of, under_of, slot_fits, slots_fit}
use Rattle.recover.specs.Records.{cross_for, stamp_for}
use Rattle.session.specs.Session.{done}
use Rattle.session.specs.Ranges.{standing_rules, open_rules, in_range}
use Rattle.standing.specs.Standing.{lengths_ok, ask_in, awaits_in, round_rules}
use Rattle.session.specs.Reply.{awaited, is_heard, bears, read_ladder}
use Rattle.client.specs.Endings.{after_reply, desk_after, size}
use Rattle.client.specs.Held.{EverySlot, Held, ReadDone, SetCloses, set_valid}
use Rattle.client.specs.SameStamp.{Unlike, NoClash, ItemsUnlike}
use Rattle.client.proofs.Held.{every_slot}
use Rattle.client.proofs.SameStamp.{done_comes_back}
use Rattle.client.proofs.OneItem.{done_of_item, done_one_item, written_one_item}
use Rattle.client.proofs.Validation.{valid_for_all}
use Rattle.client.proofs.Instances.Read as read
use Rattle.client.proofs.Instances.Read.{plan, ask, opened, opened_so, desk, hash, stamp_bytes, good, poor, desk_good, desk_poor, cross, cross_so, stamped_so, seven_small, second_heard, reply_1, reply_2, reply_3, reply_4, reply_5, reply_6, call_1, call_2, call_3, call_4, call_5, call_6}
use Rattle.client.proofs.Instances.Stamp as stamp
use Rattle.client.proofs.Instances.Stamp.{first_reply, second_reply, desk_one, first_call, call}

-- after three calls of the repaired read, round 2 is open and has heard node 0
pub slots_so : EverySlot (Held plan (call_1 ∷ call_2 ∷ call_3 ∷ [])) plan second_heard.marks desk_good
slots_so = every_slot plan ask opened opened_so refl desk (call_1 ∷ call_2 ∷ call_3 ∷ []) ((read.calls).0, ((read.calls).1.0, ((read.calls).1.1.0, tt))) refl

-- ---- the two reads
abbrev pub written : Timestamp
written = stamp_for plan 1 (7 ∷ [])

module _ where
  same_bytes : stamp_at desk_good 0 ≡ stamp_at stamp_bytes 0
  unfolding stamp_at desk_good good stamp_bytes part
  same_bytes = refl

  pub stamp_is : stamp_at desk_good 0 ≡ written
  stamp_is = same_bytes ∙ sym stamped_so

  one_bytes : stamp_at desk_one 137 ≡ stamp_at stamp_bytes 0
  unfolding stamp_at desk_one good stamp_bytes part
  one_bytes = refl

  pub one_is : stamp_at desk_one 137 ≡ written
  one_is = one_bytes ∙ sym stamped_so

abbrev pub complete_read : ReadDone plan written (7 ∷ [])
complete_read =
    record {
      ask = ask;
      opened = opened;
      opens = opened_so;
      accepted = refl;
      desk = desk;
      first = first_call;
      rest = call ∷ [];
      calls = stamp.calls;
      rounds = 1;
      says = ap (λ (t : Timestamp). done t 1) one_is;
      left = refl;
    }

abbrev pub repaired_read : ReadDone plan written (7 ∷ [])
repaired_read =
    record {
      ask = ask;
      opened = opened;
      opens = opened_so;
      accepted = refl;
      desk = desk;
      first = call_1;
      rest = call_2 ∷ call_3 ∷ call_4 ∷ call_5 ∷ call_6 ∷ [];
      calls = read.calls;
      rounds = 2;
      says = ap (λ (t : Timestamp). done t 2) stamp_is;
      left = refl;
    }

-- ---- what the replies bore
-- the record that was written, from node 0, 1 or 2
module _ where
  good_cross : cross_of plan good ≡ cross
  unfolding plan good stamp_bytes hash part
  good_cross = refl

  good_0 : fragment_of plan good ≡ fragment 1 1 (7 ∷ []) 0
  unfolding plan good stamp_bytes hash part fragment
  good_0 = refl

  good_1 : fragment_of plan good ≡ fragment 1 1 (7 ∷ []) 1
  unfolding plan good stamp_bytes hash part fragment tabulate value blend weight_of ratio from xtime mul_n mul
  good_1 = refl

  good_2 : fragment_of plan good ≡ fragment 1 1 (7 ∷ []) 2
  unfolding plan good stamp_bytes hash part fragment tabulate value blend weight_of ratio from xtime mul_n mul
  good_2 = refl

  unlike_0 : Unlike plan (7 ∷ []) 0 good
  unfolding plan
  unlike_0 = record { cross = λ e. good_cross ∙ sym cross_so; fragments = λ e. good_0 }

  unlike_1 : Unlike plan (7 ∷ []) 1 good
  unfolding plan
  unlike_1 = record { cross = λ e. good_cross ∙ sym cross_so; fragments = λ e. good_1 }

  unlike_2 : Unlike plan (7 ∷ []) 2 good
  unfolding plan
  unlike_2 = record { cross = λ e. good_cross ∙ sym cross_so; fragments = λ e. good_2 }

-- the frames: their nodes, and what they bear
module _ where
  body_first_reply : body_of first_reply ≡ good
  unfolding first_reply good stamp_bytes hash be be_onto num num_from part
  body_first_reply = refl

  node_first_reply : frame_node first_reply ≡ 1
  unfolding first_reply good stamp_bytes hash be be_onto num num_from part
  node_first_reply = refl

  body_second_reply : body_of second_reply ≡ good
  unfolding second_reply good stamp_bytes hash be be_onto num num_from part
  body_second_reply = refl

  node_second_reply : frame_node second_reply ≡ 2
  unfolding second_reply good stamp_bytes hash be be_onto num num_from part
  node_second_reply = refl

  body_reply_3 : body_of reply_3 ≡ good
  unfolding reply_3 good stamp_bytes hash be be_onto num num_from part
  body_reply_3 = refl

  node_reply_3 : frame_node reply_3 ≡ 0
  unfolding reply_3 good stamp_bytes hash be be_onto num num_from part
  node_reply_3 = refl

  bare_reply_2 : bears plan reply_2 ≡ false
  unfolding reply_2 plan bears record_length stamp_bytes be be_onto num num_from part
  bare_reply_2 = refl

  bare_reply_4 : bears plan reply_4 ≡ false
  unfolding reply_4 plan bears record_length stamp_bytes be be_onto num num_from part
  bare_reply_4 = refl

  bare_reply_5 : bears plan reply_5 ≡ false
  unfolding reply_5 plan bears record_length stamp_bytes be be_onto num num_from part
  bare_reply_5 = refl

  bare_reply_6 : bears plan reply_6 ≡ false
  unfolding reply_6 plan bears record_length stamp_bytes be be_onto num num_from part
  bare_reply_6 = refl

  -- the record of time 2 is of another write
  other_time : get_or (stamp_of (body_of reply_1)) 7 0 ≡ 2
  unfolding reply_1 poor hash be be_onto num num_from part
  other_time = refl

  this_time : get_or stamp_bytes 7 0 ≡ 1
  unfolding stamp_bytes
  this_time = refl

  other : bears plan reply_1 ≡ true → stamp_of (body_of reply_1) ≡ stamp_made 1 (cross_for plan (7 ∷ [])) → Unlike plan (7 ∷ []) (frame_node reply_1) (body_of reply_1)
  other h s =
      absurd (let z : 2 ≡ 1 = sym other_time ∙ ap (λ (l : List ℕ). get_or l 7 0) (s ∙ ap (stamp_made 1) cross_so ∙ read.stamp_so) ∙ this_time in omega (arith, z))

  given : (f rec : List ℕ) (z : ℕ) → frame_node f ≡ z → body_of f ≡ rec → Unlike plan (7 ∷ []) z rec → bears plan f ≡ true
      → stamp_of (body_of f) ≡ stamp_made 1 (cross_for plan (7 ∷ [])) → Unlike plan (7 ∷ []) (frame_node f) (body_of f)
  given f rec z n b u h s = subst (λ (k : ℕ). Unlike plan (7 ∷ []) k (body_of f)) (sym n) (subst (Unlike plan (7 ∷ []) z) (sym b) u)

  bare : (f : List ℕ) → bears plan f ≡ false → bears plan f ≡ true → stamp_of (body_of f) ≡ stamp_made 1 (cross_for plan (7 ∷ [])) → Unlike plan (7 ∷ []) (frame_node f) (body_of f)
  bare f e h s = absurd (clash (sym h ∙ e))

pub complete_unlike : NoClash plan 1 (7 ∷ []) (first_call ∷ call ∷ [])
complete_unlike = (given first_reply good 1 node_first_reply body_first_reply unlike_1, (given second_reply good 2 node_second_reply body_second_reply unlike_2, tt))

pub repaired_unlike : NoClash plan 1 (7 ∷ []) (call_1 ∷ call_2 ∷ call_3 ∷ call_4 ∷ call_5 ∷ call_6 ∷ [])
repaired_unlike = (
  other,
  (
    bare reply_2 bare_reply_2,
    (
      given reply_3 good 0 node_reply_3 body_reply_3 unlike_0,
      (bare reply_4 bare_reply_4, (bare reply_5 bare_reply_5, (bare reply_6 bare_reply_6, tt))),
    ),
  ),
)

-- ---- both leave the item that was written
pub complete_so : call.item_left ≡ 7 ∷ []
unfolding plan
complete_so = done_comes_back plan 1 (7 ∷ []) (small_octets (7 ∷ []) seven_small) refl (7 ∷ []) complete_read complete_unlike

pub repaired_so : call_6.item_left ≡ 7 ∷ []
unfolding plan
repaired_so = done_comes_back plan 1 (7 ∷ []) (small_octets (7 ∷ []) seven_small) refl (7 ∷ []) repaired_read repaired_unlike

-- ---- and so one item, whoever wrote it
items_unlike : ItemsUnlike plan call.item_left call_6.item_left
items_unlike = record { cross = λ e. refl; fragments = λ k h e. refl }

pub stamp_so : stamp_for plan written.time.0 call_6.item_left ≡ written
unfolding plan
stamp_so = done_of_item plan refl written (7 ∷ []) repaired_read

pub one_so : call.item_left ≡ call_6.item_left
unfolding plan
one_so = done_one_item plan refl written call.item_left call_6.item_left complete_read repaired_read items_unlike

pub written_so : call.item_left ≡ call_6.item_left
unfolding plan
written_so =
    written_one_item plan 1 (7 ∷ []) (small_octets (7 ∷ []) seven_small) refl call.item_left call_6.item_left complete_read repaired_read complete_unlike
    repaired_unlike

-- ---- and so the set of the other read's round 2 validates
module _ where
  pub none_so : None (read_ladder plan second_heard reply_4 desk_good 1)
  unfolding reply_4 hash stamp_bytes good desk_good desk_poor poor plan plan_ok counts_ok limits_ok column_of all record_length lengths_ok in_range standing_rules round_rules open_rules heard_count every
      slots_fit slot_fits slot_stamp under_of num num_from part good_reply good_frame suits shaped for_party one_of body_fits awaited ask_in awaits_in is_heard bears be be_onto
      stamp_at stamp_number then
  none_so = (refl, (refl, (refl, (refl, (refl, (refl, (refl, (refl, (refl, (refl, tt))))))))))

  pub count_so : heard_count (after_reply plan second_heard reply_4).marks ≡ 2
  unfolding reply_4 plan bears record_length heard_count be be_onto num num_from part
  count_so = refl

  pub lead_so : lead_of (after_reply plan second_heard reply_4).marks (desk_after plan reply_4 desk_good) (slots_of plan) 3 ≡ Some 0
  unfolding reply_4 plan bears record_length be be_onto num num_from part lead_of step_of ahead_of
  lead_so = refl

  pub size_so : size plan second_heard reply_4 desk_good 0 ≡ 1
  unfolding reply_4 hash stamp_bytes good desk_good plan bears record_length be be_onto num num_from part set_of joins_of alike
  size_so = refl

  pub after_so : desk_after plan reply_4 desk_good ≡ desk_good
  unfolding reply_4 plan bears record_length be be_onto num num_from part
  after_so = refl

abbrev pub round_two : SetCloses plan written
unfolding plan record_length
round_two =
    record {
      ask = ask;
      opened = opened;
      opens = opened_so;
      accepted = refl;
      desk = desk;
      before = call_1 ∷ call_2 ∷ call_3 ∷ [];
      calls = ((read.calls).0, ((read.calls).1.0, ((read.calls).1.1.0, tt)));
      last = call_4;
      call = (read.calls).1.1.1.0;
      closes = record { accepted = none_so; asks = refl; enough = omega (arith, count_so) };
      node = 0;
      candidate = lead_so;
      enough = omega (arith, size_so);
      of = sym stamp_is ∙ ap (λ (d : List ℕ). stamp_at d 0) (sym after_so);
    }

time_so : written.time.0 ≡ 1
unfolding stamp_for stamp_at
time_so = time_made 1 (cross_for plan (7 ∷ [])) (omega arith)

pub valid_so : set_valid plan written round_two ≡ true
unfolding plan record_length
valid_so =
    valid_for_all plan refl written (7 ∷ []) complete_read round_two
    (subst (λ (t : ℕ). NoClash plan t (7 ∷ []) (call_4 ∷ call_1 ∷ call_2 ∷ call_3 ∷ [])) (sym time_so)
    (bare reply_4 bare_reply_4, (other, (bare reply_2 bare_reply_2, (given reply_3 good 0 node_reply_3 body_reply_3 unlike_0, tt)))))
