-- What the first read takes and asks: every reply that it takes under the number of an honest node was written by that node, and its ask numbers, 11 to 14,
-- stand in its own requests alone.
--   first_numbers first_numbers_early   each reply was written in the life of its node; in the part of it before the second read
--   first_asks first_asks_later         each request with one of its ask numbers is one that it owed; the same, cut after the first read
--   first_before       no request of the save is one of it
-- Assumes nothing.
use Rattle.terms.specs.declared.Refusal.{Refusal}
use Rattle.std.specs.Prelude.{Ok, Result}
use Prim.{tt}
use Prim.Native.Nat.{ℕ, ◌<◌}
use mathlib.Core.Path.{◌≡◌, refl, sym, subst}
use mathlib.Core.List.{List, [], ◌∷◌, ◌++◌}
use mathlib.Core.Logic.{inl, inr}
use native.Mathlib.Omega.{arith}
use lib.Dec.{lit<}
use Rattle.octets.specs.Bytes.{part, num, num_from, be, be_onto}
use Rattle.terms.specs.Ladder as ladder
use Rattle.terms.specs.Ladder.{all}
use Rattle.terms.specs.Stamp.{then, stamp_at, stamp_number}
use Rattle.terms.specs.Terms.{plan_ok, counts_ok, limits_ok, column_of, record_length}
use Rattle.frame.specs.Frame.{frame, time_request_kind, write_request_kind, write_reply_kind, read_latest_kind, read_reply_kind}
use Rattle.rounds.specs.Rounds.{heard_count, every, slots_fit, slot_fits}
use Rattle.standing.specs.Standing.{room_ok, ask_in, round_rules, read_request}
use Rattle.session.specs.Ranges.{standing_rules, open_rules, in_range}
use Rattle.session.specs.Reply.{is_heard}
use Rattle.session.specs.Owed.{request_of}
use Rattle.store.specs.History.{Call, EachCall, Wrote}
use Rattle.client.specs.Repair.{EachTurn}
use Rattle.safety.specs.Run.{Owes, life_of}
use Rattle.safety.specs.Safety.{OwnNumbers, OwnAsks, Before}
use Rattle.safety.proofs.Instances.Data.{by_node, hash, cross, verifier, stamp_bytes, sheet, lie_hash, lie_cross, lie_verifier, lie_stamp, lie}
use Rattle.safety.proofs.Instances.Nodes.{time_request, write_request, latest_request, previous_request, write_reply_of, sheet_reply, first_reply, book, held}
use Rattle.safety.proofs.Instances.Lives.{saves, seconds, time_call, write_call, latest_call, previous_call, none_call, nothing_call, after_save, after_first, by_honest}
use Rattle.safety.proofs.Instances.Asks.{Asked, Own, own_ask, other_ask, not_owed, owes_at, wrote_so, each_of, from_honest, from_liar}
use Rattle.safety.proofs.Instances.Save.{desk, desk_long}
use Rattle.safety.proofs.Instances.Read.{first, round_1, round_2, repair, turns}

-- ---- who wrote the replies: nodes 0 and 1, which hold the record, and node 3, which does not
module _ (i : ℕ) (rest : List Call) where
  abbrev holder : List Call
  holder = time_call i ∷ write_call i 2 ∷ latest_call i 11 ∷ previous_call i ∷ write_call i 13 ∷ rest

  latest_wrote : Wrote (sheet_reply i 11) holder
  unfolding be be_onto sheet stamp_bytes cross verifier hash
  latest_wrote =
      wrote_so (time_call i ∷ write_call i 2 ∷ []) (previous_call i ∷ write_call i 13 ∷ rest) (latest_request i 11) (sheet_reply i 11) (held i) 216 refl

  previous_wrote : Wrote (sheet_reply i 12) holder
  unfolding be be_onto sheet stamp_bytes cross verifier hash
  previous_wrote =
      wrote_so (time_call i ∷ write_call i 2 ∷ latest_call i 11 ∷ []) (write_call i 13 ∷ rest) (previous_request i) (sheet_reply i 12) (held i) 216 refl

  again_wrote : Wrote (write_reply_of i 13) holder
  unfolding be be_onto stamp_bytes verifier
  again_wrote =
      wrote_so (time_call i ∷ write_call i 2 ∷ latest_call i 11 ∷ previous_call i ∷ []) rest (write_request i 13) (write_reply_of i 13) (held i) 55 refl

  abbrev other : List Call
  other = none_call i ∷ nothing_call i ∷ write_call i 13 ∷ rest

  none_wrote : Wrote (first_reply i 11) other
  unfolding be be_onto
  none_wrote = wrote_so [] (nothing_call i ∷ write_call i 13 ∷ rest) (latest_request i 11) (first_reply i 11) (book i) 15 refl

  nothing_wrote : Wrote (first_reply i 12) other
  unfolding be be_onto
  nothing_wrote = wrote_so (none_call i ∷ []) (write_call i 13 ∷ rest) (previous_request i) (first_reply i 12) (book i) 15 refl

  repair_wrote : Wrote (write_reply_of i 13) other
  unfolding be be_onto stamp_bytes verifier
  repair_wrote = wrote_so (none_call i ∷ nothing_call i ∷ []) rest (write_request i 13) (write_reply_of i 13) (held i) 55 refl

-- in a part of the lives that holds the save and the first read
module _ (part : ℕ → List Call) (rest : ℕ → List Call) (is_0 : part 0 ≡ holder 0 (rest 0)) (is_1 : part 1 ≡ holder 1 (rest 1)) (is_3 : part 3 ≡ other 3 (rest 3)) where
  numbers_1 : EachTurn (Own part) round_1
  numbers_1 = (
    λ x. from_honest part read_reply_kind 11 sheet 0 (omega arith) (subst (Wrote _) (sym is_0) (latest_wrote 0 (rest 0))),
    (
      λ x. from_honest part read_reply_kind 11 sheet 1 (omega arith) (subst (Wrote _) (sym is_1) (latest_wrote 1 (rest 1))),
      (
        λ x. from_honest part read_reply_kind 11 [] 3 (omega arith) (subst (Wrote _) (sym is_3) (none_wrote 3 (rest 3))),
        (
          λ x. from_liar part read_reply_kind 11 lie,
          tt,
        ),
      ),
    ),
  )

  numbers_2 : EachTurn (Own part) round_2
  numbers_2 = (
    λ x. from_honest part read_reply_kind 12 sheet 0 (omega arith) (subst (Wrote _) (sym is_0) (previous_wrote 0 (rest 0))),
    (
      λ x. from_honest part read_reply_kind 12 sheet 1 (omega arith) (subst (Wrote _) (sym is_1) (previous_wrote 1 (rest 1))),
      (
        λ x. from_honest part read_reply_kind 12 [] 3 (omega arith) (subst (Wrote _) (sym is_3) (nothing_wrote 3 (rest 3))),
        (
          λ x. from_liar part read_reply_kind 12 [],
          tt,
        ),
      ),
    ),
  )

  numbers_3 : EachTurn (Own part) repair
  numbers_3 = (
    λ x. from_honest part write_reply_kind 13 stamp_bytes 0 (omega arith) (subst (Wrote _) (sym is_0) (again_wrote 0 (rest 0))),
    (
      λ x. from_honest part write_reply_kind 13 stamp_bytes 1 (omega arith) (subst (Wrote _) (sym is_1) (again_wrote 1 (rest 1))),
      (
        λ x. from_honest part write_reply_kind 13 stamp_bytes 3 (omega arith) (subst (Wrote _) (sym is_3) (repair_wrote 3 (rest 3))),
        (
          λ x. from_liar part write_reply_kind 13 stamp_bytes,
          tt,
        ),
      ),
    ),
  )

  numbers_in : EachTurn (Own part) turns
  numbers_in = each_of (Own part) round_1 (round_2 ++ repair) numbers_1 (each_of (Own part) round_2 repair numbers_2 numbers_3)

pub first_numbers : OwnNumbers after_save first (life_of after_save)
first_numbers = numbers_in (life_of after_save) seconds refl refl refl

pub first_numbers_early : OwnNumbers after_first first after_first.early
first_numbers_early = numbers_in after_first.early (λ (i : ℕ). []) refl refl refl

-- ---- what it asks of each node
owes_latest : (i : ℕ) → i < 5 → Owes first (latest_request i 11)
unfolding desk read_request request_of ladder.first plan_ok counts_ok limits_ok column_of all record_length room_ok in_range standing_rules round_rules open_rules heard_count every slots_fit
    slot_fits is_heard ask_in
owes_latest =
    by_node (λ (i : ℕ). Owes first (latest_request i 11))
    (owes_at first [] turns refl 0 (refl, (refl, (refl, (refl, (refl, (refl, tt)))))) (latest_request 0 11) refl)
    (owes_at first [] turns refl 1 (refl, (refl, (refl, (refl, (refl, (refl, tt)))))) (latest_request 1 11) refl)
    (owes_at first [] turns refl 2 (refl, (refl, (refl, (refl, (refl, (refl, tt)))))) (latest_request 2 11) refl)
    (owes_at first [] turns refl 3 (refl, (refl, (refl, (refl, (refl, (refl, tt)))))) (latest_request 3 11) refl)
    (owes_at first [] turns refl 4 (refl, (refl, (refl, (refl, (refl, (refl, tt)))))) (latest_request 4 11) refl)

owes_previous : (i : ℕ) → i < 5 → Owes first (previous_request i)
unfolding sheet stamp_bytes cross verifier hash lie lie_stamp lie_verifier lie_cross lie_hash read_request be be_onto stamp_at stamp_number then num num_from part request_of
    ladder.first plan_ok counts_ok limits_ok column_of all record_length room_ok in_range standing_rules round_rules open_rules heard_count every slots_fit slot_fits is_heard ask_in
owes_previous =
    by_node (λ (i : ℕ). Owes first (previous_request i))
    (owes_at first round_1 (round_2 ++ repair) refl 0 (refl, (refl, (refl, (refl, (refl, (refl, tt)))))) (previous_request 0) refl)
    (owes_at first round_1 (round_2 ++ repair) refl 1 (refl, (refl, (refl, (refl, (refl, (refl, tt)))))) (previous_request 1) refl)
    (owes_at first round_1 (round_2 ++ repair) refl 2 (refl, (refl, (refl, (refl, (refl, (refl, tt)))))) (previous_request 2) refl)
    (owes_at first round_1 (round_2 ++ repair) refl 3 (refl, (refl, (refl, (refl, (refl, (refl, tt)))))) (previous_request 3) refl)
    (owes_at first round_1 (round_2 ++ repair) refl 4 (refl, (refl, (refl, (refl, (refl, (refl, tt)))))) (previous_request 4) refl)

owes_repair : (i : ℕ) → i < 5 → Owes first (write_request i 13)
unfolding sheet stamp_bytes cross verifier hash lie lie_stamp lie_verifier stamp_at num num_from part request_of ladder.first plan_ok counts_ok limits_ok column_of all record_length
    room_ok in_range standing_rules round_rules open_rules heard_count every slots_fit slot_fits is_heard ask_in
owes_repair =
    by_node (λ (i : ℕ). Owes first (write_request i 13))
    (owes_at first (round_1 ++ round_2) repair refl 0 (refl, (refl, (refl, (refl, (refl, (refl, tt)))))) (write_request 0 13) refl)
    (owes_at first (round_1 ++ round_2) repair refl 1 (refl, (refl, (refl, (refl, (refl, (refl, tt)))))) (write_request 1 13) refl)
    (owes_at first (round_1 ++ round_2) repair refl 2 (refl, (refl, (refl, (refl, (refl, (refl, tt)))))) (write_request 2 13) refl)
    (owes_at first (round_1 ++ round_2) repair refl 3 (refl, (refl, (refl, (refl, (refl, (refl, tt)))))) (write_request 3 13) refl)
    (owes_at first (round_1 ++ round_2) repair refl 4 (refl, (refl, (refl, (refl, (refl, (refl, tt)))))) (write_request 4 13) refl)

-- ---- requests of other ask numbers are not its own
asked_1 : (i : ℕ) → Asked first (time_request i)
asked_1 i = other_ask first desk_long time_request_kind i 1 [] (lit< tt) (inl (omega arith))

asked_2 : (i : ℕ) → Asked first (write_request i 2)
asked_2 i = other_ask first desk_long write_request_kind i 2 sheet (lit< tt) (inl (omega arith))

asked_21 : (i : ℕ) → Asked first (latest_request i 21)
asked_21 i = other_ask first desk_long read_latest_kind i 21 [] (lit< tt) (inr (omega arith))

pub first_asks : OwnAsks after_save first
first_asks =
    by_honest (λ (i : ℕ). EachCall (λ (c : Call). Asked first c.request) (life_of after_save i))
    (asked_1 0, (asked_2 0, (own_ask first (latest_request 0 11) (owes_latest 0 (omega arith)), (own_ask first (previous_request 0) (owes_previous 0 (omega arith)), (own_ask first (write_request 0 13) (owes_repair 0 (omega arith)), (asked_21 0, tt))))))
    (asked_1 1, (asked_2 1, (own_ask first (latest_request 1 11) (owes_latest 1 (omega arith)), (own_ask first (previous_request 1) (owes_previous 1 (omega arith)), (own_ask first (write_request 1 13) (owes_repair 1 (omega arith)), (asked_21 1, tt))))))
    (asked_1 2, (asked_2 2, (asked_21 2, tt)))
    (own_ask first (latest_request 3 11) (owes_latest 3 (omega arith)), (own_ask first (previous_request 3) (owes_previous 3 (omega arith)), (own_ask first (write_request 3 13) (owes_repair 3 (omega arith)), (asked_21 3, tt))))

pub first_asks_later : OwnAsks after_first first
first_asks_later =
    by_honest (λ (i : ℕ). EachCall (λ (c : Call). Asked first c.request) (life_of after_first i))
    (first_asks 0 (omega arith) refl) (first_asks 1 (omega arith) refl) (first_asks 2 (omega arith) refl) (first_asks 3 (omega arith) refl)

-- ---- it asked nothing before the save was over
unowed : (kind i ask : ℕ) (body : List ℕ) → ask < 11 → (n m : ℕ) → ◌≡◌ {A = Result ℕ Refusal} (Ok n) (Ok m) → Owes first (frame kind i ask body) → ⊥
unowed kind i ask body l n m e = not_owed first desk_long kind i ask body (omega arith) (inl l)

pub first_before : Before after_save first
first_before =
    by_honest (λ (i : ℕ). EachCall (λ (c : Call). (n : ℕ) → c.answer ≡ Ok n → Owes first c.request → ⊥) (saves i))
    (unowed time_request_kind 0 1 [] (omega arith) 23, (unowed write_request_kind 0 2 sheet (omega arith) 55, tt))
    (unowed time_request_kind 1 1 [] (omega arith) 23, (unowed write_request_kind 1 2 sheet (omega arith) 55, tt))
    (unowed time_request_kind 2 1 [] (omega arith) 23, (unowed write_request_kind 2 2 sheet (omega arith) 55, tt))
    tt
