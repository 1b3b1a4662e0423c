-- The lives of the honest nodes 0 to 3: each from a fresh book, over the save, the first read and the second. Node 4 lies.
--   saves firsts seconds   the calls of a node for the save, the first read and the second
--   after_save after_first   the nodes, with their lives cut after the save, and after the first read
--   few_others few_others_later   one of them lies
--   lives lives_later  each life, by its calls
-- Assumes nothing.
use Rattle.std.specs.Prelude.{Ok, Err}
use Prim.{tt}
use Prim.Native.Nat.{ℕ, zero, suc, ◌<◌}
use mathlib.Core.Path.{◌≡◌, refl, sym, ◌∙◌}
use mathlib.Core.Bool.{Bool, true}
use mathlib.Core.List.{List, [], ◌∷◌, ◌++◌}
use native.Mathlib.Omega.{arith}
use lib.Dec.{ltb, lit<}
use lib.ListN.{replicate}
use Rattle.octets.specs.Bytes.{be, be_onto}
use Rattle.terms.specs.declared.Refusal.TheVariants.{NoRoom}
use Rattle.terms.proofs.Small.{small, small_octets}
use Rattle.terms.proofs.Rungs.{clash}
use Rattle.rounds.specs.Numbers.{number_of}
use Rattle.store.specs.History.{Call, History, EachCall}
use Rattle.safety.specs.Run.{Served, Life, Nodes, life_of}
use Rattle.safety.specs.Safety.{HonestLives, FewOthers}
use Rattle.safety.proofs.Instances.Data.{plan, by_node, hash, cross, verifier, stamp_bytes, sheet, lie_verifier, lie_stamp}
use Rattle.safety.proofs.Instances.Nodes.{time_request, write_request, latest_request, previous_request, time_reply, write_reply_of, sheet_reply, first_reply, book, held, spoke, time_met, write_met, repair_met, none_met, nothing_met, latest_met, later_met, previous_met, again_met, made_so, book_bytes, held_bytes}

-- ---- the calls of a node
abbrev pub time_call : ℕ → Call
time_call i = spoke (time_request i) (time_reply i 0) (book i) 23

abbrev pub write_call : ℕ → ℕ → Call
write_call i ask = spoke (write_request i ask) (write_reply_of i ask) (held i) 55

abbrev pub latest_call : ℕ → ℕ → Call
latest_call i ask = spoke (latest_request i ask) (sheet_reply i ask) (held i) 216

abbrev pub previous_call : ℕ → Call
previous_call i = spoke (previous_request i) (sheet_reply i 12) (held i) 216

-- where no record is held
abbrev pub none_call : ℕ → Call
none_call i = spoke (latest_request i 11) (first_reply i 11) (book i) 15

abbrev pub nothing_call : ℕ → Call
nothing_call i = spoke (previous_request i) (first_reply i 12) (book i) 15

-- ---- each operation's, of a node
abbrev pub saves : ℕ → List Call
saves zero = time_call 0 ∷ write_call 0 2 ∷ []
saves (suc zero) = time_call 1 ∷ write_call 1 2 ∷ []
saves (suc (suc zero)) = time_call 2 ∷ write_call 2 2 ∷ []
saves (suc (suc (suc k))) = []

abbrev pub firsts : ℕ → List Call
firsts zero = latest_call 0 11 ∷ previous_call 0 ∷ write_call 0 13 ∷ []
firsts (suc zero) = latest_call 1 11 ∷ previous_call 1 ∷ write_call 1 13 ∷ []
firsts (suc (suc zero)) = []
firsts (suc (suc (suc zero))) = none_call 3 ∷ nothing_call 3 ∷ write_call 3 13 ∷ []
firsts (suc (suc (suc (suc k)))) = []

abbrev pub seconds : ℕ → List Call
seconds zero = latest_call 0 21 ∷ []
seconds (suc zero) = latest_call 1 21 ∷ []
seconds (suc (suc zero)) = latest_call 2 21 ∷ []
seconds (suc (suc (suc zero))) = latest_call 3 21 ∷ []
seconds (suc (suc (suc (suc k)))) = []

-- ---- the nodes: node 4 lies; cut after the save, and after the first read
abbrev pub honest : ℕ → Bool
honest i = ltb i 4

abbrev pub after_save : Nodes
after_save = record { honest = honest; early = saves; late = λ (i : ℕ). firsts i ++ seconds i }

abbrev pub after_first : Nodes
after_first = record { honest = honest; early = λ (i : ℕ). saves i ++ firsts i; late = seconds }

pub few_others : FewOthers plan after_save
unfolding number_of
few_others = omega arith

-- the same of the other cut
pub few_others_later : FewOthers plan after_first
few_others_later = few_others

-- what holds of each of nodes 0 to 3
pub by_honest : (P : ℕ → Type 0) → P 0 → P 1 → P 2 → P 3 → (i : ℕ) → i < 5 → honest i ≡ true → P i
by_honest P a b c d = by_node (λ (i : ℕ). honest i ≡ true → P i) (λ e. a) (λ e. b) (λ e. c) (λ e. d) (λ e. absurd (clash (sym e)))

-- ---- every request is bytes, and no call was refused 8
replied : (n : ℕ) → Ok n ≡ Err NoRoom → ⊥
replied n e = let z : ◌≡◌ {A = ℕ} 0 1 = cc in omega arith

fit : (c : Call) (n : ℕ) → c.plan ≡ plan → small c.request ≡ true → c.answer ≡ Ok n → Served plan c
fit c n e f g = record { plan = e; bytes = small_octets c.request f; roomy = λ z. replied n (sym g ∙ z) }

served_0 : EachCall (Served plan) (life_of after_save 0)
unfolding small sheet stamp_bytes cross verifier hash lie_stamp lie_verifier be be_onto
served_0 = (fit (time_call 0) 23 refl refl refl, (fit (write_call 0 2) 55 refl refl refl, (fit (latest_call 0 11) 216 refl refl refl, (fit (previous_call 0) 216 refl refl refl, (fit (write_call 0 13) 55 refl refl refl, (fit (latest_call 0 21) 216 refl refl refl, tt))))))

served_1 : EachCall (Served plan) (life_of after_save 1)
unfolding small sheet stamp_bytes cross verifier hash lie_stamp lie_verifier be be_onto
served_1 = (fit (time_call 1) 23 refl refl refl, (fit (write_call 1 2) 55 refl refl refl, (fit (latest_call 1 11) 216 refl refl refl, (fit (previous_call 1) 216 refl refl refl, (fit (write_call 1 13) 55 refl refl refl, (fit (latest_call 1 21) 216 refl refl refl, tt))))))

served_2 : EachCall (Served plan) (life_of after_save 2)
unfolding small sheet stamp_bytes cross verifier hash lie_stamp lie_verifier be be_onto
served_2 = (fit (time_call 2) 23 refl refl refl, (fit (write_call 2 2) 55 refl refl refl, (fit (latest_call 2 21) 216 refl refl refl, tt)))

served_3 : EachCall (Served plan) (life_of after_save 3)
unfolding small sheet stamp_bytes cross verifier hash lie_stamp lie_verifier be be_onto
served_3 = (fit (none_call 3) 15 refl refl refl, (fit (nothing_call 3) 15 refl refl refl, (fit (write_call 3 13) 55 refl refl refl, (fit (latest_call 3 21) 216 refl refl refl, tt))))

-- ---- each call on the book that the one before it left
calls_0 : History (book 0) (life_of after_save 0)
calls_0 = (book_bytes 0 (lit< tt), time_met 0 (lit< tt), (book_bytes 0 (lit< tt), write_met 0 (lit< tt), (held_bytes 0 (lit< tt), latest_met 0 (lit< tt), (held_bytes 0 (lit< tt), previous_met 0 (lit< tt), (held_bytes 0 (lit< tt), again_met 0 (lit< tt), (held_bytes 0 (lit< tt), later_met 0 (lit< tt), tt))))))

calls_1 : History (book 1) (life_of after_save 1)
calls_1 = (book_bytes 1 (lit< tt), time_met 1 (lit< tt), (book_bytes 1 (lit< tt), write_met 1 (lit< tt), (held_bytes 1 (lit< tt), latest_met 1 (lit< tt), (held_bytes 1 (lit< tt), previous_met 1 (lit< tt), (held_bytes 1 (lit< tt), again_met 1 (lit< tt), (held_bytes 1 (lit< tt), later_met 1 (lit< tt), tt))))))

calls_2 : History (book 2) (life_of after_save 2)
calls_2 = (book_bytes 2 (lit< tt), time_met 2 (lit< tt), (book_bytes 2 (lit< tt), write_met 2 (lit< tt), (held_bytes 2 (lit< tt), later_met 2 (lit< tt), tt)))

calls_3 : History (book 3) (life_of after_save 3)
calls_3 = (book_bytes 3 (lit< tt), none_met, (book_bytes 3 (lit< tt), nothing_met, (book_bytes 3 (lit< tt), repair_met, (held_bytes 3 (lit< tt), later_met 3 (lit< tt), tt))))

life : (i : ℕ) → i < 5 → (cs : List Call) → History (book i) cs → EachCall (Served plan) cs → Life plan i cs
life i l cs h s = record { lent = replicate 413 0; book = book i; fresh = made_so i l; calls = h; served = s }

pub lives : HonestLives plan after_save
lives =
    by_honest (λ (i : ℕ). Life plan i (life_of after_save i))
    (life 0 (omega arith) (life_of after_save 0) calls_0 served_0)
    (life 1 (omega arith) (life_of after_save 1) calls_1 served_1)
    (life 2 (omega arith) (life_of after_save 2) calls_2 served_2)
    (life 3 (omega arith) (life_of after_save 3) calls_3 served_3)

-- the same lives, cut later
pub lives_later : HonestLives plan after_first
lives_later =
    by_honest (λ (i : ℕ). Life plan i (life_of after_first i)) (lives 0 (omega arith) refl) (lives 1 (omega arith) refl) (lives 2 (omega arith) refl) (lives 3 (omega arith) refl)
