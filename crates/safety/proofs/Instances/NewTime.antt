-- A COMPLETE WRITE IS PASSED, over the life of a node: at N1 t0 b0 Q1 m1 F1 the node executes a record of time 1 and then tells its time to the next write, which
-- comes to its write round (the calls are those of report/proofs/Instances.antt). Assumes nothing.
use Rattle.std.specs.Prelude.{Ok, Err}
use Prim.{tt}
use Prim.Native.Nat.{ℕ, zero, suc, ◌+◌, ◌<◌}
use mathlib.Core.Path.{◌≡◌, refl, sym, subst}
use mathlib.Core.Bool.{true}
use mathlib.Core.List.{[], ◌∷◌}
use mathlib.Core.Logic.{inl, inr}
use native.Mathlib.Omega.{arith}
use lib.ListN.{replicate}
use Rattle.terms.specs.declared.Refusal.TheVariants.{NoRoom}
use Rattle.terms.proofs.Small.{small_octets}
use Rattle.frame.specs.Frame.{body_of}
use Rattle.book.specs.Book.{book_head}
use Rattle.rounds.specs.Numbers.{number_of}
use Rattle.store.specs.History.{Call}
use Rattle.report.specs.Triple.{In}
use Rattle.report.specs.NewTime.{new_time_of}
use Rattle.report.proofs.Instances as one
use Rattle.safety.specs.Run.{Life, Nodes}
use Rattle.safety.specs.Safety.{HonestLives}
use Rattle.safety.specs.Done.{TimeExecuted, OwnTime, Told}
use Rattle.safety.proofs.NewTime.{lives_pass_what_is_complete}

abbrev pub wrote : Call
wrote = record { plan = one.plan; request = one.request; reply = replicate 88 0; answer = Ok 55; book_left = (one.taken).book; reply_left = (one.taken).reply }

abbrev pub told : Call
told = record { plan = one.plan; request = one.time_request; reply = replicate 88 0; answer = Ok 23; book_left = (one.asked).book; reply_left = (one.asked).reply }

abbrev pub nodes : Nodes
nodes = record { honest = λ i. true; early = λ i. wrote ∷ []; late = λ i. told ∷ [] }

only_zero : (P : ℕ → Type 0) → P 0 → (i : ℕ) → i < 1 → P i
only_zero P x zero l = x
only_zero P x (suc i) l = absurd (omega arith)

roomy : (n : ℕ) → Ok n ≡ Err NoRoom → ⊥
roomy n e = let z : ◌≡◌ {A = ℕ} 0 1 = cc in omega arith

life : Life one.plan 0 (wrote ∷ told ∷ [])
life =
    record {
      lent = replicate (book_head 1 + 73) 0;
      book = one.book;
      fresh = one.made_so;
      calls = (small_octets one.book one.book_small, one.node_met, (small_octets (one.taken).book (one.asked_is).2, one.asked_met, tt));
      served = (
        record { plan = refl; bytes = small_octets one.request one.request_small; roomy = roomy 55 },
        (record { plan = refl; bytes = small_octets one.time_request one.asking_small; roomy = roomy 23 }, tt),
      );
    }

pub lives_so : HonestLives one.plan nodes
lives_so i l h = only_zero (λ (k : ℕ). Life one.plan k (wrote ∷ told ∷ [])) life i l

executed_by : number_of (λ (k : ℕ). true) 1 ≡ 1
unfolding number_of
executed_by = refl

pub executed_so : TimeExecuted one.plan nodes 1
executed_so =
    record {
      executed = λ k. true;
      enough = omega (arith, executed_by);
      honest = λ i l e. refl;
      rec = λ i l e. body_of one.request;
      of = λ i l e. (one.of_time_1).0;
      each = λ i l e. record { at = record { before = []; call = wrote; after = []; is = refl }; kind = one.is_write; body = refl; size = 55; replied = refl };
    }

pub told_so : Told nodes one.to_write
told_so x m h = only (subst (In x) one.replies_are m)
  where
    only : In x (record { S = 0; Time = 1 } ∷ []) → OwnTime nodes x
    only (inl q) =
        subst (OwnTime nodes) (sym q)
        (record {
          frame = one.time_reply;
          kind = one.time_kind;
          is = (one.of_time_1).1;
          wrote = record { at = record { before = []; call = told; after = []; is = refl }; size = 23; replied = refl; is = sym (one.asked_is).1 };
        })
    only (inr q) = elim q [ ]

pub passed_so : 1 < new_time_of one.to_write
passed_so = lives_pass_what_is_complete one.plan nodes one.to_write 1 lives_so executed_so told_so
