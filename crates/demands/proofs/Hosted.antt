-- From a host's calls to the calls below, one by one and as runs, for HostRuns. Assumes nothing.
--   One Ran     one call, and a run of them, on the session that the bytes are
--   reads writes eithers   a run from an accepted opening on
--   owed_at     the request owed, of the last session
use Rattle.terms.specs.declared.Refusal.{Refusal}
use Rattle.std.specs.Prelude.{Result}
use Prim.{tt}
use Prim.Native.Nat.{ℕ}
use mathlib.Core.Path.{◌≡◌, refl, sym, ap, ◌∙◌, subst}
use mathlib.Core.Bool.{Bool, true, false, cond}
use mathlib.Core.List.{List, [], ◌∷◌}
use mathlib.Core.Logic.{inl, inr}
use lib.Dec.{eqb}
use lib.ListN.{length}
use Rattle.octets.specs.Bytes.{Octets}
use Rattle.terms.specs.Terms.{plan_ok}
use Rattle.terms.specs.declared.Plan.{Plan}
use Rattle.terms.proofs.Rungs.{clash}
use Rattle.standing.specs.declared.Operation.{Operation}
use Rattle.standing.specs.declared.Operation.TheVariants.{Write, Read}
use Rattle.session.specs.declared.Session.{Session}
use Rattle.session.specs.Owed.{owed_to, OwedCall}
use Rattle.session.specs.Reader.{Outcome}
use Rattle.session.specs.Writer.{leaves}
use Rattle.client.specs.Turns.{Turn, ReadTurn, WriteTurn, EitherTurn, Calls}
use Rattle.client.specs.Sessions.{last_session, last_desk}
use Rattle.packing.specs.PlanBytes.{plan_of}
use Rattle.packing.specs.SessionBytes.{session_of}
use Rattle.pasis.specs.Client.{OpenServes}
use Rattle.pasis.proofs.Below.{Held, opened_below, read_below, read_unlent, write_below, write_unlent}
use Rattle.demands.specs.HostRuns.{HostTurn, HostReads, HostWrites, HostEither, HostCalls, turn_of, below, host_session, host_desk}

-- ---- one call, and a run of them
-- the call below, or a call that changed nothing
record One (B : Session → List ℕ → Turn → Type 0) (s d : List ℕ) (t : HostTurn) : Type 0 where
  lent : eqb (length t.ending) 42 ≡ true → B (session_of s) d (turn_of t) × Held t.session_left t.desk_left
  unlent : eqb (length t.ending) 42 ≡ false → (t.session_left ≡ s) × (t.desk_left ≡ d)

module _ (x : List ℕ) (ok : plan_ok (plan_of x) ≡ true) (s d : List ℕ) (t : HostTurn) (h : Held s d) where
  one_read : HostReads x s d t → One (ReadTurn (plan_of x)) s d t
  one_read c =
      record {
        lent = λ e.
            let q = read_below x s d ok h t.reply t.item t.ending t.number t.session_left t.desk_left t.item_left t.ending_left c.1 c.0 e in
            ((c.0, record { is = q.is }), q.held);
        unlent = read_unlent x s d ok h t.reply t.item t.ending t.number t.session_left t.desk_left t.item_left t.ending_left c.1;
      }

  one_write : HostWrites x s d t → One (WriteTurn (plan_of x)) s d t
  one_write c =
      record {
        lent = λ e.
            let q = write_below x s d ok h t.reply t.item t.ending t.number t.session_left t.desk_left t.ending_left c.1 c.0 e in
            ((c.0, record { is = ap (λ (o : Outcome). leaves o.said o.session o.desk) q.is }), q.held);
        unlent = write_unlent x s d ok h t.reply t.item t.ending t.number t.session_left t.desk_left t.ending_left c.1;
      }

  one_either : HostEither x s d t → One (EitherTurn (plan_of x)) s d t
  one_either (inl c) = let q = one_write c in record { lent = λ e. (inl (q.lent e).0, (q.lent e).1); unlent = q.unlent }
  one_either (inr c) = let q = one_read c in record { lent = λ e. (inr (q.lent e).0, (q.lent e).1); unlent = q.unlent }

-- from s and d, to the bytes s₂ and the desk d₂ that the host holds then
pub record Ran (B : Session → List ℕ → Turn → Type 0) (s d s₂ d₂ : List ℕ) (us : List Turn) : Type 0 where
  pub calls : Calls B (session_of s) d us
  pub session : last_session (session_of s) us ≡ session_of s₂
  pub desk : last_desk d us ≡ d₂
  pub held : Held s₂ d₂

run : (C : List ℕ → List ℕ → HostTurn → Type 0) (B : Session → List ℕ → Turn → Type 0)
    → ((s d : List ℕ) (t : HostTurn) → Held s d → C s d t → One B s d t)
    → (s d : List ℕ) (ts : List HostTurn) → Held s d → HostCalls C s d ts → Ran B s d (host_session s ts) (host_desk d ts) (below ts)
unfolding below
run C B one s d [] h c = record { calls = tt; session = refl; desk = refl; held = h }
run C B one s d (t ∷ ts) h c = go (eqb (length t.ending) 42) refl (λ z. run C B one t.session_left t.desk_left ts z c.1)
  where
    go : (b : Bool) → eqb (length t.ending) 42 ≡ b
        → (Held t.session_left t.desk_left → Ran B t.session_left t.desk_left (host_session t.session_left ts) (host_desk t.desk_left ts) (below ts))
        → Ran B s d (host_session t.session_left ts) (host_desk t.desk_left ts) (cond b (turn_of t ∷ below ts) (below ts))
    go true e ih =
        let q = (one s d t h c.0).lent e in
        let z = ih q.1 in
        record { calls = (q.0, z.calls); session = z.session; desk = z.desk; held = z.held }
    go false e ih =
        let q = (one s d t h c.0).unlent e in
        let z : Held t.session_left t.desk_left = subst (λ (a : List ℕ). Held a t.desk_left) (sym q.0) (subst (Held s) (sym q.1) h) in
        subst (λ (a : List ℕ). Ran B a d (host_session t.session_left ts) (host_desk t.desk_left ts) (below ts)) q.0
        (subst (λ (a : List ℕ). Ran B t.session_left a (host_session t.session_left ts) (host_desk t.desk_left ts) (below ts)) q.1 (ih z))

-- the request owed, of the last session
pub owed_at : {p : Plan} {u v : Session} {d e : List ℕ} {S : ℕ} {q : List ℕ} {o : (Result ℕ Refusal)} {q₂ : List ℕ} → u ≡ v → d ≡ e → OwedCall p v S e q o q₂ → OwedCall p u S d q o q₂
owed_at {p} {u} {v} {d} {e} {S} {q} {o} {q₂} f g c = record { is = c.is ∙ sym (λ j. owed_to p (f j) S (g j) q) }

-- ---- from an accepted opening on
module _ (x : List ℕ) (a : ℕ) (s₀ s d : List ℕ) (ts : List HostTurn) where
  pub reads : OpenServes Read x a s₀ 0 s → Octets d → HostCalls (HostReads x) s d ts → Ran (ReadTurn (plan_of x)) s d (host_session s ts) (host_desk d ts) (below ts)
  reads c o = let q = opened_below Read x a s₀ s c in run (HostReads x) (ReadTurn (plan_of x)) (one_read x q.plan) s d ts (q.held d (λ z. o))

  pub writes : OpenServes Write x a s₀ 0 s → HostCalls (HostWrites x) s d ts → Ran (WriteTurn (plan_of x)) s d (host_session s ts) (host_desk d ts) (below ts)
  writes c =
      let q = opened_below Write x a s₀ s c in
      run (HostWrites x) (WriteTurn (plan_of x)) (one_write x q.plan) s d ts (q.held d (λ z. absurd (clash (sym z))))

  pub eithers : (op : Operation) → OpenServes op x a s₀ 0 s → Octets d → HostCalls (HostEither x) s d ts
      → Ran (EitherTurn (plan_of x)) s d (host_session s ts) (host_desk d ts) (below ts)
  eithers op c o = let q = opened_below op x a s₀ s c in run (HostEither x) (EitherTurn (plan_of x)) (one_either x q.plan) s d ts (q.held d (λ z. o))
