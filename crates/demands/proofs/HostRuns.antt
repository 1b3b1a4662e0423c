-- A RUN OF HOST CALLS IS A RUN OF CALLS. What pasis_open_read or pasis_open_write accepted and the pasis_read_reply and pasis_write_reply that follow,
-- each on the session bytes and the desk that the one before it left, are the calls below on the sessions that these bytes are, with the answers
-- that number and ending are: no byte of a session or an answer is cut off on the way. So whatever is proved of a run of calls holds of a host's.
--   host_reads_are_reads host_writes_are_writes host_replies_are_replies   the theorem: a reader's calls, a writer's, either
--   host_read_as_the_report host_write_as_the_report   a host's whole read is Figure 3's READ, its whole write Figure 2's WRITE
--   host_counted_rounds     the rounds that a host's read reports are those that it closed, at most W
--   host_every_session      every session that a host is handed is in its ranges with its desk
--   host_read_requests_as_the_report host_write_requests_as_the_report   what pasis_owed writes for a node is what READ or WRITE has to send to it
--   host_near_honest host_complete_is_passed   the new time of a host's write (document 02, Q-2)
-- A desk is bytes, as every slice of u8 is, and a frame. Assumes nothing.
use Prim.Native.Nat.{ℕ, ◌*◌, ◌≤◌, ◌<◌}
use mathlib.Core.Path.{◌≡◌, refl, ap, ◌∙◌, subst}
use mathlib.Core.Bool.{Bool, true}
use mathlib.Core.List.{List, ◌∷◌}
use lib.ListN.{length}
use Rattle.octets.specs.Bytes.{Octets}
use Rattle.terms.specs.Terms.{record_length}
use Rattle.standing.specs.declared.Operation.{Operation}
use Rattle.standing.specs.declared.Operation.TheVariants.{Write, Read}
use Rattle.standing.specs.declared.Stage.TheVariants.{Storing}
use Rattle.session.specs.declared.Session.{Session}
use Rattle.session.specs.Session.{ask_now}
use Rattle.session.specs.Owed.{owed_ladder, due_of}
use Rattle.session.proofs.Kept.{Kept}
use Rattle.client.specs.Turns.{Turn, ReadTurn, WriteTurn, EitherTurn, Calls, closed_rounds, Reports, last_said}
use Rattle.client.specs.Sessions.{last_session, last_desk}
use Rattle.client.proofs.Counting.{counted_rounds}
use Rattle.client.proofs.Sessions.{every_session}
use Rattle.report.specs.Run.{unpolled, polled_over, AllApart, AllFull, EachTells}
use Rattle.report.specs.WriteRun.{untimed, EachWrites, timed_over}
use Rattle.report.specs.Triple.{In}
use Rattle.report.specs.Figure2.{Clock, clocks}
use Rattle.report.specs.Figure3.{read}
use Rattle.rounds.specs.Numbers.{number_of}
use Rattle.report.specs.NewTime.{ToWrite, NearHonest, AnswersAfter}
use Rattle.report.specs.Ours.{family}
use Rattle.report.specs.Sent.{Commands, WriteCommands, in_response_set, in_write_set, Owes}
use Rattle.packing.specs.PlanBytes.{plan_of}
use Rattle.packing.specs.SessionBytes.{session_of}
use Rattle.pasis.specs.Client.{OpenServes, OwedServes}
use Rattle.pasis.proofs.Below.{opened_below, owed_below}
use Rattle.demands.specs.HostRuns.{HostTurn, HostReads, HostWrites, HostEither, HostCalls, opened_of, below, host_session, host_desk, RunBelow, HostOwes}
use Rattle.demands.proofs.Hosted.{Ran, reads, writes, eithers, owed_at}
use Rattle.demands.proofs.NewTime.{near_honest, complete_is_passed}
use Rattle.demands.proofs.Demand2.{read_as_the_report, write_as_the_report, read_requests_as_the_report, write_requests_as_the_report}

-- ---- THE THEOREM: from an opening that was answered 0 on, whatever frames come, whatever is answered
module _ (x : List ℕ) (a : ℕ) (s₀ s d : List ℕ) (ts : List HostTurn) where
  whole : (B : Session → List ℕ → Turn → Type 0) (op : Operation) → OpenServes op x a s₀ 0 s → Ran B s d (host_session s ts) (host_desk d ts) (below ts)
      → RunBelow B op x a s d ts
  whole B op c r = record { opens = record { is = (opened_below op x a s₀ s c).opened }; calls = r.calls; session = r.session; desk = r.desk }

  pub host_reads_are_reads : OpenServes Read x a s₀ 0 s → Octets d → HostCalls (HostReads x) s d ts → RunBelow (ReadTurn (plan_of x)) Read x a s d ts
  host_reads_are_reads c o h = whole (ReadTurn (plan_of x)) Read c (reads x a s₀ s d ts c o h)

  pub host_writes_are_writes : OpenServes Write x a s₀ 0 s → HostCalls (HostWrites x) s d ts → RunBelow (WriteTurn (plan_of x)) Write x a s d ts
  host_writes_are_writes c h = whole (WriteTurn (plan_of x)) Write c (writes x a s₀ s d ts c h)

  pub host_replies_are_replies : (op : Operation) → OpenServes op x a s₀ 0 s → Octets d → HostCalls (HostEither x) s d ts
      → RunBelow (EitherTurn (plan_of x)) op x a s d ts
  host_replies_are_replies op c o h = whole (EitherTurn (plan_of x)) op c (eithers x a s₀ s d ts op c o h)

  -- ---- the demands, over it
  -- A host's whole read is Figure 3's READ: read_as_the_report of Demand2.
  pub host_read_as_the_report : OpenServes Read x a s₀ 0 s → length d ≡ (plan_of x).n * record_length (plan_of x) → Octets d → HostCalls (HostReads x) s d ts
      → AllApart (plan_of x) (polled_over (plan_of x) (session_of s) d unpolled (below ts)).rounds
      → EachTells (plan_of x) (session_of s) d unpolled (below ts) × AllFull (plan_of x) (polled_over (plan_of x) (session_of s) d unpolled (below ts)).rounds
  host_read_as_the_report c l o h =
      let q = host_reads_are_reads c o h in
      read_as_the_report (plan_of x) (record { 0 = a }) (opened_of s) d (below ts) q.opens refl l o q.calls

  -- A host's whole write is Figure 2's WRITE: write_as_the_report of Demand2.
  pub host_write_as_the_report : OpenServes Write x a s₀ 0 s → HostCalls (HostWrites x) s d ts → EachWrites (plan_of x) (session_of s) d untimed (below ts)
  host_write_as_the_report c h =
      let q = host_writes_are_writes c h in
      write_as_the_report (plan_of x) (record { 0 = a }) (opened_of s) d (below ts) q.opens refl q.calls

  -- The rounds that the last answer of a host's read reports are those that the read closed, at most W: counted_rounds of client.
  pub host_counted_rounds : OpenServes Read x a s₀ 0 s → Octets d → HostCalls (HostReads x) s d ts → (u : Turn) (us : List Turn) → below ts ≡ u ∷ us
      → (n : ℕ) → Reports (last_said u us) n → (n ≡ closed_rounds (plan_of x) 0 (session_of s) (u ∷ us)) × (n ≤ (plan_of x).w)
  host_counted_rounds c o h u us e =
      let q = host_reads_are_reads c o h in
      counted_rounds (plan_of x) (record { 0 = a }) (opened_of s) q.opens refl d u us (subst (Calls (ReadTurn (plan_of x)) (session_of s) d) e q.calls)

  -- Every session that a host is handed is in its ranges with the desk that it was handed with it: every_session of client.
  pub host_every_session : (op : Operation) → OpenServes op x a s₀ 0 s → length d ≡ (plan_of x).n * record_length (plan_of x) → Octets d
      → HostCalls (HostEither x) s d ts → Kept (plan_of x) (session_of (host_session s ts)) (host_desk d ts)
  host_every_session op c l o h =
      let q = host_replies_are_replies op c o h in
      subst (λ (u : Session). Kept (plan_of x) u (host_desk d ts)) q.session
      (subst (Kept (plan_of x) (last_session (session_of s) (below ts))) q.desk
      (every_session op (plan_of x) (record { 0 = a }) (opened_of s) q.opens refl d l (below ts) q.calls))

  -- In every state that a host's read leads to, the request that pasis_owed writes for a node is what READ has to send to it then:
  -- read_requests_as_the_report of Demand2. The same of a write.
  abbrev at : Session
  at = last_session (session_of s) (below ts)

  pub host_read_requests_as_the_report : OpenServes Read x a s₀ 0 s → length d ≡ (plan_of x).n * record_length (plan_of x) → Octets d → HostCalls (HostReads x) s d ts
      → AllApart (plan_of x) (polled_over (plan_of x) (session_of s) d unpolled (below ts)).rounds
      → (S : ℕ) (q : List ℕ) (r : ℕ) (q₂ : List ℕ) → OwedServes x (host_session s ts) S (host_desk d ts) q r q₂
      → HostOwes (Owes (Commands (plan_of x) (read (family (plan_of x)) (polled_over (plan_of x) (session_of s) d unpolled (below ts)).rounds) S (ask_now at))
      (owed_ladder (plan_of x) at S (last_desk d (below ts)) (length q)) (in_response_set (plan_of x) at.round.stage (polled_over (plan_of x) (session_of s) d unpolled (below ts)) S)) r q q₂
  host_read_requests_as_the_report c l o h k S q r q₂ w =
      let z = reads x a s₀ s d ts c o h in
      let g = opened_below Read x a s₀ s c in
      let y = owed_below x (host_session s ts) S (host_desk d ts) q r q₂ g.plan z.held.long w in
      record {
        due = due_of y.owed;
        number = y.number;
        owes = read_requests_as_the_report (plan_of x) (record { 0 = a }) (opened_of s) d (below ts) (record { is = g.opened }) refl l o z.calls k S q y.owed q₂
            (owed_at z.session z.desk y.call);
      }

  pub host_write_requests_as_the_report : OpenServes Write x a s₀ 0 s → HostCalls (HostWrites x) s d ts
      → (S : ℕ) (q : List ℕ) (r : ℕ) (q₂ : List ℕ) → OwedServes x (host_session s ts) S (host_desk d ts) q r q₂
      → HostOwes (Owes (WriteCommands (plan_of x) at.round.stage (timed_over (plan_of x) (session_of s) d untimed (below ts)) S (ask_now at))
      (owed_ladder (plan_of x) at S (last_desk d (below ts)) (length q)) (in_write_set at.round.stage (timed_over (plan_of x) (session_of s) d untimed (below ts)) S)) r q q₂
  host_write_requests_as_the_report c h S q r q₂ w =
      let z = writes x a s₀ s d ts c h in
      let g = opened_below Write x a s₀ s c in
      let y = owed_below x (host_session s ts) S (host_desk d ts) q r q₂ g.plan z.held.long w in
      record {
        due = due_of y.owed;
        number = y.number;
        owes = write_requests_as_the_report (plan_of x) (record { 0 = a }) (opened_of s) d (below ts) (record { is = g.opened }) refl z.calls S q y.owed q₂
            (owed_at z.session z.desk y.call);
      }

  -- A host's write that has come to its write round, by the session bytes that it holds: near_honest and complete_is_passed of NewTime, of the time in them.
  abbrev to_write : OpenServes Write x a s₀ 0 s → HostCalls (HostWrites x) s d ts → (session_of (host_session s ts)).round.stage ≡ Storing → ToWrite (plan_of x)
  to_write c h e =
      let q = host_writes_are_writes c h in
      record {
        ask = record { 0 = a };
        opened = opened_of s;
        opens = q.opens;
        accepted = refl;
        desk = d;
        turns = below ts;
        calls = q.calls;
        stores = ap (λ (u : Session). u.round.stage) q.session ∙ e;
      }

  abbrev told : List Clock
  told = clocks (timed_over (plan_of x) (session_of s) d untimed (below ts)).times

  pub host_near_honest : OpenServes Write x a s₀ 0 s → HostCalls (HostWrites x) s d ts → (session_of (host_session s ts)).round.stage ≡ Storing
      → (lies : ℕ → Bool) → number_of lies (plan_of x).n ≤ (plan_of x).b → NearHonest lies told (session_of (host_session s ts)).stamp.time.0
  host_near_honest c h e lies few =
      subst (λ (u : Session). NearHonest lies told u.stamp.time.0) (host_writes_are_writes c h).session (near_honest (plan_of x) (to_write c h e) lies few)

  pub host_complete_is_passed : OpenServes Write x a s₀ 0 s → HostCalls (HostWrites x) s d ts → (session_of (host_session s ts)).round.stage ≡ Storing
      → (executed : ℕ → Bool) (written : ℕ) → (plan_of x).q ≤ number_of executed (plan_of x).n
      → ((c : Clock) → In c told → executed c.S ≡ true → AnswersAfter (plan_of x) written c) → written < (session_of (host_session s ts)).stamp.time.0
  host_complete_is_passed c h e executed written many k =
      subst (λ (u : Session). written < u.stamp.time.0) (host_writes_are_writes c h).session (complete_is_passed (plan_of x) (to_write c h e) executed written many k)
