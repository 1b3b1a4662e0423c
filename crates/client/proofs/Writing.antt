-- When a reply to a writer gives each of its answers: gives, and so_gives the other way. Assumes nothing.
use Prim.Native.Nat.{ℕ, ◌≤◌, ◌<◌}
use mathlib.Core.Path.{◌≡◌, refl, sym, ap, ◌∙◌, subst}
use mathlib.Core.Bool.{Bool, true, false, cond}
use mathlib.Core.List.{List}
use mathlib.Core.Logic.{◌⊎◌, inl, inr}
use native.Mathlib.Omega.{arith}
use borrow.Author.Tests.{ltb-true, ltb-false, eqb-true, eqb-false, eq-eqb, ne_eqb}
use lib.Dec.{eqb}
use lib.ListN.{length}
use Rattle.terms.specs.Ladder.{first, None}
use Rattle.terms.specs.Stamp.{time, top}
use Rattle.terms.specs.declared.Plan.{Plan}
use Rattle.frame.specs.Frame.{frame_node, body_of}
use Rattle.rounds.specs.declared.Heard.TheVariants.{Record}
use Rattle.rounds.specs.Rounds.{heard_count}
use Rattle.session.specs.declared.Session.{Session}
use Rattle.standing.specs.Standing.{is_storing, replies}
use Rattle.session.specs.Session.{marked_of, ended_of, storing_of, Said, refused, still_open, done, never_written, aborted, rounds_spent, clock_spent, round_open}
use Rattle.recover.specs.Records.{stamp_for, records_for}
use Rattle.session.specs.Writer.{timed_of, kth_reply, new_time, Leaves, leaves, time_end, time_turn, write_turn, accepted_write, write_reply}
use Rattle.session.proofs.Rules.{few_open, many_over, over_many}
use Rattle.client.specs.Endings.{write_ladder, WriteGives}
use Rattle.terms.proofs.Ladders as ladders

module _ (p : Plan) (s : Session) (f d i : List ℕ) where
  abbrev refuse : ℕ → Leaves
  refuse k = leaves (refused k) s d

  abbrev asked : Session
  asked = timed_of s (frame_node f) (time (body_of f))

  abbrev kept : Session
  kept = marked_of s (frame_node f) Record

  pub one_ladder : write_reply p s f d i ≡ first (write_ladder p s f d (length i)) refuse (accepted_write p s f d i)
  unfolding write_reply
  one_ladder = refl

  module _ (n : None (write_ladder p s f d (length i))) where
    pub is_accepted : write_reply p s f d i ≡ accepted_write p s f d i
    is_accepted = one_ladder ∙ ladders.is_passed (write_ladder p s f d (length i)) refuse (accepted_write p s f d i) n

    -- ---- the write round
    module _ (q : is_storing s.round.stage ≡ true) where
      pub waits_write : heard_count kept.marks < replies p → write_reply p s f d i ≡ leaves still_open kept d
      unfolding accepted_write write_turn
      waits_write h = is_accepted ∙ rw (q, few_open p kept h)

      pub ends_write : replies p ≤ heard_count kept.marks → write_reply p s f d i ≡ leaves (done s.stamp 0) (ended_of kept) d
      unfolding accepted_write write_turn
      ends_write h = is_accepted ∙ rw (q, many_over p kept h)

    -- ---- the time round
    module _ (q : is_storing s.round.stage ≡ false) where
      pub waits_time : heard_count asked.marks < replies p → write_reply p s f d i ≡ leaves still_open asked d
      unfolding accepted_write time_turn
      waits_time h = is_accepted ∙ rw (q, few_open p asked h)

      module _ (h : replies p ≤ heard_count asked.marks) where
        pub spends_clock : kth_reply p asked ≡ top → write_reply p s f d i ≡ leaves clock_spent (ended_of asked) d
        unfolding accepted_write time_turn time_end
        spends_clock g =
            is_accepted ∙ rw (q, many_over p asked h, eq-eqb (kth_reply p asked) top g)

        pub opens_write : (kth_reply p asked ≡ top → ⊥)
            → write_reply p s f d i
            ≡ leaves still_open (storing_of asked (stamp_for p (new_time (kth_reply p asked)) i)) (records_for p (new_time (kth_reply p asked)) i)
        unfolding accepted_write time_turn time_end
        opens_write g =
            is_accepted ∙ rw (q, many_over p asked h, ne_eqb (kth_reply p asked) top g)

    -- ---- it gives one of the answers, with its condition
    abbrev Gives : Leaves → Type 0
    Gives o = WriteGives p s f d (length i) o.said

    accepted_gives : Gives (accepted_write p s f d i)
    accepted_gives = subst Gives is_accepted (go (is_storing s.round.stage) refl)
      where
        stores : is_storing s.round.stage ≡ true → (x : Bool) → round_open p kept ≡ x → Gives (write_reply p s f d i)
        stores q true h =
            let z = ltb-true _ _ h in subst Gives (sym (waits_write q z)) (record { accepted = n; goes = inl (rw q z) })
        stores q false h =
            let z = ltb-false _ _ h in
            subst Gives (sym (ends_write q z)) (record { accepted = n; stores = q; enough = rw q z; of = refl; counted = refl })

        clock : is_storing s.round.stage ≡ false → replies p ≤ heard_count asked.marks → (x : Bool) → eqb (kth_reply p asked) top ≡ x
            → Gives (write_reply p s f d i)
        clock q h true g =
            let z = eqb-true (kth_reply p asked) top g in
            subst Gives (sym (spends_clock q h z)) (record { accepted = n; asks = q; enough = rw q h; spent = rw q z })
        clock q h false g =
            let z = eqb-false (kth_reply p asked) top g in
            subst Gives (sym (opens_write q h z)) (record { accepted = n; goes = inr (q, rw q z) })

        asks : is_storing s.round.stage ≡ false → (x : Bool) → round_open p asked ≡ x → Gives (write_reply p s f d i)
        asks q true h = let z = ltb-true _ _ h in subst Gives (sym (waits_time q z)) (record { accepted = n; goes = inl (rw q z) })
        asks q false h = clock q (ltb-false _ _ h) (eqb (kth_reply p asked) top) refl

        go : (x : Bool) → is_storing s.round.stage ≡ x → Gives (write_reply p s f d i)
        go true q = stores q (round_open p kept) refl
        go false q = asks q (round_open p asked) refl

  -- THE ANSWER OF A WRITE'S REPLY MEETS ITS CONDITION, whichever it is …
  pub gives : WriteGives p s f d (length i) (write_reply p s f d i).said
  gives =
      subst (λ (o : Leaves). WriteGives p s f d (length i) o.said) (sym one_ladder)
      (ladders.by_ladder (λ (o : Leaves). WriteGives p s f d (length i) o.said) (write_ladder p s f d (length i)) refuse (accepted_write p s f d i)
      (λ k g. g) accepted_gives)

  -- … and wherever the condition of an answer holds, that is the answer.
  pub so_gives : (x : Said) → WriteGives p s f d (length i) x → (write_reply p s f d i).said ≡ x
  so_gives (refused k) g =
      ap (λ (o : Leaves). o.said) (one_ladder ∙ ladders.is_given (write_ladder p s f d (length i)) refuse (accepted_write p s f d i) k g)
  so_gives still_open g = go (is_storing s.round.stage) refl (round_open p asked) refl g.goes
    where
      n : None (write_ladder p s f d (length i))
      n = g.accepted

      go : (x : Bool) → is_storing s.round.stage ≡ x → (y : Bool) → round_open p asked ≡ y
          → (heard_count (cond x kept asked).marks < replies p) ⊎ ((x ≡ false) × (kth_reply p (cond x kept asked) ≡ top → ⊥))
          → (write_reply p s f d i).said ≡ still_open
      go true q y k (inl h) = ap (λ (o : Leaves). o.said) (waits_write n q h)
      go true q y k (inr h) = absurd (let z : ◌≡◌ {A = ℕ} 0 1 = let w = h.0 in cc in omega arith)
      go false q true k h = ap (λ (o : Leaves). o.said) (waits_time n q (ltb-true _ _ k))
      go false q false k (inl h) = let z : replies p ≤ heard_count asked.marks = over_many p asked k in absurd (omega arith)
      go false q false k (inr h) = ap (λ (o : Leaves). o.said) (opens_write n q (ltb-false _ _ k) h.1)
  so_gives (done stamp rounds) g =
      let q = g.stores in
      let h : replies p ≤ heard_count kept.marks = rw q at g.enough in
      ap (λ (o : Leaves). o.said) (ends_write g.accepted q h) ∙ (λ k. done (sym g.of k) (sym g.counted k))
  so_gives (never_written rounds) g = absurd g
  so_gives (aborted rounds) g = absurd g
  so_gives (rounds_spent rounds) g = absurd g
  so_gives clock_spent g =
      let q = g.asks in
      let h : replies p ≤ heard_count asked.marks = rw q at g.enough in
      let z : kth_reply p asked ≡ top = rw q at g.spent in
      ap (λ (o : Leaves). o.said) (spends_clock g.accepted q h z)
