-- A call that leaves its round open leaves a session that still asks what the one before it asked: a reply that is heard sets a mark, and in a time
-- round the times, and no more (write_still_asks, read_still_asks); so do calls one after another (still_trans). Assumes nothing.
use Prim.Native.Nat.{ℕ}
use mathlib.Core.Path.{◌≡◌, refl, sym, ap, ◌∙◌, subst}
use mathlib.Core.Bool.{Bool, true, false, cond}
use mathlib.Core.List.{List}
use native.Mathlib.Omega.{arith}
use lib.Dec.{eqb}
use lib.ListN.{length}
use Rattle.terms.specs.Stamp.{time, top}
use Rattle.terms.specs.declared.Plan.{Plan}
use Rattle.terms.proofs.Down.{clear}
use Rattle.terms.proofs.Ladders.{by_ladder}
use Rattle.terms.proofs.Rungs.{clash}
use Rattle.frame.specs.Frame.{frame_node, body_of}
use Rattle.rounds.specs.declared.Heard.TheVariants.{Record}
use Rattle.recover.specs.Recover.{collected}
use Rattle.recover.specs.Records.{stamp_for, records_for}
use Rattle.standing.specs.Standing.{is_ended, is_storing}
use Rattle.session.specs.declared.Session.{Session}
use Rattle.standing.specs.declared.Stage.{Stage}
use Rattle.session.specs.Session.{marked_of, ended_of, storing_of, round_open, still_open, done, refused, clock_spent}
use Rattle.session.specs.Writer.{Leaves, leaves, kth_reply, new_time, timed_of, time_end, time_turn, write_turn, accepted_write, write_reply}
use Rattle.session.specs.Reader.{Outcome, outcome, acted, closed, settled, heard, stored, accepted, read_reply}
use Rattle.session.proofs.Closings.{Ways, goes}
use Rattle.client.specs.Endings.{read_ladder, write_ladder, after_reply, desk_after}
use Rattle.client.specs.Turns.{Turn, ReadTurn, WriteTurn}
use Rattle.client.proofs.Reading as reading
use Rattle.client.proofs.Writing as writing
use Rattle.report.specs.Together.{StillAsks}

pub still_trans : (s u v : Session) → StillAsks s u → StillAsks u v → StillAsks s v
still_trans s u v a b =
    record { operation = b.operation ∙ a.operation; round = b.round ∙ a.round; opening = b.opening ∙ a.opening; stamp = b.stamp ∙ a.stamp }

module _ (p : Plan) (s : Session) where
  -- where the stage and the round's number stay
  abbrev Stays : Session → Type 0
  Stays u = u.round.stage ≡ s.round.stage → u.round.number ≡ s.round.number → StillAsks s u

  alike : StillAsks s s
  alike = record { operation = refl; round = refl; opening = refl; stamp = refl }

  -- of another stage
  other : (u : Session) (is : Stage → Bool) (x : Bool) → is u.round.stage ≡ x → (is s.round.stage ≡ x → ⊥) → Stays u
  other u is x e n st nr = absurd (n (sym (ap is st) ∙ e))

  module _ (f d i : List ℕ) where
    abbrev GoodW : Leaves → Type 0
    GoodW o = Stays o.session

    abbrev GoodR : Outcome → Type 0
    GoodR o = Stays o.session

    module _ (n : is_ended s.round.stage ≡ false) where
      ended : (u : Session) → Stays (ended_of u)
      ended u = other (ended_of u) is_ended true refl (λ z. clash (sym z ∙ n))

      write_heard : GoodW (accepted_write p s f d i)
      unfolding accepted_write write_turn time_turn time_end
      write_heard = go (is_storing s.round.stage) refl
        where
          opens : is_storing s.round.stage ≡ false → (u : Session) (t : Bool)
              → GoodW (cond t (leaves clock_spent (ended_of u) d) (leaves still_open (storing_of u (stamp_for p (new_time (kth_reply p u)) i)) (records_for p (new_time (kth_reply p u)) i)))
          opens x u true = ended u
          opens x u false = other (storing_of u (stamp_for p (new_time (kth_reply p u)) i)) is_storing true refl (λ z. clash (sym z ∙ x))

          in_time : is_storing s.round.stage ≡ false → (t : Bool)
              → GoodW (cond t (leaves still_open (timed_of s (frame_node f) (time (body_of f))) d) (time_end p (timed_of s (frame_node f) (time (body_of f))) d i))
          in_time x true st nr = record { operation = refl; round = refl; opening = refl; stamp = refl }
          in_time x false st nr = opens x (timed_of s (frame_node f) (time (body_of f))) (eqb (kth_reply p (timed_of s (frame_node f) (time (body_of f)))) top) st nr

          in_write : (t : Bool) → GoodW (cond t (leaves still_open (marked_of s (frame_node f) Record) d) (leaves (done s.stamp 0) (ended_of (marked_of s (frame_node f) Record)) d))
          in_write true st nr = record { operation = refl; round = refl; opening = refl; stamp = refl }
          in_write false st nr = ended (marked_of s (frame_node f) Record) st nr

          go : (t : Bool) → is_storing s.round.stage ≡ t
              → GoodW (cond t (write_turn p (marked_of s (frame_node f) Record) d) (time_turn p (timed_of s (frame_node f) (time (body_of f))) d i))
          go true x = in_write (round_open p (marked_of s (frame_node f) Record))
          go false x = in_time x (round_open p (timed_of s (frame_node f) (time (body_of f))))

      ways : is_storing s.round.stage ≡ false → Ways GoodR p (after_reply p s f) (closed p (after_reply p s f) (desk_after p f d)) (desk_after p f d) i
      ways x =
          record {
            finds = λ stamp item. ended (after_reply p s f);
            never = ended (after_reply p s f);
            aborts = ended (after_reply p s f);
            spends = λ w. ended (after_reply p s f);
            next = λ a h w st nr. absurd (omega (arith, nr));
            repairs = λ a h w. other (storing_of (after_reply p s f) (closed p (after_reply p s f) (desk_after p f d)).stamp) is_storing true refl (λ z. clash (sym z ∙ x));
          }

      read_heard : GoodR (accepted p s f d i)
      unfolding accepted stored settled
      read_heard = go (is_storing s.round.stage) refl
        where
          in_repair : (t : Bool) → GoodR (cond t (outcome still_open (marked_of s (frame_node f) Record) d i) (outcome (done s.stamp s.round.number) (ended_of (marked_of s (frame_node f) Record)) d (collected p d i)))
          in_repair true st nr = record { operation = refl; round = refl; opening = refl; stamp = refl }
          in_repair false st nr = ended (marked_of s (frame_node f) Record) st nr

          in_read : is_storing s.round.stage ≡ false → (t : Bool)
              → GoodR (cond t (outcome still_open (after_reply p s f) (desk_after p f d) i) (acted p (after_reply p s f) (closed p (after_reply p s f) (desk_after p f d)) (desk_after p f d) i))
          in_read x true st nr = record { operation = refl; round = refl; opening = refl; stamp = refl }
          in_read x false st nr = goes GoodR p (after_reply p s f) (closed p (after_reply p s f) (desk_after p f d)) (desk_after p f d) i (ways x) st nr

          go : (t : Bool) → is_storing s.round.stage ≡ t → GoodR (cond t (stored p (marked_of s (frame_node f) Record) d i) (heard p s f d i))
          go true x = in_repair (round_open p (marked_of s (frame_node f) Record))
          go false x = subst GoodR (sym (reading.heard_settles p s f d i)) (in_read x (round_open p (after_reply p s f)))

    write_stays : GoodW (write_reply p s f d i)
    write_stays =
        subst GoodW (sym (writing.one_ladder p s f d i))
        (by_ladder GoodW (write_ladder p s f d (length i)) (λ (j : ℕ). leaves (refused j) s d) (accepted_write p s f d i) (λ j g st nr. alike)
        (λ n. write_heard (clear (write_ladder p s f d (length i)) n 14)))

    read_stays : GoodR (read_reply p s f d i)
    read_stays =
        subst GoodR (sym (reading.one_ladder p s f d i))
        (by_ladder GoodR (read_ladder p s f d (length i)) (λ (j : ℕ). outcome (refused j) s d i) (accepted p s f d i) (λ j g st nr. alike)
        (λ n. read_heard (clear (read_ladder p s f d (length i)) n 14)))

-- A CALL THAT LEAVES THE ROUND OPEN
pub write_still_asks : (p : Plan) (s : Session) (d : List ℕ) (c : Turn) → WriteTurn p s d c → c.took.session.round.stage ≡ s.round.stage
    → c.took.session.round.number ≡ s.round.number → StillAsks s c.took.session
write_still_asks p s d c h = subst (λ (o : Leaves). Stays p s o.session) (sym h.1.is) (write_stays p s c.reply d c.item)

pub read_still_asks : (p : Plan) (s : Session) (d : List ℕ) (c : Turn) → ReadTurn p s d c → c.took.session.round.stage ≡ s.round.stage
    → c.took.session.round.number ≡ s.round.number → StillAsks s c.took.session
read_still_asks p s d c h = subst (λ (o : Outcome). Stays p s o.session) (sym h.1.is) (read_stays p s c.reply d c.item)
