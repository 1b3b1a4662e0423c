-- A reply to a client: what it is refused for. Document 01, "Refusal numbers": at the client 1, 2, 9, 14, 4, 10, 11, 5, 6, 12.
--   awaited            10: ask number, kind and write timestamp are the ones awaited
--   is_heard            11: the node is already heard
--   bears              the reply bears a record
--   reply_ladder        the order, as far as it applies to a writer
--   record_ladder       5, 6, 12: of a record, at a reader
--   read_ladder         the whole order at a reader
--   check_number taken_number Headed   what a ladder came to
-- Assumes nothing.
use Rattle.frame.specs.declared.Header.{Header}
use Rattle.terms.specs.declared.Refusal.{Refusal}
use Prim.{Unit, tt}
use Rattle.std.specs.Prelude.{ℕ, ◌≡◌, Bool, not, List, [], ◌∷◌, ◌++◌, length, eqb, Result, Ok, Err}
use Rattle.terms.specs.Ladder.{Rung, on, ◌and◌, ◌or◌}
use Rattle.terms.specs.Terms.{plan_ok, record_length, refusal_number}
use Rattle.terms.specs.Stamp.{stamp, stamp_number}
use Rattle.terms.specs.declared.Plan.{Plan}
use Rattle.frame.specs.Frame.{kind_of, frame_node, body_of, good_reply, read_reply_kind, framed, version_of, answers_to, header_in}
use Rattle.record.specs.Record.{hashes_ok, time_zero}
use Rattle.rounds.specs.Rounds.{heard_at, under_of}
use Rattle.session.specs.declared.Session.{Session}
use Rattle.standing.specs.declared.Operation.{Operation}
use Rattle.standing.specs.declared.Operation.TheVariants.{Read}
use Rattle.standing.specs.Standing.{is_storing, is_ended, same_operation, lengths_ok}
use Rattle.session.specs.Session.{ask_now, awaits_kind}
use Rattle.session.specs.Ranges.{in_range}

unfoldable pub awaited : Session → List ℕ → Bool
awaited s f =
    answers_to (header_in f) (ask_now s) and awaits_kind s (kind_of f) and (not (is_storing s.round.stage) or eqb (stamp (body_of f)) (stamp_number s.stamp))

unfoldable pub is_heard : Session → ℕ → Bool
is_heard s i = heard_at s.marks i

-- of a good reply
abbrev pub awaited_ladder : Session → List ℕ → List Rung
awaited_ladder s f = on 10 (not (awaited s f)) ∷ on 11 (is_heard s (frame_node f)) ∷ []

abbrev pub reply_ladder : Operation → Plan → Session → List ℕ → List ℕ → ℕ → List Rung
reply_ladder op p s f d item =
    on 1 (not (plan_ok p)) ∷
    on 2 (not (lengths_ok p (length d) item)) ∷
    on 9 (not (same_operation op s.operation and in_range p s d)) ∷
    on 14 (is_ended s.round.stage) ∷
    on 4 (not (good_reply p f)) ∷ awaited_ladder s f

-- a read reply with a record, and not the first triple
unfoldable pub bears : Plan → List ℕ → Bool
bears p f = eqb (kind_of f) read_reply_kind and eqb (length f) (framed (version_of f) (record_length p))

abbrev pub record_ladder : Plan → Session → List ℕ → List Rung
record_ladder p s f =
    on 5 (bears p f and time_zero (body_of f)) ∷
    on 6 (bears p f and not (hashes_ok p (frame_node f) (body_of f))) ∷
    on 12 (bears p f and not (under_of s.round.bound (stamp (body_of f)))) ∷ []

-- 1, 2, 9, 14, 4, 10, 11, 5, 6, 12
abbrev pub read_ladder : Plan → Session → List ℕ → List ℕ → ℕ → List Rung
read_ladder p s f d item = reply_ladder Read p s f d item ++ record_ladder p s f

-- what a ladder came to, as a number: 0 where none applies
abbrev pub check_number : Result (Unit {0}) Refusal → ℕ
check_number (Ok u) = 0
check_number (Err r) = refusal_number r

-- the same of a reply, which past its ladder goes on with the header that was read
abbrev pub taken_number : Result Header Refusal → ℕ
taken_number (Err r) = refusal_number r
taken_number (Ok h) = 0

abbrev pub Headed : Result Header Refusal → List ℕ → Type 0
Headed (Err r) f = Unit {0}
Headed (Ok h) f = h ≡ header_in f
