-- What the desk holds after the fill for repair. Document 01, "The client": an unclassifiable set of a repairable plan "fills the desk with
-- all N records"; "regenerating and decoding start from the m lowest-numbered of the set"; "repair uses the set's cross checksum".
-- "Fragments": for each byte position the one polynomial of degree below m; fragment k holds its value at point k.
--   Through            a polynomial through the fragments of some nodes, as their slots hold them, at one byte position
--   Value              x is the value of such a polynomial at point k
--   Holds              a slot holds a set's timestamp and cross checksum, and fragment k of the polynomials through its m lowest
--   EachTurn Rests     what holds of each of some replies; what a reply of the repair round leaves
-- Assumes nothing.
use Prim.{Unit}
use Rattle.std.specs.Prelude.{ℕ, ◌≤◌, ◌<◌, ◌≡◌, List, [], ◌∷◌, length, get_or}
use Rattle.octets.specs.Bytes.{Octets}
use Rattle.terms.specs.Stamp.{stamp, stamp_number}
use Rattle.terms.specs.declared.Plan.{Plan}
use Rattle.terms.specs.declared.Timestamp.{Timestamp}
use Rattle.fragments.specs.Fragments.{All, eval}
use Rattle.record.specs.Record.{stamp_of, cross_of}
use Rattle.record.specs.Desk.{slot_of, fragment_in}
use Rattle.rounds.specs.Rounds.{Closed}
use Rattle.session.specs.Session.{done, said_of}
use Rattle.recover.specs.Recover.{lowest, decoded}
use Rattle.client.specs.Turns.{Turn}

-- degree below m, and at the point of each of the nodes byte i of the fragment that its slot of the desk d holds
pub record Through (p : Plan) (nodes d : List ℕ) (i : ℕ) (cs : List ℕ) : Type 0 where
  pub degree : length cs ≤ p.m
  pub octets : Octets cs
  pub passes : All (λ (q : ℕ). eval cs q ≡ get_or (fragment_in p d q) i 0) nodes

pub record Value (p : Plan) (nodes d : List ℕ) (i k x : ℕ) : Type 0 where
  pub polynomial : List ℕ
  pub through : Through p nodes d i polynomial
  pub is : x ≡ eval polynomial k

-- slot k of the desk e, where c is the close of a round and d the desk as it was then
pub record Holds (p : Plan) (c : Closed) (d e : List ℕ) (k : ℕ) : Type 0 where
  pub number : stamp (slot_of p e k) ≡ stamp_number c.stamp
  pub timestamp : All (λ (q : ℕ). stamp_of (slot_of p e k) ≡ stamp_of (slot_of p d q)) c.nodes
  pub checksum : All (λ (q : ℕ). cross_of p (slot_of p e k) ≡ cross_of p (slot_of p d q)) c.nodes
  pub fragment : (i : ℕ) → i < p.f → Value p (lowest p c) d i k (get_or (fragment_in p e k) i 0)

abbrev pub EachTurn : (Turn → Type 0) → List Turn → Type 0
EachTurn P [] = Unit {0}
EachTurn P (t ∷ ts) = P t × EachTurn P ts

-- a reply of a repair round: the desk stays; where it ends the read, the item is the one that the m lowest of the set decode to
pub record Rests (p : Plan) (c : Closed) (d e : List ℕ) (t : Turn) : Type 0 where
  pub desk : t.desk_left ≡ e
  pub item : (stamp : Timestamp) (rounds : ℕ) → said_of t.took.answer ≡ done stamp rounds → t.item_left ≡ decoded p c d t.item
