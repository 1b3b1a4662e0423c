-- A plan as 11 bytes, for a host: N, t, b, Q, m one byte each, F 2, member (0 repairable, 1 non-repair), clients (0 crash, 1 Byzantine),
-- W 2. Document 01, "The plan" and "Records, books, frames": all numbers are big-endian.
--   field x at n           the number of the n bytes at a place
--   member_byte clients_byte the cases as bytes; member_of clients_of, bytes as cases
--   plan_bytes              a plan laid out
--   plan_shaped plan_at      whether some bytes code a plan, and the plan that they code
--   no_plan plan_of          any bytes as a plan: those that code none give one outside its rules, so that every call refuses it 1
--   no_wish wish_of          a member byte, t, b and m as a wish; a byte that codes no member likewise gives one that the call refuses 1
-- Assumes nothing.
use Rattle.std.specs.Prelude.{ℕ, Bool, cond, List, [], ◌∷◌, ◌++◌, length, leb, eqb}
use Rattle.octets.specs.Bytes.{part, num, be}
use Rattle.terms.specs.Ladder.{all}
use Rattle.terms.specs.declared.Plan.{Plan}
use Rattle.terms.specs.declared.Member.{Member}
use Rattle.terms.specs.declared.Member.TheVariants.{Repairable, NonRepair}
use Rattle.terms.specs.declared.Clients.{Clients}
use Rattle.terms.specs.declared.Clients.TheVariants.{Crash, Byzantine}
use Rattle.wish.specs.declared.Wish.{Wish}

abbrev pub field : List ℕ → ℕ → ℕ → ℕ
field x at n = num (part x at n)

abbrev pub member_byte : Member → ℕ
member_byte Repairable = 0
member_byte NonRepair = 1

abbrev pub clients_byte : Clients → ℕ
clients_byte Crash = 0
clients_byte Byzantine = 1

unfoldable pub member_of : ℕ → Member
member_of k = cond (eqb k 0) Repairable NonRepair

unfoldable pub clients_of : ℕ → Clients
clients_of k = cond (eqb k 0) Crash Byzantine

unfoldable pub plan_bytes : Plan → List ℕ
plan_bytes p =
    be 1 p.n ++ (be 1 p.t ++ (be 1 p.b ++ (be 1 p.q ++ (be 1 p.m ++ (be 2 p.f
    ++ (be 1 (member_byte p.member) ++ (be 1 (clients_byte p.clients) ++ be 2 p.w)))))))

-- "A plan slice that is not 11 bytes, or with a member or clients byte above 1, is refusal 1"
unfoldable pub plan_shaped : List ℕ → Bool
plan_shaped x = all (eqb (length x) 11 ∷ leb (field x 7 1) 1 ∷ leb (field x 8 1) 1 ∷ [])

unfoldable pub plan_at : List ℕ → Plan
plan_at x =
    record {
      n = field x 0 1;
      t = field x 1 1;
      b = field x 2 1;
      q = field x 3 1;
      m = field x 4 1;
      f = field x 5 2;
      member = member_of (field x 7 1);
      clients = clients_of (field x 8 1);
      w = field x 9 2;
    }

-- N is 0
abbrev pub no_plan : Plan
no_plan = record { n = 0; t = 0; b = 0; q = 0; m = 0; f = 0; member = Repairable; clients = Crash; w = 0 }

unfoldable pub plan_of : List ℕ → Plan
plan_of x = cond (plan_shaped x) (plan_at x) no_plan

-- m is 0
abbrev pub no_wish : Wish
no_wish = record { member = Repairable; t = 0; b = 0; m = 0 }

unfoldable pub wish_of : (k t b m : ℕ) → Wish
wish_of k t b m = cond (leb k 1) (record { member = member_of k; t = t; b = b; m = m }) no_wish
