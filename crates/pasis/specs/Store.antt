-- The storage-node's three calls for a host, on numbers and bytes: a fresh book, one request against one book, and a run of them. Each call answers a
-- number: 0 where it was made or served, else the refusal's of document 01, "Refusal numbers". The plan comes as bytes; what codes no plan
-- is one outside its rules, so that the call itself refuses it 1. The calls are those of document 01 on a plan: nothing is said twice.
--   FreshBook                 the contract of pasis_fresh_book
--   NodeServes                the contract of pasis_node; the length of the reply frame stands in its first 4 bytes
--   RunTold, run_bytes         what pasis_run leaves: 24 bytes are lent for what a run tells, and a wrong length of them is 2, after 1 and before 21
--   RunServes                 its contract
-- Assumes nothing.
use Rattle.std.specs.Prelude.{ℕ, ◌≡◌, List, length, eqb}
use Rattle.terms.specs.Ladder.{first}
use Rattle.node.specs.Fresh.{freshened}
use Rattle.node.specs.Node.{served}
use Rattle.packing.specs.PlanBytes.{plan_of}
use Rattle.runs.specs.Runs.{RunOutcome, ran_over}
use Rattle.answers.specs.Answers.{made_number, served_number, ran_number, told_after, lent_ladder}

-- plan bytes x, node number, book b; then the number answered and the book as the call leaves it
pub record FreshBook (x : List ℕ) (n : ℕ) (b : List ℕ) (r : ℕ) (b₂ : List ℕ) : Type 0 where
  pub number : r ≡ made_number (freshened (plan_of x) n b).answer
  pub book : b₂ ≡ (freshened (plan_of x) n b).book

-- plan bytes x, request f, book b, reply buffer y; then the number answered, and book and reply buffer as the call leaves them
pub record NodeServes (x f b y : List ℕ) (r : ℕ) (b₂ y₂ : List ℕ) : Type 0 where
  pub number : r ≡ served_number (served (plan_of x) f b y).answer
  pub book : b₂ ≡ (served (plan_of x) f b y).book
  pub reply : y₂ ≡ (served (plan_of x) f b y).reply

-- ---- a run
pub record RunTold : Type 0 where
  pub number : ℕ
  pub book : List ℕ
  pub reply : List ℕ
  pub numbers : List ℕ
  pub told : List ℕ

abbrev pub run_told : ℕ → List ℕ → List ℕ → List ℕ → List ℕ → RunTold
run_told k b y z t = record { number = k; book = b; reply = y; numbers = z; told = t }

abbrev pub run_tells : RunOutcome → List ℕ → RunTold
run_tells o t = run_told (ran_number o.answer) o.book o.reply o.numbers (told_after o.answer t)

unfoldable pub run_bytes : (x s b y z t : List ℕ) → RunTold
run_bytes x s b y z t = first (lent_ladder (plan_of x) (eqb (length t) 24)) (λ (k : ℕ). run_told k b y z t) (run_tells (ran_over (plan_of x) s b y z) t)

-- plan bytes x, run s, book b, reply buffer y, number places z, the bytes lent for what it tells; then the number answered, and these as the call leaves them
pub record RunServes (x s b y z t : List ℕ) (r : ℕ) (b₂ y₂ z₂ t₂ : List ℕ) : Type 0 where
  pub is : run_told r b₂ y₂ z₂ t₂ ≡ run_bytes x s b y z t
