-- The bytes of an ending, of N and Q, and of what a run tells. Assumes nothing.
use Rattle.terms.specs.declared.Refusal.{Refusal}
use Prim.{Unit}
use Rattle.std.specs.Prelude.{Result, Ok, Err}
use Rattle.node.specs.Fresh.{said_made}
use Rattle.node.specs.Node.{said_served}
use Rattle.session.specs.Owed.{due_of}
use Rattle.session.specs.Opening.{opening_number}
use Prim.Native.Nat.{ℕ, ◌+◌}
use mathlib.Core.Path.{◌≡◌, refl, sym, ap, ◌∙◌}
use mathlib.Core.List.{List, ◌++◌, append_assoc}
use native.Mathlib.Omega.{arith}
use lib.ListN.{length, length-append}
use Rattle.octets.specs.Bytes.{put, be}
use Rattle.octets.proofs.Laws.{length_be, put_then}
use Rattle.octets.proofs.Meaning.{put_whole}
use Rattle.terms.specs.Stamp.{stamp_number, zero_stamp}
use Rattle.terms.specs.declared.Timestamp.{Timestamp}
use Rattle.terms.proofs.Stamps.{zero_number}
use Rattle.session.specs.declared.Answer.{Answer}
use Rattle.session.specs.Session.{said_of}
use Rattle.wish.specs.Wish.{Smallest, said_smallest}
use Rattle.runs.specs.declared.Ran.{Ran}
use Rattle.runs.specs.Runs.{said_ran}
use Rattle.answers.specs.Answers.{number_of, made_number, served_number, due_number, smallest_number, ran_number, counts_bytes, counts_after, told_bytes, told_after, ending_bytes, ending_after}

-- two numbers one after the other, which fill a slice
pub two_put : (x x₁ x₂ : List ℕ) (m n j k : ℕ) → length x ≡ m + n → x₁ ≡ put x 0 (be m j) → x₂ ≡ put x₁ m (be n k) → x₂ ≡ be m j ++ be n k
two_put x x₁ x₂ m n j k l f g =
    g ∙ ap (λ (w : List ℕ). put w m (be n k)) f ∙ put_then x 0 m (be m j) (be n k) (let h = length_be m j in omega arith) (omega arith)
    ∙ put_whole x _ (l ∙ sym (length-append (be m j) (be n k) ∙ (λ i. length_be m j i + length_be n k i)))

pub ending_put : (e e₁ e₂ : List ℕ) (t n : ℕ) → length e ≡ 42 → e₁ ≡ put e 0 (be 40 t) → e₂ ≡ put e₁ 40 (be 2 n) → e₂ ≡ ending_bytes t n
unfolding ending_bytes
ending_put e e₁ e₂ t n = two_put e e₁ e₂ 40 2 t n

pub counts_put : (y y₁ y₂ : List ℕ) (n q : ℕ) → length y ≡ 2 → y₁ ≡ put y 0 (be 1 n) → y₂ ≡ put y₁ 1 (be 1 q) → y₂ ≡ counts_bytes n q
unfolding counts_bytes
counts_put y y₁ y₂ n q = two_put y y₁ y₂ 1 1 n q

pub told_put : (t t₁ t₂ t₃ : List ℕ) (n w e : ℕ) → length t ≡ 24 → t₁ ≡ put t 0 (be 8 n) → t₂ ≡ put t₁ 8 (be 8 w) → t₃ ≡ put t₂ 16 (be 8 e) → t₃ ≡ told_bytes n w e
unfolding told_bytes
told_put t t₁ t₂ t₃ n w e l f g h =
    let a = length_be 8 n in
    let b = length_be 8 w in
    let c = length_be 8 e in
    let nw = length-append (be 8 n) (be 8 w) in
    let we = length-append (be 8 w) (be 8 e) in
    let all = length-append (be 8 n) (be 8 w ++ be 8 e) in
    let q : t₂ ≡ put t 0 (be 8 n ++ be 8 w) = g ∙ ap (λ (x : List ℕ). put x 8 (be 8 w)) f ∙ put_then t 0 8 (be 8 n) (be 8 w) (omega arith) (omega arith) in
    h ∙ ap (λ (x : List ℕ). put x 16 (be 8 e)) q ∙ put_then t 0 16 (be 8 n ++ be 8 w) (be 8 e) (omega arith) (omega arith)
    ∙ ap (put t 0) (append_assoc (be 8 n) (be 8 w) (be 8 e)) ∙ put_whole t _ (omega arith)

-- ---- the number of an answer is that of what it says
pub made_is : (a : Result (Unit {0}) Refusal) → number_of a ≡ made_number (said_made a)
made_is (Ok u) = refl
made_is (Err r) = refl

pub served_is : (a : Result ℕ Refusal) → number_of a ≡ served_number (said_served a)
served_is (Ok n) = refl
served_is (Err r) = refl

pub due_is : (a : Result ℕ Refusal) → number_of a ≡ due_number (due_of a)
due_is (Ok n) = refl
due_is (Err r) = refl

pub smallest_is : (a : Smallest) → number_of a ≡ smallest_number (said_smallest a)
smallest_is (Ok c) = refl
smallest_is (Err r) = refl

pub ran_is : (a : Result Ran Refusal) → number_of a ≡ ran_number (said_ran a)
ran_is (Ok x) = refl
ran_is (Err r) = refl

pub opening_is : (a : Result (Unit {0}) Refusal) → number_of a ≡ opening_number a
opening_is (Ok u) = refl
opening_is (Err r) = refl

-- ---- by the case of an answer
-- a run's answer that a match told
pub ran_told : (a b : Result Ran Refusal) (t t₂ : List ℕ) → a ≡ b → t₂ ≡ told_after (said_ran b) t → t₂ ≡ told_after (said_ran a) t
ran_told a b t t₂ f g = g ∙ ap (λ (x : Result Ran Refusal). told_after (said_ran x) t) (sym f)

-- a wish's answer that a match told
pub counts_told : (a b : Smallest) (y y₂ : List ℕ) → a ≡ b → y₂ ≡ counts_after (said_smallest b) y → y₂ ≡ counts_after (said_smallest a) y
counts_told a b y y₂ f g = g ∙ ap (λ (w : Smallest). counts_after (said_smallest w) y) (sym f)

-- an accepted reply's answer that a match told
pub ending_told : (a b : Answer) (e e₂ : List ℕ) → a ≡ b → e₂ ≡ ending_after (said_of (Ok b)) e → e₂ ≡ ending_after (said_of (Ok a)) e
ending_told a b e e₂ f g = g ∙ ap (λ (w : Answer). ending_after (said_of (Ok w)) e) (sym f)

-- an answer that a test told
pub ending_of_answer : (a b : Result Answer Refusal) (e e₂ : List ℕ) → a ≡ b → e₂ ≡ ending_after (said_of b) e → e₂ ≡ ending_after (said_of a) e
ending_of_answer a b e e₂ f g = g ∙ ap (λ (w : Result Answer Refusal). ending_after (said_of w) e) (sym f)

pub no_stamp : (t : Timestamp) (n : ℕ) (e : List ℕ) → t ≡ zero_stamp → e ≡ ending_bytes (stamp_number t) n → e ≡ ending_bytes 0 n
no_stamp t n e f g = g ∙ ap (λ (k : ℕ). ending_bytes k n) (ap stamp_number f ∙ zero_number)
