-- A polynomial of degree below m is determined by its values at m points, and there is one for any values. Assumes nothing.
use mathlib.Core.Path.{◌≡◌, refl, sym, ap, ap₂, ◌∙◌, subst}
use mathlib.Core.Bool.{Bool, true, false, cond}
use mathlib.Core.List.{List, [], ◌∷◌}
use Prim.Native.Nat.{ℕ, zero, suc, ◌≤◌, ◌<◌, zero-le, suc-le-suc}
use native.Mathlib.Nat.{not-suc-le-zero, le_of_suc-le-suc}
use native.Mathlib.Omega.{arith}
use lib.Dec.{T, eqb, eqb→eq, eqb_refl, lit<}
use lib.Bits.{bit_xor, xor_zero_l, xor_zero_r, xor_comm, xor_self, xor_lt}
use lib.ListN.{length}
use Rattle.field.specs.Field.{mul, inv, div}
use Rattle.fragments.specs.Fragments.{All, Distinct, ratio, weight_of, blend, value, eval}
use Rattle.octets.proofs.Xor.{xor_assoc, xor_swap, xor_cancel, xor_eq}
use Rattle.field.proofs.Laws.{mul_lt, mul_comm_f, mul_assoc_f, mul_left_comm, mul_plus, plus_mul, zero_mul, mul_zero_f, one_mul, mul_one_f}
use Rattle.field.proofs.Division.{mul_inv, inv_lt, div_inv, mul_div, zero_div, div_lt}

-- ---- every element of a list
pub all : {P : ℕ → Type 0} → ((x : ℕ) → P x) → (xs : List ℕ) → All P xs
all f [] = tt
all f (x ∷ xs) = (f x, all f xs)

pub all_map : {P Q : ℕ → Type 0} → ((x : ℕ) → P x → Q x) → (xs : List ℕ) → All P xs → All Q xs
all_map f [] p = tt
all_map f (x ∷ xs) p = (f x p.0, all_map f xs p.1)

pub all_map2 : {P Q R : ℕ → Type 0} → ((x : ℕ) → P x → Q x → R x) → (xs : List ℕ) → All P xs → All Q xs → All R xs
all_map2 f [] p q = tt
all_map2 f (x ∷ xs) p q = (f x p.0 q.0, all_map2 f xs p.1 q.1)

abbrev pub Byte : ℕ → Type 0
Byte n = n < 256

abbrev pub Bytes : List ℕ → Type 0
Bytes xs = All Byte xs

-- a is none of xs
abbrev pub Apart : ℕ → List ℕ → Type 0
Apart a xs = All (λ (x : ℕ). a ≡ x → ⊥) xs

-- ---- sums and products of bytes
pub plus_lt : {a b : ℕ} → a < 256 → b < 256 → bit_xor a b < 256
plus_lt {a} {b} h k = xor_lt 8 a b h k

-- the sum of two different bytes is a byte above 0
pub plus_pos : (a b : ℕ) → (a ≡ b → ⊥) → 0 < bit_xor a b
plus_pos a b ne = pos (bit_xor a b) (λ e. ne (xor_eq a b e))
  where
    pos : (n : ℕ) → (n ≡ 0 → ⊥) → 0 < n
    pos zero h = absurd (h refl)
    pos (suc n) h = suc-le-suc zero-le

-- ---- ratios and weights
eqb_no : (p q : ℕ) → (p ≡ q → ⊥) → eqb p q ≡ false
eqb_no p q ne = go (eqb p q) refl
  where
    go : (b : Bool) → eqb p q ≡ b → eqb p q ≡ false
    go true e = absurd (ne (eqb→eq p q (subst T (sym e) tt)))
    go false e = e

eqb_yes : (p : ℕ) → eqb p p ≡ true
eqb_yes p = go (eqb p p) refl (eqb_refl p)
  where
    go : (b : Bool) → eqb p p ≡ b → T b → eqb p p ≡ true
    go true e t = e
    go false e t = absurd t

pub ratio_other : (x p q : ℕ) → (p ≡ q → ⊥) → ratio x p q ≡ div (bit_xor x q) (bit_xor p q)
unfolding ratio
ratio_other x p q ne = ap (λ (b : Bool). cond b 1 (div (bit_xor x q) (bit_xor p q))) (eqb_no p q ne)

pub ratio_same : (x p : ℕ) → ratio x p p ≡ 1
unfolding ratio
ratio_same x p = ap (λ (b : Bool). cond b 1 (div (bit_xor x p) (bit_xor p p))) (eqb_yes p)

pub weight_lt : (qs : List ℕ) (x p : ℕ) → weight_of qs x p < 256
unfolding weight_of
weight_lt [] x p = lit< tt
weight_lt (q ∷ qs) x p = mul_lt (ratio x p q) (weight_of qs x p)

pub eval_lt : (cs : List ℕ) (x : ℕ) → Bytes cs → eval cs x < 256
unfolding eval
eval_lt [] x b = lit< tt
eval_lt (c ∷ cs) x b = plus_lt b.0 (mul_lt x (eval cs x))

-- ---- sums with weights
blend_plus : (qs : List ℕ) (x : ℕ) (f g : ℕ → ℕ) (ps : List ℕ)
    → blend qs x (λ p. bit_xor (f p) (g p)) ps ≡ bit_xor (blend qs x f ps) (blend qs x g ps)
unfolding blend
blend_plus qs x f g [] = refl
blend_plus qs x f g (p ∷ ps) =
    ap₂ bit_xor (mul_plus (weight_of qs x p) (f p) (g p)) (blend_plus qs x f g ps)
    ∙ xor_swap (mul (weight_of qs x p) (f p)) (mul (weight_of qs x p) (g p)) (blend qs x f ps) (blend qs x g ps)

blend_scale : (qs : List ℕ) (x c : ℕ) (f : ℕ → ℕ) (ps : List ℕ) → blend qs x (λ p. mul c (f p)) ps ≡ mul c (blend qs x f ps)
unfolding blend
blend_scale qs x c f [] = sym (mul_zero_f c)
blend_scale qs x c f (p ∷ ps) =
    ap₂ bit_xor (mul_left_comm (weight_of qs x p) c (f p)) (blend_scale qs x c f ps)
    ∙ sym (mul_plus c (mul (weight_of qs x p) (f p)) (blend qs x f ps))

pub blend_ext : (qs : List ℕ) (x : ℕ) (f g : ℕ → ℕ) (ps : List ℕ) → All (λ (p : ℕ). f p ≡ g p) ps → blend qs x f ps ≡ blend qs x g ps
unfolding blend
blend_ext qs x f g [] e = refl
blend_ext qs x f g (p ∷ ps) e = ap₂ bit_xor (ap (mul (weight_of qs x p)) e.0) (blend_ext qs x f g ps e.1)

pub value_ext : (ps : List ℕ) (f g : ℕ → ℕ) (x : ℕ) → All (λ (p : ℕ). f p ≡ g p) ps → value ps f x ≡ value ps g x
unfolding value
value_ext ps f g x e = blend_ext ps x f g ps e

-- a point more, which is none of ps
blend_step : (a : ℕ) (qs : List ℕ) (x : ℕ) (f : ℕ → ℕ) (ps : List ℕ) → a < 256 → x < 256 → Apart a ps → Bytes ps
    → blend (a ∷ qs) x (λ p. mul (bit_xor p a) (f p)) ps ≡ mul (bit_xor x a) (blend qs x f ps)
unfolding blend weight_of
blend_step a qs x f [] ha hx ne b = sym (mul_zero_f (bit_xor x a))
blend_step a qs x f (p ∷ ps) ha hx ne b =
    ap₂ bit_xor (one p (λ e. ne.0 (sym e)) b.0) (blend_step a qs x f ps ha hx ne.1 b.1)
    ∙ sym (mul_plus (bit_xor x a) (mul (weight_of qs x p) (f p)) (blend qs x f ps))
  where
    one : (p : ℕ) → (p ≡ a → ⊥) → p < 256 → mul (mul (ratio x p a) (weight_of qs x p)) (mul (bit_xor p a) (f p)) ≡ mul (bit_xor x a) (mul (weight_of qs x p) (f p))
    one p ne hp =
        mul_assoc_f (ratio x p a) (weight_of qs x p) (mul (bit_xor p a) (f p))
        ∙ ap (mul (ratio x p a)) (mul_left_comm (weight_of qs x p) (bit_xor p a) (f p))
        ∙ sym (mul_assoc_f (ratio x p a) (bit_xor p a) (mul (weight_of qs x p) (f p)))
        ∙ ap (λ (n : ℕ). mul n (mul (weight_of qs x p) (f p)))
        (mul_comm_f (ratio x p a) (bit_xor p a) ∙ ap (mul (bit_xor p a)) (ratio_other x p a ne)
        ∙ mul_div (bit_xor x a) (bit_xor p a) (plus_lt hx ha) (plus_pos p a ne) (plus_lt hp ha))

-- ---- polynomials: a constant more, times y + q, times a constant
addc : ℕ → List ℕ → List ℕ
addc c [] = c ∷ []
addc c (d ∷ ds) = bit_xor c d ∷ ds

lin : ℕ → List ℕ → List ℕ
lin q [] = []
lin q (c ∷ cs) = mul q c ∷ addc c (lin q cs)

scale : ℕ → List ℕ → List ℕ
scale s [] = []
scale s (c ∷ cs) = mul s c ∷ scale s cs

eval_addc : (c : ℕ) (cs : List ℕ) (y : ℕ) → eval (addc c cs) y ≡ bit_xor c (eval cs y)
unfolding addc eval
eval_addc c [] y = ap (bit_xor c) (mul_zero_f y)
eval_addc c (d ∷ ds) y = xor_assoc c d (mul y (eval ds y))

eval_lin : (q : ℕ) (cs : List ℕ) (y : ℕ) → eval (lin q cs) y ≡ mul (bit_xor y q) (eval cs y)
unfolding lin eval
eval_lin q [] y = sym (mul_zero_f (bit_xor y q))
eval_lin q (c ∷ cs) y =
    ap (λ (n : ℕ). bit_xor (mul q c) (mul y n)) (eval_addc c (lin q cs) y ∙ ap (bit_xor c) (eval_lin q cs y))
    ∙ ap (bit_xor (mul q c)) (mul_plus y c (mul (bit_xor y q) (eval cs y)))
    ∙ sym (xor_assoc (mul q c) (mul y c) (mul y (mul (bit_xor y q) (eval cs y))))
    ∙ ap₂ bit_xor (xor_comm (mul q c) (mul y c) ∙ sym (plus_mul y q c)) (mul_left_comm y (bit_xor y q) (eval cs y))
    ∙ sym (mul_plus (bit_xor y q) c (mul y (eval cs y)))

eval_scale : (s : ℕ) (cs : List ℕ) (y : ℕ) → eval (scale s cs) y ≡ mul s (eval cs y)
unfolding scale eval
eval_scale s [] y = sym (mul_zero_f s)
eval_scale s (c ∷ cs) y =
    ap (bit_xor (mul s c)) (ap (mul y) (eval_scale s cs y) ∙ mul_left_comm y s (eval cs y)) ∙ sym (mul_plus s c (mul y (eval cs y)))

length_addc_lin : (c q : ℕ) (cs : List ℕ) → length (addc c (lin q cs)) ≡ suc (length cs)
unfolding addc lin
length_addc_lin c q [] = refl
length_addc_lin c q (d ∷ ds) = ap suc (length_addc_lin d q ds)

length_scale : (s : ℕ) (cs : List ℕ) → length (scale s cs) ≡ length cs
unfolding scale
length_scale s [] = refl
length_scale s (c ∷ cs) = ap suc (length_scale s cs)

bytes_addc_lin : (c q : ℕ) (cs : List ℕ) → c < 256 → Bytes cs → Bytes (addc c (lin q cs))
unfolding addc lin
bytes_addc_lin c q [] h b = (h, tt)
bytes_addc_lin c q (d ∷ ds) h b = (plus_lt h (mul_lt q d), bytes_addc_lin d q ds b.0 b.1)

bytes_scale : (s : ℕ) (cs : List ℕ) → Bytes (scale s cs)
unfolding scale
bytes_scale s [] = tt
bytes_scale s (c ∷ cs) = (mul_lt s c, bytes_scale s cs)

-- ---- division by y + a
quots : List ℕ → ℕ → List ℕ
quots [] a = []
quots (c ∷ cs) a = eval (c ∷ cs) a ∷ quots cs a

quot : List ℕ → ℕ → List ℕ
quot [] a = []
quot (c ∷ cs) a = quots cs a

quots_rule : (cs : List ℕ) (a y : ℕ) → mul (bit_xor y a) (eval (quots cs a) y) ≡ bit_xor (mul y (eval cs y)) (mul a (eval cs a))
unfolding quots eval
quots_rule [] a y = mul_zero_f (bit_xor y a) ∙ sym (ap₂ bit_xor (mul_zero_f y) (mul_zero_f a))
quots_rule (c ∷ cs) a y =
    let Ey = bit_xor c (mul y (eval cs y)) in
    let Ea = bit_xor c (mul a (eval cs a)) in
    let Q = eval (quots cs a) y in
    mul_plus (bit_xor y a) Ea (mul y Q)
    ∙ ap₂ bit_xor (plus_mul y a Ea)
    (mul_left_comm (bit_xor y a) y Q ∙ ap (mul y) (quots_rule cs a y ∙ drop_c c (mul y (eval cs y)) (mul a (eval cs a)))
    ∙ mul_plus y Ey Ea)
    ∙ regroup (mul y Ea) (mul a Ea) (mul y Ey)
  where
    drop_c : (c u v : ℕ) → bit_xor u v ≡ bit_xor (bit_xor c u) (bit_xor c v)
    drop_c c u v = sym (xor_swap c u c v ∙ ap (λ (n : ℕ). bit_xor n (bit_xor u v)) (xor_self c) ∙ xor_zero_l (bit_xor u v))

    regroup : (u v w : ℕ) → bit_xor (bit_xor u v) (bit_xor w u) ≡ bit_xor w v
    regroup u v w =
        xor_comm (bit_xor u v) (bit_xor w u) ∙ xor_swap w u u v ∙ ap (λ (n : ℕ). bit_xor n (bit_xor u v)) (xor_comm w u)
        ∙ xor_assoc u w (bit_xor u v) ∙ ap (bit_xor u) (sym (xor_assoc w u v) ∙ ap (λ (n : ℕ). bit_xor n v) (xor_comm w u) ∙ xor_assoc u w v)
        ∙ xor_cancel u (bit_xor w v)

quot_rule : (cs : List ℕ) (a y : ℕ) → eval cs y ≡ bit_xor (eval cs a) (mul (bit_xor y a) (eval (quot cs a) y))
unfolding quot eval
quot_rule [] a y = sym (mul_zero_f (bit_xor y a))
quot_rule (c ∷ cs) a y =
    sym (ap (bit_xor (bit_xor c (mul a (eval cs a)))) (quots_rule cs a y)
    ∙ xor_assoc c (mul a (eval cs a)) (bit_xor (mul y (eval cs y)) (mul a (eval cs a)))
    ∙ ap (bit_xor c) (ap (bit_xor (mul a (eval cs a))) (xor_comm (mul y (eval cs y)) (mul a (eval cs a)))
    ∙ xor_cancel (mul a (eval cs a)) (mul y (eval cs y))))

length_quots : (cs : List ℕ) (a : ℕ) → length (quots cs a) ≡ length cs
unfolding quots
length_quots [] a = refl
length_quots (c ∷ cs) a = ap suc (length_quots cs a)

length_quot : (cs : List ℕ) (a n : ℕ) → length cs ≤ suc n → length (quot cs a) ≤ n
unfolding quot
length_quot [] a n h = zero-le
length_quot (c ∷ cs) a n h = subst (λ (k : ℕ). k ≤ n) (sym (length_quots cs a)) (le_of_suc-le-suc h)

bytes_quots : (cs : List ℕ) (a : ℕ) → Bytes cs → Bytes (quots cs a)
unfolding quots
bytes_quots [] a b = tt
bytes_quots (c ∷ cs) a b = (eval_lt (c ∷ cs) a b, bytes_quots cs a b.1)

bytes_quot : (cs : List ℕ) (a : ℕ) → Bytes cs → Bytes (quot cs a)
unfolding quot
bytes_quot [] a b = tt
bytes_quot (c ∷ cs) a b = bytes_quots cs a b.1

-- ---- the weight_of of a, none of qs, is 1 + (y + a) e(y), with e of degree below the number of qs
rest : List ℕ → ℕ → List ℕ
rest [] a = []
rest (q ∷ qs) a = scale (inv (bit_xor a q)) (addc 1 (lin q (rest qs a)))

length_rest : (qs : List ℕ) (a : ℕ) → length (rest qs a) ≡ length qs
unfolding rest
length_rest [] a = refl
length_rest (q ∷ qs) a =
    length_scale (inv (bit_xor a q)) (addc 1 (lin q (rest qs a))) ∙ length_addc_lin 1 q (rest qs a) ∙ ap suc (length_rest qs a)

bytes_rest : (qs : List ℕ) (a : ℕ) → Bytes (rest qs a)
unfolding rest
bytes_rest [] a = tt
bytes_rest (q ∷ qs) a = bytes_scale (inv (bit_xor a q)) (addc 1 (lin q (rest qs a)))

-- y + q, over a + q, is 1 + (y + a) s, with s one over a + q
one_ratio : (y a q : ℕ) → y < 256 → a < 256 → q < 256 → (a ≡ q → ⊥)
    → ratio y a q ≡ bit_xor 1 (mul (bit_xor y a) (inv (bit_xor a q)))
one_ratio y a q hy ha hq ne =
    ratio_other y a q ne
    ∙ div_inv (bit_xor y q) (bit_xor a q)
    ∙ ap (λ (n : ℕ). mul n (inv (bit_xor a q))) (through y a q)
    ∙ plus_mul (bit_xor a q) (bit_xor y a) (inv (bit_xor a q))
    ∙ ap (λ (n : ℕ). bit_xor n (mul (bit_xor y a) (inv (bit_xor a q)))) (mul_inv (bit_xor a q) (plus_pos a q ne) (plus_lt ha hq))
  where
    through : (y a q : ℕ) → bit_xor y q ≡ bit_xor (bit_xor a q) (bit_xor y a)
    through y a q =
        sym (xor_comm (bit_xor a q) (bit_xor y a) ∙ xor_assoc y a (bit_xor a q) ∙ ap (bit_xor y) (xor_cancel a q))

weight_rest : (qs : List ℕ) (a y : ℕ) → a < 256 → y < 256 → Bytes qs → Apart a qs
    → weight_of qs y a ≡ bit_xor 1 (mul (bit_xor y a) (eval (rest qs a) y))
unfolding weight_of rest
weight_rest [] a y ha hy b ne = unfold eval in sym (ap (bit_xor 1) (mul_zero_f (bit_xor y a)))
weight_rest (q ∷ qs) a y ha hy b ne =
    let s = inv (bit_xor a q) in
    let z = bit_xor y a in
    let e = eval (rest qs a) y in
    ap (mul (ratio y a q)) (weight_rest qs a y ha hy b.1 ne.1)
    ∙ mul_plus (ratio y a q) 1 (mul z e)
    ∙ ap₂ bit_xor (mul_comm_f (ratio y a q) 1 ∙ ap (mul 1) (one_ratio y a q hy ha b.0 ne.0) ∙ one_mul (bit_xor 1 (mul z s)) (plus_lt {a = 1} (lit< tt) (mul_lt z s)))
    (mul_left_comm (ratio y a q) z e ∙ ap (mul z) (ap (λ (n : ℕ). mul n e) (ratio_other y a q ne.0 ∙ div_inv (bit_xor y q) (bit_xor a q) ∙ mul_comm_f (bit_xor y q) s)
    ∙ mul_assoc_f s (bit_xor y q) e))
    ∙ xor_assoc 1 (mul z s) (mul z (mul s (mul (bit_xor y q) e)))
    ∙ ap (bit_xor 1) (sym (mul_plus z s (mul s (mul (bit_xor y q) e))) ∙ ap (mul z) (sym whole))
  where
    whole : eval (scale (inv (bit_xor a q)) (addc 1 (lin q (rest qs a)))) y ≡ bit_xor (inv (bit_xor a q)) (mul (inv (bit_xor a q)) (mul (bit_xor y q) (eval (rest qs a) y)))
    whole =
        let s = inv (bit_xor a q) in
        eval_scale s (addc 1 (lin q (rest qs a))) y
        ∙ ap (mul s) (eval_addc 1 (lin q (rest qs a)) y ∙ ap (bit_xor 1) (eval_lin q (rest qs a) y))
        ∙ mul_plus s 1 (mul (bit_xor y q) (eval (rest qs a) y))
        ∙ ap (λ (n : ℕ). bit_xor n (mul s (mul (bit_xor y q) (eval (rest qs a) y)))) (mul_one_f s (inv_lt (bit_xor a q)))

-- the weight_of of a is 0 at each of qs
weight_zero : (qs : List ℕ) (a : ℕ) → Apart a qs → All (λ (p : ℕ). weight_of qs p a ≡ 0) qs
weight_zero qs a ne = go qs ne
  where
    here : (p : ℕ) (ps : List ℕ) → (a ≡ p → ⊥) → weight_of (p ∷ ps) p a ≡ 0
    here p ps ne =
        unfold weight_of in
        ap (λ (n : ℕ). mul n (weight_of ps p a)) (ratio_other p a p ne ∙ ap (λ (n : ℕ). div n (bit_xor a p)) (xor_self p) ∙ zero_div (bit_xor a p))
        ∙ zero_mul (weight_of ps p a)

    more : (p q : ℕ) (ps : List ℕ) → weight_of ps p a ≡ 0 → weight_of (q ∷ ps) p a ≡ 0
    more p q ps e = unfold weight_of in ap (mul (ratio p a q)) e ∙ mul_zero_f (ratio p a q)

    go : (qs : List ℕ) → Apart a qs → All (λ (p : ℕ). weight_of qs p a ≡ 0) qs
    go [] ne = tt
    go (q ∷ qs) ne = (here q qs ne.0, all_map (λ p e. more p q qs e) qs (go qs ne.1))

own_weight : (ps : List ℕ) (a x : ℕ) → a < 256 → x < 256 → Bytes ps → Apart a ps
    → weight_of (a ∷ ps) x a ≡ bit_xor 1 (mul (bit_xor x a) (eval (rest ps a) x))
unfolding weight_of
own_weight ps a x ha hx b ne =
    ap (λ (n : ℕ). mul n (weight_of ps x a)) (ratio_same x a)
    ∙ one_mul (weight_of ps x a) (weight_lt ps x a) ∙ weight_rest ps a x ha hx b ne

units : (ps : List ℕ) (a : ℕ) → a < 256 → Bytes ps → Apart a ps → All (λ (p : ℕ). 1 ≡ mul (bit_xor p a) (eval (rest ps a) p)) ps
units ps a ha b ne =
    all_map2 (λ p e hp. xor_eq 1 (mul (bit_xor p a) (eval (rest ps a) p)) (sym (weight_rest ps a p ha hp b ne) ∙ e)) ps (weight_zero ps a ne) b

-- ---- a polynomial of degree below the number of points is the value through its own values
pub only : (ps cs : List ℕ) (x : ℕ) → Distinct ps → Bytes ps → Bytes cs → length cs ≤ length ps → x < 256
    → value ps (eval cs) x ≡ eval cs x
unfolding value blend
only [] [] x d b bc h hx = unfold eval in refl
only [] (c ∷ cs) x d b bc h hx = absurd (not-suc-le-zero h)
only (a ∷ ps) cs x d b bc h hx =
    let v = eval cs a in
    let D = quot cs a in
    let e = rest ps a in
    let z = bit_xor x a in
    let ih_d : value ps (eval D) x ≡ eval D x = only ps D x d.1 b.1 (bytes_quot cs a bc) (length_quot cs a (length ps) h) hx in
    let ih_e : value ps (eval e) x ≡ eval e x = only ps e x d.1 b.1 (bytes_rest ps a) (omega (arith, length_rest ps a)) hx in
    let U = blend (a ∷ ps) x (λ p. 1) ps in
    let hv : v < 256 = eval_lt cs a bc in
    let first : weight_of (a ∷ ps) x a ≡ bit_xor 1 (mul z (eval e x)) = own_weight ps a x b.0 hx b.1 d.0 in
    let unit : U ≡ mul z (eval e x) =
    blend_ext (a ∷ ps) x (λ p. 1) (λ p. mul (bit_xor p a) (eval e p)) ps (units ps a b.0 b.1 d.0)
    ∙ blend_step a ps x (eval e) ps b.0 hx d.0 b.1 ∙ ap (mul z) ih_e in
    let const : blend (a ∷ ps) x (λ p. v) ps ≡ mul v (mul z (eval e x)) =
    blend_ext (a ∷ ps) x (λ p. v) (λ p. mul v 1) ps (all (λ p. sym (mul_one_f v hv)) ps)
    ∙ blend_scale (a ∷ ps) x v (λ p. 1) ps ∙ ap (mul v) unit in
    let others : blend (a ∷ ps) x (eval cs) ps ≡ bit_xor (mul v (mul z (eval e x))) (mul z (eval D x)) =
    blend_ext (a ∷ ps) x (eval cs) (λ p. bit_xor v (mul (bit_xor p a) (eval D p))) ps (all (quot_rule cs a) ps)
    ∙ blend_plus (a ∷ ps) x (λ p. v) (λ p. mul (bit_xor p a) (eval D p)) ps
    ∙ ap₂ bit_xor const (blend_step a ps x (eval D) ps b.0 hx d.0 b.1 ∙ ap (mul z) ih_d) in
    ap₂ bit_xor (ap (λ (n : ℕ). mul n v) first) others
    ∙ gather v (mul z (eval e x)) (mul z (eval D x)) hv
    ∙ sym (quot_rule cs a x)
  where
    gather : (v t w : ℕ) → v < 256 → bit_xor (mul (bit_xor 1 t) v) (bit_xor (mul v t) w) ≡ bit_xor v w
    gather v t w hv =
        ap₂ bit_xor (plus_mul 1 t v ∙ ap₂ bit_xor (one_mul v hv) (mul_comm_f t v)) refl
        ∙ xor_assoc v (mul v t) (bit_xor (mul v t) w) ∙ ap (bit_xor v) (xor_cancel (mul v t) w)

-- ---- for any values there is such a polynomial
pub newton : List ℕ → (ℕ → ℕ) → List ℕ
newton [] f = []
newton (a ∷ ps) f = addc (f a) (lin a (newton ps (λ y. div (bit_xor (f y) (f a)) (bit_xor y a))))

pub length_newton : (ps : List ℕ) (f : ℕ → ℕ) → length (newton ps f) ≡ length ps
unfolding newton
length_newton [] f = refl
length_newton (a ∷ ps) f =
    let g : ℕ → ℕ = λ y. div (bit_xor (f y) (f a)) (bit_xor y a) in
    length_addc_lin (f a) a (newton ps g) ∙ ap suc (length_newton ps g)

pub bytes_newton : (ps : List ℕ) (f : ℕ → ℕ) → All (λ (p : ℕ). f p < 256) ps → Bytes (newton ps f)
unfolding newton
bytes_newton [] f h = tt
bytes_newton (a ∷ ps) f h =
    let g : ℕ → ℕ = λ y. div (bit_xor (f y) (f a)) (bit_xor y a) in
    bytes_addc_lin (f a) a (newton ps g) h.0 (bytes_newton ps g (all (λ y. div_lt (bit_xor (f y) (f a)) (bit_xor y a)) ps))

newton_eval : (a : ℕ) (ps : List ℕ) (f : ℕ → ℕ) (y : ℕ)
    → eval (newton (a ∷ ps) f) y ≡ bit_xor (f a) (mul (bit_xor y a) (eval (newton ps (λ y. div (bit_xor (f y) (f a)) (bit_xor y a))) y))
unfolding newton
newton_eval a ps f y =
    let N = newton ps (λ y. div (bit_xor (f y) (f a)) (bit_xor y a)) in
    eval_addc (f a) (lin a N) y ∙ ap (bit_xor (f a)) (eval_lin a N y)

pub newton_at : (ps : List ℕ) (f : ℕ → ℕ) → Distinct ps → Bytes ps → All (λ (p : ℕ). f p < 256) ps → All (λ (p : ℕ). eval (newton ps f) p ≡ f p) ps
newton_at [] f d b h = tt
newton_at (a ∷ ps) f d b h = (
  here,
  all_map2 (λ p e r. e r) ps
      (all_map2 {R = λ (p : ℕ). Known p → eval (newton (a ∷ ps) f) p ≡ f p} (λ p ne hp k. there p ne hp k.0 k.1) ps d.0 b.1)
      (all_map2 {R = Known} (λ p hf e. (hf, e)) ps h.1
      (newton_at ps g d.1 b.1 (all (λ y. div_lt (bit_xor (f y) (f a)) (bit_xor y a)) ps))),
)
  where
    g : ℕ → ℕ
    g y = div (bit_xor (f y) (f a)) (bit_xor y a)

    Known : ℕ → Type 0
    Known p = (f p < 256) × (eval (newton ps g) p ≡ g p)

    here : eval (newton (a ∷ ps) f) a ≡ f a
    here =
        newton_eval a ps f a
        ∙ ap (bit_xor (f a)) (ap (λ (n : ℕ). mul n (eval (newton ps g) a)) (xor_self a) ∙ zero_mul (eval (newton ps g) a))
        ∙ xor_zero_r (f a)

    there : (p : ℕ) → (a ≡ p → ⊥) → p < 256 → f p < 256 → eval (newton ps g) p ≡ g p → eval (newton (a ∷ ps) f) p ≡ f p
    there p ne hp hf e =
        newton_eval a ps f p
        ∙ ap (bit_xor (f a)) (ap (mul (bit_xor p a)) e
        ∙ mul_div (bit_xor (f p) (f a)) (bit_xor p a) (plus_lt hf h.0) (plus_pos p a (λ q. ne (sym q))) (plus_lt hp b.0)
        ∙ xor_comm (f p) (f a))
        ∙ xor_cancel (f a) (f p)

-- ---- the value through any values is a polynomial of degree below the number of points, it is those values at the points,
-- and the values at as many other points give it again
module _ (ps : List ℕ) (f : ℕ → ℕ) (d : Distinct ps) (b : Bytes ps) (h : All (λ (p : ℕ). f p < 256) ps) where
  pub value_poly : (x : ℕ) → x < 256 → value ps f x ≡ eval (newton ps f) x
  value_poly x hx =
      value_ext ps f (eval (newton ps f)) x (all_map (λ p e. sym e) ps (newton_at ps f d b h))
      ∙ only ps (newton ps f) x d b (bytes_newton ps f h) (omega (arith, length_newton ps f)) hx

  pub through : All (λ (p : ℕ). value ps f p ≡ f p) ps
  through = all_map2 (λ p hp e. value_poly p hp ∙ e) ps b (newton_at ps f d b h)

  pub again : (zs : List ℕ) → Distinct zs → Bytes zs → length ps ≤ length zs → (x : ℕ) → x < 256 → value zs (value ps f) x ≡ value ps f x
  again zs dz bz l x hx =
      value_ext zs (value ps f) (eval (newton ps f)) x (all_map (λ z hz. value_poly z hz) zs bz)
      ∙ only zs (newton ps f) x dz bz (bytes_newton ps f h) (omega (arith, length_newton ps f)) hx
      ∙ sym (value_poly x hx)
