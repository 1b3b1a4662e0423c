-- What the builders write, and what a frame that was built says. Reading and laying out are inverse: the header and the body of a frame
-- that was laid out are read back (`header_frame`, `body_frame`), and a frame is the layout of what is read from it (`built_back`).
-- Assumes nothing.
use mathlib.Core.Path.{◌≡◌, refl, sym, ap, ◌∙◌}
use mathlib.Core.Bool.{true}
use mathlib.Core.List.{List, [], ◌++◌, append_assoc, append-nil}
use Prim.Native.Nat.{ℕ, ◌+◌, ◌-◌, ◌<◌, ◌^◌}
use native.Mathlib.Omega.{arith}
use lib.ListN.{length, drop, length-append, length-drop, take-append-drop}
use lib.Seq.{drop_at}
use Rattle.octets.specs.Bytes.{part, put, num, be, over, Octets}
use Rattle.octets.proofs.Laws.{length_be, part_middle}
use Rattle.octets.proofs.Meaning.{over_start, over_more, num_be, be_part, part_add}
use Rattle.terms.specs.declared.Plan.{Plan}
use Rattle.frame.specs.declared.Party.{Party}
use Rattle.frame.specs.declared.Header.{Header}
use Rattle.frame.specs.Frame.{head_bytes, framed, rest_of, version_of, kind_of, frame_node, ask_of, header_in, body_of, head_of, frame_of, body_fits, for_party, Wrote}
use Rattle.frame.proofs.Frames.{ShapedIs, FrameIs}

pub length_head : (h : Header) (n : ℕ) → length (head_of h n) ≡ head_bytes h.version
length_head h n = simp (length-append, length_be)

pub length_frame : (h : Header) (body : List ℕ) → length (frame_of h body) ≡ framed h.version (length body)
length_frame h body = simp (length-append, length_be)

-- one field after the others
field : (y l l₂ x z : List ℕ) (at : ℕ) → length x ≡ at → l ≡ over x y → l₂ ≡ put l at z → l₂ ≡ over (x ++ z) y
field y l l₂ x z at n e f = f ∙ ap (λ (k : List ℕ). put k at z) e ∙ over_more y x z at n

pub head_is : (h : Header) (n r : ℕ) (y y₁ y₂ y₃ y₄ y₅ : List ℕ) → r ≡ head_bytes h.version - 4 + n → y₁ ≡ put y 0 (be 4 r) → y₂ ≡ put y₁ 4 (be 1 h.version)
    → y₃ ≡ put y₂ 5 (be 1 h.kind) → y₄ ≡ put y₃ 6 (be 1 h.node) → y₅ ≡ put y₄ 7 (be 8 h.ask.0) → y₅ ≡ over (head_of h n) y
head_is h n r y y₁ y₂ y₃ y₄ y₅ er e1 e2 e3 e4 e5 =
    let a1 = e1 ∙ over_start y (be 4 r) in
    let a2 = field y y₁ y₂ (be 4 r) (be 1 h.version) 4 (length_be 4 r) a1 e2 in
    let a3 = field y y₂ y₃ _ (be 1 h.kind) 5 (simp (length-append, length_be)) a2 e3 in
    let a4 = field y y₃ y₄ _ (be 1 h.node) 6 (simp (length-append, length_be)) a3 e4 in
    let a5 = field y y₄ y₅ _ (be 8 h.ask.0) 7 (simp (length-append, length_be)) a4 e5 in
    a5 ∙ ap (λ (l : List ℕ). over l y) (simp append_assoc) ∙ ap (λ (k : ℕ). over (be 4 k ++ (be 1 h.version ++ (be 1 h.kind ++ (be 1 h.node ++ be 8 h.ask.0)))) y) er

-- a head, and then a body
pub whole_is : (h : Header) (n r at : ℕ) (body y y₁ y₂ : List ℕ) → length body ≡ n → r ≡ framed h.version n → at ≡ head_bytes h.version
    → y₁ ≡ over (head_of h n) y → y₂ ≡ put y₁ at body
    → Wrote h body y r y₂
whole_is h n r at body y y₁ y₂ l er ea e f = record {
  bytes = field y y₁ y₂ (head_of h n) body at (length_head h n ∙ sym ea) e f ∙ ap (λ (k : ℕ). over (head_of h k ++ body) y) (sym l);
  told = er ∙ ap (λ (k : ℕ). framed h.version k) (sym l);
}

pub bare_is : (h : Header) (r : ℕ) (y y₁ : List ℕ) → y₁ ≡ over (head_of h 0) y → r ≡ framed h.version 0 → Wrote h [] y r y₁
bare_is h r y y₁ e er = record { bytes = e ∙ ap (λ (l : List ℕ). over l y) (sym (append-nil (head_of h 0))); told = er }

-- the same of another header's equal
pub wrote_of : {h g : Header} {body y : List ℕ} {n : ℕ} {y₂ : List ℕ} → h ≡ g → Wrote h body y n y₂ → Wrote g body y n y₂
wrote_of {body} {y} {n} {y₂} e q = record {
  bytes = q.bytes ∙ ap (λ (x : Header). over (frame_of x body) y) e;
  told = q.told ∙ ap (λ (x : Header). framed x.version (length body)) e;
}

-- ---- the fields of a frame that was built
-- a field of k bytes that holds v
field_is : (f x z : List ℕ) (at k v : ℕ) → f ≡ x ++ (be k v ++ z) → length x ≡ at → v < 256 ^ k → num (part f at k) ≡ v
field_is f x z at k v e a h = ap num (part_middle f x (be k v) z at k e a (length_be k v)) ∙ num_be k v h

module _ (h : Header) (body : List ℕ) where
  pub rest_frame : framed h.version (length body) < 256 ^ 4 → rest_of (frame_of h body) ≡ head_bytes h.version - 4 + length body
  rest_frame s =
      field_is _ [] (be 1 h.version ++ (be 1 h.kind ++ (be 1 h.node ++ (be 8 h.ask.0 ++ body)))) 0 4 (head_bytes h.version - 4 + length body) (simp append_assoc) refl
      (omega arith)

  pub version_frame : h.version < 256 → version_of (frame_of h body) ≡ h.version
  version_frame s =
      field_is _ (be 4 (head_bytes h.version - 4 + length body)) (be 1 h.kind ++ (be 1 h.node ++ (be 8 h.ask.0 ++ body))) 4 1 h.version (simp append_assoc)
      (length_be 4 (head_bytes h.version - 4 + length body)) s

  pub kind_frame : h.kind < 256 → kind_of (frame_of h body) ≡ h.kind
  kind_frame s =
      field_is _ (be 4 (head_bytes h.version - 4 + length body) ++ be 1 h.version) (be 1 h.node ++ (be 8 h.ask.0 ++ body)) 5 1 h.kind (simp append_assoc)
      (simp (length-append, length_be)) s

  pub node_frame : h.node < 256 → frame_node (frame_of h body) ≡ h.node
  node_frame s =
      field_is _ (be 4 (head_bytes h.version - 4 + length body) ++ be 1 h.version ++ be 1 h.kind) (be 8 h.ask.0 ++ body) 6 1 h.node (simp append_assoc)
      (simp (length-append, length_be)) s

  pub ask_frame : h.ask.0 < 256 ^ 8 → ask_of (frame_of h body) ≡ h.ask.0
  ask_frame s =
      field_is _ (be 4 (head_bytes h.version - 4 + length body) ++ be 1 h.version ++ be 1 h.kind ++ be 1 h.node) body 7 8 h.ask.0 (simp append_assoc)
      (simp (length-append, length_be)) s

  -- the header is read back
  pub header_frame : h.version < 256 → h.kind < 256 → h.node < 256 → h.ask.0 < 256 ^ 8 → header_in (frame_of h body) ≡ h
  header_frame v k n a = λ i. record { version = version_frame v i; kind = kind_frame k i; node = node_frame n i; ask = record { 0 = ask_frame a i } }

  -- and the body
  pub body_frame : body_of (frame_of h body) ≡ body
  body_frame = drop_at (head_of h (length body)) body (head_bytes h.version) (length_head h (length body))

  -- it passes the checks of the party that takes its kind
  pub built_good : (party : Party) (p : Plan) → h.version ≡ 1 → h.kind < 256 → framed h.version (length body) < 256 ^ 4 → for_party party h.kind ≡ true
      → body_fits p h.kind (length body) ≡ true
      → FrameIs party p (frame_of h body)
  built_good party p v s l k b =
      let f : List ℕ = frame_of h body in
      let n : length f ≡ framed h.version (length body) = length_frame h body in
      let r : length f - head_bytes h.version ≡ length body = omega arith in
      record {
        low = omega arith;
        whole = rest_frame l ∙ omega arith;
        version = version_frame (omega arith) ∙ v;
        for = rw (kind_frame s) k;
        fits = rw (kind_frame s, r) b;
      }

-- ---- a frame is built of what is read from it
pub built_back : (f : List ℕ) → Octets f → ShapedIs f → f ≡ frame_of (header_in f) (body_of f)
unfolding part
built_back f o q =
    let low = q.low in
    let n : 11 + length (drop 15 f) ≡ rest_of f = simp length-drop (omega (arith, q.whole)) in
    let e0 : be 4 (11 + length (drop 15 f)) ≡ part f 0 4 = ap (be 4) n ∙ be_part f 0 4 (omega arith) o in
    let e1 : be 1 (version_of f) ≡ part f 4 1 = be_part f 4 1 (omega arith) o in
    let e2 : be 1 (kind_of f) ≡ part f 5 1 = be_part f 5 1 (omega arith) o in
    let e3 : be 1 (frame_node f) ≡ part f 6 1 = be_part f 6 1 (omega arith) o in
    let e4 : be 8 (ask_of f) ≡ part f 7 8 = be_part f 7 8 (omega arith) o in
    sym (rw (e0, e1, e2, e3, e4, ← part_add f 6 1 8, ← part_add f 5 1 9, ← part_add f 4 1 10, ← part_add f 0 4 11) (take-append-drop 15 f))
