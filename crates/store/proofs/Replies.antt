-- WHAT A NODE'S REPLY IS: the frame that its contract gives (replied_frame), under the ask number of its request (replied_ask). A frame cut off by its
-- length (cut_off). Assumes nothing.
use Rattle.std.specs.Prelude.{Ok}
use Prim.Native.Nat.{ℕ, ◌<◌, ◌^◌}
use mathlib.Core.Path.{◌≡◌, sym, ap, ◌∙◌, subst}
use mathlib.Core.List.{List}
use native.Mathlib.Omega.{arith}
use lib.ListN.{length, take, drop}
use lib.Seq.{take_at}
use Rattle.octets.specs.Bytes.{part, over, Octets}
use Rattle.octets.proofs.Laws.{length_part}
use Rattle.octets.proofs.Meaning.{num_small, bytes_part, bytes_all}
use Rattle.terms.specs.declared.Plan.{Plan}
use Rattle.frame.specs.Frame.{kind_of, ask_of, header_in, body_of, frame_of, framed, replying}
use Rattle.frame.proofs.Built as built
use Rattle.frame.proofs.Frames.{request_is}
use Rattle.book.specs.Book.{records_of, node_of}
use Rattle.node.specs.Node.{replied, ServedOutcome, Reply, reply_to, sends, answered, NodeCall}
use Rattle.store.proofs.Node as calls

-- ---- a frame that was written into a buffer, cut off by its length
pub cut_off : (f y y₂ : List ℕ) (n : ℕ) → y₂ ≡ over f y → n ≡ length f → take n y₂ ≡ f
unfolding over
cut_off f y y₂ n e l = ap (take n) e ∙ take_at f (drop (length f) y) n (sym l)

module _ (p : Plan) (f b y : List ℕ) (n : ℕ) (b₂ y₂ : List ℕ) (c : NodeCall p f b y (Ok n) b₂ y₂) where
  abbrev told : Reply
  told = reply_to (kind_of f) (body_of f) (records_of p b)

  pub replied_frame : take n y₂ ≡ frame_of (replying (header_in f) told.kind) told.body
  unfolding answered sends
  replied_frame =
      let t = (calls.replied_is p f b y n b₂ y₂ c).1 in
      let h = replying (header_in f) told.kind in
      let e : replied n ≡ replied (framed h.version (length told.body)) = ap (λ (o : ServedOutcome). o.answer) t in
      let l : n ≡ framed h.version (length told.body) = cc in
      cut_off (frame_of h told.body) y y₂ n (ap (λ (o : ServedOutcome). o.reply) t) (l ∙ sym (built.length_frame h told.body))

  pub replied_ask : Octets f → ask_of (take n y₂) ≡ ask_of f
  replied_ask o =
      let long = (request_is p (node_of b) f (calls.clear p f b y (calls.replied_is p f b y n b₂ y₂ c).0).request).frame_is.low in
      let small : ask_of f < 256 ^ 8 =
      subst (λ (k : ℕ). ask_of f < 256 ^ k) (length_part f 7 8 (omega arith)) (num_small (part f 7 8) (bytes_part f 7 8 (bytes_all f o))) in
      ap ask_of replied_frame ∙ built.ask_frame (replying (header_in f) told.kind) told.body small
