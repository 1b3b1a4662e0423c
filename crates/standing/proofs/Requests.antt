-- Laws of the frames that a round asks with. Assumes nothing.
use Prim.Native.Nat.{ℕ}
use mathlib.Core.Path.{◌≡◌, sym, ap, ◌∙◌}
use mathlib.Core.List.{List, []}
use lib.ListN.{length}
use Rattle.octets.specs.Bytes.{over, be}
use Rattle.terms.specs.Stamp.{stamp_number}
use Rattle.terms.specs.declared.Timestamp.{Timestamp}
use Rattle.frame.specs.declared.Header.{Header}
use Rattle.frame.specs.Frame.{frame, read_latest_kind, read_previous_kind, frame_of, Wrote}
use Rattle.frame.proofs.Built.{length_frame}
use Rattle.std.proofs.Common.{Option, None, Some}
use Rattle.standing.specs.Standing.{read_request}

-- a frame that was written, and its length
pub the_same : (want got old new : List ℕ) (n : ℕ) → want ≡ got → (new ≡ over got old) × (n ≡ length got) → (new ≡ over want old) × (n ≡ length want)
the_same want got old new n w e = (e.0 ∙ ap (λ (f : List ℕ). over f old) (sym w), e.1 ∙ ap length (sym w))

pub sent : (want : List ℕ) (h : Header) (body old : List ℕ) (n : ℕ) (new : List ℕ) → want ≡ frame_of h body → Wrote h body old n new → (new ≡ over want old) × (n ≡ length want)
sent want h body old n new w q = the_same want (frame_of h body) old new n w (q.bytes, q.told ∙ sym (length_frame h body))

module _ (b : Option Timestamp) (node ask : ℕ) where
  pub read_latest : b ≡ None → read_request b node ask ≡ frame read_latest_kind node ask []
  unfolding read_request
  read_latest e = rw e

  pub read_previous : (u : Timestamp) → b ≡ Some u → read_request b node ask ≡ frame read_previous_kind node ask (be 40 (stamp_number u))
  unfolding read_request
  read_previous u e = rw e
