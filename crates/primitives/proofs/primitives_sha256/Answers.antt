use Rattle.primitives.proofs.Laws.{done, hash_is}
use Rattle.octets.proofs.Meaning.{put_whole}
use Rattle.sha256.proofs.Laws.{sha256_length}
use mathlib.Core.Path.{sym, ◌∙◌}
use native.Mathlib.Omega.{arith}
use Rattle.primitives.proofs.primitives_sha256.Goals as goal

pub digest_into-requires : goal.digest_into-requires
digest_into-requires c = let h = hash_is _ _ _ (sym c.hash_fits.ensures ∙ c.if-not-hash_fits.false) in (h.0, omega arith)

pub returns : goal.returns
returns c = let e = sym c.hash_fits.ensures ∙ c.if-not-hash_fits.false in done _ _ _ e (c.digest_into.ensures ∙ put_whole _ _ ((hash_is _ _ _ e).1 ∙ sym (sha256_length _)))
