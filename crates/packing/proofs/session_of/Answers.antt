use Rattle.std.proofs.Common.{◌≡◌, ◌∙◌, ap, sym, rules, length}
use Rattle.packing.specs.SessionBytes.{session_shaped}
use Rattle.packing.proofs.Laws as laws
use Rattle.packing.proofs.session_of.Goals as goal
use Rattle.packing.proofs.session_of.Goals.{in-Some+else-session_shaped, in_default}

pub returns : goal.returns
returns c =
    elim c.match-as_array.branch [
      | in-Some+else-session_shaped w ↦
          let same : w.in-Some.b.now ≡ c.args.x.now = search rules in
          laws.no_code _ _ c.none.ensures (sym (w.session_shaped.ensures ∙ ap session_shaped same) ∙ w.if-session_shaped.false)
      | in_default w ↦ let short : length c.args.x.now ≡ 237 → ⊥ = search rules in laws.no_code _ _ c.none.ensures (laws.not_long _ short)
    ]
