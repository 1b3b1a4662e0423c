-- The sessions that the library makes. Document 01, "The client": a session is a value handed in and handed back. An accepted opening makes
-- one; each reply call makes the next, from the session and the desk as the call before left them.
--   last_session last_desk last_item   what the last of some calls left
-- Assumes nothing.
use Rattle.std.specs.Prelude.{ℕ, List, [], ◌∷◌}
use Rattle.session.specs.declared.Session.{Session}
use Rattle.client.specs.Turns.{Turn}

abbrev pub last_session : Session → List Turn → Session
last_session s [] = s
last_session s (c ∷ cs) = last_session c.took.session cs

abbrev pub last_desk : List ℕ → List Turn → List ℕ
last_desk d [] = d
last_desk d (c ∷ cs) = last_desk c.desk_left cs

-- of one call or more
abbrev pub last_item : Turn → List Turn → List ℕ
last_item c [] = c.item_left
last_item c (e ∷ cs) = last_item e cs
