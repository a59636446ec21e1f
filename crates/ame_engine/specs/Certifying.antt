-- A note that was looked for, as a certificate.
use Rattle.std.specs.Prelude.{ℕ, List, [], ◌∷◌, Option, Some, None}
use Rattle.ame_journal.specs.declared.entry.Entry.{Entry}
use Rattle.ame_journal.specs.declared.certificate.Certificate.{Certificate}
use Rattle.ame_protocol.specs.Event.Causes.{certificate_of}

-- Returns the certificate of a member's note, if there is one.
abbrev pub certified_by : ℕ → Option Entry → List Certificate
certified_by number None = []
certified_by number (Some note) = certificate_of number note ∷ []
