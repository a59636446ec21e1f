-- The members that wait when all that are left are blocked.
use Rattle.std.specs.Prelude.{ℕ, List, ◌++◌, codes, decimal}
use Rattle.ame_journal.specs.declared.certificate.Certificate.{Certificate}

-- the member, and the steps after which its condition is false
unfoldable pub wait_line : Certificate → List ℕ
wait_line c = codes "task " ++ decimal c.number ++ codes ": its condition is false after " ++ decimal c.steps ++ codes " steps\n"
