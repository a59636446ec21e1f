-- A run as one text: its journal, the line `program`, and the program's text.
use Rattle.std.specs.Prelude.{◌≡◌, ◌++◌, ℕ, List, All, codes}
use Rattle.ame_journal.specs.declared.entry.Entry.{Entry}
use Rattle.ame_journal.specs.Text.{text_of, IsSpellable}

-- the input is the lines of these entries, the line `program`, and this text of a program
pub record IsCertificateInput (input : List ℕ) (entries : List Entry) (program : List ℕ) : Type 0 where
  pub spelled : input ≡ text_of entries ++ (codes "program\n" ++ program)
  pub spellable : All IsSpellable entries
