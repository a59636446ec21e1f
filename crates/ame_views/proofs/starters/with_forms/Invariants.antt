-- The starters of the tasks so far.
use Rattle.std.proofs.Common.{◌≡◌, List, length, map, take}
use Rattle.ame_journal.specs.declared.entry.Entry.{Entry}
use Rattle.ame_views.specs.Begun.{TellsBegun, TellsAllBegun, TellsForm}
use Rattle.ame_views.proofs.FormLemmas.{AreForms}
use Rattle.ame_views.proofs.starters.with_forms.Given as goal

abbrev pub invariant-loop-index : goal.invariant-loop-index
invariant-loop-index l = record {
  count : length l.starters.items ≡ l.index;
  entries : map (λ s. s.entry) l.starters.items ≡ take l.index l.led.starters.items;
  forms : (entries : List Entry) → TellsBegun l.code entries l.led.begun.entries → TellsAllBegun l.code entries (length l.led.starters.items) l.led.begun.entries
      → AreForms (TellsForm l.lines.text.now l.code entries) l.starters.items;
}
