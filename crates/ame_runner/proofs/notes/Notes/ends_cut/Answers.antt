use Rattle.std.proofs.Common.{◌-◌, ◌∙◌, List, length, sym, ap}
use Rattle.std.specs.Prelude.{option_copied}
use Rattle.std.specs.List.{slice_get}
use Rattle.ame_weak.specs.declared.tries.Try.{Try}
use Rattle.ame_runner.specs.View.{tries_made}
use Rattle.ame_runner.proofs.CutLemmas.{cut-yes, cut-no, cut-none}
use Rattle.ame_runner.proofs.notes.Notes.ends_cut.Goals as goal

pub returns-in-Some-clause-yes : goal.returns-in-Some-clause-yes
returns-in-Some-clause-yes c =
    cut-yes (tries_made c.args.self.now) c.in-Some.t.now
    (ap (λ (ts : List Try). slice_get ts (length ts - 1)) (sym c.deref.ensures.value) ∙ sym c.last.ensures.value ∙ ap option_copied c.in-Some.is)

pub returns-in-Some-clause-no : goal.returns-in-Some-clause-no
returns-in-Some-clause-no c =
    cut-no (tries_made c.args.self.now) c.in-Some.t.now
    (ap (λ (ts : List Try). slice_get ts (length ts - 1)) (sym c.deref.ensures.value) ∙ sym c.last.ensures.value ∙ ap option_copied c.in-Some.is)

pub returns-in-None-clause-no : goal.returns-in-None-clause-no
returns-in-None-clause-no c = λ none.
    cut-none (tries_made c.args.self.now)
    (ap (λ (ts : List Try). slice_get ts (length ts - 1)) (sym c.deref.ensures.value) ∙ sym c.last.ensures.value ∙ ap option_copied c.in-None.is)
