-- The views of a `Play`, of `Notes` and of a `Run` in contracts.
use Rattle.std.specs.Prelude.{ℕ, Bool, List}
use Rattle.std.specs.BTreeSet.{contains}
use Rattle.std.specs.Ordering.{nat_cmp}
use Rattle.ame_term.specs.View.{tree_of}
use Rattle.ame_weak.specs.View.{weak_of}
use Rattle.ame_runner.specs.Play.{PlayView}
use Rattle.ame_runner.specs.Run.{CourseView}
use Rattle.ame_weak.specs.declared.tries.Try.{Try}
use Rattle.ame_runner.specs.declared.play.Play.{Play}
use Rattle.ame_runner.specs.declared.notes.Notes.{Notes}
use Rattle.ame_runner.specs.declared.run.Run.{Run}

abbrev pub play_of : Play → PlayView
play_of p = record {
  program = tree_of p.accepted.now.program.term;
  labels = p.labels.items;
  weak = weak_of p.state;
  above = p.above;
  settled = p.settled;
}

-- the tries so far, in order
abbrev pub tries_made : Notes → List Try
tries_made n = n.tries.items

-- whether a member is put aside
abbrev pub aside_of : Notes → ℕ → Bool
aside_of n = contains nat_cmp n.aside

abbrev pub run_of : Run → CourseView
run_of r = record {
  play = play_of r.play;
  tries = tries_made r.notes;
  aside = aside_of r.notes;
  left = r.left.items;
  above = r.above;
  turns = r.turns;
  limit = r.limit;
}
