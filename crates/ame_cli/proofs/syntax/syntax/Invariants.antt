use Rattle.std.proofs.Common.{◌≡◌, drop}
use Rattle.std.specs.List.{fold}
use Rattle.clap.specs.Words.{app_of}
use Rattle.ame_cli.specs.Syntax.{syntax, with_verb}
use Rattle.ame_cli.proofs.syntax.syntax.Given as goal

-- with the verbs that are left it comes to the whole
abbrev pub invariant-loop-verb : goal.invariant-loop-verb
invariant-loop-verb l = fold with_verb (app_of l.all) (drop l.verb-index l.verb-items) ≡ syntax
