use Rattle.ame_machine_cases.specs.Alone.{IsAlone}
use Rattle.ame_machine_cases.proofs.wants.all_wants.Given as goal

abbrev pub invariant-wants : goal.invariant-wants
invariant-wants g l = IsAlone l.code l.lone
