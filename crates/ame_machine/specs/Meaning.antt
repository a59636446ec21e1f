-- The meaning of the code, the values and the machines of a kind.
use Rattle.ame_term.specs.Tree.{Val, Tree}
use Rattle.ame_term.specs.Signature.{Signature}
use Rattle.ame_machine.specs.MachineView.{MachineView}

-- The term of a code's program, and the signature for which it is typed; which values are of a code,
-- and the plain data for which each stands; which machines are, and what each shows.
pub record Meaning (C V M : Type 0) : Type 1 where
  pub program : C → Tree
  pub signature : C → Signature
  pub is_value : C → V → Type 0
  pub value_of : C → V → Val
  pub is_machine : C → M → Type 0
  pub stage : C → M → MachineView
