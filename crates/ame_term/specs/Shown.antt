-- The faults of typing.
use Rattle.std.specs.Prelude.{ℕ, Result}
use Rattle.ame_term.specs.Tree.{Typ}
use Rattle.ame_term.specs.declared.types.Sort as sorts
use Rattle.ame_term.specs.declared.types.Effect as effects

-- what a fault shows
pub data Shown : Type 0 where
  Nothing : Shown
  Ty : Typ → Shown
  Effect : effects.Effect → Shown
  Sort : sorts.Sort → Shown
  Device : ℕ → Shown

-- a rule that a term breaks, the place, what was found there and what was wanted
pub record TypeFault : Type 0 where
  pub rule : ℕ
  pub place : ℕ
  pub found : Shown
  pub wanted : Shown

-- a term's type, or its first fault
abbrev pub TypeOutcome : Type 0
TypeOutcome = Result Typ TypeFault

-- The rules by their numbers: a part is of another type than the form needs;
abbrev pub type_mismatch : ℕ
type_mismatch = 1

-- what is called is no function;
abbrev pub no_function : ℕ
no_function = 2

-- the form may not stand under this effect;
abbrev pub wrong_effect : ℕ
wrong_effect = 3

-- the reference is of the sort of other code;
abbrev pub wrong_sort : ℕ
wrong_sort = 4

-- what is read or written is no reference;
abbrev pub no_reference : ℕ
no_reference = 5

-- `blockUntil` stands outside of protected code;
abbrev pub misplaced_block : ℕ
misplaced_block = 6

-- `unprotected` stands outside of protected code;
abbrev pub misplaced_unprotected : ℕ
misplaced_unprotected = 7

-- there is no device of this number;
abbrev pub no_device : ℕ
no_device = 8

-- what has no value to give gives one;
abbrev pub not_unit : ℕ
not_unit = 9

-- what is taken apart is no pair.
abbrev pub no_pair : ℕ
no_pair = 11
