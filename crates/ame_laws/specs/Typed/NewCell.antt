-- The cell that a step allocates, if the types of all locations are given.
use Rattle.std.specs.Prelude.{◌≡◌, ℕ, List, Some}
use Rattle.ame_term.specs.Tree.{Typ, Val, Tree}
use Rattle.ame_term.specs.Signature.{Signature}
use Rattle.ame_term.specs.Frame.{Frame, plug_all}
use Rattle.ame_term.specs.HasType.{HasValue}
use Rattle.ame_term.specs.Maps.{at}
use Rattle.ame_term.specs.State.{State}
use Rattle.ame_term.specs.declared.semantics.StepKind.{StepKind}
use Rattle.ame_term.specs.declared.semantics.Label.{Label}
use Rattle.ame_term.specs.declared.types.Loc.{Loc}
use Rattle.ame_term.specs.declared.types.Sort.{Sort}
use Rattle.ame_term.specs.declared.types.TyNo.{TyNo}
use Rattle.ame_term.specs.declared.types.Unary.TheVariants as unary
use Rattle.ame_laws.specs.Typed.StoreTyping.{StoreTyping}

-- the location that a term's step makes, if it makes one, has the sort and the value's type
abbrev pub HasNewCell : Signature → StoreTyping → StepKind → Tree → Type 0
HasNewCell signature cells kind term =
    (l : Loc) (frames : List Frame) (sort : Sort) (number : TyNo) (v : Val) → kind ≡ StepKind.Alloc l → term ≡ plug_all frames (Tree.One (unary.Ref sort number) (Tree.Held v))
    → (content : Typ) × (cells l.0 ≡ Some (sort, content)) × HasValue signature cells v content

-- the same of a member's step
abbrev pub HasNewCellOf : Signature → StoreTyping → State → StepKind → ℕ → Type 0
HasNewCellOf signature cells s kind i = (term : Tree) → at s.members i ≡ Some term → HasNewCell signature cells kind term

-- the same of the step that a label is
abbrev pub HasNewCellAfter : Signature → StoreTyping → State → Label → Type 0
HasNewCellAfter signature cells s (Label.Step kind) = (i : ℕ) → s.active ≡ Some i → HasNewCellOf signature cells s kind i
HasNewCellAfter signature cells s (Label.Free i kind) = HasNewCellOf signature cells s kind i
HasNewCellAfter signature cells s _ = Unit {0}
