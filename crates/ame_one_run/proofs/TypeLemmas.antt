-- A program that the table accepts is Unit under protected.
use Rattle.std.proofs.Common.{◌≡◌, ℕ, List, None, Ok, ap, ◌∙◌}
use Rattle.std.specs.Prelude.{slice_index}
use Rattle.ame_term.specs.Tree.{Typ, Tree}
use Rattle.ame_term.specs.Signature.{unlisted}
use Rattle.ame_term.specs.Scope.{unscoped}
use Rattle.ame_term.specs.Typing.{typed, want_unit, no_cells, typing}
use Rattle.ame_term.specs.HasType.{HasType}
use Rattle.ame_term.specs.declared.types.Effect.{Effect}
use Rattle.ame_laws.proofs.Tests.{then-gave, want_unit-gave}
use Rattle.ame_laws.proofs.Sound.{sound}

pub typing-unit : (devices : ℕ) (places : List ℕ) (tree : Tree) → typing devices places tree ≡ Ok Typ.Unit →
    HasType (unlisted devices) (λ l. None) unscoped Effect.Protected tree Typ.Unit
typing-unit devices places tree e =
    let given = then-gave (typed devices no_cells (slice_index places) unscoped Effect.Protected 0 tree)
    (λ t. want_unit (slice_index places 0) t (Ok Typ.Unit)) Typ.Unit e in
    let unit = want_unit-gave (slice_index places 0) given.0 (Ok Typ.Unit) Typ.Unit given.2 in
    sound devices no_cells (slice_index places) unscoped Effect.Protected 0 tree Typ.Unit (given.1 ∙ ap Ok unit.0)
