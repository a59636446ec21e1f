-- The parts of a `do` form, as the items of its vector.
use Rattle.std.proofs.Common.{◌≡◌, ap, ◌∙◌, refl, map, Vec, Global}
use mathlib.Core.Former.{Count}
use Rattle.ame_term.specs.declared.term.Term.{Term, Do, Do', Row_of-Term, end_of-Term, more_of-Term, items-the_row-Term, items_hidden-the_row-Term-0}
use Rattle.ame_term.specs.Tree as tree
use Rattle.ame_term.specs.View.{tree_of, row_of}
use Rattle.ame_parse.specs.Forms.{row}

row_of-items : (n : _) (parts : Row_of-Term n) → row_of parts ≡ row (map tree_of (items-the_row-Term n parts))
row_of-items n end_of-Term = refl
row_of-items n (more_of-Term part rest) = ap (tree.Trees.More (tree_of part)) (row_of-items _ rest)

abbrev parts_of : Term → (n : Count) × Row_of-Term n
parts_of (Do' _ parts) = (_, parts)
parts_of _ = (_, end_of-Term)

pub tree_of_do : (parts : Vec Term Global) → tree_of (Do parts) ≡ tree.Tree.Do (row (map tree_of parts.items))
tree_of_do parts =
    let found = parts_of (Do parts) in
    ap tree.Tree.Do (row_of-items found.0 found.1 ∙ ap (λ items. row (map tree_of items)) (items_hidden-the_row-Term-0 parts))
