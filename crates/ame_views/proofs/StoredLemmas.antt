-- Rows of cells, one after another.
use Rattle.std.proofs.Common.{◌≡◌, ℕ, ◌+◌, ◌<◌, arith, List, ◌∷◌, ◌++◌, drop, Some, sym, ap, ◌∙◌, append_assoc}
use Rattle.std.specs.Prelude.{slice_get}
use Rattle.std.proofs.lemmas.List.{drop_more}
use Rattle.std.proofs.lemmas.Option.{slice_get_within, get_or_from_slice_get}
use Rattle.ame_store.specs.declared.cell.Cell.{Cell}
use Rattle.ame_value.specs.declared.val.Val.{Val}
use Rattle.ame_value.specs.declared.val.PairVal.{PairVal}
use Rattle.ame_value.specs.FlatValue.{FlatValue, first_part, second_part}
use Rattle.ame_value.specs.View.{pair_value}
use Rattle.ame_why.specs.declared.position.Position.{Position}
use Rattle.ame_views.specs.declared.forms.Created.{Created}
use Rattle.ame_views.specs.Stored.{stored_row, stored_rows}
use Rattle.ame_views.specs.Trace.{made_from, made_there}

-- a page before which rows are left, and one with the next row
pub cells_go_on : (places : List Position) (whole page new : List ℕ) (cells : List (Cell Val)) (i : ℕ) (cell : Cell Val) → slice_get cells i ≡ Some cell →
    page ++ stored_rows places i (drop i cells) ≡ whole → new ≡ page ++ stored_row places i cell →
    new ++ stored_rows places (i + 1) (drop (i + 1) cells) ≡ whole
unfolding stored_rows
cells_go_on places whole page new cells i cell is left added =
    let rest = stored_rows places (i + 1) (drop (i + 1) cells) in
    let next : drop i cells ≡ cell ∷ drop (i + 1) cells =
    drop_more cells i cell (slice_get_within cells i cell is) ∙ ap (λ x. x ∷ drop (i + 1) cells) (get_or_from_slice_get cells i cell cell is) in
    ap (λ t. t ++ rest) added ∙ append_assoc page (stored_row places i cell) rest ∙ sym (ap (λ xs. page ++ stored_rows places i xs) next) ∙ left

-- how many parts a value has
abbrev pub parts : FlatValue → ℕ
parts (FlatValue.Pair first second height) = 1 + parts first + parts second
parts _ = 0

pub first_falls : (v w : FlatValue) (p : PairVal) → v ≡ pair_value p → w ≡ first_part (pair_value p) → parts w < parts v
first_falls v w p whole part = let all = ap parts whole in let one = ap parts part in omega (arith, all, one)

pub second_falls : (v w : FlatValue) (p : PairVal) → v ≡ pair_value p → w ≡ second_part (pair_value p) → parts w < parts v
second_falls v w p whole part = let all = ap parts whole in let one = ap parts part in omega (arith, all, one)

-- the locations of cells so far, with the next one
pub made-goes-on : (whole made new : List Created) (cells : List (Cell Val)) (i : ℕ) (cell : Cell Val) → slice_get cells i ≡ Some cell →
    made ++ made_from i (drop i cells) ≡ whole → new ≡ made ++ made_there i cell → new ++ made_from (i + 1) (drop (i + 1) cells) ≡ whole
unfolding made_from
made-goes-on whole made new cells i cell is left added =
    let rest = made_from (i + 1) (drop (i + 1) cells) in
    let next : drop i cells ≡ cell ∷ drop (i + 1) cells =
    drop_more cells i cell (slice_get_within cells i cell is) ∙ ap (λ (x : Cell Val). x ∷ drop (i + 1) cells) (get_or_from_slice_get cells i cell cell is) in
    ap (λ (t : List Created). t ++ rest) added ∙ append_assoc made (made_there i cell) rest ∙ sym (ap (λ (xs : List (Cell Val)). made ++ made_from i xs) next) ∙ left
