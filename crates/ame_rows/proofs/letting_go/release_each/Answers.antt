use Rattle.std.proofs.Common.{◌≡◌, ◌+◌, ◌∷◌, Some, slice_get, set, sym, ap, subst, ◌∙◌, drop}
use Rattle.std.proofs.lemmas.List.{drop_more, drop_all}
use Rattle.std.proofs.lemmas.Option.{slice_get_within}
use Rattle.ame_store.specs.Cells.{IsOwnedBy, CanGrow}
use Rattle.ame_store.specs.Changes.{released}
use Rattle.ame_rows.specs.Entries.{named_by}
use Rattle.ame_rows.proofs.LookupLemmas.{all_at}
use Rattle.ame_rows.proofs.LogLemmas.{entry_owned, first_cell}
use Rattle.ame_rows.proofs.LettingGoLemmas.{Releasing, releasing_step, releasing_ends}
use Rattle.ame_rows.proofs.letting_go.release_each.Goals as goal

pub release-requires-clause-location : goal.release-requires-clause-location
release-requires-clause-location g c =
    let cells = c.loop-undo.store in
    let u = c.undo-item.result in
    let rest = drop (c.loop-undo.undo-index + 1) c.args.undos.now in
    let split : drop c.loop-undo.undo-index c.args.undos.now ≡ u ∷ rest =
    drop_more c.args.undos.now c.loop-undo.undo-index u c.loop-undo-test.true ∙ ap (λ x. x ∷ rest) (sym c.undo-item.is) in
    let before = subst (Releasing c.args.seat c.args.store.now cells) split c.loop-undo.invariant in
    let cell = first_cell c.args.seat cells u rest before.log in
    rw c.location.ensures (slice_get_within cells (named_by u) cell.0 cell.1)

pub release-requires-clause-can_grow : goal.release-requires-clause-can_grow
release-requires-clause-can_grow g c = λ x at.
    let cells = c.loop-undo.store in
    let u = c.undo-item.result in
    let rest = drop (c.loop-undo.undo-index + 1) c.args.undos.now in
    let split : drop c.loop-undo.undo-index c.args.undos.now ≡ u ∷ rest =
    drop_more c.args.undos.now c.loop-undo.undo-index u c.loop-undo-test.true ∙ ap (λ y. y ∷ rest) (sym c.undo-item.is) in
    let before = subst (Releasing c.args.seat c.args.store.now cells) split c.loop-undo.invariant in
    let cell = first_cell c.args.seat cells u rest before.log in
    let found : Some cell.0 ≡ Some x = sym cell.1 ∙ ap (slice_get cells) (sym c.location.ensures) ∙ at in
    let same : cell.0 ≡ x = cc in
    let its = subst (IsOwnedBy c.args.seat) same (entry_owned c.args.seat u cell.0 cell.2) in
    all_at (λ y. IsOwnedBy c.args.seat y → CanGrow y) cells c.location.result.0 x (slice_get_within cells c.location.result.0 x at) at before.can_grow its

pub loop-undo-preserved : goal.loop-undo-preserved
loop-undo-preserved g c =
    let cells = c.loop-undo.store in
    let u = c.undo-item.result in
    let rest = drop (c.loop-undo.undo-index + 1) c.args.undos.now in
    let split : drop c.loop-undo.undo-index c.args.undos.now ≡ u ∷ rest =
    drop_more c.args.undos.now c.loop-undo.undo-index u c.loop-undo-test.true ∙ ap (λ x. x ∷ rest) (sym c.undo-item.is) in
    let before = subst (Releasing c.args.seat c.args.store.now cells) split c.loop-undo.invariant in
    let cell = first_cell c.args.seat cells u rest before.log in
    let at = ap (slice_get cells) c.location.ensures ∙ cell.1 in
    let became = c.release.ensures cell.0 at ∙ ap (λ j. set cells j (released cell.0)) c.location.ensures in
    releasing_step c.args.seat c.args.store.now cells c.release.new.self u rest cell.0 before cell.1 (entry_owned c.args.seat u cell.0 cell.2) became

pub returns : goal.returns
returns g c =
    let done = subst (Releasing c.args.seat c.args.store.now c.loop-undo.store)
    (drop_all c.loop-undo.undo-index c.args.undos.now c.loop-undo-test.false) c.loop-undo.invariant in
    releasing_ends c.args.seat c.args.store.now c.loop-undo.store done
