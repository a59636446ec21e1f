-- The loop stops at the first read that isn't valid.
use Rattle.std.proofs.Common.{◌≡◌, arith, refl, ap, ◌∙◌, subst, get_or}
use Rattle.std.proofs.lemmas.List.{take_all}
use Rattle.std.proofs.lemmas.List.Elements.{All-more}
use Rattle.ame_rows.specs.declared.notes.ReadNote.{ReadNote}
use Rattle.ame_rows.specs.Valid.{IsValid, IsValidRead, IsFirstBad}
use Rattle.ame_rows.proofs.ValidLemmas.{IsFirstBad-found, IsValidRead-at}
use Rattle.ame_rows.proofs.row.Row.valid.Goals as goal

pub returns-then-not-is_valid-clause-bad : goal.returns-then-not-is_valid-clause-bad
returns-then-not-is_valid-clause-bad g c =
    let items = c.deref-note-items.result.now in
    let same : items ≡ c.args.self.now.reads = c.deref-note-items.ensures.value ∙ ap (λ r. r.reads) c.self.view_is in
    let none : ReadNote = record { loc = record { 0 = 0 }; number = 0 } in
    let note : ReadNote = get_or items c.loop-note.note-index none in
    subst (λ reads. IsFirstBad c.args.store.now c.args.seat reads (record { loc = note.loc; read = note.number; now = c.cell-cell.result.now.number })) same
    (IsFirstBad-found _ _ items c.loop-note.note-index none (record { loc = note.loc; read = note.number; now = c.cell-cell.result.now.number }) c.cell-cell.result.now
    c.loop-note-test.true c.loop-note.invariant refl c.cell-cell.ensures refl (grind arith))

pub loop-note-preserved : goal.loop-note-preserved
loop-note-preserved g c =
    let items = c.deref-note-items.result.now in
    let none : ReadNote = record { loc = record { 0 = 0 }; number = 0 } in
    All-more (IsValidRead c.args.store.now c.args.seat) items c.loop-note.note-index none c.loop-note-test.true c.loop-note.invariant
    (IsValidRead-at _ _ (get_or items c.loop-note.note-index none) c.cell-cell.result.now c.cell-cell.ensures (grind arith))

pub returns-clause-valid : goal.returns-clause-valid
returns-clause-valid g c =
    let items = c.deref-note-items.result.now in
    let same : items ≡ c.args.self.now.reads = c.deref-note-items.ensures.value ∙ ap (λ r. r.reads) c.self.view_is in (
      λ _. subst (IsValid c.args.store.now c.args.seat) (take_all c.loop-note.note-index items (omega (arith, c.loop-note-test.false)) ∙ same) c.loop-note.invariant,
      λ _. refl,
    )
