-- A row keeps what it owes under what others do.
use Rattle.std.proofs.Common.{◌≡◌, ℕ, ◌+◌, ◌<◌, ◌≤◌, List, Option, Some, None, MatchOption, All, refl, sym, ap, ◌∙◌, subst, arith}
use Rattle.std.proofs.lemmas.List.Elements.{All-contains, All-weaker}
use Rattle.ame_term.specs.Tree.{Val}
use Rattle.ame_term.specs.Maps.{at}
use Rattle.ame_store.specs.declared.cell.Cell.{Cell}
use Rattle.ame_store.specs.Cells.{IsOwnedBy, IsDead}
use Rattle.ame_rows.specs.declared.notes.ReadNote.{ReadNote}
use Rattle.ame_rows.specs.declared.notes.Undo.{Undo}
use Rattle.ame_rows.specs.declared.notes.Undo.TheVariants.{Wrote, Made}
use Rattle.ame_rows.specs.Valid.{IsValidAt}
use Rattle.ame_machine.specs.Run.Local.{LocalState}
use Rattle.ame_protocol.specs.Row.Heap.{Heap, cell_at, IsCell, IsLive}
use Rattle.ame_protocol.specs.Row.SeatRun.{SeatRun, IsValidNote, AreValid}
use Rattle.ame_protocol.specs.Row.Given.{IsHeld, IsLogged, IsOwnNewCell, IsGiven}
use Rattle.ame_protocol.specs.Row.UndoLog.{IsUndo, IsUndoLog}
use Rattle.ame_protocol.specs.Row.Owes.{IsNote, Owes}
use Rattle.ame_protocol.specs.Row.Framed.{IsChangedByOthers, IsFramedAt, IsFramed}
use Rattle.ame_protocol.proofs.Row.CellLemmas.{each, owned_cell}

-- a read of a cell that others changed isn't valid
changed-invalid : (seat n : ℕ) (old new : Cell Val) → IsChangedByOthers seat old new → n ≤ old.number → IsValidAt seat n new → ⊥
changed-invalid seat n old new c past v = by new.owner refl c.number v.same
  where
    by : (o : Option ℕ) → new.owner ≡ o → MatchOption o (old.number < new.number) (λ _. old.number ≤ new.number)
        → MatchOption o (new.number ≡ n) (λ owner. (owner ≡ seat) × (new.number ≡ n + 1)) → ⊥
    by None is grew same = omega arith
    by (Some owner) is grew same = c.after (is ∙ ap Some same.0)

module _ (seat : ℕ) (old new : Heap) (f : IsFramed seat old new) where
  -- a read that is valid now was so, and nothing was committed there since
  pub valid-back : (note : ReadNote) → IsNote old note → IsValidNote new seat note → IsValidNote old seat note × (new.committed note.loc.0 ≡ old.committed note.loc.0)
  valid-back note known v = by (f.places note.loc.0)
    where
      by : IsFramedAt seat old new note.loc.0 → IsValidNote old seat note × (new.committed note.loc.0 ≡ old.committed note.loc.0)
      by (IsFramedAt.stays same committed) = (subst (IsValidAt seat note.number) same v, committed)
      by (IsFramedAt.changed c) = absurd (changed-invalid seat note.number (cell_at old note.loc.0) (cell_at new note.loc.0) c known.past v)
      by (IsFramedAt.born none apart) = absurd (none known.there)

  pub all-valid-back : (reads : List ReadNote) → All (IsNote old) reads → AreValid new seat reads → AreValid old seat reads
  all-valid-back reads notes valid = λ k d below. (valid-back _ (notes k d below) (valid k d below)).0

  -- what the seat owns stays
  pub own-stays : (l : ℕ) → IsOwnedBy seat (cell_at old l) → (cell_at new l ≡ cell_at old l) × (new.committed l ≡ old.committed l)
  own-stays l own = by (f.places l)
    where
      by : IsFramedAt seat old new l → (cell_at new l ≡ cell_at old l) × (new.committed l ≡ old.committed l)
      by (IsFramedAt.stays same committed) = (same, committed)
      by (IsFramedAt.changed c) = absurd (c.before own)
      by (IsFramedAt.born none apart) = absurd (none (owned_cell old seat l own))

  pub own-back : (l : ℕ) → IsOwnedBy seat (cell_at new l) → IsOwnedBy seat (cell_at old l)
  own-back l own = by (f.places l)
    where
      by : IsFramedAt seat old new l → IsOwnedBy seat (cell_at old l)
      by (IsFramedAt.stays same committed) = subst (IsOwnedBy seat) same own
      by (IsFramedAt.changed c) = absurd (c.after own)
      by (IsFramedAt.born none apart) = absurd (apart own)

  logged-kept : (reads : List ReadNote) → All (IsNote old) reads → (e : ℕ × Val) → IsLogged old seat reads e → IsLogged new seat reads e
  logged-kept reads notes e h = record {
    note = h.note;
    logged = h.logged;
    place = h.place;
    given = λ v.
        let back = valid-back h.note (All-contains (IsNote old) reads h.note notes h.logged) v in
        ap new.committed (sym h.place) ∙ back.1 ∙ ap old.committed h.place ∙ h.given back.0;
  }

  made-kept : (e : ℕ × Option Val) → IsOwnNewCell old seat e → IsOwnNewCell new seat e
  made-kept e h =
      let same = (own-stays e.0 h.own).0 in
      record { own = subst (IsOwnedBy seat) (sym same) h.own; dead = subst IsDead (sym same) h.dead; unset = h.unset }

  held-kept : (l : ℕ) (o : Option Val) → IsHeld seat (cell_at old l) o → IsHeld seat (cell_at new l) o
  held-kept l None h = λ own. h (own-back l own)
  held-kept l (Some v) h = subst (λ (c : Cell Val). IsHeld seat c (Some v)) (sym (own-stays l h.0).0) h

  pub given-kept : (reads : List ReadNote) (p : LocalState) → All (IsNote old) reads → IsGiven old seat reads p → IsGiven new seat reads p
  given-kept reads p notes h = record {
    seen = each (IsLogged old seat reads) (IsLogged new seat reads) (logged-kept reads notes) p.seen h.seen;
    own = h.own;
    made = each (IsOwnNewCell old seat) (IsOwnNewCell new seat) made-kept p.made h.made;
    sets = λ l. held-kept l (at p.sets l) (h.sets l);
  }

  undo-kept : (u : Undo Val) → IsUndo old seat u → IsUndo new seat u
  undo-kept (Wrote l number value) h =
      let s = own-stays l.0 h.0 in
      (subst (IsOwnedBy seat) (sym s.0) h.0, ap (λ (c : Cell Val). c.number) s.0 ∙ h.1, λ live. s.1 ∙ h.2 (subst IsLive s.0 live))
  undo-kept (Made l) h =
      let s = own-stays l.0 h.0 in
      (subst (IsOwnedBy seat) (sym s.0) h.0, ap (λ (c : Cell Val). c.number) s.0 ∙ h.1, subst IsDead (sym s.0) h.2)

  pub undos-kept : (undos : List (Undo Val)) → IsUndoLog old seat undos → IsUndoLog new seat undos
  undos-kept undos h = record {
    once = h.once;
    entries = All-weaker (IsUndo old seat) (IsUndo new seat) undo-kept undos h.entries;
    named = λ l own. h.named l (own-back l own);
  }

  -- a number that hasn't fallen
  risen : (n : ℕ) (c d : Cell Val) (o : Option ℕ) → MatchOption o (c.number < d.number) (λ _. c.number ≤ d.number) → n ≤ c.number → n ≤ d.number
  risen n c d None grew past = omega arith
  risen n c d (Some owner) grew past = omega arith

  note-kept : (note : ReadNote) → IsNote old note → IsNote new note
  note-kept note h = by (f.places note.loc.0)
    where
      longer : IsCell new note.loc.0
      longer = let there : IsCell old note.loc.0 = h.there in let more = f.longer in omega arith

      by : IsFramedAt seat old new note.loc.0 → IsNote new note
      by (IsFramedAt.stays same committed) = record {
        there = longer;
        past = subst (λ (c : Cell Val). note.number ≤ c.number) (sym same) h.past;
        sort = ap (λ (c : Cell Val). c.sort) same ∙ h.sort;
      }
      by (IsFramedAt.changed c) = record {
        there = longer;
        past = risen note.number (cell_at old note.loc.0) (cell_at new note.loc.0) (cell_at new note.loc.0).owner c.number h.past;
        sort = c.sort ∙ h.sort;
      }
      by (IsFramedAt.born none apart) = absurd (none h.there)

  pub notes-kept : (reads : List ReadNote) → All (IsNote old) reads → All (IsNote new) reads
  notes-kept reads h = All-weaker (IsNote old) (IsNote new) note-kept reads h

  pub owes-kept : (run : SeatRun) → Owes old seat run → Owes new seat run
  owes-kept run o = record {
    given = λ n p h. given-kept run.reads p o.notes (o.given n p h);
    undos = undos-kept run.undos o.undos;
    notes = notes-kept run.reads o.notes;
  }
