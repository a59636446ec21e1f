-- The first read that isn't valid is one, whatever the values of the cells.
use Rattle.std.proofs.Common.{◌≡◌, ℕ, List, [], ◌∷◌, ◌++◌, map, Option, Some, None, option_map, IsSomeAnd, sym, ap, ◌∙◌, subst}
use Rattle.std.specs.Prelude.{slice_get}
use Rattle.std.proofs.lemmas.Option.{slice_get-map}
use Rattle.std.proofs.lemmas.List.Elements.{All-head, All-tail}
use Rattle.ame_term.specs.Tree.{Val}
use Rattle.ame_store.specs.declared.cell.Cell.{Cell}
use Rattle.ame_rows.specs.declared.notes.ReadNote.{ReadNote}
use Rattle.ame_rows.specs.declared.notes.Bad.{Bad}
use Rattle.ame_rows.specs.Valid.{IsValidAt, IsValidRead, IsValid, IsFirstBad, note_of}
use Rattle.ame_protocol.specs.Row.Shown.{shown_cell}
use Rattle.ame_engine.proofs.CheckLemmas.{valid-shown}

-- A first invalid read is so at the shown cells.

module _ {V : Type 0} (view : V → Val) (cells : List (Cell V)) (seat : ℕ) where
  by-valid : (n : ℕ) (o : Option (Cell V)) → IsSomeAnd (option_map (shown_cell view) o) (IsValidAt seat n) → IsSomeAnd o (IsValidAt seat n)
  by-valid n None h = h
  by-valid n (Some cell) h = record { unowned = h.unowned; live = h.live; same = h.same }

  one-valid : (note : ReadNote) → IsValidRead (map (shown_cell view) cells) seat note → IsValidRead cells seat note
  one-valid note h =
      by-valid note.number (slice_get cells note.loc.0)
      (subst (λ (o : Option (Cell Val)). IsSomeAnd o (IsValidAt seat note.number)) (slice_get-map (shown_cell view) cells note.loc.0) h)

  by-now : (n : ℕ) (o : Option (Cell V)) → IsSomeAnd o (λ cell. n ≡ cell.number) → IsSomeAnd (option_map (shown_cell view) o) (λ cell. n ≡ cell.number)
  by-now n None h = h
  by-now n (Some cell) h = h

  pub bad-shown : (reads : List ReadNote) (bad : Bad) → IsFirstBad cells seat reads bad → IsFirstBad (map (shown_cell view) cells) seat reads bad
  bad-shown reads bad h = record {
    before = h.before;
    after = h.after;
    log = h.log;
    valid_before = valid-shown view cells seat h.before h.valid_before;
    invalid = λ valid. h.invalid (one-valid (note_of bad) valid);
    now = subst (λ (o : Option (Cell Val)). IsSomeAnd o (λ cell. bad.now ≡ cell.number)) (sym (slice_get-map (shown_cell view) cells bad.loc.0))
        (by-now bad.now (slice_get cells bad.loc.0) h.now);
  }

-- There is one.

module _ {V : Type 0} (cells : List (Cell V)) (seat : ℕ) where
  same-now : (a b : ℕ) (o : Option (Cell V)) → IsSomeAnd o (λ cell. a ≡ cell.number) → IsSomeAnd o (λ cell. b ≡ cell.number) → a ≡ b
  same-now a b None h i = absurd h
  same-now a b (Some cell) h i = h ∙ sym i

  same-bad : (a b : Bad) → note_of a ≡ note_of b → IsSomeAnd (slice_get cells a.loc.0) (λ cell. a.now ≡ cell.number)
      → IsSomeAnd (slice_get cells b.loc.0) (λ cell. b.now ≡ cell.number) → a ≡ b
  same-bad a b same x y =
      let loc : a.loc ≡ b.loc = ap (λ (n : ReadNote). n.loc) same in
      let read : a.read ≡ b.read = ap (λ (n : ReadNote). n.number) same in
      let there : IsSomeAnd (slice_get cells a.loc.0) (λ cell. b.now ≡ cell.number) =
      subst (λ l. IsSomeAnd (slice_get cells l.0) (λ cell. b.now ≡ cell.number)) (sym loc) y in
      let now : a.now ≡ b.now = same-now a.now b.now (slice_get cells a.loc.0) x there in
      ap (λ l. let x : Bad = record { loc = l; read = a.read; now = a.now } in x) loc
      ∙ ap (λ n. let x : Bad = record { loc = b.loc; read = n; now = a.now } in x) read
      ∙ ap (λ n. let x : Bad = record { loc = b.loc; read = b.read; now = n } in x) now

  same-note : (a b : ReadNote) (before others after more : List ReadNote) → before ++ a ∷ after ≡ others ++ b ∷ more → IsValid cells seat before
      → IsValid cells seat others → (IsValidRead cells seat a → ⊥) → (IsValidRead cells seat b → ⊥) → a ≡ b
  same-note a b [] [] after more e v w x y = cc
  same-note a b [] (n ∷ ns) after more e v w x y =
      absurd (x (let same : a ≡ n = cc in subst (IsValidRead cells seat) (sym same) (All-head (IsValidRead cells seat) n ns w)))
  same-note a b (m ∷ ms) [] after more e v w x y =
      absurd (y (let same : m ≡ b = cc in subst (IsValidRead cells seat) same (All-head (IsValidRead cells seat) m ms v)))
  same-note a b (m ∷ ms) (n ∷ ns) after more e v w x y =
      let rest : ms ++ a ∷ after ≡ ns ++ b ∷ more = cc in
      same-note a b ms ns after more rest (All-tail (IsValidRead cells seat) m ms v) (All-tail (IsValidRead cells seat) n ns w) x y

  pub one-bad : (reads : List ReadNote) (a b : Bad) → IsFirstBad cells seat reads a → IsFirstBad cells seat reads b → a ≡ b
  one-bad reads a b h i =
      same-bad a b (same-note (note_of a) (note_of b) h.before i.before h.after i.after (sym h.log ∙ i.log) h.valid_before i.valid_before h.invalid i.invalid)
      h.now i.now
