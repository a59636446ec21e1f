-- The lines of entries, one entry after another.
use Rattle.std.proofs.Common.{◌≡◌, ℕ, ◌+◌, ◌<◌, ◌≤◌, ℤ, List, [], ◌∷◌, ◌++◌, length, get_or, drop, if◌then◌else◌, sym, ap, ◌∙◌, append_assoc, append-nil}
use Rattle.std.proofs.lemmas.List.{drop_more, drop_all}
use Rattle.ame_journal.specs.declared.entry.Entry.{Entry}
use Rattle.ame_journal.specs.Replayed.{Replayed}
use Rattle.ame_journal.specs.Replay.{replay_entry}
use Rattle.ame_views.specs.Lines.{and_those_behind, lines_from, Prints}

-- the line of the first entry, and those of the others after it
pub line_comes_first : (r t : Replayed) (entry : Entry) (line : List ℤ) (entries : List Entry) → Prints r entry line t →
    lines_from r (entry ∷ entries) ≡ line ∷ lines_from t entries
unfolding lines_from
line_comes_first r _ entry _ entries (Prints.note _ _ e) =
    ap (λ b. if b then [] ∷ lines_from r entries else and_those_behind (λ u. lines_from u entries) r (replay_entry r entry)) e
line_comes_first r t entry _ entries (Prints.made _ _ _ other e) =
    ap (λ b. if b then [] ∷ lines_from r entries else and_those_behind (λ u. lines_from u entries) r (replay_entry r entry)) other
    ∙ ap (λ o. and_those_behind (λ u. lines_from u entries) r o) e

-- lines that are done, and those that are left
pub lines_go_on : (told whole : List (List ℤ)) (r t : Replayed) (entries : List Entry) (i : ℕ) (entry : Entry) (line : List ℤ) → i < length entries →
    told ++ lines_from r (drop i entries) ≡ whole → Prints r (get_or entries i entry) line t →
    (told ++ line ∷ []) ++ lines_from t (drop (i + 1) entries) ≡ whole
lines_go_on told whole r t entries i entry line inside left prints =
    append_assoc told (line ∷ []) (lines_from t (drop (i + 1) entries))
    ∙ sym (ap (λ ls. told ++ ls) (ap (lines_from r) (drop_more entries i entry inside) ∙ line_comes_first r t (get_or entries i entry) line (drop (i + 1) entries) prints))
    ∙ left

-- none is left
pub lines_are_all : (told whole : List (List ℤ)) (r : Replayed) (entries : List Entry) (i : ℕ) → length entries ≤ i →
    told ++ lines_from r (drop i entries) ≡ whole → told ≡ whole
unfolding lines_from
lines_are_all told whole r entries i over left =
    sym (append-nil told) ∙ sym (ap (λ es. told ++ lines_from r es) (drop_all i entries over)) ∙ left
