-- Moments show each entry and each try once.
use Rattle.std.proofs.Common.{◌≡◌, ℕ, ◌+◌, List, [], ◌∷◌, ◌++◌, refl, ap, ◌∙◌}
use Rattle.std.specs.List.{flat_map, prefix_len}
use Rattle.std.proofs.lemmas.Grind.{flat_map-append}
use Rattle.std.proofs.lemmas.List.{take-append-drop}
use Rattle.ame_journal.specs.declared.entry.Entry.{Entry}
use Rattle.ame_protocol.specs.declared.types.Tried.{Tried}
use Rattle.ame_drawing.specs.declared.moment.Moment.{Moment}
use Rattle.ame_drawing.specs.Moments.{done_of, is_before, tries_before, tries_left, tries_shown, moments, entry_in, try_in, dones, ShowAll}

no_entries : (tries : List Tried) → flat_map entry_in (tries_shown tries) ≡ []
no_entries [] = refl
no_entries (lost ∷ tries) = no_entries tries

all_tries : (tries : List Tried) → flat_map try_in (tries_shown tries) ≡ tries
all_tries [] = refl
all_tries (lost ∷ tries) = ap (λ ts. lost ∷ ts) (all_tries tries)

entries_come : (n : ℕ) (entries : List Entry) (tries : List Tried) → flat_map entry_in (moments n entries tries) ≡ dones n entries
entries_come n [] tries = no_entries tries
entries_come n (entry ∷ entries) tries =
    let rest = moments (n + 1) entries (tries_left n tries) in
    flat_map-append entry_in (tries_shown (tries_before n tries)) (Moment.Entry (done_of n entry) ∷ rest)
    ∙ ap (λ ds. ds ++ done_of n entry ∷ flat_map entry_in rest) (no_entries (tries_before n tries))
    ∙ ap (λ ds. done_of n entry ∷ ds) (entries_come (n + 1) entries (tries_left n tries))

tries_come : (n : ℕ) (entries : List Entry) (tries : List Tried) → flat_map try_in (moments n entries tries) ≡ tries
tries_come n [] tries = all_tries tries
tries_come n (entry ∷ entries) tries =
    let rest = moments (n + 1) entries (tries_left n tries) in
    flat_map-append try_in (tries_shown (tries_before n tries)) (Moment.Entry (done_of n entry) ∷ rest)
    ∙ ap (λ ts. ts ++ flat_map try_in rest) (all_tries (tries_before n tries))
    ∙ ap (λ ts. tries_before n tries ++ ts) (tries_come (n + 1) entries (tries_left n tries))
    ∙ take-append-drop (prefix_len (is_before n) tries) tries

pub all_shown : (entries : List Entry) (tries : List Tried) → ShowAll entries tries (moments 1 entries tries)
all_shown entries tries = record { each_entry = entries_come 1 entries tries; each_try = tries_come 1 entries tries }
