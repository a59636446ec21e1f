-- Moments: the entries of a run's journal, and the tries that left none, in one row, as a picture by tasks shows them.
use Rattle.std.specs.Prelude.{◌≡◌, ℕ, ◌+◌, Bool, nat_lt, List, [], ◌∷◌, ◌++◌, map, take, drop}
use Rattle.std.specs.List.{flat_map, prefix_len}
use Rattle.ame_journal.specs.declared.entry.Entry.{Entry}
use Rattle.ame_protocol.specs.declared.types.Tried.{Tried}
use Rattle.ame_drawing.specs.declared.moment.Done.{Done}
use Rattle.ame_drawing.specs.declared.moment.Moment.{Moment}

-- what is shown of entry n
abbrev pub done_of : ℕ → Entry → Done
done_of n entry = record { entry = n; kind = entry.kind; seat = entry.seat; fragment = entry.number; steps = entry.steps }

-- whether a try was valid before entry n
abbrev pub is_before : ℕ → Tried → Bool
is_before n lost = nat_lt lost.at n

-- the first tries, as far as these were valid before entry n, and the later tries
abbrev pub tries_before : ℕ → List Tried → List Tried
tries_before n tries = take (prefix_len (is_before n) tries) tries

abbrev pub tries_left : ℕ → List Tried → List Tried
tries_left n tries = drop (prefix_len (is_before n) tries) tries

abbrev pub tries_shown : List Tried → List Moment
tries_shown tries = map Moment.Try tries

-- the moments of entries, from entry n on, and of tries between them; each try comes after the entries after which it was last valid
abbrev pub moments : ℕ → List Entry → List Tried → List Moment
moments n [] tries = tries_shown tries
moments n (entry ∷ entries) tries = tries_shown (tries_before n tries) ++ Moment.Entry (done_of n entry) ∷ moments (n + 1) entries (tries_left n tries)

-- the entry that a moment is, or the try
abbrev pub entry_in : Moment → List Done
entry_in (Moment.Entry done) = done ∷ []
entry_in (Moment.Try lost) = []

abbrev pub try_in : Moment → List Tried
try_in (Moment.Entry done) = []
try_in (Moment.Try lost) = lost ∷ []

-- the entries, counted from n
abbrev pub dones : ℕ → List Entry → List Done
dones n [] = []
dones n (entry ∷ entries) = done_of n entry ∷ dones (n + 1) entries

-- moments show each entry once and each try once, both in their order
pub record ShowAll (entries : List Entry) (tries : List Tried) (shown : List Moment) : Type 0 where
  pub each_entry : flat_map entry_in shown ≡ dones 1 entries
  pub each_try : flat_map try_in shown ≡ tries
