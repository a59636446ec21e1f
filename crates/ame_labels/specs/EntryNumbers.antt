-- Into which entry of the straightened journal each label of a weak run goes.
use Rattle.std.specs.Prelude.{ℕ, ◌+◌, List, [], ◌∷◌, length}
use Rattle.ame_term.specs.declared.semantics.Label.{Label}
use Rattle.ame_weak.specs.Straight.{Place, outset, entries_of_label, past}
use Rattle.ame_weak.specs.Tries.{noted_tries, tries_behind}
use Rattle.ame_weak.specs.declared.tries.Try.{Try}

-- the number of entries that the journal has up to each label from here, after n labels that made m entries
abbrev pub counts_from : ℕ → ℕ → List Try → Place → List Label → List ℕ
counts_from n m tries p [] = []
counts_from n m tries p (label ∷ labels) =
    let told = m + length (noted_tries n tries) + length (entries_of_label p label) in
    told ∷ counts_from (n + 1) told (tries_behind n tries) (past p label) labels

-- the entry of the fragment that is active at a label up to which there are m entries; after the label it is the later one
abbrev pub active_entry_at : Label → ℕ → ℕ → ℕ
active_entry_at Label.Leave m later = m
active_entry_at Label.End m later = m
active_entry_at _ m later = later

-- the entry of the fragment that is active where these labels come next, with the counts up to each
abbrev pub active_entry : List Label → List ℕ → ℕ
active_entry (label ∷ labels) (m ∷ counts) = active_entry_at label m (active_entry labels counts)
active_entry _ _ = 0

-- the entry of a label: that of its fragment, or its own
abbrev pub entry_of_label : Label → ℕ → ℕ → ℕ
entry_of_label (Label.Activate i) m active = active
entry_of_label (Label.Step kind) m active = active
entry_of_label _ m active = m

abbrev pub numbers_with : List Label → List ℕ → List ℕ
numbers_with (label ∷ labels) (m ∷ counts) = entry_of_label label m (active_entry labels counts) ∷ numbers_with labels counts
numbers_with _ _ = []

-- of each label the number of its entry, counted from 1
abbrev pub entry_numbers : List Label → List Try → List ℕ
entry_numbers labels tries = numbers_with labels (counts_from 0 0 tries outset labels)
