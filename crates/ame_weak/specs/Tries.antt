-- Attempts that left no entry, as notes in a journal.
use Rattle.std.specs.Prelude.{◌≡◌, ℕ, ◌+◌, ◌≤◌, ◌==◌, Bool, true, List, [], ◌∷◌, ◌++◌, filter, length, None, ⊤, is_some, if◌then◌else◌}
use Rattle.std.specs.List.{AllByRecursion}
use Rattle.ame_term.specs.Tree.{Tree}
use Rattle.ame_term.specs.declared.semantics.Label.{Label}
use Rattle.ame_journal.specs.declared.entry.Entry.{Entry}
use Rattle.ame_journal.specs.declared.entry.EntryKind.{EntryKind}
use Rattle.ame_journal.specs.Replay.{fragment, fails_after}
use Rattle.ame_journal.specs.Totals.{is_note}
use Rattle.ame_weak.specs.Weak.{Weak, IsWeakRun}
use Rattle.ame_weak.specs.Straight.{Place, entries_of_label, past}
use Rattle.ame_weak.specs.declared.tries.Try.{Try}

-- An attempt holds in a weak state with nothing active if its fragment comes to a false condition there, or if it was cut off and its
-- steps can be made.
abbrev pub holds_in : Weak → Try → Bool
holds_in w t =
    let c = t.certificate in
    if t.failing then fails_after w.state c.number c.steps c.fresh else is_some (fragment c.number c.steps c.fresh w.state)

abbrev pub HoldsIn : Weak → Try → Type 0
HoldsIn w t = (w.state.active ≡ None) × (holds_in w t ≡ true)

-- an attempt holds in each weak state to which the labels before it lead
abbrev pub IsTried : Tree → List Label → Try → Type 0
IsTried program labels t =
    (front rest : List Label) (w : Weak) → labels ≡ front ++ rest → length front ≡ t.after → IsWeakRun program front w → HoldsIn w t

-- each attempt holds
abbrev pub AreTried : Tree → List Label → List Try → Type 0
AreTried program labels tries = AllByRecursion (IsTried program labels) tries

-- the note of an attempt
abbrev pub note_for : Try → Entry
note_for t = record {
  kind = if t.failing then EntryKind.Stuck else EntryKind.Cut;
  seat = 0;
  number = t.certificate.number;
  steps = t.certificate.steps;
  fresh = t.certificate.fresh;
  answer = None;
}

-- the notes of the first attempts, which were made after n labels
abbrev pub noted_tries : ℕ → List Try → List Entry
noted_tries n [] = []
noted_tries n (t ∷ tries) = if t.after == n then note_for t ∷ noted_tries n tries else []

-- the attempts after those
abbrev pub tries_behind : ℕ → List Try → List Try
tries_behind n [] = []
tries_behind n (t ∷ tries) = if t.after == n then tries_behind n tries else t ∷ tries

-- the entries of labels from a point that n labels have reached, with the notes of the attempts in order
abbrev pub straight_with : ℕ → List Try → Place → List Label → List Entry
straight_with n tries p [] = noted_tries n tries
straight_with n tries p (label ∷ labels) =
    noted_tries n tries ++ (entries_of_label p label ++ straight_with (n + 1) (tries_behind n tries) (past p label) labels)

-- attempts in order: each after n labels at least and m at most, and none before one that it follows
abbrev pub AreTriesInOrder : ℕ → ℕ → List Try → Type 0
AreTriesInOrder n m [] = ⊤
AreTriesInOrder n m (t ∷ tries) = (n ≤ t.after) × (t.after ≤ m) × AreTriesInOrder t.after m tries

-- the notes among entries, in order
abbrev pub notes_of : List Entry → List Entry
notes_of entries = filter (λ entry. is_note entry.kind) entries
