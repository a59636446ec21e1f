-- Notes change nothing.
use Rattle.std.proofs.Common.{◌≡◌, ℕ, ℤ, Bool, true, false, not, List, [], ◌∷◌, cond, Option, Some, option_and_then, refl, ap, ◌∙◌, subst}
use Rattle.std.proofs.lemmas.Option.{option_and_then_some}
use Rattle.ame_term.specs.declared.semantics.Label.{Label}
use Rattle.ame_journal.specs.declared.entry.Entry.{Entry}
use Rattle.ame_journal.specs.declared.entry.EntryKind.{EntryKind}
use Rattle.ame_journal.specs.Replayed.{Replayed}
use Rattle.ame_journal.specs.Labels.{Unfolds}
use Rattle.ame_journal.specs.Replay.{replay_entry, replay_from}
use Rattle.ame_journal.specs.Totals.{is_note, without_notes}
use Rattle.ame_journal.proofs.LabelLemmas.{unfold-entry}

note-stays : (r : Replayed) (i : ℕ) (kind : EntryKind) (n : ℕ) (fresh : List ℕ) (answer : Option ℤ) (labels : List Label) (t : Replayed) →
    Unfolds r i kind n fresh answer labels t → is_note kind ≡ true → t ≡ r
note-stays r i _ _ _ _ _ _ (Unfolds.leaves kinds n fresh s outside are runs) is = cc
note-stays r i _ _ _ _ _ _ (Unfolds.ends kinds n fresh s outside are runs) is = cc
note-stays r i _ _ _ _ _ _ (Unfolds.arrives outside at) is = cc
note-stays r i _ _ _ _ _ _ (Unfolds.goes_on kinds n fresh answer s inside are runs) is = cc
note-stays r i _ _ _ _ _ _ (Unfolds.closes kinds n fresh s inside are runs) is = cc
note-stays r i _ _ _ _ _ _ (Unfolds.fails kinds n fresh s are runs fails) is = refl
note-stays r i _ _ _ _ _ _ (Unfolds.is_cut kinds n fresh s are runs) is = refl
note-stays r i _ _ _ _ _ _ (Unfolds.grows kinds n fresh s are runs tall) is = refl

pub note-same : (r : Replayed) (entry : Entry) (t : Replayed) → is_note entry.kind ≡ true → replay_entry r entry ≡ Some t → t ≡ r
note-same r entry t is e =
    let u = unfold-entry r entry t e in note-stays r entry.number entry.kind entry.steps entry.fresh entry.answer u.0 t u.1 is

pub notes-dropped : (r : Replayed) (entries : List Entry) (t : Replayed) → replay_from r entries ≡ Some t → replay_from r (without_notes entries) ≡ Some t
notes-dropped r [] t e = e
notes-dropped r (entry ∷ entries) t e =
    option_and_then_some _ _ _ e (λ s first others.
    by (is_note entry.kind) refl s first others (notes-dropped r entries t) (notes-dropped s entries t others))
  where
    by : (b : Bool) → is_note entry.kind ≡ b → (s : Replayed) → replay_entry r entry ≡ Some s → replay_from s entries ≡ Some t →
        (replay_from r entries ≡ Some t → replay_from r (without_notes entries) ≡ Some t) → replay_from s (without_notes entries) ≡ Some t →
        replay_from r (cond (not b) (entry ∷ without_notes entries) (without_notes entries)) ≡ Some t
    by true is s first others here there = here (subst (λ v. replay_from v entries ≡ Some t) (note-same r entry s is first) others)
    by false is s first others here there = ap (λ o. option_and_then (λ v. replay_from v (without_notes entries)) o) first ∙ there
