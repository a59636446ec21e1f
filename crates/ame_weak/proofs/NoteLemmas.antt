-- The notes of attempts among the entries of labels.
use Rattle.std.proofs.Common.{◌≡◌, ℕ, ◌+◌, ◌≤◌, ◌==◌, ◌++◌, Bool, true, false, not, List, [], ◌∷◌, length, map, cond, if◌then◌else◌, refl, ap, ◌∙◌, arith, subst, eqb-true}
use Rattle.std.proofs.lemmas.List.Elements.{filter-append}
use Rattle.std.proofs.lemmas.Bool.Decides.{nat_tests}
use Rattle.std.specs.List.{list_any}
use Rattle.std.specs.Prelude.{None}
use Rattle.ame_term.specs.Act.{device_answer}
use Rattle.ame_term.specs.declared.semantics.Label.{Label}
use Rattle.ame_journal.specs.declared.entry.Entry.{Entry}
use Rattle.ame_journal.specs.declared.entry.EntryKind.{EntryKind}
use Rattle.ame_journal.specs.Labels.{fresh_of}
use Rattle.ame_journal.specs.Totals.{is_note, without_notes}
use Rattle.ame_weak.specs.Straight.{Place, arrival_where, freed, entries_of_label, past, straight_from}
use Rattle.ame_weak.specs.Tries.{AreTriesInOrder, notes_of, note_for, noted_tries, tries_behind, straight_with}
use Rattle.ame_weak.specs.declared.tries.Try.{Try}

-- an entry of a label is no note

free-kept : (b : Bool) (i : ℕ) (entry : Entry) → is_note entry.kind ≡ false → without_notes (arrival_where b i ++ entry ∷ []) ≡ arrival_where b i ++ entry ∷ []
free-kept true i entry is = ap (λ x. cond (not x) (entry ∷ []) []) is
free-kept false i entry is = ap (λ (es : List Entry). arrival_where false i ++ es) (ap (λ x. cond (not x) (entry ∷ []) []) is)

kept : (p : Place) (label : Label) → without_notes (entries_of_label p label) ≡ entries_of_label p label
kept p (Label.Activate i) = refl
kept p (Label.Step kind) = refl
kept p Label.Leave = refl
kept p Label.End = refl
kept p (Label.Free i kind) = free-kept (list_any (λ j. j == i) p.inside) i (freed i (fresh_of kind) (device_answer kind)) refl
kept p (Label.Close i) = free-kept (list_any (λ j. j == i) p.inside) i (freed i [] None) refl

free-none : (b : Bool) (i : ℕ) (entry : Entry) → is_note entry.kind ≡ false → notes_of (arrival_where b i ++ entry ∷ []) ≡ []
free-none true i entry is = ap (λ x. cond x (entry ∷ []) []) is
free-none false i entry is = ap (λ x. cond x (entry ∷ []) []) is

none : (p : Place) (label : Label) → notes_of (entries_of_label p label) ≡ []
none p (Label.Activate i) = refl
none p (Label.Step kind) = refl
none p Label.Leave = refl
none p Label.End = refl
none p (Label.Free i kind) = free-none (list_any (λ j. j == i) p.inside) i (freed i (fresh_of kind) (device_answer kind)) refl
none p (Label.Close i) = free-none (list_any (λ j. j == i) p.inside) i (freed i [] None) refl

-- the note of an attempt is a note

tells : (t : Try) → is_note (note_for t).kind ≡ true
tells t = by t.failing
  where
    by : (b : Bool) → is_note (if b then EntryKind.Stuck else EntryKind.Cut) ≡ true
    by true = refl
    by false = refl

noted-none : (n : ℕ) (ts : List Try) → without_notes (noted_tries n ts) ≡ []
noted-none n [] = refl
noted-none n (t ∷ ts) = by (t.after == n) (noted-none n ts)
  where
    by : (b : Bool) → without_notes (noted_tries n ts) ≡ [] → without_notes (if b then note_for t ∷ noted_tries n ts else []) ≡ []
    by true rest = ap (λ x. cond (not x) (note_for t ∷ without_notes (noted_tries n ts)) (without_notes (noted_tries n ts))) (tells t) ∙ rest
    by false rest = refl

noted-all : (n : ℕ) (ts : List Try) → notes_of (noted_tries n ts) ≡ noted_tries n ts
noted-all n [] = refl
noted-all n (t ∷ ts) = by (t.after == n) (noted-all n ts)
  where
    by : (b : Bool) → notes_of (noted_tries n ts) ≡ noted_tries n ts
        → notes_of (if b then note_for t ∷ noted_tries n ts else []) ≡ (if b then note_for t ∷ noted_tries n ts else [])
    by true rest =
        ap (λ x. cond x (note_for t ∷ notes_of (noted_tries n ts)) (notes_of (noted_tries n ts))) (tells t)
        ∙ ap (λ (es : List Entry). note_for t ∷ es) rest
    by false rest = refl

-- without the notes the entries are those of the labels alone
pub without-tries : (n : ℕ) (ts : List Try) (p : Place) (labels : List Label) → without_notes (straight_with n ts p labels) ≡ straight_from p labels
without-tries n ts p [] = noted-none n ts
without-tries n ts p (label ∷ labels) =
    filter-append (λ entry. not (is_note entry.kind)) (noted_tries n ts) (entries_of_label p label ++ straight_with (n + 1) (tries_behind n ts) (past p label) labels)
    ∙ ap (λ (es : List Entry). es ++ without_notes (entries_of_label p label ++ straight_with (n + 1) (tries_behind n ts) (past p label) labels)) (noted-none n ts)
    ∙ filter-append (λ entry. not (is_note entry.kind)) (entries_of_label p label) (straight_with (n + 1) (tries_behind n ts) (past p label) labels)
    ∙ ap (λ (es : List Entry). es ++ without_notes (straight_with (n + 1) (tries_behind n ts) (past p label) labels)) (kept p label)
    ∙ ap (λ (es : List Entry). entries_of_label p label ++ es) (without-tries (n + 1) (tries_behind n ts) (past p label) labels)

-- The notes are those of the tries, in order.

both : (n : ℕ) (ts : List Try) → noted_tries n ts ++ map note_for (tries_behind n ts) ≡ map note_for ts
both n [] = refl
both n (t ∷ ts) = by (t.after == n) (both n ts)
  where
    by : (b : Bool) → noted_tries n ts ++ map note_for (tries_behind n ts) ≡ map note_for ts
        → (if b then note_for t ∷ noted_tries n ts else []) ++ map note_for (if b then tries_behind n ts else t ∷ ts) ≡ note_for t ∷ map note_for ts
    by true rest = ap (λ (es : List Entry). note_for t ∷ es) rest
    by false rest = refl

-- each attempt after the first ones is made later
order-later : (n m : ℕ) (ts : List Try) → AreTriesInOrder n m ts → AreTriesInOrder (n + 1) m (tries_behind n ts)
order-later n m [] order = tt
order-later n m (t ∷ ts) order = by (t.after == n) refl (order-later n m ts)
  where
    above : (n k : ℕ) → n ≤ k → (k == n) ≡ false → n + 1 ≤ k
    above n k le apart = grind (arith, nat_tests, apart)

    by : (b : Bool) → (t.after == n) ≡ b → (AreTriesInOrder n m ts → AreTriesInOrder (n + 1) m (tries_behind n ts)) → AreTriesInOrder (n + 1) m (if b then tries_behind n ts else t ∷ ts)
    by true is rest = rest (subst (λ (k : ℕ). AreTriesInOrder k m ts) (eqb-true t.after n is) order.2)
    by false is rest = (above n t.after order.0 is, order.1, order.2)

-- at the end all are noted
order-last : (n : ℕ) (ts : List Try) → AreTriesInOrder n n ts → noted_tries n ts ≡ map note_for ts
order-last n [] order = refl
order-last n (t ∷ ts) order =
    let low : n ≤ t.after = order.0 in
    let high : t.after ≤ n = order.1 in
    let same : t.after ≡ n = omega arith in
    ap (λ (b : Bool). if b then note_for t ∷ noted_tries n ts else []) (at-it t.after n same)
    ∙ ap (λ (es : List Entry). note_for t ∷ es) (order-last n ts (subst (λ (k : ℕ). AreTriesInOrder k n ts) same order.2))
  where
    at-it : (k n : ℕ) → k ≡ n → (k == n) ≡ true
    at-it k n same = grind (arith, same)

pub notes-told : (n m : ℕ) (ts : List Try) (p : Place) (labels : List Label) → n + length labels ≡ m → AreTriesInOrder n m ts
    → notes_of (straight_with n ts p labels) ≡ map note_for ts
notes-told n m ts p [] count order = noted-all n ts ∙ order-last n ts (let same : m ≡ n = omega arith in subst (λ (k : ℕ). AreTriesInOrder n k ts) same order)
notes-told n m ts p (label ∷ labels) count order =
    filter-append (λ entry. is_note entry.kind) (noted_tries n ts) (entries_of_label p label ++ straight_with (n + 1) (tries_behind n ts) (past p label) labels)
    ∙ ap (λ (es : List Entry). es ++ notes_of (entries_of_label p label ++ straight_with (n + 1) (tries_behind n ts) (past p label) labels)) (noted-all n ts)
    ∙ ap (λ (es : List Entry). noted_tries n ts ++ es)
    (filter-append (λ entry. is_note entry.kind) (entries_of_label p label) (straight_with (n + 1) (tries_behind n ts) (past p label) labels)
    ∙ ap (λ (es : List Entry). es ++ notes_of (straight_with (n + 1) (tries_behind n ts) (past p label) labels)) (none p label)
    ∙ notes-told (n + 1) m (tries_behind n ts) (past p label) labels (omega arith) (order-later n m ts order))
    ∙ both n ts
