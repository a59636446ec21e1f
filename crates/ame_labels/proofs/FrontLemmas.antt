-- The number of entries that are shown.
use Rattle.std.proofs.Common.{◌≡◌, ℕ, suc, ◌+◌, ◌-◌, ◌<◌, ◌≤◌, Bool, List, ◌∷◌, length, get_or, drop, if◌then◌else◌, sym, ap, ◌∙◌, arith}
use Rattle.std.proofs.lemmas.Bool.{lt-ltb, le-ltb}
use Rattle.std.proofs.lemmas.List.{drop_more, drop_all}
use Rattle.ame_journal.specs.declared.entry.Entry.{Entry}
use Rattle.ame_labels.specs.Front.{shown_from}

module _ (left i : ℕ) (entries : List Entry) (entry : Entry) (below : i < length entries) (is : entry ≡ get_or entries i entry) where
  next : drop i entries ≡ entry ∷ drop (i + 1) entries
  next = drop_more entries i entry below ∙ ap (λ (e : Entry). e ∷ drop (i + 1) entries) (sym is)

  pub shown-more : entry.steps ≤ left → (whole : ℕ) → i + shown_from left (drop i entries) ≡ whole → (i + 1) + shown_from (left - entry.steps) (drop (i + 1) entries) ≡ whole
  unfolding shown_from
  shown-more few whole so_far =
      let one : shown_from left (drop i entries) ≡ suc (shown_from (left - entry.steps) (drop (i + 1) entries)) =
      ap (shown_from left) next ∙ ap (λ (b : Bool). if b then 0 else suc (shown_from (left - entry.steps) (drop (i + 1) entries))) (le-ltb left entry.steps few) in
      omega (arith, one, so_far)

  pub shown-ends : left < entry.steps → (whole : ℕ) → i + shown_from left (drop i entries) ≡ whole → i ≡ whole
  unfolding shown_from
  shown-ends many whole so_far =
      let none : shown_from left (drop i entries) ≡ 0 =
      ap (shown_from left) next ∙ ap (λ (b : Bool). if b then 0 else suc (shown_from (left - entry.steps) (drop (i + 1) entries))) (lt-ltb left entry.steps many) in
      omega (arith, none, so_far)

pub shown-all : (left i : ℕ) (entries : List Entry) (whole : ℕ) → length entries ≤ i → i + shown_from left (drop i entries) ≡ whole → i ≡ whole
unfolding shown_from
shown-all left i entries whole over so_far =
    let none : shown_from left (drop i entries) ≡ 0 = ap (shown_from left) (drop_all i entries over) in
    omega (arith, none, so_far)
