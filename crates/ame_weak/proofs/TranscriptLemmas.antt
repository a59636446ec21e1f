-- The code's journal, entry by entry.
use Rattle.std.proofs.Common.{◌≡◌, ℕ, ◌==◌, ◌++◌, Bool, true, false, not, List, [], ◌∷◌, map, filter, sym, ap, ◌∙◌, arith, cond, eqb-true}
use Rattle.std.specs.Prelude.{◌&&◌, ◌||◌, None}
use Rattle.std.specs.BTreeMap.{is_at}
use Rattle.std.proofs.lemmas.Map.Views.{any-filter_same}
use Rattle.std.proofs.lemmas.List.{append_assoc}
use Rattle.std.proofs.lemmas.Bool.Decides.{nat_tests}
use Rattle.std.specs.BTreeSet.{BTreeSet, contains}
use Rattle.std.specs.List.{list_any}
use Rattle.std.specs.Ordering.{nat_cmp}
use Rattle.ame_journal.specs.declared.entry.Entry.{Entry}
use Rattle.ame_weak.specs.Straight.{Place, freed, arrival, came}
use Rattle.ame_weak.specs.Straightened.{KeepsPlace, AddsEntries}
use Rattle.ame_weak.specs.Tries.{noted_tries, tries_behind}
use Rattle.ame_weak.specs.declared.transcript.Transcript.{Transcript}
use Rattle.ame_weak.specs.declared.tries.Try.{Try}

-- Some notes of these attempts are added, and the rest is to come.
pub record IsNotedSoFar (n : ℕ) (all rest : List Try) (old new : Transcript) : Type 0 where
  pub added : new.journal.entries ++ noted_tries n rest ≡ old.journal.entries ++ noted_tries n all
  pub others : tries_behind n rest ≡ tries_behind n all
  pub inside : new.inside ≡ old.inside
  pub number : new.number ≡ old.number
  pub steps : new.steps ≡ old.steps
  pub fresh : new.fresh.items ≡ old.fresh.items

-- the members inside, when one enters and when one closes

one-more : (n i : ℕ) (x : Bool) → cond (is_at (nat_cmp n) i) true x ≡ ((n == i) || x)
one-more n i x = grind (arith, nat_tests)

one-less : (n i : ℕ) (x : Bool) → cond (is_at (nat_cmp n) i) false x ≡ (not (i == n) && x)
one-less n i x = grind (arith, nat_tests)

pub stands-entered : (p : Place) (t : Transcript) (inside : BTreeSet ℕ) → KeepsPlace p t
    → ((i : ℕ) → contains nat_cmp inside i ≡ cond (is_at (nat_cmp t.number) i) true (contains nat_cmp t.inside i))
    → KeepsPlace (record p { inside = p.number ∷ p.inside }) (record t { inside = inside })
stands-entered p t inside s update = record {
  inside = λ i.
      update i ∙ ap (cond (is_at (nat_cmp t.number) i) true) (s.inside i) ∙ one-more t.number i (list_any (λ j. j == i) p.inside)
      ∙ ap (λ n. (n == i) || list_any (λ j. j == i) p.inside) s.number;
  number = s.number;
  steps = s.steps;
  fresh = s.fresh;
}

others-same : (i n k : ℕ) → (k == i) ≡ true → not (k == n) ≡ not (i == n)
others-same i n k e = ap (λ m. not (m == n)) (eqb-true k i e)

pub stands-left : (p : Place) (t : Transcript) (n : ℕ) (inside : BTreeSet ℕ) → KeepsPlace p t
    → ((i : ℕ) → contains nat_cmp inside i ≡ cond (is_at (nat_cmp n) i) false (contains nat_cmp t.inside i))
    → KeepsPlace (record p { inside = filter (λ j. not (j == n)) p.inside }) (record t { inside = inside })
stands-left p t n inside s update = record {
  inside = λ i.
      update i ∙ ap (cond (is_at (nat_cmp n) i) false) (s.inside i) ∙ one-less n i (list_any (λ j. j == i) p.inside)
      ∙ sym (any-filter_same (λ j. j == i) (λ j. not (j == n)) (not (i == n)) (λ k e. others-same i n k e) p.inside);
  number = s.number;
  steps = s.steps;
  fresh = s.fresh;
}

-- the code still keeps the point
pub stands-same : (p : Place) (entries : List Entry) (old new : Transcript) → AddsEntries entries old new → KeepsPlace p old → KeepsPlace p new
stands-same p entries old new a s = record {
  inside = λ i. ap (λ (z : BTreeSet ℕ). contains nat_cmp z i) a.inside ∙ s.inside i;
  number = a.number ∙ s.number;
  steps = a.steps ∙ s.steps;
  fresh = ap (map (λ l. l.0)) a.fresh ∙ s.fresh;
}

pub closed-out : (p : Place) (t arrived added : Transcript) (n : ℕ) (entry : Entry) (inside : BTreeSet ℕ) → KeepsPlace (record p { inside = came p.inside n }) arrived
    → arrived.journal.entries ≡ t.journal.entries ++ arrival p.inside n → entry ≡ freed n [] None → AddsEntries (entry ∷ []) arrived added
    → ((i : ℕ) → contains nat_cmp inside i ≡ cond (is_at (nat_cmp n) i) false (contains nat_cmp added.inside i))
    → KeepsPlace (record p { inside = filter (λ j. not (j == n)) (came p.inside n) }) (record added { inside = inside })
    × (added.journal.entries ≡ t.journal.entries ++ (arrival p.inside n ++ freed n [] None ∷ []))
closed-out p t arrived added n entry inside stands came_in is adds update = (
  stands-left (record p { inside = came p.inside n }) added n inside (stands-same (record p { inside = came p.inside n }) (entry ∷ []) arrived added adds stands) update,
  adds.added ∙ ap (λ (es : List Entry). es ++ entry ∷ []) came_in
      ∙ ap (λ (e : Entry). (t.journal.entries ++ arrival p.inside n) ++ e ∷ []) is
      ∙ append_assoc t.journal.entries (arrival p.inside n) (freed n [] None ∷ []),
)
