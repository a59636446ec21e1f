-- A fragment that is tried goes on by a step.
use Rattle.std.proofs.Common.{◌≡◌, ℕ, ◌+◌, ◌<◌, ◌≤◌, ◌++◌, List, [], ◌∷◌, length, map, refl, sym, ap, ◌∙◌, subst, arith, append-nil, length-append}
use Rattle.std.proofs.lemmas.List.Concat.{flat_map-append}
use Rattle.std.specs.Prelude.{Result, Ok, Err, IfOk}
use Rattle.ame_term.specs.declared.semantics.StepKind.{StepKind}
use Rattle.ame_term.specs.declared.semantics.Label.{Label}
use Rattle.ame_journal.specs.Labels.{fresh_of, made_by, fragment_labels}
use Rattle.ame_weak.specs.Weak.{Weak, weak_run}
use Rattle.ame_weak.specs.Bounds.{AreWithinBounds}
use Rattle.ame_runner.specs.Trial.{AreNext, IsTrial, HasTriedOn, StandsAs, IsDecided, last_turn, IsEndedAtLast, IsTriedOut}
use Rattle.ame_runner.specs.declared.trial.AttemptEnd.{AttemptEnd}
use Rattle.ame_runner.specs.declared.trial.TriedOut.{TriedOut}
use Rattle.ame_runner.proofs.PlayLemmas.{run-more, within-more}

next-more : (a : ℕ) (ls ms : List ℕ) (b c : ℕ) → AreNext a ls b → AreNext b ms c → AreNext a (ls ++ ms) c
next-more a [] ms b c is more = subst (λ n. AreNext n ms c) (sym is) more
next-more a (l ∷ ls) ms b c is more = (is.0, next-more (a + 1) ls ms b c is.1 more)

made-more : (kinds : List StepKind) (kind : StepKind) → made_by (kinds ++ kind ∷ []) ≡ made_by kinds ++ fresh_of kind
made-more kinds kind = flat_map-append fresh_of kinds (kind ∷ []) ∙ ap (λ xs. made_by kinds ++ xs) (append-nil (fresh_of kind))

steps-more : (kinds : List StepKind) (kind : StepKind) → map Label.Step (kinds ++ kind ∷ []) ≡ map Label.Step kinds ++ Label.Step kind ∷ []
steps-more [] kind = refl
steps-more (k ∷ kinds) kind = ap (λ ls. Label.Step k ∷ ls) (steps-more kinds kind)

pub trial-more : (w : Weak) (i first : ℕ) (v : Weak) (kinds : List StepKind) (above : ℕ) (later : Weak) (more : List StepKind) (next_above : ℕ)
    → IsTrial w i first v kinds above → HasTriedOn v kinds above later more next_above → IsTrial w i first later more next_above
trial-more w i first v kinds above later more next_above t g = record {
  leads =
      ap (λ ks. weak_run w (fragment_labels i ks)) g.added ∙ ap (λ ls. weak_run w (Label.Activate i ∷ ls)) (steps-more kinds g.kind)
      ∙ run-more w v later (fragment_labels i kinds) (Label.Step g.kind) t.leads g.legal;
  within =
      subst (λ ks. AreWithinBounds w (fragment_labels i ks)) (sym g.added)
      (subst (λ ls. AreWithinBounds w (Label.Activate i ∷ ls)) (sym (steps-more kinds g.kind))
      (within-more w v (fragment_labels i kinds) (Label.Step g.kind) t.within t.leads g.within));
  made =
      subst (λ ks. AreNext first (made_by ks) next_above) (sym g.added)
      (subst (λ ls. AreNext first ls next_above) (sym (made-more kinds g.kind)) (next-more first (made_by kinds) (fresh_of g.kind) above next_above t.made g.made));
}

pub longer : (v : Weak) (kinds : List StepKind) (above : ℕ) (later : Weak) (more : List StepKind) (next_above : ℕ)
    → HasTriedOn v kinds above later more next_above
    → length more ≡ length kinds + 1
longer v kinds above later more next_above g = ap length g.added ∙ length-append kinds (g.kind ∷ [])

one-at-most : (o : AttemptEnd) → last_turn o ≤ 1
one-at-most AttemptEnd.Leaves = omega arith
one-at-most AttemptEnd.Ends = omega arith
one-at-most AttemptEnd.Fails = omega arith
one-at-most AttemptEnd.Tall = omega arith
one-at-most AttemptEnd.Cut = omega arith

not-cut : (o : AttemptEnd) → IsDecided o → o ≡ AttemptEnd.Cut → ⊥
not-cut o d is = subst IsDecided is d

module _ (w : Weak) (i first turns : ℕ) (v : Weak) (kinds : List StepKind) (above : ℕ) (a : TriedOut) (t : IsTrial w i first v kinds above) (same : a.kinds.items ≡ kinds)
    (up : a.above ≡ above) (stands : StandsAs a.outcome v) where
  trial : IsTrial w i first v a.kinds.items a.above
  trial = subst (λ (ks : List StepKind). IsTrial w i first v ks a.above) (sym same) (subst (IsTrial w i first v kinds) (sym up) t)

  long : length a.kinds.items ≡ length kinds
  long = ap length same

  -- a fragment that has come to its end in time
  pub tried-decided : (used : ℕ) → IsDecided a.outcome → length kinds + 1 ≡ used → used < turns
      → a.turns ≡ used + last_turn a.outcome → IsTriedOut w i first turns a
  tried-decided used decided count more took = record {
    behind = v;
    is = trial;
    comes = stands;
    counted = let same = long in omega (arith, same, count, took);
    within = let one = one-at-most a.outcome in omega (arith, one, took, more);
    used = λ cut. absurd (not-cut a.outcome decided cut);
  }

  -- or has used up the turns
  pub tried-last : last_turn a.outcome ≡ 0 → length kinds + 1 ≡ turns → a.turns ≡ turns → IsTriedOut w i first turns a
  tried-last none all took = record {
    behind = v;
    is = trial;
    comes = stands;
    counted = let same = long in omega (arith, same, all, took, none);
    within = omega (arith, took);
    used = λ cut. took;
  }

pub ended-last : {E : Type 0} (w : Weak) (i first turns : ℕ) (v : Weak) (kinds : List StepKind) (above : ℕ) (a : Result TriedOut E)
    → IsTrial w i first v kinds above
    → length kinds + 1 ≡ turns → IfOk a (IsEndedAtLast v kinds above turns) → IfOk a (IsTriedOut w i first turns)
ended-last w i first turns v kinds above (Ok a) t all ended = tried-last w i first turns v kinds above a t ended.made ended.up ended.comes ended.last all ended.took
ended-last w i first turns v kinds above (Err e) t all ended = tt
