-- Candidates, one number after the other.
use Rattle.std.proofs.Common.{◌≡◌, ℕ, suc, ◌+◌, ◌++◌, Bool, true, false, List, [], ◌∷◌, if◌then◌else◌, sym, ap, ◌∙◌, arith, append-nil}
use Rattle.ame_weak.specs.Weak.{Weak}
use Rattle.ame_runner.specs.Choices.{is_candidate, candidates_below}

module _ (w : Weak) (aside : ℕ → Bool) (n : ℕ) where
  next-below : candidates_below (n + 1) w aside ≡ candidates_below n w aside ++ (if is_candidate w aside n then n ∷ [] else [])
  next-below = let count : n + 1 ≡ suc n = omega arith in ap (λ m. candidates_below m w aside) count

  pub with-it : (numbers more : List ℕ) → numbers ≡ candidates_below n w aside → is_candidate w aside n ≡ true
      → more ≡ numbers ++ n ∷ [] → more ≡ candidates_below (n + 1) w aside
  with-it numbers more is goes added =
      added ∙ ap (λ ns. ns ++ n ∷ []) is ∙ ap (λ b. candidates_below n w aside ++ (if b then n ∷ [] else [])) (sym goes) ∙ sym next-below

  pub without-it : (numbers : List ℕ) → numbers ≡ candidates_below n w aside → is_candidate w aside n ≡ false → numbers ≡ candidates_below (n + 1) w aside
  without-it numbers is stays =
      is ∙ sym (append-nil (candidates_below n w aside)) ∙ ap (λ b. candidates_below n w aside ++ (if b then n ∷ [] else [])) (sym stays) ∙ sym next-below

pub ruleset one_number = (with-it, without-it)
