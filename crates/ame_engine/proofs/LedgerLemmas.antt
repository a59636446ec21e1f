-- The lists of a ledger once an entry and its prints were appended.
use Rattle.std.proofs.Common.{◌≡◌, ℕ, ℤ, List, ◌++◌, sym, ap, ◌∙◌}
use Rattle.ame_io.specs.Lines.{lines}
use Rattle.ame_io.proofs.LinesLemmas.{lines-append}

-- A list that had the old items has the new ones after them.
pub list-appended : {A : Type 0} (old before after more new : List A) → before ≡ old → after ≡ before ++ more → more ≡ new → after ≡ old ++ new
list-appended {A} old before after more new same appends are =
    appends ∙ ap (λ (xs : List A). xs ++ more) same ∙ ap (λ (xs : List A). old ++ xs) are

-- The text is still the lines of the output, if the lines of the prints were added to it.
pub text-appended : (old output prints : List ℤ) (was before after added : List ℕ) → was ≡ lines old → before ≡ was → after ≡ before ++ added
    → added ≡ lines prints → output ≡ old ++ prints → after ≡ lines output
text-appended old output prints was before after added lined same appends are longer =
    list-appended (lines old) before after added (lines prints) (same ∙ lined) appends are ∙ sym (lines-append old prints) ∙ sym (ap lines longer)
