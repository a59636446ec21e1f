-- The wrapping sum of what a device heard.
use Rattle.std.proofs.Common.{◌≡◌, ℤ, pos, List, [], ◌∷◌, ◌++◌, refl, sym, ap, ◌∙◌}
use Rattle.std.specs.Int.{w64, int_wrapping_add}
use Rattle.ame_device.specs.declared.told.Heard.{Heard}
use Rattle.ame_device.specs.Calls.{answered, arguments}
use Rattle.ame_device.specs.Sums.{wrapping_sum_from, wrapping_sum}

sum-last : (sum : ℤ) (ns : List ℤ) (n : ℤ) → wrapping_sum_from sum (ns ++ n ∷ []) ≡ int_wrapping_add w64 (wrapping_sum_from sum ns) n
sum-last sum [] n = refl
sum-last sum (m ∷ ns) n = sum-last (int_wrapping_add w64 sum m) ns n

arguments-last : (heard : List Heard) (n answer : ℤ) → arguments (heard ++ answered n answer ∷ []) ≡ arguments heard ++ n ∷ []
arguments-last [] n answer = refl
arguments-last (call ∷ heard) n answer = ap (λ ns. call.argument ∷ ns) (arguments-last heard n answer)

-- one more argument
pub sum-more : (heard : List Heard) (sum n : ℤ) → sum ≡ wrapping_sum (arguments heard) → int_wrapping_add w64 sum n ≡ wrapping_sum (arguments heard ++ n ∷ [])
sum-more heard sum n is = ap (λ s. int_wrapping_add w64 s n) is ∙ sym (sum-last (pos 0) (arguments heard) n)

-- and one more call
pub sum-heard : (heard after : List Heard) (sum n answer : ℤ) → sum ≡ wrapping_sum (arguments heard) → after ≡ heard ++ answered n answer ∷ [] →
    int_wrapping_add w64 sum n ≡ wrapping_sum (arguments after)
sum-heard heard after sum n answer is longer =
    sum-more heard sum n is ∙ ap wrapping_sum (sym (arguments-last heard n answer) ∙ ap arguments (sym longer))
