-- The answers of a device of each kind, as calls are added.
use Rattle.std.proofs.Common.{◌≡◌, ◌∙◌, ℕ, ℤ, ◌+◌, pos, List, [], ◌∷◌, ◌++◌, Option, Some, None, length, refl, sym, ap, arith}
use Rattle.std.specs.Prelude.{IfSome}
use Rattle.std.specs.Int.{w64, int_wrapping_add}
use Rattle.std.proofs.lemmas.List.{map-append}
use Rattle.ame_device.specs.declared.told.DeviceKind.{DeviceKind}
use Rattle.ame_device.specs.declared.told.Heard.{Heard}
use Rattle.ame_device.specs.Calls.{told, answered, one_more, arguments, IsAnswerOf}
use Rattle.ame_device.specs.Sums.{wrapping_sum_from, running_sums}
use Rattle.ame_device.specs.Kinds.{counts_after, AreAnswersOf, AnswersByKind}

counts-last : (n : ℕ) (calls : List Heard) (call : Heard) → counts_after n (calls ++ call ∷ []) ≡ counts_after n calls ++ pos (n + length calls + 1) ∷ []
counts-last n [] call = ap (λ (k : ℕ). pos k ∷ []) (let is : n + 1 ≡ n + 0 + 1 = omega arith in is)
counts-last n (first ∷ calls) call =
    ap (λ (ns : List ℤ). pos (n + 1) ∷ ns) (counts-last (n + 1) calls call
    ∙ ap (λ (k : ℕ). counts_after (n + 1) calls ++ pos k ∷ []) (let is : n + 1 + length calls + 1 ≡ n + length (first ∷ calls) + 1 = omega arith in is))

sums-last : (sum : ℤ) (ns : List ℤ) (n : ℤ) → running_sums sum (ns ++ n ∷ []) ≡ running_sums sum ns ++ wrapping_sum_from sum (ns ++ n ∷ []) ∷ []
sums-last sum [] n = refl
sums-last sum (m ∷ ns) n = ap (λ (sums : List ℤ). int_wrapping_add w64 sum m ∷ sums) (sums-last (int_wrapping_add w64 sum m) ns n)

-- one more call that is answered by the kind
more-answers : (kind : DeviceKind) (calls : List Heard) (argument answer : ℤ) → IsAnswerOf kind calls argument answer → AreAnswersOf kind calls
    → AreAnswersOf kind (calls ++ answered argument answer ∷ [])
more-answers DeviceKind.Counter calls argument answer is are =
    map-append (λ (call : Heard). call.answer) calls (answered argument answer ∷ [])
    ∙ ap (λ (xs : List ℤ). xs ++ answer ∷ []) are
    ∙ ap (λ (x : ℤ). counts_after 0 calls ++ x ∷ []) is
    ∙ ap (λ (k : ℕ). counts_after 0 calls ++ pos k ∷ []) (let same : length calls + 1 ≡ 0 + length calls + 1 = omega arith in same)
    ∙ sym (counts-last 0 calls (answered argument answer))
more-answers DeviceKind.Adder calls argument answer is are =
    map-append (λ (call : Heard). call.answer) calls (answered argument answer ∷ [])
    ∙ ap (λ (xs : List ℤ). xs ++ answer ∷ []) are
    ∙ ap (λ (x : ℤ). running_sums (pos 0) (arguments calls) ++ x ∷ []) is
    ∙ sym (sums-last (pos 0) (arguments calls) argument)
    ∙ ap (running_sums (pos 0)) (sym (map-append (λ (call : Heard). call.argument) calls (answered argument answer ∷ [])))
more-answers DeviceKind.Other calls argument answer is are = tt

-- so it is of a device that answers
pub answers-more : (kind : DeviceKind) (heard : Option (List Heard)) (faults : ℕ) (argument answer : ℤ) → IfSome heard (λ calls. IsAnswerOf kind calls argument answer)
    → AnswersByKind (told kind heard faults) → AnswersByKind (told kind (one_more heard (answered argument answer)) faults)
answers-more kind None faults argument answer is are = tt
answers-more kind (Some calls) faults argument answer is are = more-answers kind calls argument answer is are
