-- Which of the names is found that forms bind, one form after another.
use Rattle.std.proofs.Common.{◌≡◌, ℕ, ◌+◌, ◌<◌, Bool, List, [], ◌∷◌, length, get_or, take, reverse, Option, Some, None, sym, ap, ◌∙◌}
use Rattle.std.specs.List.{find, flat_map}
use Rattle.std.specs.Option.{option_or}
use Rattle.std.proofs.lemmas.List.{take_more, reverse-append}
use Rattle.std.proofs.lemmas.List.Folds.{find-append}

-- the last of some forms is the innermost one
innermost_comes_first : {X Y : Type 0} (test : Y → Bool) (bound : X → List Y) (forms : List X) (i : ℕ) (form : X) → i < length forms →
    find test (flat_map bound (reverse (take (i + 1) forms)))
    ≡ option_or (find test (bound (get_or forms i form))) (find test (flat_map bound (reverse (take i forms))))
innermost_comes_first test bound forms i form inside =
    ap (λ xs. find test (flat_map bound (reverse xs))) (take_more forms i form inside)
    ∙ ap (λ xs. find test (flat_map bound xs)) (reverse-append (take i forms) (get_or forms i form ∷ []))
    ∙ find-append test (bound (get_or forms i form)) (flat_map bound (reverse (take i forms)))

-- a name that is found in some forms is found in the innermost of them, or otherwise in those around it
innermost_is : {X Y : Type 0} (test : Y → Bool) (bound : X → List Y) (forms : List X) (left i : ℕ) (form : X) → left ≡ i + 1 → i < length forms →
    find test (flat_map bound (reverse (take left forms)))
    ≡ option_or (find test (bound (get_or forms i form))) (find test (flat_map bound (reverse (take i forms))))
innermost_is test bound forms left i form last inside =
    ap (λ n. find test (flat_map bound (reverse (take n forms)))) last ∙ innermost_comes_first test bound forms i form inside

pub search_goes_on : {X Y : Type 0} (test : Y → Bool) (bound : X → List Y) (forms : List X) (left i : ℕ) (form : X) (whole found : Option Y) → left ≡ i + 1 →
    i < length forms → found ≡ find test (bound (get_or forms i form)) → found ≡ None →
    whole ≡ find test (flat_map bound (reverse (take left forms))) → whole ≡ find test (flat_map bound (reverse (take i forms)))
search_goes_on test bound forms left i form whole found last inside made none rest =
    rest ∙ innermost_is test bound forms left i form last inside
    ∙ ap (λ o. option_or o (find test (flat_map bound (reverse (take i forms))))) (sym made ∙ none)

pub search_finds : {X Y : Type 0} (test : Y → Bool) (bound : X → List Y) (forms : List X) (left i : ℕ) (form : X) (whole found : Option Y) (y : Y) → left ≡ i + 1 →
    i < length forms → found ≡ find test (bound (get_or forms i form)) → found ≡ Some y →
    whole ≡ find test (flat_map bound (reverse (take left forms))) → Some y ≡ whole
search_finds test bound forms left i form whole found y last inside made some rest =
    sym (rest ∙ innermost_is test bound forms left i form last inside
    ∙ ap (λ o. option_or o (find test (flat_map bound (reverse (take i forms))))) (sym made ∙ some))
