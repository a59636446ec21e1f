-- The questions of a run: the picks so far determine which seats may be picked next.
use Rattle.std.specs.Prelude.{◌≡◌, ℕ, Bool, true, false, not, if◌then◌else◌, List, [], ◌∷◌, length, map, replicate, slice_set, count_by, All, Contains}
use Rattle.std.specs.List.{AllZip}
use Rattle.ame_sim.specs.declared.picked.Picked.{Picked}
use Rattle.ame_sim.specs.Waits.{may_be_picked}

-- the seats that were picked
abbrev pub seats_of : List Picked → List ℕ
seats_of picks = map (λ pick. pick.seat) picks

-- the number of picks that found nothing to do, and of those that did something
abbrev pub idles_of : List Picked → ℕ
idles_of picks = count_by (λ pick. pick.waited) picks

abbrev pub turns_of : List Picked → ℕ
turns_of picks = count_by (λ pick. not pick.waited) picks

-- the seats that wait after a pick: a seat waits from a pick that found nothing to do, until a seat does something
abbrev pub waits_after : List Bool → Picked → List Bool
waits_after waits pick = if pick.waited then slice_set waits pick.seat true else replicate (length waits) false

-- the seats that wait after some picks, and the question before each of them
abbrev pub waits_along : List Bool → List Picked → List Bool
waits_along waits [] = waits
waits_along waits (pick ∷ picks) = waits_along (waits_after waits pick) picks

abbrev pub questions_along : List Bool → List Picked → List (List ℕ)
questions_along waits [] = []
questions_along waits (pick ∷ picks) = may_be_picked waits ∷ questions_along (waits_after waits pick) picks

-- both from the beginning on, when none of the seats waits
abbrev pub who_waits : ℕ → List Picked → List Bool
who_waits seats picks = waits_along (replicate seats false) picks

abbrev pub questions : ℕ → List Picked → List (List ℕ)
questions seats picks = questions_along (replicate seats false) picks

-- the number of seats that wait
abbrev pub count_of : List Bool → ℕ
count_of waits = count_by (λ w. w) waits

-- each pick is an answer to its question
abbrev pub AreAnswers : List Bool → List Picked → Type 0
AreAnswers waits picks = AllZip Contains (questions_along waits picks) (seats_of picks)

-- all of these picks found nothing to do
abbrev pub AllWaited : List Picked → Type 0
AllWaited picks = All (λ pick. pick.waited ≡ true) picks
