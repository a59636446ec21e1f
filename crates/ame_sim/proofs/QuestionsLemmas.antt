-- The questions of a run.
use Rattle.std.proofs.Common.{◌≡◌, ℕ, ◌+◌, ◌*◌, ◌<◌, ◌≤◌, Bool, true, false, not, cond, List, [], ◌∷◌, ◌++◌, length, get_or, set, replicate, refl, ap, ◌∙◌, arith}
use Rattle.std.specs.List.{Contains}
use Rattle.std.proofs.lemmas.List.{length-set, length-replicate}
use Rattle.std.proofs.lemmas.List.Sums.{sum_by-cons, sum_by-set, count_by-le-length}
use Rattle.std.proofs.lemmas.List.Folds.{sum_by-replicate}
use Rattle.ame_sim.specs.declared.picked.Picked.{Picked}
use Rattle.ame_sim.specs.Waits.{may_be_picked}
use Rattle.ame_sim.specs.Questions.{idles_of, turns_of, waits_after, waits_along, questions_along, count_of, AreAnswers}
use Rattle.ame_sim.proofs.WaitsLemmas.{free-seat}

-- one pick more
pub waits_along-push : (waits : List Bool) (picks : List Picked) (pick : Picked) → waits_along waits (picks ++ pick ∷ []) ≡ waits_after (waits_along waits picks) pick
waits_along-push waits [] pick = refl
waits_along-push waits (first ∷ picks) pick = waits_along-push (waits_after waits first) picks pick

pub questions_along-push : (waits : List Bool) (picks : List Picked) (pick : Picked) →
    questions_along waits (picks ++ pick ∷ []) ≡ questions_along waits picks ++ may_be_picked (waits_along waits picks) ∷ []
questions_along-push waits [] pick = refl
questions_along-push waits (first ∷ picks) pick = ap (λ t. may_be_picked waits ∷ t) (questions_along-push (waits_after waits first) picks pick)

-- there is a flag for each seat, however many picks were made
pub length-waits_after : (waits : List Bool) (pick : Picked) → length (waits_after waits pick) ≡ length waits
length-waits_after waits pick = by_case pick.waited
  where
    by_case : (waited : Bool) → length (cond waited (set waits pick.seat true) (replicate (length waits) false)) ≡ length waits
    by_case true = length-set waits pick.seat true
    by_case false = length-replicate (length waits) false

pub length-waits_along : (waits : List Bool) (picks : List Picked) → length (waits_along waits picks) ≡ length waits
length-waits_along waits [] = refl
length-waits_along waits (pick ∷ picks) = length-waits_along (waits_after waits pick) picks ∙ length-waits_after waits pick

-- One seat more waits, if it didn't wait before.
pub count-waits : (waits : List Bool) (seat : ℕ) → seat < length waits → get_or waits seat false ≡ false → count_of (set waits seat true) ≡ count_of waits + 1
count-waits waits seat below free =
    let one : ℕ = 1 in
    let none : ℕ = 0 in
    let change = sum_by-set (λ w. cond w one none) waits seat true false below in
    let had : cond (get_or waits seat false) one none ≡ none = ap (λ w. cond w one none) free in
    omega (arith, change, had)

-- what a pick adds: one that found nothing to do, and one that did something
pick-counts : (waits : List Bool) (seat : ℕ) (waited : Bool) (picks : List Picked) → let pick : Picked = record { seat = seat; waited = waited } in
    Contains (may_be_picked waits) seat →
    idles_of picks + count_of (waits_after waits pick) ≤ length (waits_after waits pick) * turns_of picks + count_of (waits_along (waits_after waits pick) picks) →
    idles_of (pick ∷ picks) + count_of waits ≤ length waits * turns_of (pick ∷ picks) + count_of (waits_along (waits_after waits pick) picks)
pick-counts waits seat true picks free rest =
    let idles = sum_by-cons (λ (p : Picked). cond p.waited 1 0) (record { seat = seat; waited = true }) picks in
    let turns = sum_by-cons (λ (p : Picked). cond (not p.waited) 1 0) (record { seat = seat; waited = true }) picks in
    let at = free-seat seat waits free in
    omega (arith, idles, ap (λ n. length waits * n) turns, count-waits waits seat at.0 at.1, ap (λ n. n * turns_of picks) (length-set waits seat true))
pick-counts waits seat false picks free rest =
    let idles = sum_by-cons (λ (p : Picked). cond p.waited 1 0) (record { seat = seat; waited = false }) picks in
    let turns = sum_by-cons (λ (p : Picked). cond (not p.waited) 1 0) (record { seat = seat; waited = false }) picks in
    omega (
      arith,
      idles,
      ap (λ n. length waits * n) turns,
      count_by-le-length (λ w. w) waits,
      sum_by-replicate (λ w. cond w 1 0) (length waits) false,
      ap (λ n. n * turns_of picks) (length-replicate (length waits) false),
    )

-- Picks that found nothing to do are few: between two that did something, each seat begins to wait at most once.
pub idles-few : (waits : List Bool) (picks : List Picked) → AreAnswers waits picks →
    idles_of picks + count_of waits ≤ length waits * turns_of picks + count_of (waits_along waits picks)
idles-few waits [] answers = omega arith
idles-few waits (pick ∷ picks) answers = pick-counts waits pick.seat pick.waited picks answers.0 (idles-few (waits_after waits pick) picks answers.1)

-- From the beginning on, they are at most the seats times one more than the picks that did something.
pub idles-bounded : (seats : ℕ) (picks : List Picked) → AreAnswers (replicate seats false) picks → idles_of picks ≤ seats * (turns_of picks + 1)
idles-bounded seats picks answers =
    let begun = replicate seats false in
    let few = idles-few begun picks answers in
    let long : length begun ≡ seats = length-replicate seats false in
    let last : length (waits_along begun picks) ≡ seats = length-waits_along begun picks ∙ long in
    omega (arith, few, ap (λ n. n * turns_of picks) long, count_by-le-length (λ w. w) (waits_along begun picks), last)

-- picks are made of those that found nothing to do and those that did something
one-counted : (seat : ℕ) (waited : Bool) (picks : List Picked) → length picks ≡ turns_of picks + idles_of picks →
    let pick : Picked = record { seat = seat; waited = waited } in length (pick ∷ picks) ≡ turns_of (pick ∷ picks) + idles_of (pick ∷ picks)
one-counted seat true picks rest =
    let idles = sum_by-cons (λ (p : Picked). cond p.waited 1 0) (record { seat = seat; waited = true }) picks in
    let turns = sum_by-cons (λ (p : Picked). cond (not p.waited) 1 0) (record { seat = seat; waited = true }) picks in
    omega (arith, idles, turns)
one-counted seat false picks rest =
    let idles = sum_by-cons (λ (p : Picked). cond p.waited 1 0) (record { seat = seat; waited = false }) picks in
    let turns = sum_by-cons (λ (p : Picked). cond (not p.waited) 1 0) (record { seat = seat; waited = false }) picks in
    omega (arith, idles, turns)

pub length-picks : (picks : List Picked) → length picks ≡ turns_of picks + idles_of picks
length-picks [] = refl
length-picks (pick ∷ picks) = one-counted pick.seat pick.waited picks (length-picks picks)
