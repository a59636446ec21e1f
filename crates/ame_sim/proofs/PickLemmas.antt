-- One pick more.
use Rattle.std.proofs.Common.{◌≡◌, ℕ, ◌+◌, ◌*◌, ◌≤◌, ◌⊎◌, inl, inr, Bool, false, not, cond, List, [], ◌∷◌, ◌++◌, length, replicate, sym, ap, ◌∙◌, subst, arith}
use Rattle.std.specs.List.{Contains}
use Rattle.std.proofs.lemmas.List.{map-append, length-map, length-replicate}
use Rattle.std.proofs.lemmas.List.Sums.{sum_by-append}
use Rattle.std.proofs.lemmas.List.Folds.{sum_by-replicate}
use Rattle.ame_sim.specs.Questions.{seats_of, idles_of, turns_of, waits_after, waits_along, questions, who_waits, count_of, AreAnswers}
use Rattle.ame_sim.specs.Strategy.{PicksSeats}
use Rattle.ame_sim.specs.declared.picked.Picked.{Picked}
use Rattle.ame_sim.specs.Waits.{may_be_picked}
use Rattle.ame_sim.proofs.QuestionsLemmas.{waits_along-push, questions_along-push, length-picks, idles-few, idles-bounded}
use Rattle.ame_sim.proofs.StrategyLemmas.{answers-then}
use Rattle.ame_sim.specs.declared.made.Made.{Made}
use Rattle.ame_sim.specs.Picks.{is_waited, picked_by, picks_of, HasAnswered}

-- Questions and answers

pub picks-push : (mades : List Made) (made : Made) → picks_of (mades ++ made ∷ []) ≡ picks_of mades ++ picked_by made ∷ []
picks-push mades made = map-append picked_by mades (made ∷ [])

pub waits-push : (seats : ℕ) (mades : List Made) (made : Made)
    → who_waits seats (picks_of (mades ++ made ∷ [])) ≡ waits_after (who_waits seats (picks_of mades)) (picked_by made)
waits-push seats mades made =
    ap (who_waits seats) (picks-push mades made) ∙ waits_along-push (replicate seats false) (picks_of mades) (picked_by made)

questions-push : (seats : ℕ) (mades : List Made) (made : Made)
    → questions seats (picks_of (mades ++ made ∷ [])) ≡ questions seats (picks_of mades) ++ may_be_picked (who_waits seats (picks_of mades)) ∷ []
questions-push seats mades made =
    ap (questions seats) (picks-push mades made) ∙ questions_along-push (replicate seats false) (picks_of mades) (picked_by made)

pub seats-push : (mades : List Made) (made : Made) → seats_of (picks_of (mades ++ made ∷ [])) ≡ seats_of (picks_of mades) ++ made.seat ∷ []
seats-push mades made =
    ap seats_of (picks-push mades made) ∙ map-append (λ (p : Picked). p.seat) (picks_of mades) (picked_by made ∷ [])

-- a chooser that was asked once more
pub answered-more : (seats : ℕ) (before after : List (List ℕ) → List ℕ) (mades : List Made) (made : Made)
    → PicksSeats before (may_be_picked (who_waits seats (picks_of mades)) ∷ []) (made.seat ∷ []) after → HasAnswered seats before mades after (mades ++ made ∷ [])
answered-more seats before after mades made once strategy was rest =
    ap (λ asked. strategy (asked ++ rest)) (questions-push seats mades made)
    ∙ answers-then strategy before after (questions seats (picks_of mades)) (may_be_picked (who_waits seats (picks_of mades)) ∷ [])
    (seats_of (picks_of mades)) (made.seat ∷ []) was once rest
    ∙ ap (λ picked. picked ++ after rest) (sym (seats-push mades made))

-- one answer more
asked-along : (waits : List Bool) (picks : List Picked) (pick : Picked) → AreAnswers waits picks → Contains (may_be_picked (waits_along waits picks)) pick.seat
    → AreAnswers waits (picks ++ pick ∷ [])
asked-along waits [] pick all one = (one, tt)
asked-along waits (first ∷ picks) pick all one = (all.0, asked-along (waits_after waits first) picks pick all.1 one)

pub asked-push : (seats : ℕ) (mades : List Made) (made : Made) → AreAnswers (replicate seats false) (picks_of mades)
    → Contains (may_be_picked (who_waits seats (picks_of mades))) made.seat → AreAnswers (replicate seats false) (picks_of (mades ++ made ∷ []))
asked-push seats mades made all one =
    subst (AreAnswers (replicate seats false)) (sym (picks-push mades made))
    (asked-along (replicate seats false) (picks_of mades) (picked_by made) all one)

-- Counts

pub turns-push : (mades : List Made) (made : Made) → turns_of (picks_of (mades ++ made ∷ [])) ≡ turns_of (picks_of mades) + cond (not (is_waited made.outcome)) 1 0
turns-push mades made =
    let both = sum_by-append (λ (p : Picked). cond (not p.waited) 1 0) (picks_of mades) (picked_by made ∷ []) in
    let same = ap turns_of (picks-push mades made) in
    omega (arith, both, same)

-- each pick that found something to do is a turn, but one that stopped the run, since when none waits
abbrev pub IsCounted : ℕ → ℕ → List Made → Type 0
IsCounted seats turns mades =
    (turns_of (picks_of mades) ≡ turns) ⊎ ((turns_of (picks_of mades) ≡ turns + 1) × (count_of (who_waits seats (picks_of mades)) ≡ 0))

module _ (seats turns : ℕ) (mades : List Made) (asked : AreAnswers (replicate seats false) (picks_of mades)) where
  long : length mades ≡ turns_of (picks_of mades) + idles_of (picks_of mades)
  long = sym (length-map mades picked_by) ∙ length-picks (picks_of mades)

  pub all-counted : IsCounted seats turns mades
      → (length mades ≡ turns + idles_of (picks_of mades)) ⊎ (length mades ≡ turns + idles_of (picks_of mades) + 1)
  all-counted (inl is) = inl (omega (arith, long, is))
  all-counted (inr more) = inr (let is = more.0 in omega (arith, long, is))

  pub few-idles : IsCounted seats turns mades → idles_of (picks_of mades) ≤ seats * (turns + 1)
  few-idles (inl is) =
      let few = idles-bounded seats (picks_of mades) asked in
      omega (arith, few, ap (λ n. seats * (n + 1)) is)
  few-idles (inr more) =
      let few = idles-few (replicate seats false) (picks_of mades) asked in
      let none = more.1 in
      let is = more.0 in
      omega (arith, few, none, ap (λ n. n * turns_of (picks_of mades)) (length-replicate seats false), ap (λ n. seats * n) is)

-- none waits
pub count-none : (n : ℕ) → count_of (replicate n false) ≡ 0
count-none n = let all = sum_by-replicate (λ w. cond w 1 0) n false in omega (arith, all)
