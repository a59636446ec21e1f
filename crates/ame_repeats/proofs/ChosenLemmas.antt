-- One strategy picks the same seats in both runs.
use Rattle.std.proofs.Common.{◌≡◌, ℕ, ◌%◌, Bool, false, List, [], ◌∷◌, ◌++◌, length, Option, Some, None, refl, sym, ap, ◌∙◌, subst}
use Rattle.std.specs.Prelude.{IsSome, replicate, slice_index_or}
use Rattle.ame_gen.specs.Stream.{next}
use Rattle.ame_machine.specs.Meaning.{Meaning}
use Rattle.ame_protocol.specs.declared.stop.Stop.{Stop}
use Rattle.ame_protocol.specs.Event.EngineState.{EngineState}
use Rattle.ame_engine.specs.Makes.{state_of}
use Rattle.ame_engine.specs.Ending.{End}
use Rattle.ame_protocol.specs.declared.types.Limits.{Limits}
use Rattle.ame_shell.specs.Shell.{Opening, ShellView}
use Rattle.ame_sim.specs.declared.made.Made.{Made}
use Rattle.ame_sim.specs.Drawn.{drawn}
use Rattle.ame_sim.specs.Listed.{picked_as_listed, first_that_may, or_first}
use Rattle.ame_sim.specs.Picks.{picked_by, picks_of}
use Rattle.ame_sim.specs.Played.{Plays}
use Rattle.ame_sim.specs.Questions.{questions_along, seats_of, waits_after}
use Rattle.ame_sim.specs.Strategy.{PicksSeats}
use Rattle.ame_sim.specs.Waits.{may_be_picked}
use Rattle.ame_repeats.specs.Answers.{AreAnsweredAlike, is_fault}
use Rattle.ame_repeats.specs.Played.{ArePicksOf, AreOfOneProgram, AreOfTheSameSeats, EndsAlike, IsUnfailed}
use Rattle.ame_repeats.proofs.PlayLemmas.{pick-again, fine-first, mid-alike, both-run, run-again}

-- A strategy that answers one question after the other.
pub record Asks {S : Type 0} (run : S → List (List ℕ) → List ℕ) : Type 0 where
  pub pick : S → List ℕ → ℕ
  pub later : S → S
  pub steps : (x : S) (may : List ℕ) (rest : List (List ℕ)) → run x (may ∷ rest) ≡ pick x may ∷ run (later x) rest

pub asks-drawn : Asks drawn
asks-drawn = record { pick = λ x may. slice_index_or may (next x % length may) 0; later = next; steps = λ x may rest. refl }

abbrev list-pick : List ℕ → List ℕ → ℕ
list-pick [] may = first_that_may may
list-pick (seat ∷ seats) may = or_first seat may

abbrev list-later : List ℕ → List ℕ
list-later [] = []
list-later (seat ∷ seats) = seats

list-steps : (x may : List ℕ) (rest : List (List ℕ)) → picked_as_listed x (may ∷ rest) ≡ list-pick x may ∷ picked_as_listed (list-later x) rest
list-steps [] may rest = refl
list-steps (seat ∷ seats) may rest = refl

pub asks-listed : Asks picked_as_listed
asks-listed = record { pick = list-pick; later = list-later; steps = list-steps }

module _ {S : Type 0} (run : S → List (List ℕ) → List ℕ) (asks : Asks run) where
  first-picked : (x : S) (may : List ℕ) (asked : List (List ℕ)) (seat : ℕ) (picked : List ℕ) (after : List (List ℕ) → List ℕ)
      → PicksSeats (run x) (may ∷ asked) (seat ∷ picked) after → seat ≡ asks.pick x may
  first-picked x may asked seat picked after h =
      let both : asks.pick x may ∷ run (asks.later x) (asked ++ []) ≡ seat ∷ (picked ++ after []) = sym (asks.steps x may (asked ++ [])) ∙ h [] in cc

  others-picked : (x : S) (may : List ℕ) (asked : List (List ℕ)) (seat : ℕ) (picked : List ℕ) (after : List (List ℕ) → List ℕ)
      → PicksSeats (run x) (may ∷ asked) (seat ∷ picked) after → PicksSeats (run (asks.later x)) asked picked after
  others-picked x may asked seat picked after h rest =
      let both : asks.pick x may ∷ run (asks.later x) (asked ++ rest) ≡ seat ∷ (picked ++ after rest) = sym (asks.steps x may (asked ++ rest)) ∙ h rest in cc

  module _ {C V M : Type 0} (meaning : Meaning C V M) where
    pub some-apart : (o : Option Stop) → o ≡ None → IsSome o → ⊥
    some-apart None e h = cc
    some-apart (Some why) e h = cc

    -- state and stop of a shell
    pub stop-one : (old other : ShellView C V M) → state_of meaning old.core ≡ state_of meaning other.core → old.core.stop ≡ other.core.stop
    stop-one old other same = ap (λ (z : EngineState). z.stop) same

    pub chosen-seats : (x : S) (waits : List Bool) (after next-after : List (List ℕ) → List ℕ) (mades others : List Made) (first last other end : ShellView C V M)
        (plays : Plays meaning mades first last) (again : Plays meaning others other end)
        → state_of meaning first.core ≡ state_of meaning other.core → IsSome last.core.stop → IsSome end.core.stop → is_fault last.core.stop ≡ false → is_fault end.core.stop ≡ false → AreAnsweredAlike last.core.entries end.core.entries
        → PicksSeats (run x) (questions_along waits (picks_of mades)) (seats_of (picks_of mades)) after
        → PicksSeats (run x) (questions_along waits (picks_of others)) (seats_of (picks_of others)) next-after → AreOfTheSameSeats mades others
    chosen-seats x waits after next-after [] [] first last other end plays again same ends stops fine well alike h i = refl
    chosen-seats x waits after next-after [] (o ∷ others) first last other end plays again same ends stops fine well alike h i =
        absurd (some-apart last.core.stop (ap (λ (z : ShellView C V M). z.core.stop) plays ∙ stop-one first other same ∙ again.1) ends)
    chosen-seats x waits after next-after (m ∷ mades) [] first last other end plays again same ends stops fine well alike h i =
        absurd (some-apart end.core.stop (ap (λ (z : ShellView C V M). z.core.stop) again ∙ sym (stop-one first other same) ∙ plays.1) stops)
    chosen-seats x waits after next-after (m ∷ mades) (o ∷ others) first last other end plays again same ends stops fine well alike h i =
        let may = may_be_picked waits in
        let here = first-picked x may (questions_along (waits_after waits (picked_by m)) (picks_of mades)) m.seat (seats_of (picks_of mades)) after h in
        let there = first-picked x may (questions_along (waits_after waits (picked_by o)) (picks_of others)) o.seat (seats_of (picks_of others)) next-after i in
        let seat : o.seat ≡ m.seat = there ∙ sym here in
        let one = pick-again meaning m o first plays.0 other again.0 same plays.1 plays.2 again.2 seat
        (fine-first meaning mades plays.0 last plays.3 fine) (fine-first meaning others again.0 end again.3 well)
        (mid-alike meaning mades others plays.0 last again.0 end plays.3 again.3 fine well alike) in
        let tail = others-picked x may (questions_along (waits_after waits (picked_by m)) (picks_of mades)) m.seat (seats_of (picks_of mades)) after h in
        let tail' = others-picked x may (questions_along (waits_after waits (picked_by o)) (picks_of others)) o.seat (seats_of (picks_of others)) next-after i in
        let moved = subst (λ (z : Made). PicksSeats (run (asks.later x)) (questions_along (waits_after waits (picked_by z)) (picks_of others)) (seats_of (picks_of others)) next-after) one.same tail' in
        let rest = chosen-seats (asks.later x) (waits_after waits (picked_by m)) after next-after mades others plays.0 last again.0 end plays.3 again.3 one.leads
        ends stops fine well alike tail moved in
        ap (λ n. n ∷ seats_of (picks_of others)) seat ∙ ap (λ ns. m.seat ∷ ns) rest

  module _ {C V M : Type 0} (meaning : Meaning C V M) (opening other : Opening C) (mades others : List Made) (end last : End V) (x : IsUnfailed meaning opening mades end)
      (y : IsUnfailed meaning other others last) (one : AreOfOneProgram meaning opening other) (alike : AreAnsweredAlike end.entries last.entries) where
    pub chosen-again : (s : S) → ArePicksOf (run s) opening.limits.seats mades → ArePicksOf (run s) other.limits.seats others → (others ≡ mades) × EndsAlike end last
    chosen-again s h i =
        let both = both-run meaning opening other mades others end last x y one alike in
        let p = x.played in
        let q = y.played in
        let moved : PicksSeats (run s) (questions_along (replicate opening.limits.seats false) (picks_of others)) (seats_of (picks_of others)) i.later =
        subst (λ (l : Limits). PicksSeats (run s) (questions_along (replicate l.seats false) (picks_of others)) (seats_of (picks_of others)) i.later) one.limits i.answers in
        run-again meaning opening other mades others end last x y one
        (chosen-seats meaning s (replicate opening.limits.seats false) h.later i.later mades others p.first p.playing.last q.first q.playing.last p.playing.plays q.playing.plays
        both.starts both.stopped both.halted both.fine both.well both.ends h.answers moved) alike
