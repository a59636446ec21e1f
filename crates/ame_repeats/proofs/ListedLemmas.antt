-- The list of the seats that a run picked picks them again.
use Rattle.std.proofs.Common.{◌≡◌, ℕ, ◌==◌, Bool, false, List, [], ◌∷◌, ◌++◌, get_or, if◌then◌else◌, refl, sym, ap, ◌∙◌, subst}
use Rattle.std.specs.Prelude.{Contains, IsSome, replicate}
use Rattle.std.proofs.lemmas.Bool.{eq-eqb}
use Rattle.std.proofs.lemmas.List.Folds.{list_any_at}
use Rattle.ame_machine.specs.Meaning.{Meaning}
use Rattle.ame_protocol.specs.declared.types.Limits.{Limits}
use Rattle.ame_engine.specs.Makes.{state_of}
use Rattle.ame_engine.specs.Ending.{End}
use Rattle.ame_shell.specs.Shell.{Opening, ShellView}
use Rattle.ame_sim.specs.declared.made.Made.{Made}
use Rattle.ame_sim.specs.Listed.{picked_as_listed, first_that_may, or_first}
use Rattle.ame_sim.specs.Picks.{picked_by, picks_of}
use Rattle.ame_sim.specs.Played.{Plays}
use Rattle.ame_sim.specs.Questions.{questions_along, seats_of, waits_after, AreAnswers}
use Rattle.ame_sim.specs.Strategy.{PicksSeats}
use Rattle.ame_sim.specs.Waits.{may_be_picked}
use Rattle.ame_repeats.specs.Answers.{AreAnsweredAlike, is_fault}
use Rattle.ame_repeats.specs.Played.{ArePicksOf, AreOfOneProgram, AreOfTheSameSeats, EndsAlike, IsUnfailed}
use Rattle.ame_repeats.proofs.PlayLemmas.{pick-again, fine-first, mid-alike, both-run, run-again}
use Rattle.ame_repeats.proofs.ChosenLemmas.{asks-listed, some-apart, stop-one}

-- a seat of the list that may be picked is picked
listed-may : (seat : ℕ) (may : List ℕ) → Contains may seat → or_first seat may ≡ seat
listed-may seat may there =
    ap (λ (b : Bool). if b then seat else first_that_may may)
    (list_any_at (λ (s : ℕ). s == seat) may there.0 seat there.1 (eq-eqb (get_or may there.0 seat) seat there.2))

module _ (seat : ℕ) (seats may : List ℕ) (asked : List (List ℕ)) (next : ℕ) (picked : List ℕ) (after : List (List ℕ) → List ℕ)
    (h : PicksSeats (picked_as_listed (seat ∷ seats)) (may ∷ asked) (next ∷ picked) after) where
  first-listed : next ≡ or_first seat may
  first-listed = let both : or_first seat may ∷ picked_as_listed seats (asked ++ []) ≡ next ∷ (picked ++ after []) = h [] in cc

  others-listed : PicksSeats (picked_as_listed seats) asked picked after
  others-listed rest = let both : or_first seat may ∷ picked_as_listed seats (asked ++ rest) ≡ next ∷ (picked ++ after rest) = h rest in cc

module _ {C V M : Type 0} (meaning : Meaning C V M) where
  listed-seats : (waits : List Bool) (after : List (List ℕ) → List ℕ) (mades others : List Made) (first last other end : ShellView C V M)
      (plays : Plays meaning mades first last) (again : Plays meaning others other end)
      → state_of meaning first.core ≡ state_of meaning other.core → IsSome last.core.stop → IsSome end.core.stop → is_fault last.core.stop ≡ false
      → is_fault end.core.stop ≡ false → AreAnsweredAlike last.core.entries end.core.entries → AreAnswers waits (picks_of mades)
      → PicksSeats (picked_as_listed (seats_of (picks_of mades))) (questions_along waits (picks_of others)) (seats_of (picks_of others)) after
      → AreOfTheSameSeats mades others
  listed-seats waits after [] [] first last other end plays again same ends stops fine well alike asked h = refl
  listed-seats waits after [] (o ∷ others) first last other end plays again same ends stops fine well alike asked h =
      absurd (some-apart picked_as_listed asks-listed meaning last.core.stop
      (ap (λ (z : ShellView C V M). z.core.stop) plays ∙ stop-one picked_as_listed asks-listed meaning first other same ∙ again.1) ends)
  listed-seats waits after (m ∷ mades) [] first last other end plays again same ends stops fine well alike asked h =
      absurd (some-apart picked_as_listed asks-listed meaning end.core.stop
      (ap (λ (z : ShellView C V M). z.core.stop) again ∙ sym (stop-one picked_as_listed asks-listed meaning first other same) ∙ plays.1) stops)
  listed-seats waits after (m ∷ mades) (o ∷ others) first last other end plays again same ends stops fine well alike asked h =
      let may = may_be_picked waits in
      let listed = seats_of (picks_of mades) in
      let questions = questions_along (waits_after waits (picked_by o)) (picks_of others) in
      let seat : o.seat ≡ m.seat =
      first-listed m.seat listed may questions o.seat (seats_of (picks_of others)) after h ∙ listed-may m.seat may asked.0 in
      let one = pick-again meaning m o first plays.0 other again.0 same plays.1 plays.2 again.2 seat
      (fine-first meaning mades plays.0 last plays.3 fine) (fine-first meaning others again.0 end again.3 well)
      (mid-alike meaning mades others plays.0 last again.0 end plays.3 again.3 fine well alike) in
      let tail = others-listed m.seat listed may questions o.seat (seats_of (picks_of others)) after h in
      let moved = subst (λ (z : Made). PicksSeats (picked_as_listed listed) (questions_along (waits_after waits (picked_by z)) (picks_of others))
      (seats_of (picks_of others)) after) one.same tail in
      let rest = listed-seats (waits_after waits (picked_by m)) after mades others plays.0 last again.0 end plays.3 again.3 one.leads
      ends stops fine well alike asked.1 moved in
      ap (λ (n : ℕ). n ∷ seats_of (picks_of others)) seat ∙ ap (λ (ns : List ℕ). m.seat ∷ ns) rest

  module _ (opening other : Opening C) (mades others : List Made) (end last : End V) (x : IsUnfailed meaning opening mades end)
      (y : IsUnfailed meaning other others last) (one : AreOfOneProgram meaning opening other) (alike : AreAnsweredAlike end.entries last.entries) where
    pub listed-again : ArePicksOf (picked_as_listed (seats_of (picks_of mades))) other.limits.seats others → (others ≡ mades) × EndsAlike end last
    listed-again i =
        let both = both-run meaning opening other mades others end last x y one alike in
        let p = x.played in
        let q = y.played in
        let listed = seats_of (picks_of mades) in
        let moved : PicksSeats (picked_as_listed listed) (questions_along (replicate opening.limits.seats false) (picks_of others)) (seats_of (picks_of others)) i.later =
        subst (λ (l : Limits). PicksSeats (picked_as_listed listed) (questions_along (replicate l.seats false) (picks_of others)) (seats_of (picks_of others)) i.later)
        one.limits i.answers in
        run-again meaning opening other mades others end last x y one
        (listed-seats (replicate opening.limits.seats false) i.later mades others p.first p.playing.last q.first q.playing.last p.playing.plays q.playing.plays
        both.starts both.stopped both.halted both.fine both.well both.ends p.playing.told.asked moved) alike
