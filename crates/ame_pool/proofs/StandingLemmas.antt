-- The facts of a member's standing, and the standing after a turn.
use Rattle.std.proofs.Common.{◌≡◌, ◌≤◌, ℕ, Bool, true, false, refl, arith}
use Rattle.ame_pool.proofs.Words.{Member, MemberStanding, Transition, is_ready, is_busy, rolled, settled, is_touched, stirred, is_waiting_for, untouched, is_away, after_transition, is_readied}
use Rattle.ame_pool.proofs.MemberLemmas.{standing_is}

abbrev ready : MemberStanding → Bool
ready s = elim s [ MemberStanding.Ready ↦ true | MemberStanding.Busy _ ↦ false | MemberStanding.Parked _ ↦ false ]

-- eight rollbacks are the most
rolled_le : (b : Bool) (r : ℕ) → r ≤ 8 → rolled b r ≤ 8
rolled_le b r h = elim b as (λ v. rolled v r ≤ 8) [ true ↦ omega arith | false ↦ h ]

-- ---- a turn of one that isn't ready
settled_ready : (s : MemberStanding) → ready s ≡ false → ready (settled s) ≡ is_touched s
settled_ready s h = grind (arith, standing_is s, h)

stirred_ready : (l : ℕ) (s : MemberStanding) → ready s ≡ false → ready (stirred l s) ≡ is_waiting_for l s
stirred_ready l s h = grind (arith, standing_is s, h)

pub settled_untouched : (s : MemberStanding) → untouched (settled s) ≡ untouched s
settled_untouched s = grind (arith, standing_is s)

module _ {M : Type 0} where
  -- a turn keeps the number and no more than eight rollbacks, and who isn't ready is ready then if the turn says so
  pub record IsTurn (to : Transition M) (m : Member M) : Type 0 where
    pub number : (after_transition to m).number ≡ m.number
    pub few : m.rollbacks ≤ 8 → (after_transition to m).rollbacks ≤ 8
    pub ready : is_ready m ≡ false → is_ready (after_transition to m) ≡ is_readied to m

  pub turn_is : (to : Transition M) (m : Member M) → IsTurn to m
  turn_is Transition.Begin m = record { number = refl; few = λ h. h; ready = λ h. refl }
  turn_is (Transition.Home b) m = record { number = refl; few = rolled_le b m.rollbacks; ready = λ h. refl }
  turn_is (Transition.Renew x i) m = record { number = refl; few = λ h. omega arith; ready = λ h. refl }
  turn_is (Transition.Watch locs) m = record { number = refl; few = λ h. omega arith; ready = λ h. refl }
  turn_is Transition.Settle m = record { number = refl; few = λ h. h; ready = settled_ready m.standing }
  turn_is (Transition.Stir l) m = record { number = refl; few = λ h. h; ready = stirred_ready l.0 m.standing }

  pub turned_number : (to : Transition M) (m : Member M) → (after_transition to m).number ≡ m.number
  turned_number to m = (turn_is to m).number

  -- ---- who is away
  pub away_unready : (m : Member M) → is_away m ≡ true → is_ready m ≡ false
  away_unready m h = grind (arith, standing_is m.standing, h)

  pub busy_away : (m : Member M) → is_busy m ≡ true → is_away m ≡ true
  busy_away m h = grind (arith, standing_is m.standing, h)
