-- A member, and a list of members by rising numbers.
use Rattle.std.specs.Prelude.{ℕ, ◌<◌, ◌==◌, Bool, true, false, cond, List, [], ◌∷◌, All, Option, Some, None, ⊤, nat_lt}
use Rattle.ame_pool.specs.declared.member.Member.{Member}
use Rattle.ame_pool.specs.declared.member.MemberStanding.{MemberStanding}

module _ {M : Type 0} where
  abbrev pub is_ready : Member M → Bool
  is_ready m = elim m.standing [ MemberStanding.Ready ↦ true | MemberStanding.Busy _ ↦ false | MemberStanding.Parked _ ↦ false ]

  abbrev pub is_busy : Member M → Bool
  is_busy m = elim m.standing [ MemberStanding.Ready ↦ false | MemberStanding.Busy _ ↦ true | MemberStanding.Parked _ ↦ false ]

  abbrev pub is_parked : Member M → Bool
  is_parked m = elim m.standing [ MemberStanding.Ready ↦ false | MemberStanding.Busy _ ↦ false | MemberStanding.Parked _ ↦ true ]

  -- each number is below those after it
  abbrev pub IsRising : List (Member M) → Type 0
  IsRising [] = ⊤
  IsRising (m ∷ ms) = All (λ o. m.number < o.number) ms × IsRising ms

  -- the member with a number
  abbrev pub find : ℕ → List (Member M) → Option (Member M)
  find number [] = None
  find number (m ∷ ms) = cond (m.number == number) (Some m) (find number ms)

  -- the list with the member of a number changed
  abbrev pub altered : ℕ → (Member M → Member M) → List (Member M) → List (Member M)
  altered number f [] = []
  altered number f (m ∷ ms) = cond (m.number == number) (f m ∷ ms) (m ∷ altered number f ms)

  -- the list with one member more, by its number
  abbrev pub placed : Member M → List (Member M) → List (Member M)
  placed new [] = new ∷ []
  placed new (m ∷ ms) = cond (nat_lt new.number m.number) (new ∷ m ∷ ms) (m ∷ placed new ms)

  -- the list without the member of a number
  abbrev pub except : ℕ → List (Member M) → List (Member M)
  except number [] = []
  except number (m ∷ ms) = cond (m.number == number) ms (m ∷ except number ms)
