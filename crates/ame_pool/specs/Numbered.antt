-- Numbers and the slots that they lead to.
use Rattle.std.specs.Prelude.{◌≡◌, ℕ, ◌<◌, ◌≤◌, ◌+◌, ◌==◌, cond, List, [], ◌∷◌, length, All, Option, Some, None, ⊤, nat_lt, vec_len, vec_capacity}
use Rattle.std.specs.Global.{Vec}
use Rattle.std.specs.List.{HoldsAt, AllWithin}
use Rattle.slab.specs.Slab.{Slab, ContainsKey, HasRoomFor, get}
use Rattle.ame_pool.specs.declared.member.Member.{Member}
use Rattle.ame_pool.specs.Members.{find}
use Rattle.ame_pool.specs.declared.numbers.Numbered.{Numbered}

-- each entry's number is below those after it
abbrev pub AreRising : List Numbered → Type 0
AreRising [] = ⊤
AreRising (e ∷ es) = All (λ o. e.number < o.number) es × AreRising es

-- the entry of the number stands at this place
abbrev pub IsEntryOf : ℕ → List Numbered → ℕ → Type 0
IsEntryOf number es i = (i < length es) × HoldsAt (λ e. e.number ≡ number) es i

-- no entry has the number, and this is its place
pub record IsEntryGap (number : ℕ) (es : List Numbered) (i : ℕ) : Type 0 where
  pub within : i ≤ length es
  pub before : AllWithin (λ e. e.number < number) es 0 i
  pub after : AllWithin (λ e. number < e.number) es i (length es)

-- the slot that the number leads to
abbrev pub key_of : ℕ → List Numbered → Option ℕ
key_of number [] = None
key_of number (e ∷ es) = cond (e.number == number) (Some e.key) (key_of number es)

-- the entries with this one at its place, in place of one that has its number
abbrev pub filed : Numbered → List Numbered → List Numbered
filed new [] = new ∷ []
filed new (e ∷ es) = cond (nat_lt new.number e.number) (new ∷ e ∷ es) (cond (e.number == new.number) (new ∷ es) (e ∷ filed new es))

module _ {M : Type 0} where
  -- a member, if it has this number
  abbrev pub only : ℕ → Option (Member M) → Option (Member M)
  only number None = None
  only number (Some m) = cond (m.number == number) (Some m) None

  -- the list with one member more at its head, if there is one
  abbrev pub behind : Option (Member M) → List (Member M) → List (Member M)
  behind None ms = ms
  behind (Some m) ms = m ∷ ms

  -- the members that the entries lead to; an entry is stale if its slot has no member with its number
  abbrev pub members_at : (ℕ → Option (Member M)) → List Numbered → List (Member M)
  members_at at [] = []
  members_at at (e ∷ es) = behind (only e.number (at e.key)) (members_at at es)

  -- rising numbers, and places for those who may join
  pub record AreNumberedSlots (slots : Slab (Member M)) (numbers : Vec Numbered) (room : ℕ) : Type 0 where
    pub rising : AreRising numbers.items
    pub slots_fit : HasRoomFor slots room
    pub numbers_fit : vec_len numbers + room ≤ vec_capacity numbers

  -- the number leads to this slot, and its member is there
  pub record IsSlotOf (slots : Slab (Member M)) (es : List Numbered) (number key : ℕ) : Type 0 where
    pub rising : AreRising es
    pub keyed : key_of number es ≡ Some key
    pub found : find number (members_at (get slots) es) ≡ get slots key
    pub there : ContainsKey slots key
