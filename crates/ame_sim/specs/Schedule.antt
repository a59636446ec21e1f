-- The text of a schedule: one line, with a sign for each seat that was picked.
use Rattle.std.specs.Prelude.{◌≡◌, ◌≢◌, ◌+◌, ◌-◌, ◌<◌, ℕ, List, ◌∷◌, ◌++◌, map, All, codes, if◌then◌else◌, nat_lt, ⊤}
use Rattle.ame_sim.specs.declared.schedule.fault.ScheduleFault.{ScheduleFault}

-- the sign of a seat: `0` to `9` for the first ten, and then `a` to `v`
abbrev pub sign : ℕ → ℕ
sign seat = if nat_lt seat 10 then 48 + seat else 97 + (seat - 10)

abbrev pub signs : List ℕ → List ℕ
signs picks = map sign picks

-- there are at most 32 seats
abbrev pub AreSeats : List ℕ → Type 0
AreSeats picks = All (λ seat. seat < 32) picks

-- the line of a schedule; it has its space even if no seat was picked
abbrev pub schedule_line : List ℕ → List ℕ
schedule_line picks = codes "schedule " ++ signs picks ++ codes "\n"

-- The text is a schedule's line, the line `program`, and the text of a program.
pub record IsScheduled (text picks program : List ℕ) : Type 0 where
  pub seats : AreSeats picks
  pub spelled : text ≡ schedule_line picks ++ (codes "program\n" ++ program)

-- why a text gives no schedule, unless memory ran out
abbrev pub ExplainsSchedule : List ℕ → ScheduleFault → Type 0
ExplainsSchedule text ScheduleFault.BadSchedule = (picks program : List ℕ) → ¬ IsScheduled text picks program
ExplainsSchedule text ScheduleFault.NoMemory = ⊤

-- a byte is the sign of this seat, or of none
pub record IsSignOf (byte seat : ℕ) : Type 0 where
  pub low : seat < 32
  pub is : byte ≡ sign seat

abbrev pub IsNoSign : ℕ → Type 0
IsNoSign byte = (seat : ℕ) → seat < 32 → byte ≢ sign seat

-- a text doesn't begin with a sign
abbrev pub BeginsWithNoSign : List ℕ → Type 0
BeginsWithNoSign text = (seat : ℕ) (rest : List ℕ) → seat < 32 → text ≢ sign seat ∷ rest

-- the signs that a text begins with are taken, all of them
pub record TakesSigns (text picks rest : List ℕ) : Type 0 where
  pub seats : AreSeats picks
  pub spelled : text ≡ signs picks ++ rest
  pub all : BeginsWithNoSign rest
