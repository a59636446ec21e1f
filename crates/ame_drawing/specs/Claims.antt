-- The entries of a journal, as attempts show them.
use Rattle.std.specs.Prelude.{◌≡◌, ℕ, zero, suc, ◌+◌, ◌==◌, if◌then◌else◌, List, [], ◌∷◌, ◌++◌, length, Option, Some, None}
use Rattle.std.specs.List.{flat_map}
use Rattle.ame_journal.specs.declared.entry.Entry.{Entry}
use Rattle.ame_drawing.specs.declared.claim.Claim.{Claim}
use Rattle.ame_drawing.specs.declared.lane.DrawnAttempt.{DrawnAttempt}
use Rattle.ame_drawing.specs.declared.lane.Entered.{Entered}

-- the entry that an attempt made, as it shows it
abbrev pub claim_by : DrawnAttempt → Option Entered → List Claim
claim_by attempt None = []
claim_by attempt (Some entry) = record { number = entry.number; kind = entry.kind; seat = attempt.seat; member = attempt.member } ∷ []

abbrev pub claim_in : DrawnAttempt → List Claim
claim_in attempt = claim_by attempt attempt.entry

-- entry n, as its attempt has to show it
abbrev pub claim_of : ℕ → Entry → Claim
claim_of n entry = record { number = n; kind = entry.kind; seat = entry.seat; member = entry.number }

-- the entries of a seat, as attempts have to show them; the first of all entries is entry n
abbrev pub claims_on : ℕ → ℕ → List Entry → List Claim
claims_on seat n [] = []
claims_on seat n (entry ∷ entries) =
    if entry.seat == seat then claim_of n entry ∷ claims_on seat (n + 1) entries else claims_on seat (n + 1) entries

-- the same for a number of seats, seat by seat
abbrev pub claims_below : ℕ → List Entry → List Claim
claims_below zero entries = []
claims_below (suc seats) entries = claims_below seats entries ++ claims_on seats 1 entries

-- Attempts show the entries one for one: seat by seat exactly those that the seat made, in order, each with its number, kind and member.
pub record TellEntries (seats : ℕ) (entries : List Entry) (attempts : List DrawnAttempt) : Type 0 where
  pub each : flat_map claim_in attempts ≡ claims_below seats entries
  pub all : length (flat_map claim_in attempts) ≡ length entries
