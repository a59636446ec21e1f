-- A seat's row and entries when it takes the turn and gives it, and the rows at the end.
use Rattle.std.specs.Prelude.{◌≡◌, ◌≢◌, ℕ, ◌≤◌, ◌⊎◌, true, false, List, ◌++◌, length, map, All, Some, slice_get}
use mathlib.Core.List.{IsPrefix}
use Rattle.ame_baton.specs.declared.view.Knows.{Knows}
use Rattle.ame_baton.specs.declared.view.LastSeen.{LastSeen}
use Rattle.ame_baton.specs.Seats.{entries_by}

-- what no turn changes: the seat's number, the fixed part, how many seats there can be, and what seat 0 knows of the others
pub record KeepsSeat {F R E : Type 0} (before after : Knows F R E) : Type 0 where
  pub number : after.number ≡ before.number
  pub fixed : after.fixed ≡ before.fixed
  pub seats : after.seats ≡ before.seats
  pub made : after.made ≡ before.made
  pub ended : after.ended ≡ before.ended

-- the seat took the turn, and finds its row and its entries as it left them; what other seats added meanwhile comes after those that it had seen
pub record FindsAsLeft {F R E : Type 0} (seat_of : E → ℕ) (before after : Knows F R E) : Type 0 where
  pub keeps : KeepsSeat before after
  pub holds : after.holds ≡ true
  pub row : after.row ≡ before.row
  pub own : after.own ≡ before.own
  pub found : slice_get after.rows after.number ≡ Some before.row
  pub goes_on : IsPrefix before.seen after.seen
  pub each : entries_by seat_of after.number after.seen ≡ before.own
  pub others : List E
  pub seen : after.seen ≡ before.seen ++ others
  pub apart : All (λ e. seat_of e ≢ before.number) others

-- the seat gave the turn: its row is one that it may leave, and after the entries come new ones of its own
pub record HasGiven {F R E : Type 0} (seat_of : E → ℕ) (leaves : R → Type 0) (before after : Knows F R E) : Type 0 where
  pub keeps : KeepsSeat before after
  pub free : after.holds ≡ false
  pub row : leaves after.row
  pub added : List E
  pub by_seat : All (λ e. seat_of e ≡ before.number) added
  pub seen : after.seen ≡ before.seen ++ added
  pub own : after.own ≡ before.own ++ added

-- the relation determines what each row shows, by the state alone
abbrev pub ShowsRows : {S F R E T : Type 0} → (S → F → List R → List E → Type 0) → (R → T) → (S → List T) → Type 0
ShowsRows {S} {F} {R} {E} stands_for shown rows_in =
    (state : S) (fixed : F) (rows : List R) (entries : List E) → stands_for state fixed rows entries → rows_in state ≡ map shown rows

-- the relation determines the entries, by the state alone
abbrev pub ShowsEntries : {S F R E : Type 0} → (S → F → List R → List E → Type 0) → (S → List E) → Type 0
ShowsEntries {S} {F} {R} {E} stands_for entries_in =
    (state : S) (fixed : F) (rows : List R) (entries : List E) → stands_for state fixed rows entries → entries_in state ≡ entries

-- the row is the one that the seat with this number left, or the empty one if there was no such seat
abbrev pub IsLeftOrEmpty : {R E : Type 0} → R → List (LastSeen R E) → ℕ → R → Type 0
IsLeftOrEmpty {R} {E} empty seats n row = ((it : LastSeen R E) × (slice_get seats n ≡ Some it) × (row ≡ it.row)) ⊎ ((length seats ≤ n) × (row ≡ empty))
