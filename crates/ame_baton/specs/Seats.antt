-- The knowledge of a seat, and what it may say of the state when it takes the turn, gives it and ends.
use Rattle.std.specs.Prelude.{◌≡◌, ◌≢◌, ℕ, ◌<◌, ◌≤◌, ◌==◌, true, false, List, [], ◌++◌, length, filter, All, Option, Some, IsSomeAnd, slice_get, slice_set}
use mathlib.Core.List.{IsPrefix}
use Rattle.ame_baton.specs.declared.view.Knows.{Knows}
use Rattle.ame_baton.specs.declared.view.LastSeen.{LastSeen}

-- the entries of one seat, in their order
abbrev pub entries_by : {E : Type 0} → (E → ℕ) → ℕ → List E → List E
entries_by seat_of number entries = filter (λ e. seat_of e == number) entries

-- what a seat leaves: its row, the entries that it has seen, and its own
abbrev pub left_by : {F R E : Type 0} → Knows F R E → LastSeen R E
left_by k = record { row = k.row; seen = k.seen; own = k.own }

-- The row and entries left under a number are there: its row is the row that was left, the entries go on from those that were seen,
-- and the entries of that number are its own, each once and in order. All of these were seen.
pub record IsThereAsLeft {R E : Type 0} (seat_of : E → ℕ) (number : ℕ) (it : LastSeen R E) (rows : List R) (entries : List E) : Type 0 where
  pub row : slice_get rows number ≡ Some it.row
  pub goes_on : IsPrefix it.seen entries
  pub own : entries_by seat_of number entries ≡ it.own
  pub seen : entries_by seat_of number it.seen ≡ it.own

-- no seat has had the number: its row, if there is one, is the empty one, and it has no entries
pub record IsUntouched {R E : Type 0} (empty : R) (seat_of : E → ℕ) (number : ℕ) (rows : List R) (entries : List E) : Type 0 where
  pub row : (r : R) → slice_get rows number ≡ Some r → r ≡ empty
  pub none : entries_by seat_of number entries ≡ []

-- seat 0 of a baton for this number of seats, as it is made
abbrev pub first_seat : {F R E : Type 0} → F → ℕ → R → Knows F R E
first_seat fixed seats empty = record {
  number = 0;
  fixed = Some fixed;
  row = empty;
  seen = [];
  own = [];
  holds = false;
  rows = [];
  seats = seats;
  made = 1;
  ended = [];
}

-- the next seat, as seat 0 makes it: it has seen what seat 0 has seen
abbrev pub next_seat : {F R E : Type 0} → Knows F R E → R → Knows F R E
next_seat k empty = record k { number = k.made; row = empty; own = []; holds = false; rows = []; made = 0; ended = [] }

-- The seat took this state. It stands for the fixed part that the seat knows, and for the rows and the entries
-- that the seat knows from now on, in which what the seat left is there.
pub record Takes {S F R E : Type 0} (stands_for : S → F → List R → List E → Type 0) (seat_of : E → ℕ)
    (before : Knows F R E) (state : S) (after : Knows F R E) : Type 0 where
  pub stands : IsSomeAnd before.fixed (λ fixed. stands_for state fixed after.rows after.seen)
  pub one_row_a_seat : length after.rows ≡ before.seats
  pub stays : IsThereAsLeft seat_of before.number (left_by before) after.rows after.seen
  pub rest : after ≡ record before { holds = true; rows = after.rows; seen = after.seen }

-- the turn may be with another seat; for the first seat, with one that it made and that has not ended
abbrev pub IsElsewhere : {F R E : Type 0} → Knows F R E → Type 0
IsElsewhere k = (n : ℕ) × (n ≢ k.number) × (n < k.seats) × (k.number ≡ 0 → (length k.ended < n) × (n < k.made))

-- The seat may give this state: it stands for the rows as taken but for the seat's own, and for the entries as taken
-- and then new ones of this seat.
pub record MayGive {S F R E : Type 0} (stands_for : S → F → List R → List E → Type 0) (seat_of : E → ℕ) (leaves : R → Type 0)
    (k : Knows F R E) (state : S) : Type 0 where
  pub row : R
  pub added : List E
  pub stands : IsSomeAnd k.fixed (λ fixed. stands_for state fixed (slice_set k.rows k.number row) (k.seen ++ added))
  pub by_seat : All (λ e. seat_of e ≡ k.number) added
  pub leaves_row : leaves row

-- what the seat knows once it gave a state with this row of its own and these new entries
abbrev pub having_given : {F R E : Type 0} → Knows F R E → R → List E → Knows F R E
having_given k row added = record k { row = row; seen = k.seen ++ added; own = k.own ++ added; holds = false; rows = [] }

-- the seat gave a state that it may give, and knows what it left
abbrev pub Gives : {S F R E : Type 0} → (S → F → List R → List E → Type 0) → (E → ℕ) → (R → Type 0)
    → Knows F R E → S → Knows F R E → Type 0
Gives stands_for seat_of leaves before state after =
    (it : MayGive stands_for seat_of leaves before state) × (after ≡ having_given before it.row it.added)

-- At the end the state stands for the fixed part of the opening. What each seat left is there, in the order of their
-- numbers, and no other number was ever used.
pub record HasEnded {S F R E : Type 0} (stands_for : S → F → List R → List E → Type 0) (empty : R) (seat_of : E → ℕ)
    (fixed : Option F) (seats : List (LastSeen R E)) (state : S) : Type 0 where
  pub rows : List R
  pub entries : List E
  pub stands : IsSomeAnd fixed (λ f. stands_for state f rows entries)
  pub stays : (n : ℕ) (it : LastSeen R E) → slice_get seats n ≡ Some it → IsThereAsLeft seat_of n it rows entries
  pub not_made : (n : ℕ) → length seats ≤ n → IsUntouched empty seat_of n rows entries
