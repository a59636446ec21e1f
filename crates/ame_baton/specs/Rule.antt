-- The rule of the queue that holds the turn.
use Rattle.std.specs.Prelude.{◌≡◌, ℕ, ◌+◌, ◌<◌, ◌≤◌, ◌⊎◌, true, false, List, [], ◌∷◌, length, Some, None, IsSome, slice_get}
use mathlib.Core.Option.{some}
use lib.ListN.{get_elem?}
use Rattle.ame_baton.specs.declared.view.Knows.{Knows}
use Rattle.ame_baton.specs.declared.view.LastSeen.{LastSeen}
use Rattle.ame_baton.specs.Seats.{left_by, IsThereAsLeft, IsUntouched, Takes}

-- what is known before the first state is put in; and what a seat knows once it has joined the first one
abbrev pub nothing_known : {F R E : Type 0} → R → Knows F R E
nothing_known empty = record {
  number = 0;
  fixed = None;
  row = empty;
  seen = [];
  own = [];
  holds = false;
  rows = [];
  seats = 0;
  made = 0;
  ended = [];
}

-- what is so from the opening on: the fixed part, a row of each number, the entries, how many seats were made,
-- and what the seats 1, 2 and so on left that ended
pub record Truth (F R E : Type 0) : Type 0 where
  pub fixed : F
  pub rows : List R
  pub entries : List E
  pub made : ℕ
  pub ended : List (LastSeen R E)

-- the seat at this place has its number, and what it left is there; the first one knows which seats there are
pub record Agrees {F R E : Type 0} (seat_of : E → ℕ) (truth : Truth F R E) (place : ℕ) (k : Knows F R E) : Type 0 where
  pub number : k.number ≡ place
  pub opening : k.fixed ≡ Some truth.fixed
  pub seats : k.seats ≡ length truth.rows
  pub stays : IsThereAsLeft seat_of place (left_by k) truth.rows truth.entries
  pub leads : place ≡ 0 → (k.made ≡ truth.made) × (k.ended ≡ truth.ended)

-- the places from 1 to the number of seats that ended are spent, and every other one agrees
abbrev pub KnowsTruth : {F R E : Type 0} → (E → ℕ) → Truth F R E → ℕ → Knows F R E → Type 0
KnowsTruth seat_of truth place k =
    ((0 < place) × (place ≤ length truth.ended) × (k.fixed ≡ None) × (k.holds ≡ false))
    ⊎ (((place ≡ 0) ⊎ (length truth.ended < place)) × Agrees seat_of truth place k)

-- With an empty queue exactly one seat holds, and what it took is so. With one state in the queue no seat holds,
-- and the state stands for what is so.
abbrev pub TurnIs : {S F R E : Type 0} → (S → F → List R → List E → Type 0) → Truth F R E → List (Knows F R E) → List S → Type 0
TurnIs {F = F} {R = R} {E = E} stands_for truth views [] =
    (holder : ℕ) × (k : Knows F R E) × (get_elem? views holder ≡ some k) × (k.holds ≡ true)
    × (k.rows ≡ truth.rows) × (k.seen ≡ truth.entries)
    × ((place : ℕ) (other : Knows F R E) → get_elem? views place ≡ some other → other.holds ≡ true → place ≡ holder)
TurnIs {F = F} {R = R} {E = E} stands_for truth views (state ∷ []) =
    stands_for state truth.fixed truth.rows truth.entries
    × ((place : ℕ) (other : Knows F R E) → get_elem? views place ≡ some other → other.holds ≡ false)
TurnIs stands_for truth views (state ∷ more ∷ others) = ⊥

-- Each view agrees with what is so, what the ended seats left is there, a number with no seat is untouched,
-- and the turn is in one place.
pub record IsOpen {S F R E : Type 0} (stands_for : S → F → List R → List E → Type 0) (empty : R) (seat_of : E → ℕ)
    (truth : Truth F R E) (items : List S) (views : List (Knows F R E)) : Type 0 where
  pub made : truth.made ≡ length views
  pub enough : truth.made ≤ length truth.rows
  pub some_left : length truth.ended < truth.made
  pub each : (place : ℕ) (k : Knows F R E) → get_elem? views place ≡ some k → KnowsTruth seat_of truth place k
  pub joined : (i : ℕ) (it : LastSeen R E) → slice_get truth.ended i ≡ Some it → IsThereAsLeft seat_of (i + 1) it truth.rows truth.entries
  pub not_made : (n : ℕ) → truth.made ≤ n → IsUntouched empty seat_of n truth.rows truth.entries
  pub turn : TurnIs stands_for truth views items

-- The queue is empty and nothing is known yet; or the turn was opened, and one truth is what all views agree with.
abbrev pub Turns : {S F R E : Type 0} → (S → F → List R → List E → Type 0) → R → (E → ℕ) → List S → List (Knows F R E) → Type 0
Turns {F = F} {R = R} {E = E} stands_for empty seat_of items views =
    ((items ≡ []) × (views ≡ nothing_known empty ∷ []))
    ⊎ ((truth : Truth F R E) × IsOpen stands_for empty seat_of truth items views)

-- ---- what the first seat knows of the others
-- what the seats left that have joined this one is there, and no number is used that it has not given to a seat
pub record OthersStay {F R E : Type 0} (empty : R) (seat_of : E → ℕ) (first : Knows F R E) (rows : List R) (entries : List E) : Type 0 where
  pub ended : (i : ℕ) (it : LastSeen R E) → slice_get first.ended i ≡ Some it → IsThereAsLeft seat_of (i + 1) it rows entries
  pub not_made : (n : ℕ) → first.made ≤ n → IsUntouched empty seat_of n rows entries

-- a pop: the seat takes the state, and the first seat finds what the others left
pub record Popped {S F R E : Type 0} (stands_for : S → F → List R → List E → Type 0) (empty : R) (seat_of : E → ℕ)
    (before : Knows F R E) (state : S) (after : Knows F R E) : Type 0 where
  pub takes : Takes stands_for seat_of before state after
  pub others : before.number ≡ 0 → OthersStay empty seat_of before after.rows after.seen

-- seat 0, if it doesn't hold the turn
pub record IsFirst {F R E : Type 0} (k : Knows F R E) : Type 0 where
  pub seated : IsSome k.fixed
  pub numbered : k.number ≡ 0
  pub free : k.holds ≡ false

-- the first seat, with what the others left
abbrev pub with_ended : {F R E : Type 0} → Knows F R E → List (LastSeen R E) → Knows F R E
with_ended first ended = record first { ended = ended }
