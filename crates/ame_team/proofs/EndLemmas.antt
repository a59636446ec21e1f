-- The end, once all workers are through.
use Rattle.std.proofs.Common.{◌≡◌, ℕ, zero, suc, ◌+◌, ◌<◌, ◌≤◌, ◌==◌, eq-eqb, ◌⊎◌, inl, inr, Bool, true, false, cond, List, [], ◌∷◌, length, All, Option, Some, IsSome, IsSomeAnd, slice_get, refl, sym, ap, ◌∙◌, subst, arith}
use Rattle.std.specs.Prelude.{option_map}
use Rattle.std.proofs.lemmas.Bool.{cases_lt}
use Rattle.std.proofs.lemmas.List.{get_or_past, length-map}
use Rattle.std.proofs.lemmas.List.Elements.{All-nil, All-cons}
use Rattle.std.proofs.lemmas.List.FromFn.{get_or-map-range_with_len, length-map-range_with_len}
use Rattle.std.proofs.lemmas.Option.{slice_get-map, slice_get-get_or}
use Rattle.ame_protocol.specs.declared.types.Task.{Task}
use Rattle.ame_protocol.specs.Engine.Parts.{task_at}
use Rattle.ame_engine.specs.Ending.{End, end_of}
use Rattle.ame_machine.specs.Meaning.{Meaning}
use Rattle.ame_shell.specs.Shell.{ShellView}
use Rattle.ame_baton.specs.declared.seats.SeatAt.{SeatAt}
use Rattle.ame_baton.specs.declared.view.LastSeen.{LastSeen}
use Rattle.ame_baton.specs.Batons.{knows, left_by_each}
use Rattle.ame_baton.specs.Seats.{entries_by, left_by, IsThereAsLeft, IsUntouched}
use Rattle.ame_baton.proofs.Lookups.{get_there}
use Rattle.ame_worker.specs.Rows.{Kept, SeatRow, empty_row, kept_at, row_of, rows_in}
use Rattle.ame_worker.specs.Shared.{OpenedView, IsShared}
use Rattle.ame_worker.specs.Turns.{TurnView, AreTurnsBetween, maker}
use Rattle.ame_worker.specs.Workers.{IsThrough}
use Rattle.ame_team.specs.Teams.{HasBeenLedBy}

pub some-and : {F : Type 0} (P : F → Type 0) (o : Option F) (f : F) → o ≡ Some f → IsSomeAnd o P → P f
some-and {F} P o f e h = subst (λ (x : Option F). IsSomeAnd x P) e h

some-is : {A : Type 0} (a b : A) → Some a ≡ Some b → a ≡ b
some-is a b e = cc

-- if an item is kept some are, and otherwise those that are kept later
kept-some : {A : Type 0} (b : Bool) (x : A) (xs : List A) → b ≡ true → cond b (x ∷ xs) xs ≡ [] → ⊥
kept-some b x xs is none = cc

kept-later : {A : Type 0} (b : Bool) (x : A) (xs : List A) → cond b (x ∷ xs) xs ≡ [] → xs ≡ []
kept-later true x xs none = cc
kept-later false x xs none = none

-- if no other seat had turns, each turn is of one of the seats
by-seats : {C V M : Type 0} (count : ℕ) (turns : List (TurnView C V M)) → ((n : ℕ) → count ≤ n → entries_by maker n turns ≡ []) → All (λ t. t.seat < count) turns
by-seats {C} {V} {M} count [] none = All-nil (λ (t : TurnView C V M). t.seat < count)
by-seats {C} {V} {M} count (t ∷ ts) none =
    All-cons (λ (t : TurnView C V M). t.seat < count) t ts (here (cases_lt t.seat count))
    (by-seats count ts (λ n beyond. kept-later (t.seat == n) t (entries_by maker n ts) (none n beyond)))
  where
    here : (t.seat < count) ⊎ (count ≤ t.seat) → t.seat < count
    here (inl within) = within
    here (inr beyond) = absurd (kept-some (t.seat == t.seat) t (entries_by maker t.seat ts) (eq-eqb t.seat t.seat refl) (none t.seat beyond))

module _ {S C V M : Type 0} (first : SeatAt S (OpenedView C V M) (SeatRow M) (TurnView C V M)) (rest : List (SeatAt S (OpenedView C V M) (SeatRow M) (TurnView C V M))) (rows : List (SeatRow M)) (entries : List (TurnView C V M))
    (stays : (n : ℕ) (it : LastSeen (SeatRow M) (TurnView C V M)) → slice_get (left_by (knows first) ∷ left_by_each rest) n ≡ Some it → IsThereAsLeft maker n it rows entries)
    (first-through : IsThrough (knows first))
    (rest-through : (i : ℕ) (s : SeatAt S (OpenedView C V M) (SeatRow M) (TurnView C V M)) → slice_get rest i ≡ Some s → IsThrough (knows s)) where
  -- the row of a seat that is through
  pub record IsLeft (n : ℕ) : Type 0 where
    pub row : SeatRow M
    pub found : slice_get rows n ≡ Some row
    pub idle : row.task ≡ Task.Idle
    pub marked : row.marked ≡ true

  pub rows-left : (n : ℕ) → n < length rest + 1 → IsLeft n
  rows-left zero within = record {
    row = (knows first).row;
    found = (stays 0 (left_by (knows first)) refl).row;
    idle = first-through.idle;
    marked = first-through.marked;
  }
  rows-left (suc i) within =
      let there = get_there rest i (omega (arith, within)) in
      let s = there.0 in
      let left : slice_get (left_by_each rest) i ≡ Some (left_by (knows s)) =
      slice_get-map (λ (x : SeatAt S (OpenedView C V M) (SeatRow M) (TurnView C V M)). left_by (knows x)) rest i
      ∙ ap (option_map (λ (x : SeatAt S (OpenedView C V M) (SeatRow M) (TurnView C V M)). left_by (knows x))) there.1 in
      let through = rest-through i s there.1 in
      record { row = (knows s).row; found = (stays (suc i) (left_by (knows s)) left).row; idle = through.idle; marked = through.marked }

  module _ (meaning : Meaning C V M) (opened : OpenedView C V M) (shell : ShellView C V M) (places : List (Kept M)) (turns : List (TurnView C V M))
      (shared : IsShared meaning opened shell places turns rows entries) (count : length rest + 1 ≡ shell.core.limits.seats) where
    row-here : (n : ℕ) (within : n < shell.core.limits.seats) (it : IsLeft n) → it.row ≡ row_of shell.core n (kept_at places n)
    row-here n within it =
        let f = λ (seat : ℕ). row_of shell.core seat (kept_at places seat) in
        some-is it.row (f n)
        (sym it.found ∙ ap (λ (all : List (SeatRow M)). slice_get all n) (sym shared.rows)
        ∙ slice_get-get_or (rows_in shell.core places) n (f n) (subst (λ (len : ℕ). n < len) (sym (length-map-range_with_len f 0 shell.core.limits.seats)) within)
        ∙ ap (λ (r : SeatRow M). Some r) (get_or-map-range_with_len f 0 shell.core.limits.seats n n (f n) within (omega arith)))

    -- no seat has anything at work
    pub all-idle : length shell.core.tasks ≡ shell.core.limits.seats → (seat : ℕ) → task_at shell.core.tasks seat ≡ Task.Idle
    all-idle len seat = by (cases_lt seat shell.core.limits.seats)
      where
        by : (seat < shell.core.limits.seats) ⊎ (shell.core.limits.seats ≤ seat) → task_at shell.core.tasks seat ≡ Task.Idle
        by (inl within) =
            let it = rows-left seat (let c = count in omega (arith, c, within)) in
            ap (λ (r : SeatRow M). r.task) (sym (row-here seat within it)) ∙ it.idle
        by (inr beyond) = get_or_past shell.core.tasks seat Task.Idle (let l = len in omega (arith, l, beyond))

    -- and a stop is kept
    pub has-stopped : IsSome shell.core.stop
    has-stopped =
        let within : 0 < shell.core.limits.seats = (let c = count in omega (arith, c)) in
        let it = rows-left 0 (omega arith) in
        shared.marks 0 (ap (λ (r : SeatRow M). r.marked) (sym (row-here 0 within it)) ∙ it.marked)

    -- turns of the seats led there
    pub been-led : length shell.core.tasks ≡ shell.core.limits.seats
        → ((n : ℕ) → length (left_by (knows first) ∷ left_by_each rest) ≤ n → IsUntouched empty_row maker n rows entries)
        → (end : End V) → end ≡ end_of shell.core → HasBeenLedBy meaning shell.core.limits.seats opened.first end
    been-led len untouched end ended =
        let all = length-map rest (λ (s : SeatAt S (OpenedView C V M) (SeatRow M) (TurnView C V M)). left_by (knows s)) in
        let same : length (left_by (knows first) ∷ left_by_each rest) ≡ shell.core.limits.seats = omega (arith, all, count) in
        record {
          last = shell;
          turns = entries;
          follows = subst (λ (ts : List (TurnView C V M)). AreTurnsBetween meaning opened.first ts shell) shared.recorded shared.led;
          left = left_by (knows first) ∷ left_by_each rest;
          count = same;
          rows = rows;
          stays = stays;
          by_seats = by-seats shell.core.limits.seats entries (λ n beyond. (untouched n (omega (arith, same, beyond))).none);
          idle = all-idle len;
          stopped = has-stopped;
          ended = ended;
        }
