-- A team whose workers are through.
use Rattle.std.proofs.Common.{◌≡◌, ℕ, zero, suc, ◌+◌, ◌<◌, List, [], ◌∷◌, ◌++◌, length, map, get_or, Option, Some, None, slice_get, refl, sym, ap, ◌∙◌, subst, arith}
use Rattle.std.specs.Prelude.{option_map}
use Rattle.std.proofs.lemmas.List.{length-map, length-append}
use Rattle.std.proofs.lemmas.Option.{slice_get-map, slice_get_within, slice_get-get_or, get_or_from_slice_get}
use Rattle.ame_worker.specs.Turns.{TurnView}
use Rattle.ame_baton.specs.declared.seats.SeatAt.{SeatAt}
use Rattle.ame_baton.specs.declared.turn.Baton.{Baton}
use Rattle.ame_baton.specs.Batons.{knows, IsSeatOf, IsReadySeat, AreReady}
use Rattle.ame_baton.specs.Keeping.{KeepsSeat}
use Rattle.ame_worker.specs.Shared.{OpenedView}
use Rattle.ame_worker.specs.declared.shared.Shared.{Shared}
use Rattle.ame_worker.specs.declared.worker.Worker.{Worker}
use Rattle.ame_worker.specs.Rows.{SeatRow}
use Rattle.ame_worker.specs.Workers.{IsThrough}
use Rattle.ame_team.specs.Teams.{IsSeatAt}

append-at : {A : Type 0} (xs : List A) (y : A) → slice_get (xs ++ y ∷ []) (length xs) ≡ Some y
append-at [] y = refl
append-at (x ∷ xs) y = append-at xs y

append-before : {A : Type 0} (xs ys : List A) (i : ℕ) (x : A) → slice_get xs i ≡ Some x → slice_get (xs ++ ys) i ≡ Some x
append-before [] ys i x e = cc
append-before (z ∷ xs) ys zero x e = e
append-before (z ∷ xs) ys (suc i) x e = append-before xs ys i x e

some-is : {A : Type 0} (a b : A) → Some a ≡ Some b → a ≡ b
some-is a b e = cc

map-there : {A B : Type 0} (f : A → B) (o : Option A) (y : B) → option_map f o ≡ Some y → (x : A) × (o ≡ Some x) × (f x ≡ y)
map-there f None y e = cc
map-there f (Some x) y e = (x, refl, some-is (f x) y e)

module _ {M K D C V : Type 0} (baton : Baton (Shared M K D C V) (OpenedView C V M) (SeatRow M) (TurnView C V M)) (opened : Option (OpenedView C V M)) (count : ℕ) where
  -- a seat at its place that is through
  pub record IsDoneAt (place : ℕ) (seat : SeatAt (Shared M K D C V) (OpenedView C V M) (SeatRow M) (TurnView C V M)) : Type 0 where
    pub at : IsSeatAt baton opened count place seat
    pub through : IsThrough (knows seat)

  -- seat 0 and the others, and all are through
  pub record AreThrough (first : SeatAt (Shared M K D C V) (OpenedView C V M) (SeatRow M) (TurnView C V M))
      (rest : List (SeatAt (Shared M K D C V) (OpenedView C V M) (SeatRow M) (TurnView C V M))) : Type 0 where
    pub first_ready : IsReadySeat baton 0 first
    pub rest_ready : AreReady baton 1 rest
    pub made : (knows first).made ≡ length rest + 1
    pub all : length rest + 1 ≡ count
    pub fixed : (knows first).fixed ≡ opened
    pub first_through : IsThrough (knows first)
    pub rest_through : (i : ℕ) (s : SeatAt (Shared M K D C V) (OpenedView C V M) (SeatRow M) (TurnView C V M)) → slice_get rest i ≡ Some s → IsThrough (knows s)

  module _ (old new : List (Worker M K D C V)) (len : length old ≡ count) (len_new : length new ≡ length old)
      (placed : (i : ℕ) (w : Worker M K D C V) → slice_get old i ≡ Some w → IsSeatAt baton opened count i w.seat)
      (of : (i : ℕ) (d : Worker M K D C V) → i < length old → IsSeatOf baton (get_or new i d).seat)
      (keeps : (i : ℕ) (d : Worker M K D C V) → i < length old → KeepsSeat (knows (get_or old i d).seat) (knows (get_or new i d).seat))
      (through : (i : ℕ) (d : Worker M K D C V) → i < length old → IsThrough (knows (get_or new i d).seat)) where
    done-worker : (i : ℕ) (w : Worker M K D C V) → slice_get new i ≡ Some w → IsDoneAt i w.seat
    done-worker i w e =
        let in_new = slice_get_within new i w e in
        let in_old : i < length old = omega (arith, in_new, len_new) in
        let was = placed i (get_or old i w) (slice_get-get_or old i w in_old) in
        let same : get_or new i w ≡ w = get_or_from_slice_get new i w w e in
        let kept : KeepsSeat (knows (get_or old i w).seat) (knows w.seat) =
        subst (λ (x : Worker M K D C V). KeepsSeat (knows (get_or old i w).seat) (knows x.seat)) same (keeps i w in_old) in
        record {
          at = record {
            of = subst (λ (x : Worker M K D C V). IsSeatOf baton x.seat) same (of i w in_old);
            fixed = kept.fixed ∙ was.fixed;
            placed = record {
              others = λ h. kept.number ∙ was.placed.others h;
              first = λ h. (kept.number ∙ (was.placed.first h).0, kept.made ∙ (was.placed.first h).1);
            };
          };
          through = subst (λ (x : Worker M K D C V). IsThrough (knows x.seat)) same (through i w in_old);
        }

    module _ (first : SeatAt (Shared M K D C V) (OpenedView C V M) (SeatRow M) (TurnView C V M)) (rest : List (SeatAt (Shared M K D C V) (OpenedView C V M) (SeatRow M) (TurnView C V M)))
        (all : map (λ w. w.seat) new ≡ rest ++ first ∷ []) where
      done-seat : (i : ℕ) (s : SeatAt (Shared M K D C V) (OpenedView C V M) (SeatRow M) (TurnView C V M)) → slice_get (rest ++ first ∷ []) i ≡ Some s → IsDoneAt i s
      done-seat i s e =
          let there = map-there (λ (w : Worker M K D C V). w.seat) (slice_get new i) s
          (sym (slice_get-map (λ (w : Worker M K D C V). w.seat) new i) ∙ ap (λ (l : List (SeatAt (Shared M K D C V) (OpenedView C V M) (SeatRow M) (TurnView C V M))). slice_get l i) all ∙ e) in
          subst (IsDoneAt i) there.2 (done-worker i there.0 there.1)

      rest-count : length rest + 1 ≡ count
      rest-count =
          let seats : length (map (λ (w : Worker M K D C V). w.seat) new) ≡ length new = length-map new (λ (w : Worker M K D C V). w.seat) in
          let both : length (rest ++ first ∷ []) ≡ length rest + 1 = length-append rest (first ∷ []) in
          let same : length (map (λ (w : Worker M K D C V). w.seat) new) ≡ length (rest ++ first ∷ []) = ap length all in
          omega (arith, seats, both, same, len, len_new)

      first-done : IsDoneAt (length rest) first
      first-done = done-seat (length rest) first (append-at rest first)

      rest-done : (i : ℕ) (s : SeatAt (Shared M K D C V) (OpenedView C V M) (SeatRow M) (TurnView C V M)) → slice_get rest i ≡ Some s → IsDoneAt i s
      rest-done i s e = done-seat i s (append-before rest (first ∷ []) i s e)

      pub are-through : AreThrough first rest
      are-through = record {
        first_ready = record { of = first-done.at.of; numbered = (first-done.at.placed.first rest-count).0; free = first-done.through.free };
        rest_ready = λ i s e.
            let done = rest-done i s e in
            let within = slice_get_within rest i s e in
            let number : (knows s).number ≡ i + 1 = done.at.placed.others (let c = rest-count in omega (arith, c, within)) in
            record { of = done.at.of; numbered = omega (arith, number); free = done.through.free };
        made = (first-done.at.placed.first rest-count).1 ∙ sym rest-count;
        all = rest-count;
        fixed = first-done.at.fixed;
        first_through = first-done.through;
        rest_through = λ i s e. (rest-done i s e).through;
      }
