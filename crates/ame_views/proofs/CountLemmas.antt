-- The bounds that are shown next to counts hold.
use Rattle.std.proofs.Common.{◌≡◌, ℕ, zero, suc, ◌+◌, ◌*◌, ◌<◌, ◌≤◌, ◌==◌, List, [], ◌∷◌, ◌++◌, length, take, drop, cond}
use Rattle.std.proofs.Common.{Some, option_and_then, sym, ap, ◌∙◌, arith}
use Rattle.std.specs.Prelude.{All, count_by, nat_lt}
use Rattle.std.proofs.lemmas.Bool.{lt-ltb}
use Rattle.std.proofs.lemmas.List.{take-append-drop}
use Rattle.std.proofs.lemmas.List.Elements.{All-head, All-tail, All-weaker}
use Rattle.std.proofs.lemmas.List.Sums.{count_by-le-length}
use Rattle.ame_term.specs.Tree.{Tree}
use Rattle.ame_pool.proofs.MemberLemmas.{count_cons}
use Rattle.ame_laws.proofs.MapLemmas.{numbers-at}
use Rattle.ame_laws.proofs.OrderlyLemmas.{run-goes}
use Rattle.ame_journal.specs.declared.entry.Entry.{Entry}
use Rattle.ame_journal.specs.Replayed.{Replayed, begun_at}
use Rattle.ame_journal.specs.Replay.{replay, replay_from}
use Rattle.ame_journal.proofs.ReplayLemmas.{replay_from-append}
use Rattle.ame_journal.proofs.LabelLemmas.{unfold-all, unfolds_all-run}
use Rattle.ame_journal.proofs.ReachedLemmas.{calm-replayed}
use Rattle.ame_protocol.specs.declared.types.Limits.{Limits}
use Rattle.ame_protocol.specs.declared.types.Tried.{Tried}
use Rattle.ame_protocol.specs.Bounds.Seats.{over_seats}
use Rattle.ame_protocol.specs.Bounds.Tries.{tries_of, entries_of, times, HasFewTries}
use Rattle.ame_protocol.specs.Event.Bounds.{HasBounds}
use Rattle.ame_protocol.specs.Row.Tries.{IsSoundTry}
use Rattle.ame_engine.specs.Ending.{End}
use Rattle.ame_views.specs.Counts.{KeepsShownBounds}

-- Items by their keys.

module _ {X : Type 0} (key : X → ℕ) where
  abbrev at_key : ℕ → List X → ℕ
  at_key n xs = count_by (λ x. key x == n) xs

  abbrev below_key : ℕ → List X → ℕ
  below_key n xs = count_by (λ x. nat_lt (key x) n) xs

  none_below : (xs : List X) → below_key 0 xs ≡ 0
  none_below [] = grind arith
  none_below (x ∷ xs) = grind (arith, none_below xs)

  one_more : (k n : ℕ) → cond (k == n) 1 0 + cond (nat_lt k n) 1 0 ≡ cond (nat_lt k (suc n)) 1 0
  one_more k n = grind arith

  both_parts : (n : ℕ) (xs : List X) → at_key n xs + below_key n xs ≡ below_key (suc n) xs
  both_parts n [] = grind arith
  both_parts n (x ∷ xs) =
      omega (
        arith,
        one_more (key x) n,
        both_parts n xs,
        count_cons (λ y. key y == n) x xs,
        count_cons (λ y. nat_lt (key y) n) x xs,
        count_cons (λ y. nat_lt (key y) (suc n)) x xs,
      )

  over_keys : (n : ℕ) (xs : List X) → over_seats n (λ i. at_key i xs) ≡ below_key n xs
  over_keys zero xs = sym (none_below xs)
  over_keys (suc n) xs = ap (λ m. at_key n xs + m) (over_keys n xs) ∙ both_parts n xs

  all_below : (n : ℕ) (xs : List X) → All (λ x. key x < n) xs → below_key n xs ≡ length xs
  all_below n [] below = grind arith
  all_below n (x ∷ xs) below =
      let first : ◌≡◌ {A = ℕ} (cond (nat_lt (key x) n) 1 0) 1 = ap (λ b. cond b 1 0) (lt-ltb (key x) n (All-head (λ y. key y < n) x xs below)) in
      omega (arith, first, all_below n xs (All-tail (λ y. key y < n) x xs below), count_cons (λ y. nat_lt (key y) n) x xs)

  pub keys-few : (n : ℕ) (xs : List X) → over_seats n (λ i. at_key i xs) ≤ length xs
  keys-few n xs = omega (arith, over_keys n xs, count_by-le-length (λ x. nat_lt (key x) n) xs)

  pub keys-all : (n : ℕ) (xs : List X) → All (λ x. key x < n) xs → length xs ≡ over_seats n (λ i. at_key i xs)
  keys-all n xs below = omega (arith, over_keys n xs, all_below n xs below)

-- what is few of each is few of all
over-few : (n : ℕ) (f g h : ℕ → ℕ) → ((i : ℕ) → f i ≤ 8 * (g i + 1) + h i) → over_seats n f ≤ 8 * (over_seats n g + n) + over_seats n h
over-few zero f g h each = omega arith
over-few (suc n) f g h each = omega (arith, each n, over-few n f g h each)

pub few-tries : (n seats : ℕ) (entries : List Entry) (tried : List Tried) → HasFewTries seats entries tried → All (λ t. t.number < n) tried →
    length tried ≤ 8 * (n + length entries) + seats
few-tries n seats entries tried few below =
    let all = keys-all (λ t. t.number) n tried below in
    let each = over-few n (λ i. tries_of i tried) (λ i. entries_of i entries) (λ i. times i few.late) few.few in
    let of_entries = keys-few (λ e. e.number) n entries in
    let of_late = keys-few (λ k. k) n few.late in
    let enough = few.seats_enough in
    omega arith

-- a member of a try is one that there ever was
pub try-below : (program : Tree) (entries : List Entry) (r : Replayed) → replay program entries ≡ Some r → (i count steps : ℕ) →
    IsSoundTry program entries i count steps → i < r.state.next
try-below program entries r led i count steps sound =
    let reached = sound.reached in
    let calm = calm-replayed program (take count entries) reached sound.replayed in
    let early : i < reached.state.next = numbers-at (λ k. k < reached.state.next) reached.state.members i sound.member calm.orderly.members_below in
    let rest : replay_from reached (drop count entries) ≡ Some r =
    sym (ap (λ o. option_and_then (λ t. replay_from t (drop count entries)) o) sound.replayed)
    ∙ sym (replay_from-append (begun_at program) (take count entries) (drop count entries))
    ∙ ap (replay_from (begun_at program)) (take-append-drop count entries) ∙ led in
    let unfolded = unfold-all reached (drop count entries) r rest in
    let later = (run-goes reached.state unfolded.0 r.state (unfolds_all-run reached (drop count entries) unfolded.0 r unfolded.1)).next in
    omega arith

pub shown-bounds : {V : Type 0} (end : End V) (fragments : ℕ) (limits : Limits) (program : Tree) (r : Replayed) →
    HasBounds program limits r end.base end.entries end.turns end.counters end.tried end.stop → replay program (end.base ++ end.entries) ≡ Some r →
    r.state.next ≡ fragments → KeepsShownBounds end fragments limits
shown-bounds end fragments limits program r bounds led count =
    let few = few-tries r.state.next limits.seats end.entries end.tried bounds.tries
    (All-weaker (λ t. IsSoundTry program (end.base ++ end.entries) t.number t.at t.steps) (λ t. t.number < r.state.next)
    (λ t sound. try-below program (end.base ++ end.entries) r led t.number t.at t.steps sound) end.tried bounds.sound) in
    let rare = bounds.rollbacks in
    record { refusals = omega arith; tries = omega arith; paid = bounds.spent }
