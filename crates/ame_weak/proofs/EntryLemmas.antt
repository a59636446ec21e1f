-- The entries of one label: how they are replayed, and which calls of devices they make.
use Rattle.std.proofs.Common.{◌≡◌, ℕ, zero, suc, ◌==◌, ◌++◌, ℤ, Bool, true, false, ◌||◌, List, [], ◌∷◌, Option, Some, None, is_none, option_and_then, refl, sym, ap, ◌∙◌, arith, append-nil}
use Rattle.std.proofs.lemmas.Option.{option_and_then_some}
use Rattle.ame_term.specs.Tree.{Val, Tree}
use Rattle.ame_term.specs.Frame.{Side}
use Rattle.ame_term.specs.Context.{Focus, focus, fill}
use Rattle.ame_term.specs.Act.{device_answer}
use Rattle.ame_term.specs.Maps.{change}
use Rattle.ame_term.specs.State.{State, after, at_unprotected, closed, closed_value}
use Rattle.ame_term.specs.declared.semantics.StepKind.{StepKind}
use Rattle.ame_term.specs.declared.semantics.Label.{Label}
use Rattle.ame_journal.specs.declared.entry.Entry.{Entry}
use Rattle.ame_journal.specs.Replayed.{Replayed, is_inside, has_such, is_at_unprotected, entering, staying, leaving}
use Rattle.ame_journal.specs.Replay.{member_act, replay_entry, replay_from}
use Rattle.ame_journal.specs.Labels.{fresh_of, Unfolds}
use Rattle.ame_journal.specs.Calls.{call_at, of_next, device_calls_from}
use Rattle.ame_journal.proofs.StepLemmas.{free-reduced}
use Rattle.ame_journal.proofs.LabelLemmas.{run-one}
use Rattle.ame_journal.proofs.UnfoldLemmas.{entry-back}
use Rattle.ame_weak.specs.Straight.{ran, freed, arrival_where, came_where}
use Rattle.ame_weak.proofs.HeldSteps.{if-gave, map-gave}

-- an entry, and those after it
pub replay-next : (r s t : Replayed) (entry : Entry) (entries : List Entry) → replay_entry r entry ≡ Some s → replay_from s entries ≡ Some t
    → replay_from r (entry ∷ entries) ≡ Some t
replay-next r s t entry entries first rest = ap (λ (o : Option Replayed). option_and_then (λ z. replay_from z entries) o) first ∙ rest

-- a member that makes a step under `unprotected` stands there
pub free-stands : (j : ℕ) (kind : StepKind) (s t : State) → after s (Label.Free j kind) ≡ Some t → is_at_unprotected j s ≡ true
free-stands j kind s t e =
    let x = free-reduced kind j s t e in
    ap (has_such (λ (term : Tree). at_unprotected (focus term))) x.is_member ∙ ap at_unprotected x.stands

closed-focus : (f : Focus) (v : Val) → closed_value f ≡ Some v → at_unprotected f ≡ true
closed-focus (Focus.AtRedex Side.Protected (Tree.Unprotected (Tree.Held w))) v e = refl
closed-focus _ v e = cc

-- a member that closes stands there, too
pub close-stands : (j : ℕ) (s t : State) → after s (Label.Close j) ≡ Some t → is_at_unprotected j s ≡ true
unfolding after
close-stands j s t e =
    option_and_then_some _ _ _ (if-gave (is_none s.active) (closed j s) t e).1 (λ term is_member e1.
    let m = map-gave (λ v. record s { members = change s.members j (fill term (Tree.Held v)) }) (closed_value (focus term)) t e1 in
    ap (has_such (λ (z : Tree). at_unprotected (focus z))) is_member ∙ closed-focus (focus term) m.0 m.1)

itself : (n : ℕ) → (n == n) ≡ true
itself n = grind arith

-- a member that has entered is inside
now-inside : (r : Replayed) (j : ℕ) → is_inside (entering r j r.state) j ≡ true
now-inside r j = ap (λ (b : Bool). b || is_inside r j) (itself j)

-- a state, and the members inside
abbrev pub with_inside : State → List ℕ → Replayed
with_inside s inside = record { state = s; inside = inside }

module _ (r : Replayed) (j : ℕ) (t : State) where
  -- the entry of one label, at a member that is inside
  free-inside : (q : Replayed) → q.state ≡ r.state → is_inside q j ≡ true → (kind : StepKind) → after r.state (Label.Free j kind) ≡ Some t
      → replay_entry q (freed j (fresh_of kind) (device_answer kind)) ≡ Some (staying q t)
  free-inside q same inside kind e =
      entry-back q (freed j (fresh_of kind) (device_answer kind)) (Label.Free j kind ∷ []) (staying q t)
      (Unfolds.goes_on (kind ∷ []) 0 (fresh_of kind) (device_answer kind) t inside
      (record { count = refl; made = append-nil (fresh_of kind); answered = refl })
      (run-one q.state t (Label.Free j kind) (ap (λ (s : State). after s (Label.Free j kind)) same ∙ e)))

  close-inside : (q : Replayed) → q.state ≡ r.state → is_inside q j ≡ true → after r.state (Label.Close j) ≡ Some t
      → replay_entry q (freed j [] None) ≡ Some (leaving q j t)
  close-inside q same inside e =
      entry-back q (freed j [] None) (Label.Close j ∷ []) (leaving q j t)
      (Unfolds.closes [] 0 [] t inside (record { count = refl; made = refl; answered = refl })
      (run-one q.state t (Label.Close j) (ap (λ (s : State). after s (Label.Close j)) same ∙ e)))

  -- the entry by which a member enters
  comes-in : is_inside r j ≡ false → is_at_unprotected j r.state ≡ true → replay_entry r (ran j 0 []) ≡ Some (entering r j r.state)
  comes-in outside stands = entry-back r (ran j 0 []) [] (entering r j r.state) (Unfolds.arrives outside stands)

  -- the state to which an entry leads, of a member that has entered
  abbrev Leads : Bool → Entry → (Replayed → Replayed) → Type 0
  Leads b entry to = replay_from r (arrival_where b j ++ entry ∷ []) ≡ Some (to (with_inside r.state (came_where b r.inside j)))

  arrives : (entry : Entry) (to : Replayed → Replayed) → is_at_unprotected j r.state ≡ true
      → ((q : Replayed) → q.state ≡ r.state → is_inside q j ≡ true → replay_entry q entry ≡ Some (to q)) → (b : Bool) → is_inside r j ≡ b → Leads b entry to
  arrives entry to stands leads true inside = replay-next r (to r) (to r) entry [] (leads r refl inside) refl
  arrives entry to stands leads false outside =
      let q = entering r j r.state in
      replay-next r q (to q) (ran j 0 []) (entry ∷ []) (comes-in outside stands)
      (replay-next q (to q) (to q) entry [] (leads q refl (now-inside r j)) refl)

  pub free-replayed : (kind : StepKind) → after r.state (Label.Free j kind) ≡ Some t
      → replay_from r (arrival_where (is_inside r j) j ++ freed j (fresh_of kind) (device_answer kind) ∷ []) ≡ Some (with_inside t (came_where (is_inside r j) r.inside j))
  free-replayed kind e =
      arrives (freed j (fresh_of kind) (device_answer kind)) (λ q. staying q t) (free-stands j kind r.state t e) (λ q same inside. free-inside q same inside kind e)
      (is_inside r j) refl

  pub close-replayed : after r.state (Label.Close j) ≡ Some t
      → replay_from r (arrival_where (is_inside r j) j ++ freed j [] None ∷ []) ≡ Some (leaving (with_inside r.state (came_where (is_inside r j) r.inside j)) j t)
  close-replayed e =
      arrives (freed j [] None) (λ q. leaving q j t) (close-stands j r.state t e) (λ q same inside. close-inside q same inside e) (is_inside r j) refl

  -- Calls

  -- an entry that comes to its end adds its own calls only
  last-none : (k : ℕ) (xs : List (ℤ × ℤ)) (o : Option Replayed) → xs ++ of_next (λ z. device_calls_from k z []) o ≡ xs
  last-none k xs None = append-nil xs
  last-none k xs (Some z) = append-nil xs

  arrival-calls : (k : ℕ) (entry : Entry) → is_at_unprotected j r.state ≡ true
      → ((q : Replayed) → q.state ≡ r.state → device_calls_from k q (entry ∷ []) ≡ device_calls_from k r (entry ∷ []))
      → (b : Bool) → is_inside r j ≡ b → device_calls_from k r (arrival_where b j ++ entry ∷ []) ≡ device_calls_from k r (entry ∷ [])
  arrival-calls k entry stands alike true inside = refl
  arrival-calls k entry stands alike false outside =
      ap (of_next (λ z. device_calls_from k z (entry ∷ []))) (comes-in outside stands) ∙ alike (entering r j r.state) refl

pub free-calls : (k : ℕ) (r : Replayed) (j : ℕ) (kind : StepKind) → device_calls_from k r (freed j (fresh_of kind) (device_answer kind) ∷ []) ≡ call_at k (device_answer kind) (member_act j r.state)
free-calls k r j (StepKind.Device answer) =
    last-none r j r.state k (call_at k (Some answer) (member_act j r.state)) (replay_entry r (freed j [] (Some answer)))
free-calls k r j StepKind.Local = last-none r j r.state k [] (replay_entry r (freed j [] None))
free-calls k r j (StepKind.Alloc l) = last-none r j r.state k [] (replay_entry r (freed j (l.0 ∷ []) None))
free-calls k r j StepKind.Read = last-none r j r.state k [] (replay_entry r (freed j [] None))
free-calls k r j StepKind.Peek = last-none r j r.state k [] (replay_entry r (freed j [] None))
free-calls k r j StepKind.Write = last-none r j r.state k [] (replay_entry r (freed j [] None))
free-calls k r j StepKind.Spawn = last-none r j r.state k [] (replay_entry r (freed j [] None))
free-calls k r j StepKind.Print = last-none r j r.state k [] (replay_entry r (freed j [] None))
free-calls k r j StepKind.Block = last-none r j r.state k [] (replay_entry r (freed j [] None))

-- the calls of the entries of a label of unprotected code are the label's
pub free-called : (k : ℕ) (r : Replayed) (j : ℕ) (kind : StepKind) (t : State) → after r.state (Label.Free j kind) ≡ Some t
    → device_calls_from k r (arrival_where (is_inside r j) j ++ freed j (fresh_of kind) (device_answer kind) ∷ []) ≡ call_at k (device_answer kind) (member_act j r.state)
free-called k r j kind t e =
    arrival-calls r j t k (freed j (fresh_of kind) (device_answer kind)) (free-stands j kind r.state t e)
    (λ q same. free-calls k q j kind ∙ ap (λ (s : State). call_at k (device_answer kind) (member_act j s)) same ∙ sym (free-calls k r j kind))
    (is_inside r j) refl
    ∙ free-calls k r j kind

pub close-called : (k : ℕ) (r : Replayed) (j : ℕ) (t : State) → after r.state (Label.Close j) ≡ Some t
    → device_calls_from k r (arrival_where (is_inside r j) j ++ freed j [] None ∷ []) ≡ []
close-called k r j t e =
    arrival-calls r j t k (freed j [] None) (close-stands j r.state t e)
    (λ q same. free-calls k q j StepKind.Local ∙ sym (free-calls k r j StepKind.Local))
    (is_inside r j) refl
    ∙ free-calls k r j StepKind.Local

-- a fragment calls no device
pub ran-calls : (k : ℕ) (r : Replayed) (i n : ℕ) (fresh : List ℕ) → device_calls_from k r (ran i n fresh ∷ []) ≡ []
ran-calls k r i zero fresh = last-none r i r.state k [] (replay_entry r (ran i zero fresh))
ran-calls k r i (suc n) fresh = last-none r i r.state k [] (replay_entry r (ran i (suc n) fresh))
