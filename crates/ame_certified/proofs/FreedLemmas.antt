-- The entries of one label of unprotected code meet no form that would become a value that is too high.
use Rattle.std.proofs.Common.{◌≡◌, ℕ, zero, suc, ◌+◌, ◌<◌, ◌==◌, ℤ, Bool, true, false, List, [], ◌∷◌, ◌++◌, append_assoc, Option, Some, None, option_map, option_and_then, if◌then◌else◌, refl, sym, ap, ◌∙◌, subst, arith}
use Rattle.std.proofs.lemmas.Option.{option_and_then_some}
use Rattle.ame_term.specs.Tree.{Val, Tree}
use Rattle.ame_term.specs.Frame.{Side}
use Rattle.ame_term.specs.Context.{Focus, focus, fill}
use Rattle.ame_term.specs.Height.{max_height}
use Rattle.ame_term.specs.Maps.{change}
use Rattle.ame_term.specs.State.{State, closed, closed_value}
use Rattle.ame_journal.specs.declared.entry.Entry.{Entry}
use Rattle.ame_journal.specs.Replayed.{Replayed, begun_at, is_inside, entering, has_such, is_at_unprotected, coming_height, is_tall, side_at}
use Rattle.ame_journal.specs.Replay.{is_used, attempt_on, left_or_ended, fragment, replay_ran, replay_entry, replay_from, replay}
use Rattle.ame_journal.proofs.ReplayLemmas.{replay_from-append}
use Rattle.ame_check.specs.Entries.{MeetsTall}
use Rattle.ame_weak.specs.Straight.{arrival_where, ran, freed}
use Rattle.ame_certified.specs.Low.{IsLowJournal}
use Rattle.ame_certified.proofs.JudgedLemmas.{one-low}

-- an entry of no step
none-met : (r : Replayed) (i : ℕ) (fresh : List ℕ) → MeetsTall r (ran i 0 fresh) → ⊥
none-met r i fresh m = let below : m.made < 0 = m.below in omega arith

-- no step leads nowhere else
stays-there : (b : Bool) (s there : State) → (if b then Some s else None) ≡ Some there → s ≡ there
stays-there true s there e = cc
stays-there false s there e = cc

no-step : (n i : ℕ) (used : List ℕ) (s there : State) → n ≡ 0 → attempt_on Side.Unprotected i n used s ≡ Some there → s ≡ there
no-step zero i used s there none e = stays-there (is_used (record { fresh = used; answer = None })) s there e
no-step (suc n) i used s there none e = absurd (omega arith)

-- an entry of one step, before which the member is at no such form
freed-met : (r : Replayed) (i : ℕ) (fresh : List ℕ) (answer : Option ℤ) → (is_tall Side.Unprotected i r.state ≡ true → ⊥) → MeetsTall r (freed i fresh answer) → ⊥
freed-met r i fresh answer calm m =
    let below : m.made < 1 = m.below in
    let on : side_at i r.state ≡ Side.Unprotected = m.side in
    let leads = ap (λ (side : Side). attempt_on side i m.made m.used r.state) (sym on) ∙ m.leads in
    let same = no-step m.made i m.used r.state m.there (omega arith) leads in
    calm (ap (is_tall Side.Unprotected i) same ∙ ap (λ (side : Side). is_tall side i m.there) (sym on) ∙ m.tall)

-- if a member comes in, the state stays
arrival-state : (r t : Replayed) (i : ℕ) → is_at_unprotected i r.state ≡ true → replay_entry r (ran i 0 []) ≡ Some t → t.state ≡ r.state
unfolding replay_entry
arrival-state r t i stands e = by (is_inside r i) e
  where
    comes : replay_ran r i 0 [] ≡ Some (entering r i r.state)
    comes = ap (λ (b : Bool). if b then Some (entering r i r.state) else option_and_then (left_or_ended r i) (fragment i 0 [] r.state)) stands

    by : (b : Bool) → (if b then None else replay_ran r i 0 []) ≡ Some t → t.state ≡ r.state
    by true e = cc
    by false e = let both : Some t ≡ Some (entering r i r.state) = sym e ∙ comes in let same : t ≡ entering r i r.state = cc in ap (λ (z : Replayed). z.state) same

-- those of a label, by whether the member is inside
module _ (program : Tree) (journal : List Entry) (r : Replayed) (replayed : replay program journal ≡ Some r) (low : IsLowJournal program journal)
    (i : ℕ) (fresh : List ℕ) (answer : Option ℤ) (stands : is_at_unprotected i r.state ≡ true) (calm : is_tall Side.Unprotected i r.state ≡ true → ⊥) where
  pub freed-low : (b : Bool) (behind : Replayed) → replay_from r (arrival_where b i ++ freed i fresh answer ∷ []) ≡ Some behind
      → IsLowJournal program (journal ++ (arrival_where b i ++ freed i fresh answer ∷ []))
  freed-low true behind leads = one-low program journal (freed i fresh answer) r replayed low (freed-met r i fresh answer calm)
  freed-low false behind leads =
      option_and_then_some _ _ _ leads (λ t arrives rest.
      let first = one-low program journal (ran i 0 []) r replayed low (none-met r i []) in
      let so : replay program (journal ++ ran i 0 [] ∷ []) ≡ Some t =
      replay_from-append (begun_at program) journal (ran i 0 [] ∷ []) ∙ ap (option_and_then (λ (z : Replayed). replay_from z (ran i 0 [] ∷ []))) replayed
      ∙ ap (option_and_then (λ (z : Replayed). Some z)) arrives in
      let same = arrival-state r t i stands arrives in
      let still : is_tall Side.Unprotected i t.state ≡ true → ⊥ = λ tall. calm (ap (is_tall Side.Unprotected i) (sym same) ∙ tall) in
      subst (IsLowJournal program) (append_assoc journal (ran i 0 [] ∷ []) (freed i fresh answer ∷ []))
      (one-low program (journal ++ ran i 0 [] ∷ []) (freed i fresh answer) t so first (freed-met t i fresh answer still)))

-- a member that closes is at no such form
closing-calm : (f : Focus) (v : Val) → closed_value f ≡ Some v → (coming_height Side.Unprotected f == max_height + 1) ≡ true → ⊥
closing-calm (Focus.AtRedex Side.Protected (Tree.Unprotected (Tree.Held w))) v e high = let clash : false ≡ true = high in cc
closing-calm _ v e high = cc

pub closed-calm : (i : ℕ) (s t : State) → closed i s ≡ Some t → is_tall Side.Unprotected i s ≡ true → ⊥
closed-calm i s t e high =
    option_and_then_some _ _ _ e (λ term member rest.
    let its = sym (ap (has_such (λ (x : Tree). coming_height Side.Unprotected (focus x) == max_height + 1)) member) ∙ high in
    by term its (closed_value (focus term)) refl rest)
  where
    by : (term : Tree) → (coming_height Side.Unprotected (focus term) == max_height + 1) ≡ true → (o : Option Val) → closed_value (focus term) ≡ o
        → option_map (λ (v : Val). record s { members = change s.members i (fill term (Tree.Held v)) }) o ≡ Some t → ⊥
    by term its None is rest = cc
    by term its (Some v) is rest = closing-calm (focus term) v is its
