-- The outcome of an entry, by the state to which its steps lead.
use Rattle.std.proofs.Common.{◌≡◌, ℕ, zero, suc, ◌+◌, ℤ, Bool, true, false, List, [], ◌∷◌, ◌++◌, Option, Some, None, is_none, refl, sym, ap, ◌∙◌, arith, append-nil, if◌then◌else◌}
use Rattle.std.specs.Option.{option_and_then, option_map}
use Rattle.ame_term.specs.Tree.{Tree}
use Rattle.ame_term.specs.Signature.{Signature}
use Rattle.ame_term.specs.Frame.{Side}
use Rattle.ame_term.specs.Context.{focus}
use Rattle.ame_term.specs.Maps.{at, without}
use Rattle.ame_term.specs.State.{State, after, activated, departed, ended, at_value, at_unprotected}
use Rattle.ame_term.specs.declared.semantics.Label.{Label}
use Rattle.ame_laws.specs.Typed.StoreTyping.{StoreTyping}
use Rattle.ame_journal.specs.declared.entry.Entry.{Entry}
use Rattle.ame_journal.specs.declared.entry.EntryKind.{EntryKind}
use Rattle.ame_journal.specs.Replayed.{Replayed, is_inside, entering, staying, has_such, is_at_unprotected}
use Rattle.ame_journal.specs.Replay.{steps, fragment, left_or_ended, replay_ran, replay_kind, replay_entry, replay, or_else, locations}
use Rattle.ame_journal.proofs.ReplayLemmas.{replay_from-one, ran-left_or_ended}
use Rattle.ame_journal.proofs.StepLemmas.{ended-staying}
use Rattle.ame_check.specs.Walk.{begun_on, steps_on, IsStepping}
use Rattle.ame_check.proofs.HaltLemmas.{halts-unprotected}

-- the entry after a journal is made in the state to which the journal leads
pub behind-journal : (program : Tree) (entries : List Entry) (entry : Entry) (r : Replayed) → replay program entries ≡ Some r → replay program (entries ++ entry ∷ []) ≡ replay_entry r entry
behind-journal program entries entry r e =
    replay_from-one _ entries entry ∙ ap (option_and_then (λ (t : Replayed). replay_entry t entry)) e

-- A member while nothing is active
module _ (s : State) (i : ℕ) (idle : s.active ≡ None) where
  activate-is : after s (Label.Activate i) ≡ activated i s
  unfolding after
  activate-is = ap (λ (o : Option ℕ). if is_none o then activated i s else None) idle

  module _ (term : Tree) (member : at s.members i ≡ Some term) where
    pub stands-as : is_at_unprotected i s ≡ at_unprotected (focus term)
    stands-as = ap (has_such (λ (t : Tree). at_unprotected (focus t))) member

    activate-calm : at_unprotected (focus term) ≡ false → after s (Label.Activate i) ≡ Some (begun_on Side.Protected i s)
    activate-calm calm =
        activate-is ∙ ap (option_and_then (λ (t : Tree). if at_unprotected (focus t) then None else Some (begun_on Side.Protected i s))) member
        ∙ ap (λ (b : Bool). if b then None else Some (begun_on Side.Protected i s)) calm

    activate-none : at_unprotected (focus term) ≡ true → after s (Label.Activate i) ≡ None
    activate-none stands =
        activate-is ∙ ap (option_and_then (λ (t : Tree). if at_unprotected (focus t) then None else Some (begun_on Side.Protected i s))) member
        ∙ ap (λ (b : Bool). if b then None else Some (begun_on Side.Protected i s)) stands

    pub fragment-calm : (n : ℕ) (fresh : List ℕ) → at_unprotected (focus term) ≡ false → fragment i n fresh s ≡ steps_on Side.Protected i n fresh None (begun_on Side.Protected i s)
    fragment-calm n fresh calm = ap (option_and_then (λ (t : State). steps Label.Step i n (locations fresh) t)) (activate-calm calm)

    pub fragment-none : (n : ℕ) (fresh : List ℕ) → at_unprotected (focus term) ≡ true → fragment i n fresh s ≡ None
    fragment-none n fresh stands = ap (option_and_then (λ (t : State). steps Label.Step i n (locations fresh) t)) (activate-none stands)

    -- no step is made from its place under `unprotected`
    pub no-steps : (n : ℕ) (fresh : List ℕ) → at_unprotected (focus term) ≡ true → steps_on Side.Protected i (suc n) fresh None (begun_on Side.Protected i s) ≡ None
    no-steps n fresh stands =
        let one : suc n ≡ n + 1 = omega arith in
        ap (λ (k : ℕ). steps_on Side.Protected i k fresh None (begun_on Side.Protected i s)) one
        ∙ halts-unprotected Side.Protected i (begun_on Side.Protected i s) term member refl fresh refl stands n None (λ e. refl)

  pub can-leave : (t : State) (term : Tree) → t.active ≡ Some i → at t.members i ≡ Some term → at_unprotected (focus term) ≡ true → after t Label.Leave ≡ Some (record t { active = None })
  unfolding after
  can-leave t term is member stands =
      ap (λ (o : Option ℕ). option_and_then (λ (j : ℕ). departed j t) o) is
      ∙ ap (option_and_then (λ (x : Tree). if at_unprotected (focus x) then Some (record t { active = None }) else None)) member
      ∙ ap (λ (b : Bool). if b then Some (record t { active = None }) else None) stands

  no-leave : (t : State) (term : Tree) → t.active ≡ Some i → at t.members i ≡ Some term → at_unprotected (focus term) ≡ false → after t Label.Leave ≡ None
  unfolding after
  no-leave t term is member stands =
      ap (λ (o : Option ℕ). option_and_then (λ (j : ℕ). departed j t) o) is
      ∙ ap (option_and_then (λ (x : Tree). if at_unprotected (focus x) then Some (record t { active = None }) else None)) member
      ∙ ap (λ (b : Bool). if b then Some (record t { active = None }) else None) stands

  pub can-end : (t : State) (term : Tree) → t.active ≡ Some i → at t.members i ≡ Some term → at_value (focus term) ≡ true
      → after t Label.End ≡ Some (record t { members = without t.members i; active = None })
  unfolding after
  can-end t term is member value =
      ap (λ (o : Option ℕ). option_and_then (λ (j : ℕ). ended j t) o) is
      ∙ ap (option_and_then (λ (x : Tree). if at_value (focus x) then Some (record t { members = without t.members i; active = None }) else None)) member
      ∙ ap (λ (b : Bool). if b then Some (record t { members = without t.members i; active = None }) else None) value

  no-end : (t : State) (term : Tree) → t.active ≡ Some i → at t.members i ≡ Some term → at_value (focus term) ≡ false → after t Label.End ≡ None
  unfolding after
  no-end t term is member value =
      ap (λ (o : Option ℕ). option_and_then (λ (j : ℕ). ended j t) o) is
      ∙ ap (option_and_then (λ (x : Tree). if at_value (focus x) then Some (record t { members = without t.members i; active = None }) else None)) member
      ∙ ap (λ (b : Bool). if b then Some (record t { members = without t.members i; active = None }) else None) value

module _ (r : Replayed) (i : ℕ) (idle : r.state.active ≡ None) where
  pub left-is : (t : State) (term : Tree) → t.active ≡ Some i → at t.members i ≡ Some term → at_unprotected (focus term) ≡ true
      → left_or_ended r i t ≡ Some (entering r i (record t { active = None }))
  left-is t term is member stands =
      ap (λ (o : Option State). or_else (option_map (entering r i) o) (option_map (staying r) (after t Label.End))) (can-leave r.state i idle t term is member stands)

  pub ended-is : (t : State) (term : Tree) → t.active ≡ Some i → at t.members i ≡ Some term → at_value (focus term) ≡ true
      → left_or_ended r i t ≡ Some (staying r (record t { members = without t.members i; active = None }))
  ended-is t term is member value = ended-staying r i t (record t { members = without t.members i; active = None }) (can-end r.state i idle t term is member value)

  pub neither-is : (t : State) (term : Tree) → t.active ≡ Some i → at t.members i ≡ Some term → at_unprotected (focus term) ≡ false → at_value (focus term) ≡ false → left_or_ended r i t ≡ None
  neither-is t term is member stands value =
      ap (λ (o : Option State). or_else (option_map (entering r i) o) (option_map (staying r) (after t Label.End))) (no-leave r.state i idle t term is member stands)
      ∙ ap (option_map (staying r)) (no-end r.state i idle t term is member value)

  -- a `Ran` entry leads on from the end of its steps, also if the member stands at `unprotected` already
  pub ran-is : (term : Tree) (n : ℕ) (fresh : List ℕ) → at r.state.members i ≡ Some term
      → replay_ran r i n fresh ≡ option_and_then (left_or_ended r i) (steps_on Side.Protected i n fresh None (begun_on Side.Protected i r.state))
  ran-is term n fresh member = by (at_unprotected (focus term)) refl
    where
      stands_there : (n : ℕ) (fresh : List ℕ) → at_unprotected (focus term) ≡ true
          → replay_ran r i n fresh ≡ option_and_then (left_or_ended r i) (steps_on Side.Protected i n fresh None (begun_on Side.Protected i r.state))
      stands_there zero [] stands =
          ap (λ (b : Bool). if b then Some (entering r i r.state) else option_and_then (left_or_ended r i) (fragment i 0 [] r.state)) (stands-as r.state i idle term member ∙ stands)
          ∙ ap (λ (a : Option ℕ). Some (entering r i (record r.state { active = a }))) idle
          ∙ sym (left-is (begun_on Side.Protected i r.state) term refl member stands)
      stands_there zero (l ∷ fresh) stands = ap (option_and_then (left_or_ended r i)) (fragment-none r.state i idle term member 0 (l ∷ fresh) stands)
      stands_there (suc n) fresh stands =
          ap (option_and_then (left_or_ended r i)) (fragment-none r.state i idle term member (suc n) fresh stands)
          ∙ sym (ap (option_and_then (left_or_ended r i)) (no-steps r.state i idle term member n fresh stands))

      by : (b : Bool) → at_unprotected (focus term) ≡ b
          → replay_ran r i n fresh ≡ option_and_then (left_or_ended r i) (steps_on Side.Protected i n fresh None (begun_on Side.Protected i r.state))
      by true stands = stands_there n fresh stands
      by false calm =
          ran-left_or_ended r i n fresh (stands-as r.state i idle term member ∙ calm) ∙ ap (option_and_then (left_or_ended r i)) (fragment-calm r.state i idle term member n fresh calm)

  -- an entry of this kind
  pub ran-entry : (entry : Entry) → entry.kind ≡ EntryKind.Ran → entry.number ≡ i → entry.answer ≡ None → is_inside r i ≡ false → (term : Tree) → at r.state.members i ≡ Some term
      → replay_entry r entry ≡ option_and_then (left_or_ended r i) (steps_on Side.Protected i entry.steps entry.fresh None (begun_on Side.Protected i r.state))
  unfolding replay_entry
  ran-entry entry kind number none outside term member =
      ap (λ (k : EntryKind). replay_kind k r entry.number entry.steps entry.fresh entry.answer) kind
      ∙ ap (λ (j : ℕ). replay_kind EntryKind.Ran r j entry.steps entry.fresh entry.answer) number
      ∙ ap (λ (o : Option ℤ). replay_kind EntryKind.Ran r i entry.steps entry.fresh o) none
      ∙ ap (λ (b : Bool). if b then None else replay_ran r i entry.steps entry.fresh) outside
      ∙ ran-is term entry.steps entry.fresh member

-- if nothing is left to use, the steps lead to the state of the walk; if something is, they can't be made
pub whole-leads : {types : StoreTyping} (signature : Signature) (s : State) (i : ℕ) (side : Side) (p : _) (n : ℕ) (g : IsStepping signature types s i side p n) → steps_on side i n p.fresh None (begun_on side i s) ≡ Some g.now
whole-leads signature s i side p n g =
    let none : n ≡ n + 0 = omega arith in
    ap (λ (k : ℕ). steps_on side i k p.fresh None (begun_on side i s)) none ∙ ap (λ (xs : List ℕ). steps_on side i (n + 0) xs None (begun_on side i s)) (sym (append-nil p.fresh)) ∙ g.goes 0 [] None

pub left-over : {types : StoreTyping} (signature : Signature) (s : State) (i : ℕ) (side : Side) (p : _) (n : ℕ) (g : IsStepping signature types s i side p n) (l : ℕ) (rest : List ℕ) (answer : Option ℤ)
    → steps_on side i n (p.fresh ++ l ∷ rest) answer (begun_on side i s) ≡ None
left-over signature s i side p n g l rest answer =
    let none : n ≡ n + 0 = omega arith in
    ap (λ (k : ℕ). steps_on side i k (p.fresh ++ l ∷ rest) answer (begun_on side i s)) none ∙ g.goes 0 (l ∷ rest) answer
