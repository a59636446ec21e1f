-- A label of a weak state, by the parts of the code that takes it.
use Rattle.std.proofs.Common.{◌≡◌, ℕ, ◌+◌, ◌++◌, ℤ, Bool, true, false, List, [], ◌∷◌, Option, Some, None, is_some, option_map, option_and_then, if◌then◌else◌, refl, sym, ap, ◌∙◌, arith, append-nil}
use Rattle.std.specs.Prelude.{◌&&◌, Result, Ok, Err, IsSome, OnOk, OnErr, ◌↔◌}
use Rattle.std.specs.Option.{option_map_or}
use Rattle.ame_term.specs.Tree.{Tree, unit_tree}
use Rattle.ame_term.specs.Frame.{Side}
use Rattle.ame_term.specs.Context.{Focus, focus, fill}
use Rattle.ame_term.specs.Act.{Act, act_of, makes}
use Rattle.ame_term.specs.Maps.{at, change}
use Rattle.ame_term.specs.State.{State, after, performed, reduced_at, rewritten, reduce, closed}
use Rattle.ame_term.specs.declared.semantics.StepKind.{StepKind}
use Rattle.ame_term.specs.declared.semantics.Label.{Label}
use Rattle.ame_strong.specs.Answer.{StepsOrStays}
use Rattle.ame_strong.specs.Handed.{handed_print, body_of, print_at, body_at}
use Rattle.ame_strong.specs.Plan.{refilled}
use Rattle.ame_strong.specs.declared.fail.StepFail.{StepFail}
use Rattle.ame_strong.specs.declared.fail.StepFail.TheVariants.{Illegal, NoMemory}
use Rattle.ame_weak.specs.Weak.{Weak, holding_none, moved, holds_nothing, held_performed, held_at, held_rewritten, held_step, with_held_released, is_resting, may_free, weak_after}
use Rattle.ame_weak.specs.Answer.{GoesOrStays, IsPlain}

-- the strong state goes or stays, and what is held stays
pub moves-or-stays : {X : Type 0} (o : Option State) (w : Weak) (t : State) (r : Result X StepFail) → StepsOrStays o w.state t r
    → GoesOrStays (option_map (moved w) o) w (moved w t) r
moves-or-stays o w t (Ok x) steps = ap (option_map (moved w)) steps
moves-or-stays o w t (Err Illegal) steps = (ap (option_map (moved w)) steps.0, ap (moved w) steps.1)
moves-or-stays None w t (Err NoMemory) steps = cc
moves-or-stays (Some s) w t (Err NoMemory) steps = (refl, ap (moved w) steps.1)

some-of : {X : Type 0} (o : Option X) → (o ≡ None → ⊥) → IsSome o
some-of None apart = absurd (apart refl)
some-of (Some x) apart = refl

-- the answer of a strong state's step, with one clause for all answers
pub told-in-one : {X : Type 0} (s t : State) (label : Label) (r : Result X StepFail) → OnOk r (after s label ≡ Some t) → ((r ≡ Err Illegal) ↔ (after s label ≡ None)) → OnErr r (t ≡ s)
    → StepsOrStays (after s label) s t r
told-in-one s t label (Ok x) ok illegal err = ok
told-in-one s t label (Err Illegal) ok illegal err = (illegal.0 refl, err)
told-in-one {X} s t label (Err NoMemory) ok illegal err =
    (some-of (after s label) (λ none. let clash : ◌≡◌ {A = Result X StepFail} (Err NoMemory) (Err Illegal) = illegal.1 none in cc), err)

module _ (w : Weak) where
  pub activate-held : (i : ℕ) → holds_nothing w ≡ false → weak_after w (Label.Activate i) ≡ None
  unfolding weak_after
  activate-held i held = rw held

  pub activate-free : (i : ℕ) → holds_nothing w ≡ true → weak_after w (Label.Activate i) ≡ option_map (moved w) (after w.state (Label.Activate i))
  unfolding weak_after
  activate-free i free = rw free

  pub step-none : (kind : StepKind) → w.state.active ≡ None → weak_after w (Label.Step kind) ≡ None
  unfolding weak_after
  step-none kind idle = rw idle

  pub step-active : (kind : StepKind) (i : ℕ) → w.state.active ≡ Some i → weak_after w (Label.Step kind) ≡ held_step kind i w
  unfolding weak_after
  step-active kind i is = ap (λ (o : Option ℕ). option_and_then (λ j. held_step kind j w) o) is

  pub free-not : (i : ℕ) (kind : StepKind) → (is_resting w.state.active i && may_free w.state.active kind) ≡ false → weak_after w (Label.Free i kind) ≡ None
  unfolding weak_after
  free-not i kind is = rw is

  pub free-may : (i : ℕ) (kind : StepKind) → (is_resting w.state.active i && may_free w.state.active kind) ≡ true
      → weak_after w (Label.Free i kind) ≡ option_map (moved w) (reduce Side.Unprotected kind i w.state)
  unfolding weak_after
  free-may i kind may = ap (λ (b : Bool). if b then option_map (moved w) (reduce Side.Unprotected kind i w.state) else None) may

  pub close-not : (i : ℕ) → is_resting w.state.active i ≡ false → weak_after w (Label.Close i) ≡ None
  unfolding weak_after
  close-not i is = rw is

  pub close-may : (i : ℕ) → is_resting w.state.active i ≡ true → weak_after w (Label.Close i) ≡ option_map (moved w) (closed i w.state)
  unfolding weak_after
  close-may i may = ap (λ (b : Bool). if b then option_map (moved w) (closed i w.state) else None) may

  -- Steps of the active member

  mapped : (i : ℕ) (term : Tree) (o : Option (Tree × State))
      → option_map (held_rewritten i term) (option_map {T = Tree × State} {U = Tree × Weak} (λ made. (made.0, moved w made.1)) o) ≡ option_map (moved w) (option_map (rewritten i term) o)
  mapped i term None = refl
  mapped i term (Some made) = refl

  plain-act : (kind : StepKind) → IsPlain kind → (act : Act)
      → (if makes Side.Protected kind act then held_performed kind act w else None)
      ≡ option_map {T = Tree × State} {U = Tree × Weak} (λ made. (made.0, moved w made.1)) (if makes Side.Protected kind act then performed kind act w.state else None)
  plain-act kind plain act = by act (makes Side.Protected kind act) refl
    where
      both : (act : Act) → held_performed kind act w ≡ option_map {T = Tree × State} {U = Tree × Weak} (λ made. (made.0, moved w made.1)) (performed kind act w.state) → (b : Bool)
          → (if b then held_performed kind act w else None)
          ≡ option_map {T = Tree × State} {U = Tree × Weak} (λ made. (made.0, moved w made.1)) (if b then performed kind act w.state else None)
      both act same true = same
      both act same false = refl

      spawn-not : (k : StepKind) → IsPlain k → (body : Tree) → makes Side.Protected k (Act.Spawns body) ≡ false
      spawn-not StepKind.Spawn none body = absurd none
      spawn-not _ none body = refl

      print-not : (k : StepKind) → IsPlain k → (n : ℤ) → makes Side.Protected k (Act.Prints n) ≡ false
      print-not StepKind.Print none n = absurd none
      print-not _ none n = refl

      by : (act : Act) (b : Bool) → makes Side.Protected kind act ≡ b
          → (if b then held_performed kind act w else None)
          ≡ option_map {T = Tree × State} {U = Tree × Weak} (λ made. (made.0, moved w made.1)) (if b then performed kind act w.state else None)
      by (Act.Spawns body) true is = let clash : true ≡ false = sym is ∙ spawn-not kind plain body in cc
      by (Act.Prints n) true is = let clash : true ≡ false = sym is ∙ print-not kind plain n in cc
      by (Act.Spawns body) false is = refl
      by (Act.Prints n) false is = refl
      by act b is = both act refl b

  plain-at : (kind : StepKind) → IsPlain kind → (f : Focus)
      → held_at kind f w ≡ option_map {T = Tree × State} {U = Tree × Weak} (λ made. (made.0, moved w made.1)) (reduced_at Side.Protected kind f w.state)
  plain-at kind plain (Focus.AtValue v) = refl
  plain-at kind plain (Focus.AtRedex Side.Unprotected redex) = refl
  plain-at kind plain (Focus.AtRedex Side.Protected redex) = plain-act kind plain (act_of redex)

  -- any other step is that of the strong state
  pub plain-step : (kind : StepKind) (i : ℕ) → IsPlain kind → held_step kind i w ≡ option_map (moved w) (reduce Side.Protected kind i w.state)
  plain-step kind i plain = by (at w.state.members i)
    where
      by : (o : Option Tree) → option_and_then (λ term. option_map (held_rewritten i term) (held_at kind (focus term) w)) o
          ≡ option_map (moved w) (option_and_then (λ term. option_map (rewritten i term) (reduced_at Side.Protected kind (focus term) w.state)) o)
      by None = refl
      by (Some term) = ap (option_map (held_rewritten i term)) (plain-at kind plain (focus term)) ∙ mapped i term (reduced_at Side.Protected kind (focus term) w.state)

  -- what is held, and the unit in its place
  abbrev pub refilled_with : ℕ → State
  refilled_with i = record w.state { members = refilled w.state.members i unit_tree }

  print-act : (act : Act) → (if makes Side.Protected StepKind.Print act then held_performed StepKind.Print act w else None)
      ≡ option_map {T = ℤ} {U = Tree × Weak} (λ n. (unit_tree, record w { prints = w.prints ++ n ∷ [] })) (handed_print act)
  print-act (Act.Prints n) = refl
  print-act (Act.Becomes term) = refl
  print-act _ = refl

  print-focus : (f : Focus) → held_at StepKind.Print f w ≡ option_map {T = ℤ} {U = Tree × Weak} (λ n. (unit_tree, record w { prints = w.prints ++ n ∷ [] })) (print_at f)
  print-focus (Focus.AtValue v) = refl
  print-focus (Focus.AtRedex Side.Unprotected redex) = refl
  print-focus (Focus.AtRedex Side.Protected redex) = print-act (act_of redex)

  pub print-step : (i : ℕ) → held_step StepKind.Print i w
      ≡ option_map {T = ℤ} {U = Weak} (λ n. record { state = refilled_with i; prints = w.prints ++ n ∷ []; spawns = w.spawns }) (option_and_then (λ term. print_at (focus term)) (at w.state.members i))
  print-step i = by (at w.state.members i) refl
    where
      with_unit : (term : Tree) → at w.state.members i ≡ Some term → refilled w.state.members i unit_tree ≡ change w.state.members i (fill term unit_tree)
      with_unit term found = ap (λ (o : Option Tree). option_map_or (λ z. change w.state.members i (fill z unit_tree)) o w.state.members) found

      at_some : (term : Tree) → at w.state.members i ≡ Some term → (o : Option ℤ)
          → option_map (held_rewritten i term) (option_map {T = ℤ} {U = Tree × Weak} (λ n. (unit_tree, record w { prints = w.prints ++ n ∷ [] })) o)
          ≡ option_map {T = ℤ} {U = Weak} (λ n. record { state = refilled_with i; prints = w.prints ++ n ∷ []; spawns = w.spawns }) o
      at_some term found None = refl
      at_some term found (Some n) =
          ap (λ (ms : List (ℕ × Tree)). Some (record { state = record w.state { members = ms }; prints = w.prints ++ n ∷ []; spawns = w.spawns })) (sym (with_unit term found))

      by : (o : Option Tree) → at w.state.members i ≡ o → option_and_then (λ term. option_map (held_rewritten i term) (held_at StepKind.Print (focus term) w)) o
          ≡ option_map {T = ℤ} {U = Weak} (λ n. record { state = refilled_with i; prints = w.prints ++ n ∷ []; spawns = w.spawns }) (option_and_then (λ term. print_at (focus term)) o)
      by None found = refl
      by (Some term) found = ap (option_map (held_rewritten i term)) (print-focus (focus term)) ∙ at_some term found (print_at (focus term))

  pub print-none : (i : ℕ) → None ≡ option_and_then (λ term. print_at (focus term)) (at w.state.members i) → held_step StepKind.Print i w ≡ None
  print-none i e = print-step i ∙ ap (option_map {T = ℤ} {U = Weak} (λ n. record { state = refilled_with i; prints = w.prints ++ n ∷ []; spawns = w.spawns })) (sym e)

  pub print-some : (i : ℕ) (n : ℤ) → Some n ≡ option_and_then (λ term. print_at (focus term)) (at w.state.members i)
      → held_step StepKind.Print i w ≡ Some (record { state = refilled_with i; prints = w.prints ++ n ∷ []; spawns = w.spawns })
  print-some i n e = print-step i ∙ ap (option_map {T = ℤ} {U = Weak} (λ n. record { state = refilled_with i; prints = w.prints ++ n ∷ []; spawns = w.spawns })) (sym e)

  spawn-act : (act : Act) → (if makes Side.Protected StepKind.Spawn act then held_performed StepKind.Spawn act w else None)
      ≡ option_map {T = Tree} {U = Tree × Weak} (λ body. (unit_tree, record w { spawns = w.spawns ++ body ∷ [] })) (body_of act)
  spawn-act (Act.Spawns body) = refl
  spawn-act (Act.Becomes term) = refl
  spawn-act _ = refl

  spawn-focus : (f : Focus) → held_at StepKind.Spawn f w ≡ option_map {T = Tree} {U = Tree × Weak} (λ body. (unit_tree, record w { spawns = w.spawns ++ body ∷ [] })) (body_at f)
  spawn-focus (Focus.AtValue v) = refl
  spawn-focus (Focus.AtRedex Side.Unprotected redex) = refl
  spawn-focus (Focus.AtRedex Side.Protected redex) = spawn-act (act_of redex)

  pub spawn-step : (i : ℕ) → held_step StepKind.Spawn i w
      ≡ option_map {T = Tree} {U = Weak} (λ body. record { state = refilled_with i; prints = w.prints; spawns = w.spawns ++ body ∷ [] }) (option_and_then (λ term. body_at (focus term)) (at w.state.members i))
  spawn-step i = by (at w.state.members i) refl
    where
      with_unit : (term : Tree) → at w.state.members i ≡ Some term → refilled w.state.members i unit_tree ≡ change w.state.members i (fill term unit_tree)
      with_unit term found = ap (λ (o : Option Tree). option_map_or (λ z. change w.state.members i (fill z unit_tree)) o w.state.members) found

      at_some : (term : Tree) → at w.state.members i ≡ Some term → (o : Option Tree)
          → option_map (held_rewritten i term) (option_map {T = Tree} {U = Tree × Weak} (λ body. (unit_tree, record w { spawns = w.spawns ++ body ∷ [] })) o)
          ≡ option_map {T = Tree} {U = Weak} (λ body. record { state = refilled_with i; prints = w.prints; spawns = w.spawns ++ body ∷ [] }) o
      at_some term found None = refl
      at_some term found (Some body) =
          ap (λ (ms : List (ℕ × Tree)). Some (record { state = record w.state { members = ms }; prints = w.prints; spawns = w.spawns ++ body ∷ [] })) (sym (with_unit term found))

      by : (o : Option Tree) → at w.state.members i ≡ o → option_and_then (λ term. option_map (held_rewritten i term) (held_at StepKind.Spawn (focus term) w)) o
          ≡ option_map {T = Tree} {U = Weak} (λ body. record { state = refilled_with i; prints = w.prints; spawns = w.spawns ++ body ∷ [] }) (option_and_then (λ term. body_at (focus term)) o)
      by None found = refl
      by (Some term) found = ap (option_map (held_rewritten i term)) (spawn-focus (focus term)) ∙ at_some term found (body_at (focus term))

  pub spawn-none : (i : ℕ) → None ≡ option_and_then (λ term. body_at (focus term)) (at w.state.members i) → held_step StepKind.Spawn i w ≡ None
  spawn-none i e = spawn-step i ∙ ap (option_map {T = Tree} {U = Weak} (λ body. record { state = refilled_with i; prints = w.prints; spawns = w.spawns ++ body ∷ [] })) (sym e)

  pub spawn-some : (i : ℕ) (body : Tree) → Some body ≡ option_and_then (λ term. body_at (focus term)) (at w.state.members i)
      → held_step StepKind.Spawn i w ≡ Some (record { state = refilled_with i; prints = w.prints; spawns = w.spawns ++ body ∷ [] })
  spawn-some i body e = spawn-step i ∙ ap (option_map {T = Tree} {U = Weak} (λ body. record { state = refilled_with i; prints = w.prints; spawns = w.spawns ++ body ∷ [] })) (sym e)

  -- Leaving and ending

  -- if nothing is held, nothing takes effect
  no-more : (s : State) → s ≡ record s { output = s.output ++ []; next = s.next + 0 }
  no-more s = let e : s.next ≡ s.next + 0 = omega arith in λ i. record s { output = sym (append-nil s.output) i; next = e i }

  pub let-go-none : holds_nothing w ≡ true → (s : State) → with_held_released (moved w s) ≡ moved w s
  let-go-none none s = by w.prints w.spawns none
    where
      by : (prints : List ℤ) (spawns : List Tree) → holds_nothing (record { state = s; prints = prints; spawns = spawns }) ≡ true
          → with_held_released (record { state = s; prints = prints; spawns = spawns }) ≡ record { state = s; prints = prints; spawns = spawns }
      by [] [] none = ap holding_none (sym (no-more s))
      by [] (body ∷ spawns) none = cc
      by (n ∷ prints) spawns none = cc

  pub leave-is : weak_after w Label.Leave ≡ option_map (λ s. with_held_released (moved w s)) (after w.state Label.Leave)
  unfolding weak_after
  leave-is = refl

  pub end-is : weak_after w Label.End ≡ option_map (λ s. with_held_released (moved w s)) (after w.state Label.End)
  unfolding weak_after
  end-is = refl

  mapped-some : {X Y : Type 0} (f : X → Y) (o : Option X) → is_some o ≡ true → IsSome (option_map f o)
  mapped-some f None there = cc
  mapped-some f (Some x) there = refl

  pub goes-nowhere : (label : Label) → is_some (after w.state label) ≡ false → option_map (λ s. with_held_released (moved w s)) (after w.state label) ≡ None
  goes-nowhere label none = ap (option_map (λ s. with_held_released (moved w s))) (none-of (after w.state label) none)
    where
      none-of : (o : Option State) → is_some o ≡ false → o ≡ None
      none-of None e = refl
      none-of (Some x) e = cc

  pub goes-some : (label : Label) → is_some (after w.state label) ≡ true → IsSome (option_map (λ s. with_held_released (moved w s)) (after w.state label))
  goes-some label there = mapped-some (λ s. with_held_released (moved w s)) (after w.state label) there

  pub goes-free : holds_nothing w ≡ true → (label : Label) → option_map (λ s. with_held_released (moved w s)) (after w.state label) ≡ option_map (moved w) (after w.state label)
  goes-free none label = by (after w.state label)
    where
      by : (o : Option State) → option_map (λ s. with_held_released (moved w s)) o ≡ option_map (moved w) o
      by None = refl
      by (Some s) = ap Some (let-go-none none s)
