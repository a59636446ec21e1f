-- Within the bounds no value is nested too deeply, and one that would be is too high by one.
use Rattle.std.proofs.Common.{◌≡◌, ℕ, ◌+◌, ◌≤◌, ◌<◌, ℤ, Bool, true, false, List, [], ◌∷◌, ◌++◌, Option, Some, None, is_some, is_none, option_map, option_and_then, if◌then◌else◌, refl, sym, ap, ◌∙◌, subst, arith}
use Rattle.std.specs.Prelude.{◌==◌, ◌&&◌, ◌||◌, not, nat_lt}
use Rattle.std.specs.List.{AllByRecursion}
use Rattle.std.proofs.lemmas.Bool.{eq-eqb, ltb-false, ltb-true}
use Rattle.ame_term.specs.Tree.{Val, Tree, unit_tree}
use Rattle.ame_term.specs.Frame.{Side, same_side}
use Rattle.ame_term.specs.Context.{Focus, focus, fill}
use Rattle.ame_term.specs.Act.{Act, act_of, fresh_location, device_answer, makes}
use Rattle.ame_term.specs.Height.{max_height, height, held_height}
use Rattle.ame_term.specs.Maps.{at, put, change, without}
use Rattle.ame_term.specs.SourceTerm.{IsSourceTerm}
use Rattle.ame_term.specs.State.{State, allocated, performed, performed_on, rewritten, reduced_at, reduce, activated, departed, ended, closed, closed_value, at_unprotected, at_value, after}
use Rattle.ame_term.specs.declared.semantics.StepKind.{StepKind}
use Rattle.ame_term.specs.declared.semantics.Label.{Label}
use Rattle.ame_term.specs.declared.types.Binary.TheVariants as binary
use Rattle.ame_laws.proofs.MapLemmas.{each-at, each-put, each-change, each-without}
use Rattle.ame_journal.specs.Replayed.{value_height, coming_height, has_such, is_tall}
use Rattle.ame_machine.specs.Run.AgreesWith.{with_members}
use Rattle.ame_machine.specs.Sound.{HoldsLow}
use Rattle.ame_machine.proofs.LowLemmas.{IsLowAct, low-act, low-redex, low-filled, program-low}
use Rattle.ame_strong.specs.Pool.{pool, active_tree}
use Rattle.ame_strong.proofs.PoolLemmas.{at-pool_idle, at-pool_other, at-pool_found}
use Rattle.ame_weak.specs.Weak.{Weak, moved, holds_nothing, weak_start, held_performed, held_at, held_rewritten, held_step, with_held_released, is_resting, may_free, weak_after, weak_run}
use Rattle.ame_weak.specs.Bounds.{max_frames, is_deeper, is_tall_at, is_beyond, IsTermWithinBounds, IsWithinBounds, AreWithinBounds, grows_tall, is_growing_tall}
use Rattle.ame_weak.specs.Low.{IsLowState, IsLow}

-- Options that have a value.

then-gave : {X Y : Type 0} (f : X → Option Y) (o : Option X) (y : Y) → option_and_then f o ≡ Some y → (x : X) × (o ≡ Some x) × (f x ≡ Some y)
then-gave f None y e = cc
then-gave f (Some x) y e = (x, refl, e)

map-gave : {X Y : Type 0} (f : X → Y) (o : Option X) (y : Y) → option_map f o ≡ Some y → (x : X) × (o ≡ Some x) × (f x ≡ y)
map-gave f None y e = cc
map-gave f (Some x) y e = (x, refl, cc)

if-gave : {Y : Type 0} (b : Bool) (o : Option Y) (y : Y) → (if b then o else None) ≡ Some y → (b ≡ true) × (o ≡ Some y)
if-gave true o y e = (refl, e)
if-gave false o y e = cc

unless-gave : {Y : Type 0} (b : Bool) (o : Option Y) (y : Y) → (if b then None else o) ≡ Some y → o ≡ Some y
unless-gave true o y e = cc
unless-gave false o y e = e

-- Steps

-- the results of a step: a redex and a state
record Leaves (made : Tree × State) : Type 0 where
  term : HoldsLow made.0
  state : IsLowState made.1

unit_low : HoldsLow unit_tree
unfolding height held_height
unit_low = omega arith

location_low : (l : ℕ) → HoldsLow (Tree.Held (Val.Loc l))
unfolding height held_height
location_low l = omega arith

int_low : (n : ℤ) → HoldsLow (Tree.Held (Val.Int n))
unfolding height held_height
int_low n = omega arith

held_low : (v : Val) → height v ≤ max_height → HoldsLow (Tree.Held v)
unfolding held_height
held_low v low = low

leaves : (made : Tree × State) (t : Tree) (s : State) → Some (t, s) ≡ Some made → HoldsLow t → IsLowState s → Leaves made
leaves made t s e term state = let same : ◌≡◌ {A = Tree × State} (t, s) made = cc in subst Leaves same (record { term = term; state = state })

stored_low : (s : State) (l : ℕ) (v : Val) → IsLowState s → height v ≤ max_height → IsLowState (record s { store = put s.store l v })
stored_low s l v low new = record {
  store = each-put (λ v. height v ≤ max_height) s.store l v new low.store;
  members = low.members;
}

joined_low : (s : State) (body : Tree) → IsLowState s → HoldsLow body → IsLowState (record s { members = put s.members s.next body; next = s.next + 1 })
joined_low s body low new = record {
  store = low.store;
  members = each-put HoldsLow s.members s.next body new low.members;
}

changed_low : (s : State) (i : ℕ) (t : Tree) → IsLowState s → HoldsLow t → IsLowState (record s { members = change s.members i t })
changed_low s i t low new = record {
  store = low.store;
  members = each-change HoldsLow s.members i t new low.members;
}

loaded_low : (s : State) (l : ℕ) (made : Tree × State) → IsLowState s → option_map (λ (v : Val). (Tree.Held v, s)) (at s.store l) ≡ Some made → Leaves made
loaded_low s l made low e =
    let k = map-gave (λ (v : Val). (Tree.Held v, s)) (at s.store l) made e in
    subst Leaves k.2 (record {
      term = held_low k.0 (each-at (λ v. height v ≤ max_height) s.store l k.0 k.1 low.store);
      state = low;
    })

performed_low : (kind : StepKind) (act : Act) (s : State) (made : Tree × State) → performed kind act s ≡ Some made → IsLowAct act → IsLowState s → Leaves made
performed_low kind (Act.Becomes term) s made e new low = leaves made term s e new low
performed_low kind (Act.Allocates sort number v) s made e new low =
    let k = then-gave (allocated v s) (fresh_location kind) made e in
    let h = unless-gave (is_some (at s.store k.0)) (Some (Tree.Held (Val.Loc k.0), record s { store = put s.store k.0 v })) made k.2 in
    leaves made (Tree.Held (Val.Loc k.0)) (record s { store = put s.store k.0 v }) h (location_low k.0) (stored_low s k.0 v low new)
performed_low kind (Act.Reads l) s made e new low = loaded_low s l made low e
performed_low kind (Act.Peeks l) s made e new low = loaded_low s l made low e
performed_low kind (Act.Writes l v) s made e new low = leaves made unit_tree (record s { store = put s.store l v }) e unit_low (stored_low s l v low new)
performed_low kind (Act.Spawns body) s made e new low =
    leaves made unit_tree (record s { members = put s.members s.next body; next = s.next + 1 }) e unit_low (joined_low s body low new)
performed_low kind (Act.Prints n) s made e new low =
    leaves made unit_tree (record s { output = s.output ++ n ∷ [] }) e unit_low (record { store = low.store; members = low.members })
performed_low kind Act.Passes s made e new low = leaves made unit_tree s e unit_low low
performed_low kind Act.Fails s made e new low = absurd (cc)
performed_low kind (Act.Calls device n) s made e new low =
    let k = map-gave (λ (answer : ℤ). (Tree.Held (Val.Int answer), s)) (device_answer kind) made e in
    subst Leaves k.2 (record { term = int_low k.0; state = low })
performed_low kind (Act.Closes v) s made e new low = absurd (cc)
performed_low kind Act.Stuck s made e new low = absurd (cc)

-- a redex that makes no value nested too deeply
fits : (side : Side) (redex : Tree) → is_tall_at (Focus.AtRedex side redex) ≡ false → value_height redex ≤ max_height
fits side redex e = ltb-false max_height (value_height redex) e

-- if a term is low, so is the act of its redex
term_act : (t redex : Tree) (side : Side) → focus t ≡ Focus.AtRedex side redex → HoldsLow t → is_tall_at (focus t) ≡ false → IsLowAct (act_of redex)
term_act t redex side stands low small =
    low-act redex (low-redex t redex side stands low) (fits side redex (subst (λ (f : Focus). is_tall_at f ≡ false) stands small))

reduced_low : (side : Side) (kind : StepKind) (t : Tree) (s : State) (made : Tree × State) (f : Focus) → focus t ≡ f → reduced_at side kind f s ≡ Some made
    → HoldsLow t → is_tall_at (focus t) ≡ false → IsLowState s → Leaves made × HoldsLow (fill t made.0)
reduced_low side kind t s made (Focus.AtValue v) stands e term small low = absurd (cc)
reduced_low side kind t s made (Focus.AtRedex under redex) stands e term small low =
    let one = if-gave (same_side side under) (performed_on side kind (act_of redex) s) made e in
    let two = if-gave (makes side kind (act_of redex)) (performed kind (act_of redex) s) made one.1 in
    let left = performed_low kind (act_of redex) s made two.1 (term_act t redex under stands term small) low in
    (left, low-filled t redex made.0 under stands term left.term)

-- Labels

not_tall : (t : Tree) → is_beyond t ≡ false → is_tall_at (focus t) ≡ false
not_tall t e = by (is_deeper max_frames t) (is_tall_at (focus t)) e
  where
    by : (a b : Bool) → (a || b) ≡ false → b ≡ false
    by true b e = cc
    by false b e = e

-- if a member's term is within the bounds, it is no redex of a value nested too deeply
small_at : (o : Option Tree) (t : Tree) → o ≡ Some t → IsTermWithinBounds o → is_tall_at (focus t) ≡ false
small_at o t is within = not_tall t (subst IsTermWithinBounds is within)

reduce_low : (side : Side) (kind : StepKind) (i : ℕ) (s u : State) → reduce side kind i s ≡ Some u
    → ((t : Tree) → at s.members i ≡ Some t → is_tall_at (focus t) ≡ false) → IsLowState s → IsLowState u
reduce_low side kind i s u e small low =
    let k = then-gave (λ (t : Tree). option_map (rewritten i t) (reduced_at side kind (focus t) s)) (at s.members i) u e in
    let h = map-gave (rewritten i k.0) (reduced_at side kind (focus k.0) s) u k.2 in
    let r = reduced_low side kind k.0 s h.0 (focus k.0) refl h.1 (each-at HoldsLow s.members i k.0 k.1 low.members) (small k.0 k.1) low in
    subst IsLowState h.2 (changed_low h.0.1 i (fill k.0 h.0.0) r.0.state r.1)

low_last : (bodies : List Tree) (body : Tree) → AllByRecursion HoldsLow bodies → HoldsLow body → AllByRecursion HoldsLow (bodies ++ body ∷ [])
low_last [] body all new = (new, tt)
low_last (b ∷ bodies) body all new = (all.0, low_last bodies body all.1 new)

-- what a step of the active fragment makes, with what is held
record Holding (made : Tree × Weak) : Type 0 where
  term : HoldsLow made.0
  weak : IsLow made.1

holding : (made : Tree × Weak) (t : Tree) (w : Weak) → Some (t, w) ≡ Some made → HoldsLow t → IsLow w → Holding made
holding made t w e term weak = let same : ◌≡◌ {A = Tree × Weak} (t, w) made = cc in subst Holding same (record { term = term; weak = weak })

plainly_low : (kind : StepKind) (act : Act) (w : Weak) (made : Tree × Weak)
    → option_map (λ (m : Tree × State). (m.0, moved w m.1)) (performed kind act w.state) ≡ Some made → IsLowAct act → IsLow w → Holding made
plainly_low kind act w made e new low =
    let k = map-gave (λ (m : Tree × State). (m.0, moved w m.1)) (performed kind act w.state) made e in
    let a = performed_low kind act w.state k.0 k.1 new low.state in
    subst Holding k.2 (record { term = a.term; weak = record { state = a.state; spawns = low.spawns } })

held_performed_low : (kind : StepKind) (act : Act) (w : Weak) (made : Tree × Weak) → held_performed kind act w ≡ Some made → IsLowAct act → IsLow w → Holding made
held_performed_low kind (Act.Spawns body) w made e new low =
    holding made unit_tree (record w { spawns = w.spawns ++ body ∷ [] }) e unit_low (record { state = low.state; spawns = low_last w.spawns body low.spawns new })
held_performed_low kind (Act.Prints n) w made e new low =
    holding made unit_tree (record w { prints = w.prints ++ n ∷ [] }) e unit_low (record { state = low.state; spawns = low.spawns })
held_performed_low kind act w made e new low = plainly_low kind act w made e new low

held_at_low : (kind : StepKind) (t : Tree) (w : Weak) (made : Tree × Weak) (f : Focus) → focus t ≡ f → held_at kind f w ≡ Some made
    → HoldsLow t → is_tall_at (focus t) ≡ false → IsLow w → Holding made × HoldsLow (fill t made.0)
held_at_low kind t w made (Focus.AtValue v) stands e term small low = absurd (cc)
held_at_low kind t w made (Focus.AtRedex under redex) stands e term small low =
    let one = if-gave (same_side Side.Protected under && makes Side.Protected kind (act_of redex)) (held_performed kind (act_of redex) w) made e in
    let left = held_performed_low kind (act_of redex) w made one.1 (term_act t redex under stands term small) low in
    (left, low-filled t redex made.0 under stands term left.term)

held_low_step : (kind : StepKind) (i : ℕ) (w v : Weak) → held_step kind i w ≡ Some v
    → ((t : Tree) → at w.state.members i ≡ Some t → is_tall_at (focus t) ≡ false) → IsLow w → IsLow v
held_low_step kind i w v e small low =
    let k = then-gave (λ (t : Tree). option_map (held_rewritten i t) (held_at kind (focus t) w)) (at w.state.members i) v e in
    let h = map-gave (held_rewritten i k.0) (held_at kind (focus k.0) w) v k.2 in
    let r = held_at_low kind k.0 w h.0 (focus k.0) refl h.1 (each-at HoldsLow w.state.members i k.0 k.1 low.state.members) (small k.0 k.1) low in
    subst IsLow h.2 (record {
      state = changed_low h.0.1.state i (fill k.0 h.0.0) r.0.weak.state r.1;
      spawns = r.0.weak.spawns;
    })

joined_all_low : (members : List (ℕ × Tree)) (next : ℕ) (bodies : List Tree) → AllByRecursion (λ (m : ℕ × Tree). HoldsLow m.1) members → AllByRecursion HoldsLow bodies
    → AllByRecursion (λ (m : ℕ × Tree). HoldsLow m.1) (with_members members next bodies)
joined_all_low members next [] low new = low
joined_all_low members next (body ∷ bodies) low new =
    joined_all_low (put members next body) (next + 1) bodies (each-put HoldsLow members next body new.0 low) new.1

released_low : (w : Weak) → IsLow w → IsLow (with_held_released w)
released_low w low = record {
  state = record { store = low.state.store; members = joined_all_low w.state.members w.state.next w.spawns low.state.members low.spawns };
  spawns = tt;
}

activated_low : (i : ℕ) (s t : State) → activated i s ≡ Some t → IsLowState s → IsLowState t
activated_low i s t e low =
    let k = then-gave (λ (term : Tree). if at_unprotected (focus term) then None else Some (record s { active = Some i })) (at s.members i) t e in
    let h = unless-gave (at_unprotected (focus k.0)) (Some (record s { active = Some i })) t k.2 in
    let same : record s { active = Some i } ≡ t = cc in
    subst IsLowState same (record { store = low.store; members = low.members })

departed_low : (i : ℕ) (s t : State) → departed i s ≡ Some t → IsLowState s → IsLowState t
departed_low i s t e low =
    let k = then-gave (λ (term : Tree). if at_unprotected (focus term) then Some (record s { active = None }) else None) (at s.members i) t e in
    let h = if-gave (at_unprotected (focus k.0)) (Some (record s { active = None })) t k.2 in
    let same : record s { active = None } ≡ t = cc in
    subst IsLowState same (record { store = low.store; members = low.members })

ended_low : (i : ℕ) (s t : State) → ended i s ≡ Some t → IsLowState s → IsLowState t
ended_low i s t e low =
    let k = then-gave (λ (term : Tree). if at_value (focus term) then Some (record s { members = without s.members i; active = None }) else None) (at s.members i) t e in
    let h = if-gave (at_value (focus k.0)) (Some (record s { members = without s.members i; active = None })) t k.2 in
    let same : record s { members = without s.members i; active = None } ≡ t = cc in
    subst IsLowState same (record { store = low.store; members = each-without HoldsLow s.members i low.members })

closes_low : (t : Tree) (v : Val) (f : Focus) → focus t ≡ f → closed_value f ≡ Some v → HoldsLow t → HoldsLow (fill t (Tree.Held v))
unfolding held_height
closes_low t v (Focus.AtRedex Side.Protected (Tree.Unprotected (Tree.Held u))) stands e low =
    let inner : HoldsLow (Tree.Held u) = low-redex t (Tree.Unprotected (Tree.Held u)) Side.Protected stands low in
    let same : u ≡ v = cc in
    low-filled t (Tree.Unprotected (Tree.Held u)) (Tree.Held v) Side.Protected stands low (subst (λ (x : Val). HoldsLow (Tree.Held x)) same inner)
closes_low t v _ stands e low = absurd (cc)

closed_low : (i : ℕ) (s t : State) → closed i s ≡ Some t → IsLowState s → IsLowState t
closed_low i s t e low =
    let k = then-gave (λ (term : Tree). option_map (λ (v : Val). record s { members = change s.members i (fill term (Tree.Held v)) }) (closed_value (focus term))) (at s.members i) t e in
    let h = map-gave (λ (v : Val). record s { members = change s.members i (fill k.0 (Tree.Held v)) }) (closed_value (focus k.0)) t k.2 in
    subst IsLowState h.2 (changed_low s i (fill k.0 (Tree.Held h.0)) low (closes_low k.0 h.0 (focus k.0) refl h.1 (each-at HoldsLow s.members i k.0 k.1 low.members)))

-- a resting member is in the pool
pooled : (s : State) (i : ℕ) → is_resting s.active i ≡ true → at (pool s) i ≡ at s.members i
pooled s i rests = by s.active refl rests
  where
    by : (o : Option ℕ) → s.active ≡ o → is_resting o i ≡ true → at (pool s) i ≡ at s.members i
    by None is rests = at-pool_idle s i is
    by (Some j) is rests = at-pool_other s j i is (λ same. let clash : true ≡ false = sym rests ∙ ap not (eq-eqb j i same) in cc)

both : (a b : Bool) → (a && b) ≡ true → a ≡ true
both true b e = refl
both false b e = cc

pub label_low : (w v : Weak) (label : Label) → weak_after w label ≡ Some v → IsWithinBounds w label → IsLow w → IsLow v
unfolding weak_after after
label_low w v (Label.Activate i) e within low =
    let k = if-gave (holds_nothing w) (option_map (moved w) (after w.state (Label.Activate i))) v e in
    let h = map-gave (moved w) (after w.state (Label.Activate i)) v k.1 in
    let a = if-gave (is_none w.state.active) (activated i w.state) h.0 h.1 in
    subst IsLow h.2 (record { state = activated_low i w.state h.0 a.1 low.state; spawns = low.spawns })
label_low w v (Label.Step kind) e within low =
    let k = then-gave (λ (i : ℕ). held_step kind i w) w.state.active v e in
    let there : active_tree w.state ≡ at w.state.members k.0 = ap (λ (o : Option ℕ). option_and_then (at w.state.members) o) k.1 in
    held_low_step kind k.0 w v k.2 (λ t is. small_at (active_tree w.state) t (there ∙ is) within) low
label_low w v Label.Leave e within low =
    let h = map-gave (λ (s : State). with_held_released (moved w s)) (after w.state Label.Leave) v e in
    let k = then-gave (λ (i : ℕ). departed i w.state) w.state.active h.0 h.1 in
    subst IsLow h.2 (released_low (moved w h.0) (record { state = departed_low k.0 w.state h.0 k.2 low.state; spawns = low.spawns }))
label_low w v Label.End e within low =
    let h = map-gave (λ (s : State). with_held_released (moved w s)) (after w.state Label.End) v e in
    let k = then-gave (λ (i : ℕ). ended i w.state) w.state.active h.0 h.1 in
    subst IsLow h.2 (released_low (moved w h.0) (record { state = ended_low k.0 w.state h.0 k.2 low.state; spawns = low.spawns }))
label_low w v (Label.Free i kind) e within low =
    let k = if-gave (is_resting w.state.active i && may_free w.state.active kind) (option_map (moved w) (reduce Side.Unprotected kind i w.state)) v e in
    let h = map-gave (moved w) (reduce Side.Unprotected kind i w.state) v k.1 in
    let there : at (pool w.state) i ≡ at w.state.members i = pooled w.state i (both (is_resting w.state.active i) (may_free w.state.active kind) k.0) in
    subst IsLow h.2 (record {
      state = reduce_low Side.Unprotected kind i w.state h.0 h.1 (λ t is. small_at (at (pool w.state) i) t (there ∙ is) within) low.state;
      spawns = low.spawns;
    })
label_low w v (Label.Close i) e within low =
    let k = if-gave (is_resting w.state.active i) (option_map (moved w) (closed i w.state)) v e in
    let h = map-gave (moved w) (closed i w.state) v k.1 in
    subst IsLow h.2 (record { state = closed_low i w.state h.0 h.1 low.state; spawns = low.spawns })

pub labels_low : (w v : Weak) (labels : List Label) → weak_run w labels ≡ Some v → AreWithinBounds w labels → IsLow w → IsLow v
labels_low w v [] e within low = let same : w ≡ v = cc in subst IsLow same low
labels_low w v (label ∷ labels) e within low =
    let k = then-gave (λ (u : Weak). weak_run u labels) (weak_after w label) v e in
    labels_low k.0 v labels k.2 (within.1 k.0 k.1) (label_low w k.0 label k.1 within.0 low)

pub start_low : (program : Tree) → IsSourceTerm program → IsLow (weak_start program)
start_low program source = record {
  state = record { store = tt; members = (program-low program source, tt) };
  spawns = tt;
}

-- A value that would be too high

value_below : (redex : Tree) → value_height redex ≤ held_height redex + 1
unfolding height held_height
value_below (Tree.Lambda head body) = omega arith
value_below (Tree.Two binary.Pair (Tree.Held v) (Tree.Held u)) = omega arith
value_below _ = omega arith

by_one : (side : Side) (t : Tree) (f : Focus) → focus t ≡ f → HoldsLow t → nat_lt max_height (coming_height side f) ≡ true
    → (coming_height side f == max_height + 1) ≡ true
by_one side t (Focus.AtValue v) stands low high = let above : max_height < 0 = ltb-true max_height 0 high in absurd (omega arith)
by_one side t (Focus.AtRedex under redex) stands low high = by (same_side side under) high
  where
    by : (b : Bool) → nat_lt max_height (if b then value_height redex else 0) ≡ true → ((if b then value_height redex else 0) == max_height + 1) ≡ true
    by true high =
        let above : max_height < value_height redex = ltb-true max_height (value_height redex) high in
        let inner : HoldsLow redex = low-redex t redex under stands low in
        let near = value_below redex in
        eq-eqb (value_height redex) (max_height + 1) (omega arith)
    by false high = let above : max_height < 0 = ltb-true max_height 0 high in absurd (omega arith)

found_tall : (side : Side) (o : Option Tree) → ((t : Tree) → o ≡ Some t → HoldsLow t) → has_such (grows_tall side) o ≡ true
    → has_such (λ (t : Tree). coming_height side (focus t) == max_height + 1) o ≡ true
found_tall side None low grows = cc
found_tall side (Some t) low grows = by_one side t (focus t) refl (low t refl) grows

pub active_tall : (w : Weak) (i : ℕ) → IsLow w → w.state.active ≡ Some i → is_growing_tall w None ≡ true → is_tall Side.Protected i w.state ≡ true
active_tall w i low active grows =
    let there : active_tree w.state ≡ at w.state.members i = ap (λ (o : Option ℕ). option_and_then (at w.state.members) o) active in
    found_tall Side.Protected (at w.state.members i) (λ t is. each-at HoldsLow w.state.members i t is low.state.members)
    (ap (λ (o : Option Tree). has_such (grows_tall Side.Protected) o) (sym there) ∙ grows)

pub resting_tall : (w : Weak) (i : ℕ) → IsLow w → is_growing_tall w (Some i) ≡ true → is_tall Side.Unprotected i w.state ≡ true
resting_tall w i low grows = by (at (pool w.state) i) refl grows
  where
    by : (o : Option Tree) → at (pool w.state) i ≡ o → has_such (grows_tall Side.Unprotected) o ≡ true → is_tall Side.Unprotected i w.state ≡ true
    by None is grows = cc
    by (Some t) is grows =
        let found : at w.state.members i ≡ Some t = at-pool_found w.state i t is in
        let high = found_tall Side.Unprotected (Some t) (λ u same. each-at HoldsLow w.state.members i u (found ∙ same) low.state.members) grows in
        ap (λ (o : Option Tree). has_such (λ (u : Tree). coming_height Side.Unprotected (focus u) == max_height + 1) o) found ∙ high
