-- A label adds at most one to the next number and the members that are held.
use Rattle.std.proofs.Common.{◌≡◌, ℕ, ◌+◌, ◌≤◌, ◌++◌, [], ◌∷◌, length, Some, option_map, sym, ap, subst, arith}
use Rattle.std.proofs.lemmas.Option.{option_and_then_some}
use Rattle.std.proofs.lemmas.List.{length_push}
use Rattle.std.specs.Prelude.{◌&&◌}
use Rattle.ame_term.specs.Tree.{Tree, unit_tree}
use Rattle.ame_term.specs.Frame.{Side}
use Rattle.ame_term.specs.Context.{focus, fill}
use Rattle.ame_term.specs.Act.{Act, act_of}
use Rattle.ame_term.specs.Maps.{change}
use Rattle.ame_term.specs.State.{State, performed, reduce, after, closed, closed_value}
use Rattle.ame_term.specs.declared.semantics.StepKind.{StepKind}
use Rattle.ame_term.specs.declared.semantics.Label.{Label}
use Rattle.ame_journal.proofs.StepLemmas.{performed-keeps, reduced, activate-is}
use Rattle.ame_weak.specs.Weak.{Weak, moved, holds_nothing, held_performed, held_step, with_held_released, is_resting, may_free, weak_after}
use Rattle.ame_weak.proofs.HeldSteps.{if-gave, map-gave, held-reduced}
use Rattle.ame_weak.proofs.ReleaseLemmas.{gone-next}

-- the next number, and the members that are held
abbrev pub taken_numbers : Weak → ℕ
taken_numbers w = w.state.next + length w.spawns

made-same : (w : Weak) (made other : Tree × Weak) → Some other ≡ Some made → taken_numbers other.1 ≤ taken_numbers w + 1 → taken_numbers made.1 ≤ taken_numbers w + 1
made-same w made other e few = let is : other ≡ made = cc in subst (λ (m : Tree × Weak). taken_numbers m.1 ≤ taken_numbers w + 1) is few

plain-few : (kind : StepKind) (act : Act) (w : Weak) (made : Tree × Weak)
    → option_map {T = Tree × State} {U = Tree × Weak} (λ m. (m.0, moved w m.1)) (performed kind act w.state) ≡ Some made → taken_numbers made.1 ≤ taken_numbers w + 1
plain-few kind act w made e =
    let m = map-gave (λ (m : Tree × State). (m.0, moved w m.1)) (performed kind act w.state) made e in
    let next : m.0.1.next ≤ w.state.next + 1 = (performed-keeps kind act w.state m.0 m.1).keeps.next in
    subst (λ (z : Tree × Weak). taken_numbers z.1 ≤ taken_numbers w + 1) m.2 (omega arith)

pub performed-few : (kind : StepKind) (act : Act) (w : Weak) (made : Tree × Weak) → held_performed kind act w ≡ Some made → taken_numbers made.1 ≤ taken_numbers w + 1
performed-few kind (Act.Spawns body) w made e =
    let more : length (w.spawns ++ body ∷ []) ≡ length w.spawns + 1 = length_push w.spawns body in
    made-same w made (unit_tree, record w { spawns = w.spawns ++ body ∷ [] }) e (omega arith)
performed-few kind (Act.Prints n) w made e = made-same w made (unit_tree, record w { prints = w.prints ++ n ∷ [] }) e (omega arith)
performed-few kind (Act.Becomes term) w made e = plain-few kind (Act.Becomes term) w made e
performed-few kind (Act.Allocates sort number v) w made e = plain-few kind (Act.Allocates sort number v) w made e
performed-few kind (Act.Reads l) w made e = plain-few kind (Act.Reads l) w made e
performed-few kind (Act.Peeks l) w made e = plain-few kind (Act.Peeks l) w made e
performed-few kind (Act.Writes l v) w made e = plain-few kind (Act.Writes l v) w made e
performed-few kind (Act.Calls device n) w made e = plain-few kind (Act.Calls device n) w made e
performed-few kind Act.Passes w made e = plain-few kind Act.Passes w made e
performed-few kind _ w made e = cc

moved-few : (w v : Weak) (s : State) → moved w s ≡ v → s.next ≤ w.state.next + 1 → taken_numbers v ≤ taken_numbers w + 1
moved-few w v s is next = subst (λ (z : Weak). taken_numbers z ≤ taken_numbers w + 1) is (omega arith)

held-few : (kind : StepKind) (i : ℕ) (w v : Weak) → held_step kind i w ≡ Some v → taken_numbers v ≤ taken_numbers w + 1
held-few kind i w v e =
    let x = held-reduced kind i w v e in
    subst (λ (z : Weak). taken_numbers z ≤ taken_numbers w + 1) x.is (performed-few kind (act_of x.redex) w x.made x.performs)

released-few : (w v : Weak) (s : State) → with_held_released (moved w s) ≡ v → s.next ≡ w.state.next → taken_numbers v ≤ taken_numbers w + 1
released-few w v s is next = subst (λ (z : Weak). taken_numbers z ≤ taken_numbers w + 1) is (omega arith)

closed-next : (i : ℕ) (s t : State) → closed i s ≡ Some t → t.next ≡ s.next
closed-next i s t e =
    option_and_then_some _ _ _ e (λ term is_member e1.
    let m = map-gave (λ v. record s { members = change s.members i (fill term (Tree.Held v)) }) (closed_value (focus term)) t e1 in
    sym (ap (λ (z : State). z.next) m.2))

pub room-after : (w v : Weak) (label : Label) → weak_after w label ≡ Some v → taken_numbers v ≤ taken_numbers w + 1
unfolding weak_after
room-after w v (Label.Activate i) e =
    let b = if-gave (holds_nothing w) (option_map (moved w) (after w.state (Label.Activate i))) v e in
    let m = map-gave (moved w) (after w.state (Label.Activate i)) v b.1 in
    let same : m.0.next ≡ w.state.next = ap (λ (z : State). z.next) (activate-is i w.state m.0 m.1) in
    moved-few w v m.0 m.2 (omega arith)
room-after w v (Label.Step kind) e = option_and_then_some _ _ _ e (λ i is e1. held-few kind i w v e1)
room-after w v Label.Leave e =
    let m = map-gave (λ (s : State). with_held_released (moved w s)) (after w.state Label.Leave) v e in
    released-few w v m.0 m.2 (gone-next w.state m.0 Label.Leave tt m.1)
room-after w v Label.End e =
    let m = map-gave (λ (s : State). with_held_released (moved w s)) (after w.state Label.End) v e in
    released-few w v m.0 m.2 (gone-next w.state m.0 Label.End tt m.1)
room-after w v (Label.Free i kind) e =
    let b = if-gave (is_resting w.state.active i && may_free w.state.active kind) (option_map (moved w) (reduce Side.Unprotected kind i w.state)) v e in
    let m = map-gave (moved w) (reduce Side.Unprotected kind i w.state) v b.1 in
    let r = reduced Side.Unprotected kind i w.state m.0 m.1 in
    let few : r.result.1.next ≤ w.state.next + 1 = (performed-keeps kind r.act w.state r.result r.made).keeps.next in
    moved-few w v m.0 m.2 (subst (λ (t : State). t.next ≤ w.state.next + 1) r.is few)
room-after w v (Label.Close i) e =
    let b = if-gave (is_resting w.state.active i) (option_map (moved w) (closed i w.state)) v e in
    let m = map-gave (moved w) (closed i w.state) v b.1 in
    let same : m.0.next ≡ w.state.next = closed-next i w.state m.0 m.1 in
    moved-few w v m.0 m.2 (omega arith)
