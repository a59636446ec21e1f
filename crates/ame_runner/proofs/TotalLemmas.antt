-- The turns of a run, and the steps of its journal.
use Rattle.std.proofs.Common.{◌≡◌, ℕ, ◌+◌, ◌*◌, ◌≤◌, ◌++◌, Bool, true, false, not, List, [], ◌∷◌, length, map, cond, Option, Some, None, is_none}
use Rattle.std.proofs.Common.{option_map, refl, sym, ap, ◌∙◌, arith}
use Rattle.std.specs.Prelude.{◌&&◌}
use Rattle.std.proofs.lemmas.Option.{option_and_then_some}
use Rattle.std.proofs.lemmas.List.Sums.{sum_by-cons, sum_by-append}
use Rattle.ame_term.specs.Tree.{Tree, unit_tree}
use Rattle.ame_term.specs.Context.{focus, fill}
use Rattle.ame_term.specs.Frame.{Side}
use Rattle.ame_term.specs.Act.{Act, act_of, device_answer}
use Rattle.ame_term.specs.Maps.{change}
use Rattle.ame_term.specs.State.{State, after, performed, reduce, closed, closed_value, activated}
use Rattle.ame_term.specs.Tree.{Val}
use Rattle.ame_term.specs.declared.semantics.StepKind.{StepKind}
use Rattle.ame_term.specs.declared.semantics.Label.{Label}
use Rattle.ame_journal.specs.declared.entry.Entry.{Entry}
use Rattle.ame_journal.specs.Labels.{fresh_of}
use Rattle.ame_journal.specs.Totals.{is_note, without_notes, total_steps}
use Rattle.ame_journal.proofs.StepLemmas.{reduced, performed-keeps}
use Rattle.ame_weak.specs.Weak.{Weak, moved, holds_nothing, held_step, held_performed, is_resting, may_free, weak_start, weak_after, weak_run}
use Rattle.ame_weak.specs.Straight.{Place, outset, ran, freed, arrival, entries_of_label, past, straight_from}
use Rattle.ame_weak.specs.Tries.{AreTriesInOrder, notes_of, note_for, straight_with}
use Rattle.ame_weak.specs.declared.tries.Try.{Try}
use Rattle.ame_weak.proofs.HeldSteps.{if-gave, map-gave, held-reduced}
use Rattle.ame_weak.proofs.WayLemmas.{activate-found}
use Rattle.ame_weak.proofs.NoteLemmas.{notes-told, without-tries}
use Rattle.ame_runner.specs.Run.{turns_of_tries}
use Rattle.ame_runner.proofs.PlayLemmas.{none-where}

-- The active member after a step

plain-active : (kind : StepKind) (act : Act) (w : Weak) (made : Tree × Weak) → option_map (λ (m : Tree × State). (m.0, moved w m.1)) (performed kind act w.state) ≡ Some made
    → made.1.state.active ≡ w.state.active
plain-active kind act w made e =
    let k = map-gave (λ (m : Tree × State). (m.0, moved w m.1)) (performed kind act w.state) made e in
    sym (ap (λ (m : Tree × Weak). m.1.state.active) k.2) ∙ (performed-keeps kind act w.state k.0 k.1).keeps.active

held-active : (kind : StepKind) (act : Act) (w : Weak) (made : Tree × Weak) → held_performed kind act w ≡ Some made → made.1.state.active ≡ w.state.active
held-active kind (Act.Becomes t) w made e = plain-active kind (Act.Becomes t) w made e
held-active kind (Act.Allocates sort number v) w made e = plain-active kind (Act.Allocates sort number v) w made e
held-active kind (Act.Reads l) w made e = plain-active kind (Act.Reads l) w made e
held-active kind (Act.Peeks l) w made e = plain-active kind (Act.Peeks l) w made e
held-active kind (Act.Writes l v) w made e = plain-active kind (Act.Writes l v) w made e
held-active kind (Act.Spawns body) w made e =
    let is : ◌≡◌ {A = Tree × Weak} (unit_tree, record w { spawns = w.spawns ++ body ∷ [] }) made = cc in sym (ap (λ (m : Tree × Weak). m.1.state.active) is)
held-active kind (Act.Prints n) w made e =
    let is : ◌≡◌ {A = Tree × Weak} (unit_tree, record w { prints = w.prints ++ n ∷ [] }) made = cc in sym (ap (λ (m : Tree × Weak). m.1.state.active) is)
held-active kind Act.Passes w made e = plain-active kind Act.Passes w made e
held-active kind Act.Fails w made e = plain-active kind Act.Fails w made e
held-active kind (Act.Calls device n) w made e = plain-active kind (Act.Calls device n) w made e
held-active kind (Act.Closes v) w made e = plain-active kind (Act.Closes v) w made e
held-active kind Act.Stuck w made e = plain-active kind Act.Stuck w made e

pub step-stays : (kind : StepKind) (i : ℕ) (w v : Weak) → held_step kind i w ≡ Some v → v.state.active ≡ w.state.active
step-stays kind i w v e =
    let x = held-reduced kind i w v e in
    sym (ap (λ (z : Weak). z.state.active) x.is) ∙ held-active kind (act_of x.redex) w x.made x.performs

pub free-stays : (kind : StepKind) (i : ℕ) (s t : State) → reduce Side.Unprotected kind i s ≡ Some t → t.active ≡ s.active
free-stays kind i s t e =
    let x = reduced Side.Unprotected kind i s t e in
    sym (ap (λ (z : State). z.active) x.is) ∙ (performed-keeps kind x.act s x.result x.made).keeps.active

pub close-stays : (i : ℕ) (s t : State) → closed i s ≡ Some t → t.active ≡ s.active
close-stays i s t e =
    option_and_then_some _ _ _ e (λ term found e1.
    let m = map-gave (λ (v : Val). record s { members = change s.members i (fill term (Tree.Held v)) }) (closed_value (focus term)) t e1 in
    sym (ap (λ (z : State). z.active) m.2))

-- Turns that are still to get an entry: those of the active fragment

abbrev pending : Option ℕ → ℕ → ℕ
pending None steps = 0
pending (Some i) steps = steps + 1

pending-most : (o : Option ℕ) (steps : ℕ) → pending o steps ≤ steps + 1
pending-most None steps = omega arith
pending-most (Some i) steps = omega arith

pub both-steps : (xs ys : List Entry) → total_steps (xs ++ ys) ≡ total_steps xs + total_steps ys
both-steps xs ys = sum_by-append (λ entry. entry.steps + 1) xs ys

pub one-step : (entry : Entry) → total_steps (entry ∷ []) ≡ entry.steps + 1
one-step entry = let is = sum_by-cons (λ (e : Entry). e.steps + 1) entry [] in let none : total_steps [] ≡ 0 = refl in omega (arith, is, none)

label-told : (w x : Weak) (p : Place) (label : Label) → weak_after w label ≡ Some x
    → 1 + pending w.state.active p.steps ≤ pending x.state.active (past p label).steps + 2 * total_steps (entries_of_label p label)
unfolding weak_after after
label-told w x p (Label.Activate i) e =
    let m = map-gave (moved w) (after w.state (Label.Activate i)) x (if-gave (holds_nothing w) (option_map (moved w) (after w.state (Label.Activate i))) x e).1 in
    let idle = none-where w.state.active (if-gave (is_none w.state.active) (activated i w.state) m.0 m.1).0 in
    let f = activate-found i w.state m.0 m.1 in
    let none : pending w.state.active p.steps ≡ 0 = ap (λ (o : Option ℕ). pending o p.steps) idle in
    let some : pending x.state.active 0 ≡ 1 = ap (λ (o : Option ℕ). pending o 0) (sym (ap (λ (z : Weak). z.state.active) m.2) ∙ ap (λ (z : State). z.active) f.3) in
    omega (arith, none, some)
label-told w x p (Label.Step kind) e =
    option_and_then_some _ _ _ e (λ i active goes.
    let now : pending w.state.active p.steps ≡ p.steps + 1 = ap (λ (o : Option ℕ). pending o p.steps) active in
    let behind : pending x.state.active (p.steps + 1) ≡ p.steps + 1 + 1 = ap (λ (o : Option ℕ). pending o (p.steps + 1)) (step-stays kind i w x goes ∙ active) in
    omega (arith, now, behind))
label-told w x p Label.Leave e =
    let most = pending-most w.state.active p.steps in
    let told = one-step (ran p.number p.steps p.fresh) in
    omega (arith, most, told)
label-told w x p Label.End e =
    let most = pending-most w.state.active p.steps in
    let told = one-step (ran p.number p.steps p.fresh) in
    omega (arith, most, told)
label-told w x p (Label.Free i kind) e =
    let m = map-gave (moved w) (reduce Side.Unprotected kind i w.state) x
    (if-gave (is_resting w.state.active i && may_free w.state.active kind) (option_map (moved w) (reduce Side.Unprotected kind i w.state)) x e).1 in
    let same : pending x.state.active p.steps ≡ pending w.state.active p.steps =
    ap (λ (o : Option ℕ). pending o p.steps) (sym (ap (λ (z : Weak). z.state.active) m.2) ∙ free-stays kind i w.state m.0 m.1) in
    let told = one-step (freed i (fresh_of kind) (device_answer kind)) in
    let all = both-steps (arrival p.inside i) (freed i (fresh_of kind) (device_answer kind) ∷ []) in
    omega (arith, same, told, all)
label-told w x p (Label.Close i) e =
    let m = map-gave (moved w) (closed i w.state) x (if-gave (is_resting w.state.active i) (option_map (moved w) (closed i w.state)) x e).1 in
    let same : pending x.state.active p.steps ≡ pending w.state.active p.steps =
    ap (λ (o : Option ℕ). pending o p.steps) (sym (ap (λ (z : Weak). z.state.active) m.2) ∙ close-stays i w.state m.0 m.1) in
    let told = one-step (freed i [] None) in
    let all = both-steps (arrival p.inside i) (freed i [] None ∷ []) in
    omega (arith, same, told, all)

labels-told : (w v : Weak) (p : Place) (labels : List Label) → weak_run w labels ≡ Some v → v.state.active ≡ None
    → length labels + pending w.state.active p.steps ≤ 2 * total_steps (straight_from p labels)
labels-told w v p [] e idle =
    let same : w ≡ v = cc in
    let none : pending w.state.active p.steps ≡ 0 = ap (λ (o : Option ℕ). pending o p.steps) (ap (λ (z : Weak). z.state.active) same ∙ idle) in
    omega (arith, none)
labels-told w v p (label ∷ labels) e idle =
    option_and_then_some _ _ _ e (λ x first rest.
    let more = labels-told x v (past p label) labels rest idle in
    let all = both-steps (entries_of_label p label) (straight_from (past p label) labels) in
    let one = label-told w x p label first in
    omega (arith, more, all, one))

-- Notes

split-steps : (entries : List Entry) → total_steps entries ≡ total_steps (without_notes entries) + total_steps (notes_of entries)
split-steps [] = refl
split-steps (entry ∷ entries) = sum_by-cons (λ (e : Entry). e.steps + 1) entry entries ∙ by (is_note entry.kind) (split-steps entries)
  where
    by : (b : Bool) → total_steps entries ≡ total_steps (without_notes entries) + total_steps (notes_of entries)
        → entry.steps + 1 + total_steps entries
        ≡ total_steps (cond (not b) (entry ∷ without_notes entries) (without_notes entries)) + total_steps (cond b (entry ∷ notes_of entries) (notes_of entries))
    by true rest = let more = sum_by-cons (λ (e : Entry). e.steps + 1) entry (notes_of entries) in omega (arith, more, rest)
    by false rest = let more = sum_by-cons (λ (e : Entry). e.steps + 1) entry (without_notes entries) in omega (arith, more, rest)

noted-steps : (ts : List Try) → total_steps (map note_for ts) ≡ turns_of_tries ts
noted-steps [] = refl
noted-steps (t ∷ ts) =
    let rest = noted-steps ts in
    let left = sum_by-cons (λ (e : Entry). e.steps + 1) (note_for t) (map note_for ts) in
    let right = sum_by-cons (λ (u : Try). u.certificate.steps + 1) t ts in
    omega (arith, rest, left, right)

-- the journal of a run has a third of its turns at least
pub turns-told : (program : Tree) (labels : List Label) (tries : List Try) (w : Weak) → weak_run (weak_start program) labels ≡ Some w → w.state.active ≡ None
    → AreTriesInOrder 0 (length labels) tries → length labels + turns_of_tries tries ≤ 3 * total_steps (straight_with 0 tries outset labels)
turns-told program labels tries w leads idle order =
    let all = split-steps (straight_with 0 tries outset labels) in
    let notes : total_steps (notes_of (straight_with 0 tries outset labels)) ≡ turns_of_tries tries =
    ap total_steps (notes-told 0 (length labels) tries outset labels (omega arith) order) ∙ noted-steps tries in
    let others : total_steps (without_notes (straight_with 0 tries outset labels)) ≡ total_steps (straight_from outset labels) = ap total_steps (without-tries 0 tries outset labels) in
    let most : length labels + 0 ≤ 2 * total_steps (straight_from outset labels) = labels-told (weak_start program) w outset labels leads idle in
    omega (arith, all, notes, others, most)
