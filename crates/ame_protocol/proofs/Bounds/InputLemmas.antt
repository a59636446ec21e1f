-- A run takes no more inputs than it makes steps.
use Rattle.std.proofs.Common.{◌≡◌, ℕ, zero, suc, ◌+◌, ◌≤◌, List, length, Some, ap, arith}
use Rattle.std.proofs.lemmas.Option.{option_and_then_some}
use Rattle.ame_term.specs.Tree.{Val, Tree}
use Rattle.ame_term.specs.Frame.{Side}
use Rattle.ame_term.specs.Act.{Act, act_of}
use Rattle.ame_machine.specs.Run.Local.{LocalState, begun_with, one_step, goes}
use Rattle.ame_machine.proofs.Run.RunLemmas.{Acts, step-is}
use Rattle.ame_machine.proofs.Run.TypedLemmas.{feeds-inputs}
use Rattle.ame_protocol.specs.Row.SeatRun.{SeatRun, HasUsed}

acts-inputs : (p : LocalState) (side : Side) (act : Act) (part : Tree) (q : LocalState) → Acts p side act part q → length p.inputs ≤ length q.inputs + 1
acts-inputs p _ _ _ _ (Acts.feeds side act v inputs part q is given) =
    let taken = ap (λ (xs : List Val). length xs) is in
    let left = ap (λ (xs : List Val). length xs) (feeds-inputs (record p { inputs = inputs }) side act v part q given) in omega arith
acts-inputs p _ _ _ _ (Acts.becomes side term) = omega arith
acts-inputs p _ _ _ _ (Acts.spawns body) = omega arith
acts-inputs p _ _ _ _ (Acts.prints n) = omega arith
acts-inputs p _ _ _ _ Acts.passes = omega arith

step-inputs : (side : Side) (p q : LocalState) → one_step side p ≡ Some q → length p.inputs ≤ length q.inputs + 1
step-inputs side p q e =
    let x = step-is side p q e in
    let same = ap (λ (z : LocalState). length z.inputs) x.is in
    let h = acts-inputs p side (act_of x.redex) x.part x.behind x.acts in omega arith

goes-inputs : (side : Side) (p q : LocalState) (n : ℕ) → goes side p n ≡ Some q → length p.inputs ≤ length q.inputs + n
goes-inputs side p q zero e = let same : p ≡ q = cc in let h = ap (λ (z : LocalState). length z.inputs) same in omega arith
goes-inputs side p q (suc n) e =
    option_and_then_some _ _ _ e
    (λ r first second. let a = goes-inputs side p r n first in let b = step-inputs side r q second in omega arith)

pub used-inputs : (run : SeatRun) (n : ℕ) (p : LocalState) → HasUsed run n p → length run.inputs ≤ n
used-inputs run n p used =
    let h = goes-inputs Side.Protected (begun_with run.start run.inputs) p n used.ran in
    let none = ap (λ (xs : List Val). length xs) used.used in omega arith
