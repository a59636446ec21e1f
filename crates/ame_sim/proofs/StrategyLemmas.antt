-- A strategy that is asked in turn.
use Rattle.std.proofs.Common.{ℕ, List, ◌++◌, sym, ap, ◌∙◌, append_assoc}
use Rattle.ame_sim.specs.Strategy.{PicksSeats}

-- Questions may be asked in two parts.
pub answers-then : (first mid last : List (List ℕ) → List ℕ) (asked more : List (List ℕ)) (picked others : List ℕ) → PicksSeats first asked picked mid →
    PicksSeats mid more others last → PicksSeats first (asked ++ more) (picked ++ others) last
answers-then first mid last asked more picked others before after rest =
    ap first (append_assoc asked more rest) ∙ before (more ++ rest) ∙ ap (λ t. picked ++ t) (after rest) ∙ sym (append_assoc picked others (last rest))
