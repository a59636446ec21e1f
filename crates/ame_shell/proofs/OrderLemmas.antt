-- A shell stays in order.
use Rattle.std.proofs.Common.{◌≡◌, ℕ, ◌≤◌, length, sym, ◌∙◌, subst}
use Rattle.ame_io.specs.Lines.{lines}
use Rattle.ame_engine.specs.Whole.{AreLimits}
use Rattle.ame_machine.specs.Meaning.{Meaning}
use Rattle.ame_shell.specs.Shell.{ShellView}
use Rattle.ame_shell.specs.Turned.{IsShellInOrder}

module _ {C V M : Type 0} (meaning : Meaning C V M) where
  -- where code, limits and devices stay
  pub order-stays : (code : C) (old new : ShellView C V M) → IsShellInOrder meaning code old → new.core.code ≡ old.core.code → new.core.limits ≡ old.core.limits
      → length new.ends.told ≡ length old.ends.told → new.sent ≤ length (lines new.core.output) → IsShellInOrder meaning code new
  order-stays code old new order same limits devices within = record {
    same = order.same ∙ sym same;
    limits = subst AreLimits (sym limits) order.limits;
    enough =
        subst (λ (n : ℕ). (meaning.signature new.core.code).devices ≤ n) (sym devices)
        (subst (λ (c : C). (meaning.signature c).devices ≤ length old.ends.told) (sym same) order.enough);
    within = within;
  }
