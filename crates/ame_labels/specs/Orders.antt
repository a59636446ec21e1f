-- The state between the rows of a weak run's labels.
use Rattle.std.specs.Prelude.{◌≡◌, ℕ, ◌+◌, List, ◌++◌, length, get_or, Some}
use Rattle.ame_lex.specs.Bytes.{Text}
use Rattle.ame_term.specs.declared.semantics.Label.{Label}
use Rattle.ame_print.specs.Printer.{spelling_of}
use Rattle.ame_weak.specs.Weak.{Weak, weak_after}
use Rattle.ame_weak.specs.View.{weak_of}
use Rattle.ame_weak.specs.declared.tries.Try.{Try}
use Rattle.ame_labels.specs.WeakOrder.{weak_row, entries_after, TellsLabels, TellsOrder}
use Rattle.ame_labels.specs.declared.weak_order.Order.{Order}

-- a legal label was made, and its row added
pub record TellsOne (index : ℕ) (label : Label) (old new : Order) : Type 0 where
  pub names : new.names ≡ old.names
  pub numbers : new.numbers ≡ old.numbers
  pub legal : weak_after (weak_of old.state) label ≡ Some (weak_of new.state)
  pub page : new.page ≡ old.page
      ++ weak_row (spelling_of old.names.items) (index + 1) (get_or old.numbers.items index 0) (weak_of old.state) label (weak_of new.state)
  pub entries : new.entries ≡ entries_after label (get_or old.numbers.items index 0) old.entries

-- the rows of tries were added that were made after n labels, and these are left
pub record TellsTries (n : ℕ) (tries rest : List Try) (old new : Order) : Type 0 where
  pub names : new.names ≡ old.names
  pub numbers : new.numbers ≡ old.numbers
  pub state : new.state ≡ old.state
  pub tells : (names : List Text) (numbers : List ℕ) (start w : Weak) (all : List Try) (labels : List Label) → length labels ≡ n
      → TellsLabels names numbers start all old.page labels tries old.entries w
      → TellsLabels names numbers start all new.page labels rest new.entries w

-- labels were made from here, and their rows stand below the heading, with those of tries
abbrev pub TellsAll : List Label → List Try → Order → Order → Type 0
TellsAll labels tries old new = TellsOrder (spelling_of old.names.items) old.numbers.items (weak_of old.state) tries labels new.page
