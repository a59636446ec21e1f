-- A shell that workers share.
use Rattle.std.specs.Prelude.{◌≡◌, ◌<◌, ℕ, true, List, length, IsSome, is_some}
use Rattle.ame_engine.specs.Core.{Core}
use Rattle.ame_shell.specs.declared.work.Work.{Work}
use Rattle.ame_shell.specs.Work.{Fits}
use Rattle.ame_shell.specs.Shell.{ShellView, Opening, IsShell}
use Rattle.ame_worker.specs.Rows.{Kept, SeatRow, kept_at, rows_in}
use Rattle.ame_worker.specs.Turns.{TurnView, AreTurnsBetween}
use Rattle.ame_machine.specs.Meaning.{Meaning}

-- A shell as it was made, before anything was sent, and as it was when workers came to share it.
pub record OpenedView (C V M : Type 0) : Type 0 where
  pub made : ShellView C V M
  pub first : ShellView C V M

module _ {C V M : Type 0} where
  abbrev pub opened_from : ShellView C V M → ShellView C V M → OpenedView C V M
  opened_from made first = record { made = made; first = first }

  -- how a shell was opened, as it was made then
  abbrev pub opening_from : ShellView C V M → Opening C
  opening_from made = record { code = made.core.code; limits = made.core.limits; base = made.core.base; ends = made.ends }

  abbrev pub opening_of : OpenedView C V M → Opening C
  opening_of opened = opening_from opened.made

  -- what is kept for a seat that gives the turn
  abbrev pub keeping : Core C V M → Work M → Kept M
  keeping core hand = record { hand = hand; marked = is_some core.stop }

module _ {C V M : Type 0} (meaning : Meaning C V M) where
  -- The shell is as it is from this opening on. Each seat's work in flight fits the engine still, and a stop is kept if one was. The
  -- rows say this of each seat, and these turns led to the shell.
  pub record IsShared (opened : OpenedView C V M) (shared : ShellView C V M) (places : List (Kept M)) (turns : List (TurnView C V M))
      (all : List (SeatRow M)) (told : List (TurnView C V M)) : Type 0 where
    pub shell : IsShell meaning (opening_of opened) shared
    pub count : length places ≡ shared.core.limits.seats
    pub fits : (seat : ℕ) → seat < shared.core.limits.seats → Fits meaning shared.core seat (kept_at places seat).hand
    pub marks : (seat : ℕ) → (kept_at places seat).marked ≡ true → IsSome shared.core.stop
    pub rows : rows_in shared.core places ≡ all
    pub led : AreTurnsBetween meaning opened.first turns shared
    pub recorded : turns ≡ told
