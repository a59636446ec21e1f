-- The shell of a seat that hands over.
use Rattle.std.proofs.Common.{◌≡◌, ℕ, [], ◌∷◌, Option, set, refl, sym, ap, ◌∙◌, subst}
use Rattle.std.specs.Prelude.{List}
use Rattle.ame_machine.specs.Meaning.{Meaning}
use Rattle.ame_protocol.specs.declared.types.Limits.{Limits}
use Rattle.ame_shell.specs.declared.work.Outcome.{Outcome}
use Rattle.ame_shell.specs.declared.work.Work.{Work}
use Rattle.ame_shell.specs.Ready.{IsPrepared}
use Rattle.ame_shell.specs.Shell.{ShellView, shell_view}
use Rattle.ame_shell.specs.Turned.{LeavesInOrder}
use Rattle.ame_baton.specs.declared.view.Knows.{Knows}
use Rattle.ame_worker.specs.declared.shared.Shared.{Shared}
use Rattle.ame_worker.specs.Holding.{HasTheTurn}
use Rattle.ame_worker.specs.Rows.{SeatRow}
use Rattle.ame_worker.specs.Shared.{OpenedView, keeping}
use Rattle.ame_worker.specs.Turns.{TurnView, turn_by, HasJoined, HasHadTurns}
use Rattle.ame_worker.proofs.HandLemmas.{HasPlayed}

module _ {C V M : Type 0} (meaning : Meaning C V M) (code : C) (seat : ℕ) (work new : Work M) (taken given : ShellView C V M)
    (turns now : List (TurnView C V M)) where
  -- one turn
  pub had-once : (hand : Work M) (outcome : Outcome) (member : Option ℕ) → HasJoined meaning (turn_by seat hand taken outcome given) member turns now
      → LeavesInOrder meaning code seat taken given new → IsPrepared meaning.is_machine meaning.stage code taken.core.limits.slice work hand
      → HasHadTurns meaning code seat work taken turns given now new (turn_by seat hand taken outcome given ∷ [])
  had-once hand outcome member joins leaves ready = record {
    joined = joins.joined;
    follows = (refl, joins.turned, refl);
    each = (refl, ready, (new, leaves.may.fits, refl));
    leaves = leaves;
  }

module _ {M K D C V : Type 0} (meaning : Meaning C V M) (code : C) (limits : Limits) (holding : Knows (OpenedView C V M) (SeatRow M) (TurnView C V M))
    (work : Work M) (shared kept : Shared M K D C V) (number : ℕ) where
  -- its work in flight was kept
  pub played-kept : (h : HasTheTurn meaning code limits holding work shared) → number ≡ holding.number → kept ≡ record shared { places = kept.places }
      → kept.places.items ≡ set shared.places.items number (keeping shared.shell.value.engine work)
      → HasPlayed meaning code holding.number h.had (shell_view h.taken.shell.value) h.taken.places.items h.taken.turns
      (shell_view kept.shell.value) kept.places.items kept.turns work h.led
  played-kept h here rest places =
      subst (λ (s : Shared M K D C V). HasPlayed meaning code holding.number h.had (shell_view h.taken.shell.value) h.taken.places.items h.taken.turns
      (shell_view s.shell.value) kept.places.items s.turns work h.led) (sym rest)
      (record {
        joined = h.turns.joined;
        follows = h.turns.follows;
        each = h.turns.each;
        leaves = h.turns.leaves;
        keeping_it =
            places ∙ ap (λ ps. set ps.items number (keeping shared.shell.value.engine work)) h.places
            ∙ ap (λ (n : ℕ). set h.taken.places.items n (keeping shared.shell.value.engine work)) here;
      })
