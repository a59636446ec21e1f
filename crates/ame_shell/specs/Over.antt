-- A run that is over.
use Rattle.std.specs.Prelude.{◌≡◌, ℕ, ◌<◌, List, [], All}
use Rattle.ame_io.specs.Lines.{lines}
use Rattle.ame_term.specs.Tree.{Val, Tree}
use Rattle.ame_term.specs.Signature.{Signature}
use Rattle.ame_journal.specs.declared.entry.Entry.{Entry}
use Rattle.ame_protocol.specs.declared.types.Limits.{Limits}
use Rattle.ame_protocol.specs.declared.counters.Counters.{Counters}
use Rattle.ame_engine.specs.Ending.{End, IsEnd}
use Rattle.ame_protocol.specs.Event.Lone.{IsUndisturbed}
use Rattle.ame_shell.specs.Ends.{Ends}
use Rattle.ame_shell.specs.Sent.{IsSent}
use Rattle.ame_shell.specs.Heard.{HaveHeardSince, HaveFailed}
use Rattle.ame_shell.specs.Ran.{IsRanBy}

-- each entry is of one of this number of seats
abbrev pub AreOfSeats : ℕ → List Entry → Type 0
AreOfSeats seats entries = All (λ entry. entry.seat < seats) entries

-- no seat was in another one's way
abbrev pub NoneWereInTheWay : Counters → Type 0
NoneWereInTheWay counters = IsUndisturbed counters

-- A run of a program that went on from a base, with what its ends showed before and after. Base and journal replay, and its stop has
-- its cause in the state that is left. The lines of what was printed were sent, those of the base among them, all of them unless the
-- sink failed. Each device has heard what the journal says after the base, and none failed unless that is the stop. One seat by
-- itself has no other seat in its way. Events led to the end, each when it may come.
pub record IsOverSince (since : List Entry) (program : Tree) (signature : Signature) (limits : Limits) {V : Type 0} (value : V → Val) (before : Ends) (end : End V)
    (after : Ends) : Type 0 where
  pub ends : IsEnd program signature limits value end
  pub base : end.base ≡ since
  pub seats : AreOfSeats limits.seats end.entries
  pub sent : IsSent end.stop (lines ends.r.state.output) before after
  pub heard : HaveHeardSince program since end.entries before.told after.told
  pub failed : HaveFailed end.stop before.told after.told
  pub lone : limits.seats ≡ 1 → NoneWereInTheWay end.counters
  pub ran : IsRanBy program signature limits since value end

-- a run of a program from its beginning
abbrev pub IsOver : Tree → Signature → Limits → {V : Type 0} → (V → Val) → Ends → End V → Ends → Type 0
IsOver program signature limits value before end after = IsOverSince [] program signature limits value before end after
