-- The status of a run is an ending that holds, and its line is the last one.
use Rattle.std.proofs.Common.{◌≡◌, ◌≢◌, ◌⊎◌, inl, inr, ℕ, List, [], ◌++◌, Option, Some, None, refl, sym, ap, subst, append-nil}
use Rattle.std.specs.Prelude.{codes, decimal}
use Rattle.std.specs.Io.KnownBytes.{Appends}
use Rattle.ame_io.specs.Counts.{HasNotRisen}
use Rattle.ame_io.specs.Writes.{AppendsFront}
use Rattle.ame_io.proofs.CountsLemmas.{HasNotRisen-excludes}
use Rattle.ame_term.specs.Tree.{Tree}
use Rattle.ame_term.specs.State.{State}
use Rattle.ame_journal.specs.Replayed.{Replayed}
use Rattle.ame_journal.specs.Replay.{replay}
use Rattle.ame_value.specs.declared.val.Val.{Val}
use Rattle.ame_cli.specs.declared.command.Options.{Options}
use Rattle.ame_protocol.specs.declared.stop.Stop.{Stop}
use Rattle.ame_engine.specs.Ending.{End}
use Rattle.ame_shell.specs.Ends.{Ends}
use Rattle.ame_app.specs.declared.status.Status.{Status}
use Rattle.ame_app.specs.Verdict.{verdict}
use Rattle.ame_app.specs.Causes.{status_at, RunCause}
use Rattle.ame_app.specs.Headline.{IsWritten}
use Rattle.ame_one_run.specs.Reached.{GrowsTooHigh}
use Rattle.ame_one_run.specs.OneRun.{Ending, IsEnding, line_of_ending}
use Rattle.ame_one_run.proofs.ReachedLemmas.{certified-blocked, comes-to_call}
use Rattle.ame_one_run.proofs.JournalLemmas.{tall-last}

-- an ending that holds, and has this line
pub record IsNamed (s : State) (before after : Ends) (line : List ℕ) : Type 0 where
  pub ending : Ending
  pub cause : IsEnding ending s before after
  pub line_is : line ≡ line_of_ending ending s

pub status-named : (program : Tree) (options : Options) (end : End Val) (final : Replayed) (before after : Ends) → replay program end.entries ≡ Some final →
    (stop : Option Stop) → RunCause (status_at stop end.certificates) options end final before after →
    IsNamed final.state before after (verdict (status_at stop end.certificates))
status-named program options end final before after replays (Some Stop.Finished) cause = record { ending = Ending.Finished; cause = cause; line_is = refl }
status-named program options end final before after replays (Some Stop.Blocked) cause = record {
  ending = Ending.Blocked;
  cause = certified-blocked final.state end.certificates cause.certified.hold cause.certified.members cause.certified.some;
  line_is = ap (λ (n : ℕ). codes "blocked " ++ decimal n ++ codes "\n") cause.number_is;
}
status-named program options end final before after replays (Some Stop.Spent) cause = record { ending = Ending.Spent; cause = cause.left; line_is = refl }
status-named program options end final before after replays (Some (Stop.Tall number)) cause = record {
  ending = Ending.Tall number;
  cause = subst (GrowsTooHigh final.state) cause.its
      (tall-last program end.entries cause.ends.earlier cause.ends.note final replays cause.ends.is cause.ends.its);
  line_is = refl;
}
status-named program options end final before after replays (Some (Stop.DeviceFault device)) cause = record {
  ending = Ending.DeviceFault device;
  cause = (comes-to_call final device cause.comes, cause.faults);
  line_is = refl;
}
status-named program options end final before after replays (Some Stop.NoMemory) cause = record { ending = Ending.NoMemory; cause = tt; line_is = refl }
status-named program options end final before after replays (Some Stop.WriteFault) cause = record { ending = Ending.WriteFault; cause = cause; line_is = refl }
status-named program options end final before after replays None cause = record { ending = Ending.NoMemory; cause = tt; line_is = refl }

-- Bytes that were written

fault-or_none : (status : Status) → (status ≡ Status.WriteFault) ⊎ (status ≢ Status.WriteFault)
fault-or_none Status.WriteFault = inl refl
fault-or_none _ = inr (λ e. cc)

pub written-prefix : (status : Status) (text : List ℕ) (before after : Ends) → IsWritten status text before after
    → AppendsFront before.written after.written text
written-prefix status text before after written = elim (fault-or_none status) [
  | inl fault ↦ (written.front fault).0
  | inr none ↦ record { front = text; rest = []; split = sym (append-nil text); appended = (written.whole none).0 }
]

pub written-whole : (status : Status) (text : List ℕ) (before after : Ends) → IsWritten status text before after
    → HasNotRisen before.write_faults after.write_faults →
    Appends before.written after.written text
written-whole status text before after written stayed =
    (written.whole (λ fault. HasNotRisen-excludes before.write_faults after.write_faults stayed (written.front fault).1)).0
