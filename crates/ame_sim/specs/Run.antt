-- The run that one chooser made.
use Rattle.std.specs.Prelude.{◌≡◌, ℕ, ◌+◌, ◌*◌, ◌<◌, ◌≤◌, ◌⊎◌, false, List, [], ◌∷◌, length, map, replicate, All, None, IsSome}
use Rattle.ame_sim.specs.Questions.{AreAnswers, idles_of, seats_of, turns_of}
use Rattle.ame_journal.specs.declared.entry.Entry.{Entry}
use Rattle.ame_protocol.specs.Event.EngineState.{started_state}
use Rattle.ame_engine.specs.Ending.{End}
use Rattle.ame_engine.specs.Makes.{state_of}
use Rattle.ame_shell.specs.Shell.{Opening, ShellView, IsShell}
use Rattle.ame_sim.specs.declared.made.Made.{Made}
use Rattle.ame_sim.specs.Crew.{lacking}
use Rattle.ame_sim.specs.Events.{IsRunOfPicks}
use Rattle.ame_sim.specs.Picks.{picks_of}
use Rattle.ame_sim.specs.Played.{Plays}
use Rattle.ame_machine.specs.Meaning.{Meaning}

-- a list is the other one without some of its items
abbrev pub IsSubsequence : List ℕ → List ℕ → Type 0
IsSubsequence [] ys = Unit {0}
IsSubsequence (x ∷ xs) [] = ⊥
IsSubsequence (x ∷ xs) (y ∷ ys) = ((x ≡ y) × IsSubsequence xs ys) ⊎ IsSubsequence (x ∷ xs) ys

-- the seats that made entries
abbrev pub makers : List Entry → List ℕ
makers entries = map (λ entry. entry.seat) entries

-- Each pick was of a seat that might be picked. So a seat that has to wait isn't picked until a turn was counted. The seats of the
-- entries are, in order, among those that were picked. Picks are the turns and those that found nothing to do, or one more, which
-- stopped the run. Those that found nothing to do are at most the seats times one more than the turns.
pub record AreTold (seats turns : ℕ) (mades : List Made) (entries : List Entry) : Type 0 where
  pub within : All (λ made. made.seat < seats) mades
  pub asked : AreAnswers (replicate seats false) (picks_of mades)
  pub order : IsSubsequence (makers entries) (seats_of (picks_of mades))
  pub counted : (length mades ≡ turns + idles_of (picks_of mades)) ⊎ (length mades ≡ turns + idles_of (picks_of mades) + 1)
  pub few : idles_of (picks_of mades) ≤ seats * (turns + 1)

module _ {C V M : Type 0} (meaning : Meaning C V M) where
  -- The picks of a run under way lead from its first shell to its shell now, except that it may have run out of memory since. Until it
  -- stops, each pick that found something to do is a turn.
  pub record IsPlaying (seats : ℕ) (first now : ShellView C V M) (mades : List Made) : Type 0 where
    pub last : ShellView C V M
    pub plays : Plays meaning mades first last
    pub ends : (now ≡ last) ⊎ ((last.core.stop ≡ None) × (now ≡ lacking last))
    pub told : AreTold seats now.core.turns mades now.core.entries
    pub going : now.core.stop ≡ None → turns_of (picks_of mades) ≡ now.core.turns

  -- The picks of a run from its opening on lead to a shell with a kept stop, by events that follow one another. Stop, turns, entries and
  -- output are those of the end: undoing changes none of them.
  pub record IsPlayed (opening : Opening C) (mades : List Made) (end : End V) : Type 0 where
    pub first : ShellView C V M
    pub opened : IsShell meaning opening first
    pub fresh : state_of meaning first.core ≡ started_state (meaning.program opening.code) (meaning.signature opening.code) opening.limits
    pub now : ShellView C V M
    pub playing : IsPlaying opening.limits.seats first now mades
    pub run : IsRunOfPicks meaning opening mades first playing.last now playing.plays
    pub stopped : IsSome now.core.stop
    pub stop : end.stop ≡ now.core.stop
    pub turns : end.turns ≡ now.core.turns
    pub entries : end.entries ≡ now.core.entries
    pub output : end.output ≡ now.core.output
