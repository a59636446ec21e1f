-- The place of a member after steps of its own.
use Rattle.std.specs.Prelude.{◌≡◌, ℕ, ◌<◌, ◌≤◌, List, Some}
use Rattle.ame_term.specs.Frame.{Side}
use Rattle.ame_term.specs.Maps.{at, put}
use Rattle.ame_term.specs.State.{State}
use Rattle.ame_journal.specs.Replayed.{Replayed, side_at}
use Rattle.ame_journal.specs.Replay.{replay, attempt}
use Rattle.ame_journal.specs.declared.entry.Entry.{Entry}
use Rattle.ame_machine.specs.Meaning.{Meaning}
use Rattle.ame_machine.specs.declared.wants.Wants.{Wants}
use Rattle.ame_machine.specs.declared.wants.Wants.TheVariants as wants
use Rattle.ame_check.specs.Reasons.{ComesAt}
use Rattle.ame_check.specs.Walked.{IsAtStep}
use Rattle.ame_check.specs.declared.stored.Stored.{Stored}

-- After k of some steps, and before they are all made, the member comes to read a location.
pub record ReadsAfter (side : Side) (s : State) (i : ℕ) (fresh : List ℕ) (total l k : ℕ) : Type 0 where
  pub below : k < total
  pub rest : List ℕ
  pub now : State
  pub comes : ComesAt side s i fresh total k (wants.Read (record { 0 = l })) rest now

-- each location in the list is read by one of these steps
abbrev pub TellsReads : Side → State → ℕ → List ℕ → ℕ → List (ℕ × ℕ) → Type 0
TellsReads side s i fresh total reads = (l k : ℕ) → at reads l ≡ Some k → ReadsAfter side s i fresh total l k

-- each location that one of the first steps reads is in the list, with the last step that reads it
abbrev pub TellsEachRead : Side → State → ℕ → List ℕ → ℕ → ℕ → List (ℕ × ℕ) → Type 0
TellsEachRead side s i fresh total most reads =
    (l k : ℕ) → k < most → ReadsAfter side s i fresh total l k → (last : ℕ) × (at reads l ≡ Some last) × (k ≤ last)

-- with a location that is read after k steps
abbrev pub with_read : Wants → ℕ → List (ℕ × ℕ) → List (ℕ × ℕ)
with_read (wants.Read l) k reads = put reads l.0 k
with_read _ k reads = reads

module _ {C V M : Type 0} (meaning : Meaning C V M) (code : C) where
  -- a machine has made at most this number of some steps, and these were read, and no others
  pub record WatchedSteps (s : State) (i : ℕ) (fresh : List ℕ) (cells overlay : List (ℕ × Stored V)) (machine : M) (side : Side) (total most : ℕ) (reads : List (ℕ × ℕ)) : Type 0 where
    pub made : ℕ
    pub few : made ≤ most
    pub stands : IsAtStep meaning code s i fresh cells overlay machine side made
    pub told : TellsReads side s i fresh total reads
    pub each : TellsEachRead side s i fresh total most reads

  -- After entries, the steps of a further one lead its member to a term, at which this machine stands and wants this. They read
  -- these locations, and no others: each is listed with the last step that read it.
  pub record StandsAt (entries : List Entry) (entry : Entry) (machine : M) (want : Wants) (reads : List (ℕ × ℕ)) : Type 0 where
    pub led : Replayed
    pub replayed : replay (meaning.program code) entries ≡ Some led
    pub now : State
    pub leads : attempt entry.number entry.steps entry.fresh led.state ≡ Some now
    pub good : meaning.is_machine code machine
    pub member : at now.members entry.number ≡ Some (meaning.stage code machine).term
    pub wants : (meaning.stage code machine).want ≡ Some want
    pub told : TellsReads (side_at entry.number led.state) led.state entry.number entry.fresh entry.steps reads
    pub each : TellsEachRead (side_at entry.number led.state) led.state entry.number entry.fresh entry.steps entry.steps reads
