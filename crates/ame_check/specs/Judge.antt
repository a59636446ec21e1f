-- The judgment of a journal.
use Rattle.std.specs.Prelude.{◌≡◌, ℕ, ◌-◌, ◌<◌, ◌≤◌, ℤ, List, [], ◌∷◌, ◌++◌, length, take, Some, None}
use Rattle.ame_term.specs.Tree.{Tree}
use Rattle.ame_journal.specs.Replayed.{Replayed}
use Rattle.ame_journal.specs.Replay.{replay}
use Rattle.ame_journal.specs.Totals.{total_steps}
use Rattle.ame_journal.specs.declared.entry.Entry.{Entry}
use Rattle.ame_check.specs.Entries.{MeetsTall}
use Rattle.ame_check.specs.Reasons.{IsMet}
use Rattle.ame_check.specs.declared.reason.Reason.{Reason}
use Rattle.ame_check.specs.declared.entry_error.EntryError.{EntryError}
use Rattle.ame_check.specs.declared.entry_error.EntryError.TheVariants as error
use Rattle.ame_check.specs.declared.halt.Halt.{Halt}
use Rattle.ame_check.specs.declared.halt.Halt.TheVariants as halt
use Rattle.ame_check.specs.declared.judging.Judged.{Judged}
use Rattle.ame_check.specs.declared.judging.Judged.TheVariants as judged

-- the most steps and entries together that are judged
abbrev pub most_steps : ℕ
most_steps = 100000000

-- n counts one of the entries, from 1
abbrev pub IsPlace : List Entry → ℕ → Type 0
IsPlace entries n = (1 ≤ n) × (n ≤ length entries)

-- it is the first with which the steps and entries are more than that
pub record IsLong (entries : List Entry) (n : ℕ) : Type 0 where
  pub place : IsPlace entries n
  pub before : total_steps (take (n - 1) entries) ≤ most_steps
  pub above : most_steps < total_steps (take n entries)

-- why a replay ends at the n-th entry
abbrev pub halted_at : ℕ → EntryError → Halt
halted_at n (error.Undefined why) = halt.Undefined n why
halted_at n error.Tall = halt.Tall n
halted_at n error.NoMemory = halt.NoMemory

module _ (program : Tree) (entries : List Entry) where
  -- those before the n-th can be made, and it passes a form that would become a value that is too high
  pub record PassesTallAt (n : ℕ) : Type 0 where
    pub place : IsPlace entries n
    pub led : Replayed
    pub replayed : replay program (take (n - 1) entries) ≡ Some led
    pub entry : Entry
    pub is_entry : take n entries ≡ take (n - 1) entries ++ entry ∷ []
    pub meets : MeetsTall led entry

  -- the entries lead to a state, this was printed, and no entry passes such a form
  pub record LeadsTo (output : List ℤ) : Type 0 where
    pub short : total_steps entries ≤ most_steps
    pub led : Replayed
    pub replayed : replay program entries ≡ Some led
    pub printed : output ≡ led.state.output
    pub low : (n : ℕ) → PassesTallAt n → ⊥

  -- those before the n-th can be made, and with it they can't be, nor can all of them, for this reason; and no entry passes such a form
  pub record IsUndefinedAt (n : ℕ) (why : Reason) : Type 0 where
    pub place : IsPlace entries n
    pub led : Replayed
    pub replayed : replay program (take (n - 1) entries) ≡ Some led
    pub undefined : replay program (take n entries) ≡ None
    pub never : replay program entries ≡ None
    pub entry : Entry
    pub is_entry : take n entries ≡ take (n - 1) entries ++ entry ∷ []
    pub met : IsMet led entry why
    pub low : (m : ℕ) → PassesTallAt m → ⊥

  -- the n-th is the first that passes one
  pub record IsTooHighAt (n : ℕ) : Type 0 where
    pub passes : PassesTallAt n
    pub first : (m : ℕ) → m < n → PassesTallAt m → ⊥

  -- why a replay of them comes to no end
  abbrev pub IsHalted : Halt → Type 0
  IsHalted (halt.Undefined n why) = IsUndefinedAt n why
  IsHalted (halt.Tall n) = IsTooHighAt n
  IsHalted halt.NoMemory = Unit {0}

  -- there are few steps, and so it is
  pub record IsInvalid (n : ℕ) (why : Reason) : Type 0 where
    pub short : total_steps entries ≤ most_steps
    pub there : IsUndefinedAt n why

  -- there are few steps, and so it is
  pub record IsTallAt (n : ℕ) : Type 0 where
    pub short : total_steps entries ≤ most_steps
    pub there : IsTooHighAt n

  abbrev pub Judges : Judged → Type 0
  Judges (judged.Valid output) = LeadsTo output.items
  Judges (judged.Invalid n why) = IsInvalid n why
  Judges (judged.Long n) = IsLong entries n
  Judges (judged.Tall n) = IsTallAt n

-- two answers that say the same, but for the reason for which an entry can't be made
abbrev pub AreAlike : Judged → Judged → Type 0
AreAlike (judged.Valid output) (judged.Valid other) = output.items ≡ other.items
AreAlike (judged.Invalid n why) (judged.Invalid m other) = n ≡ m
AreAlike (judged.Long n) (judged.Long m) = n ≡ m
AreAlike (judged.Tall n) (judged.Tall m) = n ≡ m
AreAlike _ _ = ⊥
