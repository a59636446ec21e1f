-- An entry of a certificate that can't be made, and what is said of it.
use Rattle.std.specs.Prelude.{◌≡◌, ℕ, ◌+◌, List, [], ◌++◌, length, Option, Some, None, codes, decimal}
use Rattle.ame_machine.specs.declared.wants.Wants.{Wants}
use Rattle.ame_machine.specs.declared.wants.Wants.TheVariants as wants
use Rattle.ame_check.specs.declared.reason.Reason.{Reason}
use Rattle.ame_check.specs.declared.reason.Reason.TheVariants as reason
use Rattle.ame_why.specs.Placed.{placed_within}
use Rattle.ame_why.specs.Words.{line_place, line_from, word_place, word_from, IsLastWord}

-- the places of the member's number and of the count of steps in a line
abbrev pub member_place : List ℕ → ℕ
member_place line = word_place line 2

abbrev pub steps_place : List ℕ → ℕ
steps_place line = word_place line 3

-- the place in a line that a reason speaks of
abbrev pub IsPlaceOfReason : Reason → List ℕ → ℕ → Type 0
IsPlaceOfReason reason.NoMember row place = place ≡ member_place row
IsPlaceOfReason reason.Inside row place = place ≡ 0
IsPlaceOfReason reason.Outside row place = place ≡ 0
IsPlaceOfReason reason.NoSteps row place = place ≡ steps_place row
IsPlaceOfReason (reason.Stops k want) row place = place ≡ steps_place row
IsPlaceOfReason reason.Answered row place = IsLastWord row (codes "=") place
IsPlaceOfReason (reason.Unanswered k) row place = place ≡ length row
IsPlaceOfReason (reason.Missing k) row place = place ≡ length row
IsPlaceOfReason (reason.Taken k l) row place = IsLastWord row (decimal l.0) place
IsPlaceOfReason (reason.Unused k l) row place = IsLastWord row (decimal l.0) place

-- after how many steps it is so
abbrev pub steps_told : Reason → Option ℕ
steps_told (reason.Stops k want) = Some k
steps_told (reason.Unanswered k) = Some k
steps_told (reason.Missing k) = Some k
steps_told (reason.Taken k l) = Some k
steps_told (reason.Unused k l) = Some k
steps_told _ = None

-- after some of the steps of a line, whose count is this word
unfoldable pub steps_words : ℕ → List ℕ → List ℕ
steps_words k word = codes "after " ++ decimal k ++ codes " of " ++ word ++ codes " steps: "

abbrev pub after_words : List ℕ → Option ℕ → List ℕ
after_words row None = []
after_words row (Some k) = steps_words k (word_from row (steps_place row))

-- a number between words
abbrev pub between : List ℕ → ℕ → List ℕ → List ℕ
between before n after = before ++ decimal n ++ after

-- what a member wants that names no location and no device
abbrev pub plain_words : Wants → List ℕ
plain_words wants.Block = codes "condition false here: only a `stuck` line may end here"
plain_words wants.Done = codes "the task has ended: it makes no further step"
plain_words wants.Leave = codes "the task has come to `unprotected`: its next step belongs to a `free` line"
plain_words wants.Close = codes "the task is at the end of its unprotected code: only the last step of a `free` line leaves it"
plain_words wants.Tall = codes "value nested too deeply: the limit is 1,000 levels"
plain_words _ = codes "the line ends too early: the task has more steps to make"

-- what a member wants when its line stops
abbrev pub want_words : Wants → List ℕ
want_words (wants.Read l) = between (codes "the task reads location ") l.0 (codes ", which doesn't exist")
want_words (wants.Peek l) = between (codes "the task reads location ") l.0 (codes ", which doesn't exist")
want_words (wants.Write l) = between (codes "the task writes location ") l.0 (codes ", which doesn't exist")
want_words (wants.Device device n) = between (codes "the task calls device ") device (codes ", which only a `free` line does, in its last step")
want_words want = plain_words want

-- why the entry can't be made
abbrev pub reason_words : Reason → List ℕ
reason_words reason.NoMember = codes "no such task here: it has ended or has not been started"
reason_words reason.Inside = codes "the task is in unprotected code: expected a `free` line"
reason_words reason.Outside = codes "the task is not in unprotected code: a `ran` line must bring it there before a `free` line"
reason_words reason.NoSteps = codes "a `free` line makes at least one step"
reason_words reason.Answered = codes "the last step calls no device: expected no answer"
reason_words (reason.Unanswered k) = codes "missing answer: the task calls a device"
reason_words (reason.Missing k) = codes "missing location: the task creates one"
reason_words (reason.Taken k l) = codes "location already exists"
reason_words (reason.Unused k l) = codes "unused location: the task creates no more"
reason_words (reason.Stops k want) = want_words want

abbrev pub entry_message : List ℕ → Reason → List ℕ
entry_message row why = after_words row (steps_told why) ++ reason_words why ++ codes "\n"

-- The page shows the place in this line that the reason speaks of, and says it.
pub record ExplainsEntry (input : List ℕ) (line : ℕ) (why : Reason) (page : List ℕ) : Type 0 where
  pub place : ℕ
  pub there : IsPlaceOfReason why (line_from input (line_place input line)) place
  pub shown : page ≡ placed_within input (line_place input line + place) ++ entry_message (line_from input (line_place input line)) why
