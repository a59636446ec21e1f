-- The answer that a caller gets to a text whose types are checked.
use Rattle.std.specs.Prelude.{◌≡◌, ◌⊎◌, ℕ, ◌<◌, length}
use Rattle.ame_io.specs.Reads.{whole_limit}
use Rattle.ame_lex.specs.Bytes.{Text}
use Rattle.ame_app.specs.declared.status.Status.{Status}
use Rattle.ame_app.specs.Jobs.{IsTextStatus}
use Rattle.ame_app.specs.Texts.{IsAcceptedText}
use Rattle.ame_c.specs.Checked.{AreTooMany}
use Rattle.ame_c.specs.Devices.{device_count}
use Rattle.ame_c.specs.Out.{rule_of, IsTold}

-- why a text isn't accepted: it is too long, no program or ill-typed; or memory ran out
abbrev pub IsNotAccepted : Text → Status → Type 0
IsNotAccepted text told = AreTooMany text told ⊎ IsTextStatus text device_count told

-- the text is a program that the types accept
pub record AnswersAccepted (text : Text) (status rule place : ℕ) : Type 0 where
  pub accepted : IsAcceptedText text device_count
  pub status_is : status ≡ 0
  pub rule_is : rule ≡ 0
  pub place_is : place ≡ 0

-- it is none, with this status
pub record AnswersFault (text : Text) (status rule place : ℕ) : Type 0 where
  pub told : Status
  pub why : IsNotAccepted text told
  pub is_told : IsTold told status place
  pub rule_is : rule ≡ rule_of told

-- the answer to a text
abbrev pub AnswersTypes : Text → ℕ → ℕ → ℕ → Type 0
AnswersTypes text status rule place = AnswersAccepted text status rule place ⊎ AnswersFault text status rule place
