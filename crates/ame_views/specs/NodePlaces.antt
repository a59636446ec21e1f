-- The places of the forms of nodes in a program's text.
use Rattle.std.specs.Prelude.{◌≡◌, ℕ, ◌<◌, Option, Some, None, length, slice_get, option_and_then}
use Rattle.ame_lex.specs.Bytes.{Text}
use Rattle.ame_code.specs.FlatCode.{FlatCode}
use Rattle.ame_code.specs.Code.{program_of}
use Rattle.ame_code.specs.ReadNumbers.{read_numbers}
use Rattle.ame_code.specs.declared.node.NodeNo.{NodeNo}
use Rattle.ame_eval.specs.Places.{fragment_node}
use Rattle.ame_eval.specs.declared.fragment.Fragment.{Fragment}
use Rattle.ame_why.specs.declared.position.Position.{Position}
use Rattle.ame_why.specs.Position.{position}

-- the place in the program's text of the form of a node
abbrev pub node_place : FlatCode → ℕ → Option ℕ
node_place code n = option_and_then (slice_get code.accepted.program.places.items) (slice_get (read_numbers 0 (program_of code)) n)

-- a fragment stands at the form that is at this position of the text
pub record StandsThere (text : Text) (code : FlatCode) (fragment : Fragment) (there : Position) : Type 0 where
  pub node : NodeNo
  pub stands : fragment_node fragment ≡ Some node
  pub place : ℕ
  pub placed : node_place code node.0 ≡ Some place
  pub is : there ≡ position text place

-- it stands at no form whose place is known, and in the text
abbrev pub StandsNowhere : Text → FlatCode → Fragment → Type 0
StandsNowhere text code fragment =
    (node : NodeNo) → fragment_node fragment ≡ Some node → (place : ℕ) → node_place code node.0 ≡ Some place → length text < place

-- the same for the position that is shown, if there is one
abbrev pub ShowsPlace : Text → FlatCode → Fragment → Option Position → Type 0
ShowsPlace text code fragment None = StandsNowhere text code fragment
ShowsPlace text code fragment (Some there) = StandsThere text code fragment there
