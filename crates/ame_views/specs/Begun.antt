-- The beginnings of tasks.
use Rattle.std.specs.Prelude.{◌≡◌, ◌⊎◌, ℕ, ◌+◌, ◌<◌, ◌≤◌, List, length, take, slice_get, Option, Some, None, option_and_then}
use Rattle.ame_lex.specs.Bytes.{Text}
use Rattle.ame_term.specs.Maps.{at}
use Rattle.ame_journal.specs.declared.entry.Entry.{Entry}
use Rattle.ame_check.specs.Shows.{ReplayView, StandsForEntries}
use Rattle.ame_code.specs.FlatCode.{FlatCode}
use Rattle.ame_code.specs.declared.node.NodeNo.{NodeNo}
use Rattle.ame_code.specs.declared.node.Node.{Node}
use Rattle.ame_code.specs.declared.node.Shape.{Shape}
use Rattle.ame_code.specs.declared.node.Shape.TheVariants as shape
use Rattle.ame_value.specs.declared.val.Val.{Val}
use Rattle.ame_eval.specs.Fragments.{stage_of, IsFragmentOf}
use Rattle.ame_eval.specs.Places.{fragment_node, BeginsAt}
use Rattle.ame_eval.specs.declared.fragment.Fragment.{Fragment}
use Rattle.ame_eval.specs.declared.fragment.Fragment.TheVariants as fragment
use Rattle.ame_why.specs.declared.position.Position.{Position}
use Rattle.ame_views.specs.declared.starters.Starter.{Starter}
use Rattle.ame_why.specs.Position.{position}
use Rattle.ame_views.specs.FragmentMeaning.{fragment_meaning}
use Rattle.ame_views.specs.NodePlaces.{node_place}
use Rattle.ame_views.specs.Starters.{starter_in}

-- the node at which a fragment starts that hasn't begun to run
abbrev pub start_of : Fragment → Option NodeNo
start_of (fragment.Fresh start) = fragment_node (fragment.Fresh start)
start_of (fragment.Going machine) = None

-- the same of a member
abbrev pub beginning_in : List (ℕ × Fragment) → ℕ → Option NodeNo
beginning_in members i = option_and_then start_of (at members i)

-- one of these members begins at a node
pub record SeenBegun (members : List (ℕ × Fragment)) (i : ℕ) (node : NodeNo) : Type 0 where
  pub fragment : Fragment
  pub member : at members i ≡ Some fragment
  pub begins : (code : FlatCode) → IsFragmentOf code fragment → BeginsAt code (stage_of code fragment).term node.0

-- what is noted was noted before, or one of these members begins there
abbrev pub NotesBegun : List (ℕ × Fragment) → List (ℕ × NodeNo) → List (ℕ × NodeNo) → Type 0
NotesBegun members old new = (i : ℕ) (node : NodeNo) → at new i ≡ Some node → (at old i ≡ Some node) ⊎ SeenBegun members i node

-- what was noted is noted
abbrev pub KeepsNotes : List (ℕ × NodeNo) → List (ℕ × NodeNo) → Type 0
KeepsNotes old new = (i : ℕ) → at new i ≡ None → at old i ≡ None

-- a member without a note has begun to run, or there is none
abbrev pub NotesOne : List (ℕ × Fragment) → ℕ → List (ℕ × NodeNo) → Type 0
NotesOne members i new = at new i ≡ None → beginning_in members i ≡ None

-- so it is of all with these numbers
abbrev pub NotesAll : ℕ → ℕ → List (ℕ × Fragment) → List (ℕ × NodeNo) → Type 0
NotesAll first next members new = (i : ℕ) → first ≤ i → i < next → NotesOne members i new

-- After some of the entries there is a task with this number, and its term is that of the node, with values for the names around it.
pub record BeganAt (code : FlatCode) (entries : List Entry) (i : ℕ) (node : NodeNo) : Type 0 where
  pub count : ℕ
  pub place : ReplayView Val Fragment
  pub stands : StandsForEntries fragment_meaning code (take count entries) place
  pub fragment : Fragment
  pub member : at place.members i ≡ Some fragment
  pub begins : BeginsAt code (stage_of code fragment).term node.0

-- the same for each task that is noted
abbrev pub TellsBegun : FlatCode → List Entry → List (ℕ × NodeNo) → Type 0
TellsBegun code entries begun = (i : ℕ) (node : NodeNo) → at begun i ≡ Some node → BeganAt code entries i node

-- The next of the entries is the first one after which there is a task with this number, and none there that hasn't begun to run.
pub record IsUnseen (code : FlatCode) (entries : List Entry) (i : ℕ) : Type 0 where
  pub count : ℕ
  pub before : ReplayView Val Fragment
  pub stands : StandsForEntries fragment_meaning code (take count entries) before
  pub absent : before.next ≤ i
  pub place : ReplayView Val Fragment
  pub leads : StandsForEntries fragment_meaning code (take (count + 1) entries) place
  pub there : i < place.next
  pub none : beginning_in place.members i ≡ None

-- the same for each task up to this one that isn't noted
abbrev pub TellsAllBegun : FlatCode → List Entry → ℕ → List (ℕ × NodeNo) → Type 0
TellsAllBegun code entries last begun = (i : ℕ) → 1 ≤ i → i ≤ last → at begun i ≡ None → IsUnseen code entries i

-- the body of an `async` form
abbrev pub async_body : Shape → Option ℕ
async_body (shape.Async body free) = Some body.0
async_body _ = None

-- a node is the `async` form with this body
pub record IsAsyncOf (code : FlatCode) (body form : NodeNo) : Type 0 where
  pub node : Node
  pub there : slice_get code.nodes form.0 ≡ Some node
  pub is : async_body node.shape ≡ Some body.0

-- the `async` form with this body is at this position of the text
pub record IsAsyncFormAt (text : Text) (code : FlatCode) (body : NodeNo) (there : Position) : Type 0 where
  pub form : NodeNo
  pub starts : IsAsyncOf code body form
  pub place : ℕ
  pub placed : node_place code form.0 ≡ Some place
  pub is : there ≡ position text place

-- a fragment began as the body of the `async` form that is at this position of the text
pub record IsStartedAt (text : Text) (code : FlatCode) (entries : List Entry) (i : ℕ) (there : Position) : Type 0 where
  pub body : NodeNo
  pub began : BeganAt code entries i body
  pub form : NodeNo
  pub starts : IsAsyncOf code body form
  pub place : ℕ
  pub placed : node_place code form.0 ≡ Some place
  pub is : there ≡ position text place

-- the node after a body is no `async` form with it, or its place isn't in the text
abbrev pub IsFormless : Text → FlatCode → NodeNo → Type 0
IsFormless text code body =
    (form : NodeNo) → form.0 ≡ body.0 + 1 → IsAsyncOf code body form → (place : ℕ) → node_place code form.0 ≡ Some place → length text < place

-- the beginning of a task isn't known by these notes, or isn't in the text
abbrev pub HidesForm : Text → FlatCode → List (ℕ × NodeNo) → ℕ → Type 0
HidesForm text code begun i = (at begun i ≡ None) ⊎ ((body : NodeNo) × (at begun i ≡ Some body) × IsFormless text code body)

-- a form that is shown is the one that started the task; one that isn't shown can't be found
abbrev pub TellsForm : Text → FlatCode → List Entry → ℕ → Option Position → Type 0
TellsForm text code entries i None = IsUnseen code entries i ⊎ ((body : NodeNo) × BeganAt code entries i body × IsFormless text code body)
TellsForm text code entries i (Some there) = IsStartedAt text code entries i there

-- so it is of each fragment
abbrev pub TellsForms : Text → FlatCode → List Entry → List Starter → Type 0
TellsForms text code entries starters =
    (fragment : ℕ) (starter : Starter) → starter_in starters fragment ≡ Some starter → TellsForm text code entries fragment starter.form
