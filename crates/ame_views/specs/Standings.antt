-- The places that members have come to after the steps of notes, and their reads on the way.
use Rattle.std.specs.Prelude.{◌≡◌, ℕ, List, [], ◌∷◌, ◌++◌, true, Option, Some, None, IfSome, slice_get, codes, decimal}
use Rattle.std.specs.List.{flat_map}
use Rattle.ame_lex.specs.Bytes.{Text}
use Rattle.ame_lex.specs.Reading.{tokens_of}
use Rattle.ame_term.specs.Maps.{at}
use Rattle.ame_journal.specs.declared.entry.Entry.{Entry}
use Rattle.ame_journal.specs.declared.entry.EntryKind.{EntryKind}
use Rattle.ame_machine.specs.declared.wants.Wants.{Wants}
use Rattle.ame_machine.specs.declared.wants.Wants.TheVariants as wants
use Rattle.ame_check.specs.Entries.{is_confirmed}
use Rattle.ame_check.specs.Shows.{ReplayView, StandsForEntries}
use Rattle.ame_check.specs.Standing.{StandsAt}
use Rattle.ame_check.specs.declared.stored.Stored.{Stored}
use Rattle.ame_journal.specs.declared.certificate.Certificate.{Certificate}
use Rattle.ame_code.specs.FlatCode.{FlatCode}
use Rattle.ame_value.specs.View.{flat_value}
use Rattle.ame_value.specs.declared.val.Val.{Val}
use Rattle.ame_eval.specs.Places.{fragment_node, StandsAtForm}
use Rattle.ame_eval.specs.declared.fragment.Fragment.{Fragment}
use Rattle.ame_why.specs.declared.position.Position.{Position}
use Rattle.ame_views.specs.FragmentMeaning.{fragment_meaning}
use Rattle.ame_views.specs.NodePlaces.{ShowsPlace}
use Rattle.ame_views.specs.Begun.{IsStartedAt}
use Rattle.ame_why.specs.Open.{tokens_or_none}
use Rattle.ame_why.specs.Position.{position_words}
use Rattle.ame_views.specs.Forms.{positions}
use Rattle.ame_views.specs.Stored.{held_words}

-- the note that a certificate was
abbrev pub stuck_note : Certificate → Entry
stuck_note c = record { kind = EntryKind.Stuck; seat = 0; number = c.number; steps = c.steps; fresh = c.fresh; answer = None }

-- a location, and the place of its `ref` form
unfoldable pub made_words : List Position → ℕ → ℕ → List ℕ
made_words forms l number = codes "  it read location " ++ decimal l ++ codes " (created at " ++ position_words (slice_get forms number)

-- what it holds
unfoldable pub holds_words : Val → List ℕ
holds_words value = codes "), which now holds " ++ held_words (flat_value value) ++ codes "\n"

-- the line of a location that a member read; nothing of one that the member made itself
unfoldable pub held_line : List Position → ℕ → Option (Stored Val) → List ℕ
held_line forms l None = []
held_line forms l (Some cell) = made_words forms l cell.number.0 ++ holds_words cell.value

-- the same for a location that was read
abbrev pub read_line : List Position → List (ℕ × Stored Val) → ℕ × ℕ → List ℕ
read_line forms cells read = held_line forms read.0 (at cells read.0)

-- the place of the `async` form that started a member, if it is known
abbrev pub start_words : Option Position → List ℕ
start_words None = []
start_words (Some started) = codes " (started at " ++ position_words (Some started) ++ codes ")"

-- a member, and the place that started it
unfoldable pub member_words : ℕ → Option Position → List ℕ
member_words number started = codes "task " ++ decimal number ++ start_words started

-- the place at which a member stands, if that is known
abbrev pub place_words : Option Position → List ℕ
place_words None = []
place_words (Some there) = codes " at " ++ position_words (Some there)

-- what a member does that has a note of this kind
abbrev pub stance : EntryKind → List ℕ
stance EntryKind.Stuck = codes " is blocked"
stance EntryKind.Tall = codes " stops"
stance _ = codes " was cut off"

-- why it does
abbrev pub ending : EntryKind → List ℕ
ending EntryKind.Stuck = codes " steps: its condition is false\n"
ending EntryKind.Tall = codes " steps: a value would be nested too deeply\n"
ending _ = codes " steps: the run ended\n"

-- what it does, its place, and after how many steps
unfoldable pub stands_words : Entry → Option Position → List ℕ
stands_words note there = stance note.kind ++ place_words there ++ codes " after " ++ decimal note.steps ++ ending note.kind

-- the line of a note
unfoldable pub standing_line : Entry → Option Position → Option Position → List ℕ
standing_line note started there = member_words note.number started ++ stands_words note there

-- that line, and those of the locations that were read
abbrev pub note_lines : List Position → List (ℕ × Stored Val) → Entry → Option Position → Option Position → List (ℕ × ℕ) → List ℕ
note_lines forms cells note started there reads = standing_line note started there ++ flat_map (read_line forms cells) reads

-- After the entries the steps of a note lead its member to a machine that wants this, and read these locations; and the form that the machine has
-- come to is at this position.
pub record LeadsNoteTo (text : Text) (code : FlatCode) (entries : List Entry) (note : Entry)
    (want : Wants) (reads : List (ℕ × ℕ)) (there : Option Position) : Type 0 where
  pub fragment : Fragment
  pub stands : StandsAt fragment_meaning code entries note fragment want reads
  pub form : StandsAtForm code (Some want) (fragment_node fragment)
  pub shown : ShowsPlace text code fragment there

-- The lines of a note: its member comes to this place, it began as the body of this `async` form, and these locations
-- were read on the way.
pub record TellsNote (text : Text) (code : FlatCode) (entries : List Entry) (cells : List (ℕ × Stored Val)) (note : Entry)
    (want : Wants) (there : Option Position) (part : List ℕ) : Type 0 where
  pub reads : List (ℕ × ℕ)
  pub comes : LeadsNoteTo text code entries note want reads there
  pub started : Option Position
  pub starts : IfSome started (IsStartedAt text code entries note.number)
  pub is : part ≡ note_lines (positions text (tokens_or_none (tokens_of text))) cells note started there reads

-- The lines of a certificate: its member comes to a `blockUntil` form whose condition is false, at this place.
pub record TellsStanding (text : Text) (code : FlatCode) (entries : List Entry) (cells : List (ℕ × Stored Val)) (c : Certificate) (part : List ℕ) : Type 0 where
  pub there : Position
  pub told : TellsNote text code entries cells (stuck_note c) wants.Block (Some there) part

-- the lines of certificates, one after another
pub data TellEach (text : Text) (code : FlatCode) (entries : List Entry) (cells : List (ℕ × Stored Val)) : List Certificate → List ℕ → Type 0 where
  none : TellEach text code entries cells [] []
  more : (done : List Certificate) (page : List ℕ) (c : Certificate) (part : List ℕ) → TellEach text code entries cells done page
      → TellsStanding text code entries cells c part → TellEach text code entries cells (done ++ c ∷ []) (page ++ part)

-- The lines of all certificates, with the values of the locations after the entries.
pub record TellStandings (text : Text) (code : FlatCode) (entries : List Entry) (certificates : List Certificate) (page : List ℕ) : Type 0 where
  pub place : ReplayView Val Fragment
  pub stands : StandsForEntries fragment_meaning code entries place
  pub told : TellEach text code entries place.cells certificates page

-- The lines of the note with which a run ends, with the values of the locations after the entries: its member comes to what the note says.
pub record TellsHalted (text : Text) (code : FlatCode) (entries : List Entry) (note : Entry) (page : List ℕ) : Type 0 where
  pub place : ReplayView Val Fragment
  pub stands : StandsForEntries fragment_meaning code entries place
  pub want : Wants
  pub confirmed : is_confirmed note.kind want ≡ true
  pub there : Option Position
  pub told : TellsNote text code entries place.cells note want there page
