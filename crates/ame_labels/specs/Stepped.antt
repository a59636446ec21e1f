-- The labels of a run as rows, each with the term that it reduces.
use Rattle.std.specs.Prelude.{◌≡◌, ℕ, ◌+◌, true, List, [], ◌∷◌, ◌++◌, length, Option, Some, None, codes, decimal}
use Rattle.ame_lex.specs.Bytes.{Text}
use Rattle.ame_term.specs.Tree.{Val, Tree}
use Rattle.ame_term.specs.Context.{Focus, focus}
use Rattle.ame_term.specs.Maps.{at}
use Rattle.ame_term.specs.State.{State, after}
use Rattle.ame_term.specs.declared.types.Binary.TheVariants as binary
use Rattle.ame_term.specs.declared.semantics.StepKind.{StepKind}
use Rattle.ame_term.specs.declared.semantics.Label.{Label}
use Rattle.ame_journal.specs.declared.entry.Entry.{Entry}
use Rattle.ame_journal.specs.Labels.{Unfolds}
use Rattle.ame_journal.specs.Replayed.{Replayed}
use Rattle.ame_journal.specs.Totals.{is_note}
use Rattle.ame_strong.specs.Pool.{pool, active_tree}
use Rattle.ame_print.specs.Tokens.{term_text}
use Rattle.ame_labels.specs.Marked.{marked_text}

-- the reduction that a label makes, if it makes one
abbrev pub kind_of : Label → Option StepKind
kind_of (Label.Step kind) = Some kind
kind_of (Label.Free i kind) = Some kind
kind_of _ = None

abbrev pub step_words : StepKind → List ℕ
step_words StepKind.Local = codes "  local    "
step_words (StepKind.Alloc l) = codes "  alloc    "
step_words StepKind.Read = codes "  read     "
step_words StepKind.Peek = codes "  peek     "
step_words StepKind.Write = codes "  write    "
step_words StepKind.Spawn = codes "  spawn    "
step_words StepKind.Print = codes "  print    "
step_words StepKind.Block = codes "  block    "
step_words (StepKind.Device answer) = codes "  device   "

abbrev pub label_words : Label → List ℕ
label_words (Label.Activate i) = codes "  activate"
label_words (Label.Step kind) = step_words kind
label_words Label.Leave = codes "  leave    "
label_words Label.End = codes "  end      "
label_words (Label.Free i kind) = step_words kind
label_words (Label.Close i) = codes "  close    "

-- the term of the member that a label reduces, lets go or closes
abbrev pub reduced_term : State → Label → Option Tree
reduced_term s (Label.Activate i) = None
reduced_term s (Label.Free i kind) = at (pool s) i
reduced_term s (Label.Close i) = at (pool s) i
reduced_term s _ = active_tree s

abbrev pub shown_term : List Text → Option Tree → List ℕ
shown_term names None = []
shown_term names (Some term) = marked_text names term

-- the location to which the redex of a term writes
abbrev pub written_at : Focus → Option ℕ
written_at (Focus.AtRedex side (Tree.Two binary.Set (Tree.Held (Val.Loc l)) content)) = Some l
written_at _ = None

-- the same of a term that may be absent
abbrev pub target_of : Option Tree → Option ℕ
target_of None = None
target_of (Some term) = written_at (focus term)

-- the location whose value a reduction of a term changes
abbrev pub changed_location : Option StepKind → Option Tree → Option ℕ
changed_location (Some (StepKind.Alloc l)) term = Some l.0
changed_location (Some StepKind.Write) term = target_of term
changed_location _ term = None

abbrev pub held_text : List Text → Option Val → List ℕ
held_text names None = []
held_text names (Some v) = term_text names (Tree.Held v)

-- the value of a location, if one is given
abbrev pub stored_words : List Text → State → Option ℕ → List ℕ
stored_words names t None = []
stored_words names t (Some l) = codes "  ; @" ++ decimal l ++ codes " = " ++ held_text names (at t.store l)

-- which member a reduction starts, if it starts one
abbrev pub started_words : ℕ → Option StepKind → List ℕ
started_words i (Some StepKind.Spawn) = codes "  ; starts " ++ decimal i
started_words i _ = []

-- the row of a label that leads from one state to another
unfoldable pub label_row : List Text → State → Label → State → List ℕ
label_row names s label t =
    label_words label ++ shown_term names (reduced_term s label) ++ stored_words names t (changed_location (kind_of label) (reduced_term s label))
    ++ started_words s.next (kind_of label) ++ codes "\n"

-- the line before the rows of entry n, which is one of member i
abbrev pub entry_heading : ℕ → ℕ → List ℕ
entry_heading n i = codes "entry " ++ decimal n ++ codes ", task " ++ decimal i ++ codes "\n"

-- The rows of labels from a state; each label is legal after those before it.
pub data Rows (names : List Text) (s : State) : List Label → List ℕ → State → Type 0 where
  none : Rows names s [] [] s
  more : (labels : List Label) (page : List ℕ) (t u : State) (label : Label) → Rows names s labels page t → after t label ≡ Some u →
      Rows names s (labels ++ label ∷ []) (page ++ label_row names t label u) u

-- An entry has these labels, and leads on. A note has none, whether or not it can be made.
pub data HasLabels (r : Replayed) (entry : Entry) : List Label → Replayed → Type 0 where
  note : is_note entry.kind ≡ true → HasLabels r entry [] r
  made : (labels : List Label) (t : Replayed) → Unfolds r entry.number entry.kind entry.steps entry.fresh entry.answer labels t → HasLabels r entry labels t

-- The page has a heading for each entry, and below it exactly the rows of the entry's labels.
pub data ShowsSteps (names : List Text) (r : Replayed) : List Entry → List ℕ → Replayed → Type 0 where
  none : ShowsSteps names r [] [] r
  entry : (done : List Entry) (page : List ℕ) (t u : Replayed) (one : Entry) (labels : List Label) (rows : List ℕ) → ShowsSteps names r done page t →
      HasLabels t one labels u → Rows names t.state labels rows u.state →
      ShowsSteps names r (done ++ one ∷ []) (page ++ (entry_heading (length done + 1) one.number ++ rows)) u
