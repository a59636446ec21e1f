-- The labels of a weak run as rows, in the order in which they were made.
use Rattle.std.specs.Prelude.{◌≡◌, ◌≢◌, ⊤, ℕ, ◌+◌, List, [], ◌∷◌, ◌++◌, length, get_or, replicate, Option, Some, None, codes, decimal}
use Rattle.std.specs.Fmt.{signed_decimal}
use Rattle.ame_lex.specs.Bytes.{Text}
use Rattle.ame_term.specs.Tree.{Val, Tree}
use Rattle.ame_term.specs.Context.{Focus, focus}
use Rattle.ame_term.specs.Maps.{at}
use Rattle.ame_term.specs.State.{State}
use Rattle.ame_term.specs.declared.types.Unary.TheVariants as unary
use Rattle.ame_term.specs.declared.semantics.StepKind.{StepKind}
use Rattle.ame_term.specs.declared.semantics.Label.{Label}
use Rattle.ame_weak.specs.Weak.{Weak, weak_after}
use Rattle.ame_weak.specs.declared.tries.Try.{Try}
use Rattle.ame_page.specs.Columns.{column}
use Rattle.ame_labels.specs.Stepped.{kind_of, reduced_term, changed_location, held_text}

-- Locations

-- the location from which a redex reads
abbrev pub read_at : Focus → Option ℕ
read_at (Focus.AtRedex side (Tree.One unary.Get (Tree.Held (Val.Loc l)))) = Some l
read_at (Focus.AtRedex side (Tree.One unary.Peek (Tree.Held (Val.Loc l)))) = Some l
read_at _ = None

-- the same of a term that may be absent
abbrev pub read_location : Option Tree → Option ℕ
read_location None = None
read_location (Some term) = read_at (focus term)

-- the location that a reduction of a term makes, reads or writes
abbrev pub touched_at : Option StepKind → Option Tree → Option ℕ
touched_at (Some StepKind.Read) term = read_location term
touched_at (Some StepKind.Peek) term = read_location term
touched_at kind term = changed_location kind term

-- the value of a location, if one is given
abbrev pub touched_words : List Text → State → Option ℕ → List ℕ
touched_words names t None = []
touched_words names t (Some l) = codes "@" ++ decimal l ++ codes " = " ++ held_text names (at t.store l)

-- Integers

-- an integer, if a term is one
abbrev pub integer_words : Tree → List ℕ
integer_words (Tree.Held (Val.Int n)) = signed_decimal n
integer_words _ = []

-- what a redex prints, or the device that it calls, and with which integer
abbrev pub said_at : Focus → List ℕ
said_at (Focus.AtRedex side (Tree.One unary.Print part)) = integer_words part
said_at (Focus.AtRedex side (Tree.One (unary.Call k) part)) = decimal k ++ codes "(" ++ integer_words part ++ codes ")"
said_at _ = []

-- the same of a term that may be absent
abbrev pub said_by : Option Tree → List ℕ
said_by None = []
said_by (Some term) = said_at (focus term)

-- what a term's reduction sends to others, and its answer
abbrev pub said_words : Option StepKind → Option Tree → List ℕ
said_words (Some StepKind.Print) term = said_by term
said_words (Some (StepKind.Device answer)) term = said_by term ++ codes " = " ++ signed_decimal answer
said_words _ term = []

-- Rows

-- the member whose label it is
abbrev pub label_member : Option ℕ → Label → ℕ
label_member active (Label.Activate i) = i
label_member active (Label.Free i kind) = i
label_member active (Label.Close i) = i
label_member (Some i) _ = i
label_member None _ = 0

-- labels of unprotected code stand in a column of their own
abbrev pub lane_width : Label → ℕ
lane_width (Label.Free i kind) = 22
lane_width (Label.Close i) = 22
lane_width _ = 0

-- a reduction in words, padded if more follows
abbrev pub step_deed : StepKind → List ℕ
step_deed StepKind.Local = codes "  local"
step_deed (StepKind.Alloc l) = codes "  alloc    "
step_deed StepKind.Read = codes "  read     "
step_deed StepKind.Peek = codes "  peek     "
step_deed StepKind.Write = codes "  write    "
step_deed StepKind.Spawn = codes "  spawn"
step_deed StepKind.Print = codes "  print    "
step_deed StepKind.Block = codes "  block"
step_deed (StepKind.Device answer) = codes "  device   "

-- what a label does
abbrev pub label_deed : Label → List ℕ
label_deed (Label.Activate i) = codes "  activate"
label_deed (Label.Step kind) = step_deed kind
label_deed Label.Leave = codes "  leave"
label_deed Label.End = codes "  end"
label_deed (Label.Free i kind) = step_deed kind
label_deed (Label.Close i) = codes "  close"

-- which label it is, its entry, whose it is, and what it does
unfoldable pub columns : ℕ → ℕ → Option ℕ → Label → List ℕ
columns n entry active label =
    column 5 n ++ column 6 entry ++ column 9 (label_member active label) ++ replicate (lane_width label) 32 ++ label_deed label

-- what is known of label n before it is made, which goes into this entry
unfoldable pub before_label : ℕ → ℕ → Weak → Label → List ℕ
before_label n entry w label = columns n entry w.state.active label ++ said_words (kind_of label) (reduced_term w.state label)

-- what is known of it then: what the location holds that it touched
unfoldable pub behind_label : List Text → Weak → Option ℕ → List ℕ
behind_label names v touched = touched_words names v.state touched ++ codes "\n"

-- the row of label n, which goes into this entry and leads from one weak state to another
abbrev pub weak_row : List Text → ℕ → ℕ → Weak → Label → Weak → List ℕ
weak_row names n entry w label v = before_label n entry w label ++ behind_label names v (touched_at (kind_of label) (reduced_term w.state label))

-- the row of a try whose note is this entry
unfoldable pub taken_back_row : ℕ → Try → List ℕ
taken_back_row entry t =
    codes "      " ++ column 6 entry ++ column 9 t.certificate.number ++ codes "  was tried, and taken back behind step "
    ++ decimal t.certificate.steps ++ codes "\n"

-- the line that names the columns
abbrev pub weak_heading : List ℕ
weak_heading = codes "label  entry      task   protected code        unprotected code\n"

-- the number of entries after a label that goes into this entry: the steps of a fragment go into the entry of its end
abbrev pub entries_after : Label → ℕ → ℕ → ℕ
entries_after (Label.Activate i) entry entries = entries
entries_after (Label.Step kind) entry entries = entries
entries_after _ entry entries = entry

-- none of the tries without a row, which come in this order, stands after n labels
abbrev pub NoneIsNext : ℕ → List Try → Type 0
NoneIsNext n [] = ⊤
NoneIsNext n (t ∷ later) = t.after ≢ n

-- A page has rows for labels of a weak run and for the tries between them. Each row is of the next label, with its entry by these numbers, legal in the
-- weak state to which the labels above it lead; or of the next try, which was made after exactly the labels above it, with the next entry.
-- A label has its row once no such try is left. After the page and its labels come the tries that are left, the number of entries, and the weak state.
pub data TellsLabels (names : List Text) (numbers : List ℕ) (w : Weak) (tries : List Try) : List ℕ → List Label → List Try → ℕ → Weak → Type 0 where
  none : TellsLabels names numbers w tries weak_heading [] tries 0 w
  told : (page : List ℕ) (labels : List Label) (rest : List Try) (entries : ℕ) (v u : Weak) (label : Label)
      → TellsLabels names numbers w tries page labels rest entries v → NoneIsNext (length labels) rest → weak_after v label ≡ Some u
      → TellsLabels names numbers w tries
      (page ++ weak_row names (length labels + 1) (get_or numbers (length labels) 0) v label u)
      (labels ++ label ∷ []) rest (entries_after label (get_or numbers (length labels) 0) entries) u
  tried : (page : List ℕ) (labels : List Label) (t : Try) (rest : List Try) (entries : ℕ) (v : Weak)
      → TellsLabels names numbers w tries page labels (t ∷ rest) entries v → t.after ≡ length labels
      → TellsLabels names numbers w tries (page ++ taken_back_row (entries + 1) t) labels rest (entries + 1) v

-- The page has rows for all these labels, and for the tries in order, each in its place; none that is left stands after the last label. If the list has
-- the tries in the order in which they were made, those that are left were made after more labels (`left_behind` of `proofs/OrderLemmas`).
pub record TellsOrder (names : List Text) (numbers : List ℕ) (w : Weak) (tries : List Try) (labels : List Label) (page : List ℕ) : Type 0 where
  pub behind : Weak
  pub entries : ℕ
  pub later : List Try
  pub told : TellsLabels names numbers w tries page labels later entries behind
  pub complete : NoneIsNext (length labels) later
