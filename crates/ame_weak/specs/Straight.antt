-- The journal of a weak run, a function of its labels alone. Each unprotected label is an entry of its own. The labels made
-- while a fragment was active come before the fragment's entry.
use Rattle.std.specs.Prelude.{ℕ, ◌+◌, ◌==◌, ℤ, Bool, true, false, not, List, [], ◌∷◌, ◌++◌, filter, Option, None}
use Rattle.std.specs.List.{list_any}
use Rattle.ame_term.specs.Act.{device_answer}
use Rattle.ame_term.specs.declared.semantics.Label.{Label}
use Rattle.ame_journal.specs.declared.entry.Entry.{Entry}
use Rattle.ame_journal.specs.declared.entry.EntryKind.{EntryKind}
use Rattle.ame_journal.specs.Labels.{fresh_of}

-- The point that labels have reached: the members inside `unprotected` by the entries so far, and the member, steps and new locations, in
-- order, of the active fragment, if there is one.
pub record Place : Type 0 where
  pub inside : List ℕ
  pub number : ℕ
  pub steps : ℕ
  pub fresh : List ℕ

-- the point before the first label
abbrev pub outset : Place
outset = record { inside = []; number = 0; steps = 0; fresh = [] }

-- Entries, each of the first seat

-- a fragment of a member, from being made active to its end or its next `unprotected`
abbrev pub ran : ℕ → ℕ → List ℕ → Entry
ran i n fresh = record { kind = EntryKind.Ran; seat = 0; number = i; steps = n; fresh = fresh; answer = None }

-- one label of a member under `unprotected`
abbrev pub freed : ℕ → List ℕ → Option ℤ → Entry
freed i fresh answer = record { kind = EntryKind.Free; seat = 0; number = i; steps = 1; fresh = fresh; answer = answer }

abbrev pub arrival_where : Bool → ℕ → List Entry
arrival_where true i = []
arrival_where false i = ran i 0 [] ∷ []

-- a member that isn't inside yet enters by a fragment of no steps
abbrev pub arrival : List ℕ → ℕ → List Entry
arrival inside i = arrival_where (list_any (λ j. j == i) inside) i

-- the entries that a label adds
abbrev pub entries_of_label : Place → Label → List Entry
entries_of_label p (Label.Activate i) = []
entries_of_label p (Label.Step kind) = []
entries_of_label p Label.Leave = ran p.number p.steps p.fresh ∷ []
entries_of_label p Label.End = ran p.number p.steps p.fresh ∷ []
entries_of_label p (Label.Free i kind) = arrival p.inside i ++ freed i (fresh_of kind) (device_answer kind) ∷ []
entries_of_label p (Label.Close i) = arrival p.inside i ++ freed i [] None ∷ []

abbrev pub came_where : Bool → List ℕ → ℕ → List ℕ
came_where true inside i = inside
came_where false inside i = i ∷ inside

-- the members inside after a member has entered
abbrev pub came : List ℕ → ℕ → List ℕ
came inside i = came_where (list_any (λ j. j == i) inside) inside i

-- the point after one more label
abbrev pub past : Place → Label → Place
past p (Label.Activate i) = record { inside = p.inside; number = i; steps = 0; fresh = [] }
past p (Label.Step kind) = record p { steps = p.steps + 1; fresh = p.fresh ++ fresh_of kind }
past p Label.Leave = record p { inside = p.number ∷ p.inside }
past p Label.End = p
past p (Label.Free i kind) = record p { inside = came p.inside i }
past p (Label.Close i) = record p { inside = filter (λ j. not (j == i)) (came p.inside i) }

-- the entries of labels from this point on
abbrev pub straight_from : Place → List Label → List Entry
straight_from p [] = []
straight_from p (label ∷ labels) = entries_of_label p label ++ straight_from (past p label) labels

-- the journal of a weak run's labels
abbrev pub straight : List Label → List Entry
straight labels = straight_from outset labels
