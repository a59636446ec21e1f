-- The state to which a journal leads, computed. It is the state that its entries unfold to.
use Rattle.std.specs.Prelude.{ℕ, zero, suc, ◌==◌, ℤ, Bool, true, false, List, [], ◌∷◌, Option, Some, None, is_some, option_map, option_and_then, if◌then◌else◌}
use Rattle.ame_term.specs.Tree.{Tree}
use Rattle.ame_term.specs.Frame.{Side}
use Rattle.ame_term.specs.Context.{Focus, focus}
use Rattle.ame_term.specs.Act.{Act, act_of, StepName, making}
use Rattle.ame_term.specs.Maps.{at}
use Rattle.ame_term.specs.State.{State, after}
use Rattle.ame_term.specs.declared.semantics.StepKind.{StepKind}
use Rattle.ame_term.specs.declared.semantics.Label.{Label}
use Rattle.ame_journal.specs.declared.entry.Entry.{Entry}
use Rattle.ame_journal.specs.declared.entry.EntryKind.{EntryKind}
use Rattle.ame_journal.specs.Replayed.{Replayed, begun_at, is_inside, entering, staying, leaving, has_such, is_at_unprotected, side_at, is_failing, is_tall}

-- the fresh locations and the device's answer that are still to be used
pub record Supply : Type 0 where
  pub fresh : List ℕ
  pub answer : Option ℤ

-- whether nothing is left
abbrev pub is_nothing : List ℕ → Option ℤ → Bool
is_nothing [] None = true
is_nothing _ _ = false

-- whether a supply is used up
abbrev pub is_used : Supply → Bool
is_used supply = is_nothing supply.fresh supply.answer

-- fresh locations alone
abbrev pub locations : List ℕ → Supply
locations fresh = record { fresh = fresh; answer = None }

-- Steps

-- the act of a term's redex, if it has one
abbrev pub redex_act : Focus → Option Act
redex_act (Focus.AtValue v) = None
redex_act (Focus.AtRedex side redex) = Some (act_of redex)

-- the act of a member's redex, if there is such a member and it has one
abbrev pub member_act : ℕ → State → Option Act
member_act i s = option_and_then (λ term. redex_act (focus term)) (at s.members i)

-- A step by its name, and what it leaves of a supply. A device is called in the last step alone
-- (then the second argument is true).
abbrev pub step_by_name : StepName → Bool → List ℕ → Option ℤ → Option (StepKind × Supply)
step_by_name StepName.Local last fresh answer = Some (StepKind.Local, record { fresh = fresh; answer = answer })
step_by_name StepName.Alloc last [] answer = None
step_by_name StepName.Alloc last (l ∷ fresh) answer = Some (StepKind.Alloc (record { 0 = l }), record { fresh = fresh; answer = answer })
step_by_name StepName.Read last fresh answer = Some (StepKind.Read, record { fresh = fresh; answer = answer })
step_by_name StepName.Peek last fresh answer = Some (StepKind.Peek, record { fresh = fresh; answer = answer })
step_by_name StepName.Write last fresh answer = Some (StepKind.Write, record { fresh = fresh; answer = answer })
step_by_name StepName.Spawn last fresh answer = Some (StepKind.Spawn, record { fresh = fresh; answer = answer })
step_by_name StepName.Print last fresh answer = Some (StepKind.Print, record { fresh = fresh; answer = answer })
step_by_name StepName.Block last fresh answer = Some (StepKind.Block, record { fresh = fresh; answer = answer })
step_by_name StepName.Device true fresh (Some answer) = Some (StepKind.Device answer, record { fresh = fresh; answer = None })
step_by_name StepName.Device last fresh answer = None

-- the name of the steps that make an act
abbrev pub making_name : Act → Option StepName
making_name act = option_map (λ row. row.1) (making act)

-- the step that makes an act, and what it leaves of a supply
abbrev pub next_kind : Bool → Act → List ℕ → Option ℤ → Option (StepKind × Supply)
next_kind last act fresh answer = option_and_then (λ name. step_by_name name last fresh answer) (making_name act)

-- n steps of member i by labels of one form, which use the whole supply
abbrev pub steps : (StepKind → Label) → ℕ → ℕ → Supply → State → Option State
steps label i zero supply s = if is_used supply then Some s else None
steps label i (suc n) supply s =
    option_and_then
    (λ act.
    option_and_then (λ next. option_and_then (λ t. steps label i n next.1 t) (after s (label next.0)))
    (next_kind (n == 0) act supply.fresh supply.answer))
    (member_act i s)

-- a fragment of a member: it becomes active and makes n steps
abbrev pub fragment : ℕ → ℕ → List ℕ → State → Option State
fragment i n fresh s = option_and_then (λ t. steps Label.Step i n (locations fresh) t) (after s (Label.Activate i))

-- Entries

-- the first, or else the second
abbrev pub or_else : {X : Type 0} → Option X → Option X → Option X
or_else (Some x) other = Some x
or_else None other = other

-- the state after the active member leaves or ends
abbrev pub left_or_ended : Replayed → ℕ → State → Option Replayed
left_or_ended r i s = or_else (option_map (entering r i) (after s Label.Leave)) (option_map (staying r) (after s Label.End))

-- A fragment. At a member that stands at `unprotected` already it has no steps, and the member is
-- inside from then on.
abbrev pub replay_ran : Replayed → ℕ → ℕ → List ℕ → Option Replayed
replay_ran r i zero [] =
    if is_at_unprotected i r.state then Some (entering r i r.state) else option_and_then (left_or_ended r i) (fragment i 0 [] r.state)
replay_ran r i n fresh = option_and_then (left_or_ended r i) (fragment i n fresh r.state)

-- n steps under `unprotected`, after which it closes
abbrev pub replay_closing : Replayed → ℕ → ℕ → List ℕ → Option ℤ → Option Replayed
replay_closing r i n fresh None = option_map (leaving r i) (option_and_then (λ t. after t (Label.Close i)) (steps (Label.Free i) i n (locations fresh) r.state))
replay_closing r i n fresh (Some answer) = None

-- steps under `unprotected`; the last may be the one that closes
abbrev pub replay_free : Replayed → ℕ → ℕ → List ℕ → Option ℤ → Option Replayed
replay_free r i zero fresh answer = None
replay_free r i (suc n) fresh answer =
    or_else (option_map (staying r) (steps (Label.Free i) i (suc n) (record { fresh = fresh; answer = answer }) r.state)) (replay_closing r i n fresh answer)

-- the state to which a fragment, or steps under `unprotected` without a call, lead from here
abbrev pub attempt_on : Side → ℕ → ℕ → List ℕ → State → Option State
attempt_on Side.Protected i n fresh s = fragment i n fresh s
attempt_on Side.Unprotected i n fresh s = steps (Label.Free i) i n (locations fresh) s

abbrev pub attempt : ℕ → ℕ → List ℕ → State → Option State
attempt i n fresh s = attempt_on (side_at i s) i n fresh s

-- Certificates: from a state, the fragment of a member makes these steps and comes to a condition
-- that is false.
abbrev pub fails_after : State → ℕ → ℕ → List ℕ → Bool
fails_after s i n fresh = has_such (is_failing i) (fragment i n fresh s)

-- a note changes nothing
abbrev pub note_where : Bool → Replayed → Option Replayed
note_where holds r = if holds then Some r else None

abbrev pub replay_kind : EntryKind → Replayed → ℕ → ℕ → List ℕ → Option ℤ → Option Replayed
replay_kind EntryKind.Ran r i n fresh None = if is_inside r i then None else replay_ran r i n fresh
replay_kind EntryKind.Free r i n fresh answer = if is_inside r i then replay_free r i n fresh answer else None
replay_kind EntryKind.Stuck r i n fresh None = note_where (fails_after r.state i n fresh) r
replay_kind EntryKind.Cut r i n fresh None = note_where (is_some (attempt i n fresh r.state)) r
replay_kind EntryKind.Tall r i n fresh None = note_where (has_such (is_tall (side_at i r.state) i) (attempt i n fresh r.state)) r
replay_kind _ r i n fresh (Some answer) = None

-- the state after an entry, if the entry can be made there
unfoldable pub replay_entry : Replayed → Entry → Option Replayed
replay_entry r entry = replay_kind entry.kind r entry.number entry.steps entry.fresh entry.answer

-- Journals

-- the state after entries from here, if they can be made
abbrev pub replay_from : Replayed → List Entry → Option Replayed
replay_from r [] = Some r
replay_from r (entry ∷ entries) = option_and_then (λ t. replay_from t entries) (replay_entry r entry)

-- the state after all entries, if the journal is one of a run of the program
abbrev pub replay : Tree → List Entry → Option Replayed
replay program entries = replay_from (begun_at program) entries
