-- The calls of devices in a run, with their answers.
use Rattle.std.specs.Prelude.{ℕ, suc, ◌==◌, ℤ, List, [], ◌∷◌, ◌++◌, Option, Some, None, option_and_then, if◌then◌else◌}
use Rattle.ame_term.specs.Tree.{Tree}
use Rattle.ame_term.specs.Act.{Act, device_answer}
use Rattle.ame_term.specs.State.{State, after}
use Rattle.ame_term.specs.declared.semantics.Label.{Label}
use Rattle.ame_journal.specs.declared.entry.Entry.{Entry}
use Rattle.ame_journal.specs.Replayed.{Replayed, begun_at}
use Rattle.ame_journal.specs.Replay.{locations, member_act, steps, replay_entry}

-- the argument and the answer, if an act calls device k and is answered
abbrev pub call_at : ℕ → Option ℤ → Option Act → List (ℤ × ℤ)
call_at k None act = []
call_at k (Some answer) (Some (Act.Calls device argument)) = if device == k then (argument, answer) ∷ [] else []
call_at k (Some answer) _ = []

-- the call of device k that a label makes in a state
abbrev pub label_call : ℕ → State → Label → List (ℤ × ℤ)
label_call k s (Label.Free i kind) = call_at k (device_answer kind) (member_act i s)
label_call k s _ = []

-- the fact about the next one, if there is one
abbrev pub of_next : {X Y : Type 0} → (X → List Y) → Option X → List Y
of_next go None = []
of_next go (Some x) = go x

-- the calls of device k along labels, in order
abbrev pub calls_along : ℕ → State → List Label → List (ℤ × ℤ)
calls_along k s [] = []
calls_along k s (label ∷ labels) = label_call k s label ++ of_next (λ t. calls_along k t labels) (after s label)

-- the call of device k with which steps under `unprotected` end
abbrev pub last_call : ℕ → ℕ → ℕ → List ℕ → Option ℤ → State → List (ℤ × ℤ)
last_call k i (suc n) fresh (Some answer) s = call_at k (Some answer) (option_and_then (member_act i) (steps (Label.Free i) i n (locations fresh) s))
last_call k i n fresh answer s = []

-- the calls of device k that entries make from here, in order
abbrev pub device_calls_from : ℕ → Replayed → List Entry → List (ℤ × ℤ)
device_calls_from k r [] = []
device_calls_from k r (entry ∷ entries) =
    last_call k entry.number entry.steps entry.fresh entry.answer r.state ++ of_next (λ t. device_calls_from k t entries) (replay_entry r entry)

-- the calls of device k that a journal makes
abbrev pub device_calls : ℕ → Tree → List Entry → List (ℤ × ℤ)
device_calls k program entries = device_calls_from k (begun_at program) entries
