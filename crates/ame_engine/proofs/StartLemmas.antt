-- An engine that has just started.
use Rattle.std.proofs.Common.{◌≡◌, ℕ, zero, suc, List, [], ◌∷◌, map, replicate, None, refl, sym, ap, ◌∙◌, subst}
use Rattle.std.specs.Prelude.{ℤ, false}
use Rattle.std.proofs.lemmas.List.Elements.{All-nil, All-cons, All-replicate}
use Rattle.ame_term.specs.Tree.{Val, Tree}
use Rattle.ame_store.specs.declared.cell.Cell.{Cell}
use Rattle.ame_journal.specs.declared.entry.Entry.{Entry}
use Rattle.ame_pool.specs.Roster.{Roster, nobody}
use Rattle.ame_pool.specs.Calls.{newcomer, joined, with_room}
use Rattle.ame_rows.specs.MemoryView.{Log, MemoryView, no_log}
use Rattle.ame_machine.specs.MachineView.{MachineView, starting_at}
use Rattle.ame_machine.specs.Sound.{IsAccepted}
use Rattle.ame_protocol.specs.declared.types.Limits.{Limits}
use Rattle.ame_protocol.specs.declared.types.Tried.{Tried}
use Rattle.ame_protocol.specs.declared.types.Task.{Task}
use Rattle.ame_protocol.specs.Engine.Parts.{Parts}
use Rattle.ame_protocol.specs.Engine.Shown.{shown_notes}
use Rattle.ame_protocol.specs.Engine.Events.{started}
use Rattle.ame_engine.specs.Core.{Core}
use Rattle.ame_journal.specs.declared.certificate.Certificate.{Certificate}
use Rattle.ame_protocol.specs.declared.counters.Counters.{Counters}
use Rattle.ame_protocol.specs.Event.Counting.{nothing_counted}
use Rattle.ame_engine.specs.Seen.{parts_of}
use Rattle.ame_engine.specs.Whole.{AreLimits, IsGoodLog, IsGoodUndo, IsAtRest, IsSound}
use Rattle.ame_machine.specs.Meaning.{Meaning}
use Rattle.ame_machine.specs.RefSorts.{IsRefForm}
use Rattle.ame_protocol.specs.Event.Sound.{Sound}
use Rattle.ame_protocol.specs.Event.EngineState.{started_state}
use Rattle.ame_protocol.proofs.Event.SoundLemmas.{sound-start}
use Rattle.ame_engine.specs.Makes.{state_of}

pub rows-shown : {V : Type 0} (view : V → Val) (n : ℕ) → map (shown_notes view) (replicate n no_log) ≡ replicate n no_log
rows-shown view zero = refl
rows-shown view (suc n) = ap (λ (rows : List (Log Val)). no_log ∷ rows) (rows-shown view n)

module _ {C V M : Type 0} (meaning : Meaning C V M) (code : C) (limits : Limits) (machine : M) where
  abbrev pub started_with : Core C V M
  started_with = record {
    code = code;
    limits = limits;
    base = [];
    entries = [];
    memory = record { cells = []; rows = replicate limits.seats no_log };
    tasks = replicate limits.seats Task.Idle;
    pool = joined (newcomer 0 machine false) (with_room 1 nobody);
    output = [];
    text = [];
    next = 1;
    turns = 0;
    counters = nothing_counted;
    tried = [];
    stop = None;
    certificates = [];
  }

  parts-with : Tree → List (Log Val) → Parts
  parts-with term rows = record (started (meaning.program code) (meaning.signature code) limits 0) {
    memory = record { cells = []; rows = rows };
    pool = joined (newcomer 0 term false) (with_room 1 nobody);
  }

  module _ (rests : meaning.stage code machine ≡ starting_at (meaning.program code)) where
    pub started-parts : parts_of meaning started_with ≡ started (meaning.program code) (meaning.signature code) limits 0
    unfolding parts-with
    started-parts =
        ap (λ term. parts-with term (map (shown_notes (meaning.value_of code)) (replicate limits.seats no_log))) (ap (λ (s : MachineView). s.term) rests)
        ∙ ap (parts-with (meaning.program code)) (rows-shown (meaning.value_of code) limits.seats)

    module _ (in_range : AreLimits limits) (good : meaning.is_machine code machine) (accepted : IsAccepted (meaning.signature code) (meaning.program code)) where
      started-as : state_of meaning started_with ≡ started_state (meaning.program code) (meaning.signature code) limits
      started-as = λ i. record { parts = started-parts i; counters = nothing_counted; stop = None; certificates = [] }

      started-whole : IsSound meaning started_with
      started-whole = record {
        state = subst Sound (sym started-as)
            (sound-start (meaning.program code) (meaning.signature code) limits accepted in_range.some_slice);
        limits = in_range;
        memory = record {
          cells = All-nil (λ cell. meaning.is_value code cell.value);
          forms = All-nil (λ cell. IsRefForm (meaning.program code) cell.sort cell.ty.0);
          rows = All-replicate (IsGoodLog (meaning.is_value code)) limits.seats no_log
              (record { inputs = All-nil (meaning.is_value code); undos = All-nil (IsGoodUndo (meaning.is_value code)) });
        };
        members = All-cons (IsAtRest meaning.is_machine meaning.stage code) (newcomer 0 machine false) []
            (record { machine = good; rests = rests ∙ sym (ap (λ (s : MachineView). starting_at s.term) rests) }) (All-nil (IsAtRest meaning.is_machine meaning.stage code));
        text = refl;
      }

      module _ (base entries : List Entry) (store : List (Cell V)) (memory : MemoryView V) (tasks : List Task) (empty roomy pool : Roster M) (output : List ℤ) (text : List ℕ) (counters : Counters) (tried : List Tried) (certificates : List Certificate)
          (no_base : base ≡ []) (no_entries : entries ≡ []) (no_cells : store ≡ []) (fresh : memory ≡ record { cells = store; rows = replicate limits.seats no_log })
          (idle : tasks ≡ replicate limits.seats Task.Idle) (is_empty : empty ≡ nobody) (is_roomy : roomy ≡ with_room 1 empty)
          (one : pool ≡ joined (newcomer 0 machine false) roomy)
          (no_output : output ≡ []) (no_text : text ≡ []) (no_counts : counters ≡ nothing_counted) (no_tries : tried ≡ []) (no_certificates : certificates ≡ []) where
        abbrev found_core : Core C V M
        found_core = record {
          code = code;
          limits = limits;
          base = base;
          entries = entries;
          memory = memory;
          tasks = tasks;
          pool = pool;
          output = output;
          text = text;
          next = 1;
          turns = 0;
          counters = counters;
          tried = tried;
          stop = None;
          certificates = certificates;
        }

        memory-with : List (Cell V) → MemoryView V
        memory-with cells = record { cells = cells; rows = replicate limits.seats no_log }

        memory-is : memory ≡ record { cells = []; rows = replicate limits.seats no_log }
        unfolding memory-with
        memory-is = fresh ∙ ap memory-with no_cells

        pool-is : pool ≡ joined (newcomer 0 machine false) (with_room 1 nobody)
        pool-is = one ∙ ap (joined (newcomer 0 machine false)) (is_roomy ∙ ap (with_room 1) is_empty)

        same : found_core ≡ started_with
        same = λ i. record {
          code = code;
          limits = limits;
          base = no_base i;
          entries = no_entries i;
          memory = memory-is i;
          tasks = idle i;
          pool = pool-is i;
          output = no_output i;
          text = no_text i;
          next = 1;
          turns = 0;
          counters = no_counts i;
          tried = no_tries i;
          stop = None;
          certificates = no_certificates i;
        }

        pub whole-started : IsSound meaning found_core
        whole-started = subst (IsSound meaning) (sym same) started-whole

        pub parts-started : parts_of meaning found_core ≡ started (meaning.program code) (meaning.signature code) limits 0
        parts-started = ap (parts_of meaning) same ∙ started-parts

        pub state-started : state_of meaning found_core ≡ started_state (meaning.program code) (meaning.signature code) limits
        unfolding started-as
        state-started = ap (state_of meaning) same ∙ started-as
