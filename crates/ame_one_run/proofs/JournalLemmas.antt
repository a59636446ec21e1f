-- A journal that replays is a run by the rules.
use Rattle.std.proofs.Common.{◌≡◌, ℕ, List, [], ◌∷◌, ◌++◌, map, Some, None, sym, ap, ◌∙◌}
use Rattle.std.proofs.lemmas.Option.{option_and_then_some}
use Rattle.ame_term.specs.Tree.{Tree}
use Rattle.ame_term.specs.State.{start}
use Rattle.ame_term.specs.declared.semantics.Label.{Label}
use Rattle.ame_laws.proofs.Followed.{runs}
use Rattle.ame_journal.specs.declared.entry.Entry.{Entry}
use Rattle.ame_journal.specs.declared.entry.EntryKind.{EntryKind}
use Rattle.ame_journal.specs.Replayed.{Replayed, begun_at}
use Rattle.ame_journal.specs.Replay.{replay}
use Rattle.ame_journal.specs.Calls.{device_calls}
use Rattle.ame_journal.proofs.CallLemmas.{calls-unfolded}
use Rattle.ame_journal.proofs.LabelLemmas.{unfold-entry, unfold-all, unfolds_all-run}
use Rattle.ame_journal.proofs.ReachedLemmas.{calm-replayed}
use Rattle.ame_journal.proofs.ReplayLemmas.{replay_from-one}
use Rattle.ame_device.specs.Calls.{answered}
use Rattle.ame_one_run.specs.Calls.{DeviceCall, RunsAsking, heard_by}
use Rattle.ame_one_run.specs.Reached.{GrowsTooHigh}
use Rattle.ame_one_run.proofs.CallLemmas.{runs-ask, asks-along}
use Rattle.ame_one_run.proofs.ReachedLemmas.{noted-grows}

-- labels that lead by the rules to the replayed state, with nothing active there, and make the calls of the journal
pub record IsShown (program : Tree) (entries : List Entry) (final : Replayed) : Type 0 where
  pub labels : List Label
  pub calls : List DeviceCall
  pub runs : RunsAsking (start program) labels calls final.state
  pub rests : final.state.active ≡ None
  pub heard : (k : ℕ) → heard_by k calls ≡ map (λ call. answered call.0 call.1) (device_calls k program entries)

pub replayed-shown : (program : Tree) (entries : List Entry) (final : Replayed) → replay program entries ≡ Some final → IsShown program entries final
replayed-shown program entries final e =
    let all = unfold-all (begun_at program) entries final e in
    let made = unfolds_all-run (begun_at program) entries all.0 final all.1 in
    let asked = runs-ask (start program) all.0 final.state ((runs (start program) all.0 final.state).0 made) in
    record {
      labels = all.0;
      calls = asked.0;
      runs = asked.1;
      rests = (calm-replayed program entries final e).idle;
      heard = λ k. asks-along k (start program) all.0 asked.0 final.state asked.1
          ∙ sym (ap (map (λ call. answered call.0 call.1)) (calls-unfolded k (begun_at program) entries all.0 final all.1));
    }

-- a note at the end, of a value nested too deeply
pub tall-last : (program : Tree) (entries earlier : List Entry) (note : Entry) (final : Replayed) → replay program entries ≡ Some final →
    entries ≡ earlier ++ note ∷ [] → note.kind ≡ EntryKind.Tall → GrowsTooHigh final.state note.number
tall-last program entries earlier note final e is tall =
    option_and_then_some _ _ _ (sym (replay_from-one (begun_at program) earlier note) ∙ ap (replay program) (sym is) ∙ e) (λ r before last.
    let unfolded = unfold-entry r note final last in
    noted-grows r note.number note.kind note.steps note.fresh note.answer unfolded.0 final unfolded.1 tall)
