-- The judge's answers to the journal of a run.
use Rattle.std.proofs.Common.{◌≡◌, ℕ, ◌≤◌, ◌⊎◌, inl, inr, ℤ, false, List, [], ◌++◌, append-nil, Option, Some, None, sym, ap, subst}
use Rattle.std.specs.Prelude.{All, IfSome, option_to_list, ⊤}
use Rattle.std.proofs.lemmas.List.Elements.{All-nil}
use Rattle.ame_term.specs.Tree.{Tree}
use Rattle.ame_term.specs.declared.semantics.Label.{Label}
use Rattle.ame_laws.specs.Typed.Listed.{signature_of}
use Rattle.ame_journal.specs.declared.entry.Entry.{Entry}
use Rattle.ame_journal.specs.Totals.{is_note}
use Rattle.ame_check.specs.Judge.{Judges}
use Rattle.ame_check.specs.declared.judging.Judged.{Judged}
use Rattle.ame_check.specs.declared.judging.Judged.TheVariants as judged
use Rattle.ame_code.specs.FlatCode.{FlatCode}
use Rattle.ame_code.specs.Code.{program_of}
use Rattle.ame_value.specs.declared.val.Val.{Val}
use Rattle.ame_eval.specs.Values.{value_meant, code_accepted}
use Rattle.ame_cli.specs.declared.command.Options.{Options}
use Rattle.ame_cli.specs.declared.command.Command.{Command}
use Rattle.ame_cli.specs.Ranges.{IsInRange}
use Rattle.ame_cli.proofs.SpellingLemmas.{spelled_in_range}
use Rattle.ame_protocol.specs.declared.types.Limits.{Limits}
use Rattle.ame_engine.specs.Ending.{End}
use Rattle.ame_shell.specs.Ends.{Ends}
use Rattle.ame_shell.specs.Ran.{IsRanBy}
use Rattle.ame_weak.specs.Weak.{Weak}
use Rattle.ame_weak.specs.Straight.{outset}
use Rattle.ame_weak.specs.Tries.{straight_with}
use Rattle.ame_weak.specs.declared.tries.Try.{Try}
use Rattle.ame_app.specs.declared.run_result.RunResult.{RunResult}
use Rattle.ame_app.specs.declared.parts.Front.{Front}
use Rattle.ame_app.specs.Answered.{IsPromised}
use Rattle.ame_app.specs.Calls.{Call}
use Rattle.ame_app.specs.Headline.{limits_of, IsRanOf, Headline, journal_of}
use Rattle.ame_app.specs.RunResult.{end_in}
use Rattle.ame_app.specs.Reported.{RunView, Reported}
use Rattle.ame_app.specs.Verbs.{options_of, BeginsFrom, Promises}
use Rattle.ame_app.specs.Verbs.Check.{entries_before}
use Rattle.ame_app.specs.Verbs.Weak.{IsNoteAtEnd, IsWeakJournal, IsWeakened}
use Rattle.ame_app.proofs.CodeLemmas.{some-weaker}
use Rattle.ame_app.proofs.ResumeLemmas.{acts-are}
use Rattle.ame_certified.specs.Low.{IsLowJournal}
use Rattle.ame_certified.specs.RoundTrip.{IsNeverInvalid, IsRoundTrip}
use Rattle.ame_certified.specs.WeakTries.{IsTallNote}
use Rattle.ame_certified.proofs.JudgedLemmas.{never-invalid, none-low}
use Rattle.ame_certified.proofs.EndedLemmas.{acts-low, ended-valid}
use Rattle.ame_certified.proofs.WeakJournals.{tries-valid, noted-valid}

-- Rows of the tables for a command whose run an engine makes

-- an engine makes the run of the command: `check` makes none, and `weak` runs by other rules
abbrev IsByEngine : Command → Type 0
IsByEngine (Command.Run options) = ⊤
IsByEngine (Command.Bench seed size options) = ⊤
IsByEngine (Command.Sim seed options) = ⊤
IsByEngine (Command.Replay options) = ⊤
IsByEngine (Command.Resume options) = ⊤
IsByEngine _ = ⊥

engine-ran : (command : Command) (code : FlatCode) (limits : Limits) (end : End Val) → IsByEngine command → IsRanOf command code limits end
    → IsRanBy (program_of code) (signature_of code.accepted) limits end.base (value_meant code) end
engine-ran (Command.Run options) code limits end made ran = ran
engine-ran (Command.Bench seed size options) code limits end made ran = ran
engine-ran (Command.Sim seed options) code limits end made ran = ran
engine-ran (Command.Replay options) code limits end made ran = ran
engine-ran (Command.Resume options) code limits end made ran = ran
engine-ran _ code limits end made ran = absurd made

-- its slices have a step at least
engine-slice : (command : Command) (options : Options) → IsByEngine command → IsInRange command → options_of command ≡ Some options → 1 ≤ options.slice
engine-slice (Command.Run given) options made ranges is = let same : given ≡ options = cc in subst (λ (o : Options). 1 ≤ o.slice) same ranges.slice.0
engine-slice (Command.Bench seed size given) options made ranges is =
    let same : given ≡ options = cc in subst (λ (o : Options). 1 ≤ o.slice) same ranges.2.slice.0
engine-slice (Command.Sim seed given) options made ranges is = let same : given ≡ options = cc in subst (λ (o : Options). 1 ≤ o.slice) same ranges.1.slice.0
engine-slice (Command.Replay given) options made ranges is = let same : given ≡ options = cc in subst (λ (o : Options). 1 ≤ o.slice) same ranges.slice.0
engine-slice (Command.Resume given) options made ranges is = let same : given ≡ options = cc in subst (λ (o : Options). 1 ≤ o.slice) same ranges.slice.0
engine-slice _ options made ranges is = absurd made

-- the entries from which it goes on have no notes, and pass no tall form
record IsGoodBase (program : Tree) (base : List Entry) : Type 0 where
  plain : All (λ (e : Entry). is_note e.kind ≡ false) base
  low : IsLowJournal program base

none-good : (program : Tree) (base : List Entry) → base ≡ [] → IsGoodBase program base
none-good program base none =
    subst (IsGoodBase program) (sym none) (record { plain = All-nil (λ (e : Entry). is_note e.kind ≡ false); low = none-low program })

engine-base : (command : Command) (front : Front) (program : Tree) (base : List Entry) → IsByEngine command → BeginsFrom command front program base
    → IsGoodBase program base
engine-base (Command.Run options) front program base made begun = none-good program base begun
engine-base (Command.Bench seed size options) front program base made begun = none-good program base begun
engine-base (Command.Sim seed options) front program base made begun = none-good program base begun
engine-base (Command.Replay options) front program base made begun = none-good program base begun
engine-base (Command.Resume options) front program base made begun =
    let entries = entries_before front in
    subst (IsGoodBase program) (sym begun.acts) (record { plain = acts-are entries; low = acts-low program entries begun.output begun.leads })
engine-base _ front program base made begun = absurd made

-- The journal of a weak run

-- the note at its end is one of a value nested too deeply
tall-note : (w : Weak) (entry : Entry) → IsNoteAtEnd (Some entry) w → IsTallNote w entry
tall-note w entry note = record {
  kind = ap (λ (e : Entry). e.kind) note.0.note;
  answer = ap (λ (e : Entry). e.answer) note.0.note;
  comes = note.0.comes;
  within = note.1;
}

module _ (code : FlatCode) (labels : List Label) (tries : List Try) (entries : List Entry) (judged : Judged)
    (j : IsWeakJournal (program_of code) labels tries entries) where
  by-last : (last : Option Entry) → IsNoteAtEnd last j.weak → Judges (program_of code) (straight_with 0 tries outset labels ++ option_to_list last) judged
      → IsRoundTrip j.weak.state.output judged
  by-last None note is =
      tries-valid (signature_of code.accepted) (program_of code) labels j.weak (code_accepted code) j.leads j.within tries j.tried j.tried_within judged j.idle
      (subst (λ (es : List Entry). Judges (program_of code) es judged) (append-nil (straight_with 0 tries outset labels)) is)
  by-last (Some entry) note is =
      noted-valid (signature_of code.accepted) (program_of code) labels j.weak (code_accepted code) j.leads j.within tries j.tried j.tried_within j.idle entry
      (tall-note j.weak entry note) judged is

  weak-valid : Judges (program_of code) entries judged → IsRoundTrip j.weak.state.output judged
  weak-valid is = by-last j.last j.grows (subst (λ (es : List Entry). Judges (program_of code) es judged) j.entries_are is)

-- The journal of a run

-- a journal that is never found invalid, and that is valid with some output or too long
both-ways : (output other : List ℤ) (judged : Judged) → IsNeverInvalid output judged → IsRoundTrip other judged → IsRoundTrip output judged
both-ways output other (judged.Valid lines) never round = never
both-ways output other (judged.Invalid n why) never round = never
both-ways output other (judged.Long n) never round = tt
both-ways output other (judged.Tall n) never round = round

-- an engine makes the run, or it is a weak one
made-so : (command : Command) (front : Front) (code : FlatCode) (limits : Limits) (before : Ends) (left : RunResult)
    → Promises command front code limits before left
    → IsByEngine command ⊎ ((seed : ℕ) × (turns : ℕ) × IsWeakened (program_of code) seed turns left)
made-so (Command.Run options) front code limits before left own = inl tt
made-so (Command.Bench seed size options) front code limits before left own = inl tt
made-so (Command.Sim seed options) front code limits before left own = inl tt
made-so (Command.Replay options) front code limits before left own = inl tt
made-so Command.Check front code limits before left own = absurd own
made-so (Command.Resume options) front code limits before left own = inl tt
made-so (Command.Weak seed turns) front code limits before left own = inr (seed, turns, own)

abbrev pub IsRoundTripOf : RunView → Type 0
IsRoundTripOf run = (judged : Judged) → Judges (program_of run.code) (journal_of (end_in run.left)) judged → IsRoundTrip (end_in run.left).output judged

module _ (call : Call) (report : Reported) (run : RunView) (before after : Ends) (h : Headline call report run (end_in run.left) before after) (judged : Judged)
    (is : Judges (program_of h.compiled) (journal_of (end_in run.left)) judged) where
  never : IsNeverInvalid (end_in run.left).output judged
  never =
      subst (λ (output : List ℤ). IsNeverInvalid output judged) (sym h.printed)
      (never-invalid (program_of h.compiled) (journal_of (end_in run.left)) h.final judged h.replays is)

  by-engine : IsByEngine h.command → IsRoundTrip (end_in run.left).output judged
  by-engine made =
      let end = end_in run.left in
      let code = h.compiled in
      let program = program_of code in
      let base = engine-base h.command h.front program end.base made h.begun in
      let slice = engine-slice h.command h.options made (spelled_in_range call.words h.command h.asked.spelled) h.with_options in
      ended-valid program (signature_of code.accepted) (limits_of h.options) end.base (code_accepted code) slice base.plain (value_meant code) end
      (engine-ran h.command code (limits_of h.options) end made h.ran) base.low judged is

  weakly : (seed turns : ℕ) → IsWeakened (program_of h.compiled) seed turns run.left → IsRoundTrip (end_in run.left).output judged
  weakly seed turns w =
      let there = subst (λ (left : RunResult). Judges (program_of h.compiled) (journal_of (end_in left)) judged) w.left_is is in
      both-ways (end_in run.left).output w.journal.weak.state.output judged never
      (weak-valid h.compiled w.weak.labels.items w.weak.tries.items w.weak.journal.entries judged w.journal there)

  in-each : IsByEngine h.command ⊎ ((seed : ℕ) × (turns : ℕ) × IsWeakened (program_of h.compiled) seed turns run.left)
      → IsRoundTrip (end_in run.left).output judged
  in-each (inl made) = by-engine made
  in-each (inr w) = weakly w.0 w.1 w.2

  headline-judged : IsRoundTrip (end_in run.left).output judged
  headline-judged = in-each (made-so h.command h.front h.compiled (limits_of h.options) before run.left h.own)

pub round-trips : (call : Call) (report : Reported) (before after : Ends) → IsPromised call report before after → IfSome report.run IsRoundTripOf
round-trips call report before after promised = some-weaker report.run _ _ (λ run h. by run h) promised.ran
  where
    by : (run : RunView) → Headline call report run (end_in run.left) before after → IsRoundTripOf run
    by run h judged judges =
        headline-judged call report run before after h judged
        (subst (λ (code : FlatCode). Judges (program_of code) (journal_of (end_in run.left)) judged) h.code_is judges)
