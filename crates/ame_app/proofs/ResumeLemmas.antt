-- Statuses of a journal from which no run can go on.
use Rattle.std.proofs.Common.{◌≡◌, ◌≢◌, ℕ, ◌+◌, ◌-◌, ℤ, Bool, true, false, not}
use Rattle.std.proofs.Common.{List, [], ◌∷◌, ◌++◌, length, take, get_or, Some, Result, Ok, Err, IfOk, refl, sym, ap, ◌∙◌, subst, arith}
use Rattle.std.specs.List.{slice_get}
use Rattle.std.proofs.Math.Seq.{get_or-append_seam}
use Rattle.std.proofs.lemmas.List.{length-append}
use Rattle.std.proofs.lemmas.List.Elements.{All-weaker, filter_passes}
use Rattle.std.proofs.lemmas.Option.{get_or_from_slice_get}
use Rattle.ame_term.specs.Tree.{Tree}
use Rattle.ame_journal.specs.declared.entry.Entry.{Entry}
use Rattle.ame_journal.specs.Replayed.{Replayed, begun_at}
use Rattle.ame_journal.specs.Replay.{replay}
use Rattle.ame_journal.specs.Totals.{is_note, without_notes}
use Rattle.ame_journal.proofs.NoteLemmas.{notes-dropped}
use Rattle.ame_protocol.specs.declared.types.Limits.{Limits}
use Rattle.ame_protocol.specs.Event.EngineState.{EngineState}
use Rattle.ame_check.specs.Judge.{LeadsTo, IsTooHighAt, IsTallAt}
use Rattle.ame_code.specs.FlatCode.{FlatCode}
use Rattle.ame_code.specs.Code.{program_of}
use Rattle.ame_value.specs.declared.val.Val.{Val}
use Rattle.ame_eval.specs.declared.fragment.Fragment.{Fragment}
use Rattle.ame_cli.specs.declared.command.Options.{Options}
use Rattle.ame_cli.specs.declared.command.Command.{Command}
use Rattle.ame_engine.specs.Core.{Core}
use Rattle.ame_engine.specs.Resuming.{AreActs, IsFar, HasResumed}
use Rattle.ame_engine.specs.declared.resume_fail.ResumeFail.{ResumeFail}
use Rattle.ame_engine.proofs.FarLemmas.{far-once}
use Rattle.ame_app.specs.declared.parts.Front.{Front}
use Rattle.ame_app.specs.declared.parts.ReportPart.{ReportPart}
use Rattle.ame_app.specs.declared.status.Status.{Status}
use Rattle.ame_app.specs.Headline.{limits_of}
use Rattle.ame_app.specs.Fragments.{fragments}
use Rattle.ame_app.specs.Jobs.{IsEngineOn, IsOpened}
use Rattle.ame_app.specs.Verbs.Check.{entries_before}
use Rattle.ame_app.specs.Verbs.Resume.{IsTallJournal, TellsOfBase, BeginsFromActs}
use Rattle.ame_app.proofs.JudgedLemmas.{invalid-one, invalid-leads, long-one, long-short, one-number}

-- The acts of a journal

-- the acts of a journal are no notes
pub acts-are : (entries : List Entry) → AreActs (without_notes entries)
acts-are entries =
    All-weaker (λ (e : Entry). not (is_note e.kind) ≡ true) (λ (e : Entry). is_note e.kind ≡ false) (λ e. by (is_note e.kind)) (without_notes entries)
    (filter_passes (λ (e : Entry). not (is_note e.kind)) entries)
  where
    by : (b : Bool) → not b ≡ true → b ≡ false
    by true e = sym e
    by false e = refl

-- the acts of a journal lead to the state to which the journal leads
pub acts-lead : (program : Tree) (entries : List Entry) (output : List ℤ) → LeadsTo program entries output
    → (led : Replayed) × (replay program (without_notes entries) ≡ Some led)
acts-lead program entries output leads = (leads.led, notes-dropped (begun_at program) entries leads.led leads.replayed)

-- the last entry of a list that ends with one
end-is : (entries : List Entry) (entry last : Entry) → slice_get (entries ++ entry ∷ []) (length (entries ++ entry ∷ []) - 1) ≡ Some last → entry ≡ last
end-is entries entry last is =
    let count : length (entries ++ entry ∷ []) ≡ length entries + 1 = length-append entries (entry ∷ []) in
    let place : length (entries ++ entry ∷ []) - 1 ≡ length entries = omega (arith, count) in
    sym (get_or-append_seam entries entry [] last) ∙ ap (λ (k : ℕ). get_or (entries ++ entry ∷ []) k last) (sym place)
    ∙ get_or_from_slice_get (entries ++ entry ∷ []) (length (entries ++ entry ∷ []) - 1) last last is

-- if the entry that passes a form nested too deeply is no note, that is the status
pub tells-tall : (program : Tree) (entries : List Entry) (place : ℕ) (last : Entry) → IsTallAt program entries place
    → slice_get (take place entries) (length (take place entries) - 1) ≡ Some last → is_note last.kind ≡ false
    → (ahead : List ℕ) (own : ReportPart) (told : Status) → ahead ≡ [] → own ≡ ReportPart.Nothing
    → told ≡ Status.TallJournal (length (without_notes (take place entries)))
    → TellsOfBase program entries ahead own told
tells-tall program entries place last tall is note ahead own told ahead_is own_is told_is =
    let passes = tall.there.passes in
    let same = end-is (take (place - 1) entries) passes.entry last (subst (λ (es : List Entry). slice_get es (length es - 1) ≡ Some last) passes.is_entry is) in
    subst (TellsOfBase program entries ahead own) (sym told_is) (record {
      place = place;
      tall = tall;
      act = ap (λ (e : Entry). is_note e.kind) same ∙ note;
      count = refl;
      ahead_is = ahead_is;
      own_is = own_is;
    })

-- an engine goes on from a base none of whose entries is far
pub near-where : {X : Type 0} (r : Result X ResumeFail) (base : List Entry) → ((n : ℕ) → IsFar base n → r ≡ Err (ResumeFail.Far n))
    → IfOk r (λ x. (n : ℕ) → IsFar base n → ⊥)
near-where (Ok x) base far = λ n is. let clash : Ok x ≡ Err (ResumeFail.Far n) = far n is in cc
near-where (Err e) base far = tt

-- an engine that goes on has its own limits and its own base
pub own-resumed : (options : Options) (base : List Entry) (code : FlatCode) (engine : Core FlatCode Val Fragment) → IsEngineOn options base code engine
    → HasResumed fragments engine.limits engine.base engine
own-resumed options base code engine on =
    let same_limits : engine.limits ≡ limits_of options = ap (λ (s : EngineState). s.parts.limits) on.resumed.state in
    let same_base : engine.base ≡ base = ap (λ (s : EngineState). s.parts.base) on.resumed.state in
    subst (λ (l : Limits). HasResumed fragments l engine.base engine) (sym same_limits)
    (subst (λ (es : List Entry). HasResumed fragments (limits_of options) es engine) (sym same_base) on.resumed)

-- an engine goes on from the acts of a journal
pub goes-on : (options : Options) (front : Front) (code : FlatCode) (limits : Limits) (base : List Entry) (output : List ℤ)
    → (engine : Core FlatCode Val Fragment) → limits ≡ limits_of options → base ≡ without_notes (entries_before front)
    → LeadsTo (program_of code) (entries_before front) output → ((n : ℕ) → IsFar base n → ⊥)
    → engine.code ≡ code → HasResumed fragments limits base engine → IsOpened (Command.Resume options) front code engine
goes-on options front code limits base output engine limits_is base_is leads near code_is resumed =
    let same_limits : engine.limits ≡ limits = ap (λ (s : EngineState). s.parts.limits) resumed.state in
    let same_base : engine.base ≡ base = ap (λ (s : EngineState). s.parts.base) resumed.state in
    record {
      options = options;
      command_is = refl;
      begun = record {
        output = output;
        leads = leads;
        acts = same_base ∙ base_is;
        near = λ n far. near n (subst (λ (es : List Entry). IsFar es n) same_base far);
      };
      code_is = code_is;
      limits_are = same_limits ∙ limits_is;
      resumed = subst (λ (l : Limits). HasResumed fragments l engine.base engine) (sym same_limits)
          (subst (λ (es : List Entry). HasResumed fragments limits es engine) (sym same_base) resumed);
    }

-- Statuses

module _ (program : Tree) (entries : List Entry) where
  -- the first entry that passes a form nested too deeply is one
  high-one : (m n : ℕ) → IsTooHighAt program entries m → IsTooHighAt program entries n → m ≡ n
  high-one m n one two = one-number m n (λ below. two.first m below one.passes) (λ above. one.first n above two.passes)

  tall-one : (ahead more : List ℕ) (own also : ReportPart) (m n : ℕ) → IsTallJournal program entries ahead own m
      → IsTallJournal program entries more also n → m ≡ n
  tall-one ahead more own also m n one two =
      one.count ∙ ap (λ (k : ℕ). length (without_notes (take k entries))) (high-one one.place two.place one.tall.there two.tall.there) ∙ sym two.count

  -- a journal has one status
  pub base-one : (ahead more : List ℕ) (own also : ReportPart) (told other : Status) → TellsOfBase program entries ahead own told
      → TellsOfBase program entries more also other → told ≡ other
  base-one ahead more own also (Status.Invalid n) (Status.Invalid m) one two =
      ap Status.Invalid (invalid-one program entries n m one.why two.why one.invalid two.invalid)
  base-one ahead more own also (Status.Invalid n) (Status.LongJournal m) one two = absurd (long-short entries m two.long one.invalid.short)
  base-one ahead more own also (Status.Invalid n) (Status.FarJournal m) one two =
      absurd (invalid-leads program entries n one.why two.output one.invalid two.leads)
  base-one ahead more own also (Status.Invalid n) (Status.TallJournal m) one two = absurd (one.invalid.there.low two.place two.tall.there.passes)
  base-one ahead more own also (Status.Invalid n) other one two = absurd two
  base-one ahead more own also (Status.LongJournal n) (Status.Invalid m) one two = absurd (long-short entries n one.long two.invalid.short)
  base-one ahead more own also (Status.LongJournal n) (Status.LongJournal m) one two = ap Status.LongJournal (long-one entries n m one.long two.long)
  base-one ahead more own also (Status.LongJournal n) (Status.FarJournal m) one two = absurd (long-short entries n one.long two.leads.short)
  base-one ahead more own also (Status.LongJournal n) (Status.TallJournal m) one two = absurd (long-short entries n one.long two.tall.short)
  base-one ahead more own also (Status.LongJournal n) other one two = absurd two
  base-one ahead more own also (Status.FarJournal n) (Status.Invalid m) one two =
      absurd (invalid-leads program entries m two.why one.output two.invalid one.leads)
  base-one ahead more own also (Status.FarJournal n) (Status.LongJournal m) one two = absurd (long-short entries m two.long one.leads.short)
  base-one ahead more own also (Status.FarJournal n) (Status.FarJournal m) one two = ap Status.FarJournal (far-once (without_notes entries) n m one.far two.far)
  base-one ahead more own also (Status.FarJournal n) (Status.TallJournal m) one two = absurd (one.leads.low two.place two.tall.there.passes)
  base-one ahead more own also (Status.FarJournal n) other one two = absurd two
  base-one ahead more own also (Status.TallJournal n) (Status.Invalid m) one two = absurd (two.invalid.there.low one.place one.tall.there.passes)
  base-one ahead more own also (Status.TallJournal n) (Status.LongJournal m) one two = absurd (long-short entries m two.long one.tall.short)
  base-one ahead more own also (Status.TallJournal n) (Status.FarJournal m) one two = absurd (two.leads.low one.place one.tall.there.passes)
  base-one ahead more own also (Status.TallJournal n) (Status.TallJournal m) one two = ap Status.TallJournal (tall-one ahead more own also n m one two)
  base-one ahead more own also (Status.TallJournal n) other one two = absurd two
  base-one ahead more own also told other one two = absurd one

  -- the status of a journal is no fault of the sink
  pub base-other : (ahead : List ℕ) (own : ReportPart) (told : Status) → TellsOfBase program entries ahead own told → told ≢ Status.WriteFault
  base-other ahead own Status.WriteFault tells = absurd tells
  base-other ahead own told tells = λ e. absurd (cc)

  -- a journal from which a run goes on has no status without a run
  pub base-unsettled : (base : List Entry) → BeginsFromActs program entries base → (ahead : List ℕ) (own : ReportPart) (told : Status)
      → TellsOfBase program entries ahead own told → ⊥
  base-unsettled base begins ahead own (Status.Invalid n) tells = invalid-leads program entries n tells.why begins.output tells.invalid begins.leads
  base-unsettled base begins ahead own (Status.LongJournal n) tells = long-short entries n tells.long begins.leads.short
  base-unsettled base begins ahead own (Status.FarJournal n) tells = begins.near n (subst (λ (es : List Entry). IsFar es n) (sym begins.acts) tells.far)
  base-unsettled base begins ahead own (Status.TallJournal n) tells = begins.leads.low tells.place tells.tall.there.passes
  base-unsettled base begins ahead own told tells = tells
