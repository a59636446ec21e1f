-- Runs by picks of one text that are made again.
use Rattle.std.proofs.Common.{◌≡◌, ℕ, List, map, Some, Ok, refl, sym, ap, ◌∙◌, subst}
use Rattle.std.specs.Prelude.{IfSome}
use Rattle.ame_lex.specs.Bytes.{Text}
use Rattle.ame_parse.specs.Text.{Source, source_of}
use Rattle.ame_term.specs.View.{tree_of, typ_of}
use Rattle.ame_term.specs.Signature.{listed}
use Rattle.ame_term.specs.Typing.{ref_types}
use Rattle.ame_term.specs.declared.accepted.Accepted.{Accepted}
use Rattle.ame_laws.specs.Typed.Listed.{signature_of}
use Rattle.ame_laws.proofs.Typed.Started.{accepted}
use Rattle.ame_code.specs.FlatCode.{FlatCode}
use Rattle.ame_value.specs.declared.val.Val.{Val}
use Rattle.ame_cli.specs.declared.command.Options.{Options}
use Rattle.ame_cli.specs.declared.command.Command.{Command}
use Rattle.ame_cli.specs.Grammar.{SpellsCommand}
use Rattle.ame_protocol.specs.declared.types.Limits.{Limits}
use Rattle.ame_engine.specs.Ending.{End}
use Rattle.ame_shell.specs.Ends.{Ends}
use Rattle.ame_sim.specs.declared.made.Made.{Made}
use Rattle.ame_sim.specs.Drawn.{drawn}
use Rattle.ame_sim.specs.Picks.{picks_of}
use Rattle.ame_sim.specs.Questions.{seats_of}
use Rattle.ame_sim.specs.Listed.{picked_as_listed}
use Rattle.ame_sim.specs.Run.{IsPlayed}
use Rattle.ame_sim.specs.Schedule.{IsScheduled}
use Rattle.ame_sim.proofs.TextLemmas.{scheduled-same}
use Rattle.ame_app.specs.declared.run_result.Extra.{Extra}
use Rattle.ame_app.specs.declared.run_result.RunResult.{RunResult}
use Rattle.ame_app.specs.declared.parts.Front.{Front}
use Rattle.ame_app.specs.Answered.{IsPromised}
use Rattle.ame_app.specs.Calls.{Call}
use Rattle.ame_app.specs.Complete.{IsGivenBytes}
use Rattle.ame_app.specs.Fragments.{fragments}
use Rattle.ame_app.specs.Headline.{limits_of, Headline, ShowsTurns}
use Rattle.ame_app.specs.RunResult.{end_in, extra_in}
use Rattle.ame_app.specs.Reported.{RunView, Reported}
use Rattle.ame_app.specs.Texts.{IsProgramOf}
use Rattle.ame_app.specs.Verbs.{options_of, Promises}
use Rattle.ame_app.specs.Verbs.Sim.{opening_of, IsPicked, mades_in, seats_picked}
use Rattle.ame_app.specs.Verbs.Replay.{TakesScheduled, IsPickedAsListed}
use Rattle.ame_app.proofs.CodeLemmas.{some-weaker}
use Rattle.ame_app.proofs.GivenLemmas.{asked-takes}
use Rattle.ame_repeats.specs.Played.{IsUnfailed, AreOfOneProgram, AreOfTheSameSeats, EndsAlike}
use Rattle.ame_repeats.proofs.PlayLemmas.{run-again}
use Rattle.ame_repeats.proofs.ChosenLemmas.{asks-drawn, chosen-again}
use Rattle.ame_repeats.proofs.ListedLemmas.{listed-again}
use Rattle.ame_one_run.specs.Repeats.{IsByPicks, AskForPicks, AreOfOneText, ArePickedAlike, AreUndisturbed, IsRepeated}

-- One text, with as many devices, is one program with one signature

module _ (text : Text) (devices : ℕ) (one other : Accepted) (p : IsProgramOf text devices one) (q : IsProgramOf text devices other) where
  same-source : source_of other.program ≡ source_of one.program
  same-source =
      let both : Ok (source_of other.program) ≡ Ok (source_of one.program) = sym q.reads ∙ p.reads in
      cc

  pub same-tree : tree_of other.program.term ≡ tree_of one.program.term
  same-tree = ap (λ (s : Source). s.tree) same-source

  same-devices : other.devices ≡ one.devices
  same-devices = q.devices ∙ sym p.devices

  refs-are : (a : Accepted) → map typ_of a.ref_tys.items ≡ ref_types a.devices a.program.places.items (tree_of a.program.term)
  refs-are a = (accepted a.devices a.program.places.items (tree_of a.program.term) (map typ_of a.ref_tys.items) a.typed).1

  same-refs : map typ_of other.ref_tys.items ≡ map typ_of one.ref_tys.items
  same-refs =
      refs-are other ∙ ap (λ (n : ℕ). ref_types n other.program.places.items (tree_of other.program.term)) same-devices
      ∙ ap (λ (s : Source). ref_types one.devices s.places s.tree) same-source ∙ sym (refs-are one)

  pub same-signature : signature_of other ≡ signature_of one
  same-signature = ap (λ (n : ℕ). listed n (map typ_of other.ref_tys.items)) same-devices ∙ ap (listed one.devices) same-refs

-- The picks of a run, as the report has them

mades-are : (left : RunResult) (mades : List Made) → extra_in left ≡ Some (Extra.Picked mades) → mades_in left ≡ mades
mades-are (RunResult.Engine end (Extra.Picked some)) mades is = cc
mades-are (RunResult.Engine end Extra.Nothing) mades is = absurd (cc)
mades-are (RunResult.Engine end (Extra.Resumed count)) mades is = absurd (cc)
mades-are (RunResult.Weak weak) mades is = absurd (cc)

-- what a command by picks promises of its run
record HasPlayed (code : FlatCode) (limits : Limits) (before : Ends) (left : RunResult) : Type 0 where
  mades : List Made
  extra_is : extra_in left ≡ Some (Extra.Picked mades)
  played : IsPlayed fragments (opening_of code limits before) mades (end_in left)

picks-played : (command : Command) (front : Front) (code : FlatCode) (limits : Limits) (before : Ends) (left : RunResult) → IsByPicks command
    → Promises command front code limits before left → HasPlayed code limits before left
picks-played (Command.Sim seed options) front code limits before left picks own =
    record { mades = own.mades; extra_is = own.extra_is; played = own.played }
picks-played (Command.Replay options) front code limits before left picks own =
    record { mades = own.picked.mades; extra_is = own.picked.extra_is; played = own.picked.played }
picks-played _ front code limits before left picks own = absurd picks

picks-limited : (command : Command) (limits : Limits) (end : End Val) → IsByPicks command → ShowsTurns command limits end → end.limits ≡ limits
picks-limited (Command.Sim seed options) limits end picks shown = shown.limited
picks-limited (Command.Replay options) limits end picks shown = shown.limited
picks-limited _ limits end picks shown = absurd picks

-- Two runs

module _ (call other : Call) (report again : Reported) (run next : RunView) (before after earlier later : Ends)
    (h : Headline call report run (end_in run.left) before after) (i : Headline other again next (end_in next.left) earlier later)
    (text : AreOfOneText call other report again) where
  i-program : IsProgramOf h.text call.devices i.compiled.accepted
  i-program =
      subst (λ (t : Text). IsProgramOf t call.devices i.compiled.accepted) (sym i.text_is ∙ text.text ∙ h.text_is)
      (subst (λ (n : ℕ). IsProgramOf i.text n i.compiled.accepted) text.devices i.program)

  one-program : limits_of i.options ≡ limits_of h.options
      → AreOfOneProgram fragments (opening_of h.compiled (limits_of h.options) before) (opening_of i.compiled (limits_of i.options) earlier)
  one-program limits = record {
    program = same-tree h.text call.devices h.compiled.accepted i.compiled.accepted h.program i-program;
    signature = same-signature h.text call.devices h.compiled.accepted i.compiled.accepted h.program i-program;
    limits = limits;
  }

  module _ (x : HasPlayed h.compiled (limits_of h.options) before run.left) (y : HasPlayed i.compiled (limits_of i.options) earlier next.left) where
    -- what was made again is what the reports have
    repeated-by : (y.mades ≡ x.mades) × EndsAlike (end_in run.left) (end_in next.left) → IsRepeated run next
    repeated-by both = record {
      picks = mades-are next.left y.mades y.extra_is ∙ both.0 ∙ sym (mades-are run.left x.mades x.extra_is);
      ends = both.1;
    }

    first-unfailed : AreUndisturbed run next → IsUnfailed fragments (opening_of h.compiled (limits_of h.options) before) x.mades (end_in run.left)
    first-unfailed calm = record { played = x.played; fine = calm.fine }

    second-unfailed : AreUndisturbed run next → IsUnfailed fragments (opening_of i.compiled (limits_of i.options) earlier) y.mades (end_in next.left)
    second-unfailed calm = record { played = y.played; fine = calm.well }

    same-seats : seats_picked next.left ≡ seats_picked run.left → AreOfTheSameSeats x.mades y.mades
    same-seats same =
        sym (ap (λ (mades : List Made). seats_of (picks_of mades)) (mades-are next.left y.mades y.extra_is)) ∙ same
        ∙ ap (λ (mades : List Made). seats_of (picks_of mades)) (mades-are run.left x.mades x.extra_is)

    by-seats : limits_of i.options ≡ limits_of h.options → seats_picked next.left ≡ seats_picked run.left → AreUndisturbed run next → IsRepeated run next
    by-seats limits same calm =
        repeated-by
        (run-again fragments (opening_of h.compiled (limits_of h.options) before) (opening_of i.compiled (limits_of i.options) earlier) x.mades y.mades
        (end_in run.left) (end_in next.left) (first-unfailed calm) (second-unfailed calm) (one-program limits) (same-seats same) calm.answers)

  same-limits : IsByPicks h.command → IsByPicks i.command → (end_in next.left).limits ≡ (end_in run.left).limits → limits_of i.options ≡ limits_of h.options
  same-limits picks also same =
      sym (picks-limited i.command (limits_of i.options) (end_in next.left) also i.shown) ∙ same
      ∙ picks-limited h.command (limits_of h.options) (end_in run.left) picks h.shown

  pub alike-repeat : IsByPicks h.command → IsByPicks i.command → ArePickedAlike run next → AreUndisturbed run next → IsRepeated run next
  alike-repeat picks also alike calm =
      by-seats (picks-played h.command h.front h.compiled (limits_of h.options) before run.left picks h.own)
      (picks-played i.command i.front i.compiled (limits_of i.options) earlier next.left also i.own) (same-limits picks also alike.limits) alike.seats calm

  -- the picks of both are those of one seed
  module _ (seed : ℕ) (first : IsPicked (drawn seed) h.compiled (limits_of h.options) before run.left)
      (second : IsPicked (drawn seed) i.compiled (limits_of i.options) earlier next.left) where
    pub seeded-repeat : limits_of i.options ≡ limits_of h.options → AreUndisturbed run next → IsRepeated run next
    seeded-repeat limits calm =
        repeated-by (record { mades = first.mades; extra_is = first.extra_is; played = first.played })
        (record { mades = second.mades; extra_is = second.extra_is; played = second.played })
        (chosen-again drawn asks-drawn fragments (opening_of h.compiled (limits_of h.options) before) (opening_of i.compiled (limits_of i.options) earlier)
        first.mades second.mades (end_in run.left) (end_in next.left) (record { played = first.played; fine = calm.fine })
        (record { played = second.played; fine = calm.well }) (one-program limits) calm.answers seed
        (record { later = first.later; answers = first.answers }) (record { later = second.later; answers = second.answers }))

  -- the picks of the second one are those of the list of the seats that the first one picked
  pub scheduled-repeat : IsByPicks h.command → IsByPicks i.command
      → IsPicked (picked_as_listed (seats_picked run.left)) i.compiled (limits_of i.options) earlier next.left
      → (end_in next.left).limits ≡ (end_in run.left).limits → AreUndisturbed run next → IsRepeated run next
  scheduled-repeat picks also second limits calm =
      let x = picks-played h.command h.front h.compiled (limits_of h.options) before run.left picks h.own in
      let listed : IsPicked (picked_as_listed (seats_of (picks_of x.mades))) i.compiled (limits_of i.options) earlier next.left =
      subst (λ (mades : List Made). IsPicked (picked_as_listed (seats_of (picks_of mades))) i.compiled (limits_of i.options) earlier next.left)
      (mades-are run.left x.mades x.extra_is) second in
      repeated-by x (record { mades = listed.mades; extra_is = listed.extra_is; played = listed.played })
      (listed-again fragments (opening_of h.compiled (limits_of h.options) before) (opening_of i.compiled (limits_of i.options) earlier)
      x.mades listed.mades (end_in run.left) (end_in next.left) (record { played = x.played; fine = calm.fine })
      (record { played = listed.played; fine = calm.well }) (one-program (same-limits picks also limits)) calm.answers
      (record { later = listed.later; answers = listed.answers }))

-- the options of a command
options-one : (command : Command) (options other : Options) → options_of command ≡ Some options → options_of command ≡ Some other → options ≡ other
options-one command options other is also = let both : Some options ≡ Some other = sym is ∙ also in cc

-- Two calls

abbrev pub OneCommand : Type 0
OneCommand = (words : List (List ℕ)) (command other : Command) → SpellsCommand words command → SpellsCommand words other → command ≡ other

module _ (one : OneCommand) (call other : Call) (report again : Reported) (before after earlier later : Ends) where
  pub seats-repeat : IsPromised call report before after → IsPromised other again earlier later → AskForPicks call.words → AskForPicks other.words
      → AreOfOneText call other report again
      → IfSome report.run (λ run. IfSome again.run (λ next. ArePickedAlike run next → AreUndisturbed run next → IsRepeated run next))
  seats-repeat promised also first second text =
      some-weaker report.run _ _ (λ run h. some-weaker again.run _ _ (λ next i. λ alike calm. by run next h i alike calm) also.ran) promised.ran
    where
      by : (run next : RunView) → Headline call report run (end_in run.left) before after → Headline other again next (end_in next.left) earlier later
          → ArePickedAlike run next → AreUndisturbed run next → IsRepeated run next
      by run next h i alike calm =
          alike-repeat call other report again run next before after earlier later h i text
          (subst IsByPicks (sym (one call.words h.command first.command h.asked.spelled first.spelled)) first.by_picks)
          (subst IsByPicks (sym (one other.words i.command second.command i.asked.spelled second.spelled)) second.by_picks) alike calm

  pub seeds-repeat : (seed : ℕ) (options : Options) → IsPromised call report before after → IsPromised other again earlier later
      → SpellsCommand call.words (Command.Sim seed options) → SpellsCommand other.words (Command.Sim seed options) → AreOfOneText call other report again
      → IfSome report.run (λ run. IfSome again.run (λ next. AreUndisturbed run next → IsRepeated run next))
  seeds-repeat seed options promised also first second text =
      some-weaker report.run _ _ (λ run h. some-weaker again.run _ _ (λ next i. λ calm. by run next h i calm) also.ran) promised.ran
    where
      by : (run next : RunView) → Headline call report run (end_in run.left) before after → Headline other again next (end_in next.left) earlier later
          → AreUndisturbed run next → IsRepeated run next
      by run next h i calm =
          let is : h.command ≡ Command.Sim seed options = one call.words h.command (Command.Sim seed options) h.asked.spelled first in
          let too : i.command ≡ Command.Sim seed options = one other.words i.command (Command.Sim seed options) i.asked.spelled second in
          let here : h.options ≡ options = options-one (Command.Sim seed options) h.options options (sym (ap options_of is) ∙ h.with_options) refl in
          let there : i.options ≡ options = options-one (Command.Sim seed options) i.options options (sym (ap options_of too) ∙ i.with_options) refl in
          seeded-repeat call other report again run next before after earlier later h i text seed
          (subst (λ (c : Command). Promises c h.front h.compiled (limits_of h.options) before run.left) is h.own)
          (subst (λ (c : Command). Promises c i.front i.compiled (limits_of i.options) earlier next.left) too i.own)
          (ap limits_of (there ∙ sym here)) calm

  pub schedules-repeat : (options : Options) (bytes : List ℕ) → IsPromised call report before after → IsPromised other again earlier later
      → AskForPicks call.words → SpellsCommand other.words (Command.Replay options) → other.source.left ≡ Some bytes → other.devices ≡ call.devices
      → IfSome report.run (λ run. IfSome again.run (λ next. IsScheduled bytes (seats_picked run.left) report.text
      → (end_in next.left).limits ≡ (end_in run.left).limits → AreUndisturbed run next → IsRepeated run next))
  schedules-repeat options bytes promised also first second given devices =
      some-weaker report.run _ _ (λ run h. some-weaker again.run _ _ (λ next i. λ scheduled limits calm. by run next h i scheduled limits calm) also.ran) promised.ran
    where
      by : (run next : RunView) → Headline call report run (end_in run.left) before after → Headline other again next (end_in next.left) earlier later
          → IsScheduled bytes (seats_picked run.left) report.text → (end_in next.left).limits ≡ (end_in run.left).limits → AreUndisturbed run next
          → IsRepeated run next
      by run next h i scheduled limits calm =
          let too : i.command ≡ Command.Replay options = one other.words i.command (Command.Replay options) i.asked.spelled second in
          let is : IsGivenBytes other bytes = record { command = Command.Replay options; spelled = second; given = given } in
          let takes : TakesScheduled bytes i.front i.text = asked-takes one other bytes is i.command i.front i.text i.asked in
          let same = scheduled-same bytes takes.picks (seats_picked run.left) i.text report.text takes.scheduled scheduled in
          let own : IsPickedAsListed i.front i.compiled (limits_of i.options) earlier next.left =
          subst (λ (c : Command). Promises c i.front i.compiled (limits_of i.options) earlier next.left) too i.own in
          let fronts : Front.Schedule own.picks ≡ Front.Schedule takes.picks = sym own.front_is ∙ takes.front_is in
          let picks : own.picks ≡ takes.picks = cc in
          scheduled-repeat call other report again run next before after earlier later h i (record { text = i.text_is ∙ same.1; devices = devices })
          (subst IsByPicks (sym (one call.words h.command first.command h.asked.spelled first.spelled)) first.by_picks) (subst IsByPicks (sym too) tt)
          (subst (λ (listed : List ℕ). IsPicked (picked_as_listed listed) i.compiled (limits_of i.options) earlier next.left) (picks ∙ same.0) own.picked)
          limits calm
