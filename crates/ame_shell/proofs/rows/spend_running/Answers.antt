use Rattle.std.proofs.Common.{inl, inr, refl}
use Rattle.ame_rows.specs.MemoryView.{row_at}
use Rattle.ame_machine.specs.MachineView.{place_shown}
use Rattle.ame_protocol.specs.declared.stop.Stop.{Stop}
use Rattle.ame_engine.proofs.MakesLemmas.{cut-made}
use Rattle.ame_shell.specs.declared.work.Work.TheVariants as work
use Rattle.ame_shell.proofs.ValidLemmas.{valid-or-not}
use Rattle.ame_shell.proofs.HandLemmas.{cut-fits, at-work-busy, stopped-undoes, lacked-fits}
use Rattle.ame_shell.specs.Asked.{IsToTakeMemory}
use Rattle.ame_shell.proofs.DoneLemmas.{told-on, lacked, lacked-due}
use Rattle.ame_shell.specs.Outcomes.{IsOutcomeOf, IsMade}
use Rattle.ame_shell.proofs.rows.spend_running.Goals as goal

pub returns-in-Ok-clause-back : goal.returns-in-Ok-clause-back
returns-in-Ok-clause-back g c = λ _.
    let on = c.requires.at.on.stands in
    let s = g.M.Runner.meaning.stage c.args.engine.now.code c.args.machine.now in
    elim (valid-or-not c.args.seat c.args.engine.now.memory.cells (row_at c.args.engine.now.memory.rows c.args.seat).reads) [
      | inl valid ↦ cut-fits g.M.Runner.meaning c.args.engine.now c.spend.new.self c.args.seat Stop.Spent (λ counters. counters) on.attempt s.steps (place_shown s) on.has
          (cut-made g.M.Runner.meaning c.args.engine.now c.spend.new.self s c.args.seat on.attempt
          (told-on _ _ _ c.in-Ok.is (c.spend.ensures.cut _ refl valid on.attempt on.has)))
      | inr bad ↦ stopped-undoes g.M.Runner.meaning c.args.engine.now c.spend.new.self c.args.seat Stop.Spent
          (at-work-busy g.M.Runner.meaning c.args.engine.now c.args.engine.now c.args.seat c.args.machine.now c.requires.at) (c.spend.ensures.invalid bad).1
    ]

pub returns-in-Ok-clause-done : goal.returns-in-Ok-clause-done
returns-in-Ok-clause-done g c = λ told.
    let on = c.requires.at.on.stands in
    let s = g.M.Runner.meaning.stage c.args.engine.now.code c.args.machine.now in
    record {
      event = elim (valid-or-not c.args.seat c.args.engine.now.memory.cells (row_at c.args.engine.now.memory.rows c.args.seat).reads) [
        | inl valid ↦
            (let at = told-on _ _ _ c.in-Ok.is (c.spend.ensures.cut _ refl valid on.attempt on.has) in
            IsMade.makes _ _ (IsOutcomeOf.cut s on.attempt at.place c.requires.spent refl valid at.shows) at.makes)
        | inr bad ↦ IsMade.makes _ _
            (IsOutcomeOf.spent c.requires.spent
            (at-work-busy g.M.Runner.meaning c.args.engine.now c.args.engine.now c.args.seat c.args.machine.now c.requires.at)
            (λ s met valid. bad valid) (c.spend.ensures.invalid bad).1) (c.spend.ensures.halts (λ valid. absurd (bad valid)))
      ];
      quiet = λ _. refl;
    }

pub returns-in-Err-clause-at : goal.returns-in-Err-clause-at
returns-in-Err-clause-at g c = λ _.
    lacked-fits g.M.Runner.meaning c.args.engine.now c.give_up.new.engine c.args.seat c.spend.new.self c.in-Err.ensures.err c.give_up.ensures.engine
    (work.Running c.args.machine.now) c.requires.at

pub returns-in-Err-clause-done : goal.returns-in-Err-clause-done
returns-in-Err-clause-done g c = λ told.
    lacked g.M.Runner.meaning c.args.engine.now c.args.seat _ c.spend.new.self c.give_up.new.engine told _ c.in-Err.ensures.err c.requires.spent.going
    c.give_up.ensures.halts c.give_up.ensures.engine c.give_up.ensures.outcome

pub returns-in-Err-clause-due : goal.returns-in-Err-clause-due
returns-in-Err-clause-due g c =
    lacked-due c.args.engine.now c.args.seat _ _ c.give_up.ensures.outcome
    (IsToTakeMemory.cuts (g.M.Runner.meaning.stage c.args.engine.now.code c.args.machine.now) refl c.requires.spent
    (elim (valid-or-not c.args.seat c.args.engine.now.memory.cells (row_at c.args.engine.now.memory.rows c.args.seat).reads) [
      | inl valid ↦ valid
      | inr bad ↦ absurd (let ok = (c.spend.ensures.invalid bad).0 in let err = c.in-Err.is in cc)
    ]))
