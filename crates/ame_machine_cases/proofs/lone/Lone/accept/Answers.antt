use Rattle.std.proofs.Common.{◌≡◌, Option, true, refl, sym, subst}
use Rattle.std.specs.Prelude.{IsTrue}
use Rattle.ame_machine.specs.declared.wants.Wants.{Wants}
use Rattle.ame_machine.specs.declared.wants.Input.TheVariants as input
use Rattle.ame_machine.specs.Input.{is_taken, is_wanted}
use Rattle.ame_value.specs.declared.val.Val.{Val}
use Rattle.ame_machine_cases.proofs.AloneLemmas.{alone-accepted}
use Rattle.ame_machine_cases.proofs.lone.Lone.accept.Goals as goal

pub feed-requires-clause-machine : goal.feed-requires-clause-machine
feed-requires-clause-machine c = c.requires.alone.2.machine

pub feed-requires-clause-wanted : goal.feed-requires-clause-wanted
feed-requires-clause-wanted c = let taken : is_taken {V = Val} c.args.want input.Unit ≡ true = cc in subst (λ (o : Option Wants). IsTrue (is_wanted {V = Val} o input.Unit)) (sym c.requires.told) taken

pub returns : goal.returns
returns c =
    let taken : is_taken {V = Val} c.args.want input.Unit ≡ true = cc in
    let wanted = subst (λ (o : Option Wants). IsTrue (is_wanted {V = Val} o input.Unit)) (sym c.requires.told) taken in
    alone-accepted c.args.code.now c.args.self.now _ c.requires.alone wanted refl refl c.feed.ensures.machine c.feed.ensures.stage
