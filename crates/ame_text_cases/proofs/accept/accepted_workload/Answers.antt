use Rattle.std.proofs.Common.{◌≡◌, ◌∙◌, Ok, sym, ap, subst}
use Rattle.ame_term.specs.Tree.{Typ}
use Rattle.ame_term.specs.Typing.{typing}
use Rattle.ame_parse.specs.Text.{Source, reading, source_of}
use Rattle.ame_gen.specs.Template.{program_text}
use Rattle.ame_text_cases.proofs.accept.accepted_workload.Goals as goal

pub accepted_of-requires-clause-typed : goal.accepted_of-requires-clause-typed
accepted_of-requires-clause-typed c =
    let law = c.text_is_accepted.ensures.accepted c.args.seed c.args.size c.args.devices c.requires.some c.requires.most in
    let text : c.deref.result.now ≡ program_text c.args.seed c.args.size = c.deref.ensures.value ∙ c.in-Ok.ensures.text in
    let read : reading (program_text c.args.seed c.args.size) ≡ Ok (source_of c.in_ok-program.program) = sym (ap reading text) ∙ c.in_ok-program.ensures in
    let law_read = law.1 in
    let same : law.0 ≡ source_of c.in_ok-program.program = cc in
    subst (λ (s : Source). typing c.args.devices s.places s.tree ≡ Ok Typ.Unit) same law.2
