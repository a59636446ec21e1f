use Rattle.std.proofs.Common.{ap, ◌∙◌, map}
use Rattle.ame_parse.specs.Names.{number_in, with_name}
use Rattle.ame_parse.proofs.NameLemmas.{number-items, with_name-items}
use Rattle.ame_parse.proofs.names.Names.number.Goals as goal

pub returns-clause-number : goal.returns-clause-number
returns-clause-number c =
    c.in_ok-number.ensures.index ∙ number-items c.self.inside.set.keys c.in_ok-from_slice.field-0
    ∙ ap (λ n. number_in n c.in_ok-from_slice.field-0.items) c.self.view_is ∙ ap (number_in c.args.self.now) c.in_ok-from_slice.ensures.items

pub returns-clause-names : goal.returns-clause-names
returns-clause-names c =
    ap (map (λ name. name.items)) c.in_ok-number.ensures.keys ∙ with_name-items c.self.inside.set.keys c.in_ok-from_slice.field-0
    ∙ ap (λ n. with_name n c.in_ok-from_slice.field-0.items) c.self.view_is ∙ ap (with_name c.args.self.now) c.in_ok-from_slice.ensures.items
