use Rattle.std.proofs.Common.{ℕ, ℤ, List, ◌++◌, map, Vec, Global, ap, ◌∙◌}
use Rattle.ame_lex.specs.Reading.{tokens_of}
use Rattle.ame_why.specs.Open.{tokens_or_none}
use Rattle.ame_views.specs.declared.forms.Created.{Created}
use Rattle.ame_views.specs.declared.starters.Starter.{Starter}
use Rattle.ame_views.specs.Forms.{positions}
use Rattle.ame_views.specs.Table.{table}
use Rattle.ame_views.specs.Trace.{made_from, origin_part}
use Rattle.ame_views.proofs.trace.trace_of.Goals as goal

abbrev line_of : Vec ℤ Global → List ℤ
line_of v = v.items

pub returns : goal.returns
returns c =
    let entries = c.args.entries.now in
    let tried = c.args.tried.now in
    let starters = c.args.run.now.starters.items in
    let places = positions c.args.text.now (tokens_or_none (tokens_of c.args.text.now)) in
    let rows =
    c.from_bytes-page.ensures ∙ c.in_ok-table.ensures ∙ ap (λ (ss : List Starter). table entries tried ss (map line_of c.as_slice-2.result.now)) c.as_slice.ensures.value
    ∙ ap (λ (ls : List (Vec ℤ Global)). table entries tried starters (map line_of ls)) c.as_slice-2.ensures.value in
    let made = c.deref.ensures.value ∙ c.in_ok-made.ensures in
    c.into_bytes.ensures ∙ c.in_ok-append_origins.ensures ∙ ap (λ (p : List ℕ). p ++ origin_part places c.deref.result.now) rows
    ∙ ap (λ (m : List Created). table entries tried starters (map line_of c.args.run.now.lines.items) ++ origin_part places m) made
