use Rattle.std.proofs.Common.{◌∙◌, ℕ, [], None, Some, Err, refl, map, subst, ap, sym}
use Rattle.std.specs.Prelude.{string_bytes}
use Rattle.ame_app.specs.Calls.{what_is_given, call_of}
use Rattle.ame_app.proofs.AskedLemmas.{ok-so, err-so, words-refused, words-named, untaken-refusal}
use Rattle.ame_app.proofs.asked.asked_by_words.Goals as goal

pub returns-in-Err-clause-refused : goal.returns-in-Err-clause-refused
returns-in-Err-clause-refused g c =
    let words = map string_bytes c.args.words.now in
    let source = what_is_given g.S.Source.left g.S.Source.faults c.args.source.now in
    let r = c.without_text.result in
    let told = c.from.result in
    let fail = c.in-Err.fail in
    untaken-refusal (call_of words source source c.args.devices) r.text.items r.command None r.told told c.without_text.ensures.text c.without_text.ensures.command
    c.without_text.ensures.told (words-refused words source c.args.devices [] refl fail told c.from.ensures (λ usage. c.in-Err.ensures.usage (ap Err usage)))
    (words-named words source c.args.devices fail told c.from.ensures (λ usage. c.in-Err.ensures.usage (ap Err usage)))

pub returns-in-Ok-taken_of-clause-job : goal.returns-in-Ok-taken_of-clause-job
returns-in-Ok-taken_of-clause-job g c =
    let words = map string_bytes c.args.words.now in
    let call = call_of words (what_is_given g.S.Source.left g.S.Source.faults c.args.source.now)
    (what_is_given g.S.Source.left g.S.Source.faults c.taken_of.new.source) c.args.devices in
    ok-so c.job_of.result _ _ (λ asked job. job call (c.in-Ok-taken_of.ensures.asks words c.args.devices c.in-Ok.ensures.ok) refl) c.job_of.ensures.job

pub returns-in-Ok-taken_of-clause-refused : goal.returns-in-Ok-taken_of-clause-refused
returns-in-Ok-taken_of-clause-refused g c =
    let words = map string_bytes c.args.words.now in
    let call = call_of words (what_is_given g.S.Source.left g.S.Source.faults c.args.source.now)
    (what_is_given g.S.Source.left g.S.Source.faults c.taken_of.new.source) c.args.devices in
    err-so c.job_of.result _ _ (λ refusal refused. refused call (c.in-Ok-taken_of.ensures.asks words c.args.devices c.in-Ok.ensures.ok) refl)
    c.job_of.ensures.refused

pub returns-in-Err-taken_of-clause-refused : goal.returns-in-Err-taken_of-clause-refused
returns-in-Err-taken_of-clause-refused g c =
    let words = map string_bytes c.args.words.now in
    let call = call_of words (what_is_given g.S.Source.left g.S.Source.faults c.args.source.now)
    (what_is_given g.S.Source.left g.S.Source.faults c.taken_of.new.source) c.args.devices in
    let r = c.without_text-in-Err-taken_of.result in
    untaken-refusal call r.text.items r.command (Some c.in-Ok.command) r.told c.in-Err-taken_of.told c.without_text-in-Err-taken_of.ensures.text
    c.without_text-in-Err-taken_of.ensures.command c.without_text-in-Err-taken_of.ensures.told
    (c.in-Err-taken_of.ensures.refused words c.args.devices c.in-Ok.ensures.ok) c.in-Ok.ensures.ok
