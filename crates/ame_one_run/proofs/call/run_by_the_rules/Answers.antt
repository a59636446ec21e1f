use Rattle.std.proofs.Common.{map}
use Rattle.std.specs.Prelude.{string_bytes, vec_len}
use Rattle.ame_shell.specs.Ends.{ends_of}
use Rattle.ame_app.specs.Calls.{what_is_given, call_of}
use Rattle.ame_app.specs.Reported.{run_view, reported}
use Rattle.ame_one_run.proofs.OneRunLemmas.{some-there}
use Rattle.ame_one_run.proofs.call.run_by_the_rules.Goals as goal

pub returns-clause-one_run : goal.returns-clause-one_run
returns-clause-one_run g c = λ words.
    let r = c.run_words_over.result in
    some-there run_view r.run _ (c.one_run.ensures
    (call_of (map string_bytes c.args.words.now) (what_is_given g.S.Source.left g.S.Source.faults c.args.source.now)
    (what_is_given g.S.Source.left g.S.Source.faults c.run_words_over.new.source) (vec_len c.args.devices))
    (reported r)
    (ends_of g.K.Sink.written g.K.Sink.faults g.D.Device.device_told c.args.sink c.args.devices.items)
    (ends_of g.K.Sink.written g.K.Sink.faults g.D.Device.device_told r.sink r.devices.items)
    c.run_words_over.ensures.answered words)

pub returns-clause-each_run : goal.returns-clause-each_run
returns-clause-each_run g c = λ command.
    let r = c.run_words_over.result in
    c.each_run.ensures
    (call_of (map string_bytes c.args.words.now) (what_is_given g.S.Source.left g.S.Source.faults c.args.source.now)
    (what_is_given g.S.Source.left g.S.Source.faults c.run_words_over.new.source) (vec_len c.args.devices))
    (reported r)
    (ends_of g.K.Sink.written g.K.Sink.faults g.D.Device.device_told c.args.sink c.args.devices.items)
    (ends_of g.K.Sink.written g.K.Sink.faults g.D.Device.device_told r.sink r.devices.items)
    command c.run_words_over.ensures.answered

pub returns-clause-answered : goal.returns-clause-answered
returns-clause-answered g c = c.run_words_over.ensures.answered
