use Rattle.std.proofs.Common.{map}
use Rattle.std.specs.Prelude.{string_bytes, vec_len}
use Rattle.ame_shell.specs.Ends.{ends_of}
use Rattle.ame_app.specs.Calls.{what_is_given, call_of}
use Rattle.ame_app.specs.Reported.{run_view, reported}
use Rattle.ame_app.specs.Standard.{told_by, with_new}
use Rattle.ame_one_run.proofs.OneRunLemmas.{ok-weaker, some-there}
use Rattle.ame_one_run.proofs.process.run_process.Goals as goal

pub returns-clause-one_run : goal.returns-clause-one_run
returns-clause-one_run g c =
    let r = c.run_process.result in
    ok-weaker c.args.words _ _ (λ ws promised. λ words. some-there run_view r.run _ (c.one_run.ensures
    (call_of (map string_bytes ws.items) (what_is_given g.S.Source.left g.S.Source.faults c.args.source.now)
    (what_is_given g.S.Source.left g.S.Source.faults c.run_process.new.source) 2)
    (reported r) (with_new (vec_len r.devices) (g.K.Sink.written c.args.sink) (g.K.Sink.faults c.args.sink)) (ends_of g.K.Sink.written g.K.Sink.faults told_by r.sink r.devices.items)
    promised words)) c.run_process.ensures.answered

pub returns-clause-each_run : goal.returns-clause-each_run
returns-clause-each_run g c =
    let r = c.run_process.result in
    ok-weaker c.args.words _ _ (λ ws promised. λ command. c.each_run.ensures
    (call_of (map string_bytes ws.items) (what_is_given g.S.Source.left g.S.Source.faults c.args.source.now)
    (what_is_given g.S.Source.left g.S.Source.faults c.run_process.new.source) 2)
    (reported r) (with_new (vec_len r.devices) (g.K.Sink.written c.args.sink) (g.K.Sink.faults c.args.sink)) (ends_of g.K.Sink.written g.K.Sink.faults told_by r.sink r.devices.items)
    command promised) c.run_process.ensures.answered

pub returns-clause-answered : goal.returns-clause-answered
returns-clause-answered g c = c.run_process.ensures.answered

pub returns-clause-two : goal.returns-clause-two
returns-clause-two g c = c.run_process.ensures.two

pub returns-clause-devices : goal.returns-clause-devices
returns-clause-devices g c = c.run_process.ensures.devices

pub returns-clause-kinds : goal.returns-clause-kinds
returns-clause-kinds g c = c.run_process.ensures.kinds

pub returns-clause-unread : goal.returns-clause-unread
returns-clause-unread g c = c.run_process.ensures.unread

pub returns-clause-small : goal.returns-clause-small
returns-clause-small g c = c.run_process.ensures.small
