use Rattle.ame_calculus.proofs.RenamedJournal.{replay-too}
use Rattle.ame_calculus.proofs.names.renamed_certificates_replay.Goals as goal

pub returns-clause-replays : goal.returns-clause-replays
returns-clause-replays c = λ f g program entries r inverse e.
    let x = replay-too f g inverse program entries r e in
    (x.behind, x.replays, x.renames, x.inside)

pub returns-clause-calls : goal.returns-clause-calls
returns-clause-calls c = λ f g program entries r device inverse e. (replay-too f g inverse program entries r e).called device
