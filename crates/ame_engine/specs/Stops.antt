-- The stops of an engine.
use Rattle.std.specs.Prelude.{List, Some, unwrap_or}
use Rattle.ame_journal.specs.declared.certificate.Certificate.{Certificate}
use Rattle.ame_protocol.specs.declared.stop.Stop.{Stop}
use Rattle.ame_engine.specs.Core.{Core}

-- The first stop stays.
abbrev pub stopped_by : {C V M : Type 0} → Stop → Core C V M → Core C V M
stopped_by why core = record core { stop = Some (unwrap_or core.stop why) }

-- All members are blocked, with these certificates.
abbrev pub blocked_by : {C V M : Type 0} → List Certificate → Core C V M → Core C V M
blocked_by certificates core = record core { stop = Some Stop.Blocked; certificates = certificates }
