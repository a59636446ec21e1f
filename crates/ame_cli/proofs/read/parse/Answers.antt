use Rattle.std.proofs.Common.{map, string_bytes, subst}
use Rattle.clap.specs.Words.{HasKind, fault_of}
use Rattle.ame_cli.proofs.MatchLemmas.{kind_faults}
use Rattle.ame_cli.specs.Syntax.{syntax}
use Rattle.ame_cli.proofs.read.parse.Goals as goal

pub returns-in-Err-try_get_matches_from-clause-usage : goal.returns-in-Err-try_get_matches_from-clause-usage
returns-in-Err-try_get_matches_from-clause-usage c =
    let words = map string_bytes c.args.words.now in
    let error = c.in-Err-try_get_matches_from.error in
    let has = subst (λ app. HasKind (fault_of app words) error) c.in-Ok.ensures.app (c.in-Err-try_get_matches_from.ensures.kinds c.in-Ok.ensures.free) in
    λ usage. kind_faults (fault_of syntax words) error has (c.fail_of.ensures usage)
