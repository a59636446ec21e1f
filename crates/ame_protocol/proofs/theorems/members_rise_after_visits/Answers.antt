use Rattle.ame_protocol.proofs.Visits.LeaveLemmas.{visit-rising, refused-rising}
use Rattle.ame_protocol.proofs.theorems.members_rise_after_visits.Goals as goal

pub returns-clause-visit : goal.returns-clause-visit
returns-clause-visit c = λ parts seat number n p inside memory s rising. visit-rising parts s seat number n p inside memory rising

pub returns-clause-refusal : goal.returns-clause-refusal
returns-clause-refusal c = λ parts seat number rising. refused-rising parts seat number rising
