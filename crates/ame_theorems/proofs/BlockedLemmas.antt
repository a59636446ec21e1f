-- The certificates of an end that is blocked are witnesses.
use Rattle.std.proofs.Common.{◌≡◌, ◌↔◌, ℕ, List, map, Some, is_some, ap}
use Rattle.std.proofs.lemmas.List.Elements.{All-map, All-weaker, All-contains}
use Rattle.std.specs.Prelude.{IsSome, All, Contains}
use Rattle.ame_term.specs.Tree.{Val, Tree}
use Rattle.ame_term.specs.Maps.{at}
use Rattle.ame_term.specs.Signature.{Signature}
use Rattle.ame_term.specs.State.{State}
use Rattle.ame_term.specs.declared.semantics.StepKind.{StepKind}
use Rattle.ame_journal.proofs.ReachedLemmas.{calm-replayed}
use Rattle.ame_journal.specs.declared.certificate.Certificate.{Certificate}
use Rattle.ame_protocol.specs.declared.stop.Stop.{Stop}
use Rattle.ame_protocol.specs.declared.types.Limits.{Limits}
use Rattle.ame_protocol.specs.Waits.Certificates.{IsCertificate}
use Rattle.ame_engine.specs.Ending.{End, IsEnd}
use Rattle.ame_calculus.specs.Blocked.{IsWitness, IsBlockedState}

abbrev HasWitness : State → ℕ → Type 0
HasWitness s i = (kinds : List StepKind) × IsWitness s i kinds

witness : (s : State) (i n : ℕ) (fresh : List ℕ) → IsCertificate s i n fresh → HasWitness s i
witness s i n fresh c = (c.kinds, (c.reached, c.made, c.fails))

witnesses : (s : State) (certificates : List Certificate) → All (λ c. IsCertificate s c.number c.steps c.fresh) certificates →
    ((number : ℕ) → IsSome (at s.members number) ↔ Contains (map (λ c. c.number) certificates) number) →
    (i : ℕ) (term : Tree) → at s.members i ≡ Some term → HasWitness s i
witnesses s certificates hold members i term found =
    All-contains (HasWitness s) (map (λ (c : Certificate). c.number) certificates) i
    (All-map (HasWitness s) (λ (c : Certificate). c.number) certificates
    (All-weaker (λ (c : Certificate). IsCertificate s c.number c.steps c.fresh) (λ (c : Certificate). HasWitness s c.number)
    (λ c holds. witness s c.number c.steps c.fresh holds) certificates hold))
    ((members i).0 (ap is_some found))

pub end-blocked : (program : Tree) (signature : Signature) (limits : Limits) {V : Type 0} (value : V → Val) (end : End V) (over : IsEnd program signature limits value end) →
    end.stop ≡ Some Stop.Blocked → IsBlockedState over.r.state
end-blocked program signature limits value end over stop =
    let all = over.stopped.blocked stop in
    record {
      idle = (calm-replayed program _ over.r over.replays).idle;
      each = witnesses over.r.state end.certificates all.hold all.members;
    }
