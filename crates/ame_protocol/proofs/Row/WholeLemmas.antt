-- A valid row commits.
use Rattle.std.proofs.Common.{◌≡◌, ℕ, true, false, Option, Some, None, sym, ◌∙◌}
use Rattle.std.specs.Option.{ForSome}
use Rattle.ame_term.specs.Tree.{Tree}
use Rattle.ame_term.specs.Signature.{Signature}
use Rattle.ame_term.specs.Frame.{Side}
use Rattle.ame_term.specs.Context.{focus}
use Rattle.ame_term.specs.Maps.{at}
use Rattle.ame_term.specs.State.{State, at_value, at_unprotected}
use Rattle.ame_laws.specs.Orderly.{IsOrderly}
use Rattle.ame_journal.specs.declared.entry.Entry.{Entry}
use Rattle.ame_journal.specs.declared.entry.EntryKind.{EntryKind}
use Rattle.ame_journal.specs.Replayed.{Replayed, is_inside, staying, entering}
use Rattle.ame_journal.specs.Replay.{replay_entry}
use Rattle.ame_laws.specs.Typed.StoreTyping.{StoreTyping}
use Rattle.ame_machine.specs.Run.Local.{LocalState}
use Rattle.ame_machine.specs.Run.AgreesWith.{IsAfterRun}
use Rattle.ame_machine.specs.Run.Told.{TellsRun}
use Rattle.ame_machine.proofs.Run.EntryLemmas.{run-ended, run-left}
use Rattle.ame_protocol.specs.Row.Heap.{Heap, IsCommitted, ShowsStore}
use Rattle.ame_protocol.specs.Row.SeatRun.{SeatRun, HasUsed, AreValid}
use Rattle.ame_protocol.specs.Row.Owes.{Owes}
use Rattle.ame_protocol.specs.Row.Changed.{ReleasesAll}
use Rattle.ame_protocol.specs.Row.Scoped.{IsScoped, IsTypedNow}
use Rattle.ame_protocol.specs.Row.Commits.{StandsAfterCommit}
use Rattle.ame_protocol.proofs.Row.ValidLemmas.{settles, others-settled}
use Rattle.ame_protocol.proofs.Row.ScopedLemmas.{owned-reached}
use Rattle.ame_protocol.proofs.Row.CommitLemmas.{typed-after}
use Rattle.ame_protocol.proofs.Row.EventLemmas.{commit-framed}

module _ (signature : Signature) (types : StoreTyping) (old new : Heap) (seat : ℕ) (run : SeatRun) (s : State) (i n : ℕ) (p : LocalState)
    (o : Owes old seat run) (valid : AreValid old seat run.reads) (scoped : IsScoped signature types old seat run) (place : HasUsed run n p)
    (c : IsCommitted old) (shows : ShowsStore old s.store) (typed : IsTypedNow signature types old s) (releases : ReleasesAll seat old new) where
  pub stands-after : (t : State) → IsAfterRun s i p t → t.active ≡ None → ForSome (at t.members i) (λ term. term ≡ p.term) → ShowsStore new t.store
      → StandsAfterCommit signature types seat old new t
  stands-after t h idle member now =
      let given = o.given n p place in
      record {
        committed = settles old new seat run.reads s t i p c shows given h releases now;
        typed = λ rise. typed-after signature types old new seat releases s t i p typed (scoped valid n p place.ran place.used) h rise idle member;
        framed = λ other apart.
            commit-framed other seat apart old new releases (others-settled old new seat run.reads s t i p c shows given h releases now)
            (owned-reached signature types old seat run s n p place o.given valid scoped);
      }

pub commit-ended : (signature : Signature) (types : StoreTyping) (old new : Heap) (seat : ℕ) (run : SeatRun) (r : Replayed) (entry : Entry) (n : ℕ) (p : LocalState)
    → Owes old seat run → AreValid old seat run.reads → IsScoped signature types old seat run → HasUsed run n p
    → IsCommitted old → ShowsStore old r.state.store → IsTypedNow signature types old r.state → ReleasesAll seat old new
    → TellsRun r entry Side.Protected n p → entry.steps ≡ n → entry.kind ≡ EntryKind.Ran
    → is_inside r entry.number ≡ false → IsOrderly r.state → at_value (focus p.term) ≡ true
    → (t : State) × (replay_entry r entry ≡ Some (staying r t)) × (ShowsStore new t.store → StandsAfterCommit signature types seat old new t)
commit-ended signature types old new seat run r entry n p o valid scoped place c shows typed releases tells count kind outside orderly value =
    let x = run-ended r entry n p tells count kind outside orderly value in
    let gone : ForSome (at x.0.members entry.number) (λ term. term ≡ p.term) =
    (λ term found. absurd (let clash : ◌≡◌ {A = Option Tree} None (Some term) = sym x.3 ∙ found in cc)) in
    (x.0, x.1, stands-after signature types old new seat run r.state entry.number n p o valid scoped place c shows typed releases x.0 x.2 x.4 gone)

pub commit-left : (signature : Signature) (types : StoreTyping) (old new : Heap) (seat : ℕ) (run : SeatRun) (r : Replayed) (entry : Entry) (n : ℕ) (p : LocalState)
    → Owes old seat run → AreValid old seat run.reads → IsScoped signature types old seat run → HasUsed run n p
    → IsCommitted old → ShowsStore old r.state.store → IsTypedNow signature types old r.state → ReleasesAll seat old new
    → TellsRun r entry Side.Protected n p → entry.steps ≡ n → entry.kind ≡ EntryKind.Ran
    → is_inside r entry.number ≡ false → at_unprotected (focus p.term) ≡ true
    → (t : State) × (replay_entry r entry ≡ Some (entering r entry.number t)) × (ShowsStore new t.store → StandsAfterCommit signature types seat old new t)
commit-left signature types old new seat run r entry n p o valid scoped place c shows typed releases tells count kind outside stands =
    let x = run-left r entry n p tells count kind outside stands in
    let there : ForSome (at x.0.members entry.number) (λ term. term ≡ p.term) =
    (λ term found. let both : ◌≡◌ {A = Option Tree} (Some p.term) (Some term) = sym x.3 ∙ found in let same : p.term ≡ term = cc in sym same) in
    (x.0, x.1, stands-after signature types old new seat run r.state entry.number n p o valid scoped place c shows typed releases x.0 x.2 x.4 there)
