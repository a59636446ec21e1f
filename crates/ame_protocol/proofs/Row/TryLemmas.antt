-- Sound tries.
use Rattle.std.proofs.Common.{◌≡◌, ℕ, ◌⊎◌, inl, inr, false, List, ◌++◌, length, Some, None, is_some, refl, ap, ◌∙◌, arith, length-append}
use Rattle.std.proofs.lemmas.List.{take-append-le, take_all}
use Rattle.ame_term.specs.Tree.{Tree}
use Rattle.ame_term.specs.Context.{focus}
use Rattle.ame_term.specs.Maps.{at}
use Rattle.ame_term.specs.State.{at_unprotected}
use Rattle.ame_journal.specs.declared.entry.Entry.{Entry}
use Rattle.ame_journal.specs.Replayed.{Replayed}
use Rattle.ame_journal.specs.Replay.{replay}
use Rattle.ame_machine.specs.Run.Local.{LocalState}
use Rattle.ame_machine.proofs.Run.ReplayLemmas.{active_run}
use Rattle.ame_protocol.specs.Row.Heap.{Heap, IsCommitted, ShowsStore}
use Rattle.ame_protocol.specs.Row.SeatRun.{SeatRun, HasUsed, AreValid}
use Rattle.ame_protocol.specs.Row.Given.{IsGivenThroughout}
use Rattle.ame_protocol.specs.Row.Tries.{CanMake, IsSoundTry}
use Rattle.ame_protocol.proofs.Row.ValidLemmas.{agrees}

try-now : (program : Tree) (entries : List Entry) (r : Replayed) (i steps : ℕ) (term : Tree) → replay program entries ≡ Some r → at r.state.members i ≡ Some term
    → (steps ≡ 0) ⊎ CanMake r.state i steps → IsSoundTry program entries i (length entries) steps
try-now program entries r i steps term replayed member made = record {
  within = omega arith;
  reached = r;
  replayed = ap (replay program) (take_all (length entries) entries (omega arith)) ∙ replayed;
  member = ap is_some member;
  made = made;
}

pub try-begun : (program : Tree) (entries : List Entry) (r : Replayed) (i : ℕ) (term : Tree) → replay program entries ≡ Some r → at r.state.members i ≡ Some term
    → IsSoundTry program entries i (length entries) 0
try-begun program entries r i term replayed member = try-now program entries r i 0 term replayed member (inl refl)

pub try-checked : (program : Tree) (entries : List Entry) (r : Replayed) (heap : Heap) (seat i : ℕ) (run : SeatRun) (n : ℕ) (p : LocalState) → replay program entries ≡ Some r
    → IsCommitted heap → ShowsStore heap r.state.store → IsGivenThroughout heap seat run → AreValid heap seat run.reads → HasUsed run n p
    → r.state.active ≡ None → at_unprotected (focus run.start) ≡ false → at r.state.members i ≡ Some run.start → IsSoundTry program entries i (length entries) n
try-checked program entries r heap seat i run n p replayed c shows given valid place idle calm member =
    let a = active_run r.state i run.start run.inputs member idle calm n p place.ran (agrees heap seat r.state.store c shows run.reads p valid (given n p place)) in
    try-now program entries r i n run.start replayed member (inr (p.fresh, a.behind, a.way))

pub try-stays : (program : Tree) (entries more : List Entry) (i count steps : ℕ) → IsSoundTry program entries i count steps → IsSoundTry program (entries ++ more) i count steps
try-stays program entries more i count steps h = record {
  within = let low = h.within in let long = length-append entries more in omega arith;
  reached = h.reached;
  replayed = ap (replay program) (take-append-le count entries more h.within) ∙ h.replayed;
  member = h.member;
  made = h.made;
}
