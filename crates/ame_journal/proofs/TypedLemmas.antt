-- Replayed states of accepted programs are typed.
use Rattle.std.proofs.Common.{◌≡◌, ℕ, List, Some}
use Rattle.ame_term.specs.Tree.{Typ, Tree}
use Rattle.ame_term.specs.SourceTerm.{IsSourceTerm}
use Rattle.ame_term.specs.Numbered.{IsNumbered}
use Rattle.ame_term.specs.Signature.{listed}
use Rattle.ame_term.specs.Typing.{Accepts}
use Rattle.ame_laws.specs.Typed.StoreTyping.{StoreTyping}
use Rattle.ame_laws.specs.Typed.TypedState.{IsTyped}
use Rattle.ame_laws.proofs.Typed.Started.{reached}
use Rattle.ame_journal.specs.declared.entry.Entry.{Entry}
use Rattle.ame_journal.specs.Replayed.{Replayed, begun_at}
use Rattle.ame_journal.specs.Replay.{replay}
use Rattle.ame_journal.proofs.LabelLemmas.{unfold-all, unfolds_all-run}

pub typed-replayed : (devices : ℕ) (places : List ℕ) (program : Tree) (refs : List Typ) (entries : List Entry) (r : Replayed) →
    Accepts devices places program refs → IsSourceTerm program → IsNumbered 0 program → replay program entries ≡ Some r
    → (cells : StoreTyping) × IsTyped (listed devices refs) cells r.state
typed-replayed devices places program refs entries r accepts source numbered e =
    let all = unfold-all (begun_at program) entries r e in
    let typed = reached devices places program refs all.0 r.state accepts source numbered (unfolds_all-run (begun_at program) entries all.0 r all.1) in
    (typed.0, typed.1)
