-- The loop of `straighten`, label by label.
use Rattle.std.proofs.Common.{◌≡◌, ℕ, ◌+◌, ◌<◌, ◌≤◌, ◌++◌, List, [], ◌∷◌, length, take, drop, get_or, Some, None, option_and_then, refl, sym, ap, ◌∙◌, arith}
use Rattle.std.proofs.lemmas.Option.{option_and_then_some}
use Rattle.std.proofs.lemmas.List.{append_assoc, take-append-drop, length-take-le, take_more, take_all, drop_more, drop_all}
use Rattle.std.specs.Prelude.{Result, Ok, Err, IfOk}
use Rattle.ame_term.specs.Tree.{Typ, Tree}
use Rattle.ame_term.specs.SourceTerm.{IsSourceTerm}
use Rattle.ame_term.specs.Numbered.{IsNumbered}
use Rattle.ame_term.specs.Typing.{Accepts}
use Rattle.ame_term.specs.declared.semantics.Label.{Label}
use Rattle.ame_journal.specs.declared.entry.Entry.{Entry}
use Rattle.ame_journal.specs.Replay.{replay}
use Rattle.ame_journal.specs.Calls.{device_calls}
use Rattle.ame_weak.specs.Weak.{Weak, weak_start, weak_after, weak_run}
use Rattle.ame_weak.specs.Straight.{Place, outset, entries_of_label, past}
use Rattle.ame_weak.specs.Tries.{AreTried, noted_tries, tries_behind, straight_with}
use Rattle.ame_weak.specs.Straightened.{IsFirstIllegal, EndsActive, IsStraightened, LeadsToTheEnd, MakesTheCalls, KeepsPlace, AddsEntries, Writes}
use Rattle.ame_weak.specs.declared.straightening.Straight.{Straight}
use Rattle.ame_weak.specs.declared.transcript.Transcript.{Transcript}
use Rattle.ame_weak.specs.declared.tries.Try.{Try}
use Rattle.ame_weak.proofs.TranscriptLemmas.{stands-same}
use Rattle.ame_weak.proofs.RoomLemmas.{taken_numbers, room-after}
use Rattle.ame_weak.proofs.TryLemmas.{tries_straighten, calls_are_told_with}

-- The first k labels lead to w; the journal so far, with the entries of the labels and tries to come, is the whole one.
pub record IsOnTheWay (program : Tree) (labels : List Label) (tries : List Try) (k : ℕ) (w : Weak) (t : Transcript) (ts : List Try) : Type 0 where
  pub leads : weak_run (weak_start program) (take k labels) ≡ Some w
  pub place : Place
  pub stands : KeepsPlace place t
  pub written : t.journal.entries ++ straight_with k ts place (drop k labels) ≡ straight_with 0 tries outset labels
  pub room : taken_numbers w ≤ k + 1
  pub few : t.steps ≤ k

run-more : (w v u : Weak) (xs : List Label) (y : Label) → weak_run w xs ≡ Some v → weak_after v y ≡ Some u → weak_run w (xs ++ y ∷ []) ≡ Some u
run-more w v u [] y e f =
    let same : w ≡ v = cc in
    ap (λ (z : Weak). option_and_then (λ a. weak_run a []) (weak_after z y)) same ∙ ap (option_and_then (λ a. weak_run a [])) f
run-more w v u (x ∷ xs) y e f =
    option_and_then_some _ _ _ e (λ a first rest. ap (option_and_then (λ z. weak_run z (xs ++ y ∷ []))) first ∙ run-more a v u xs y rest f)

-- a label is one step at most
past-steps : (p : Place) (label : Label) → (past p label).steps ≤ p.steps + 1
past-steps p (Label.Activate i) = omega arith
past-steps p (Label.Step kind) = omega arith
past-steps p Label.Leave = omega arith
past-steps p Label.End = omega arith
past-steps p (Label.Free i kind) = omega arith
past-steps p (Label.Close i) = omega arith

module _ (program : Tree) (labels : List Label) (tries : List Try) where
  module _ (k : ℕ) (w : Weak) (t : Transcript) (ts : List Try) (o : IsOnTheWay program labels tries k w t ts) where
    pub on-more : (d : Label) (v : Weak) (noted next : Transcript) (rest : List Try) → k < length labels → AddsEntries (noted_tries k ts) t noted → rest ≡ tries_behind k ts
        → weak_after w (get_or labels k d) ≡ Some v → Writes (get_or labels k d) noted next → IsOnTheWay program labels tries (k + 1) v next rest
    on-more d v noted next rest within notes others legal writes =
        let label = get_or labels k d in
        let x = writes o.place (stands-same o.place (noted_tries k ts) t noted notes o.stands) in
        let more = straight_with (k + 1) (tries_behind k ts) (past o.place label) (drop (k + 1) labels) in
        record {
          leads = ap (weak_run (weak_start program)) (take_more labels k d within) ∙ run-more (weak_start program) w v (take k labels) label o.leads legal;
          place = past o.place label;
          stands = x.0;
          written =
              ap (λ (us : List Try). next.journal.entries ++ straight_with (k + 1) us (past o.place label) (drop (k + 1) labels)) others
              ∙ ap (λ (es : List Entry). es ++ more) (x.1 ∙ ap (λ (es : List Entry). es ++ entries_of_label o.place label) notes.added)
              ∙ append_assoc (t.journal.entries ++ noted_tries k ts) (entries_of_label o.place label) more
              ∙ append_assoc t.journal.entries (noted_tries k ts) (entries_of_label o.place label ++ more)
              ∙ ap (λ (ls : List Label). t.journal.entries ++ straight_with k ts o.place ls) (sym (drop_more labels k d within))
              ∙ o.written;
          room = let a = room-after w v label legal in let b = o.room in omega arith;
          few =
              let a = past-steps o.place label in
              let b : next.steps ≡ (past o.place label).steps = x.0.steps in
              let c : t.steps ≡ o.place.steps = o.stands.steps in
              let d = o.few in
              omega arith;
        }

    pub on-refused : (d : Label) → k < length labels → weak_after w (get_or labels k d) ≡ None → IsFirstIllegal program labels (k + 1)
    on-refused d within refused = record {
      front = take k labels;
      label = get_or labels k d;
      behind = drop (k + 1) labels;
      parts = sym (take-append-drop k labels) ∙ ap (λ (ls : List Label). take k labels ++ ls) (drop_more labels k d within);
      nth = let e : length (take k labels) ≡ k = length-take-le k labels (omega arith) in omega arith;
      weak = w;
      leads = o.leads;
      refused = refused;
    }

    pub on-end : (noted : Transcript) → length labels ≤ k → AddsEntries (noted_tries k ts) t noted
        → EndsActive program labels w.state.active × (noted.journal.entries ≡ straight_with 0 tries outset labels)
    on-end noted all notes = (
      record { weak = w; leads = ap (weak_run (weak_start program)) (sym (take_all k labels all)) ∙ o.leads; active = refl },
      notes.added ∙ ap (λ (ls : List Label). t.journal.entries ++ straight_with k ts o.place ls) (sym (drop_all k labels all)) ∙ o.written,
    )

-- Notes that hold lead to the end, and make the calls.

pub if-ok : {X E : Type 0} (P Q : X → Type 0) → ((x : X) → P x → Q x) → (r : Result X E) → IfOk r P → IfOk r Q
if-ok P Q more (Ok x) p = more x p
if-ok P Q more (Err e) p = p

module _ (devices : ℕ) (places : List ℕ) (program : Tree) (refs : List Typ) (accepts : Accepts devices places program refs) (source : IsSourceTerm program) (numbered : IsNumbered 0 program)
    (labels : List Label) (tries : List Try) (tried : AreTried program labels tries) where
  pub leads-there : (answer : Straight) → IsStraightened program labels tries answer → LeadsToTheEnd program labels answer
  leads-there (Straight.Journal journal) x =
      let e = x.0 in
      let s = tries_straighten devices places program refs accepts source numbered labels tries e.weak tried e.leads e.active in
      record {
        weak = e.weak;
        leads = e.leads;
        replayed = s.0;
        replays = ap (replay program) x.1 ∙ s.1;
        store = ap (λ (z : Weak). z.state.store) (sym s.2);
        members = ap (λ (z : Weak). z.state.members) (sym s.2);
        output = ap (λ (z : Weak). z.state.output) (sym s.2);
        next = ap (λ (z : Weak). z.state.next) (sym s.2);
        idle = e.active;
        nothing_printed = ap (λ (z : Weak). z.prints) s.2;
        nothing_spawned = ap (λ (z : Weak). z.spawns) s.2;
      }
  leads-there (Straight.Illegal n) x = tt
  leads-there (Straight.Active i) x = tt

  pub makes-calls : (answer : Straight) → IsStraightened program labels tries answer → MakesTheCalls program labels answer
  makes-calls (Straight.Journal journal) x = λ k.
      ap (device_calls k program) x.1 ∙ calls_are_told_with devices places program refs accepts source numbered k labels tries x.0.weak tried x.0.leads
  makes-calls (Straight.Illegal n) x = tt
  makes-calls (Straight.Active i) x = tt
