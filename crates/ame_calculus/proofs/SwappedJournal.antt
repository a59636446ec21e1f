-- A journal in which two neighbours are swapped.
use Rattle.std.proofs.Common.{◌≡◌, ℕ, ◌==◌, ◌++◌, ℤ, not, List, ◌∷◌, filter, Option, Some, option_and_then, refl, sym, ap, ◌∙◌, subst, append_assoc}
use Rattle.std.proofs.lemmas.Option.{option_and_then_some}
use Rattle.ame_term.specs.Tree.{Tree}
use Rattle.ame_term.specs.declared.semantics.Label.{Label}
use Rattle.ame_journal.specs.declared.entry.Entry.{Entry}
use Rattle.ame_journal.specs.declared.entry.EntryKind.{EntryKind}
use Rattle.ame_journal.specs.Calls.{of_next, last_call, device_calls_from, device_calls}
use Rattle.ame_journal.specs.Labels.{Unfolds, UnfoldsAll}
use Rattle.ame_journal.specs.Replayed.{Replayed, begun_at}
use Rattle.ame_journal.specs.Replay.{replay, replay_entry, replay_from}
use Rattle.ame_journal.proofs.CallLemmas.{calls-unfolded, calls-appended}
use Rattle.ame_journal.proofs.LabelLemmas.{unfold-all}
use Rattle.ame_journal.proofs.ReachedLemmas.{calm-replayed}
use Rattle.ame_journal.proofs.ReplayLemmas.{replay_from-append}
use Rattle.ame_journal.proofs.UnfoldLemmas.{all-back}
use Rattle.ame_weak.proofs.MemberLemmas.{same_or}
use Rattle.ame_calculus.specs.Independent.{MaySwap}
use Rattle.ame_calculus.proofs.CommuteLemmas.{may-swap}
use Rattle.ame_calculus.proofs.EndingLemmas.{is_among, IsChangeOf, enters, leaves}

-- the same state, with others in the list of those that are inside
abbrev with_those : Replayed → List ℕ → Replayed
with_those r ys = record { state = r.state; inside = ys }

-- the same are inside
abbrev Alike : List ℕ → List ℕ → Type 0
Alike xs ys = (k : ℕ) → is_among k xs ≡ is_among k ys

-- a change of one member keeps lists alike
changed-alike : (i : ℕ) (go : List ℕ → List ℕ) (xs ys : List ℕ) → IsChangeOf i go → Alike xs ys → Alike (go xs) (go ys)
changed-alike i go xs ys change alike k =
    same_or i k (is_among k (go xs) ≡ is_among k (go ys))
    (λ e. subst (λ (n : ℕ). is_among n (go xs) ≡ is_among n (go ys)) e (change.own xs ys (alike i)))
    (λ apart. change.others xs k apart ∙ alike k ∙ sym (change.others ys k apart))

record IsUnfoldedAlike (r : Replayed) (i : ℕ) (kind : EntryKind) (n : ℕ) (fresh : List ℕ) (answer : Option ℤ) (labels : List Label) (s : Replayed) (ys : List ℕ) : Type 0 where
  pub those : List ℕ
  pub unfolds : Unfolds (with_those r ys) i kind n fresh answer labels (with_those s those)
  pub alike : Alike s.inside those

entry-alike : (r : Replayed) (i : ℕ) (kind : EntryKind) (n : ℕ) (fresh : List ℕ) (answer : Option ℤ) (labels : List Label) (s : Replayed) (ys : List ℕ)
    → Unfolds r i kind n fresh answer labels s → Alike r.inside ys → IsUnfoldedAlike r i kind n fresh answer labels s ys
entry-alike r i _ _ _ _ _ _ ys (Unfolds.leaves kinds n fresh s outside are runs) alike = record {
  those = i ∷ ys;
  unfolds = Unfolds.leaves kinds n fresh s (sym (alike i) ∙ outside) are runs;
  alike = changed-alike i (λ xs. i ∷ xs) r.inside ys (enters i) alike;
}
entry-alike r i _ _ _ _ _ _ ys (Unfolds.ends kinds n fresh s outside are runs) alike =
    record { those = ys; unfolds = Unfolds.ends kinds n fresh s (sym (alike i) ∙ outside) are runs; alike = alike }
entry-alike r i _ _ _ _ _ _ ys (Unfolds.arrives outside is) alike = record {
  those = i ∷ ys;
  unfolds = Unfolds.arrives (sym (alike i) ∙ outside) is;
  alike = changed-alike i (λ xs. i ∷ xs) r.inside ys (enters i) alike;
}
entry-alike r i _ _ _ _ _ _ ys (Unfolds.goes_on kinds n fresh answer s inside are runs) alike =
    record { those = ys; unfolds = Unfolds.goes_on kinds n fresh answer s (sym (alike i) ∙ inside) are runs; alike = alike }
entry-alike r i _ _ _ _ _ _ ys (Unfolds.closes kinds n fresh s inside are runs) alike = record {
  those = filter (λ j. not (j == i)) ys;
  unfolds = Unfolds.closes kinds n fresh s (sym (alike i) ∙ inside) are runs;
  alike = changed-alike i (λ xs. filter (λ j. not (j == i)) xs) r.inside ys (leaves i) alike;
}
entry-alike r i _ _ _ _ _ _ ys (Unfolds.fails kinds n fresh s are runs fails) alike = record { those = ys; unfolds = Unfolds.fails kinds n fresh s are runs fails; alike = alike }
entry-alike r i _ _ _ _ _ _ ys (Unfolds.is_cut kinds n fresh s are runs) alike = record { those = ys; unfolds = Unfolds.is_cut kinds n fresh s are runs; alike = alike }
entry-alike r i _ _ _ _ _ _ ys (Unfolds.grows kinds n fresh s are runs tall) alike = record { those = ys; unfolds = Unfolds.grows kinds n fresh s are runs tall; alike = alike }

entries-alike : (r : Replayed) (entries : List Entry) (labels : List Label) (t : Replayed) (ys : List ℕ) → UnfoldsAll r entries labels t → Alike r.inside ys
    → (those : List ℕ) × UnfoldsAll (with_those r ys) entries labels (with_those t those)
entries-alike _ _ _ _ ys (UnfoldsAll.done r) alike = (ys, UnfoldsAll.done (with_those r ys))
entries-alike _ _ _ _ ys (UnfoldsAll.next r s t entry entries labels more first others) alike =
    let x = entry-alike r entry.number entry.kind entry.steps entry.fresh entry.answer labels s ys first alike in
    let y = entries-alike s entries more t x.those others x.alike in
    (y.0, UnfoldsAll.next (with_those r ys) (with_those s x.those) (with_those t y.0) entry entries labels more x.unfolds y.1)

-- entries lead to the same state if the same are inside, and make the same calls
record IsReplayedAlike (s t : Replayed) (entries : List Entry) (calls : ℕ → List (ℤ × ℤ)) : Type 0 where
  pub behind : Replayed
  pub replays : replay_from s entries ≡ Some behind
  pub state : behind.state ≡ t.state
  pub called : (k : ℕ) → device_calls_from k s entries ≡ calls k

replayed-alike : (r s t : Replayed) (entries : List Entry) → s.state ≡ r.state → Alike r.inside s.inside → replay_from r entries ≡ Some t
    → IsReplayedAlike s t entries (λ k. device_calls_from k r entries)
replayed-alike r s t entries same alike e =
    let all = unfold-all r entries t e in
    let y = entries-alike r entries all.0 t s.inside all.1 alike in
    let here : with_those r s.inside ≡ s = λ i. record { state = sym same i; inside = s.inside } in
    record {
      behind = with_those t y.0;
      replays = ap (λ (z : Replayed). replay_from z entries) (sym here) ∙ all-back (with_those r s.inside) entries all.0 (with_those t y.0) y.1;
      state = refl;
      called = λ k.
          ap (λ (z : Replayed). device_calls_from k z entries) (sym here) ∙ calls-unfolded k (with_those r s.inside) entries all.0 (with_those t y.0) y.1
          ∙ sym (calls-unfolded k r entries all.0 t all.1);
    }

-- the calls of two entries, and those of the others
two-calls : (k : ℕ) (r s t : Replayed) (a b : Entry) (entries : List Entry) → replay_entry r a ≡ Some s → replay_entry s b ≡ Some t → device_calls_from k r (a ∷ b ∷ entries)
    ≡ (last_call k a.number a.steps a.fresh a.answer r.state ++ last_call k b.number b.steps b.fresh b.answer s.state) ++ device_calls_from k t entries
two-calls k r s t a b entries one two =
    let call_a = last_call k a.number a.steps a.fresh a.answer r.state in
    let call_b = last_call k b.number b.steps b.fresh b.answer s.state in
    ap (λ (o : Option Replayed). call_a ++ of_next (λ z. device_calls_from k z (b ∷ entries)) o) one
    ∙ ap (λ (o : Option Replayed). call_a ++ (call_b ++ of_next (λ z. device_calls_from k z entries) o)) two
    ∙ sym (append_assoc call_a call_b (device_calls_from k t entries))

module _ (program : Tree) (front behind : List Entry) (a b : Entry) (r t : Replayed) (before : replay program front ≡ Some r) (m : MaySwap r a b) where
  from-there : (entries : List Entry) → replay program (front ++ entries) ≡ replay_from r entries
  from-there entries = replay_from-append (begun_at program) front entries ∙ ap (option_and_then (λ z. replay_from z entries)) before

  pub journal-swapped : replay program (front ++ a ∷ b ∷ behind) ≡ Some t
      → (v : Replayed) × (replay program (front ++ b ∷ a ∷ behind) ≡ Some v) × (v.state ≡ t.state)
      × ((k : ℕ) → device_calls k program (front ++ b ∷ a ∷ behind) ≡ device_calls k program (front ++ a ∷ b ∷ behind))
  journal-swapped e =
      let s = m.between in
      let whole : replay_from r (a ∷ b ∷ behind) ≡ Some t = sym (from-there (a ∷ b ∷ behind)) ∙ e in
      let second : replay_from s (b ∷ behind) ≡ Some t = sym (ap (option_and_then (λ z. replay_from z (b ∷ behind))) m.replays) ∙ whole in
      option_and_then_some (λ z. replay_from z behind) (replay_entry s b) t second (λ u two rest.
      let w = may-swap r s u a b (calm-replayed program front r before) m m.replays two in
      let k = replayed-alike u w.behind t behind w.state (λ n. sym (w.inside n)) rest in (
        k.behind,
        from-there (b ∷ a ∷ behind) ∙ ap (option_and_then (λ z. replay_from z (a ∷ behind))) w.first ∙ ap (option_and_then (λ z. replay_from z behind)) w.second ∙ k.replays,
        k.state,
        λ device.
            calls-appended device (begun_at program) r front (b ∷ a ∷ behind) before
            ∙ ap (λ ls. device_calls_from device (begun_at program) front ++ ls)
            (two-calls device r w.between w.behind b a behind w.first w.second
            ∙ ap (λ ls. ls ++ device_calls_from device w.behind behind) (w.called device)
            ∙ ap (λ ls. (last_call device a.number a.steps a.fresh a.answer r.state ++ last_call device b.number b.steps b.fresh b.answer s.state) ++ ls) (k.called device)
            ∙ sym (two-calls device r s u a b behind m.replays two))
            ∙ sym (calls-appended device (begun_at program) r front (a ∷ b ∷ behind) before),
      ))
