-- The members inside, label by label, and the number of entries.
use Rattle.std.proofs.Common.{◌≡◌, ℕ, suc, ◌+◌, ◌<◌, ◌≤◌, ◌==◌, ◌++◌, Bool, true, false, not, List, [], ◌∷◌, length, drop, get_or, filter, refl, sym, ap, ◌∙◌, arith, cond, eqb-true}
use Rattle.std.specs.Prelude.{◌&&◌, ◌||◌, None}
use Rattle.std.specs.BTreeMap.{is_at}
use Rattle.std.specs.BTreeSet.{BTreeSet, contains}
use Rattle.std.specs.List.{list_any}
use Rattle.std.specs.Ordering.{nat_cmp}
use Rattle.std.proofs.lemmas.Map.Views.{any-filter_same}
use Rattle.std.proofs.lemmas.List.{append_assoc, append-nil, length-append, drop_more, drop_all}
use Rattle.std.proofs.lemmas.Bool.Decides.{nat_tests}
use Rattle.ame_term.specs.Act.{device_answer}
use Rattle.ame_term.specs.declared.semantics.StepKind.{StepKind}
use Rattle.ame_term.specs.declared.semantics.Label.{Label}
use Rattle.ame_journal.specs.declared.entry.Entry.{Entry}
use Rattle.ame_journal.specs.Labels.{fresh_of}
use Rattle.ame_weak.specs.Straight.{Place, outset, freed, arrival, came, entries_of_label, past}
use Rattle.ame_weak.specs.Tries.{noted_tries, tries_behind}
use Rattle.ame_weak.specs.declared.tries.Try.{Try}
use Rattle.ame_labels.specs.EntryNumbers.{counts_from}
use Rattle.ame_labels.specs.Ledger.{IsLedgerAt, LedgerPasses, ComesIn, CountsMore}
use Rattle.ame_labels.specs.declared.entry_count.EntryCount.{EntryCount}

-- Some notes of these tries are counted, and the rest is to come.
pub record IsCountedSoFar (n : ℕ) (all rest : List Try) (old new : EntryCount) : Type 0 where
  pub count : new.count + length (noted_tries n rest) ≡ old.count + length (noted_tries n all)
  pub others : tries_behind n rest ≡ tries_behind n all
  pub inside : new.inside ≡ old.inside
  pub number : new.number ≡ old.number

pub one-more : (n i : ℕ) (x : Bool) → cond (is_at (nat_cmp n) i) true x ≡ ((n == i) || x)
one-more n i x = grind (arith, nat_tests)

pub one-less : (n i : ℕ) (x : Bool) → cond (is_at (nat_cmp n) i) false x ≡ (not (i == n) && x)
one-less n i x = grind (arith, nat_tests)

pub ledger-entered : (p : Place) (l : EntryCount) (inside : BTreeSet ℕ) → IsLedgerAt p l
    → ((i : ℕ) → contains nat_cmp inside i ≡ cond (is_at (nat_cmp l.number) i) true (contains nat_cmp l.inside i))
    → IsLedgerAt (record p { inside = p.number ∷ p.inside }) (record l { inside = inside })
ledger-entered p l inside s update = record {
  inside = λ i.
      update i ∙ ap (cond (is_at (nat_cmp l.number) i) true) (s.inside i) ∙ one-more l.number i (list_any (λ j. j == i) p.inside)
      ∙ ap (λ n. (n == i) || list_any (λ j. j == i) p.inside) s.number;
  number = s.number;
}

pub others-same : (i n k : ℕ) → (k == i) ≡ true → not (k == n) ≡ not (i == n)
others-same i n k e = ap (λ m. not (m == n)) (eqb-true k i e)

pub ledger-left : (p : Place) (l : EntryCount) (n : ℕ) (inside : BTreeSet ℕ) → IsLedgerAt p l
    → ((i : ℕ) → contains nat_cmp inside i ≡ cond (is_at (nat_cmp n) i) false (contains nat_cmp l.inside i))
    → IsLedgerAt (record p { inside = filter (λ j. not (j == n)) p.inside }) (record l { inside = inside })
ledger-left p l n inside s update = record {
  inside = λ i.
      update i ∙ ap (cond (is_at (nat_cmp n) i) false) (s.inside i) ∙ one-less n i (list_any (λ j. j == i) p.inside)
      ∙ sym (any-filter_same (λ j. j == i) (λ j. not (j == n)) (not (i == n)) (λ k e. others-same i n k e) p.inside);
  number = s.number;
}

-- it still stands for a place
pub ledger-same : (p : Place) (n : ℕ) (old new : EntryCount) → CountsMore n old new → IsLedgerAt p old → IsLedgerAt p new
ledger-same p n old new a s = record {
  inside = λ i. ap (λ (z : BTreeSet ℕ). contains nat_cmp z i) a.inside ∙ s.inside i;
  number = a.number ∙ s.number;
}

pub steps-there : (l : EntryCount) (kind : StepKind) → LedgerPasses (Label.Step kind) l l
steps-there l kind p s = (record { inside = s.inside; number = s.number }, omega arith)

pub ends-there : (old new : EntryCount) → CountsMore 1 old new → LedgerPasses Label.End old new
ends-there old new m p s = (ledger-same p 1 old new m s, m.count)

pub leaves-there : (old added : EntryCount) (inside : BTreeSet ℕ) → CountsMore 1 old added
    → ((i : ℕ) → contains nat_cmp inside i ≡ cond (is_at (nat_cmp added.number) i) true (contains nat_cmp added.inside i))
    → LedgerPasses Label.Leave old (record added { inside = inside })
leaves-there old added inside m update p s = (ledger-entered p added inside (ledger-same p 1 old added m s) update, m.count)

-- an entry after the arrival
one-behind : (i : ℕ) (entry : Entry) (p : Place) (old arrived added : EntryCount) → arrived.count ≡ old.count + length (arrival p.inside i) → CountsMore 1 arrived added
    → added.count ≡ old.count + length (arrival p.inside i ++ entry ∷ [])
one-behind i entry p old arrived added came_in m = omega (arith, m.count, came_in, length-append (arrival p.inside i) (entry ∷ []))

pub frees-there : (i : ℕ) (old arrived added : EntryCount) → ComesIn i old arrived → CountsMore 1 arrived added → (kind : StepKind) → LedgerPasses (Label.Free i kind) old added
frees-there i old arrived added c m kind p s =
    let x = c p s in (
      ledger-same (record p { inside = came p.inside i }) 1 arrived added m x.0,
      one-behind i (freed i (fresh_of kind) (device_answer kind)) p old arrived added x.1 m,
    )

pub closes-there : (i : ℕ) (old arrived added : EntryCount) (inside : BTreeSet ℕ) → ComesIn i old arrived → CountsMore 1 arrived added
    → ((j : ℕ) → contains nat_cmp inside j ≡ cond (is_at (nat_cmp i) j) false (contains nat_cmp added.inside j))
    → LedgerPasses (Label.Close i) old (record added { inside = inside })
closes-there i old arrived added inside c m update p s =
    let x = c p s in (
      ledger-left (record p { inside = came p.inside i }) added i inside (ledger-same (record p { inside = came p.inside i }) 1 arrived added m x.0) update,
      one-behind i (freed i [] None) p old arrived added x.1 m,
    )

-- The counts of the first k labels, with those of the labels and tries to come, are all of them.
pub record AreCountsTo (labels : List Label) (tries : List Try) (k : ℕ) (rest : List Try) (l : EntryCount) (counts : List ℕ) : Type 0 where
  pub place : Place
  pub stands : IsLedgerAt place l
  pub counted : counts ++ counts_from k l.count rest place (drop k labels) ≡ counts_from 0 0 tries outset labels

module _ (labels : List Label) (tries : List Try) where
  pub counts-more : (k : ℕ) (ts rest : List Try) (l noted next : EntryCount) (counts more : List ℕ) (d : Label) → AreCountsTo labels tries k ts l counts → k < length labels
      → CountsMore (length (noted_tries k ts)) l noted → rest ≡ tries_behind k ts → LedgerPasses (get_or labels k d) noted next → more ≡ counts ++ next.count ∷ []
      → AreCountsTo labels tries (k + 1) rest next more
  counts-more k ts rest l noted next counts more d c within notes others passes added =
      let label = get_or labels k d in
      let x = passes c.place (ledger-same c.place (length (noted_tries k ts)) l noted notes c.stands) in
      let told : next.count ≡ l.count + length (noted_tries k ts) + length (entries_of_label c.place label) =
      x.1 ∙ ap (λ (m : ℕ). m + length (entries_of_label c.place label)) notes.count in
      let later = counts_from (k + 1) next.count (tries_behind k ts) (past c.place label) (drop (k + 1) labels) in
      record {
        place = past c.place label;
        stands = x.0;
        counted =
            ap (λ (us : List Try). more ++ counts_from (k + 1) next.count us (past c.place label) (drop (k + 1) labels)) others
            ∙ ap (λ (ns : List ℕ). ns ++ later) added
            ∙ append_assoc counts (next.count ∷ []) later
            ∙ ap (λ (m : ℕ). counts ++ (m ∷ counts_from (k + 1) m (tries_behind k ts) (past c.place label) (drop (k + 1) labels))) told
            ∙ ap (λ (ls : List Label). counts ++ counts_from k l.count ts c.place ls) (sym (drop_more labels k d within))
            ∙ c.counted;
      }

pub counts-end : (labels : List Label) (tries : List Try) (k : ℕ) (ts : List Try) (l : EntryCount) (counts : List ℕ) → length labels ≤ k
    → AreCountsTo labels tries k ts l counts → counts ≡ counts_from 0 0 tries outset labels
counts-end labels tries k ts l counts all c =
    sym (append-nil counts) ∙ ap (λ (ls : List Label). counts ++ counts_from k l.count ts c.place ls) (sym (drop_all k labels all)) ∙ c.counted

pub length-counts : (n m : ℕ) (tries : List Try) (p : Place) (labels : List Label) → length (counts_from n m tries p labels) ≡ length labels
length-counts n m tries p [] = refl
length-counts n m tries p (label ∷ labels) =
    ap (λ (k : ℕ). suc k)
    (length-counts (n + 1) (m + length (noted_tries n tries) + length (entries_of_label p label)) (tries_behind n tries) (past p label) labels)
