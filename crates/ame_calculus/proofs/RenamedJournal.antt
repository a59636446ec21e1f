-- A certificate with its locations renamed.
use Rattle.std.proofs.Common.{◌≡◌, ℕ, suc, ◌==◌, ◌++◌, ℤ, Bool, true, false, not, List, [], ◌∷◌, map, filter, Option, Some, None, option_map, cond, refl, sym, ap, ◌∙◌, subst, ◌+◌}
use Rattle.std.specs.BTreeMap.{is_at}
use Rattle.std.specs.List.{list_any}
use Rattle.std.specs.Ordering.{nat_cmp}
use Rattle.std.proofs.lemmas.List.{map-append, length-map}
use Rattle.ame_term.specs.Tree.{Tree}
use Rattle.ame_term.specs.Frame.{Side, side_told}
use Rattle.ame_term.specs.Context.{Focus, focus}
use Rattle.ame_term.specs.Height.{max_height}
use Rattle.ame_term.specs.Maps.{at}
use Rattle.ame_term.specs.State.{State, start, run, at_unprotected}
use Rattle.ame_term.specs.declared.semantics.StepKind.{StepKind}
use Rattle.ame_term.specs.declared.semantics.Label.{Label}
use Rattle.ame_laws.specs.Orderly.{IsOrderly}
use Rattle.ame_laws.proofs.OrderlyLemmas.{run-goes, start-orderly}
use Rattle.ame_journal.specs.declared.entry.Entry.{Entry}
use Rattle.ame_journal.specs.declared.entry.EntryKind.{EntryKind}
use Rattle.ame_journal.specs.Replayed.{Replayed, begun_at, has_such, entering, staying, leaving, is_at_unprotected, side_at, is_false_condition, is_failing, coming_height, is_tall}
use Rattle.ame_journal.specs.Replay.{replay}
use Rattle.ame_journal.specs.Labels.{fresh_of, made_by, IsAnswered, AreSteps, fragment_labels, free_labels, attempt_labels, Unfolds, UnfoldsAll}
use Rattle.ame_journal.specs.Calls.{device_calls}
use Rattle.ame_journal.proofs.CallLemmas.{calls-unfolded}
use Rattle.ame_journal.proofs.LabelLemmas.{unfold-all, unfolds-run, unfolds_all-run}
use Rattle.ame_journal.proofs.UnfoldLemmas.{all-back}
use Rattle.ame_calculus.specs.Renamed.{renamed, AreInverse, renamed_kind, renamed_label, renamed_entry, IsRenamed}
use Rattle.ame_calculus.proofs.RenamedLemmas.{focus-renamed, answer-renamed, unprotected-renamed, condition-renamed, coming-renamed}
use Rattle.ame_calculus.proofs.RenamedCalls.{calls-renamed}
use Rattle.ame_calculus.proofs.RenamedRuns.{LeadsToo, run-too}

module _ (f : ℕ → ℕ) where
  fresh-renamed : (kind : StepKind) → fresh_of (renamed_kind f kind) ≡ map f (fresh_of kind)
  fresh-renamed (StepKind.Alloc l) = refl
  fresh-renamed StepKind.Local = refl
  fresh-renamed StepKind.Read = refl
  fresh-renamed StepKind.Peek = refl
  fresh-renamed StepKind.Write = refl
  fresh-renamed StepKind.Spawn = refl
  fresh-renamed StepKind.Print = refl
  fresh-renamed StepKind.Block = refl
  fresh-renamed (StepKind.Device answer) = refl

  made-renamed : (kinds : List StepKind) → made_by (map (renamed_kind f) kinds) ≡ map f (made_by kinds)
  made-renamed [] = refl
  made-renamed (kind ∷ kinds) =
      ap (λ xs. xs ++ made_by (map (renamed_kind f) kinds)) (fresh-renamed kind) ∙ ap (λ xs. map f (fresh_of kind) ++ xs) (made-renamed kinds)
      ∙ sym (map-append f (fresh_of kind) (made_by kinds))

  answered-renamed : (kinds : List StepKind) (answer : Option ℤ) → IsAnswered kinds answer → IsAnswered (map (renamed_kind f) kinds) answer
  answered-renamed [] answer a = a
  answered-renamed (kind ∷ []) answer a = a ∙ sym (answer-renamed f kind)
  answered-renamed (kind ∷ next ∷ kinds) answer a = (answer-renamed f kind ∙ a.0, answered-renamed (next ∷ kinds) answer a.1)

  steps-renamed : (kinds : List StepKind) (n : ℕ) (fresh : List ℕ) (answer : Option ℤ) → AreSteps kinds n fresh answer → AreSteps (map (renamed_kind f) kinds) n (map f fresh) answer
  steps-renamed kinds n fresh answer are = record {
    count = length-map kinds (renamed_kind f) ∙ are.count;
    made = made-renamed kinds ∙ ap (map f) are.made;
    answered = answered-renamed kinds answer are.answered;
  }

  pub steps_labels : (kinds : List StepKind) → map (renamed_label f) (map Label.Step kinds) ≡ map Label.Step (map (renamed_kind f) kinds)
  steps_labels [] = refl
  steps_labels (kind ∷ kinds) = ap (λ ls. Label.Step (renamed_kind f kind) ∷ ls) (steps_labels kinds)

  frees_labels : (i : ℕ) (kinds : List StepKind) → map (renamed_label f) (free_labels i kinds) ≡ free_labels i (map (renamed_kind f) kinds)
  frees_labels i [] = refl
  frees_labels i (kind ∷ kinds) = ap (λ ls. Label.Free i (renamed_kind f kind) ∷ ls) (frees_labels i kinds)

  fragments_labels : (i : ℕ) (kinds : List StepKind) → map (renamed_label f) (fragment_labels i kinds) ≡ fragment_labels i (map (renamed_kind f) kinds)
  fragments_labels i kinds = ap (λ ls. Label.Activate i ∷ ls) (steps_labels kinds)

  attempts_labels : (side : Side) (i : ℕ) (kinds : List StepKind) → map (renamed_label f) (attempt_labels side i kinds) ≡ attempt_labels side i (map (renamed_kind f) kinds)
  attempts_labels Side.Protected i kinds = fragments_labels i kinds
  attempts_labels Side.Unprotected i kinds = frees_labels i kinds

  -- A test of a member

  such-renamed : (test : Focus → Bool) → ((t : Tree) → test (focus (renamed f t)) ≡ test (focus t)) → (o p : Option Tree) → p ≡ option_map (renamed f) o
      → has_such (λ t. test (focus t)) p ≡ has_such (λ t. test (focus t)) o
  such-renamed test same None p e = ap (has_such (λ t. test (focus t))) e
  such-renamed test same (Some t) p e = ap (has_such (λ z. test (focus z))) e ∙ same t

  module _ (s t : State) (r : IsRenamed f s t) (i : ℕ) where
    unprotected-too : is_at_unprotected i t ≡ is_at_unprotected i s
    unprotected-too = such-renamed at_unprotected (λ z. ap at_unprotected (focus-renamed f z) ∙ unprotected-renamed f (focus z)) (at s.members i) (at t.members i) (r.members i)

    side-too : side_at i t ≡ side_at i s
    side-too = ap side_told unprotected-too

    pub failing-too : is_failing i t ≡ is_failing i s
    failing-too = such-renamed is_false_condition (λ z. ap is_false_condition (focus-renamed f z) ∙ condition-renamed f (focus z)) (at s.members i) (at t.members i) (r.members i)

    tall-too : (side : Side) → is_tall side i t ≡ is_tall side i s
    tall-too side =
        such-renamed (λ p. coming_height side p == max_height + 1) (λ z. ap (λ n. n == max_height + 1) (ap (coming_height side) (focus-renamed f z) ∙ coming-renamed f side (focus z)))
        (at s.members i) (at t.members i) (r.members i)

-- An entry renamed unfolds into its labels renamed, and comes to a state renamed.
record IsUnfoldedToo (f : ℕ → ℕ) (t : Replayed) (i : ℕ) (kind : EntryKind) (n : ℕ) (fresh : List ℕ) (answer : Option ℤ) (labels : List Label) (u : Replayed) : Type 0 where
  pub behind : Replayed
  pub unfolds : Unfolds t i kind n (map f fresh) answer (map (renamed_label f) labels) behind
  pub renames : IsRenamed f u.state behind.state
  pub inside : behind.inside ≡ u.inside

module _ (f g : ℕ → ℕ) (inverse : AreInverse f g) where
  -- a run by labels that are those of the renamed kinds
  run-so : (labels others : List Label) (s t u : State) → map (renamed_label f) labels ≡ others → IsOrderly s → IsOrderly t → IsRenamed f s t → run s labels ≡ Some u → LeadsToo f (run t others) u
  run-so labels others s t u e ordered so r runs =
      let x = run-too f g inverse labels s t u ordered so r runs in
      record { behind = x.behind; leads = ap (run t) (sym e) ∙ x.leads; renames = x.renames }

  and_more : (labels others : List Label) (label : Label) → map (renamed_label f) labels ≡ others → map (renamed_label f) (labels ++ label ∷ []) ≡ others ++ renamed_label f label ∷ []
  and_more labels others label e = map-append (renamed_label f) labels (label ∷ []) ∙ ap (λ ls. ls ++ renamed_label f label ∷ []) e

  module _ (t : Replayed) (so : IsOrderly t.state) where
    entry-too : (r : Replayed) (i : ℕ) (kind : EntryKind) (n : ℕ) (fresh : List ℕ) (answer : Option ℤ) (labels : List Label) (u : Replayed) → Unfolds r i kind n fresh answer labels u
        → IsOrderly r.state → IsRenamed f r.state t.state → t.inside ≡ r.inside → IsUnfoldedToo f t i kind n fresh answer labels u
    entry-too r i _ _ _ _ _ _ (Unfolds.leaves kinds n fresh s outside are runs) ordered renames same =
        let ks = map (renamed_kind f) kinds in
        let x = run-so (fragment_labels i kinds ++ Label.Leave ∷ []) (fragment_labels i ks ++ Label.Leave ∷ []) r.state t.state s
        (and_more (fragment_labels i kinds) (fragment_labels i ks) Label.Leave (fragments_labels f i kinds)) ordered so renames runs in
        record {
          behind = entering t i x.behind;
          unfolds =
              subst (λ (ls : List Label). Unfolds t i EntryKind.Ran n (map f fresh) None ls (entering t i x.behind)) (sym (and_more (fragment_labels i kinds) (fragment_labels i ks) Label.Leave (fragments_labels f i kinds)))
              (Unfolds.leaves ks n (map f fresh) x.behind (ap (list_any (λ j. j == i)) same ∙ outside) (steps-renamed f kinds n fresh None are) x.leads);
          renames = x.renames;
          inside = ap (λ xs. i ∷ xs) same;
        }
    entry-too r i _ _ _ _ _ _ (Unfolds.ends kinds n fresh s outside are runs) ordered renames same =
        let ks = map (renamed_kind f) kinds in
        let x = run-so (fragment_labels i kinds ++ Label.End ∷ []) (fragment_labels i ks ++ Label.End ∷ []) r.state t.state s
        (and_more (fragment_labels i kinds) (fragment_labels i ks) Label.End (fragments_labels f i kinds)) ordered so renames runs in
        record {
          behind = staying t x.behind;
          unfolds =
              subst (λ (ls : List Label). Unfolds t i EntryKind.Ran n (map f fresh) None ls (staying t x.behind)) (sym (and_more (fragment_labels i kinds) (fragment_labels i ks) Label.End (fragments_labels f i kinds)))
              (Unfolds.ends ks n (map f fresh) x.behind (ap (list_any (λ j. j == i)) same ∙ outside) (steps-renamed f kinds n fresh None are) x.leads);
          renames = x.renames;
          inside = same;
        }
    entry-too r i _ _ _ _ _ _ (Unfolds.arrives outside is) ordered renames same = record {
      behind = entering t i t.state;
      unfolds = Unfolds.arrives (ap (list_any (λ j. j == i)) same ∙ outside) (unprotected-too f r.state t.state renames i ∙ is);
      renames = renames;
      inside = ap (λ xs. i ∷ xs) same;
    }
    entry-too r i _ _ _ _ _ _ (Unfolds.goes_on kinds n fresh answer s inside are runs) ordered renames same =
        let ks = map (renamed_kind f) kinds in
        let x = run-so (free_labels i kinds) (free_labels i ks) r.state t.state s (frees_labels f i kinds) ordered so renames runs in
        record {
          behind = staying t x.behind;
          unfolds =
              subst (λ (ls : List Label). Unfolds t i EntryKind.Free (suc n) (map f fresh) answer ls (staying t x.behind)) (sym (frees_labels f i kinds))
              (Unfolds.goes_on ks n (map f fresh) answer x.behind (ap (list_any (λ j. j == i)) same ∙ inside) (steps-renamed f kinds (suc n) fresh answer are) x.leads);
          renames = x.renames;
          inside = same;
        }
    entry-too r i _ _ _ _ _ _ (Unfolds.closes kinds n fresh s inside are runs) ordered renames same =
        let ks = map (renamed_kind f) kinds in
        let x = run-so (free_labels i kinds ++ Label.Close i ∷ []) (free_labels i ks ++ Label.Close i ∷ []) r.state t.state s
        (and_more (free_labels i kinds) (free_labels i ks) (Label.Close i) (frees_labels f i kinds)) ordered so renames runs in
        record {
          behind = leaving t i x.behind;
          unfolds =
              subst (λ (ls : List Label). Unfolds t i EntryKind.Free (suc n) (map f fresh) None ls (leaving t i x.behind)) (sym (and_more (free_labels i kinds) (free_labels i ks) (Label.Close i) (frees_labels f i kinds)))
              (Unfolds.closes ks n (map f fresh) x.behind (ap (list_any (λ j. j == i)) same ∙ inside) (steps-renamed f kinds n fresh None are) x.leads);
          renames = x.renames;
          inside = ap (filter (λ j. not (j == i))) same;
        }
    entry-too r i _ _ _ _ _ _ (Unfolds.fails kinds n fresh s are runs fails) ordered renames same =
        let ks = map (renamed_kind f) kinds in
        let x = run-so (fragment_labels i kinds) (fragment_labels i ks) r.state t.state s (fragments_labels f i kinds) ordered so renames runs in
        record {
          behind = t;
          unfolds = Unfolds.fails ks n (map f fresh) x.behind (steps-renamed f kinds n fresh None are) x.leads (failing-too f s x.behind x.renames i ∙ fails);
          renames = renames;
          inside = same;
        }
    entry-too r i _ _ _ _ _ _ (Unfolds.is_cut kinds n fresh s are runs) ordered renames same =
        let ks = map (renamed_kind f) kinds in
        let side = side-too f r.state t.state renames i in
        let x = run-so (attempt_labels (side_at i r.state) i kinds) (attempt_labels (side_at i r.state) i ks) r.state t.state s (attempts_labels f (side_at i r.state) i kinds) ordered so renames runs in
        record {
          behind = t;
          unfolds = Unfolds.is_cut ks n (map f fresh) x.behind (steps-renamed f kinds n fresh None are) (ap (λ (z : Side). run t.state (attempt_labels z i ks)) side ∙ x.leads);
          renames = renames;
          inside = same;
        }
    entry-too r i _ _ _ _ _ _ (Unfolds.grows kinds n fresh s are runs tall) ordered renames same =
        let ks = map (renamed_kind f) kinds in
        let side = side-too f r.state t.state renames i in
        let x = run-so (attempt_labels (side_at i r.state) i kinds) (attempt_labels (side_at i r.state) i ks) r.state t.state s (attempts_labels f (side_at i r.state) i kinds) ordered so renames runs in
        record {
          behind = t;
          unfolds = Unfolds.grows ks n (map f fresh) x.behind (steps-renamed f kinds n fresh None are) (ap (λ (z : Side). run t.state (attempt_labels z i ks)) side ∙ x.leads)
              (ap (λ (z : Side). is_tall z i x.behind) side ∙ tall-too f s x.behind x.renames i (side_at i r.state) ∙ tall);
          renames = renames;
          inside = same;
        }

  -- All entries

  pub record AreUnfoldedToo (t : Replayed) (entries : List Entry) (labels : List Label) (u : Replayed) : Type 0 where
    pub behind : Replayed
    pub unfolds : UnfoldsAll t (map (renamed_entry f) entries) (map (renamed_label f) labels) behind
    pub renames : IsRenamed f u.state behind.state
    pub inside : behind.inside ≡ u.inside

  entries-too : (r t : Replayed) (entries : List Entry) (labels : List Label) (u : Replayed) → UnfoldsAll r entries labels u → IsOrderly r.state → IsOrderly t.state → IsRenamed f r.state t.state
      → t.inside ≡ r.inside → AreUnfoldedToo t entries labels u
  entries-too _ t _ _ _ (UnfoldsAll.done r) ordered so renames same = record { behind = t; unfolds = UnfoldsAll.done t; renames = renames; inside = same }
  entries-too _ t _ _ _ (UnfoldsAll.next r s u entry entries labels more first others) ordered so renames same =
      let x = entry-too t so r entry.number entry.kind entry.steps entry.fresh entry.answer labels s first ordered renames same in
      let ordered_then = (run-goes r.state labels s.state (unfolds-run r entry.number entry.kind entry.steps entry.fresh entry.answer labels s first)).orderly ordered in
      let so_then =
      (run-goes t.state (map (renamed_label f) labels) x.behind.state
      (unfolds-run t entry.number entry.kind entry.steps (map f entry.fresh) entry.answer (map (renamed_label f) labels) x.behind x.unfolds)).orderly so in
      let y = entries-too s x.behind entries more u others ordered_then so_then x.renames x.inside in
      record {
        behind = y.behind;
        unfolds =
            subst (λ (ls : List Label). UnfoldsAll t (renamed_entry f entry ∷ map (renamed_entry f) entries) ls y.behind) (sym (map-append (renamed_label f) labels more))
            (UnfoldsAll.next t x.behind y.behind (renamed_entry f entry) (map (renamed_entry f) entries) (map (renamed_label f) labels) (map (renamed_label f) more) x.unfolds y.unfolds);
        renames = y.renames;
        inside = y.inside;
      }

  -- the program with its locations renamed begins renamed
  begun-renamed : (program : Tree) → IsRenamed f (start program) (start (renamed f program))
  begun-renamed program = record { store = λ l. refl; members = λ i. only i; active = refl; output = refl; next = refl }
    where
      only : (i : ℕ) → at (start (renamed f program)).members i ≡ option_map (renamed f) (at (start program).members i)
      only i = by (is_at (nat_cmp i) 0)
        where
          by : (b : Bool) → cond b (Some (renamed f program)) None ≡ option_map (renamed f) (cond b (Some program) None)
          by true = refl
          by false = refl

  -- what a certificate and the renamed one have in common
  pub record IsReplayedToo (program : Tree) (again : Tree) (entries : List Entry) (r : Replayed) : Type 0 where
    pub behind : Replayed
    pub replays : replay again (map (renamed_entry f) entries) ≡ Some behind
    pub renames : IsRenamed f r.state behind.state
    pub inside : behind.inside ≡ r.inside
    pub called : (k : ℕ) → device_calls k again (map (renamed_entry f) entries) ≡ device_calls k program entries

  pub replay-too : (program : Tree) (entries : List Entry) (r : Replayed) → replay program entries ≡ Some r → IsReplayedToo program (renamed f program) entries r
  replay-too program entries r e =
      let all = unfold-all (begun_at program) entries r e in
      let begun = begun-renamed program in
      let x = entries-too (begun_at program) (begun_at (renamed f program)) entries all.0 r all.1 (start-orderly program) (start-orderly (renamed f program)) begun refl in
      record {
        behind = x.behind;
        replays = all-back (begun_at (renamed f program)) (map (renamed_entry f) entries) (map (renamed_label f) all.0) x.behind x.unfolds;
        renames = x.renames;
        inside = x.inside;
        called = λ k.
            calls-unfolded k (begun_at (renamed f program)) (map (renamed_entry f) entries) (map (renamed_label f) all.0) x.behind x.unfolds
            ∙ calls-renamed f g inverse k all.0 (start program) (start (renamed f program)) r.state (start-orderly program) (start-orderly (renamed f program)) begun
            (unfolds_all-run (begun_at program) entries all.0 r all.1)
            ∙ sym (calls-unfolded k (begun_at program) entries all.0 r all.1);
      }

  -- a program in which no location is renamed
  pub replay-so : (program : Tree) (entries : List Entry) (r : Replayed) → renamed f program ≡ program → replay program entries ≡ Some r → IsReplayedToo program program entries r
  replay-so program entries r same e = subst (λ (p : Tree). IsReplayedToo program p entries r) same (replay-too program entries r e)
