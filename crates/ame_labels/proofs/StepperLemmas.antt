-- The labels of entries, and their rows.
use Rattle.std.proofs.Common.{◌≡◌, ℕ, suc, ◌+◌, ◌<◌, ◌==◌, ℤ, Bool, true, false, not, cond, List, [], ◌∷◌, ◌++◌, map, length, take, get_or, Option, Some, None, refl, sym, ap, ◌∙◌, subst, arith, append_assoc, append-nil, length-append, eqb-true}
use Rattle.std.specs.BTreeMap.{is_at}
use Rattle.std.specs.BTreeSet.{BTreeSet, contains}
use Rattle.std.specs.List.{list_any}
use Rattle.std.specs.Ordering.{nat_cmp}
use Rattle.std.specs.Prelude.{codes, option_and_then, is_none, is_some, IfSome, if◌then◌else◌}
use Rattle.std.proofs.lemmas.List.{map-append, take_more, length-take}
use Rattle.std.proofs.lemmas.Map.Views.{any-filter_same}
use Rattle.ame_lex.specs.Bytes.{Text}
use Rattle.ame_term.specs.Act.{device_answer}
use Rattle.ame_term.specs.Context.{focus}
use Rattle.ame_term.specs.Maps.{at}
use Rattle.ame_term.specs.State.{State, start, after, run, activated, at_unprotected}
use Rattle.ame_term.specs.Tree.{Tree}
use Rattle.ame_term.specs.declared.semantics.Label.{Label}
use Rattle.ame_term.specs.declared.semantics.StepKind.{StepKind}
use Rattle.ame_term.specs.declared.types.Loc.{Loc}
use Rattle.ame_journal.specs.declared.entry.Entry.{Entry}
use Rattle.ame_journal.specs.declared.entry.EntryKind.{EntryKind}
use Rattle.ame_journal.specs.Labels.{fresh_of, made_by, IsAnswered, AreSteps, fragment_labels, free_labels, Unfolds}
use Rattle.ame_journal.specs.Totals.{is_note}
use Rattle.ame_journal.specs.Replayed.{Replayed, begun_at, is_inside, has_such, is_at_unprotected, entering, staying, leaving}
use Rattle.ame_journal.proofs.LabelLemmas.{run-one, run-two}
use Rattle.ame_print.specs.Printer.{spelling_of}
use Rattle.ame_strong.specs.Pool.{but, pool}
use Rattle.ame_strong.specs.View.{state_of}
use Rattle.ame_labels.specs.Stepped.{kind_of, label_words, reduced_term, shown_term, changed_location, stored_words, started_words, label_row, entry_heading, HasLabels, Rows, ShowsSteps}
use Rattle.ame_labels.specs.Steppers.{ShowsSame, AddsRow, AddsAll, TakesLabel, MakesStep, StepsAlong, step_label, AreSilent, MakesLast, IsStepperAt, MakesLabels, MakesEntry}
use Rattle.ame_labels.specs.declared.steps.Stepper.{Stepper}
use Rattle.ame_labels.proofs.LedgerLemmas.{one-more, one-less, others-same}

-- Rows

pub rows-run : (names : List Text) (s : State) (labels : List Label) (page : List ℕ) (t : State) → Rows names s labels page t → run s labels ≡ Some t
rows-run names s _ _ _ Rows.none = refl
rows-run names s _ _ _ (Rows.more labels page t u label before legal) =
    run-two s t u labels (label ∷ []) (rows-run names s labels page t before) (run-one t u label legal)

rows-append : (names : List Text) (s t : State) (xs : List Label) (p : List ℕ) → Rows names s xs p t → (ys : List Label) (q : List ℕ) (u : State) → Rows names t ys q u
    → Rows names s (xs ++ ys) (p ++ q) u
rows-append names s t xs p first _ _ _ Rows.none =
    subst (λ (z : List Label). Rows names s z (p ++ []) t) (sym (append-nil xs)) (subst (λ (z : List ℕ). Rows names s xs z t) (sym (append-nil p)) first)
rows-append names s t xs p first _ _ _ (Rows.more labels page v w label before legal) =
    let row = label_row names v label w in
    subst (λ (z : List Label). Rows names s z (p ++ (page ++ row)) w) (append_assoc xs labels (label ∷ []))
    (subst (λ (z : List ℕ). Rows names s ((xs ++ labels) ++ label ∷ []) z w) (append_assoc p page row)
    (Rows.more (xs ++ labels) (p ++ page) v w label (rows-append names s t xs p first labels page v before) legal))

-- Labels that were made

adds-one : (label : Label) (old new : Stepper) → AddsRow label old new → AddsAll (label ∷ []) old new
adds-one label old new a = record {
  names = a.names;
  part = label_row (spelling_of old.names.items) (state_of old.state) label (state_of new.state);
  rows = Rows.more [] [] (state_of old.state) (state_of new.state) label Rows.none a.legal;
  page = a.page;
}

adds-then : (xs ys : List Label) (a b c : Stepper) → AddsAll xs a b → AddsAll ys b c → AddsAll (xs ++ ys) a c
adds-then xs ys a b c x y = record {
  names = y.names ∙ x.names;
  part = x.part ++ y.part;
  rows =
      rows-append (spelling_of a.names.items) (state_of a.state) (state_of b.state) xs x.part x.rows ys y.part (state_of c.state)
      (subst (λ (ns : List Text). Rows ns (state_of b.state) ys y.part (state_of c.state)) x.names y.rows);
  page = y.page ∙ ap (λ (z : List ℕ). z ++ y.part) x.page ∙ append_assoc a.page x.part y.part;
}

made_by-append : (xs ys : List StepKind) → made_by (xs ++ ys) ≡ made_by xs ++ made_by ys
made_by-append [] ys = refl
made_by-append (x ∷ xs) ys = ap (λ (z : List ℕ). fresh_of x ++ z) (made_by-append xs ys) ∙ sym (append_assoc (fresh_of x) (made_by xs) (made_by ys))

made_by-more : (kinds : List StepKind) (kind : StepKind) → made_by (kinds ++ kind ∷ []) ≡ made_by kinds ++ fresh_of kind
made_by-more kinds kind = made_by-append kinds (kind ∷ []) ∙ ap (λ (z : List ℕ). made_by kinds ++ z) (append-nil (fresh_of kind))

silent-more : (kinds : List StepKind) (kind : StepKind) → AreSilent kinds → device_answer kind ≡ None → AreSilent (kinds ++ kind ∷ [])
silent-more [] kind s e = (e, tt)
silent-more (k ∷ ks) kind s e = (s.0, silent-more ks kind s.1 e)

answered-silent : (kinds : List StepKind) → AreSilent kinds → IsAnswered kinds None
answered-silent [] s = refl
answered-silent (k ∷ []) s = sym s.0
answered-silent (k ∷ l ∷ ks) s = (s.0, answered-silent (l ∷ ks) s.1)

answered-last : (kinds : List StepKind) (kind : StepKind) → AreSilent kinds → IsAnswered (kinds ++ kind ∷ []) (device_answer kind)
answered-last [] kind s = refl
answered-last (k ∷ []) kind s = (s.0, refl)
answered-last (k ∷ l ∷ ks) kind s = (s.0, answered-last (l ∷ ks) kind s.1)

pub steps-begin : (inside : Option ℕ) (fresh : List ℕ) (s : Stepper) → StepsAlong inside 0 fresh fresh s s
steps-begin inside fresh s = record {
  kinds = [];
  count = refl;
  made = refl;
  silent = tt;
  adds = record { names = refl; part = []; rows = Rows.none; page = sym (append-nil s.page) };
  kept = refl;
}

pub steps-more : (inside : Option ℕ) (n : ℕ) (fresh mid rest : List ℕ) (a b c : Stepper) → StepsAlong inside n fresh mid a b → MakesStep inside mid rest b c
    → StepsAlong inside (n + 1) fresh rest a c
steps-more inside n fresh mid rest a b c x y = record {
  kinds = x.kinds ++ y.kind ∷ [];
  count = length-append x.kinds (y.kind ∷ []) ∙ ap (λ (k : ℕ). k + 1) x.count;
  made =
      x.made ∙ ap (λ (z : List ℕ). made_by x.kinds ++ z) y.uses.made ∙ sym (append_assoc (made_by x.kinds) (fresh_of y.kind) rest)
      ∙ ap (λ (z : List ℕ). z ++ rest) (sym (made_by-more x.kinds y.kind));
  silent = silent-more x.kinds y.kind x.silent y.uses.silent;
  adds =
      subst (λ (ls : List Label). AddsAll ls a c) (sym (map-append (step_label inside) x.kinds (y.kind ∷ [])))
      (adds-then (map (step_label inside) x.kinds) (step_label inside y.kind ∷ []) a b c x.adds (adds-one (step_label inside y.kind) b c y.adds));
  kept = y.kept ∙ x.kept;
}

-- what isn't there
pub none-of : (ls : List Loc) → (length ls == 0) ≡ true → map (λ l. l.0) ls ≡ []
none-of [] e = refl
none-of (l ∷ ls) e = let none : length (l ∷ ls) ≡ 0 = eqb-true (length (l ∷ ls)) 0 e in cc

-- all the locations of an entry are used
pub uses-all : (inside : Option ℕ) (n : ℕ) (fresh rest all : List ℕ) (a b : Stepper) → StepsAlong inside n fresh rest a b → fresh ≡ all → rest ≡ []
    → StepsAlong inside n all [] a b
uses-all inside n fresh rest all a b along same none =
    subst (λ (z : List ℕ). StepsAlong inside n z [] a b) same (subst (λ (z : List ℕ). StepsAlong inside n fresh z a b) none along)

-- another set of members is inside
pub adds-inside : (label : Label) (a b : Stepper) (inside : BTreeSet ℕ) → AddsRow label a b → AddsRow label a (record b { inside = inside })
adds-inside label a b inside adds = record { names = adds.names; legal = adds.legal; page = adds.page }

-- Last steps

pub last-answered : (i : ℕ) (fresh : List ℕ) (told : Option ℤ) (answer : ℤ) (m : Bool) (old new : Stepper) → told ≡ Some answer → fresh ≡ []
    → TakesLabel (Label.Free i (StepKind.Device answer)) m old new → m ≡ true → MakesLast i fresh told old new
last-answered i fresh told answer m old new is none takes so = MakesLast.steps (StepKind.Device answer) none is (takes.made so) takes.inside

pub last-step : (i : ℕ) (fresh rest : List ℕ) (told : Option ℤ) (old new : Stepper) → told ≡ None → MakesStep (Some i) fresh rest old new → rest ≡ []
    → MakesLast i fresh told old new
last-step i fresh rest told old new is s none =
    MakesLast.steps s.kind (s.uses.made ∙ ap (λ (z : List ℕ). fresh_of s.kind ++ z) none ∙ append-nil (fresh_of s.kind)) (is ∙ sym s.uses.silent) s.adds s.kept

pub last-closed : (i : ℕ) (fresh : List ℕ) (m : Bool) (old mid : Stepper) (inside : BTreeSet ℕ) → fresh ≡ [] → TakesLabel (Label.Close i) m old mid → m ≡ true
    → ((k : ℕ) → contains nat_cmp inside k ≡ cond (is_at (nat_cmp i) k) false (contains nat_cmp mid.inside k)) → MakesLast i fresh None old (record mid { inside = inside })
last-closed i fresh m old mid inside none takes so update =
    MakesLast.closes none refl (adds-inside (Label.Close i) old mid inside (takes.made so))
    (λ k. update k ∙ ap (λ (z : BTreeSet ℕ). cond (is_at (nat_cmp i) k) false (contains nat_cmp z k)) takes.inside)

-- the members inside

module _ (r : Replayed) (i : ℕ) (s : State) (old new : BTreeSet ℕ) (stands : (k : ℕ) → contains nat_cmp old k ≡ is_inside r k) where
  pub inside-entered : ((k : ℕ) → contains nat_cmp new k ≡ cond (is_at (nat_cmp i) k) true (contains nat_cmp old k))
      → (k : ℕ) → contains nat_cmp new k ≡ is_inside (entering r i s) k
  inside-entered update k = update k ∙ ap (cond (is_at (nat_cmp i) k) true) (stands k) ∙ one-more i k (is_inside r k)

  pub inside-left : ((k : ℕ) → contains nat_cmp new k ≡ cond (is_at (nat_cmp i) k) false (contains nat_cmp old k))
      → (k : ℕ) → contains nat_cmp new k ≡ is_inside (leaving r i s) k
  inside-left update k =
      update k ∙ ap (cond (is_at (nat_cmp i) k) false) (stands k) ∙ one-less i k (is_inside r k)
      ∙ sym (any-filter_same (λ j. j == k) (λ j. not (j == i)) (not (k == i)) (λ j e. others-same k i j e) r.inside)

-- Entries

-- a member that can't begin although none is active has come to `unprotected`
pub stays-outside : (s : State) (i : ℕ) (term : Tree) → s.active ≡ None → at s.members i ≡ Some term → after s (Label.Activate i) ≡ None → is_at_unprotected i s ≡ true
unfolding after
stays-outside s i term idle there refused =
    ap (has_such (λ (t : Tree). at_unprotected (focus t))) there
    ∙ by (at_unprotected (focus term)) refl
    (sym (ap (λ (o : Option ℕ). if is_none o then activated i s else None) idle
    ∙ ap (option_and_then (λ (t : Tree). if at_unprotected (focus t) then None else Some (record s { active = Some i }))) there) ∙ refused)
  where
    by : (b : Bool) → at_unprotected (focus term) ≡ b → (if b then None else Some (record s { active = Some i })) ≡ None → at_unprotected (focus term) ≡ true
    by true e h = e
    by false e h = cc

module _ (r : Replayed) (entry : Entry) (old : Stepper) (stands : IsStepperAt r old) where
  -- labels that an entry has, from its beginning
  makes-labels : (new : Stepper) (labels : List Label) (t : Replayed) → AddsAll labels old new → HasLabels r entry labels t → state_of new.state ≡ t.state
      → ((k : ℕ) → contains nat_cmp new.inside k ≡ is_inside t k) → MakesLabels r entry old new
  makes-labels new labels t adds has same inside = record {
    led = t;
    labels = labels;
    has = has;
    part = adds.part;
    rows =
        subst (λ (z : State). Rows (spelling_of old.names.items) r.state labels adds.part z) same
        (subst (λ (z : State). Rows (spelling_of old.names.items) z labels adds.part (state_of new.state)) stands.state adds.rows);
    page = adds.page;
    names = adds.names;
    stands = record { state = same; inside = inside };
  }

  runs-from : (new : Stepper) (labels : List Label) → AddsAll labels old new → run r.state labels ≡ Some (state_of new.state)
  runs-from new labels adds =
      subst (λ (z : State). run z labels ≡ Some (state_of new.state)) stands.state
      (rows-run (spelling_of old.names.items) (state_of old.state) labels adds.part (state_of new.state) adds.rows)

  pub makes-note : is_note entry.kind ≡ true → MakesLabels r entry old old
  makes-note note =
      makes-labels old [] r (record { names = refl; part = []; rows = Rows.none; page = sym (append-nil old.page) }) (HasLabels.note note) stands.state stands.inside

  module _ (kind : entry.kind ≡ EntryKind.Ran) (silent : entry.answer ≡ None) (out : contains nat_cmp old.inside entry.number ≡ false) where
    outside : is_inside r entry.number ≡ false
    outside = sym (stands.inside entry.number) ∙ out

    ran : (n : ℕ) (fresh : List ℕ) (labels : List Label) (t : Replayed) → entry.steps ≡ n → entry.fresh ≡ fresh
        → Unfolds r entry.number EntryKind.Ran n fresh None labels t → HasLabels r entry labels t
    ran n fresh labels t steps made u =
        HasLabels.made labels t
        (subst (λ (k : EntryKind). Unfolds r entry.number k entry.steps entry.fresh entry.answer labels t) (sym kind)
        (subst (λ (a : Option ℤ). Unfolds r entry.number EntryKind.Ran entry.steps entry.fresh a labels t) (sym silent)
        (subst (λ (f : List ℕ). Unfolds r entry.number EntryKind.Ran entry.steps f None labels t) (sym made)
        (subst (λ (m : ℕ). Unfolds r entry.number EntryKind.Ran m fresh None labels t) (sym steps) u))))

    pub makes-arrival : (inside : BTreeSet ℕ) (term : Tree) → entry.steps ≡ 0 → entry.fresh ≡ [] → (state_of old.state).active ≡ None
        → at (pool (state_of old.state)) entry.number ≡ Some term → after (state_of old.state) (Label.Activate entry.number) ≡ None
        → ((k : ℕ) → contains nat_cmp inside k ≡ cond (is_at (nat_cmp entry.number) k) true (contains nat_cmp old.inside k))
        → MakesLabels r entry old (record old { inside = inside })
    makes-arrival inside term steps made idle there refused update =
        makes-labels (record old { inside = inside }) [] (entering r entry.number r.state)
        (record { names = refl; part = []; rows = Rows.none; page = sym (append-nil old.page) })
        (ran 0 [] [] (entering r entry.number r.state) steps made
        (Unfolds.arrives outside (subst (λ (s : State). is_at_unprotected entry.number s ≡ true) stands.state (stays-outside (state_of old.state) entry.number term idle
        (sym (ap (λ (o : Option ℕ). at (but o (state_of old.state).members) entry.number) idle) ∙ there) refused))))
        stands.state (inside-entered r entry.number r.state old.inside inside stands.inside update)

    module _ (begun done : Stepper) (activates : AddsRow (Label.Activate entry.number) old begun) (steps : StepsAlong None entry.steps entry.fresh [] begun done) where
      are : AreSteps steps.kinds entry.steps entry.fresh None
      are = record { count = steps.count; made = sym (steps.made ∙ append-nil (made_by steps.kinds)); answered = answered-silent steps.kinds steps.silent }

      all-with : (label : Label) (new : Stepper) → AddsRow label done new → AddsAll (fragment_labels entry.number steps.kinds ++ label ∷ []) old new
      all-with label new adds =
          adds-then (fragment_labels entry.number steps.kinds) (label ∷ []) old done new
          (adds-then (Label.Activate entry.number ∷ []) (map (step_label None) steps.kinds) old begun done (adds-one (Label.Activate entry.number) old begun activates) steps.adds)
          (adds-one label done new adds)

      pub makes-end : (new : Stepper) → AddsRow Label.End done new → new.inside ≡ old.inside → MakesLabels r entry old new
      makes-end new ends same =
          let labels = fragment_labels entry.number steps.kinds ++ Label.End ∷ [] in
          let all : AddsAll labels old new = all-with Label.End new ends in
          let s = state_of new.state in
          makes-labels new labels (staying r s) all
          (ran entry.steps entry.fresh labels (staying r s) refl refl (Unfolds.ends steps.kinds entry.steps entry.fresh s outside are (runs-from new labels all)))
          refl (λ k. ap (λ (z : BTreeSet ℕ). contains nat_cmp z k) same ∙ stands.inside k)

      pub makes-leave : (new : Stepper) → AddsRow Label.Leave done new
          → ((k : ℕ) → contains nat_cmp new.inside k ≡ cond (is_at (nat_cmp entry.number) k) true (contains nat_cmp old.inside k)) → MakesLabels r entry old new
      makes-leave new leaves update =
          let labels = fragment_labels entry.number steps.kinds ++ Label.Leave ∷ [] in
          let all : AddsAll labels old new = all-with Label.Leave new leaves in
          let s = state_of new.state in
          makes-labels new labels (entering r entry.number s) all
          (ran entry.steps entry.fresh labels (entering r entry.number s) refl refl
          (Unfolds.leaves steps.kinds entry.steps entry.fresh s outside are (runs-from new labels all)))
          refl (inside-entered r entry.number s old.inside new.inside stands.inside update)

  module _ (kind : entry.kind ≡ EntryKind.Free) (n : ℕ) (counted : entry.steps ≡ suc n) (inner : contains nat_cmp old.inside entry.number ≡ true)
      (rest : List ℕ) (done : Stepper) (steps : StepsAlong (Some entry.number) n entry.fresh rest old done) where
    within : is_inside r entry.number ≡ true
    within = sym (stands.inside entry.number) ∙ inner

    free : (answer : Option ℤ) (labels : List Label) (t : Replayed) → entry.answer ≡ answer
        → Unfolds r entry.number EntryKind.Free (suc n) entry.fresh answer labels t → HasLabels r entry labels t
    free answer labels t answered u =
        HasLabels.made labels t
        (subst (λ (k : EntryKind). Unfolds r entry.number k entry.steps entry.fresh entry.answer labels t) (sym kind)
        (subst (λ (a : Option ℤ). Unfolds r entry.number EntryKind.Free entry.steps entry.fresh a labels t) (sym answered)
        (subst (λ (m : ℕ). Unfolds r entry.number EntryKind.Free m entry.fresh answer labels t) (sym counted) u)))

    pub makes-free : (new : Stepper) → MakesLast entry.number rest entry.answer done new → MakesLabels r entry old new
    makes-free new (MakesLast.steps last made answered adds same) =
        let kinds = steps.kinds ++ last ∷ [] in
        let labels = free_labels entry.number kinds in
        let all : AddsAll labels old new =
        subst (λ (ls : List Label). AddsAll ls old new) (sym (map-append (Label.Free entry.number) steps.kinds (last ∷ [])))
        (adds-then (map (step_label (Some entry.number)) steps.kinds) (Label.Free entry.number last ∷ []) old done new steps.adds (adds-one (Label.Free entry.number last) done new adds)) in
        let s = state_of new.state in
        let are : AreSteps kinds (suc n) entry.fresh entry.answer = record {
          count = let long = length-append steps.kinds (last ∷ []) in let before = steps.count in omega (arith, long, before);
          made = made_by-more steps.kinds last ∙ ap (λ (z : List ℕ). made_by steps.kinds ++ z) (sym made) ∙ sym steps.made;
          answered = subst (λ (a : Option ℤ). IsAnswered kinds a) (sym answered) (answered-last steps.kinds last steps.silent);
        } in
        makes-labels new labels (staying r s) all
        (free entry.answer labels (staying r s) refl (Unfolds.goes_on kinds n entry.fresh entry.answer s within are (runs-from new labels all)))
        refl (λ k. ap (λ (z : BTreeSet ℕ). contains nat_cmp z k) (same ∙ steps.kept) ∙ stands.inside k)
    makes-free new (MakesLast.closes made answered adds update) =
        let labels = free_labels entry.number steps.kinds ++ Label.Close entry.number ∷ [] in
        let all : AddsAll labels old new =
        adds-then (free_labels entry.number steps.kinds) (Label.Close entry.number ∷ []) old done new steps.adds (adds-one (Label.Close entry.number) done new adds) in
        let s = state_of new.state in
        let are : AreSteps steps.kinds n entry.fresh None = record {
          count = steps.count;
          made = sym (steps.made ∙ ap (λ (z : List ℕ). made_by steps.kinds ++ z) made ∙ append-nil (made_by steps.kinds));
          answered = answered-silent steps.kinds steps.silent;
        } in
        makes-labels new labels (leaving r entry.number s) all
        (free None labels (leaving r entry.number s) answered (Unfolds.closes steps.kinds n entry.fresh s within are (runs-from new labels all)))
        refl
        (inside-left r entry.number s old.inside new.inside stands.inside
        (λ k. update k ∙ ap (λ (z : BTreeSet ℕ). cond (is_at (nat_cmp entry.number) k) false (contains nat_cmp z k)) steps.kept))

-- from where nothing had changed that a row shows
pub makes-from : (entry : Entry) (old mid new : Stepper) → ShowsSame old mid → ((r : Replayed) → IsStepperAt r mid → MakesLabels r entry mid new)
    → (r : Replayed) → IsStepperAt r old → MakesLabels r entry old new
makes-from entry old mid new same makes r stands =
    let m = makes r (record { state = same.state ∙ stands.state; inside = λ k. ap (λ (z : BTreeSet ℕ). contains nat_cmp z k) same.inside ∙ stands.inside k }) in
    record {
      led = m.led;
      labels = m.labels;
      has = m.has;
      part = m.part;
      rows = subst (λ (ns : List Text). Rows ns r.state m.labels m.part m.led.state) same.names m.rows;
      page = m.page ∙ ap (λ (z : List ℕ). z ++ m.part) same.page;
      names = m.names ∙ same.names;
      stands = m.stands;
    }

-- The row of a label

module _ (names : List Text) (s t : State) (label : Label) where
  -- the row by its parts
  row_by : (more : List Text) (before : List ℕ) (changed : Option ℕ) → more ≡ names → before ≡ label_words label ++ shown_term names (reduced_term s label)
      → changed ≡ changed_location (kind_of label) (reduced_term s label)
      → before ++ stored_words more t changed ++ started_words s.next (kind_of label) ++ codes "\n" ≡ label_row names s label t
  unfolding label_row
  row_by more before changed same shown told =
      ap (λ (xs : List ℕ). xs ++ stored_words more t changed ++ started_words s.next (kind_of label) ++ codes "\n") shown
      ∙ ap (λ (ns : List Text). label_words label ++ shown_term names (reduced_term s label) ++ stored_words ns t changed ++ started_words s.next (kind_of label) ++ codes "\n") same
      ∙ ap (λ (l : Option ℕ). label_words label ++ shown_term names (reduced_term s label) ++ stored_words names t l ++ started_words s.next (kind_of label) ++ codes "\n") told

-- a legal label was made
pub takes-made : (old new : Stepper) (label : Label) (before : List ℕ) (changed : Option ℕ) → spelling_of new.names.items ≡ spelling_of old.names.items
    → new.inside ≡ old.inside
    → after (state_of old.state) label ≡ Some (state_of new.state)
    → before ≡ label_words label ++ shown_term (spelling_of old.names.items) (reduced_term (state_of old.state) label)
    → changed ≡ changed_location (kind_of label) (reduced_term (state_of old.state) label)
    → new.page ≡ old.page ++ (before ++ stored_words (spelling_of new.names.items) (state_of new.state) changed
    ++ started_words (state_of old.state).next (kind_of label) ++ codes "\n")
    → TakesLabel label true old new
takes-made old new label before changed names inside legal shown told page = record {
  inside = inside;
  made = λ e. record {
    names = names;
    legal = legal;
    page =
        page
        ∙ ap (λ (row : List ℕ). old.page ++ row)
        (row_by (spelling_of old.names.items) (state_of old.state) (state_of new.state) label (spelling_of new.names.items) before changed names shown told);
  };
  refused = λ e. cc;
}

-- one isn't legal
pub takes-none : (old new : Stepper) (label : Label) → ShowsSame old new → after (state_of old.state) label ≡ None → TakesLabel label false old new
takes-none old new label stays refused = record { inside = stays.inside; made = λ e. cc; refused = λ e. (stays, refused) }

-- what is so of what is there
pub told-some : {A : Type 0} (P : A → Type 0) (o : Option A) (x : A) → o ≡ Some x → IfSome o P → P x
told-some P o x is h = subst (λ (z : Option _). IfSome z P) is h

pub none-by-test : (o : Option ℤ) → is_some o ≡ false → o ≡ None
none-by-test None e = refl
none-by-test (Some x) e = cc

-- Journals

-- the entries so far are shown
pub record ShowsSoFar (names : List Text) (start : Replayed) (entries : List Entry) (s : Stepper) : Type 0 where
  pub led : Replayed
  pub shows : ShowsSteps names start entries s.page led
  pub stands : IsStepperAt led s
  pub spelled : spelling_of s.names.items ≡ names

pub shows-begin : (names : List Text) (program : Tree) (s : Stepper) → state_of s.state ≡ start program → s.inside.keys ≡ []
    → s.page ≡ [] → spelling_of s.names.items ≡ names → ShowsSoFar names (begun_at program) [] s
shows-begin names program s state nothing none same = record {
  led = begun_at program;
  shows = subst (λ (z : List ℕ). ShowsSteps names (begun_at program) [] z (begun_at program)) (sym none) ShowsSteps.none;
  stands = record { state = state; inside = λ k. ap (λ (ks : List ℕ). list_any (is_at (nat_cmp k)) ks) nothing };
  spelled = same;
}

pub shows-more : (names : List Text) (start : Replayed) (entries : List Entry) (i : ℕ) → i < length entries → (entry : Entry) → entry ≡ get_or entries i entry
    → (s : Stepper) (page : List ℕ) (new : Stepper) → ShowsSoFar names start (take i entries) s → page ≡ s.page ++ entry_heading (i + 1) entry.number
    → MakesEntry entry (record s { page = page }) new → ShowsSoFar names start (take (i + 1) entries) new
shows-more names start entries i below entry is s page new so_far headed makes =
    let m = makes so_far.led (record { state = so_far.stands.state; inside = so_far.stands.inside }) in
    let more : take (i + 1) entries ≡ take i entries ++ entry ∷ [] =
    take_more entries i entry below ∙ ap (λ (z : Entry). take i entries ++ z ∷ []) (sym is) in
    let long : length (take i entries) ≡ i = omega (arith, length-take i entries) in
    let rows : Rows names so_far.led.state m.labels m.part m.led.state =
    subst (λ (ns : List Text). Rows ns so_far.led.state m.labels m.part m.led.state) so_far.spelled m.rows in
    let whole : new.page ≡ s.page ++ (entry_heading (length (take i entries) + 1) entry.number ++ m.part) =
    m.page ∙ ap (λ (z : List ℕ). z ++ m.part) headed ∙ append_assoc s.page (entry_heading (i + 1) entry.number) m.part
    ∙ ap (λ (k : ℕ). s.page ++ (entry_heading (k + 1) entry.number ++ m.part)) (sym long) in
    record {
      led = m.led;
      shows =
          subst (λ (es : List Entry). ShowsSteps names start es new.page m.led) (sym more)
          (subst (λ (z : List ℕ). ShowsSteps names start (take i entries ++ entry ∷ []) z m.led) (sym whole)
          (ShowsSteps.entry (take i entries) s.page so_far.led m.led entry m.labels m.part so_far.shows m.has rows));
      stands = m.stands;
      spelled = m.names ∙ so_far.spelled;
    }
