-- The strong state in the weak state of a run is typed.
use Rattle.std.proofs.Common.{◌≡◌, ℕ, ◌<◌, ◌⊎◌, inl, inr, Bool, true, false, List, [], ◌∷◌, cond, Option, Some, is_some, refl, sym, ap, ◌∙◌, subst, arith}
use Rattle.std.specs.Prelude.{IsSome}
use Rattle.std.specs.BTreeMap.{is_at}
use Rattle.std.specs.List.{AllByRecursion}
use Rattle.std.specs.List.Sorted.{IsStrictlySortedBy}
use Rattle.std.specs.Ordering.{nat_cmp}
use Rattle.std.specs.declared.cmp.Ordering.TheVariants.{Less}
use Rattle.ame_term.specs.Tree.{Typ, Tree}
use Rattle.ame_term.specs.Signature.{Signature, listed}
use Rattle.ame_term.specs.Maps.{at}
use Rattle.ame_term.specs.SourceTerm.{IsSourceTerm}
use Rattle.ame_term.specs.Numbered.{IsNumbered}
use Rattle.ame_term.specs.State.{State}
use Rattle.ame_term.specs.Typing.{Accepts}
use Rattle.ame_term.specs.declared.semantics.Label.{Label}
use Rattle.ame_laws.specs.Orderly.{NumbersRise}
use Rattle.ame_laws.specs.Typed.StoreTyping.{StoreTyping}
use Rattle.ame_laws.specs.Typed.TypedState.{IsTyped, IsMember}
use Rattle.ame_laws.proofs.MapLemmas.{is_at-here, is_at-same, lt-from_less, each-at, numbers-at}
use Rattle.ame_laws.proofs.Typed.Preserved.{preserved_along}
use Rattle.ame_journal.specs.Labels.{fragment_labels}
use Rattle.ame_journal.specs.Replayed.{Replayed, begun_at}
use Rattle.ame_journal.proofs.UnderWayLemmas.{UnderWay-runs}
use Rattle.ame_machine.proofs.Run.ReplayLemmas.{active_run}
use Rattle.ame_weak.specs.Weak.{Weak, holding_none, weak_start, weak_run}
use Rattle.ame_weak.specs.Straight.{Place, outset}
use Rattle.ame_weak.proofs.MemberLemmas.{same_or, joined-below}
use Rattle.ame_weak.proofs.WayLemmas.{IsUnderWay}
use Rattle.ame_weak.proofs.Follow.{IsFollowed}
use Rattle.ame_weak.proofs.StraightLemmas.{past_all, follow-labels, begun-followed}

itself-not : (n : ℕ) → nat_cmp n n ≡ Less → ⊥
itself-not n e = let below : n < n = lt-from_less n n e in absurd (omega arith)

-- a fact of each entry that is found holds of all
each-found : {X : Type 0} (P : X → Type 0) (es : List (ℕ × X)) → NumbersRise es → ((n : ℕ) (x : X) → at es n ≡ Some x → P x) → AllByRecursion (λ e. P e.1) es
unfolding IsStrictlySortedBy
each-found P [] rise all = tt
each-found {X} P (e ∷ es) rise all = (all e.0 e.1 (rw (is_at-here e.0)), each-found P es rise.1 (λ n x found. all n x (later n x found)))
  where
    later : (n : ℕ) (x : X) → at es n ≡ Some x → at (e ∷ es) n ≡ Some x
    later n x found = by (is_at (nat_cmp n) e.0) refl
      where
        above : nat_cmp e.0 n ≡ Less
        above = numbers-at (λ k. nat_cmp e.0 k ≡ Less) es n (ap is_some found) rise.0

        by : (b : Bool) → is_at (nat_cmp n) e.0 ≡ b → cond b (Some e.1) (at es n) ≡ Some x
        by false is = found
        by true is = absurd (itself-not e.0 (subst (λ (k : ℕ). nat_cmp e.0 k ≡ Less) (is_at-same n e.0 is) above))

module _ (signature : Signature) (s : State) (i n : ℕ) (fresh : List ℕ) (w : Weak) (u : IsUnderWay signature s i n fresh w) where
  pub way-typed : (cells : StoreTyping) × IsTyped signature cells w.state
  way-typed =
      let a = active_run s i u.term u.inputs u.member u.idle u.calm n u.place u.ran u.agrees in
      let later = preserved_along signature (fragment_labels i a.way.kinds) u.cells s a.behind u.typed (UnderWay-runs s i n u.place.fresh a.behind a.way) in
      let store : (l : ℕ) → at w.state.store l ≡ at a.behind.store l = λ l. u.laid.stored l ∙ sym (a.after_run.stored l) in
      let other : (k : ℕ) → (k ≡ i → ⊥) → k < s.next → at w.state.members k ≡ at a.behind.members k =
      λ k apart below. u.laid.others k apart ∙ sym (joined-below s.members s.next u.place.spawns k below) ∙ sym (a.after_run.others k apart) in
      let found : (k : ℕ) (term : Tree) → at w.state.members k ≡ Some term → at a.behind.members k ≡ Some term = λ k term is.
      same_or k i (at a.behind.members k ≡ Some term)
      (λ same. subst (λ (m : ℕ). at a.behind.members m ≡ Some term) (sym same) (a.member ∙ sym u.stands ∙ ap (at w.state.members) (sym same) ∙ is))
      (λ apart.
      let near : k < w.state.next = numbers-at (λ m. m < w.state.next) w.state.members k (ap is_some is) u.orderly.members_below in
      let next : w.state.next ≡ s.next = u.laid.next in
      sym (other k apart (omega arith)) ∙ is) in (
        later.0,
        record {
          typed = record {
            stored = λ l v is. later.2.typed.stored l v (sym (store l) ∙ is);
            members =
                each-found (IsMember signature later.0) w.state.members u.orderly.members_rise
                (λ k term is. each-at (IsMember signature later.0) a.behind.members k term (found k term is) later.2.typed.members);
            present = λ k is.
                let both : ◌≡◌ {A = Option ℕ} (Some i) (Some k) = sym u.laid.active ∙ is in
                let same : i ≡ k = cc in
                subst (λ (m : ℕ). IsSome (at w.state.members m)) same (ap is_some u.stands);
          };
          located = λ l cell is. subst IsSome (sym (store l)) (later.2.located l cell is);
        },
      )

pub followed-typed : (signature : Signature) (r : Replayed) (p : Place) (w : Weak) → IsFollowed signature r p w → (cells : StoreTyping) × IsTyped signature cells w.state
followed-typed signature r p w f = by f.stands
  where
    by : (w ≡ holding_none r.state) ⊎ IsUnderWay signature r.state p.number p.steps p.fresh w → (cells : StoreTyping) × IsTyped signature cells w.state
    by (inl is) = (f.cells, subst (λ (z : Weak). IsTyped signature f.cells z.state) (sym is) f.typed)
    by (inr u) = way-typed signature r.state p.number p.steps p.fresh w u

module _ (devices : ℕ) (places : List ℕ) (program : Tree) (refs : List Typ) (accepts : Accepts devices places program refs) (source : IsSourceTerm program) (numbered : IsNumbered 0 program) where
  pub weak_runs_are_typed : (labels : List Label) (w : Weak) → weak_run (weak_start program) labels ≡ Some w → (cells : StoreTyping) × IsTyped (listed devices refs) cells w.state
  weak_runs_are_typed labels w e =
      let a = follow-labels (listed devices refs) (begun_at program) outset (weak_start program) w labels (begun-followed devices places program refs accepts source numbered) e in
      followed-typed (listed devices refs) a.behind (past_all outset labels) w a.follows
