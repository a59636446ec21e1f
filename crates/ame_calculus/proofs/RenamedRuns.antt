-- Labels renamed lead from renamed states to renamed states.
use Rattle.std.proofs.Common.{◌≡◌, ℕ, ◌+◌, ◌++◌, ◌⊎◌, inl, inr, ℤ, Bool, true, false, List, [], ◌∷◌, map, Option, Some, None, is_some, is_none, option_map, option_and_then, if◌then◌else◌, refl, sym, ap, ◌∙◌, subst}
use Rattle.std.proofs.lemmas.Option.{option_and_then_some}
use Rattle.ame_term.specs.Tree.{Val, Tree, unit_tree}
use Rattle.ame_term.specs.Frame.{Side}
use Rattle.ame_term.specs.Context.{focus, fill}
use Rattle.ame_term.specs.Act.{Act, act_of, makes}
use Rattle.ame_term.specs.Maps.{at, put, change, without}
use Rattle.ame_term.specs.State.{State, after, run, loaded, performed, reduce, activated, departed, ended, closed, closed_value, at_unprotected, at_value}
use Rattle.ame_term.specs.declared.semantics.StepKind.{StepKind}
use Rattle.ame_term.specs.declared.semantics.Label.{Label}
use Rattle.ame_term.specs.declared.types.Loc.{Loc}
use Rattle.ame_term.specs.declared.types.Sort.{Sort}
use Rattle.ame_term.specs.declared.types.TyNo.{TyNo}
use Rattle.ame_laws.specs.Orderly.{IsOrderly, NumbersRise}
use Rattle.ame_laws.proofs.MapLemmas.{at-put, at-put_same, at-put_other, at-change_same, at-change_other, at-without_same, at-without_other, change-absent}
use Rattle.ame_laws.proofs.OrderlyLemmas.{after-goes}
use Rattle.ame_journal.specs.Replay.{redex_act}
use Rattle.ame_journal.proofs.StepLemmas.{reduced}
use Rattle.ame_weak.proofs.FreeSteps.{reduce-made}
use Rattle.ame_weak.proofs.HeldSteps.{if-gave, map-gave}
use Rattle.ame_weak.proofs.MemberLemmas.{same_or}
use Rattle.ame_calculus.specs.Renamed.{renamed_value, renamed, AreInverse, renamed_kind, renamed_label, IsRenamed}
use Rattle.ame_calculus.proofs.RenamedLemmas.{renamed_focus, renamed_act, focus-renamed, fill-renamed, act-renamed, makes-renamed, unprotected-renamed, value-renamed, closed-renamed}

pub unless-gave : {Y : Type 0} (b : Bool) (o : Option Y) (y : Y) → (if b then None else o) ≡ Some y → (b ≡ false) × (o ≡ Some y)
unless-gave true o y e = cc
unless-gave false o y e = (refl, e)

pub some-mapped : {X Y : Type 0} (g : X → Y) (o : Option X) → is_some (option_map g o) ≡ is_some o
some-mapped g None = refl
some-mapped g (Some x) = refl

-- Members

module _ (f : ℕ → ℕ) (ms ns : List (ℕ × Tree)) (same : (i : ℕ) → at ns i ≡ option_map (renamed f) (at ms i)) where
  members-put : (n : ℕ) (body : Tree) (i : ℕ) → at (put ns n (renamed f body)) i ≡ option_map (renamed f) (at (put ms n body) i)
  members-put n body i =
      same_or n i (at (put ns n (renamed f body)) i ≡ option_map (renamed f) (at (put ms n body) i))
      (λ e. subst (λ (k : ℕ). at (put ns n (renamed f body)) k ≡ option_map (renamed f) (at (put ms n body) k)) e
      (at-put_same ns n (renamed f body) ∙ sym (ap (option_map (renamed f)) (at-put_same ms n body))))
      (λ apart. at-put_other ns n i (renamed f body) apart ∙ same i ∙ sym (ap (option_map (renamed f)) (at-put_other ms n i body apart)))

  members-change : (n : ℕ) (term : Tree) (i : ℕ) → at (change ns n (renamed f term)) i ≡ option_map (renamed f) (at (change ms n term) i)
  members-change n term i =
      same_or n i (at (change ns n (renamed f term)) i ≡ option_map (renamed f) (at (change ms n term) i))
      (λ e. subst (λ (k : ℕ). at (change ns n (renamed f term)) k ≡ option_map (renamed f) (at (change ms n term) k)) e (own (at ms n) refl))
      (λ apart. at-change_other ns n i (renamed f term) apart ∙ same i ∙ sym (ap (option_map (renamed f)) (at-change_other ms n i term apart)))
    where
      own : (o : Option Tree) → at ms n ≡ o → at (change ns n (renamed f term)) n ≡ option_map (renamed f) (at (change ms n term) n)
      own None is =
          let none : at ns n ≡ None = same n ∙ ap (option_map (renamed f)) is in
          ap (λ (es : List (ℕ × Tree)). at es n) (change-absent ns n (renamed f term) none) ∙ same n
          ∙ sym (ap (λ (es : List (ℕ × Tree)). option_map (renamed f) (at es n)) (change-absent ms n term is))
      own (Some t) is =
          at-change_same ns n (renamed f term) (ap is_some (same n ∙ ap (option_map (renamed f)) is))
          ∙ sym (ap (option_map (renamed f)) (at-change_same ms n term (ap is_some is)))

  members-without : NumbersRise ms → NumbersRise ns → (n i : ℕ) → at (without ns n) i ≡ option_map (renamed f) (at (without ms n) i)
  members-without rise others n i =
      same_or n i (at (without ns n) i ≡ option_map (renamed f) (at (without ms n) i))
      (λ e. subst (λ (k : ℕ). at (without ns n) k ≡ option_map (renamed f) (at (without ms n) k)) e
      (at-without_same ns n others ∙ sym (ap (option_map (renamed f)) (at-without_same ms n rise))))
      (λ apart. at-without_other ns n i apart ∙ same i ∙ sym (ap (option_map (renamed f)) (at-without_other ms n i apart)))

-- An act of a kind, renamed, comes to the renamed term and state.
pub record IsPerformedToo (f : ℕ → ℕ) (kind : StepKind) (act : Act) (t : State) (made : Tree × State) : Type 0 where
  pub behind : State
  pub performs : performed (renamed_kind f kind) (renamed_act f act) t ≡ Some (renamed f made.0, behind)
  pub renames : IsRenamed f made.1 behind

-- what is reached is a state renamed
pub record LeadsToo (f : ℕ → ℕ) (o : Option State) (u : State) : Type 0 where
  pub behind : State
  pub leads : o ≡ Some behind
  pub renames : IsRenamed f u behind

leads-where : (f : ℕ → ℕ) (o p : Option State) (u : State) → o ≡ p → LeadsToo f p u → LeadsToo f o u
leads-where f o p u e x = record { behind = x.behind; leads = e ∙ x.leads; renames = x.renames }

-- Renamings

module _ (f g : ℕ → ℕ) (inverse : AreInverse f g) where
  pub one-name : (l m : ℕ) → f l ≡ f m → l ≡ m
  one-name l m e = sym (inverse.back l) ∙ ap g e ∙ inverse.back m

  stores-put : (s t : State) (l : ℕ) (v : Val) → IsRenamed f s t → IsRenamed f (record s { store = put s.store l v }) (record t { store = put t.store (f l) (renamed_value f v) })
  stores-put s t l v r = record {
    store = λ k. by k (at-put t.store (f l) (f k) (renamed_value f v)) (at-put s.store l k v);
    members = r.members;
    active = r.active;
    output = r.output;
    next = r.next;
  }
    where
      by : (k : ℕ)
          → ((f l ≡ f k) × (at (put t.store (f l) (renamed_value f v)) (f k) ≡ Some (renamed_value f v)))
          ⊎ (((f l ≡ f k) → ⊥) × (at (put t.store (f l) (renamed_value f v)) (f k) ≡ at t.store (f k)))
          → ((l ≡ k) × (at (put s.store l v) k ≡ Some v)) ⊎ (((l ≡ k) → ⊥) × (at (put s.store l v) k ≡ at s.store k))
          → at (put t.store (f l) (renamed_value f v)) (f k) ≡ option_map (renamed_value f) (at (put s.store l v) k)
      by k (inl a) (inl b) = a.1 ∙ sym (ap (option_map (renamed_value f)) b.1)
      by k (inl a) (inr b) = absurd (b.0 (one-name l k a.0))
      by k (inr a) (inl b) = absurd (a.0 (ap f b.0))
      by k (inr a) (inr b) = a.1 ∙ r.store k ∙ sym (ap (option_map (renamed_value f)) b.1)

  module _ (s t : State) (r : IsRenamed f s t) where
    its : (kind : StepKind) (act : Act) (made other : Tree × State) → Some other ≡ Some made → IsPerformedToo f kind act t other → IsPerformedToo f kind act t made
    its kind act made other e x = let same : other ≡ made = cc in subst (IsPerformedToo f kind act t) same x

    loads-too : (l : ℕ) (v : Val) → at s.store l ≡ Some v → loaded (f l) t ≡ Some (renamed f (Tree.Held v), t)
    unfolding renamed
    loads-too l v found = ap (option_map {U = Tree × State} (λ w. (Tree.Held w, t))) (r.store l ∙ ap (option_map (renamed_value f)) found)

    allocated-too : (l : Loc) (sort : Sort) (number : TyNo) (v : Val) (made : Tree × State) (o : Option Val) → at s.store l.0 ≡ o
        → (if is_some o then None else Some (Tree.Held (Val.Loc l.0), record s { store = put s.store l.0 v })) ≡ Some made
        → IsPerformedToo f (StepKind.Alloc l) (Act.Allocates sort number v) t made
    unfolding renamed renamed_value
    allocated-too l sort number v made None free e =
        its (StepKind.Alloc l) (Act.Allocates sort number v) made (Tree.Held (Val.Loc l.0), record s { store = put s.store l.0 v }) e (record {
          behind = record t { store = put t.store (f l.0) (renamed_value f v) };
          performs =
              let unused : at t.store (f l.0) ≡ None = r.store l.0 ∙ ap (option_map (renamed_value f)) free in
              ap (λ (z : Option Val). if is_some z then None else Some (Tree.Held (Val.Loc (f l.0)), record t { store = put t.store (f l.0) (renamed_value f v) })) unused;
          renames = stores-put s t l.0 v r;
        })
    allocated-too l sort number v made (Some x) free e = cc

    pub performed-too : (kind : StepKind) (act : Act) (made : Tree × State) → performed kind act s ≡ Some made → IsPerformedToo f kind act t made
    unfolding renamed renamed_value
    performed-too kind (Act.Becomes term) made e = its kind (Act.Becomes term) made (term, s) e (record { behind = t; performs = refl; renames = r })
    performed-too (StepKind.Alloc l) (Act.Allocates sort number v) made e = allocated-too l sort number v made (at s.store l.0) refl e
    performed-too _ (Act.Allocates sort number v) made e = cc
    performed-too kind (Act.Reads l) made e =
        let m = map-gave (λ v. (Tree.Held v, s)) (at s.store l) made e in
        its kind (Act.Reads l) made (Tree.Held m.0, s) (ap Some m.2) (record { behind = t; performs = loads-too l m.0 m.1; renames = r })
    performed-too kind (Act.Peeks l) made e =
        let m = map-gave (λ v. (Tree.Held v, s)) (at s.store l) made e in
        its kind (Act.Peeks l) made (Tree.Held m.0, s) (ap Some m.2) (record { behind = t; performs = loads-too l m.0 m.1; renames = r })
    performed-too kind (Act.Writes l v) made e =
        its kind (Act.Writes l v) made (unit_tree, record s { store = put s.store l v }) e
        (record { behind = record t { store = put t.store (f l) (renamed_value f v) }; performs = refl; renames = stores-put s t l v r })
    performed-too kind (Act.Spawns body) made e =
        its kind (Act.Spawns body) made (unit_tree, record s { members = put s.members s.next body; next = s.next + 1 }) e (record {
          behind = record t { members = put t.members t.next (renamed f body); next = t.next + 1 };
          performs = refl;
          renames = record {
            store = r.store;
            members = λ i. ap (λ n. at (put t.members n (renamed f body)) i) r.next ∙ members-put f s.members t.members r.members s.next body i;
            active = r.active;
            output = r.output;
            next = ap (λ n. n + 1) r.next;
          };
        })
    performed-too kind (Act.Prints n) made e =
        its kind (Act.Prints n) made (unit_tree, record s { output = s.output ++ n ∷ [] }) e (record {
          behind = record t { output = t.output ++ n ∷ [] };
          performs = refl;
          renames = record { store = r.store; members = r.members; active = r.active; output = ap (λ (xs : List ℤ). xs ++ n ∷ []) r.output; next = r.next };
        })
    performed-too kind Act.Passes made e = its kind Act.Passes made (unit_tree, s) e (record { behind = t; performs = refl; renames = r })
    performed-too (StepKind.Device answer) (Act.Calls device n) made e =
        its (StepKind.Device answer) (Act.Calls device n) made (Tree.Held (Val.Int answer), s) e (record { behind = t; performs = refl; renames = r })
    performed-too _ (Act.Calls device n) made e = cc
    performed-too kind _ made e = cc

    found-too : (i : ℕ) (term : Tree) → at s.members i ≡ Some term → at t.members i ≡ Some (renamed f term)
    found-too i term found = r.members i ∙ ap (option_map (renamed f)) found

    changed-too : (i : ℕ) (term : Tree) → IsRenamed f (record s { members = change s.members i term }) (record t { members = change t.members i (renamed f term) })
    changed-too i term = record {
      store = r.store;
      members = members-change f s.members t.members r.members i term;
      active = r.active;
      output = r.output;
      next = r.next;
    }

    rests-too : IsRenamed f (record s { active = None }) (record t { active = None })
    rests-too = record { store = r.store; members = r.members; active = refl; output = r.output; next = r.next }

  -- A step and a label

  pub reduce-too : (side : Side) (kind : StepKind) (i : ℕ) (s t u : State) → IsRenamed f s t → reduce side kind i s ≡ Some u → LeadsToo f (reduce side (renamed_kind f kind) i t) u
  reduce-too side kind i s t u r e =
      let x = reduced side kind i s u e in
      let acts_so : ◌≡◌ {A = Option Act} (Some (act_of x.redex)) (Some x.act) =
      sym (ap (option_and_then (λ (z : Tree). redex_act (focus z))) x.is_member ∙ ap redex_act x.stands) ∙ x.is_act in
      let act_is : act_of x.redex ≡ x.act = cc in
      let p = performed-too s t r kind x.act x.result x.made in
      let act_then : act_of (renamed f x.redex) ≡ renamed_act f x.act = act-renamed f x.redex ∙ ap (renamed_act f) act_is in
      let made =
      reduce-made side (renamed_kind f kind) i t (renamed f x.term) (renamed f x.redex) (renamed f x.result.0, p.behind) (found-too s t r i x.term x.is_member)
      (focus-renamed f x.term ∙ ap (renamed_focus f) x.stands)
      (ap (makes side (renamed_kind f kind)) act_then ∙ makes-renamed f side kind x.act ∙ x.can)
      (ap (λ (a : Act). performed (renamed_kind f kind) a t) act_then ∙ p.performs) in
      record {
        behind = record p.behind { members = change p.behind.members i (renamed f (fill x.term x.result.0)) };
        leads = made ∙ ap (λ (z : Tree). Some (record p.behind { members = change p.behind.members i z })) (fill-renamed f x.term x.result.0);
        renames =
            subst (λ (z : State). IsRenamed f z (record p.behind { members = change p.behind.members i (renamed f (fill x.term x.result.0)) })) x.is
            (changed-too x.result.1 p.behind p.renames i (fill x.term x.result.0));
      }

  module _ (s t u : State) (r : IsRenamed f s t) where
    -- which member is active is the same
    active-too : (go : ℕ → State → Option State) (again : ℕ → State → Option State) → option_and_then (λ i. go i s) s.active ≡ Some u
        → ((i : ℕ) → s.active ≡ Some i → go i s ≡ Some u → LeadsToo f (again i t) u) → LeadsToo f (option_and_then (λ i. again i t) t.active) u
    active-too go again e each =
        option_and_then_some (λ i. go i s) s.active u e (λ i is e1.
        leads-where f (option_and_then (λ j. again j t) t.active) (again i t) u (ap (option_and_then (λ j. again j t)) (r.active ∙ is)) (each i is e1))

    resting-too : (o p : Option State) → (if is_none s.active then o else None) ≡ Some u → (o ≡ Some u → LeadsToo f p u) → LeadsToo f (if is_none t.active then p else None) u
    resting-too o p e follow =
        let k = if-gave (is_none s.active) o u e in
        leads-where f (if is_none t.active then p else None) p u
        (ap (λ (a : Option ℕ). if is_none a then p else None) r.active ∙ ap (λ (b : Bool). if b then p else None) k.0) (follow k.1)

    activated-too : (i : ℕ) → activated i s ≡ Some u → LeadsToo f (activated i t) u
    activated-too i e =
        option_and_then_some (λ (term : Tree). if at_unprotected (focus term) then None else Some (record s { active = Some i })) (at s.members i) u e (λ term found e1.
        let k = unless-gave (at_unprotected (focus term)) (Some (record s { active = Some i })) u e1 in
        let same : record s { active = Some i } ≡ u = let both = k.1 in cc in
        record {
          behind = record t { active = Some i };
          leads =
              ap (option_and_then (λ (z : Tree). if at_unprotected (focus z) then None else Some (record t { active = Some i }))) (found-too s t r i term found)
              ∙ ap (λ (b : Bool). if b then None else Some (record t { active = Some i })) (ap at_unprotected (focus-renamed f term) ∙ unprotected-renamed f (focus term) ∙ k.0);
          renames =
              subst (λ (z : State). IsRenamed f z (record t { active = Some i })) same
              (record { store = r.store; members = r.members; active = refl; output = r.output; next = r.next });
        })

    departed-too : (i : ℕ) → departed i s ≡ Some u → LeadsToo f (departed i t) u
    departed-too i e =
        option_and_then_some (λ (term : Tree). if at_unprotected (focus term) then Some (record s { active = None }) else None) (at s.members i) u e (λ term found e1.
        let k = if-gave (at_unprotected (focus term)) (Some (record s { active = None })) u e1 in
        let same : record s { active = None } ≡ u = let both = k.1 in cc in
        record {
          behind = record t { active = None };
          leads =
              ap (option_and_then (λ (z : Tree). if at_unprotected (focus z) then Some (record t { active = None }) else None)) (found-too s t r i term found)
              ∙ ap (λ (b : Bool). if b then Some (record t { active = None }) else None) (ap at_unprotected (focus-renamed f term) ∙ unprotected-renamed f (focus term) ∙ k.0);
          renames = subst (λ (z : State). IsRenamed f z (record t { active = None })) same (rests-too s t r);
        })

    ended-too : NumbersRise s.members → NumbersRise t.members → (i : ℕ) → ended i s ≡ Some u → LeadsToo f (ended i t) u
    ended-too rise others i e =
        option_and_then_some (λ (term : Tree). if at_value (focus term) then Some (record s { members = without s.members i; active = None }) else None) (at s.members i) u e (λ term found e1.
        let k = if-gave (at_value (focus term)) (Some (record s { members = without s.members i; active = None })) u e1 in
        let same : record s { members = without s.members i; active = None } ≡ u = let both = k.1 in cc in
        let last = record t { members = without t.members i; active = None } in
        record {
          behind = last;
          leads =
              ap (option_and_then (λ (z : Tree). if at_value (focus z) then Some (record t { members = without t.members i; active = None }) else None)) (found-too s t r i term found)
              ∙ ap (λ (b : Bool). if b then Some (record t { members = without t.members i; active = None }) else None) (ap at_value (focus-renamed f term) ∙ value-renamed f (focus term) ∙ k.0);
          renames =
              subst (λ (z : State). IsRenamed f z (record t { members = without t.members i; active = None })) same
              (record { store = r.store; members = members-without f s.members t.members r.members rise others i; active = refl; output = r.output; next = r.next });
        })

    closed-too : (i : ℕ) → closed i s ≡ Some u → LeadsToo f (closed i t) u
    unfolding renamed
    closed-too i e =
        option_and_then_some (λ (term : Tree). option_map (λ v. record s { members = change s.members i (fill term (Tree.Held v)) }) (closed_value (focus term))) (at s.members i) u e (λ term found e1.
        let m = map-gave (λ v. record s { members = change s.members i (fill term (Tree.Held v)) }) (closed_value (focus term)) u e1 in
        record {
          behind = record t { members = change t.members i (renamed f (fill term (Tree.Held m.0))) };
          leads =
              ap (option_and_then (λ (z : Tree). option_map (λ v. record t { members = change t.members i (fill z (Tree.Held v)) }) (closed_value (focus z)))) (found-too s t r i term found)
              ∙ ap (option_map (λ v. record t { members = change t.members i (fill (renamed f term) (Tree.Held v)) }))
              (ap closed_value (focus-renamed f term) ∙ closed-renamed f (focus term) ∙ ap (option_map (renamed_value f)) m.1)
              ∙ ap (λ (z : Tree). Some (record t { members = change t.members i z })) (fill-renamed f term (Tree.Held m.0));
          renames =
              subst (λ (z : State). IsRenamed f z (record t { members = change t.members i (renamed f (fill term (Tree.Held m.0))) })) m.2
              (changed-too s t r i (fill term (Tree.Held m.0)));
        })

    pub label-too : NumbersRise s.members → NumbersRise t.members → (label : Label) → after s label ≡ Some u → LeadsToo f (after t (renamed_label f label)) u
    unfolding after
    label-too rise others (Label.Activate i) e = resting-too (activated i s) (activated i t) e (activated-too i)
    label-too rise others (Label.Step kind) e =
        active-too (λ i z. reduce Side.Protected kind i z) (λ i z. reduce Side.Protected (renamed_kind f kind) i z) e (λ i is e1. reduce-too Side.Protected kind i s t u r e1)
    label-too rise others Label.Leave e = active-too departed departed e (λ i is e1. departed-too i e1)
    label-too rise others Label.End e = active-too ended ended e (λ i is e1. ended-too rise others i e1)
    label-too rise others (Label.Free i kind) e =
        resting-too (reduce Side.Unprotected kind i s) (reduce Side.Unprotected (renamed_kind f kind) i t) e (λ e1. reduce-too Side.Unprotected kind i s t u r e1)
    label-too rise others (Label.Close i) e = resting-too (closed i s) (closed i t) e (closed-too i)

-- Labels, one after another

pub run-too : (f g : ℕ → ℕ) → AreInverse f g → (labels : List Label) (s t u : State) → IsOrderly s → IsOrderly t → IsRenamed f s t → run s labels ≡ Some u
    → LeadsToo f (run t (map (renamed_label f) labels)) u
run-too f g inverse [] s t u ordered others r e = let same : s ≡ u = cc in record { behind = t; leads = refl; renames = subst (λ (z : State). IsRenamed f z t) same r }
run-too f g inverse (label ∷ labels) s t u ordered others r e =
    option_and_then_some (λ (v : State). run v labels) (after s label) u e (λ v first rest.
    let x = label-too f g inverse s t v r ordered.members_rise others.members_rise label first in
    let y =
    run-too f g inverse labels v x.behind u ((after-goes s label v first).orderly ordered) ((after-goes t (renamed_label f label) x.behind x.leads).orderly others) x.renames rest in
    record { behind = y.behind; leads = ap (option_and_then (λ (z : State). run z (map (renamed_label f) labels))) x.leads ∙ y.leads; renames = y.renames })
