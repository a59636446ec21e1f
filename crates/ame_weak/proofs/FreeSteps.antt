-- Steps of unprotected code in a weak state are also made in the state below the run that is laid over.
use Rattle.std.proofs.Common.{◌≡◌, ℕ, ◌+◌, ◌<◌, ◌++◌, ◌⊎◌, inl, inr, Bool, true, false, List, [], ◌∷◌, Option, Some, None, is_some, option_map, option_and_then, if◌then◌else◌, refl, sym, ap, ◌∙◌, subst, arith}
use Rattle.std.proofs.lemmas.Option.{option_and_then_some}
use Rattle.std.specs.List.{AllByRecursion}
use Rattle.ame_term.specs.Tree.{Typ, Val, Tree, unit_tree}
use Rattle.ame_term.specs.Signature.{Signature}
use Rattle.ame_term.specs.Frame.{Side}
use Rattle.ame_term.specs.Context.{Focus, focus, fill}
use Rattle.ame_term.specs.Act.{Act, act_of, makes}
use Rattle.ame_term.specs.HasType.{code_of}
use Rattle.ame_term.specs.Maps.{at, put, change}
use Rattle.ame_term.specs.State.{State, performed, performed_on, reduced_at, rewritten, reduce, closed, closed_value}
use Rattle.ame_term.specs.declared.semantics.StepKind.{StepKind}
use Rattle.ame_term.specs.declared.types.Effect.{Effect}
use Rattle.ame_term.specs.declared.types.Loc.{Loc}
use Rattle.ame_term.specs.declared.types.Sort.{Sort}
use Rattle.ame_term.specs.declared.types.TyNo.{TyNo}
use Rattle.ame_laws.specs.Typed.StoreTyping.{StoreTyping}
use Rattle.ame_laws.specs.Typed.TypedAct.{IsTypedAct}
use Rattle.ame_laws.specs.Typed.TypedState.{IsTyped, IsMember}
use Rattle.ame_laws.proofs.MapLemmas.{at-put, at-put_other, at-change_other, each-at}
use Rattle.ame_laws.proofs.Typed.Progressed.{found_act}
use Rattle.ame_journal.specs.Replay.{or_else, redex_act}
use Rattle.ame_journal.proofs.StepLemmas.{reduced}
use Rattle.ame_machine.specs.Run.Local.{LocalState}
use Rattle.ame_machine.specs.Run.AgreesWith.{AgreesWith}
use Rattle.ame_machine.proofs.Run.RunLemmas.{same_as_itself}
use Rattle.ame_machine.proofs.Run.EffectLemmas.{put-alike}
use Rattle.ame_weak.specs.Weak.{Weak, moved, may_free}
use Rattle.ame_weak.proofs.MemberLemmas.{change-alike}
use Rattle.ame_weak.proofs.HeldSteps.{map-gave}
use Rattle.ame_weak.proofs.Laid.{IsLaid, IsUntouched, IsApart, HasSetMade, unseen}

-- a reduction of a member whose redex is known
pub reduce-made : (side : Side) (kind : StepKind) (i : ℕ) (t : State) (term redex : Tree) (made : Tree × State) → at t.members i ≡ Some term
    → focus term ≡ Focus.AtRedex side redex → makes side kind (act_of redex) ≡ true → performed kind (act_of redex) t ≡ Some made
    → reduce side kind i t ≡ Some (rewritten i term made)
reduce-made side kind i t term redex made member stands can is =
    ap (option_and_then (λ (z : Tree). option_map (rewritten i z) (reduced_at side kind (focus z) t))) member
    ∙ ap (λ (f : Focus). option_map (rewritten i term) (reduced_at side kind f t)) stands
    ∙ ap (λ (b : Bool). option_map (rewritten i term) (if b then performed_on side kind (act_of redex) t else None)) (same_as_itself side)
    ∙ ap (λ (b : Bool). option_map (rewritten i term) (if b then performed kind (act_of redex) t else None)) can
    ∙ ap (option_map (rewritten i term)) is

-- A location that a run hasn't touched may be stored anew.

seen-put : (store : List (ℕ × Val)) (l : ℕ) (v : Val) (seen : List (ℕ × Val)) → AllByRecursion (λ e. e.0 ≡ l → ⊥) seen
    → AllByRecursion (λ e. at store e.0 ≡ Some e.1) seen → AllByRecursion (λ e. at (put store l v) e.0 ≡ Some e.1) seen
seen-put store l v [] apart all = tt
seen-put store l v (e ∷ seen) apart all = (at-put_other store l e.0 v (λ same. apart.0 (sym same)) ∙ all.0, seen-put store l v seen apart.1 all.1)

made-put : (store sets : List (ℕ × Val)) (l : ℕ) (v : Val) → at sets l ≡ None → (made : List (ℕ × Option Val)) → AllByRecursion (λ e. is_some (at sets e.0) ≡ true) made
    → AllByRecursion (λ e. (at store e.0 ≡ None) × (e.1 ≡ None)) made → AllByRecursion (λ e. (at (put store l v) e.0 ≡ None) × (e.1 ≡ None)) made
made-put store sets l v unset [] set all = tt
made-put store sets l v unset (e ∷ made) set all =
    let other : l ≡ e.0 → ⊥ = λ same. let clash : true ≡ false = sym set.0 ∙ ap (λ k. is_some (at sets k)) (sym same) ∙ ap is_some unset in cc in
    ((at-put_other store l e.0 v other ∙ all.0.0, all.0.1), made-put store sets l v unset made set.1 all.1)

agrees-put : (store : List (ℕ × Val)) (l : ℕ) (v : Val) (p : LocalState) → IsUntouched l p → HasSetMade p → AgreesWith store p → AgreesWith (put store l v) p
agrees-put store l v p free set a = record {
  seen = seen-put store l v p.seen free.1 a.seen;
  own = a.own;
  made = made-put store p.sets l v free.0 p.made set a.made;
}

-- each location that was changed is one that the run hasn't set
abbrev pub ChangesApart : State → State → LocalState → Type 0
ChangesApart s t p = (l : ℕ) → (at t.store l ≡ at s.store l) ⊎ (at p.sets l ≡ None)

-- an act of unprotected code in a weak state is made in the state below
record IsFreeActed (s : State) (i : ℕ) (p : LocalState) (w : Weak) (act : Act) (kind : StepKind) (made : Tree × State) : Type 0 where
  pub below : State
  pub performs : performed kind act s ≡ Some (made.0, below)
  pub laid : IsLaid below i p (moved w made.1)
  pub agrees : AgreesWith below.store p
  pub apart : ChangesApart s below p
  pub own : at made.1.members i ≡ at w.state.members i
  pub stays : at below.members i ≡ at s.members i
  pub active : below.active ≡ s.active

-- The weak state after a step of unprotected code is laid over the state below after that step.
pub record IsBelow (s : State) (i : ℕ) (p : LocalState) (w : Weak) (v below : State) : Type 0 where
  pub laid : IsLaid below i p (moved w v)
  pub agrees : AgreesWith below.store p
  pub apart : ChangesApart s below p
  pub own : at v.members i ≡ at w.state.members i
  pub stays : at below.members i ≡ at s.members i
  pub active : below.active ≡ s.active

module _ (signature : Signature) (cells : StoreTyping) (s : State) (i : ℕ) (p : LocalState) (w : Weak) (typed : IsTyped signature cells s)
    (h : IsLaid s i p w) (a : AgreesWith s.store p) (set : HasSetMade p) (untouched : IsApart cells p) (there : i < w.state.next) where
  its : (act : Act) (kind : StepKind) (made other : Tree × State) → Some made ≡ Some other → IsFreeActed s i p w act kind made → IsFreeActed s i p w act kind other
  its act kind made other e so = let same : made ≡ other = cc in subst (IsFreeActed s i p w act kind) same so

  laid-again : IsLaid s i p (moved w w.state)
  laid-again = record { active = h.active; output = h.output; next = h.next; stored = h.stored; others = h.others; prints = h.prints; spawns = h.spawns }

  same-below : ChangesApart s s p
  same-below l = inl refl

  -- a location that the run hasn't set is stored above as below
  as-below : (l : ℕ) → at p.sets l ≡ None → at w.state.store l ≡ at s.store l
  as-below l unset = h.stored l ∙ ap (λ (o : Option Val). or_else o (at s.store l)) unset

  laid-put : (l : ℕ) (v : Val) → at p.sets l ≡ None → IsLaid (record s { store = put s.store l v }) i p (moved w (record w.state { store = put w.state.store l v }))
  laid-put l v unset = record {
    active = h.active;
    output = h.output;
    next = h.next;
    stored = λ m. by m (at-put w.state.store l m v) (at-put s.store l m v);
    others = h.others;
    prints = h.prints;
    spawns = h.spawns;
  }
    where
      by : (m : ℕ) → ((l ≡ m) × (at (put w.state.store l v) m ≡ Some v)) ⊎ (((l ≡ m) → ⊥) × (at (put w.state.store l v) m ≡ at w.state.store m))
          → ((l ≡ m) × (at (put s.store l v) m ≡ Some v)) ⊎ (((l ≡ m) → ⊥) × (at (put s.store l v) m ≡ at s.store m))
          → at (put w.state.store l v) m ≡ or_else (at p.sets m) (at (put s.store l v) m)
      by m (inl k) (inl n) =
          let unset_there : at p.sets m ≡ None = ap (at p.sets) (sym k.0) ∙ unset in
          k.1 ∙ sym n.1 ∙ sym (ap (λ (o : Option Val). or_else o (at (put s.store l v) m)) unset_there)
      by m (inl k) (inr n) = absurd (n.0 k.0)
      by m (inr k) (inl n) = absurd (k.0 n.0)
      by m (inr k) (inr n) = k.1 ∙ h.stored m ∙ ap (or_else (at p.sets m)) (sym n.1)

  put-changes : (l : ℕ) (v : Val) → at p.sets l ≡ None → ChangesApart s (record s { store = put s.store l v }) p
  put-changes l v unset m = by (at-put s.store l m v)
    where
      by : ((l ≡ m) × (at (put s.store l v) m ≡ Some v)) ⊎ (((l ≡ m) → ⊥) × (at (put s.store l v) m ≡ at s.store m))
          → (at (put s.store l v) m ≡ at s.store m) ⊎ (at p.sets m ≡ None)
      by (inl k) = inr (ap (at p.sets) (sym k.0) ∙ unset)
      by (inr k) = inl k.1

  -- the run hasn't touched what unprotected code reads and writes
  sorted-free : (l : ℕ) (t : Typ) (sort : Sort) → cells l ≡ Some (sort, t) → code_of sort ≡ Effect.Unprotected → IsUntouched l p
  sorted-free l t Sort.Unprotected is code = untouched l t is
  sorted-free l t Sort.Protected is code = cc

  none-both : (x y : Option Val) → or_else x y ≡ None → (x ≡ None) × (y ≡ None)
  none-both None y e = (refl, e)
  none-both (Some v) y e = cc

  allocated-so : (sort : Sort) (number : TyNo) (v : Val) (l : Loc) (made : Tree × State) (o : Option Val) → at w.state.store l.0 ≡ o
      → (if is_some o then None else Some (Tree.Held (Val.Loc l.0), record w.state { store = put w.state.store l.0 v })) ≡ Some made
      → IsFreeActed s i p w (Act.Allocates sort number v) (StepKind.Alloc l) made
  allocated-so sort number v l made None free e =
      let both = none-both (at p.sets l.0) (at s.store l.0) (sym (h.stored l.0) ∙ free) in
      its (Act.Allocates sort number v) (StepKind.Alloc l) (Tree.Held (Val.Loc l.0), record w.state { store = put w.state.store l.0 v }) made e (record {
        below = record s { store = put s.store l.0 v };
        performs = ap (λ (o : Option Val). if is_some o then None else Some (Tree.Held (Val.Loc l.0), record s { store = put s.store l.0 v })) both.1;
        laid = laid-put l.0 v both.0;
        agrees = agrees-put s.store l.0 v p (both.0, unseen s.store l.0 both.1 p.seen a.seen) set a;
        apart = put-changes l.0 v both.0;
        own = refl;
        stays = refl;
        active = refl;
      })
  allocated-so sort number v l made (Some x) free e = cc

  read-so : (l : ℕ) (made : Tree × State) → IsUntouched l p → (o : Option Val) → at w.state.store l ≡ o
      → option_map {U = Tree × State} (λ v. (Tree.Held v, w.state)) o ≡ Some made → IsFreeActed s i p w (Act.Reads l) StepKind.Read made
  read-so l made free None found e = cc
  read-so l made free (Some v) found e = its (Act.Reads l) StepKind.Read (Tree.Held v, w.state) made e (record {
    below = s;
    performs = ap (option_map {U = Tree × State} (λ x. (Tree.Held x, s))) (sym (as-below l free.0) ∙ found);
    laid = laid-again;
    agrees = a;
    apart = same-below;
    own = refl;
    stays = refl;
    active = refl;
  })

  free-acts : (act : Act) (kind : StepKind) (t : Typ) (made : Tree × State) → makes Side.Unprotected kind act ≡ true → may_free (Some i) kind ≡ true
      → IsTypedAct signature cells Effect.Unprotected t act → performed kind act w.state ≡ Some made → IsFreeActed s i p w act kind made
  free-acts (Act.Becomes term) StepKind.Local t made can may act_typed e =
      its (Act.Becomes term) StepKind.Local (term, w.state) made e (record { below = s; performs = refl; laid = laid-again; agrees = a; apart = same-below; own = refl; stays = refl; active = refl })
  free-acts (Act.Becomes term) _ t made can may act_typed e = cc
  free-acts (Act.Allocates sort number v) (StepKind.Alloc l) t made can may act_typed e = allocated-so sort number v l made (at w.state.store l.0) refl e
  free-acts (Act.Allocates sort number v) _ t made can may act_typed e = cc
  free-acts (Act.Reads l) StepKind.Read t made can may act_typed e =
      read-so l made (sorted-free l t act_typed.0 act_typed.1 act_typed.2) (at w.state.store l) refl e
  free-acts (Act.Reads l) _ t made can may act_typed e = cc
  free-acts (Act.Peeks l) StepKind.Peek t made can may act_typed e = cc
  free-acts (Act.Peeks l) _ t made can may act_typed e = cc
  free-acts (Act.Writes l v) StepKind.Write t made can may act_typed e =
      let free = sorted-free l act_typed.1 act_typed.0 act_typed.2 act_typed.4 in
      its (Act.Writes l v) StepKind.Write (unit_tree, record w.state { store = put w.state.store l v }) made e (record {
        below = record s { store = put s.store l v };
        performs = refl;
        laid = laid-put l v free.0;
        agrees = agrees-put s.store l v p free set a;
        apart = put-changes l v free.0;
        own = refl;
        stays = refl;
        active = refl;
      })
  free-acts (Act.Writes l v) _ t made can may act_typed e = cc
  free-acts (Act.Spawns body) StepKind.Spawn t made can may act_typed e =
      its (Act.Spawns body) StepKind.Spawn (unit_tree, record w.state { members = put w.state.members w.state.next body; next = w.state.next + 1 }) made e (record {
        below = record s { members = put s.members s.next body; next = s.next + 1 };
        performs = refl;
        laid = record {
          active = h.active;
          output = h.output;
          next = ap (λ n. n + 1) h.next;
          stored = h.stored;
          others = λ k other.
              put-alike w.state.members s.members w.state.next k body (h.others k other)
              ∙ ap (λ (n : ℕ). at (put s.members n body) k) h.next;
          prints = h.prints;
          spawns = h.spawns;
        };
        agrees = a;
        apart = λ l. inl refl;
        own = at-put_other w.state.members w.state.next i body (λ same. omega arith);
        stays = at-put_other s.members s.next i body (λ same. let e : w.state.next ≡ s.next = h.next in omega arith);
        active = refl;
      })
  free-acts (Act.Spawns body) _ t made can may act_typed e = cc
  free-acts (Act.Prints n) StepKind.Print t made can may act_typed e =
      its (Act.Prints n) StepKind.Print (unit_tree, record w.state { output = w.state.output ++ n ∷ [] }) made e (record {
        below = record s { output = s.output ++ n ∷ [] };
        performs = refl;
        laid = record {
          active = h.active;
          output = ap (λ ns. ns ++ n ∷ []) h.output;
          next = h.next;
          stored = h.stored;
          others = h.others;
          prints = h.prints;
          spawns = h.spawns;
        };
        agrees = a;
        apart = λ l. inl refl;
        own = refl;
        stays = refl;
        active = refl;
      })
  free-acts (Act.Prints n) _ t made can may act_typed e = cc
  free-acts (Act.Calls device n) (StepKind.Device answer) t made can may act_typed e =
      its (Act.Calls device n) (StepKind.Device answer) (Tree.Held (Val.Int answer), w.state) made e
      (record { below = s; performs = refl; laid = laid-again; agrees = a; apart = same-below; own = refl; stays = refl; active = refl })
  free-acts (Act.Calls device n) _ t made can may act_typed e = cc
  free-acts _ kind t made can may act_typed e = cc

  -- another term for member j
  changed-below : (j : ℕ) (term : Tree) (y t : State) → (j ≡ i → ⊥) → IsBelow s i p w y t
      → IsBelow s i p w (record y { members = change y.members j term }) (record t { members = change t.members j term })
  changed-below j term y t other k = record {
    laid = record {
      active = k.laid.active;
      output = k.laid.output;
      next = k.laid.next;
      stored = k.laid.stored;
      others = λ n apart_of. change-alike y.members t.members j n term (k.laid.others n apart_of);
      prints = k.laid.prints;
      spawns = k.laid.spawns;
    };
    agrees = k.agrees;
    apart = k.apart;
    own = at-change_other y.members j i term other ∙ k.own;
    stays = at-change_other t.members j i term other ∙ k.stays;
    active = k.active;
  }

  pub free-below : (j : ℕ) (kind : StepKind) (u : State) → (j ≡ i → ⊥) → may_free (Some i) kind ≡ true → reduce Side.Unprotected kind j w.state ≡ Some u
      → (t : State) × (reduce Side.Unprotected kind j s ≡ Some t) × IsBelow s i p w u t
  free-below j kind u other may e =
      let x = reduced Side.Unprotected kind j w.state u e in
      let found : at s.members j ≡ Some x.term = sym (h.others j other) ∙ x.is_member in
      let acts_so : ◌≡◌ {A = Option Act} (Some (act_of x.redex)) (Some x.act) =
      sym (ap (option_and_then (λ (z : Tree). redex_act (focus z))) x.is_member ∙ ap redex_act x.stands) ∙ x.is_act in
      let act_is : act_of x.redex ≡ x.act = cc in
      let a_typed = found_act signature cells x.term Typ.Unit (each-at (IsMember signature cells) s.members j x.term found typed.typed.members) Side.Unprotected x.redex x.stands in
      let k =
      free-acts (act_of x.redex) kind a_typed.0 x.result (ap (makes Side.Unprotected kind) act_is ∙ x.can) may a_typed.1
      (ap (λ (z : Act). performed kind z w.state) act_is ∙ x.made) in
      let part = fill x.term x.result.0 in
      let below = record k.below { members = change k.below.members j part } in (
        below,
        reduce-made Side.Unprotected kind j s x.term x.redex (x.result.0, k.below) found x.stands (ap (makes Side.Unprotected kind) act_is ∙ x.can) k.performs,
        subst (λ (z : State). IsBelow s i p w z below) x.is
            (changed-below j part x.result.1 k.below other (record { laid = k.laid; agrees = k.agrees; apart = k.apart; own = k.own; stays = k.stays; active = k.active })),
      )

  pub close-below : (j : ℕ) (u : State) → (j ≡ i → ⊥) → closed j w.state ≡ Some u → (t : State) × (closed j s ≡ Some t) × IsBelow s i p w u t
  close-below j u other e =
      option_and_then_some _ _ _ e (λ term is_member e1.
      let m = map-gave (λ v. record w.state { members = change w.state.members j (fill term (Tree.Held v)) }) (closed_value (focus term)) u e1 in
      let part = fill term (Tree.Held m.0) in
      let below = record s { members = change s.members j part } in (
        below,
        ap (option_and_then (λ (z : Tree). option_map (λ v. record s { members = change s.members j (fill z (Tree.Held v)) }) (closed_value (focus z)))) (sym (h.others j other) ∙ is_member)
            ∙ ap (option_map (λ v. record s { members = change s.members j (fill term (Tree.Held v)) })) m.1,
        subst (λ (z : State). IsBelow s i p w z below) m.2
            (changed-below j part w.state s other (record { laid = laid-again; agrees = a; apart = same-below; own = refl; stays = refl; active = refl })),
      ))
