-- A walk after a step that was wanted.
use Rattle.std.proofs.Common.{◌≡◌, ℕ, ◌+◌, ◌⊎◌, inl, inr, ℤ, Bool, true, List, [], ◌∷◌, ◌++◌, Option, Some, None, is_some, refl, sym, ap, ◌∙◌, subst}
use Rattle.ame_term.specs.Tree.{Val, Tree, unit_tree}
use Rattle.ame_term.specs.Signature.{Signature}
use Rattle.ame_term.specs.Frame.{Side, side_told}
use Rattle.ame_term.specs.Context.{fill}
use Rattle.ame_term.specs.Act.{Act, act_of}
use Rattle.ame_term.specs.Maps.{at, put}
use Rattle.ame_term.specs.State.{State}
use Rattle.ame_term.specs.declared.types.Sort.{Sort}
use Rattle.ame_term.specs.declared.types.TyNo.{TyNo}
use Rattle.ame_laws.proofs.MapLemmas.{at-put, at-put_same}
use Rattle.ame_laws.specs.Typed.StoreTyping.{StoreTyping, Grows}
use Rattle.ame_journal.specs.Replay.{or_else}
use Rattle.ame_journal.specs.Replayed.{is_tall}
use Rattle.ame_machine.specs.Run.Local.{LocalState, fed, took, taken_where, set_at, made_at, refilled_in, given_more, one_step}
use Rattle.ame_machine.specs.Run.AgreesWith.{AgreesWith}
use Rattle.ame_machine.specs.MachineView.{MachineView, running_side, place_shown}
use Rattle.ame_machine.specs.Meaning.{Meaning}
use Rattle.ame_machine.specs.Comes.{HasNextAct}
use Rattle.ame_machine.specs.Move.{fed_stage, stepped_to}
use Rattle.ame_machine.proofs.Run.RunLemmas.{step-of, acted-more}
use Rattle.ame_machine.proofs.MoveLemmas.{fed-is}
use Rattle.ame_check.specs.Shows.{IsMadeCell, ShowsValue, ShowsCells}
use Rattle.ame_check.specs.Walk.{active_on, IsStepping}
use Rattle.ame_check.specs.Walked.{place_with}
use Rattle.ame_check.proofs.GoingLemmas.{bare, Chosen, any-types, going-on, going-as}
use Rattle.ame_check.proofs.FormLemmas.{allocated-typed}
use Rattle.ame_check.specs.Shows.{HasForm}
use Rattle.ame_check.specs.declared.stored.Stored.{Stored}

module _ (signature : Signature) (s : State) (i : ℕ) where
  -- the place of the machine then, and how far the walk has come
  pub record IsFedOn (types : StoreTyping) (P : StoreTyping → Type 0) (sets : List (ℕ × Val)) (m o : MachineView) (plain : Tree × LocalState) : Type 0 where
    pub is : stepped_to m (refilled_in m.term plain) ≡ o
    pub later : StoreTyping
    pub grows : Grows types later
    pub has : P later
    pub going : IsStepping signature later s i (running_side o) (place_with sets o) o.steps

  pub fed-going : {types : StoreTyping} (P : StoreTyping → Type 0) (sets later : List (ℕ × Val)) (m o : MachineView) (act : Act) (v : Val) (made plain : Tree × LocalState) → HasNextAct m act
      → fed act (running_side m) v (place_with sets m) ≡ Some made → fed act (running_side m) v (place_shown m) ≡ Some plain → fed_stage v m ≡ Some o
      → AgreesWith s.store made.1 → made.1.answer ≡ None
      → bare made.1.sets (refilled_in m.term made) ≡ place_with later (stepped_to m (refilled_in m.term plain))
      → (g : IsStepping signature types s i (running_side m) (place_with sets m) m.steps)
      → Chosen signature s i (running_side m) (place_with sets m) m.steps g P (refilled_in m.term made) → (is_tall (running_side m) i g.now ≡ true → ⊥) → IsFedOn types P later m o plain
  fed-going P sets later m o act v made plain there gives gives_plain e agrees quiet same g chosen calm =
      let side = running_side m in
      let p = place_with sets m in
      let x = stepped_to m (refilled_in m.term plain) in
      let step : one_step side (given_more (v ∷ []) p) ≡ Some (refilled_in m.term made) =
      step-of side (given_more (v ∷ []) p) there.0 made refl there.1 (acted-more side p (act_of there.0) v made refl (ap (λ (a : Act). fed a side v p) there.2 ∙ gives)) in
      let h = going-on signature s i side p m.steps g P (v ∷ []) (refilled_in m.term made) chosen step (record { seen = agrees.seen; own = agrees.own; made = agrees.made }) quiet calm in
      let at_x : IsStepping signature h.later s i (running_side x) (place_with later x) x.steps = going-as signature s i side (refilled_in m.term made) (place_with later x) (m.steps + 1) x.steps same refl h.going in
      let both : ◌≡◌ {A = Option MachineView} (Some x) (Some o) = sym (fed-is v m act plain there gives_plain) ∙ e in
      let one : x ≡ o = cc in
      record {
        is = one;
        later = h.later;
        grows = h.grows;
        has = h.has;
        going = subst (λ (z : MachineView). IsStepping signature h.later s i (running_side z) (place_with later z) z.steps) one at_x;
      }

  -- A value that is taken

  took-agrees : (store : List (ℕ × Val)) (o : Option Val) (l : ℕ) (v : Val) (m : MachineView) (sets : List (ℕ × Val)) → or_else o (at store l) ≡ Some v
      → AgreesWith store (taken_where o l v (place_with sets m))
  took-agrees store None l v m sets e = record { seen = (e, tt); own = tt; made = tt }
  took-agrees store (Some w) l v m sets e = record { seen = tt; own = (let same : v ≡ w = cc in same, tt); made = tt }

  took-quiet : (o : Option Val) (l : ℕ) (v : Val) (m : MachineView) (sets : List (ℕ × Val)) → (taken_where o l v (place_with sets m)).answer ≡ None
  took-quiet None l v m sets = refl
  took-quiet (Some w) l v m sets = refl

  took-same : (o : Option Val) (l : ℕ) (v : Val) (m : MachineView) (sets : List (ℕ × Val)) (t : Tree)
      → bare (taken_where o l v (place_with sets m)).sets (record (taken_where o l v (place_with sets m)) { term = t }) ≡ place_with sets (record m { term = t })
  took-same None l v m sets t = refl
  took-same (Some w) l v m sets t = refl

  took-shown : (l : ℕ) (v : Val) (m : MachineView) (sets : List (ℕ × Val)) (t : Tree)
      → place_with sets (record m { term = t }) ≡ place_with sets (stepped_to m (record (took l v (place_shown m)) { term = t }))
  took-shown l v m sets t = refl

  module _ {types : StoreTyping} (sets : List (ℕ × Val)) (m o : MachineView) (g : IsStepping signature types s i (running_side m) (place_with sets m) m.steps)
      (calm : is_tall (running_side m) i g.now ≡ true → ⊥) where
    abbrev pub Feeds : List (ℕ × Val) → Tree × LocalState → Type 0
    Feeds later plain = IsFedOn types (λ z. Unit {0}) later m o plain

    any : (made : Tree × LocalState) → Chosen signature s i (running_side m) (place_with sets m) m.steps g (λ z. Unit {0}) (refilled_in m.term made)
    any made = any-types signature s i (running_side m) (place_with sets m) m.steps g (refilled_in m.term made)

    taken : (act : Act) (l : ℕ) (v : Val) → HasNextAct m act → fed act (running_side m) v (place_with sets m) ≡ Some (Tree.Held v, took l v (place_with sets m))
        → fed act (running_side m) v (place_shown m) ≡ Some (Tree.Held v, took l v (place_shown m)) → fed_stage v m ≡ Some o
        → or_else (at sets l) (at s.store l) ≡ Some v → Feeds sets (Tree.Held v, took l v (place_shown m))
    taken act l v there gives gives_plain e is =
        fed-going (λ z. Unit {0}) sets sets m o act v (Tree.Held v, took l v (place_with sets m)) (Tree.Held v, took l v (place_shown m)) there gives gives_plain e
        (took-agrees s.store (at sets l) l v m sets is) (took-quiet (at sets l) l v m sets)
        (took-same (at sets l) l v m sets (fill m.term (Tree.Held v)) ∙ took-shown l v m sets (fill m.term (Tree.Held v))) g (any (Tree.Held v, took l v (place_with sets m))) calm

    pub fed-read : (l : ℕ) (v : Val) → HasNextAct m (Act.Reads l) → fed_stage v m ≡ Some o → or_else (at sets l) (at s.store l) ≡ Some v
        → Feeds sets (Tree.Held v, took l v (place_shown m))
    fed-read l v there e is = taken (Act.Reads l) l v there refl refl e is

    pub fed-peek : (l : ℕ) (v : Val) → m.inside ≡ true → HasNextAct m (Act.Peeks l) → fed_stage v m ≡ Some o → or_else (at sets l) (at s.store l) ≡ Some v
        → Feeds sets (Tree.Held v, took l v (place_shown m))
    fed-peek l v in_it there e is =
        taken (Act.Peeks l) l v there (ap (λ (b : Bool). fed (Act.Peeks l) (side_told b) v (place_with sets m)) in_it) (ap (λ (b : Bool). fed (Act.Peeks l) (side_told b) v (place_shown m)) in_it) e is

    pub fed-write : (l : ℕ) (v : Val) → HasNextAct m (Act.Writes l v) → fed_stage Val.Unit m ≡ Some o → Feeds (put sets l v) (unit_tree, set_at l v (place_shown m))
    fed-write l v there e =
        fed-going (λ z. Unit {0}) sets (put sets l v) m o (Act.Writes l v) Val.Unit (unit_tree, set_at l v (place_with sets m)) (unit_tree, set_at l v (place_shown m)) there refl refl e
        (record { seen = tt; own = tt; made = tt }) refl refl g (any (unit_tree, set_at l v (place_with sets m))) calm

    some-put : (l k : ℕ) (v : Val) (o : Option Val) → is_some (or_else (at sets k) o) ≡ true → is_some (or_else (at (put sets l v) k) o) ≡ true
    some-put l k v o some = by (at-put sets l k v)
      where
        by : ((l ≡ k) × (at (put sets l v) k ≡ Some v)) ⊎ (((l ≡ k) → ⊥) × (at (put sets l v) k ≡ at sets k)) → is_some (or_else (at (put sets l v) k) o) ≡ true
        by (inl a) = ap (λ (z : Option Val). is_some (or_else z o)) a.1
        by (inr a) = ap (λ (z : Option Val). is_some (or_else z o)) a.1 ∙ some

    -- the types with that of a new location
    chosen-new : (sort : Sort) (number : TyNo) (l : ℕ) (v : Val) → HasNextAct m (Act.Allocates sort number v) → at sets l ≡ None → at s.store l ≡ None
        → Chosen signature s i (running_side m) (place_with sets m) m.steps g (λ z. HasForm signature z l sort number) (refilled_in m.term (Tree.Held (Val.Loc l), made_at l v (place_with sets m)))
    chosen-new sort number l v there unset unstored kind t legal run used =
        let a = allocated-typed signature types g.now t i (running_side m) kind m.term there.0 l sort number v g.typed legal g.member
        (λ on. g.active ∙ ap (λ (z : Side). active_on z i) on) there.1 there.2
        (g.after_run.stored l ∙ ap (λ (o : Option Val). or_else o (at s.store l)) unset ∙ unstored) m.fresh used
        (λ k some. ap is_some (run.stored k) ∙ some-put l k v (at s.store k) (sym (ap is_some (g.after_run.stored k)) ∙ some))
        (ap is_some (run.stored l) ∙ ap (λ (o : Option Val). is_some (or_else o (at s.store l))) (at-put_same sets l v)) in
        (a.later, a.grows, a.typed, a.has)

    pub fed-alloc : (sort : Sort) (number : TyNo) (l : ℕ) (v : Val) → HasNextAct m (Act.Allocates sort number v) → fed_stage (Val.Loc l) m ≡ Some o → at sets l ≡ None → at s.store l ≡ None
        → IsFedOn types (λ z. HasForm signature z l sort number) (put sets l v) m o (Tree.Held (Val.Loc l), made_at l v (place_shown m))
    fed-alloc sort number l v there e unset unstored =
        fed-going (λ z. HasForm signature z l sort number) sets (put sets l v) m o (Act.Allocates sort number v) (Val.Loc l) (Tree.Held (Val.Loc l), made_at l v (place_with sets m)) (Tree.Held (Val.Loc l), made_at l v (place_shown m)) there refl refl e
        (record { seen = tt; own = tt; made = ((unstored, unset), tt) }) refl refl g (chosen-new sort number l v there unset unstored) calm

    pub fed-spawn : (body : Tree) → m.inside ≡ true → HasNextAct m (Act.Spawns body) → fed_stage Val.Unit m ≡ Some o
        → Feeds sets (unit_tree, record (place_shown m) { spawns = m.spawns ++ body ∷ [] })
    fed-spawn body in_it there e =
        fed-going (λ z. Unit {0}) sets sets m o (Act.Spawns body) Val.Unit (unit_tree, record (place_with sets m) { spawns = m.spawns ++ body ∷ [] }) (unit_tree, record (place_shown m) { spawns = m.spawns ++ body ∷ [] }) there
        (ap (λ (b : Bool). fed (Act.Spawns body) (side_told b) Val.Unit (place_with sets m)) in_it) (ap (λ (b : Bool). fed (Act.Spawns body) (side_told b) Val.Unit (place_shown m)) in_it) e
        (record { seen = tt; own = tt; made = tt }) refl refl g (any (unit_tree, record (place_with sets m) { spawns = m.spawns ++ body ∷ [] })) calm

    pub fed-print : (n : ℤ) → m.inside ≡ true → HasNextAct m (Act.Prints n) → fed_stage Val.Unit m ≡ Some o
        → Feeds sets (unit_tree, record (place_shown m) { prints = m.prints ++ n ∷ [] })
    fed-print n in_it there e =
        fed-going (λ z. Unit {0}) sets sets m o (Act.Prints n) Val.Unit (unit_tree, record (place_with sets m) { prints = m.prints ++ n ∷ [] }) (unit_tree, record (place_shown m) { prints = m.prints ++ n ∷ [] }) there
        (ap (λ (b : Bool). fed (Act.Prints n) (side_told b) Val.Unit (place_with sets m)) in_it) (ap (λ (b : Bool). fed (Act.Prints n) (side_told b) Val.Unit (place_shown m)) in_it) e
        (record { seen = tt; own = tt; made = tt }) refl refl g (any (unit_tree, record (place_with sets m) { prints = m.prints ++ n ∷ [] })) calm

-- Values shown

module _ {C V M : Type 0} (meaning : Meaning C V M) (code : C) where
  pub shows-put : (cells : List (ℕ × Stored V)) (store : List (ℕ × Val)) (l : ℕ) (v : Stored V) (w : Val) → ShowsCells meaning code cells store → IsMadeCell meaning code v → meaning.value_of code v.value ≡ w
      → ShowsCells meaning code (put cells l v) (put store l w)
  shows-put cells store l v w shows good is k = by (at-put cells l k v) (at-put store l k w)
    where
      by : ((l ≡ k) × (at (put cells l v) k ≡ Some v)) ⊎ (((l ≡ k) → ⊥) × (at (put cells l v) k ≡ at cells k))
          → ((l ≡ k) × (at (put store l w) k ≡ Some w)) ⊎ (((l ≡ k) → ⊥) × (at (put store l w) k ≡ at store k))
          → ShowsValue meaning code (at (put cells l v) k) (at (put store l w) k)
      by (inl a) (inl b) = subst (λ (o : Option (Stored V)). ShowsValue meaning code o (at (put store l w) k)) (sym a.1) (good, b.1 ∙ ap (λ (z : Val). Some z) (sym is))
      by (inl a) (inr b) = absurd (b.0 a.0)
      by (inr a) (inl b) = absurd (a.0 b.0)
      by (inr a) (inr b) =
          subst (λ (o : Option (Stored V)). ShowsValue meaning code o (at (put store l w) k)) (sym a.1)
          (subst (λ (o : Option Val). ShowsValue meaning code (at cells k) o) (sym b.1) (shows k))

  -- one value laid over another
  pub shown-some : (a b : Option (Stored V)) (x y : Option Val) (v : Stored V) → ShowsValue meaning code a x → ShowsValue meaning code b y → Some v ≡ or_else a b
      → IsMadeCell meaning code v × (or_else x y ≡ Some (meaning.value_of code v.value))
  shown-some None None x y v h k e = cc
  shown-some None (Some w) x y v h k e =
      let same : w ≡ v = cc in
      (subst (λ (z : Stored V). IsMadeCell meaning code z) same k.0, ap (λ (o : Option Val). or_else o y) h ∙ k.1 ∙ ap (λ (z : Stored V). Some (meaning.value_of code z.value)) same)
  shown-some (Some w) b x y v h k e =
      let same : w ≡ v = cc in
      (subst (λ (z : Stored V). IsMadeCell meaning code z) same h.0, ap (λ (o : Option Val). or_else o y) h.1 ∙ ap (λ (z : Stored V). Some (meaning.value_of code z.value)) same)

  pub shown-none : (a b : Option (Stored V)) (x y : Option Val) → ShowsValue meaning code a x → ShowsValue meaning code b y → None ≡ or_else a b → (x ≡ None) × (y ≡ None)
  shown-none None None x y h k e = (h, k)
  shown-none None (Some w) x y h k e = cc
  shown-none (Some w) b x y h k e = cc
