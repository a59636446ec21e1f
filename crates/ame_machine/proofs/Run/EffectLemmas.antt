-- The effect on a state of a step of a run that agrees with a store.
use Rattle.std.proofs.Common.{◌≡◌, ℕ, suc, ◌+◌, ◌⊎◌, inl, inr, ℤ, Bool, true, List, [], ◌∷◌, ◌++◌, length, Option, Some, None, is_some, option_map, option_and_then, if◌then◌else◌, refl, sym, ap, ◌∙◌, subst, arith, append-nil, append_assoc, length-append}
use Rattle.ame_term.specs.Tree.{Val, Tree, unit_tree}
use Rattle.ame_term.specs.Frame.{Side}
use Rattle.ame_term.specs.Context.{Focus, focus, fill}
use Rattle.ame_term.specs.Act.{Act, act_of, makes, device_answer}
use Rattle.ame_term.specs.Maps.{at, put, change}
use Rattle.ame_term.specs.State.{State, loaded, performed, performed_on, reduced_at, rewritten, reduce}
use Rattle.ame_term.specs.declared.semantics.StepKind.{StepKind}
use Rattle.ame_term.specs.declared.types.Loc.{Loc}
use Rattle.ame_term.specs.declared.types.Sort.{Sort}
use Rattle.ame_term.specs.declared.types.TyNo.{TyNo}
use Rattle.ame_laws.proofs.MapLemmas.{at-put, at-change_same, at-change_other, is_some-put}
use Rattle.ame_journal.specs.Labels.{fresh_of}
use Rattle.ame_journal.specs.Replay.{or_else}
use Rattle.ame_machine.specs.Run.Local.{LocalState, took, taken_where, made_at, one_step}
use Rattle.ame_machine.specs.Run.AgreesWith.{AgreesWith, with_members, IsAfterRun}
use Rattle.ame_machine.proofs.Run.RunLemmas.{Acts, Feeds, same_as_itself, step-is}

-- Agreeing, before a step

module _ (store : List (ℕ × Val)) where
  taken-agrees : (o : Option Val) (l : ℕ) (v : Val) (p : LocalState) → AgreesWith store (taken_where o l v p) → AgreesWith store p
  taken-agrees None l v p a = record { seen = a.seen.1; own = a.own; made = a.made }
  taken-agrees (Some w) l v p a = record { seen = a.seen; own = a.own.1; made = a.made }

  feeds-agrees : (p : LocalState) (side : Side) (act : Act) (v : Val) (part : Tree) (q : LocalState) → Feeds p side act v part q → AgreesWith store q → AgreesWith store p
  feeds-agrees p _ _ _ _ _ (Feeds.allocates side sort number v l) a = record { seen = a.seen; own = a.own; made = a.made.1 }
  feeds-agrees p _ _ _ _ _ (Feeds.reads side l v) a = taken-agrees (at p.sets l) l v p a
  feeds-agrees p _ _ _ _ _ (Feeds.peeks l v) a = taken-agrees (at p.sets l) l v p a
  feeds-agrees p _ _ _ _ _ _ a = record { seen = a.seen; own = a.own; made = a.made }

  acts-agrees : (p : LocalState) (side : Side) (act : Act) (part : Tree) (q : LocalState) → Acts p side act part q → AgreesWith store q → AgreesWith store p
  acts-agrees p _ _ _ _ (Acts.feeds side act v inputs part q is given) a =
      let b = feeds-agrees (record p { inputs = inputs }) side act v part q given a in
      record { seen = b.seen; own = b.own; made = b.made }
  acts-agrees p _ _ _ _ _ a = record { seen = a.seen; own = a.own; made = a.made }

  refilled-agrees : (p q : LocalState) (term : Tree) → q ≡ record p { term = term } → AgreesWith store q → AgreesWith store p
  refilled-agrees p q term is a = let b = subst (AgreesWith store) is a in record { seen = b.seen; own = b.own; made = b.made }

  pub step-agrees : (side : Side) (p q : LocalState) → one_step side p ≡ Some q → AgreesWith store q → AgreesWith store p
  step-agrees side p q e a =
      let x = step-is side p q e in
      acts-agrees p side (act_of x.redex) x.part x.behind x.acts (refilled-agrees x.behind q (fill p.term x.part) x.is a)

-- Stores and members

pub stored-put : (store sets : List (ℕ × Val)) (below : Option Val) (l : ℕ) (v : Val) (m : ℕ) → at store m ≡ or_else (at sets m) below
    → at (put store l v) m ≡ or_else (at (put sets l v) m) below
stored-put store sets below l v m h = by (at-put store l m v) (at-put sets l m v)
  where
    by : ((l ≡ m) × (at (put store l v) m ≡ Some v)) ⊎ (((l ≡ m) → ⊥) × (at (put store l v) m ≡ at store m))
        → ((l ≡ m) × (at (put sets l v) m ≡ Some v)) ⊎ (((l ≡ m) → ⊥) × (at (put sets l v) m ≡ at sets m))
        → at (put store l v) m ≡ or_else (at (put sets l v) m) below
    by (inl a) (inl b) = a.1 ∙ sym (ap (λ (o : Option Val). or_else o below) b.1)
    by (inl a) (inr b) = absurd (b.0 a.0)
    by (inr a) (inl b) = absurd (a.0 b.0)
    by (inr a) (inr b) = a.1 ∙ h ∙ sym (ap (λ (o : Option Val). or_else o below) b.1)

pub joined-last : (members : List (ℕ × Tree)) (next : ℕ) (bodies : List Tree) (body : Tree)
    → with_members members next (bodies ++ body ∷ []) ≡ put (with_members members next bodies) (next + length bodies) body
joined-last members next [] body = let e : next + 0 ≡ next = omega arith in ap (λ (n : ℕ). put members n body) (sym e)
joined-last members next (b ∷ bodies) body =
    let e : (next + 1) + length bodies ≡ next + suc (length bodies) = omega arith in
    joined-last (put members next b) (next + 1) bodies body
    ∙ ap (λ (n : ℕ). put (with_members (put members next b) (next + 1) bodies) n body) e

pub put-alike : (xs ys : List (ℕ × Tree)) (n k : ℕ) (x : Tree) → at xs k ≡ at ys k → at (put xs n x) k ≡ at (put ys n x) k
put-alike xs ys n k x same = by (at-put xs n k x) (at-put ys n k x)
  where
    by : ((n ≡ k) × (at (put xs n x) k ≡ Some x)) ⊎ (((n ≡ k) → ⊥) × (at (put xs n x) k ≡ at xs k))
        → ((n ≡ k) × (at (put ys n x) k ≡ Some x)) ⊎ (((n ≡ k) → ⊥) × (at (put ys n x) k ≡ at ys k))
        → at (put xs n x) k ≡ at (put ys n x) k
    by (inl a) (inl b) = a.1 ∙ sym b.1
    by (inl a) (inr b) = absurd (b.0 a.0)
    by (inr a) (inl b) = absurd (a.0 b.0)
    by (inr a) (inr b) = a.1 ∙ same ∙ sym b.1

-- An act

-- an act of a run is one of a kind, and what the run holds then is in the state after it
pub record IsPerformed (s : State) (i : ℕ) (p : LocalState) (t : State) (side : Side) (act : Act) (part : Tree) (q : LocalState) (kind : StepKind) (behind : State) : Type 0 where
  pub can : makes side kind act ≡ true
  pub made : performed kind act t ≡ Some (part, behind)
  pub after_run : IsAfterRun s i q behind
  pub there : is_some (at behind.members i) ≡ true
  pub active : behind.active ≡ t.active
  pub fresh : q.fresh ≡ p.fresh ++ fresh_of kind
  pub answer : q.answer ≡ device_answer kind

-- the same by some kind
pub record IsPerformedSomehow (s : State) (i : ℕ) (p : LocalState) (t : State) (side : Side) (act : Act) (part : Tree) (q : LocalState) : Type 0 where
  pub kind : StepKind
  pub behind : State
  pub so : IsPerformed s i p t side act part q kind behind

module _ (s : State) (i : ℕ) (p : LocalState) (t : State) (h : IsAfterRun s i p t) (there : is_some (at t.members i) ≡ true) (resting : p.answer ≡ None) where
  nothing_new : p.fresh ≡ p.fresh ++ []
  nothing_new = sym (append-nil p.fresh)

  pub becomes : (side : Side) (term : Tree) → IsPerformed s i p t side (Act.Becomes term) term p StepKind.Local t
  becomes side term = record {
    can = refl;
    made = refl;
    after_run = h;
    there = there;
    active = refl;
    fresh = nothing_new;
    answer = resting;
  }

  pub passes : IsPerformed s i p t Side.Protected Act.Passes unit_tree p StepKind.Block t
  passes = record {
    can = refl;
    made = refl;
    after_run = h;
    there = there;
    active = refl;
    fresh = nothing_new;
    answer = resting;
  }

  pub spawns : (side : Side) (body : Tree) → IsPerformed s i p t side (Act.Spawns body) unit_tree (record p { spawns = p.spawns ++ body ∷ [] }) StepKind.Spawn (record t { members = put t.members t.next body; next = t.next + 1 })
  spawns side body = record {
    can = refl;
    made = refl;
    after_run = record {
      stored = h.stored;
      output = h.output;
      others = λ k apart.
          put-alike t.members (with_members s.members s.next p.spawns) t.next k body (h.others k apart)
          ∙ ap (λ (n : ℕ). at (put (with_members s.members s.next p.spawns) n body) k) h.next
          ∙ ap (λ (ms : List (ℕ × Tree)). at ms k) (sym (joined-last s.members s.next p.spawns body));
      next =
          let longer : length (p.spawns ++ body ∷ []) ≡ length p.spawns + 1 = length-append p.spawns (body ∷ []) in
          let before : t.next ≡ s.next + length p.spawns = h.next in
          omega arith;
    };
    there = is_some-put t.members t.next i body there;
    active = refl;
    fresh = nothing_new;
    answer = resting;
  }

  pub prints : (side : Side) (n : ℤ) → IsPerformed s i p t side (Act.Prints n) unit_tree (record p { prints = p.prints ++ n ∷ [] }) StepKind.Print (record t { output = t.output ++ n ∷ [] })
  prints side n = record {
    can = refl;
    made = refl;
    after_run = record {
      stored = h.stored;
      output = ap (λ (xs : List ℤ). xs ++ n ∷ []) h.output ∙ append_assoc s.output p.prints (n ∷ []);
      others = h.others;
      next = h.next;
    };
    there = there;
    active = refl;
    fresh = nothing_new;
    answer = resting;
  }

  pub writes : (side : Side) (l : ℕ) (v : Val) → IsPerformed s i p t side (Act.Writes l v) unit_tree (record p { sets = put p.sets l v }) StepKind.Write (record t { store = put t.store l v })
  writes side l v = record {
    can = refl;
    made = refl;
    after_run = record {
      stored = λ m. stored-put t.store p.sets (at s.store m) l v m (h.stored m);
      output = h.output;
      others = h.others;
      next = h.next;
    };
    there = there;
    active = refl;
    fresh = nothing_new;
    answer = resting;
  }

  pub calls : (device : ℕ) (n answer : ℤ)
      → IsPerformed s i p t Side.Unprotected (Act.Calls device n) (Tree.Held (Val.Int answer)) (record p { answer = Some answer }) (StepKind.Device answer) t
  calls device n answer = record {
    can = refl;
    made = refl;
    after_run = record { stored = h.stored; output = h.output; others = h.others; next = h.next };
    there = there;
    active = refl;
    fresh = nothing_new;
    answer = refl;
  }

  -- a new location is in no store
  pub allocates : (side : Side) (l : Loc) (sort : Sort) (number : TyNo) (v : Val) → at s.store l.0 ≡ None → at p.sets l.0 ≡ None
      → IsPerformed s i p t side (Act.Allocates sort number v) (Tree.Held (Val.Loc l.0)) (made_at l.0 v p) (StepKind.Alloc l) (record t { store = put t.store l.0 v })
  allocates side l sort number v unstored unset = record {
    can = refl;
    made =
        let free : at t.store l.0 ≡ None = h.stored l.0 ∙ ap (λ (o : Option Val). or_else o (at s.store l.0)) unset ∙ unstored in
        ap (λ (o : Option Val). if is_some o then None else Some (Tree.Held (Val.Loc l.0), record t { store = put t.store l.0 v })) free;
    after_run = record {
      stored = λ m. stored-put t.store p.sets (at s.store m) l.0 v m (h.stored m);
      output = h.output;
      others = h.others;
      next = h.next;
    };
    there = there;
    active = refl;
    fresh = refl;
    answer = resting;
  }

  -- The value that is taken is the one that the state has there.

  stored-taken : (o : Option Val) (l : ℕ) (v : Val) → at p.sets l ≡ o → AgreesWith s.store (taken_where o l v p) → at t.store l ≡ Some v
  stored-taken None l v is a = h.stored l ∙ ap (λ (z : Option Val). or_else z (at s.store l)) is ∙ a.seen.0
  stored-taken (Some w) l v is a = h.stored l ∙ ap (λ (z : Option Val). or_else z (at s.store l)) is ∙ ap Some (sym a.own.0)

  taken-after : (o : Option Val) (l : ℕ) (v : Val) → IsAfterRun s i (taken_where o l v p) t
  taken-after None l v = record { stored = h.stored; output = h.output; others = h.others; next = h.next }
  taken-after (Some w) l v = record { stored = h.stored; output = h.output; others = h.others; next = h.next }

  taken-fresh : (o : Option Val) (l : ℕ) (v : Val) → (taken_where o l v p).fresh ≡ p.fresh ++ []
  taken-fresh None l v = nothing_new
  taken-fresh (Some w) l v = nothing_new

  taken-resting : (o : Option Val) (l : ℕ) (v : Val) → (taken_where o l v p).answer ≡ None
  taken-resting None l v = resting
  taken-resting (Some w) l v = resting

  loads : (l : ℕ) (v : Val) → at t.store l ≡ Some v → loaded l t ≡ Some (Tree.Held v, t)
  loads l v is = ap (option_map {U = Tree × State} (λ w. (Tree.Held w, t))) is

  pub reads : (side : Side) (l : ℕ) (v : Val) → AgreesWith s.store (took l v p) → IsPerformed s i p t side (Act.Reads l) (Tree.Held v) (took l v p) StepKind.Read t
  reads side l v a = record {
    can = refl;
    made = loads l v (stored-taken (at p.sets l) l v refl a);
    after_run = taken-after (at p.sets l) l v;
    there = there;
    active = refl;
    fresh = taken-fresh (at p.sets l) l v;
    answer = taken-resting (at p.sets l) l v;
  }

  pub peeks : (l : ℕ) (v : Val) → AgreesWith s.store (took l v p) → IsPerformed s i p t Side.Unprotected (Act.Peeks l) (Tree.Held v) (took l v p) StepKind.Peek t
  peeks l v a = record {
    can = refl;
    made = loads l v (stored-taken (at p.sets l) l v refl a);
    after_run = taken-after (at p.sets l) l v;
    there = there;
    active = refl;
    fresh = taken-fresh (at p.sets l) l v;
    answer = taken-resting (at p.sets l) l v;
  }

  feeds-performed : (side : Side) (act : Act) (v : Val) (part : Tree) (q : LocalState) → Feeds p side act v part q → AgreesWith s.store q
      → IsPerformedSomehow s i p t side act part q
  feeds-performed _ _ _ _ _ (Feeds.allocates side sort number v l) a =
      let new = a.made.0 in
      record {
        kind = StepKind.Alloc (record { 0 = l });
        behind = record t { store = put t.store l v };
        so = allocates side (record { 0 = l }) sort number v new.0 new.1;
      }
  feeds-performed _ _ _ _ _ (Feeds.reads side l v) a = record { kind = StepKind.Read; behind = t; so = reads side l v a }
  feeds-performed _ _ _ _ _ (Feeds.peeks l v) a = record { kind = StepKind.Peek; behind = t; so = peeks l v a }
  feeds-performed _ _ _ _ _ (Feeds.writes side l v) a = record { kind = StepKind.Write; behind = record t { store = put t.store l v }; so = writes side l v }
  feeds-performed _ _ _ _ _ (Feeds.spawns body) a =
      record { kind = StepKind.Spawn; behind = record t { members = put t.members t.next body; next = t.next + 1 }; so = spawns Side.Unprotected body }
  feeds-performed _ _ _ _ _ (Feeds.prints n) a =
      record { kind = StepKind.Print; behind = record t { output = t.output ++ n ∷ [] }; so = prints Side.Unprotected n }
  feeds-performed _ _ _ _ _ (Feeds.calls device n answer) a = record { kind = StepKind.Device answer; behind = t; so = calls device n answer }

-- with other inputs
pub unfed : (s : State) (i : ℕ) (p : LocalState) (inputs : List Val) (t : State) → IsAfterRun s i p t → IsAfterRun s i (record p { inputs = inputs }) t
unfed s i p inputs t h = record { stored = h.stored; output = h.output; others = h.others; next = h.next }

acts-performed : (s : State) (i : ℕ) (p : LocalState) (t : State) → IsAfterRun s i p t → is_some (at t.members i) ≡ true → p.answer ≡ None
    → (side : Side) (act : Act) (part : Tree) (q : LocalState) → Acts p side act part q → AgreesWith s.store q → IsPerformedSomehow s i p t side act part q
acts-performed s i p t h there resting _ _ _ _ (Acts.becomes side term) a = record { kind = StepKind.Local; behind = t; so = becomes s i p t h there resting side term }
acts-performed s i p t h there resting _ _ _ _ (Acts.spawns body) a =
    record {
      kind = StepKind.Spawn;
      behind = record t { members = put t.members t.next body; next = t.next + 1 };
      so = spawns s i p t h there resting Side.Protected body;
    }
acts-performed s i p t h there resting _ _ _ _ (Acts.prints n) a =
    record { kind = StepKind.Print; behind = record t { output = t.output ++ n ∷ [] }; so = prints s i p t h there resting Side.Protected n }
acts-performed s i p t h there resting _ _ _ _ Acts.passes a = record { kind = StepKind.Block; behind = t; so = passes s i p t h there resting }
acts-performed s i p t h there resting _ _ _ _ (Acts.feeds side act v inputs part q is given) a =
    let w = feeds-performed s i (record p { inputs = inputs }) t (unfed s i p inputs t h) there resting side act v part q given a in
    let r = w.so in
    record {
      kind = w.kind;
      behind = w.behind;
      so = record { can = r.can; made = r.made; after_run = r.after_run; there = r.there; active = r.active; fresh = r.fresh; answer = r.answer };
    }

-- A step

-- a step of a run is one of the member
pub record IsStepMade (s : State) (i : ℕ) (side : Side) (p q : LocalState) (t : State) : Type 0 where
  pub kind : StepKind
  pub behind : State
  pub act : Act
  pub can : makes side kind act ≡ true
  pub reduces : reduce side kind i t ≡ Some behind
  pub after_run : IsAfterRun s i q behind
  pub member : at behind.members i ≡ Some q.term
  pub active : behind.active ≡ t.active
  pub fresh : q.fresh ≡ p.fresh ++ fresh_of kind
  pub answer : q.answer ≡ device_answer kind

pub step-made : (s : State) (i : ℕ) (side : Side) (p q : LocalState) (t : State) → IsAfterRun s i p t → at t.members i ≡ Some p.term
    → one_step side p ≡ Some q → AgreesWith s.store q → IsStepMade s i side p q t
step-made s i side p q t h member e a =
    let x = step-is side p q e in
    let there : is_some (at t.members i) ≡ true = ap is_some member in
    let w = acts-performed s i p t h there x.resting side (act_of x.redex) x.part x.behind x.acts (refilled-agrees s.store x.behind q (fill p.term x.part) x.is a) in
    let r = w.so in
    let last = fill p.term x.part in
    let u = record w.behind { members = change w.behind.members i last } in
    subst (λ (z : LocalState). IsStepMade s i side p z t) (sym x.is) (record {
      kind = w.kind;
      behind = u;
      act = act_of x.redex;
      can = r.can;
      reduces =
          ap (option_and_then (λ (term : Tree). option_map (rewritten i term) (reduced_at side w.kind (focus term) t))) member
          ∙ ap (λ (f : Focus). option_map (rewritten i p.term) (reduced_at side w.kind f t)) x.stands
          ∙ ap (λ (b : Bool). option_map (rewritten i p.term) (if b then performed_on side w.kind (act_of x.redex) t else None)) (same_as_itself side)
          ∙ ap (λ (b : Bool). option_map (rewritten i p.term) (if b then performed w.kind (act_of x.redex) t else None)) r.can
          ∙ ap (option_map (rewritten i p.term)) r.made;
      after_run = record {
        stored = r.after_run.stored;
        output = r.after_run.output;
        others = λ k apart. at-change_other w.behind.members i k last (λ same. apart (sym same)) ∙ r.after_run.others k apart;
        next = r.after_run.next;
      };
      member = at-change_same w.behind.members i last r.there;
      active = r.active;
      fresh = r.fresh;
      answer = r.answer;
    })
