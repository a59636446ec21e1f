-- A step of the active member of a weak state is one more step of the run that is laid over.
use Rattle.std.proofs.Common.{◌≡◌, ℕ, ◌++◌, Bool, true, false, List, [], ◌∷◌, Option, Some, None, is_some, option_map, if◌then◌else◌, refl, sym, ap, ◌∙◌, subst, append-nil}
use Rattle.std.proofs.lemmas.Option.{option_and_then_some}
use Rattle.ame_term.specs.Tree.{Val, Tree, unit_tree}
use Rattle.ame_term.specs.Frame.{Side}
use Rattle.ame_term.specs.Context.{Focus, focus, fill}
use Rattle.ame_term.specs.Act.{Act, act_of, makes}
use Rattle.ame_term.specs.Maps.{at, put, change}
use Rattle.ame_term.specs.State.{State, performed}
use Rattle.ame_term.specs.declared.semantics.StepKind.{StepKind}
use Rattle.ame_term.specs.declared.types.Loc.{Loc}
use Rattle.ame_term.specs.declared.types.Sort.{Sort}
use Rattle.ame_term.specs.declared.types.TyNo.{TyNo}
use Rattle.ame_laws.specs.Orderly.{IsOrderly}
use Rattle.ame_laws.proofs.MapLemmas.{at-change_same, at-change_other}
use Rattle.ame_laws.proofs.OrderlyLemmas.{performed-goes, changes}
use Rattle.ame_journal.specs.Labels.{fresh_of}
use Rattle.ame_journal.specs.Replay.{or_else}
use Rattle.ame_machine.specs.Run.Local.{LocalState, with_inputs, took, taken_where, set_at, made_at, spawned, printed, acted, refilled_in, one_step}
use Rattle.ame_machine.specs.Run.AgreesWith.{AgreesWith}
use Rattle.ame_machine.proofs.Run.RunLemmas.{step-of}
use Rattle.ame_machine.proofs.Run.EffectLemmas.{stored-put}
use Rattle.ame_weak.specs.Weak.{Weak, moved, held_performed, held_at, held_rewritten, held_step}
use Rattle.ame_weak.proofs.Laid.{IsLaid}

-- A step of the active member of a weak state: its term, its redex, what that becomes, and the weak state after it.
pub record IsHeldReduced (kind : StepKind) (i : ℕ) (w v : Weak) : Type 0 where
  pub term : Tree
  pub redex : Tree
  pub made : Tree × Weak
  pub is_member : at w.state.members i ≡ Some term
  pub stands : focus term ≡ Focus.AtRedex Side.Protected redex
  pub can : makes Side.Protected kind (act_of redex) ≡ true
  pub performs : held_performed kind (act_of redex) w ≡ Some made
  pub is : held_rewritten i term made ≡ v

pub if-gave : {Y : Type 0} (b : Bool) (o : Option Y) (y : Y) → (if b then o else None) ≡ Some y → (b ≡ true) × (o ≡ Some y)
if-gave true o y e = (refl, e)
if-gave false o y e = cc

pub map-gave : {X Y : Type 0} (f : X → Y) (o : Option X) (y : Y) → option_map f o ≡ Some y → (x : X) × (o ≡ Some x) × (f x ≡ y)
map-gave f None y e = cc
map-gave f (Some x) y e = (x, refl, cc)

held-redex : (kind : StepKind) (w : Weak) (f : Focus) (r : Tree × Weak) → held_at kind f w ≡ Some r
    → (redex : Tree) × (f ≡ Focus.AtRedex Side.Protected redex) × (makes Side.Protected kind (act_of redex) ≡ true) × (held_performed kind (act_of redex) w ≡ Some r)
held-redex kind w (Focus.AtValue v) r e = cc
held-redex kind w (Focus.AtRedex Side.Unprotected redex) r e = cc
held-redex kind w (Focus.AtRedex Side.Protected redex) r e =
    let can = if-gave (makes Side.Protected kind (act_of redex)) (held_performed kind (act_of redex) w) r e in
    (redex, refl, can.0, can.1)

pub held-reduced : (kind : StepKind) (i : ℕ) (w v : Weak) → held_step kind i w ≡ Some v → IsHeldReduced kind i w v
held-reduced kind i w v e =
    option_and_then_some _ _ _ e (λ term is_member e1.
    let m = map-gave (held_rewritten i term) (held_at kind (focus term) w) v e1 in
    let d = held-redex kind w (focus term) m.0 m.1 in
    record {
      term = term;
      redex = d.0;
      made = m.0;
      is_member = is_member;
      stands = d.1;
      can = d.2;
      performs = d.3;
      is = m.2;
    })

-- An act that is held leaves the state orderly.

same-orderly : (w : Weak) (made other : Tree × Weak) → Some other ≡ Some made → other.1.state ≡ w.state → IsOrderly w.state → IsOrderly made.1.state
same-orderly w made other e same orderly =
    let is : other ≡ made = cc in
    subst IsOrderly (sym same ∙ ap (λ (m : Tree × Weak). m.1.state) is) orderly

plain-orderly : (kind : StepKind) (act : Act) (w : Weak) (made : Tree × Weak)
    → option_map {T = Tree × State} {U = Tree × Weak} (λ m. (m.0, moved w m.1)) (performed kind act w.state) ≡ Some made → IsOrderly w.state → IsOrderly made.1.state
plain-orderly kind act w made e orderly =
    let m = map-gave (λ (m : Tree × State). (m.0, moved w m.1)) (performed kind act w.state) made e in
    subst IsOrderly (ap (λ (z : Tree × Weak). z.1.state) m.2) ((performed-goes kind act w.state m.0 m.1).orderly orderly)

pub held-orderly : (kind : StepKind) (act : Act) (w : Weak) (made : Tree × Weak) → held_performed kind act w ≡ Some made → IsOrderly w.state → IsOrderly made.1.state
held-orderly kind (Act.Spawns body) w made e orderly = same-orderly w made _ e refl orderly
held-orderly kind (Act.Prints n) w made e orderly = same-orderly w made _ e refl orderly
held-orderly kind (Act.Becomes term) w made e orderly = plain-orderly kind (Act.Becomes term) w made e orderly
held-orderly kind (Act.Allocates sort number v) w made e orderly = plain-orderly kind (Act.Allocates sort number v) w made e orderly
held-orderly kind (Act.Reads l) w made e orderly = plain-orderly kind (Act.Reads l) w made e orderly
held-orderly kind (Act.Peeks l) w made e orderly = plain-orderly kind (Act.Peeks l) w made e orderly
held-orderly kind (Act.Writes l v) w made e orderly = plain-orderly kind (Act.Writes l v) w made e orderly
held-orderly kind (Act.Calls device n) w made e orderly = plain-orderly kind (Act.Calls device n) w made e orderly
held-orderly kind Act.Passes w made e orderly = plain-orderly kind Act.Passes w made e orderly
held-orderly kind _ w made e orderly = cc

-- an act of a kind is one of the run, with no input or with one
record IsHeldActed (s : State) (i : ℕ) (p : LocalState) (w : Weak) (act : Act) (kind : StepKind) (made : Tree × Weak) : Type 0 where
  pub inputs : List Val
  pub last : LocalState
  pub acts : acted act Side.Protected (with_inputs inputs p) ≡ Some (made.0, last)
  pub used : last.inputs ≡ []
  pub agrees : AgreesWith s.store last
  pub laid : IsLaid s i last made.1
  pub members : made.1.state.members ≡ w.state.members
  pub fresh : last.fresh ≡ p.fresh ++ fresh_of kind
  pub answer : last.answer ≡ None

none-both : (a b : Option Val) → or_else a b ≡ None → (a ≡ None) × (b ≡ None)
none-both None b e = (refl, e)
none-both (Some x) b e = cc

taken-empty : (o : Option Val) (l : ℕ) (v : Val) (p : LocalState) → p.inputs ≡ [] → (taken_where o l v p).inputs ≡ []
taken-empty None l v p empty = empty
taken-empty (Some w) l v p empty = empty

taken-fresh : (o : Option Val) (l : ℕ) (v : Val) (p : LocalState) → (taken_where o l v p).fresh ≡ p.fresh ++ []
taken-fresh None l v p = sym (append-nil p.fresh)
taken-fresh (Some w) l v p = sym (append-nil p.fresh)

taken-answer : (o : Option Val) (l : ℕ) (v : Val) (p : LocalState) → p.answer ≡ None → (taken_where o l v p).answer ≡ None
taken-answer None l v p resting = resting
taken-answer (Some w) l v p resting = resting

module _ (s : State) (i : ℕ) (p : LocalState) (w : Weak) (h : IsLaid s i p w) (resting : p.answer ≡ None) (a : AgreesWith s.store p) where
  its : (act : Act) (kind : StepKind) (made other : Tree × Weak) → Some made ≡ Some other → IsHeldActed s i p w act kind made → IsHeldActed s i p w act kind other
  its act kind made other e acted_so = let same : made ≡ other = cc in subst (IsHeldActed s i p w act kind) same acted_so

  -- another term, and no more
  laid-same : IsLaid s i (with_inputs [] p) (moved w w.state)
  laid-same = record { active = h.active; output = h.output; next = h.next; stored = h.stored; others = h.others; prints = h.prints; spawns = h.spawns }

  agrees-same : AgreesWith s.store (with_inputs [] p)
  agrees-same = record { seen = a.seen; own = a.own; made = a.made }

  laid-put : (l : ℕ) (v : Val) (q : LocalState) → q.sets ≡ put p.sets l v → q.prints ≡ p.prints → q.spawns ≡ p.spawns
      → IsLaid s i q (moved w (record w.state { store = put w.state.store l v }))
  laid-put l v q sets prints spawns = record {
    active = h.active;
    output = h.output;
    next = h.next;
    stored = λ m.
        stored-put w.state.store p.sets (at s.store m) l v m (h.stored m)
        ∙ ap (λ (z : List (ℕ × Val)). or_else (at z m) (at s.store m)) (sym sets);
    others = h.others;
    prints = h.prints ∙ sym prints;
    spawns = h.spawns ∙ sym spawns;
  }

  laid-taken : (o : Option Val) (l : ℕ) (v : Val) → IsLaid s i (taken_where o l v (with_inputs [] p)) (moved w w.state)
  laid-taken None l v = record { active = h.active; output = h.output; next = h.next; stored = h.stored; others = h.others; prints = h.prints; spawns = h.spawns }
  laid-taken (Some x) l v = record { active = h.active; output = h.output; next = h.next; stored = h.stored; others = h.others; prints = h.prints; spawns = h.spawns }

  taken-agrees : (o : Option Val) (l : ℕ) (v : Val) → at p.sets l ≡ o → at w.state.store l ≡ Some v → AgreesWith s.store (taken_where o l v (with_inputs [] p))
  taken-agrees None l v is found =
      let there_is : at s.store l ≡ Some v = sym (h.stored l ∙ ap (λ (z : Option Val). or_else z (at s.store l)) is) ∙ found in
      record { seen = (there_is, a.seen); own = a.own; made = a.made }
  taken-agrees (Some x) l v is found =
      let both : ◌≡◌ {A = Option Val} (Some x) (Some v) = sym (h.stored l ∙ ap (λ (z : Option Val). or_else z (at s.store l)) is) ∙ found in
      let same : v ≡ x = cc in
      record { seen = a.seen; own = (same, a.own); made = a.made }

  allocated-so : (sort : Sort) (number : TyNo) (v : Val) (l : Loc) (made : Tree × Weak) (o : Option Val) → at w.state.store l.0 ≡ o
      → option_map {T = Tree × State} {U = Tree × Weak} (λ m. (m.0, moved w m.1)) (if is_some o then None else Some (Tree.Held (Val.Loc l.0), record w.state { store = put w.state.store l.0 v })) ≡ Some made
      → IsHeldActed s i p w (Act.Allocates sort number v) (StepKind.Alloc l) made
  allocated-so sort number v l made None free e =
      let both = none-both (at p.sets l.0) (at s.store l.0) (sym (h.stored l.0) ∙ free) in
      its (Act.Allocates sort number v) (StepKind.Alloc l) (Tree.Held (Val.Loc l.0), moved w (record w.state { store = put w.state.store l.0 v })) made e (record {
        inputs = Val.Loc l.0 ∷ [];
        last = made_at l.0 v (with_inputs [] p);
        acts = refl;
        used = refl;
        agrees = record { seen = a.seen; own = a.own; made = ((both.1, both.0), a.made) };
        laid = laid-put l.0 v (made_at l.0 v (with_inputs [] p)) refl refl refl;
        members = refl;
        fresh = refl;
        answer = resting;
      })
  allocated-so sort number v l made (Some x) free e = cc

  read-so : (l : ℕ) (made : Tree × Weak) (o : Option Val) → at w.state.store l ≡ o
      → option_map {T = Tree × State} {U = Tree × Weak} (λ m. (m.0, moved w m.1)) (option_map {U = Tree × State} (λ v. (Tree.Held v, w.state)) o) ≡ Some made
      → IsHeldActed s i p w (Act.Reads l) StepKind.Read made
  read-so l made None found e = cc
  read-so l made (Some v) found e =
      its (Act.Reads l) StepKind.Read (Tree.Held v, moved w w.state) made e (record {
        inputs = v ∷ [];
        last = took l v (with_inputs [] p);
        acts = refl;
        used = taken-empty (at p.sets l) l v (with_inputs [] p) refl;
        agrees = taken-agrees (at p.sets l) l v refl found;
        laid = laid-taken (at p.sets l) l v;
        members = refl;
        fresh = taken-fresh (at p.sets l) l v (with_inputs [] p);
        answer = taken-answer (at p.sets l) l v (with_inputs [] p) resting;
      })

  held-acts : (act : Act) (kind : StepKind) (made : Tree × Weak) → makes Side.Protected kind act ≡ true → held_performed kind act w ≡ Some made
      → IsHeldActed s i p w act kind made
  held-acts (Act.Becomes term) StepKind.Local made can e = its (Act.Becomes term) StepKind.Local (term, moved w w.state) made e (record {
    inputs = [];
    last = with_inputs [] p;
    acts = refl;
    used = refl;
    agrees = agrees-same;
    laid = laid-same;
    members = refl;
    fresh = sym (append-nil p.fresh);
    answer = resting;
  })
  held-acts (Act.Becomes term) _ made can e = cc
  held-acts (Act.Allocates sort number v) (StepKind.Alloc l) made can e = allocated-so sort number v l made (at w.state.store l.0) refl e
  held-acts (Act.Allocates sort number v) _ made can e = cc
  held-acts (Act.Reads l) StepKind.Read made can e = read-so l made (at w.state.store l) refl e
  held-acts (Act.Reads l) _ made can e = cc
  held-acts (Act.Writes l v) StepKind.Write made can e =
      its (Act.Writes l v) StepKind.Write (unit_tree, moved w (record w.state { store = put w.state.store l v })) made e (record {
        inputs = Val.Unit ∷ [];
        last = set_at l v (with_inputs [] p);
        acts = refl;
        used = refl;
        agrees = record { seen = a.seen; own = a.own; made = a.made };
        laid = laid-put l v (set_at l v (with_inputs [] p)) refl refl refl;
        members = refl;
        fresh = sym (append-nil p.fresh);
        answer = resting;
      })
  held-acts (Act.Writes l v) _ made can e = cc
  held-acts (Act.Spawns body) StepKind.Spawn made can e = its (Act.Spawns body) StepKind.Spawn (unit_tree, record w { spawns = w.spawns ++ body ∷ [] }) made e (record {
    inputs = [];
    last = spawned body (with_inputs [] p);
    acts = refl;
    used = refl;
    agrees = record { seen = a.seen; own = a.own; made = a.made };
    laid = record {
      active = h.active;
      output = h.output;
      next = h.next;
      stored = h.stored;
      others = h.others;
      prints = h.prints;
      spawns = ap (λ (bodies : List Tree). bodies ++ body ∷ []) h.spawns;
    };
    members = refl;
    fresh = sym (append-nil p.fresh);
    answer = resting;
  })
  held-acts (Act.Spawns body) _ made can e = cc
  held-acts (Act.Prints n) StepKind.Print made can e = its (Act.Prints n) StepKind.Print (unit_tree, record w { prints = w.prints ++ n ∷ [] }) made e (record {
    inputs = [];
    last = printed n (with_inputs [] p);
    acts = refl;
    used = refl;
    agrees = record { seen = a.seen; own = a.own; made = a.made };
    laid = record {
      active = h.active;
      output = h.output;
      next = h.next;
      stored = h.stored;
      others = h.others;
      prints = ap (λ ns. ns ++ n ∷ []) h.prints;
      spawns = h.spawns;
    };
    members = refl;
    fresh = sym (append-nil p.fresh);
    answer = resting;
  })
  held-acts (Act.Prints n) _ made can e = cc
  held-acts Act.Passes StepKind.Block made can e = its Act.Passes StepKind.Block (unit_tree, moved w w.state) made e (record {
    inputs = [];
    last = with_inputs [] p;
    acts = refl;
    used = refl;
    agrees = agrees-same;
    laid = laid-same;
    members = refl;
    fresh = sym (append-nil p.fresh);
    answer = resting;
  })
  held-acts Act.Passes _ made can e = cc
  held-acts _ kind made can e = cc

-- the step is one of the run
pub record IsHeldStep (s : State) (i : ℕ) (kind : StepKind) (p : LocalState) (v : Weak) : Type 0 where
  pub inputs : List Val
  pub last : LocalState
  pub steps : one_step Side.Protected (with_inputs inputs p) ≡ Some last
  pub used : last.inputs ≡ []
  pub agrees : AgreesWith s.store last
  pub laid : IsLaid s i last v
  pub member : at v.state.members i ≡ Some last.term
  pub fresh : last.fresh ≡ p.fresh ++ fresh_of kind
  pub answer : last.answer ≡ None
  pub orderly : IsOrderly v.state

same_term : (m n : Tree) (o : Option Tree) → o ≡ Some m → o ≡ Some n → m ≡ n
same_term m n o e f = let both : ◌≡◌ {A = Option Tree} (Some m) (Some n) = sym e ∙ f in cc

pub held-step : (s : State) (i : ℕ) (kind : StepKind) (p : LocalState) (w v : Weak) → IsLaid s i p w → at w.state.members i ≡ Some p.term → p.answer ≡ None
    → AgreesWith s.store p → IsOrderly w.state → held_step kind i w ≡ Some v → IsHeldStep s i kind p v
held-step s i kind p w v h member resting a orderly e =
    let x = held-reduced kind i w v e in
    let same : x.term ≡ p.term = same_term x.term p.term (at w.state.members i) x.is_member member in
    let stands : focus p.term ≡ Focus.AtRedex Side.Protected x.redex = ap focus (sym same) ∙ x.stands in
    let k = held-acts s i p w h resting a (act_of x.redex) kind x.made x.can x.performs in
    let part = fill p.term x.made.0 in
    let behind = moved x.made.1 (record x.made.1.state { members = change x.made.1.state.members i part }) in
    let result : behind ≡ v = ap (λ (z : Tree). held_rewritten i z x.made) (sym same) ∙ x.is in
    let there : is_some (at x.made.1.state.members i) ≡ true = ap (λ (ms : List (ℕ × Tree)). is_some (at ms i)) k.members ∙ ap is_some member in
    subst (IsHeldStep s i kind p) result (record {
      inputs = k.inputs;
      last = refilled_in p.term (x.made.0, k.last);
      steps = step-of Side.Protected (with_inputs k.inputs p) x.redex (x.made.0, k.last) resting stands k.acts;
      used = k.used;
      agrees = record { seen = k.agrees.seen; own = k.agrees.own; made = k.agrees.made };
      laid = record {
        active = k.laid.active;
        output = k.laid.output;
        next = k.laid.next;
        stored = k.laid.stored;
        others = λ n apart. at-change_other x.made.1.state.members i n part (λ eq. apart (sym eq)) ∙ k.laid.others n apart;
        prints = k.laid.prints;
        spawns = k.laid.spawns;
      };
      member = at-change_same x.made.1.state.members i part there;
      fresh = k.fresh;
      answer = k.answer;
      orderly = (changes x.made.1.state i part).orderly (held-orderly kind (act_of x.redex) w x.made x.performs orderly);
    })
