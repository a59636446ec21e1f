-- A step of a member in a state is a step of its run.
use Rattle.std.proofs.Common.{◌≡◌, ℕ, ◌+◌, ◌++◌, true, List, [], ◌∷◌, Option, Some, None, is_some, option_map, option_and_then, if◌then◌else◌, refl, sym, ap, ◌∙◌, subst}
use Rattle.ame_term.specs.Tree.{Val, Tree, unit_tree}
use Rattle.ame_term.specs.Frame.{Side}
use Rattle.ame_term.specs.Context.{Focus, focus, fill}
use Rattle.ame_term.specs.Act.{Act, act_of, makes, device_answer}
use Rattle.ame_term.specs.Maps.{at, put, change}
use Rattle.ame_term.specs.State.{State, performed, rewritten, reduce}
use Rattle.ame_term.specs.declared.semantics.StepKind.{StepKind}
use Rattle.ame_term.specs.declared.types.Loc.{Loc}
use Rattle.ame_term.specs.declared.types.Sort.{Sort}
use Rattle.ame_term.specs.declared.types.TyNo.{TyNo}
use Rattle.ame_laws.proofs.MapLemmas.{at-change_same, at-change_other}
use Rattle.ame_journal.specs.Labels.{fresh_of}
use Rattle.ame_journal.specs.Replay.{or_else, redex_act}
use Rattle.ame_journal.proofs.StepLemmas.{reduced}
use Rattle.ame_machine.specs.Run.Local.{LocalState, with_inputs, took, taken_where, set_at, made_at, spawned, printed, acted, refilled_in, one_step}
use Rattle.ame_machine.specs.Run.AgreesWith.{AgreesWith, IsAfterRun}
use Rattle.ame_machine.proofs.Run.RunLemmas.{step-of}
use Rattle.ame_machine.proofs.Run.EffectLemmas.{IsPerformed, unfed, becomes, passes, spawns, prints, writes, calls, allocates, reads, peeks}

none-both : (a b : Option Val) → or_else a b ≡ None → (a ≡ None) × (b ≡ None)
none-both None b e = (refl, e)
none-both (Some x) b e = cc

taken-empty : (o : Option Val) (l : ℕ) (v : Val) (p : LocalState) → p.inputs ≡ [] → (taken_where o l v p).inputs ≡ []
taken-empty None l v p empty = empty
taken-empty (Some w) l v p empty = empty

-- an act of a kind is one of the run, with no input or with one
record IsActed (s : State) (i : ℕ) (p : LocalState) (t : State) (side : Side) (act : Act) (kind : StepKind) (made : Tree × State) : Type 0 where
  pub inputs : List Val
  pub last : LocalState
  pub acts : acted act side (with_inputs inputs p) ≡ Some (made.0, last)
  pub used : last.inputs ≡ []
  pub agrees : AgreesWith s.store last
  pub so : IsPerformed s i (with_inputs [] p) t side act made.0 last kind made.1

module _ (s : State) (i : ℕ) (p : LocalState) (t : State) (h : IsAfterRun s i p t) (there : is_some (at t.members i) ≡ true) (resting : p.answer ≡ None) (a : AgreesWith s.store p) where
  unfed-after : IsAfterRun s i (with_inputs [] p) t
  unfed-after = unfed s i p [] t h

  its : (side : Side) (act : Act) (kind : StepKind) (made other : Tree × State) → Some made ≡ Some other → IsActed s i p t side act kind made → IsActed s i p t side act kind other
  its side act kind made other e acted_so = let same : made ≡ other = cc in subst (IsActed s i p t side act kind) same acted_so

  taken-agrees : (o : Option Val) (l : ℕ) (v : Val) → at p.sets l ≡ o → at t.store l ≡ Some v → AgreesWith s.store (taken_where o l v (with_inputs [] p))
  taken-agrees None l v is found =
      let there_is : at s.store l ≡ Some v = sym (h.stored l ∙ ap (λ (z : Option Val). or_else z (at s.store l)) is) ∙ found in
      record { seen = (there_is, a.seen); own = a.own; made = a.made }
  taken-agrees (Some w) l v is found =
      let both : ◌≡◌ {A = Option Val} (Some w) (Some v) = sym (h.stored l ∙ ap (λ (z : Option Val). or_else z (at s.store l)) is) ∙ found in
      let same : v ≡ w = cc in
      record { seen = a.seen; own = (same, a.own); made = a.made }

  allocated-so : (side : Side) (sort : Sort) (number : TyNo) (v : Val) (l : Loc) (made : Tree × State) (o : Option Val) → at t.store l.0 ≡ o
      → (if is_some o then None else Some (Tree.Held (Val.Loc l.0), record t { store = put t.store l.0 v })) ≡ Some made
      → IsActed s i p t side (Act.Allocates sort number v) (StepKind.Alloc l) made
  allocated-so side sort number v l made None free e =
      let both = none-both (at p.sets l.0) (at s.store l.0) (sym (h.stored l.0) ∙ free) in
      its side (Act.Allocates sort number v) (StepKind.Alloc l) (Tree.Held (Val.Loc l.0), record t { store = put t.store l.0 v }) made e (record {
        inputs = Val.Loc l.0 ∷ [];
        last = made_at l.0 v (with_inputs [] p);
        acts = refl;
        used = refl;
        agrees = record { seen = a.seen; own = a.own; made = ((both.1, both.0), a.made) };
        so = allocates s i (with_inputs [] p) t unfed-after there resting side l sort number v both.1 both.0;
      })
  allocated-so side sort number v l made (Some w) free e = cc

  read-so : (side : Side) (l : ℕ) (made : Tree × State) (o : Option Val) → at t.store l ≡ o → option_map {U = Tree × State} (λ v. (Tree.Held v, t)) o ≡ Some made
      → IsActed s i p t side (Act.Reads l) StepKind.Read made
  read-so side l made None found e = cc
  read-so side l made (Some v) found e =
      let agrees_then = taken-agrees (at p.sets l) l v refl found in
      its side (Act.Reads l) StepKind.Read (Tree.Held v, t) made e (record {
        inputs = v ∷ [];
        last = took l v (with_inputs [] p);
        acts = refl;
        used = taken-empty (at p.sets l) l v (with_inputs [] p) refl;
        agrees = agrees_then;
        so = reads s i (with_inputs [] p) t unfed-after there resting side l v agrees_then;
      })

  peek-so : (l : ℕ) (made : Tree × State) (o : Option Val) → at t.store l ≡ o → option_map {U = Tree × State} (λ v. (Tree.Held v, t)) o ≡ Some made
      → IsActed s i p t Side.Unprotected (Act.Peeks l) StepKind.Peek made
  peek-so l made None found e = cc
  peek-so l made (Some v) found e =
      let agrees_then = taken-agrees (at p.sets l) l v refl found in
      its Side.Unprotected (Act.Peeks l) StepKind.Peek (Tree.Held v, t) made e (record {
        inputs = v ∷ [];
        last = took l v (with_inputs [] p);
        acts = refl;
        used = taken-empty (at p.sets l) l v (with_inputs [] p) refl;
        agrees = agrees_then;
        so = peeks s i (with_inputs [] p) t unfed-after there resting l v agrees_then;
      })

  legal : (side : Side) (act : Act) (kind : StepKind) (made : Tree × State) → makes side kind act ≡ true → performed kind act t ≡ Some made → IsActed s i p t side act kind made
  legal side (Act.Becomes term) StepKind.Local made can e = its side _ _ (term, t) made e (record {
    inputs = [];
    last = with_inputs [] p;
    acts = refl;
    used = refl;
    agrees = record { seen = a.seen; own = a.own; made = a.made };
    so = becomes s i (with_inputs [] p) t unfed-after there resting side term;
  })
  legal side (Act.Becomes term) _ made can e = cc
  legal side (Act.Allocates sort number v) (StepKind.Alloc l) made can e = allocated-so side sort number v l made (at t.store l.0) refl e
  legal side (Act.Allocates sort number v) _ made can e = cc
  legal side (Act.Reads l) StepKind.Read made can e = read-so side l made (at t.store l) refl e
  legal side (Act.Reads l) _ made can e = cc
  legal Side.Unprotected (Act.Peeks l) StepKind.Peek made can e = peek-so l made (at t.store l) refl e
  legal _ (Act.Peeks l) _ made can e = cc
  legal side (Act.Writes l v) StepKind.Write made can e = its side _ _ (unit_tree, record t { store = put t.store l v }) made e (record {
    inputs = Val.Unit ∷ [];
    last = set_at l v (with_inputs [] p);
    acts = refl;
    used = refl;
    agrees = record { seen = a.seen; own = a.own; made = a.made };
    so = writes s i (with_inputs [] p) t unfed-after there resting side l v;
  })
  legal side (Act.Writes l v) _ made can e = cc
  legal Side.Protected (Act.Spawns body) StepKind.Spawn made can e = its Side.Protected _ _ (unit_tree, record t { members = put t.members t.next body; next = t.next + 1 }) made e (record {
    inputs = [];
    last = spawned body (with_inputs [] p);
    acts = refl;
    used = refl;
    agrees = record { seen = a.seen; own = a.own; made = a.made };
    so = spawns s i (with_inputs [] p) t unfed-after there resting Side.Protected body;
  })
  legal Side.Unprotected (Act.Spawns body) StepKind.Spawn made can e = its Side.Unprotected _ _ (unit_tree, record t { members = put t.members t.next body; next = t.next + 1 }) made e (record {
    inputs = Val.Unit ∷ [];
    last = spawned body (with_inputs [] p);
    acts = refl;
    used = refl;
    agrees = record { seen = a.seen; own = a.own; made = a.made };
    so = spawns s i (with_inputs [] p) t unfed-after there resting Side.Unprotected body;
  })
  legal side (Act.Spawns body) _ made can e = cc
  legal Side.Protected (Act.Prints n) StepKind.Print made can e = its Side.Protected _ _ (unit_tree, record t { output = t.output ++ n ∷ [] }) made e (record {
    inputs = [];
    last = printed n (with_inputs [] p);
    acts = refl;
    used = refl;
    agrees = record { seen = a.seen; own = a.own; made = a.made };
    so = prints s i (with_inputs [] p) t unfed-after there resting Side.Protected n;
  })
  legal Side.Unprotected (Act.Prints n) StepKind.Print made can e = its Side.Unprotected _ _ (unit_tree, record t { output = t.output ++ n ∷ [] }) made e (record {
    inputs = Val.Unit ∷ [];
    last = printed n (with_inputs [] p);
    acts = refl;
    used = refl;
    agrees = record { seen = a.seen; own = a.own; made = a.made };
    so = prints s i (with_inputs [] p) t unfed-after there resting Side.Unprotected n;
  })
  legal side (Act.Prints n) _ made can e = cc
  legal Side.Protected Act.Passes StepKind.Block made can e = its Side.Protected _ _ (unit_tree, t) made e (record {
    inputs = [];
    last = with_inputs [] p;
    acts = refl;
    used = refl;
    agrees = record { seen = a.seen; own = a.own; made = a.made };
    so = passes s i (with_inputs [] p) t unfed-after there resting;
  })
  legal _ Act.Passes _ made can e = cc
  legal side Act.Fails kind made can e = cc
  legal Side.Unprotected (Act.Calls device n) (StepKind.Device answer) made can e = its Side.Unprotected _ _ (Tree.Held (Val.Int answer), t) made e (record {
    inputs = Val.Int answer ∷ [];
    last = record (with_inputs [] p) { answer = Some answer };
    acts = refl;
    used = refl;
    agrees = record { seen = a.seen; own = a.own; made = a.made };
    so = calls s i (with_inputs [] p) t unfed-after there resting device n answer;
  })
  legal _ (Act.Calls device n) _ made can e = cc
  legal side (Act.Closes v) kind made can e = cc
  legal side Act.Stuck kind made can e = cc

-- a step of the member is one of the run
pub record IsStepOfRun (s : State) (i : ℕ) (side : Side) (kind : StepKind) (p : LocalState) (u : State) : Type 0 where
  pub inputs : List Val
  pub last : LocalState
  pub steps : one_step side (with_inputs inputs p) ≡ Some last
  pub used : last.inputs ≡ []
  pub agrees : AgreesWith s.store last
  pub after_run : IsAfterRun s i last u
  pub member : at u.members i ≡ Some last.term
  pub fresh : last.fresh ≡ p.fresh ++ fresh_of kind
  pub answer : last.answer ≡ device_answer kind

same_term : (m n : Tree) (o : Option Tree) → o ≡ Some m → o ≡ Some n → m ≡ n
same_term m n o e f = let both : ◌≡◌ {A = Option Tree} (Some m) (Some n) = sym e ∙ f in cc

pub legal-step : (s : State) (i : ℕ) (side : Side) (kind : StepKind) (p : LocalState) (t u : State) → AgreesWith s.store p → IsAfterRun s i p t → at t.members i ≡ Some p.term
    → p.answer ≡ None → reduce side kind i t ≡ Some u → IsStepOfRun s i side kind p u
legal-step s i side kind p t u a h member resting e =
    let x = reduced side kind i t u e in
    let same : x.term ≡ p.term = same_term x.term p.term (at t.members i) x.is_member member in
    let stands : focus p.term ≡ Focus.AtRedex side x.redex = ap focus (sym same) ∙ x.stands in
    let acts_so : ◌≡◌ {A = Option Act} (Some (act_of x.redex)) (Some x.act) =
    sym (ap (option_and_then (λ (z : Tree). redex_act (focus z))) x.is_member ∙ ap redex_act x.stands) ∙ x.is_act in
    let act_is : act_of x.redex ≡ x.act = cc in
    let w = legal s i p t h (ap is_some member) resting a side x.act kind x.result x.can x.made in
    let part = fill p.term x.result.0 in
    let behind = record x.result.1 { members = change x.result.1.members i part } in
    let result : behind ≡ u = ap (λ (z : Tree). rewritten i z x.result) (sym same) ∙ x.is in
    subst (IsStepOfRun s i side kind p) result (record {
      inputs = w.inputs;
      last = refilled_in p.term (x.result.0, w.last);
      steps =
          step-of side (with_inputs w.inputs p) x.redex (x.result.0, w.last) resting stands
          (ap (λ (z : Act). acted z side (with_inputs w.inputs p)) act_is ∙ w.acts);
      used = w.used;
      agrees = record { seen = w.agrees.seen; own = w.agrees.own; made = w.agrees.made };
      after_run = record {
        stored = w.so.after_run.stored;
        output = w.so.after_run.output;
        others = λ k apart. at-change_other x.result.1.members i k part (λ eq. apart (sym eq)) ∙ w.so.after_run.others k apart;
        next = w.so.after_run.next;
      };
      member = at-change_same x.result.1.members i part w.so.there;
      fresh = w.so.fresh;
      answer = w.so.answer;
    })
