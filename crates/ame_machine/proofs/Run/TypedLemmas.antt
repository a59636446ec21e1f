-- A step of a typed place, and the places after it.
use Rattle.std.proofs.Common.{◌≡◌, ℕ, zero, suc, ◌+◌, ◌⊎◌, inl, inr, List, [], ◌∷◌, ◌++◌, Option, Some, None, refl, sym, ap, ◌∙◌, subst, arith}
use Rattle.std.proofs.lemmas.Option.{option_and_then_some}
use Rattle.std.specs.List.{AllByRecursion}
use Rattle.ame_term.specs.Tree.{Typ, Val, Tree, unit_tree}
use Rattle.ame_term.specs.Signature.{Signature}
use Rattle.ame_term.specs.Frame.{Side, plug_all, side_of}
use Rattle.ame_term.specs.Context.{Focus, focus, fill}
use Rattle.ame_term.specs.Act.{Act, act_of}
use Rattle.ame_term.specs.Maps.{at, put}
use Rattle.ame_term.specs.State.{State, start, performed_on}
use Rattle.ame_term.specs.declared.semantics.StepKind.{StepKind}
use Rattle.ame_term.specs.declared.types.Effect.{Effect}
use Rattle.ame_laws.specs.Rules.{Reduces}
use Rattle.ame_laws.specs.Standing.{HasRedex}
use Rattle.ame_laws.proofs.FrameLemmas.{found}
use Rattle.ame_laws.proofs.RuleEffects.{row_of}
use Rattle.ame_laws.proofs.MapLemmas.{at-put, is_at-here}
use Rattle.ame_laws.specs.Typed.StoreTyping.{StoreTyping}
use Rattle.ame_laws.specs.Typed.WellFormed.{IsWellFormed}
use Rattle.ame_laws.specs.Typed.Fragment.{IsFragment, effect_at}
use Rattle.ame_laws.specs.Typed.TypedAct.{IsTypedAct}
use Rattle.ame_laws.specs.Typed.TypedState.{IsStored, IsMember}
use Rattle.ame_laws.specs.Typed.LocalRun.{LocalStep, LocalRun}
use Rattle.ame_laws.proofs.Typed.FrameTypes.{placed}
use Rattle.ame_laws.proofs.Typed.LocalLemmas.{local_step}
use Rattle.ame_machine.specs.Run.Local.{LocalState, begun_with, taken_where, refilled_in, fed, one_step, goes, given_more}
use Rattle.ame_machine.specs.Run.Fit.{IsFitFor, IsFitNext, IsTypedPlace, IsTypedThroughout}
use Rattle.ame_machine.proofs.Run.RunLemmas.{Acts, Feeds, step-is, step-of, acted-more, feeds-of, goes-added, goes-on, goes-more}

-- Inputs

taken-inputs : (o : Option Val) (l : ℕ) (v : Val) (p : LocalState) → (taken_where o l v p).inputs ≡ p.inputs
taken-inputs None l v p = refl
taken-inputs (Some w) l v p = refl

pub feeds-inputs : (p : LocalState) (side : Side) (act : Act) (v : Val) (part : Tree) (q : LocalState) → Feeds p side act v part q → q.inputs ≡ p.inputs
feeds-inputs p _ _ _ _ _ (Feeds.reads side l v) = taken-inputs (at p.sets l) l v p
feeds-inputs p _ _ _ _ _ (Feeds.peeks l v) = taken-inputs (at p.sets l) l v p
feeds-inputs p _ _ _ _ _ _ = refl

acts-empty : (p : LocalState) (side : Side) (act : Act) (part : Tree) (q : LocalState) → Acts p side act part q → p.inputs ≡ [] → q.inputs ≡ []
acts-empty p _ _ _ _ (Acts.feeds side act v inputs part q is given) empty = absurd (let clash : v ∷ inputs ≡ [] = sym is ∙ empty in cc)
acts-empty p _ _ _ _ _ empty = empty

step-empty : (side : Side) (p q : LocalState) → one_step side p ≡ Some q → p.inputs ≡ [] → q.inputs ≡ []
step-empty side p q e empty =
    let x = step-is side p q e in
    ap (λ (z : LocalState). z.inputs) x.is ∙ acts-empty p side (act_of x.redex) x.part x.behind x.acts empty

pub goes-empty : (side : Side) (p q : LocalState) (n : ℕ) → goes side p n ≡ Some q → p.inputs ≡ [] → q.inputs ≡ []
goes-empty side p q zero e empty = let same : p ≡ q = cc in ap (λ (z : LocalState). z.inputs) (sym same) ∙ empty
goes-empty side p q (suc n) e empty = option_and_then_some _ _ _ e (λ r first second. step-empty side r q second (goes-empty side p r n first empty))

-- The rule of an act

-- in some state an act becomes a part
abbrev pub IsMadeSomewhere : Side → Act → Tree → Type 0
IsMadeSomewhere side act part = (s : State) × (kind : StepKind) × (t : State) × (performed_on side kind act s ≡ Some (part, t))

storing : ℕ → Val → State
storing l v = record (start unit_tree) { store = (l, v) ∷ [] }

feeds-somewhere : (p : LocalState) (side : Side) (act : Act) (v : Val) (part : Tree) (q : LocalState) → Feeds p side act v part q → IsMadeSomewhere side act part
unfolding storing
feeds-somewhere p _ _ _ _ _ (Feeds.allocates side sort number v l) = (start unit_tree, StepKind.Alloc (record { 0 = l }), _, refl)
feeds-somewhere p _ _ _ _ _ (Feeds.reads side l v) = (storing l v, StepKind.Read, storing l v, rw (is_at-here l))
feeds-somewhere p _ _ _ _ _ (Feeds.peeks l v) = (storing l v, StepKind.Peek, storing l v, rw (is_at-here l))
feeds-somewhere p _ _ _ _ _ (Feeds.writes side l v) = (start unit_tree, StepKind.Write, _, refl)
feeds-somewhere p _ _ _ _ _ (Feeds.spawns body) = (start unit_tree, StepKind.Spawn, _, refl)
feeds-somewhere p _ _ _ _ _ (Feeds.prints n) = (start unit_tree, StepKind.Print, _, refl)
feeds-somewhere p _ _ _ _ _ (Feeds.calls device n answer) = (start unit_tree, StepKind.Device answer, _, refl)

acts-somewhere : (p : LocalState) (side : Side) (act : Act) (part : Tree) (q : LocalState) → Acts p side act part q → IsMadeSomewhere side act part
acts-somewhere p _ _ _ _ (Acts.becomes side term) = (start unit_tree, StepKind.Local, _, refl)
acts-somewhere p _ _ _ _ (Acts.spawns body) = (start unit_tree, StepKind.Spawn, _, refl)
acts-somewhere p _ _ _ _ (Acts.prints n) = (start unit_tree, StepKind.Print, _, refl)
acts-somewhere p _ _ _ _ Acts.passes = (start unit_tree, StepKind.Block, _, refl)
acts-somewhere p _ _ _ _ (Acts.feeds side act v inputs part q is given) = feeds-somewhere (record p { inputs = inputs }) side act v part q given

module _ (signature : Signature) (cells : StoreTyping) where
  -- what takes the redex's place is fit
  abbrev pub IsFitPart : Act → Tree → Type 0
  IsFitPart (Act.Allocates sort number v) (Tree.Held w) = IsFitFor signature cells (Act.Allocates sort number v) w
  IsFitPart (Act.Reads l) (Tree.Held w) = IsStored signature cells l w
  IsFitPart (Act.Peeks l) (Tree.Held w) = IsStored signature cells l w
  IsFitPart _ _ = Unit {0}

  feeds-fit : (p : LocalState) (side : Side) (act : Act) (v : Val) (part : Tree) (q : LocalState) → Feeds p side act v part q → IsFitFor signature cells act v
      → IsFitPart act part
  feeds-fit p _ _ _ _ _ (Feeds.allocates side sort number v l) fit = fit
  feeds-fit p _ _ _ _ _ (Feeds.reads side l v) fit = fit
  feeds-fit p _ _ _ _ _ (Feeds.peeks l v) fit = fit
  feeds-fit p _ _ _ _ _ (Feeds.writes side l v) fit = tt
  feeds-fit p _ _ _ _ _ (Feeds.spawns body) fit = tt
  feeds-fit p _ _ _ _ _ (Feeds.prints n) fit = tt
  feeds-fit p _ _ _ _ _ (Feeds.calls device n answer) fit = tt

  acts-fit : (p : LocalState) (side : Side) (act : Act) (part : Tree) (q : LocalState) → Acts p side act part q
      → ((v : Val) (inputs : List Val) → p.inputs ≡ v ∷ inputs → IsFitFor signature cells act v) → IsFitPart act part
  acts-fit p _ _ _ _ (Acts.becomes side term) fit = tt
  acts-fit p _ _ _ _ (Acts.spawns body) fit = tt
  acts-fit p _ _ _ _ (Acts.prints n) fit = tt
  acts-fit p _ _ _ _ Acts.passes fit = tt
  acts-fit p _ _ _ _ (Acts.feeds side act v inputs part q is given) fit = feeds-fit (record p { inputs = inputs }) side act v part q given (fit v inputs is)

  -- a row whose part is fit is a local step
  row-local : (s : State) (side : Side) (kind : StepKind) (redex part : Tree) (t : State) → Reduces s side kind redex part t → IsFitPart (act_of redex) part → IsWellFormed redex
      → LocalStep signature cells side redex part
  unfolding act_of IsWellFormed
  row-local s _ _ _ _ _ (Reduces.pure side redex part row) fit formed = LocalStep.becomes side redex part row
  row-local s _ _ _ _ _ (Reduces.allocation side l sort number v fresh) fit formed = LocalStep.allocated side sort number v l.0 fit.0 fit.1 (fit.2, formed)
  row-local s _ _ _ _ _ (Reduces.reading side l v found) fit formed = LocalStep.read side l v fit.0.0 fit.0.1 fit.1 fit.2
  row-local s _ _ _ _ _ (Reduces.peeking l v found) fit formed = LocalStep.peeked l v fit.0.0 fit.0.1 fit.1 fit.2
  row-local s _ _ _ _ _ (Reduces.writing side l v) fit formed = LocalStep.written side l v
  row-local s _ _ _ _ _ (Reduces.spawning side body) fit formed = LocalStep.spawned side body
  row-local s _ _ _ _ _ (Reduces.printing side n) fit formed = LocalStep.printed side n
  row-local s _ _ _ _ _ Reduces.passing fit formed = LocalStep.passed
  row-local s _ _ _ _ _ (Reduces.answering device n reply) fit formed = LocalStep.answered device n reply

  -- Values that are held

  -- what a run set, and its new members, are typed
  pub record IsHeldTyped (p : LocalState) : Type 0 where
    pub stored : (l : ℕ) (v : Val) → at p.sets l ≡ Some v → IsStored signature cells l v
    pub members : AllByRecursion (λ body. IsMember signature cells body) p.spawns

  stored-put : (sets : List (ℕ × Val)) (l : ℕ) (v : Val) → IsStored signature cells l v → ((m : ℕ) (w : Val) → at sets m ≡ Some w → IsStored signature cells m w)
      → (m : ℕ) (w : Val) → at (put sets l v) m ≡ Some w → IsStored signature cells m w
  stored-put sets l v new all m w e = by (at-put sets l m v)
    where
      by : ((l ≡ m) × (at (put sets l v) m ≡ Some v)) ⊎ (((l ≡ m) → ⊥) × (at (put sets l v) m ≡ at sets m)) → IsStored signature cells m w
      by (inl k) =
          let opened : ◌≡◌ {A = Option Val} (Some v) (Some w) = sym k.1 ∙ e in
          let same : v ≡ w = cc in
          subst (λ (n : ℕ). IsStored signature cells n w) k.0 (subst (λ (z : Val). IsStored signature cells l z) same new)
      by (inr k) = all m w (sym k.1 ∙ e)

  members-last : (bodies : List Tree) (body : Tree) → IsMember signature cells body → AllByRecursion (λ b. IsMember signature cells b) bodies
      → AllByRecursion (λ b. IsMember signature cells b) (bodies ++ body ∷ [])
  members-last [] body new all = (new, tt)
  members-last (b ∷ bodies) body new all = (all.0, members-last bodies body new all.1)

  taken-held : (o : Option Val) (l : ℕ) (v : Val) (p : LocalState) → IsHeldTyped p → IsHeldTyped (taken_where o l v p)
  taken-held None l v p h = record { stored = h.stored; members = h.members }
  taken-held (Some w) l v p h = record { stored = h.stored; members = h.members }

  feeds-held : (p : LocalState) (side : Side) (act : Act) (v : Val) (part : Tree) (q : LocalState) → Feeds p side act v part q → IsFitPart act part
      → (e : Effect) (u : Typ) → IsTypedAct signature cells e u act → IsHeldTyped p → IsHeldTyped q
  feeds-held p _ _ _ _ _ (Feeds.allocates side sort number v l) fit e u a h =
      record { stored = stored-put p.sets l v ((sort, fit.0), fit.1, (fit.2, a.2.1)) h.stored; members = h.members }
  feeds-held p _ _ _ _ _ (Feeds.reads side l v) fit e u a h = taken-held (at p.sets l) l v p h
  feeds-held p _ _ _ _ _ (Feeds.peeks l v) fit e u a h = taken-held (at p.sets l) l v p h
  feeds-held p _ _ _ _ _ (Feeds.writes side l v) fit e u a h = record { stored = stored-put p.sets l v ((a.0, a.1), a.2, a.3) h.stored; members = h.members }
  feeds-held p _ _ _ _ _ (Feeds.spawns body) fit e u a h = record { stored = h.stored; members = members-last p.spawns body a.0 h.members }
  feeds-held p _ _ _ _ _ (Feeds.prints n) fit e u a h = record { stored = h.stored; members = h.members }
  feeds-held p _ _ _ _ _ (Feeds.calls device n answer) fit e u a h = record { stored = h.stored; members = h.members }

  acts-held : (p : LocalState) (side : Side) (act : Act) (part : Tree) (q : LocalState) → Acts p side act part q → IsFitPart act part
      → (e : Effect) (u : Typ) → IsTypedAct signature cells e u act → IsHeldTyped p → IsHeldTyped q
  acts-held p _ _ _ _ (Acts.becomes side term) fit e u a h = h
  acts-held p _ _ _ _ (Acts.spawns body) fit e u a h = record { stored = h.stored; members = members-last p.spawns body a.0 h.members }
  acts-held p _ _ _ _ (Acts.prints n) fit e u a h = record { stored = h.stored; members = h.members }
  acts-held p _ _ _ _ Acts.passes fit e u a h = h
  acts-held p _ _ _ _ (Acts.feeds side act v inputs part q is given) fit e u a h =
      feeds-held (record p { inputs = inputs }) side act v part q given fit e u a (record { stored = h.stored; members = h.members })

  -- A step

  pub record IsTypedStep (t : Typ) (p q : LocalState) : Type 0 where
    pub ran : LocalRun signature cells p.term q.term
    pub typed : IsTypedPlace signature cells t q

  pub typed-step : (side : Side) (t : Typ) (p q : LocalState) → IsTypedPlace signature cells t p → IsFitNext signature cells side p → one_step side p ≡ Some q → IsTypedStep t p q
  typed-step side t p q place next e =
      let x = step-is side p q e in
      let f : HasRedex p.term x.redex side = found p.term x.redex side x.stands in
      let act = act_of x.redex in
      let typed : IsFragment signature cells Effect.Protected (plug_all f.frames x.redex) t = subst (λ (z : Tree). IsFragment signature cells Effect.Protected z t) f.term place.fragment in
      let at_redex = placed signature cells Effect.Protected f.frames x.redex t typed in
      let fit : IsFitPart act x.part = acts-fit p side act x.part x.behind x.acts (λ v inputs is. next x.redex v inputs x.stands is) in
      let somewhere = acts-somewhere p side act x.part x.behind x.acts in
      let row = row_of somewhere.0 side somewhere.1 x.redex (x.part, somewhere.2) somewhere.3 in
      let step : LocalStep signature cells (side_of f.frames) x.redex x.part =
      subst (λ (z : Side). LocalStep signature cells z x.redex x.part) (sym f.on)
      (row-local somewhere.0 side somewhere.1 x.redex x.part somewhere.2 row fit at_redex.part_typed.1) in
      let last = fill p.term x.part in
      let there : plug_all f.frames x.part ≡ last = sym (f.refilled x.part) in
      let held = acts-held p side act x.part x.behind x.acts fit (effect_at (side_of f.frames) Effect.Protected) at_redex.part_type (at_redex.act_typed f.redex)
      (record { stored = place.stored; members = place.members }) in
      subst (λ (z : LocalState). IsTypedStep t p z) (sym x.is) (record {
        ran =
            subst (λ (z : Tree). LocalRun signature cells z last) (sym f.term)
            (LocalRun.step f.frames x.redex x.part last step (subst (LocalRun signature cells (plug_all f.frames x.part)) there (LocalRun.done (plug_all f.frames x.part))));
        typed = record {
          fragment =
              subst (λ (z : Tree). IsFragment signature cells Effect.Protected z t) there
              (local_step signature cells Effect.Protected f.frames x.redex x.part t typed step);
          stored = held.stored;
          members = held.members;
        };
      })

  -- Runs

  no_next : (side : Side) (p : LocalState) → p.inputs ≡ [] → IsFitNext signature cells side p
  no_next side p empty redex v inputs stands is = absurd (let clash : v ∷ inputs ≡ [] = sym is ∙ empty in cc)

  -- a place stays typed if all inputs are used
  pub typed-later : (side : Side) (t : Typ) (p q : LocalState) (n : ℕ) → IsTypedPlace signature cells t p → p.inputs ≡ [] → goes side p n ≡ Some q → IsTypedPlace signature cells t q
  typed-later side t p q zero place empty e = let same : p ≡ q = cc in subst (IsTypedPlace signature cells t) same place
  typed-later side t p q (suc n) place empty e =
      option_and_then_some _ _ _ e (λ r first second.
      (typed-step side t r q (typed-later side t p r n place empty first) (no_next side r (goes-empty side p r n first empty)) second).typed)

  pub typed-begun : (side : Side) (term : Tree) (t : Typ) → IsFragment signature cells Effect.Protected term t → IsTypedThroughout signature cells side term [] t
  typed-begun side term t typed n p e empty =
      typed-later side t (begun_with term []) p n (record { fragment = typed; stored = λ l v is. absurd (cc); members = tt }) refl e

  -- one of two numbers is the other and more
  pub compared : (m n : ℕ) → ((d : ℕ) × (n ≡ m + d)) ⊎ ((d : ℕ) × (m ≡ n + suc d))
  compared zero n = inl (n, omega arith)
  compared (suc m) zero = inr (m, omega arith)
  compared (suc m) (suc n) = by (compared m n)
    where
      by : ((d : ℕ) × (n ≡ m + d)) ⊎ ((d : ℕ) × (m ≡ n + suc d)) → ((d : ℕ) × (suc n ≡ suc m + d)) ⊎ ((d : ℕ) × (suc m ≡ suc n + suc d))
      by (inl k) = let e : n ≡ m + k.0 = k.1 in inl (k.0, omega arith)
      by (inr k) = let e : m ≡ n + suc k.0 = k.1 in inr (k.0, omega arith)

  module _ (side : Side) (start p : LocalState) (redex : Tree) (t : Typ) (n : ℕ) (v : Val) (made : Tree × LocalState)
      (place : IsTypedPlace signature cells t p) (ran : goes side start n ≡ Some p) (empty : p.inputs ≡ []) (stands : focus p.term ≡ Focus.AtRedex side redex)
      (gives : fed (act_of redex) side v p ≡ Some made) (fit : IsFitFor signature cells (act_of redex) v) where
    ran-more : goes side (given_more (v ∷ []) start) n ≡ Some (given_more (v ∷ []) p)
    ran-more = goes-more side start p (v ∷ []) n ran

    -- the step that uses the input
    used : (r : LocalState) → one_step side (given_more (v ∷ []) p) ≡ Some r → IsTypedPlace signature cells t r × (r.inputs ≡ [])
    used r e =
        let x = step-is side (given_more (v ∷ []) p) r e in
        let known : one_step side (given_more (v ∷ []) p) ≡ Some (refilled_in p.term made) =
        step-of side (given_more (v ∷ []) p) redex made x.resting stands (acted-more side p (act_of redex) v made empty gives) in
        let opened : ◌≡◌ {A = Option LocalState} (Some (refilled_in p.term made)) (Some r) = sym known ∙ e in
        let same : refilled_in p.term made ≡ r = cc in
        let left : made.1.inputs ≡ p.inputs = feeds-inputs p side (act_of redex) v made.0 made.1 (feeds-of p side (act_of redex) v made gives) in
        let next : IsFitNext signature cells side (given_more (v ∷ []) p) = λ other w ws at_other is.
        let here : Focus.AtRedex side redex ≡ Focus.AtRedex side other = sym stands ∙ at_other in
        let one : redex ≡ other = cc in
        let its : ◌≡◌ {A = List Val} (v ∷ []) (w ∷ ws) = sym (ap (λ (xs : List Val). xs ++ v ∷ []) empty) ∙ is in
        let first : v ≡ w = cc in
        subst (λ (z : Val). IsFitFor signature cells (act_of other) z) first (subst (λ (z : Tree). IsFitFor signature cells (act_of z) v) one fit) in
        let before : IsTypedPlace signature cells t (given_more (v ∷ []) p) = record { fragment = place.fragment; stored = place.stored; members = place.members } in
        ((typed-step side t (given_more (v ∷ []) p) r before next e).typed, ap (λ (z : LocalState). z.inputs) (sym same) ∙ left ∙ empty)

    pub typed-more : (m : ℕ) (q : LocalState) → goes side (given_more (v ∷ []) start) m ≡ Some q → q.inputs ≡ [] → IsTypedPlace signature cells t q
    typed-more m q e done = by (compared m n)
      where
        by : ((d : ℕ) × (n ≡ m + d)) ⊎ ((d : ℕ) × (m ≡ n + suc d)) → IsTypedPlace signature cells t q
        by (inl k) =
            let later : goes side q k.0 ≡ Some (given_more (v ∷ []) p) =
            goes-on side (given_more (v ∷ []) start) q (given_more (v ∷ []) p) m k.0 e (ap (goes side (given_more (v ∷ []) start)) (sym k.1) ∙ ran-more) in
            let none : p.inputs ++ v ∷ [] ≡ [] = goes-empty side q (given_more (v ∷ []) p) k.0 later done in
            let clash : ◌≡◌ {A = List Val} (v ∷ []) [] = sym (ap (λ (xs : List Val). xs ++ v ∷ []) empty) ∙ none in
            absurd (cc)
        by (inr k) =
            let later : goes side (given_more (v ∷ []) p) (suc k.0) ≡ Some q =
            goes-on side (given_more (v ∷ []) start) (given_more (v ∷ []) p) q n (suc k.0) ran-more (ap (goes side (given_more (v ∷ []) start)) (sym k.1) ∙ e) in
            let count : suc k.0 ≡ suc zero + k.0 = omega arith in
            option_and_then_some _ _ _ (sym (goes-added side (given_more (v ∷ []) p) (suc zero) k.0) ∙ ap (goes side (given_more (v ∷ []) p)) (sym count) ∙ later) (λ r first rest.
            let u = used r first in
            typed-later side t r q k.0 u.0 u.1 rest)
