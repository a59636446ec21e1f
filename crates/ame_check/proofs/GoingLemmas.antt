-- A walk begins, goes on by one step, and by steps alone.
use Rattle.std.proofs.Common.{◌≡◌, ℕ, zero, suc, ◌+◌, ◌<◌, ◌==◌, Bool, true, List, [], ◌∷◌, ◌++◌, Option, Some, None, is_none, if◌then◌else◌, refl, sym, ap, ◌∙◌, subst, arith, append_assoc}
use Rattle.std.specs.Option.{option_and_then}
use Rattle.std.proofs.lemmas.Option.{option_and_then_some}
use Rattle.ame_term.specs.Tree.{Val, Tree}
use Rattle.ame_term.specs.Signature.{Signature}
use Rattle.ame_term.specs.Frame.{Side, side_told}
use Rattle.ame_term.specs.Context.{focus}
use Rattle.ame_term.specs.Height.{max_height}
use Rattle.ame_term.specs.Act.{Act, act_of, device_answer}
use Rattle.ame_term.specs.State.{State, after, reduce}
use Rattle.ame_term.specs.declared.semantics.StepKind.{StepKind}
use Rattle.ame_term.specs.declared.semantics.Label.{Label}
use Rattle.ame_laws.specs.Orderly.{IsOrderly}
use Rattle.ame_laws.proofs.OrderlyLemmas.{after-goes}
use Rattle.ame_laws.proofs.Typed.Preserved.{kept}
use Rattle.ame_laws.specs.Typed.StoreTyping.{StoreTyping, Grows}
use Rattle.ame_laws.specs.Typed.TypedState.{IsTyped}
use Rattle.ame_journal.specs.Labels.{fresh_of}
use Rattle.ame_journal.specs.Replayed.{is_at_unprotected, has_such, coming_height, is_tall}
use Rattle.ame_journal.proofs.StepLemmas.{named}
use Rattle.ame_journal.proofs.SupplyLemmas.{takes-more}
use Rattle.ame_journal.proofs.ReplayLemmas.{steps-behind}
use Rattle.ame_journal.proofs.LabelLemmas.{run-one}
use Rattle.ame_journal.proofs.MovedLemmas.{free-moves}
use Rattle.ame_machine.specs.Run.Local.{LocalState, one_step, goes, acted, with_inputs}
use Rattle.ame_machine.specs.Run.AgreesWith.{AgreesWith, IsAfterRun}
use Rattle.ame_machine.specs.Run.Told.{IsTooHigh}
use Rattle.ame_machine.specs.MachineView.{MachineView, running_side, place_shown}
use Rattle.ame_machine.specs.Move.{Advances, GoesLow}
use Rattle.ame_machine.proofs.Run.RunLemmas.{Acts, step-is, step-of}
use Rattle.ame_machine.proofs.Run.TypedLemmas.{goes-empty}
use Rattle.ame_machine.proofs.Run.EffectLemmas.{step-made, unfed}
use Rattle.ame_check.specs.Walk.{label_by, active_on, begun_on, steps_on, LeadsOnTo, StaysLow, IsStepping}
use Rattle.ame_check.specs.Walked.{place_with}
use Rattle.ame_check.proofs.HaltLemmas.{reduced-on}
use Rattle.ame_check.proofs.FormLemmas.{grows-through}
use Rattle.ame_check.proofs.TallLemmas.{low-more}

-- a place without inputs, answer and footprint, with these values set
abbrev pub bare : List (ℕ × Val) → LocalState → LocalState
bare sets p = record p { inputs = []; answer = None; seen = []; own = []; made = []; sets = sets }

-- a reduction on a side is a legal label
pub legal-on : (side : Side) (i : ℕ) (kind : StepKind) (t : State) → t.active ≡ active_on side i → after t (label_by side i kind) ≡ reduce side kind i t
unfolding after
legal-on Side.Protected i kind t is = ap (λ (o : Option ℕ). option_and_then (λ (j : ℕ). reduce Side.Protected kind j t) o) is
legal-on Side.Unprotected i kind t is = ap (λ (o : Option ℕ). if is_none o then reduce Side.Unprotected kind i t else None) is

module _ (signature : Signature) (s : State) (i : ℕ) where
  -- it stands under `unprotected` still
  stands-on : (side : Side) (kind : StepKind) (t u : State) → IsOrderly t → after t (label_by side i kind) ≡ Some u → (side ≡ Side.Unprotected → is_at_unprotected i t ≡ true)
      → side ≡ Side.Unprotected → is_at_unprotected i u ≡ true
  stands-on Side.Protected kind t u orderly legal before e = absurd (cc)
  stands-on Side.Unprotected kind t u orderly legal before e =
      (free-moves i (kind ∷ []) t u orderly (run-one t u (Label.Free i kind) legal)).stands (before refl)

  -- it goes on so, by types of locations that have grown and that meet this
  pub record GoesOn (types : StoreTyping) (P : StoreTyping → Type 0) (side : Side) (p : LocalState) (n : ℕ) : Type 0 where
    pub later : StoreTyping
    pub grows : Grows types later
    pub has : P later
    pub going : IsStepping signature later s i side p n

  module _ {types : StoreTyping} (side : Side) (p : LocalState) (n : ℕ) (g : IsStepping signature types s i side p n) where
    goes-more : (kind : StepKind) (behind : State) (q : LocalState) → after g.now (label_by side i kind) ≡ Some behind → device_answer kind ≡ None → q.fresh ≡ p.fresh ++ fresh_of kind
        → LeadsOnTo side i (n + 1) q.fresh (begun_on side i s) behind
    goes-more kind behind q legal quiet used left rest answer =
        let x = reduced-on side kind i g.now behind g.active legal in
        let count : (n + 1) + left ≡ n + (left + 1) = omega arith in
        let one : left + 1 ≡ suc left = omega arith in
        ap (λ (k : ℕ). steps_on side i k (q.fresh ++ rest) answer (begun_on side i s)) count
        ∙ ap (λ (xs : List ℕ). steps_on side i (n + (left + 1)) (xs ++ rest) answer (begun_on side i s)) used
        ∙ ap (λ (xs : List ℕ). steps_on side i (n + (left + 1)) xs answer (begun_on side i s)) (append_assoc p.fresh (fresh_of kind) rest)
        ∙ g.goes (left + 1) (fresh_of kind ++ rest) answer
        ∙ ap (λ (k : ℕ). steps_on side i k (fresh_of kind ++ rest) answer g.now) one
        ∙ steps-behind (label_by side i) i left (record { fresh = fresh_of kind ++ rest; answer = answer }) g.now behind x.act (kind, record { fresh = rest; answer = answer }) x.is_act
        (takes-more kind x.act (named side kind x.act x.can) (left == 0) rest answer quiet) legal

    low-next : (q : LocalState) (used : List ℕ) → q.fresh ≡ p.fresh ++ used → (is_tall side i g.now ≡ true → ⊥) → (more : List ℕ) → StaysLow side i (n + 1) (q.fresh ++ more) s
    low-next q used is calm more =
        subst (λ (xs : List ℕ). StaysLow side i (n + 1) xs s) (sym (ap (λ (xs : List ℕ). xs ++ more) is ∙ append_assoc p.fresh used more))
        (low-more signature s i side p n g calm (used ++ more))

    -- a form at which the place stands is one at which the member does
    pub place-calm : (IsTooHigh side p → ⊥) → is_tall side i g.now ≡ true → ⊥
    place-calm calm tall =
        calm (sym (ap (has_such (λ (term : Tree). coming_height side (focus term) == max_height + 1)) g.member) ∙ tall)

    -- how the types grow by a step to a place
    abbrev pub Chosen : (StoreTyping → Type 0) → LocalState → Type 0
    Chosen P q = (kind : StepKind) (t : State) → after g.now (label_by side i kind) ≡ Some t → IsAfterRun s i q t → q.fresh ≡ p.fresh ++ fresh_of kind
        → (later : StoreTyping) × Grows types later × IsTyped signature later t × P later

    pub any-types : (q : LocalState) → Chosen (λ later. Unit {0}) q
    any-types q kind t legal run used = let later = kept signature types g.now (label_by side i kind) t g.typed legal in (later.0, later.1, later.2, tt)

    -- one step, for which there may be an input
    pub going-on : (P : StoreTyping → Type 0) (inputs : List Val) (q : LocalState) → Chosen P q → one_step side (with_inputs inputs p) ≡ Some q → AgreesWith s.store q
        → q.answer ≡ None → (is_tall side i g.now ≡ true → ⊥) → GoesOn types P side q (n + 1)
    going-on P inputs q chosen e agrees quiet calm =
        let x = step-made s i side (with_inputs inputs p) q g.now (unfed s i p inputs g.now g.after_run) g.member e agrees in
        let legal : after g.now (label_by side i x.kind) ≡ Some x.behind = legal-on side i x.kind g.now g.active ∙ x.reduces in
        let later = chosen x.kind x.behind legal x.after_run x.fresh in
        record {
          later = later.0;
          grows = later.1;
          has = later.3;
          going = record {
            now = x.behind;
            after_run = x.after_run;
            member = x.member;
            active = x.active ∙ g.active;
            orderly = (after-goes g.now (label_by side i x.kind) x.behind legal).orderly g.orderly;
            typed = later.2;
            standing = stands-on side x.kind g.now x.behind g.orderly legal g.standing;
            goes = goes-more x.kind x.behind q legal (sym x.answer ∙ quiet) x.fresh;
            low = low-next q (fresh_of x.kind) x.fresh calm;
          };
        }

  -- what is going is so at each place with the same term, prints, new members, new locations and values set
  pub going-as : {types : StoreTyping} (side : Side) (p q : LocalState) (m n : ℕ) → bare p.sets p ≡ bare q.sets q → m ≡ n → IsStepping signature types s i side p m
      → IsStepping signature types s i side q n
  going-as {types} side p q m n same count g = subst (IsStepping signature types s i side q) count (back q (subst (λ (z : LocalState). IsStepping signature types s i side z m) same (front p g)))
    where
      front : (z : LocalState) → IsStepping signature types s i side z m → IsStepping signature types s i side (bare z.sets z) m
      front z h = record {
        now = h.now;
        after_run = record { stored = h.after_run.stored; output = h.after_run.output; others = h.after_run.others; next = h.after_run.next };
        member = h.member;
        active = h.active;
        orderly = h.orderly;
        typed = h.typed;
        standing = h.standing;
        goes = h.goes;
        low = h.low;
      }

      back : (z : LocalState) → IsStepping signature types s i side (bare z.sets z) m → IsStepping signature types s i side z m
      back z h = record {
        now = h.now;
        after_run = record { stored = h.after_run.stored; output = h.after_run.output; others = h.after_run.others; next = h.after_run.next };
        member = h.member;
        active = h.active;
        orderly = h.orderly;
        typed = h.typed;
        standing = h.standing;
        goes = h.goes;
        low = h.low;
      }

  -- a step alone is one over any values set
  bare-acts : (sets : List (ℕ × Val)) (p : LocalState) (side : Side) (act : Act) (part : Tree) (q : LocalState) → Acts p side act part q → p.inputs ≡ []
      → acted act side (bare sets p) ≡ Some (part, bare sets q)
  bare-acts sets p _ _ _ _ (Acts.becomes side term) empty = refl
  bare-acts sets p _ _ _ _ (Acts.spawns body) empty = refl
  bare-acts sets p _ _ _ _ (Acts.prints n) empty = refl
  bare-acts sets p _ _ _ _ Acts.passes empty = refl
  bare-acts sets p _ _ _ _ (Acts.feeds side act v inputs part q is given) empty = absurd (let clash : v ∷ inputs ≡ [] = sym is ∙ empty in cc)

  bare-step : (sets : List (ℕ × Val)) (side : Side) (p q : LocalState) → one_step side p ≡ Some q → p.inputs ≡ [] → one_step side (bare sets p) ≡ Some (bare sets q)
  bare-step sets side p q e empty =
      let x = step-is side p q e in
      step-of side (bare sets p) x.redex (x.part, bare sets x.behind) refl x.stands (bare-acts sets p side (act_of x.redex) x.part x.behind x.acts empty)
      ∙ ap (λ (z : LocalState). Some (bare sets z)) (sym x.is)

  -- steps alone
  pub going-alone : {types : StoreTyping} (side : Side) (sets : List (ℕ × Val)) (p : LocalState) (k : ℕ) (q : LocalState) (n : ℕ) → goes side p k ≡ Some q → p.inputs ≡ []
      → GoesLow side p k → IsStepping signature types s i side (bare sets p) n → GoesOn types (λ later. Unit {0}) side (bare sets q) (n + k)
  going-alone {types} side sets p zero q n e empty low g =
      let same : p ≡ q = cc in
      let count : n ≡ n + zero = omega arith in
      record {
        later = types;
        grows = λ l cell is. is;
        has = tt;
        going = subst (λ (k : ℕ). IsStepping signature types s i side (bare sets q) k) count (subst (λ (z : LocalState). IsStepping signature types s i side (bare sets z) n) same g);
      }
  going-alone {types} side sets p (suc k) q n e empty low g =
      option_and_then_some _ _ _ e (λ r first second.
      let under : k < suc k = omega arith in
      let before = going-alone side sets p k r n first empty (λ j at_place below. low j at_place (let far : j < suc k = omega arith in far)) g in
      let step = bare-step sets side r q second (goes-empty side p r k first empty) in
      let count : (n + k) + 1 ≡ n + suc k = omega arith in
      let on = going-on side (bare sets r) (n + k) before.going (λ later. Unit {0}) [] (bare sets q) (any-types side (bare sets r) (n + k) before.going (bare sets q)) step
      (record { seen = tt; own = tt; made = tt }) refl (place-calm side (bare sets r) (n + k) before.going (low k r under first)) in
      record {
        later = on.later;
        grows = grows-through before.grows on.grows;
        has = tt;
        going = subst (λ (z : ℕ). IsStepping signature on.later s i side (bare sets q) z) count on.going;
      })

  pub going-advanced : {types : StoreTyping} (sets : List (ℕ × Val)) (m o : MachineView) (k : ℕ) → Advances k m o → GoesLow (running_side m) (place_shown m) k
      → IsStepping signature types s i (running_side m) (place_with sets m) m.steps → GoesOn types (λ later. Unit {0}) (running_side o) (place_with sets o) o.steps
  going-advanced {types} sets m o k a low g =
      let h = going-alone (running_side m) sets (place_shown m) k (place_shown o) m.steps a.run refl low g in
      subst (λ (b : Bool). GoesOn types (λ later. Unit {0}) (side_told b) (place_with sets o) o.steps) (sym a.inside)
      (subst (λ (z : ℕ). GoesOn types (λ later. Unit {0}) (running_side m) (place_with sets o) z) (sym a.steps) h)
