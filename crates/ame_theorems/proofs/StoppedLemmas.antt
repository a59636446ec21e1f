-- The first stop decides how a run ends.
use Rattle.std.proofs.Common.{◌≡◌, ℕ, ◌+◌, ◌∷◌, [], ◌⊎◌, inl, inr, List, Bool, true, false, cond, All, Option, Some, None, refl, sym, ap, ◌∙◌, arith}
use Rattle.std.specs.Prelude.{count_by}
use Rattle.std.proofs.lemmas.List.Sums.{sum_by-cons}
use Rattle.std.proofs.lemmas.List.Elements.{All-nil, All-cons, All-head, All-tail}
use Rattle.ame_protocol.specs.declared.stop.Stop.{Stop}
use Rattle.ame_protocol.specs.Event.After.{after, stop_after}
use Rattle.ame_protocol.specs.Event.Causes.{only_seats_keep}
use Rattle.ame_protocol.specs.Event.Event.{Event}
use Rattle.ame_protocol.specs.Event.May.{May}
use Rattle.ame_protocol.specs.Event.Runs.{Follows}
use Rattle.ame_protocol.specs.Event.EngineState.{EngineState}
use Rattle.ame_theorems.specs.Kinds.{is_fault, faults_at}
use Rattle.ame_theorems.specs.Stopped.{is_undo, IsStoppedBy}

-- Only undos happen once a stop is kept.
goes : (e : Event) (s : EngineState) → May e s → (is_undo e ≡ true) ⊎ (s.stop ≡ None)
goes (Event.Begin seat number) s may = inr may.0.going
goes (Event.Read seat l) s may = inr may.0.going
goes (Event.Write seat l v) s may = inr may.0.going
goes (Event.Alloc seat sort ty v) s may = inr may.0.going
goes (Event.Check seat attempt steps) s may = inr may.0.going
goes (Event.TurnBack seat attempt why) s may = inr may.0.going
goes (Event.End seat attempt steps place woken) s may = inr may.0.going
goes (Event.Leave seat attempt steps place woken) s may = inr may.0.going
goes (Event.Note seat attempt steps place) s may = inr may.0.going
goes (Event.Visit seat attempt steps place inside memory) s may = inr may.0.going
goes (Event.Refuse seat attempt device) s may = inr may.0.going
goes (Event.Undo seat attempt) s may = inl refl
goes (Event.Home seat attempt) s may = inl refl
goes (Event.Cut seat attempt steps place) s may = inr may.0
goes (Event.Tall seat attempt steps place) s may = inr may.0.going
goes (Event.Halt why) s may = inr may.none

-- an undo keeps none
undo-keeps : (e : Event) (stop : Option Stop) → is_undo e ≡ true → stop_after e stop ≡ stop
undo-keeps (Event.Undo seat attempt) stop is = refl
undo-keeps (Event.Home seat attempt) stop is = refl
undo-keeps _ stop is = absurd (let clash : false ≡ true = is in cc)

apart : {A : Type 0} (o : Option A) (x : A) → o ≡ None → o ≡ Some x → ⊥
apart {A} o x none some = let clash : ◌≡◌ {A = Option A} None (Some x) = sym none ∙ some in cc

-- Once a stop is kept, only undos follow, and the stop stays.
behind : (es : List Event) (s end : EngineState) (why : Stop) → Follows s es end → s.stop ≡ Some why → All (λ e. is_undo e ≡ true) es × (end.stop ≡ Some why)
behind [] s end why run stop = (All-nil (λ (e : Event). is_undo e ≡ true), ap (λ (x : EngineState). x.stop) run ∙ stop)
behind (e ∷ es) s end why run stop = by (goes e s run.0) (λ kept. behind es (after e s) end why run.1 kept)
  where
    by : (is_undo e ≡ true) ⊎ (s.stop ≡ None) → ((after e s).stop ≡ Some why → All (λ x. is_undo x ≡ true) es × (end.stop ≡ Some why))
        → All (λ x. is_undo x ≡ true) (e ∷ es) × (end.stop ≡ Some why)
    by (inl undoes) further =
        let rest = further (undo-keeps e s.stop undoes ∙ stop) in
        (All-cons (λ (x : Event). is_undo x ≡ true) e es undoes rest.0, rest.1)
    by (inr none) further = absurd (apart s.stop why none stop)

pub stopped-by : (es : List Event) (s end : EngineState) (why : Stop) → Follows s es end → s.stop ≡ None → end.stop ≡ Some why → IsStoppedBy why es
stopped-by [] s end why run none stop = absurd (apart end.stop why (ap (λ (x : EngineState). x.stop) run ∙ none) stop)
stopped-by (e ∷ es) s end why run none stop = by (stop_after e None) refl (λ going. stopped-by es (after e s) end why run.1 going stop)
  where
    here : (after e s).stop ≡ stop_after e None
    here = ap (stop_after e) none

    by : (o : Option Stop) → stop_after e None ≡ o → ((after e s).stop ≡ None → IsStoppedBy why es) → IsStoppedBy why (e ∷ es)
    by None is further =
        let rest = further (here ∙ is) in
        record {
          before = e ∷ rest.before;
          first = rest.first;
          behind = rest.behind;
          is = ap (λ (l : List Event). e ∷ l) rest.is;
          going = All-cons (λ (x : Event). stop_after x None ≡ None) e rest.before is rest.going;
          keeps = rest.keeps;
          undoes = rest.undoes;
        }
    by (Some kept) is further =
        let rest = behind es (after e s) end kept run.1 (here ∙ is) in
        record {
          before = [];
          first = e;
          behind = es;
          is = refl;
          going = All-nil (λ (x : Event). stop_after x None ≡ None);
          keeps = is ∙ sym rest.1 ∙ stop;
          undoes = rest.0;
        }

-- The number of devices that failed

abbrev one : Bool → ℕ
one b = cond b 1 0

counts-one : (e : Event) (es : List Event) → count_by is_fault (e ∷ es) ≡ one (is_fault e) + count_by is_fault es
counts-one e es = sum_by-cons (λ (x : Event). one (is_fault x)) e es

-- No device fails at an undo.
undo-fails : (e : Event) → is_undo e ≡ true → one (is_fault e) ≡ 0
undo-fails (Event.Undo seat attempt) is = refl
undo-fails (Event.Home seat attempt) is = refl
undo-fails _ is = absurd (let clash : false ≡ true = is in cc)

none-fails : (es : List Event) → All (λ e. is_undo e ≡ true) es → count_by is_fault es ≡ 0
none-fails [] all = refl
none-fails (e ∷ es) all =
    let sum = counts-one e es in
    let first = undo-fails e (All-head (λ (x : Event). is_undo x ≡ true) e es all) in
    let rest = none-fails es (All-tail (λ (x : Event). is_undo x ≡ true) e es all) in omega (arith, sum, first, rest)

-- No device fails at an event that keeps no stop.
going-fails : (e : Event) → stop_after e None ≡ None → one (is_fault e) ≡ 0
going-fails (Event.Refuse seat attempt device) is = absurd (let clash : ◌≡◌ {A = Option Stop} (Some (Stop.DeviceFault device)) None = is in cc)
going-fails _ is = refl

-- A halt isn't a device's fault.
halt-fails : (why : Stop) → only_seats_keep why ≡ false → 0 ≡ faults_at (Some why)
halt-fails (Stop.DeviceFault device) e = absurd (let clash : true ≡ false = e in cc)
halt-fails _ e = refl

-- An event that keeps a stop is a device's fault if the stop is one.
kept-fails : (e : Event) (s : EngineState) (why : Stop) → May e s → stop_after e None ≡ Some why → one (is_fault e) ≡ faults_at (Some why)
kept-fails (Event.Refuse seat attempt device) s why may is = ap faults_at is
kept-fails (Event.Cut seat attempt steps place) s why may is = ap faults_at is
kept-fails (Event.Tall seat attempt steps place) s why may is = ap faults_at is
kept-fails (Event.Halt reason) s why may is = halt-fails reason may.apart ∙ ap faults_at is
kept-fails _ s why may is = absurd (let clash : ◌≡◌ {A = Option Stop} None (Some why) = is in cc)

-- A device fails at most once in a run, and then this is the stop.
pub faults-kept : (es : List Event) (s end : EngineState) → Follows s es end → s.stop ≡ None → count_by is_fault es ≡ faults_at end.stop
faults-kept [] s end run none = sym (ap faults_at (ap (λ (x : EngineState). x.stop) run ∙ none))
faults-kept (e ∷ es) s end run none = by (stop_after e None) refl (λ going. faults-kept es (after e s) end run.1 going)
  where
    here : (after e s).stop ≡ stop_after e None
    here = ap (stop_after e) none

    by : (o : Option Stop) → stop_after e None ≡ o → ((after e s).stop ≡ None → count_by is_fault es ≡ faults_at end.stop)
        → count_by is_fault (e ∷ es) ≡ faults_at end.stop
    by None is further =
        let sum = counts-one e es in
        let first = going-fails e is in
        let rest = further (here ∙ is) in omega (arith, sum, first, rest)
    by (Some kept) is further =
        let rest = behind es (after e s) end kept run.1 (here ∙ is) in
        let sum = counts-one e es in
        let first = kept-fails e s kept run.0 is in
        let later = none-fails es rest.0 in
        let stop = ap faults_at rest.1 in omega (arith, sum, first, later, stop)
