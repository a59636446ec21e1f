-- The place to which a visit comes is replayed.
use Rattle.std.proofs.Common.{◌≡◌, ℕ, ◌+◌, ◌<◌, Bool, true, false, List, [], ◌∷◌, Some, None, refl, sym, ap, ◌∙◌, subst, arith}
use Rattle.std.specs.Prelude.{◌==◌, ◌||◌, not, cond, filter}
use Rattle.std.specs.List.{list_any}
use Rattle.std.proofs.lemmas.Bool.{eqb-true, ne_eqb}
use Rattle.ame_term.specs.Tree.{Typ, Val, Tree}
use Rattle.ame_term.specs.Signature.{Signature}
use Rattle.ame_term.specs.Frame.{Side, side_of}
use Rattle.ame_term.specs.Context.{Focus, focus, fill}
use Rattle.ame_term.specs.Act.{Act, act_of}
use Rattle.ame_term.specs.Maps.{at}
use Rattle.ame_term.specs.State.{closed_value}
use Rattle.ame_term.specs.declared.types.Effect.{Effect}
use Rattle.ame_laws.proofs.FrameLemmas.{found}
use Rattle.ame_journal.specs.declared.entry.Entry.{Entry}
use Rattle.ame_journal.specs.Replayed.{Replayed, is_inside, side_at, staying, leaving}
use Rattle.ame_journal.specs.Replay.{replay_entry}
use Rattle.ame_laws.specs.Typed.StoreTyping.{StoreTyping}
use Rattle.ame_laws.specs.Typed.TypedState.{IsMember}
use Rattle.ame_laws.specs.Typed.LocalRun.{LocalStep}
use Rattle.ame_laws.proofs.Typed.LocalLemmas.{local_step}
use Rattle.ame_machine.specs.Run.Local.{LocalState, begun_with, fed, refilled_in, local}
use Rattle.ame_machine.specs.Run.AgreesWith.{AgreesWith, IsAfterRun}
use Rattle.ame_machine.specs.Run.Fit.{IsFitFor, IsTypedPlace}
use Rattle.ame_machine.specs.Run.Told.{TellsRun}
use Rattle.ame_machine.proofs.Run.RunLemmas.{feeds-of, one-more}
use Rattle.ame_machine.proofs.Run.TypedLemmas.{feeds-inputs, typed-more}
use Rattle.ame_machine.proofs.Run.EntryLemmas.{run-free, run-closed}
use Rattle.ame_rows.specs.MemoryView.{MemoryView}
use Rattle.ame_protocol.specs.Row.SeatRun.{IsAtAct}
use Rattle.ame_protocol.specs.Row.Scoped.{live_types}
use Rattle.ame_protocol.proofs.Row.ReachLemmas.{place-grown}
use Rattle.ame_protocol.specs.declared.types.Attempt.{Attempt}
use Rattle.ame_protocol.specs.declared.types.Task.{Task}
use Rattle.ame_protocol.specs.Engine.Logged.{heap_of}
use Rattle.ame_protocol.specs.Engine.Parts.{Parts, heap_in, task_at, term_at}
use Rattle.ame_protocol.specs.Engine.Simulates.{Simulates}
use Rattle.ame_protocol.specs.Visits.ByAct.{IsGivenBy, memory_after}
use Rattle.ame_protocol.specs.Visits.Visit.{closed_at, StepsTo, IsVisit, free_entry}
use Rattle.ame_protocol.proofs.Visits.PlaceLemmas.{alone, calm, term-there, is-inside, on-side, place-typed}
use Rattle.ame_protocol.proofs.Visits.SettleLemmas.{Settles, live-grows, settles-same}
use Rattle.ame_protocol.proofs.Visits.ActLemmas.{by-act}

-- A visit has come to a place: the memory is settled, the place is typed by the live cells, and its entry is replayed.
pub record Visited (parts : Parts) (s : Simulates parts) (seat number n : ℕ) (q : LocalState) (inside : Bool) (memory : MemoryView Val) : Type 0 where
  pub types : StoreTyping
  pub settles : Settles parts s memory q.sets types
  pub place : IsTypedPlace parts.signature (live_types (heap_of memory) types) Typ.Unit q
  pub r : Replayed
  pub entry : replay_entry s.r (free_entry seat number n q) ≡ Some r
  pub after : IsAfterRun s.r.state number q r.state
  pub idle : r.state.active ≡ None
  pub member : at r.state.members number ≡ Some q.term
  pub inside_here : is_inside r number ≡ inside
  pub inside_others : (k : ℕ) → (k ≡ number → ⊥) → is_inside r k ≡ is_inside s.r k

-- The members inside once a member has closed

left-here : (i : ℕ) (xs : List ℕ) → list_any (λ j. j == i) (filter (λ j. not (j == i)) xs) ≡ false
left-here i [] = refl
left-here i (x ∷ xs) = by (x == i) refl (left-here i xs)
  where
    by : (b : Bool) → (x == i) ≡ b → list_any (λ j. j == i) (filter (λ j. not (j == i)) xs) ≡ false
        → list_any (λ j. j == i) (cond (not b) (x ∷ filter (λ j. not (j == i)) xs) (filter (λ j. not (j == i)) xs)) ≡ false
    by true is rest = rest
    by false is rest = ap (λ (c : Bool). c || list_any (λ j. j == i) (filter (λ j. not (j == i)) xs)) is ∙ rest

left-others : (i k : ℕ) (xs : List ℕ) → (k ≡ i → ⊥) → list_any (λ j. j == k) (filter (λ j. not (j == i)) xs) ≡ list_any (λ j. j == k) xs
left-others i k [] apart = refl
left-others i k (x ∷ xs) apart = by (x == i) refl (left-others i k xs apart)
  where
    by : (b : Bool) → (x == i) ≡ b → list_any (λ j. j == k) (filter (λ j. not (j == i)) xs) ≡ list_any (λ j. j == k) xs
        → list_any (λ j. j == k) (cond (not b) (x ∷ filter (λ j. not (j == i)) xs) (filter (λ j. not (j == i)) xs)) ≡ ((x == k) || list_any (λ j. j == k) xs)
    by true is rest =
        rest ∙ sym (ap (λ (c : Bool). c || list_any (λ j. j == k) xs) (ne_eqb x k (λ e. apart (sym e ∙ eqb-true x i is))))
    by false is rest = ap (λ (c : Bool). (x == k) || c) rest

-- the value at which a term closes stands in its frames
closing-form : (f : Focus) (v : Val) → closed_value f ≡ Some v → f ≡ Focus.AtRedex Side.Protected (Tree.Unprotected (Tree.Held v))
closing-form (Focus.AtRedex Side.Protected (Tree.Unprotected (Tree.Held w))) v e =
    let same : w ≡ v = cc in ap (λ (z : Val). Focus.AtRedex Side.Protected (Tree.Unprotected (Tree.Held z))) same
closing-form _ v e = cc

-- a member that closes is a member still
closed-member : (signature : Signature) (cells : StoreTyping) (term : Tree) (v : Val) → IsMember signature cells term → closed_value (focus term) ≡ Some v
    → IsMember signature cells (fill term (Tree.Held v))
closed-member signature cells term v h e =
    let f = found term (Tree.Unprotected (Tree.Held v)) Side.Protected (closing-form (focus term) v e) in
    let step : LocalStep signature cells (side_of f.frames) (Tree.Unprotected (Tree.Held v)) (Tree.Held v) =
    subst (λ (z : Side). LocalStep signature cells z (Tree.Unprotected (Tree.Held v)) (Tree.Held v)) (sym f.on) (LocalStep.closed v) in
    subst (λ (z : Tree). IsMember signature cells z) (sym (f.refilled (Tree.Held v)))
    (local_step signature cells Effect.Protected f.frames (Tree.Unprotected (Tree.Held v)) (Tree.Held v) Typ.Unit
    (subst (λ (z : Tree). IsMember signature cells z) f.term h) step)

module _ (parts : Parts) (s : Simulates parts) (seat : ℕ) (attempt : Attempt) (task : task_at parts.tasks seat ≡ Task.Free attempt) where
  abbrev number : ℕ
  number = attempt.tried.number

  abbrev first : Tree
  first = term_at parts.pool number

  abbrev live : StoreTyping
  live = live_types (heap_in parts) s.types

  -- An entry with the run's locations and its answer records a run of the member that agrees with the store.
  tells : (entry : Entry) (inputs : List Val) (n : ℕ) (p : LocalState) → entry.number ≡ number → local Side.Unprotected first inputs n ≡ Some p
      → AgreesWith s.r.state.store p → entry.fresh ≡ p.fresh → entry.answer ≡ p.answer → TellsRun s.r entry Side.Unprotected n p
  tells entry inputs n p its ran agrees fresh answer = record {
    idle = (calm parts s seat attempt task).idle;
    stands = ap (λ (k : ℕ). side_at k s.r.state) its ∙ on-side parts s seat attempt task;
    term = first;
    member = ap (at s.r.state.members) its ∙ term-there parts s seat attempt task;
    inputs = inputs;
    ran = ran;
    agrees = agrees;
    fresh = fresh;
    answer = answer;
  }

  module _ (n : ℕ) (u : Tree) (ran : StepsTo parts number n (begun_with u [])) where
    typed : IsTypedPlace parts.signature live Typ.Unit (begun_with u [])
    typed = place-typed parts s seat attempt task n (begun_with u []) ran

    nothing-agrees : AgreesWith s.r.state.store (begun_with u [])
    nothing-agrees = record { seen = tt; own = tt; made = tt }

    -- steps alone
    stepped-visited : 0 < n → Visited parts s seat number n (begun_with u []) true parts.memory
    stepped-visited some =
        let p = begun_with u [] in
        let entry = free_entry seat number n p in
        let x = run-free s.r entry n p (tells entry [] n p refl ran nothing-agrees refl refl) refl refl (is-inside parts s seat attempt task) some in
        record {
          types = s.types;
          settles = settles-same parts s;
          place = typed;
          r = staying s.r x.0;
          entry = x.1;
          after = x.2;
          idle = x.4;
          member = x.3;
          inside_here = is-inside parts s seat attempt task;
          inside_others = λ k apart. refl;
        }

    -- an act
    acted-visited : (act : Act) (v : Val) (made : Tree × LocalState) → IsAtAct Side.Unprotected act (begun_with u [])
        → IsGivenBy parts.memory act v → fed act Side.Unprotected v (begun_with u []) ≡ Some made
        → Visited parts s seat number (n + 1) (refilled_in u made) true (memory_after act parts.memory)
    acted-visited act v made at_it given gives =
        let p = begun_with u [] in
        let q = refilled_in u made in
        let memory = memory_after act parts.memory in
        let feeds = feeds-of p Side.Unprotected act v made gives in
        let m = by-act parts s u typed Side.Unprotected act v made.0 made.1 feeds refl given at_it in
        let cells = live_types (heap_of memory) m.types in
        let gives_redex : fed (act_of at_it.redex) Side.Unprotected v p ≡ Some made = ap (λ (a : Act). fed a Side.Unprotected v p) at_it.acts ∙ gives in
        let goes : local Side.Unprotected first (v ∷ []) (n + 1) ≡ Some q =
        one-more Side.Unprotected (begun_with first []) p at_it.redex v n made ran refl refl at_it.stands gives_redex in
        let agrees : AgreesWith s.r.state.store q = record { seen = m.agrees.seen; own = m.agrees.own; made = m.agrees.made } in
        let entry = free_entry seat number (n + 1) q in
        let told = tells entry (v ∷ []) (n + 1) q refl goes agrees refl refl in
        let x = run-free s.r entry (n + 1) q told refl refl (is-inside parts s seat attempt task) (omega arith) in
        let fit : IsFitFor parts.signature cells (act_of at_it.redex) v = subst (λ (a : Act). IsFitFor parts.signature cells a v) (sym at_it.acts) m.fit in
        let used : q.inputs ≡ [] = feeds-inputs p Side.Unprotected act v made.0 made.1 feeds in
        let grown = place-grown parts.signature live cells (live-grows parts s memory made.1.sets m.types m.settles) Typ.Unit p typed in
        record {
          types = m.types;
          settles = m.settles;
          place =
              typed-more parts.signature cells Side.Unprotected (begun_with first []) p at_it.redex Typ.Unit n v made grown ran refl at_it.stands
              gives_redex fit (n + 1) q goes used;
          r = staying s.r x.0;
          entry = x.1;
          after = x.2;
          idle = x.4;
          member = x.3;
          inside_here = is-inside parts s seat attempt task;
          inside_others = λ k apart. refl;
        }

    -- the close
    closed-visited : (v : Val) → closed_value (focus u) ≡ Some v → Visited parts s seat number (n + 1) (closed_at v (begun_with u [])) false parts.memory
    closed-visited v closes =
        let p = begun_with u [] in
        let q = closed_at v p in
        let entry = free_entry seat number (n + 1) q in
        let x = run-closed s.r entry n p (tells entry [] n p refl ran nothing-agrees refl refl) v refl refl (is-inside parts s seat attempt task) refl closes in
        record {
          types = s.types;
          settles = settles-same parts s;
          place = record {
            fragment = closed-member parts.signature live u v typed.fragment closes;
            stored = typed.stored;
            members = typed.members;
          };
          r = leaving s.r number x.0;
          entry = x.1;
          after = record { stored = x.2.stored; output = x.2.output; others = x.2.others; next = x.2.next };
          idle = x.4;
          member = x.3;
          inside_here = left-here number s.r.inside;
          inside_others = λ k apart. left-others number k s.r.inside apart;
        }

  -- each visit
  pub visited : (n : ℕ) (q : LocalState) (inside : Bool) (memory : MemoryView Val) → IsVisit parts number n q inside memory
      → Visited parts s seat number n q inside memory
  visited _ _ _ _ (IsVisit.stepped n p some ran) =
      let is = alone first n p ran in
      let ran_bare : StepsTo parts number n (begun_with p.term []) = ran ∙ ap Some is in
      subst (λ (z : LocalState). Visited parts s seat number n z true parts.memory) (sym is) (stepped-visited n p.term ran_bare some)
  visited _ _ _ _ (IsVisit.acted n p act v made ran at_it given gives) =
      let is = alone first n p ran in
      let ran_bare : StepsTo parts number n (begun_with p.term []) = ran ∙ ap Some is in
      acted-visited n p.term ran_bare act v made (subst (IsAtAct Side.Unprotected act) is at_it) given
      (ap (fed act Side.Unprotected v) (sym is) ∙ gives)
  visited _ _ _ _ (IsVisit.closed n p v ran closes) =
      let is = alone first n p ran in
      let ran_bare : StepsTo parts number n (begun_with p.term []) = ran ∙ ap Some is in
      subst (λ (z : LocalState). Visited parts s seat number (n + 1) (closed_at v z) false parts.memory) (sym is) (closed-visited n p.term ran_bare v closes)
