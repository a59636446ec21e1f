-- An engine at its end.
use Rattle.std.proofs.Common.{◌≡◌, ℕ, ◌==◌, ◌<◌, ◌⊎◌, inl, inr, Bool, true, false, cond, List, [], ◌∷◌, map, All, Option, Some, None, option_map, refl, sym, ap, ◌∙◌, subst, arith}
use Rattle.std.specs.Prelude.{Contains, ◌+◌, ◌*◌, ◌≤◌, IsSome, slice_index_or, slice_get, if◌then◌else◌}
use Rattle.std.proofs.Common.{zero, suc, length}
use Rattle.std.proofs.lemmas.Bool.{eq-eqb, eqb-true}
use Rattle.std.proofs.lemmas.List.Elements.{All-nil, All-cons, All-head, All-tail, All-map}
use Rattle.ame_term.specs.Tree.{Typ, Val, Tree}
use Rattle.ame_term.specs.Maps.{at}
use Rattle.ame_term.specs.Signature.{MayStore}
use Rattle.ame_term.specs.declared.types.Sort.{Sort}
use Rattle.ame_laws.specs.Typed.StoreTyping.{StoreTyping}
use Rattle.ame_laws.specs.Typed.TypedState.{IsTypedBy, IsTyped}
use Rattle.ame_term.specs.State.{State}
use Rattle.ame_journal.specs.declared.entry.Entry.{Entry}
use Rattle.ame_store.specs.declared.cell.Cell.{Cell}
use Rattle.ame_store.specs.Cells.{IsFree}
use Rattle.ame_pool.specs.declared.member.Member.{Member}
use Rattle.ame_pool.specs.declared.oldest.Oldest.{Oldest}
use Rattle.ame_pool.specs.Members.{IsRising, find}
use Rattle.ame_pool.specs.Begin.{oldest}
use Rattle.ame_rows.specs.MemoryView.{Log, row_at}
use Rattle.ame_protocol.specs.Row.Shown.{shown_undo}
use Rattle.ame_protocol.specs.Row.Heap.{cell_at}
use Rattle.ame_protocol.specs.Row.Scoped.{live_types}
use Rattle.ame_protocol.proofs.Row.CellLemmas.{live_cell}
use Rattle.ame_protocol.specs.Visits.Opened.{cell_of, stored_in}
use Rattle.ame_protocol.proofs.Visits.OpenLemmas.{stored-live}
use Rattle.ame_protocol.specs.declared.types.Task.{Task}
use Rattle.ame_protocol.specs.Engine.Parts.{Parts, whole_journal, task_at, heap_in}
use Rattle.ame_protocol.specs.Engine.Simulates.{Simulates}
use Rattle.ame_protocol.proofs.Engine.ShownMemoryLemmas.{row-shown}
use Rattle.ame_protocol.specs.Waits.Certificates.{IsCertificate, HasCertificate}
use Rattle.ame_protocol.proofs.Waits.CertificateLemmas.{blocked-certificates}
use Rattle.ame_protocol.proofs.Visits.EndLemmas.{idle-clear, all-stored, state-empty, pool-empty}
use Rattle.ame_journal.specs.declared.certificate.Certificate.{Certificate}
use Rattle.ame_protocol.specs.declared.stop.Stop.{Stop}
use Rattle.ame_engine.specs.Core.{Core}
use Rattle.ame_protocol.specs.Event.Faults.{LeadsToCall}
use Rattle.ame_protocol.specs.Event.Causes.{certificate_of, certificates_of, certificates_in, HasCause}
use Rattle.ame_engine.specs.Seen.{parts_of}
use Rattle.ame_engine.specs.Whole.{IsSound}
use Rattle.ame_engine.specs.Ending.{Rise, CertifyAll, HasStopped, types_in, IsEnd, end_of}
use Rattle.ame_protocol.proofs.Event.CauseLemmas.{empty-oldest}
use Rattle.ame_pool.specs.Standings.{max_rollbacks}
use Rattle.ame_protocol.specs.Bounds.Rollbacks.{IsWithinRollbacks}
use Rattle.ame_protocol.proofs.Bounds.FewBounds.{refusals-bounded, tries-bounded}
use Rattle.ame_protocol.proofs.Bounds.PaidEntries.{turns-bounded}
use Rattle.ame_protocol.specs.Event.Bounds.{refusals, KeepsBounds, HasBounds}
use Rattle.ame_machine.specs.Meaning.{Meaning}

-- The types of the cells

module _ (parts : Parts) (s : Simulates parts) where
  live-type : (refs : List Typ) → parts.signature.refs ≡ Some refs → (l : ℕ) → live_types (heap_in parts) s.types l ≡ types_in refs parts.memory.cells l
  live-type refs listed l = by (cell_at (heap_in parts) l).live refl
    where
      cell : Cell Val
      cell = cell_at (heap_in parts) l

      by : (b : Bool) → (cell_at (heap_in parts) l).live ≡ b
          → (if b then s.types l else None) ≡ (if b then option_map (λ t. ((cell_at (heap_in parts) l).sort, t)) (slice_get refs (cell_at (heap_in parts) l).ty.0) else None)
      by false dead = refl
      by true live =
          let its = s.typed.heap.typed l (live_cell (heap_in parts) l live) in
          let may : MayStore (Some refs) (cell_at (heap_in parts) l).ty.0 its.0 =
          subst (λ (o : Option (List Typ)). MayStore o (cell_at (heap_in parts) l).ty.0 its.0) listed its.3 in
          its.1 ∙ sym (ap (option_map (λ t. ((cell_at (heap_in parts) l).sort, t))) may)

  pub cells-typed : ((l : ℕ) → at s.r.state.store l ≡ stored_in (cell_of parts.memory.cells l)) → (refs : List Typ) → parts.signature.refs ≡ Some refs
      → IsTyped parts.signature (types_in refs parts.memory.cells) s.r.state
  cells-typed stored refs listed = record {
    typed = subst (λ (types : StoreTyping). IsTypedBy parts.signature types s.r.state) (λ i l. live-type refs listed l i) s.typed.now;
    located = λ l cell has. by l cell (cell_of parts.memory.cells l).live refl has;
  }
    where
      by : (l : ℕ) (cell : Sort × Typ) (b : Bool) → (cell_of parts.memory.cells l).live ≡ b
          → (if b then option_map (λ t. ((cell_of parts.memory.cells l).sort, t)) (slice_get refs (cell_of parts.memory.cells l).ty.0) else None) ≡ Some cell
          → IsSome (at s.r.state.store l)
      by l cell false dead has = absurd (let clash : ◌≡◌ {A = Option (Sort × Typ)} None (Some cell) = has in cc)
      by l cell true live has = subst (λ (o : Option Val). IsSome o) (sym (stored l ∙ stored-live (cell_of parts.memory.cells l) live)) refl

-- One certificate a member

abbrev numbers : List (Member Tree) → List ℕ
numbers ms = map (λ (m : Member Tree). m.number) ms

record Certified (journal : List Entry) (s : State) (ms : List (Member Tree)) (certificates : List Certificate) : Type 0 where
  numbered : map (λ (c : Certificate). c.number) certificates ≡ numbers ms
  hold : All (λ (c : Certificate). IsCertificate s c.number c.steps c.fresh) certificates

certified : (journal : List Entry) (s : State) (ms : List (Member Tree)) → All (λ m. HasCertificate journal s m.number) ms
    → Certified journal s ms (certificates_of journal (numbers ms))
certified journal s [] all = record { numbered = refl; hold = All-nil (λ (c : Certificate). IsCertificate s c.number c.steps c.fresh) }
certified journal s (m ∷ ms) all =
    let its : HasCertificate journal s m.number = All-head (λ (x : Member Tree). HasCertificate journal s x.number) m ms all in
    let rest = certified journal s ms (All-tail (λ (x : Member Tree). HasCertificate journal s x.number) m ms all) in
    subst (λ (o : Option Entry). Certified journal s (m ∷ ms) (elim o as (λ _. List Certificate) [
      | None ↦ certificates_of journal (numbers ms)
      | Some note ↦ certificate_of m.number note ∷ certificates_of journal (numbers ms)
    ])) (sym its.last) (record {
      numbered = ap (λ (ns : List ℕ). m.number ∷ ns) rest.numbered;
      hold = All-cons (λ (c : Certificate). IsCertificate s c.number c.steps c.fresh) (certificate_of m.number its.note) (certificates_of journal (numbers ms))
          its.holds rest.hold;
    })

rises : (ms : List (Member Tree)) → IsRising ms → Rise (numbers ms)
rises [] h = tt
rises (m ∷ ms) h = (All-map (λ (k : ℕ). m.number < k) (λ (x : Member Tree). x.number) ms h.0, rises ms h.1)

-- who is found is among the numbers
contains-here : (n i : ℕ) (ns : List ℕ) → n ≡ i → Contains (n ∷ ns) i
contains-here n i ns e = (0, omega arith, e)

contains-more : (n i : ℕ) (ns : List ℕ) → Contains ns i → Contains (n ∷ ns) i
contains-more n i ns c = (suc c.0, (let within = c.1 in omega (arith, within)), c.2)

found-named : (ms : List (Member Tree)) (i : ℕ) → IsSome (find i ms) → Contains (numbers ms) i
found-named [] i h = absurd (let clash : false ≡ true = h in cc)
found-named (m ∷ ms) i h = by (m.number == i) refl h (λ some. found-named ms i some)
  where
    by : (b : Bool) → (m.number == i) ≡ b → IsSome (cond b (Some m) (find i ms)) → (IsSome (find i ms) → Contains (numbers ms) i) → Contains (numbers (m ∷ ms)) i
    by true is some go = contains-here m.number i (numbers ms) (eqb-true m.number i is)
    by false is some go = contains-more m.number i (numbers ms) (go some)

here-or-later : (n i : ℕ) (ns : List ℕ) (k : ℕ) → k < length (n ∷ ns) → slice_index_or (n ∷ ns) k i ≡ i → (n ≡ i) ⊎ Contains ns i
here-or-later n i ns zero within e = inl e
here-or-later n i ns (suc k) within e = inr (k, omega (arith, within), e)

named-found : (ms : List (Member Tree)) (i : ℕ) → Contains (numbers ms) i → IsSome (find i ms)
named-found [] i c = absurd (let within = c.1 in omega (arith, within))
named-found (m ∷ ms) i c = by (m.number == i) refl (here-or-later m.number i (numbers ms) c.0 c.1 c.2) (λ later. named-found ms i later)
  where
    by : (b : Bool) → (m.number == i) ≡ b → (m.number ≡ i) ⊎ Contains (numbers ms) i → (Contains (numbers ms) i → IsSome (find i ms))
        → IsSome (cond b (Some m) (find i ms))
    by true is at_it go = refl
    by false is (inl same) go = absurd (let clash : false ≡ true = sym is ∙ eq-eqb m.number i same in cc)
    by false is (inr later) go = go later

map-none : {X Y : Type 0} (f : X → Y) (xs : List X) → map f xs ≡ [] → xs ≡ []
map-none f [] e = refl
map-none f (x ∷ xs) e = absurd (let clash : ◌≡◌ {A = List _} (f x ∷ map f xs) [] = e in cc)

some-machine : (o : Option (Member Tree)) → IsSome (option_map (λ (m : Member Tree). m.machine) o) → IsSome o
some-machine None h = h
some-machine (Some m) h = refl

machine-some : (o : Option (Member Tree)) → IsSome o → IsSome (option_map (λ (m : Member Tree). m.machine) o)
machine-some None h = h
machine-some (Some m) h = refl

-- The whole engine

module _ {C V M : Type 0} (meaning : Meaning C V M) (core : Core C V M)
    (whole : IsSound meaning core) (idle : (seat : ℕ) → task_at core.tasks seat ≡ Task.Idle) where
  abbrev parts : Parts
  parts = parts_of meaning core

  abbrev s : Simulates parts
  s = whole.state.stands

  abbrev state : State
  state = s.r.state

  -- nothing is left to undo
  pub end-clear : (seat : ℕ) → (row_at core.memory.rows seat).undos ≡ []
  end-clear seat =
      map-none (shown_undo (meaning.value_of core.code)) (row_at core.memory.rows seat).undos
      (sym (ap (λ (n : Log Val). n.undos) (row-shown (meaning.value_of core.code) core.memory.rows seat))
      ∙ ap (λ (n : Log Val). n.undos) (idle-clear parts s seat (idle seat)))

  certify : oldest parts.pool ≡ Oldest.Parked → core.certificates ≡ certificates_in parts → CertifyAll state core.certificates
  certify parked are = subst (CertifyAll state) (sym are) (record {
    hold = all.hold;
    rise = subst Rise (sym all.numbered) (rises parts.pool.members rising);
    members = λ number. (
      λ some. subst (λ (ns : List ℕ). Contains ns number) (sym all.numbered)
          (found-named parts.pool.members number
          (some-machine (find number parts.pool.members) (subst (λ (o : Option Tree). IsSome o) (s.stands.members number) some))),
      λ named. subst (λ (o : Option Tree). IsSome o) (sym (s.stands.members number))
          (machine-some (find number parts.pool.members)
          (named-found parts.pool.members number (subst (λ (ns : List ℕ). Contains ns number) all.numbered named))),
    );
    some = λ none.
        let empty : parts.pool.members ≡ [] = map-none (λ (m : Member Tree). m.number) parts.pool.members
        (sym all.numbered ∙ ap (map (λ (c : Certificate). c.number)) none) in
        let clash : Oldest.Empty ≡ Oldest.Parked = sym (empty-oldest parts.pool empty) ∙ parked in cc;
  })
    where
      rising : IsRising parts.pool.members
      rising = whole.state.pool.rising

      all : Certified (whole_journal parts) state parts.pool.members (certificates_in parts)
      all = certified (whole_journal parts) state parts.pool.members (blocked-certificates parts s whole.state.waiting parked rising)

  has-stopped : (stop : Option Stop) → core.stop ≡ stop → HasCause stop core.certificates parts → HasStopped core.limits s.r (record (end_of core) { stop = stop })
  has-stopped stop is h = record {
    finished = λ e. state-empty parts s (subst (λ (o : Option Stop). HasCause o core.certificates parts) e h).cause;
    blocked = λ e. let b : HasCause (Some Stop.Blocked) core.certificates parts = subst (λ (o : Option Stop). HasCause o core.certificates parts) e h in certify b.cause b.told;
    untold = untold stop h;
    spent = λ e.
        let b : HasCause (Some Stop.Spent) core.certificates parts = subst (λ (o : Option Stop). HasCause o core.certificates parts) e h in
        (b.cause.turns, λ none. b.cause.left (pool-empty parts s none));
    failed = λ device e.
        let b : HasCause (Some (Stop.DeviceFault device)) core.certificates parts = subst (λ (o : Option Stop). HasCause o core.certificates parts) e h in
        let leads : LeadsToCall parts device = b.cause in leads s.r s.stands.replayed;
    ends = h.ends;
  }
    where
      untold : (o : Option Stop) → HasCause o core.certificates parts → (o ≡ Some Stop.Blocked → ⊥) → core.certificates ≡ []
      untold None b other = b.told
      untold (Some Stop.Finished) b other = b.told
      untold (Some Stop.Blocked) b other = absurd (other refl)
      untold (Some Stop.Spent) b other = b.told
      untold (Some (Stop.Tall number)) b other = b.told
      untold (Some Stop.NoMemory) b other = b.told
      untold (Some Stop.WriteFault) b other = b.told
      untold (Some (Stop.DeviceFault device)) b other = b.told

  has-bounds : (stop : Option Stop) → KeepsBounds stop core.counters parts
      → HasBounds (meaning.program core.code) core.limits s.r core.base core.entries core.turns core.counters core.tried stop
  has-bounds stop b = record {
    rollbacks =
        subst (λ (n : ℕ). refusals core.counters ≤ max_rollbacks * (n + length core.entries)) (sym s.stands.next)
        (refusals-bounded (refusals core.counters) parts s b.few (whole.state.pool.rising) within);
    tries = tries-bounded (refusals core.counters) parts b.few within;
    sound = s.sound;
    spent = λ e.
        let spent : KeepsBounds (Some Stop.Spent) core.counters parts = subst (λ (o : Option Stop). KeepsBounds o core.counters parts) e b in
        turns-bounded parts spent.paid idle;
    untried = λ one e.
        let spent : KeepsBounds (Some Stop.Spent) core.counters parts = subst (λ (o : Option Stop). KeepsBounds o core.counters parts) e b in
        (spent.untried one).none;
  }
    where
      within : IsWithinRollbacks parts.pool
      within = whole.state.pool.few

  pub is-end : All IsFree core.memory.cells → IsEnd (meaning.program core.code) (meaning.signature core.code) core.limits (meaning.value_of core.code) (end_of core)
  is-end free = record {
    r = s.r;
    replays = s.stands.replayed;
    store = all-stored parts s idle;
    printed = s.stands.output;
    free = free;
    forms = whole.memory.forms;
    typed = cells-typed parts s (all-stored parts s idle);
    once = whole.state.once.once;
    stopped = has-stopped core.stop refl whole.state.caused;
    shown = record { limited = refl; counts = whole.state.counters; most = s.bounded.turns };
    lone = whole.state.lone.counts;
    bounds = has-bounds core.stop whole.state.bounds;
  }

module _ {C V M : Type 0} (meaning : Meaning C V M) (core now : Core C V M) (view : core ≡ now)
    (whole : IsSound meaning core) (idle : (seat : ℕ) → task_at now.tasks seat ≡ Task.Idle)
    (cells : List (Cell V)) (cells_are : cells ≡ core.memory.cells) (free : ((seat : ℕ) → (row_at core.memory.rows seat).undos ≡ []) → All IsFree cells) where
  idle' : (seat : ℕ) → task_at core.tasks seat ≡ Task.Idle
  idle' = subst (λ (x : Core C V M). (seat : ℕ) → task_at x.tasks seat ≡ Task.Idle) (sym view) idle

  pub all-free : All IsFree cells
  all-free = free (end-clear meaning core whole idle')

  pub ends-so : IsEnd (meaning.program now.code) (meaning.signature now.code) now.limits (meaning.value_of now.code) (record (end_of core) { cells = cells })
  ends-so =
      subst (λ (x : Core C V M). IsEnd (meaning.program x.code) (meaning.signature x.code) x.limits (meaning.value_of x.code) (record (end_of core) { cells = cells })) view
      (subst (λ (cs : List (Cell V)). IsEnd (meaning.program core.code) (meaning.signature core.code) core.limits (meaning.value_of core.code) (record (end_of core) { cells = cs })) (sym cells_are)
      (is-end meaning core whole idle' (subst (All IsFree) cells_are all-free)))
