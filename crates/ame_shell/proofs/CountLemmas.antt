-- The counts of an end by its entries, and what follows the event that keeps a stop.
use Rattle.std.proofs.Common.{◌≡◌, ℕ, ◌+◌, ◌≤◌, ◌⊎◌, inl, inr, Bool, true, false, List, [], ◌∷◌, ◌++◌, Option, Some, None, refl, sym, ap, ◌∙◌, subst, arith}
use Rattle.std.specs.Prelude.{cond, is_some, All}
use Rattle.std.specs.List.{sum_by, count_by}
use Rattle.std.proofs.lemmas.List.Sums.{sum_by-cons, sum_by-append}
use Rattle.std.proofs.lemmas.List.Elements.{All-cons, All-nil, All-head, All-tail}
use Rattle.ame_term.specs.Tree.{Val, Tree}
use Rattle.ame_term.specs.Signature.{Signature}
use Rattle.ame_journal.specs.declared.entry.Entry.{Entry}
use Rattle.ame_journal.specs.declared.entry.EntryKind.{EntryKind}
use Rattle.ame_protocol.specs.declared.counters.Counters.{Counters}
use Rattle.ame_protocol.specs.declared.stop.Stop.{Stop}
use Rattle.ame_protocol.specs.declared.types.Limits.{Limits}
use Rattle.ame_protocol.specs.Event.After.{after, counted_find, stop_after}
use Rattle.ame_protocol.specs.Event.Counting.{nothing_counted, one_invalid, one_undone}
use Rattle.ame_protocol.specs.Event.Event.{Event, Find, Reverse}
use Rattle.ame_protocol.specs.Event.May.{May}
use Rattle.ame_protocol.specs.Event.Runs.{Follows, entries_told, entries_along}
use Rattle.ame_protocol.specs.Event.EngineState.{EngineState}
use Rattle.ame_engine.specs.Ending.{End}
use Rattle.ame_shell.specs.Ran.{IsStart, IsRanBy}

-- Kinds of entries and of events

-- whether an entry is of a row that was committed
abbrev pub is_ran : EntryKind → Bool
is_ran EntryKind.Ran = true
is_ran _ = false

-- or a visit of unprotected code
abbrev pub is_free : EntryKind → Bool
is_free EntryKind.Free = true
is_free _ = false

-- how many entries are so
abbrev pub rans_in : List Entry → ℕ
rans_in entries = count_by (λ entry. is_ran entry.kind) entries

abbrev pub frees_in : List Entry → ℕ
frees_in entries = count_by (λ entry. is_free entry.kind) entries

-- whether protected code makes a cell
abbrev pub is_alloc : Event → Bool
is_alloc (Event.Alloc seat sort ty v) = true
is_alloc _ = false

-- whether a device fails
abbrev pub is_refusal : Event → Bool
is_refusal (Event.Refuse seat attempt device) = true
is_refusal _ = false

-- whether a seat was to commit, and turns back
abbrev pub is_refused_commit : Event → Bool
is_refused_commit (Event.TurnBack seat attempt (Reverse.Stale Find.Commit)) = true
is_refused_commit _ = false

-- whether the runtime keeps the stop of a device that failed, without an event of a seat
abbrev pub halts_for_device : Event → Bool
halts_for_device (Event.Halt (Stop.DeviceFault device)) = true
halts_for_device _ = false

-- whether an event keeps a stop
abbrev pub keeps_a_stop : Event → Bool
keeps_a_stop (Event.Refuse seat attempt device) = true
keeps_a_stop (Event.Cut seat attempt steps place) = true
keeps_a_stop (Event.Tall seat attempt steps place) = true
keeps_a_stop (Event.Halt why) = true
keeps_a_stop _ = false

-- whether a seat undoes
abbrev pub undoes : Event → Bool
undoes (Event.Undo seat attempt) = true
undoes (Event.Home seat attempt) = true
undoes _ = false

-- one if it is a device's failure that was kept
abbrev pub one_fault : Option Stop → ℕ
one_fault (Some (Stop.DeviceFault device)) = 1
one_fault _ = 0

-- The counts of events

undo-frees : (stopped : Bool) (c : Counters) → (one_undone stopped c).frees ≡ c.frees
undo-frees true c = refl
undo-frees false c = refl

undo-commits : (stopped : Bool) (c : Counters) → (one_undone stopped c).commits ≡ c.commits
undo-commits true c = refl
undo-commits false c = refl

undo-allocs : (stopped : Bool) (c : Counters) → (one_undone stopped c).allocs ≡ c.allocs
undo-allocs true c = refl
undo-allocs false c = refl

invalid-frees : (find : Find) (c : Counters) → (one_invalid (counted_find find) c).frees ≡ c.frees
invalid-frees Find.Check c = refl
invalid-frees Find.Commit c = refl
invalid-frees Find.Block c = refl
invalid-frees Find.Tall c = refl

invalid-allocs : (find : Find) (c : Counters) → (one_invalid (counted_find find) c).allocs ≡ c.allocs
invalid-allocs Find.Check c = refl
invalid-allocs Find.Commit c = refl
invalid-allocs Find.Block c = refl
invalid-allocs Find.Tall c = refl

abbrev one : Bool → ℕ
one b = cond b 1 0

abbrev of_frees : Event → ℕ
of_frees e = frees_in (entries_told e) + one (is_refusal e)

abbrev of_commits : Event → ℕ
of_commits e = rans_in (entries_told e) + one (is_refused_commit e)

abbrev of_allocs : Event → ℕ
of_allocs e = one (is_alloc e)

event-frees : (e : Event) (s : EngineState) → (after e s).counters.frees ≡ s.counters.frees + of_frees e
event-frees (Event.TurnBack seat attempt (Reverse.Met l owner)) s = omega arith
event-frees (Event.TurnBack seat attempt (Reverse.Stale find)) s = let same = invalid-frees find s.counters in omega (arith, same)
event-frees (Event.Undo seat attempt) s = let same = undo-frees s.parts.stopped s.counters in omega (arith, same)
event-frees (Event.Home seat attempt) s = let same = undo-frees s.parts.stopped s.counters in omega (arith, same)
event-frees _ s = omega arith

event-commits : (e : Event) (s : EngineState) → (after e s).counters.commits ≡ s.counters.commits + of_commits e
event-commits (Event.TurnBack seat attempt (Reverse.Met l owner)) s = omega arith
event-commits (Event.TurnBack seat attempt (Reverse.Stale Find.Check)) s = omega arith
event-commits (Event.TurnBack seat attempt (Reverse.Stale Find.Commit)) s = omega arith
event-commits (Event.TurnBack seat attempt (Reverse.Stale Find.Block)) s = omega arith
event-commits (Event.TurnBack seat attempt (Reverse.Stale Find.Tall)) s = omega arith
event-commits (Event.Undo seat attempt) s = let same = undo-commits s.parts.stopped s.counters in omega (arith, same)
event-commits (Event.Home seat attempt) s = let same = undo-commits s.parts.stopped s.counters in omega (arith, same)
event-commits _ s = omega arith

event-allocs : (e : Event) (s : EngineState) → (after e s).counters.allocs ≡ s.counters.allocs + of_allocs e
event-allocs (Event.TurnBack seat attempt (Reverse.Met l owner)) s = omega arith
event-allocs (Event.TurnBack seat attempt (Reverse.Stale find)) s = let same = invalid-allocs find s.counters in omega (arith, same)
event-allocs (Event.Undo seat attempt) s = let same = undo-allocs s.parts.stopped s.counters in omega (arith, same)
event-allocs (Event.Home seat attempt) s = let same = undo-allocs s.parts.stopped s.counters in omega (arith, same)
event-allocs _ s = omega arith

-- And those of a run

counted-along : (f : Counters → ℕ) (w : Event → ℕ) → ((e : Event) (s : EngineState) → f (after e s).counters ≡ f s.counters + w e)
    → (es : List Event) (s end : EngineState) → Follows s es end → f end.counters ≡ f s.counters + sum_by w es
counted-along f w each [] s end run = let same = ap (λ (x : EngineState). f x.counters) run in omega (arith, same)
counted-along f w each (e ∷ es) s end run =
    let rest = counted-along f w each es (after e s) end run.1 in
    let first = each e s in
    let sum = sum_by-cons w e es in omega (arith, rest, first, sum)

entries-sum : (p : Entry → Bool) (es : List Event) → count_by p (entries_along es) ≡ sum_by (λ e. count_by p (entries_told e)) es
entries-sum p [] = refl
entries-sum p (e ∷ es) =
    let all = sum_by-append (λ (x : Entry). cond (p x) 1 0) (entries_told e) (entries_along es) in
    let rest = entries-sum p es in
    let sum = sum_by-cons (λ (x : Event). count_by p (entries_told x)) e es in omega (arith, all, rest, sum)

sum-both : (a b : Event → ℕ) (es : List Event) → sum_by (λ e. a e + b e) es ≡ sum_by a es + sum_by b es
sum-both a b [] = refl
sum-both a b (e ∷ es) =
    let both = sum_by-cons (λ (x : Event). a x + b x) e es in
    let left = sum_by-cons a e es in
    let right = sum_by-cons b e es in
    let rest = sum-both a b es in omega (arith, both, left, right, rest)

along-both : (f : Counters → ℕ) (p : Entry → Bool) (q : Event → Bool)
    → ((e : Event) (s : EngineState) → f (after e s).counters ≡ f s.counters + (count_by p (entries_told e) + one (q e)))
    → (es : List Event) (s end : EngineState) → Follows s es end → f end.counters ≡ f s.counters + (count_by p (entries_along es) + count_by q es)
along-both f p q each es s end run =
    let all = counted-along f (λ (e : Event). count_by p (entries_told e) + one (q e)) each es s end run in
    let both = sum-both (λ (e : Event). count_by p (entries_told e)) (λ (e : Event). one (q e)) es in
    let told = entries-sum p es in omega (arith, all, both, told)

-- A stop that is kept stays, and then seats undo alone

some-none : (o : Option Stop) (why : Stop) → o ≡ Some why → o ≡ None → ⊥
some-none o why is none = let clash : true ≡ false = sym (ap is_some is) ∙ ap is_some none in cc

stopped-event : (e : Event) (s : EngineState) (why : Stop) → s.stop ≡ Some why → May e s → (undoes e ≡ true) × ((after e s).stop ≡ s.stop)
stopped-event (Event.Undo seat attempt) s why is may = (refl, refl)
stopped-event (Event.Home seat attempt) s why is may = (refl, refl)
stopped-event (Event.Cut seat attempt steps place) s why is may = absurd (some-none s.stop why is may.0)
stopped-event (Event.Halt reason) s why is may = absurd (some-none s.stop why is may.none)
stopped-event _ s why is may = absurd (some-none s.stop why is may.0.going)

abbrev pub OnlyUndo : List Event → Type 0
OnlyUndo events = All (λ e. undoes e ≡ true) events

then-undoes : (es : List Event) (s end : EngineState) (why : Stop) → s.stop ≡ Some why → Follows s es end → OnlyUndo es × (end.stop ≡ s.stop)
then-undoes [] s end why is run = (All-nil (λ (e : Event). undoes e ≡ true), ap (λ (x : EngineState). x.stop) run)
then-undoes (e ∷ es) s end why is run =
    let first = stopped-event e s why is run.0 in
    let rest = then-undoes es (after e s) end why (first.1 ∙ is) run.1 in
    (All-cons (λ (x : Event). undoes x ≡ true) e es first.0 rest.0, rest.1 ∙ first.1)

-- an event that keeps a stop keeps the one that it names
kept-by : (e : Event) (s : EngineState) → keeps_a_stop e ≡ true → ((why : Stop) × ((after e s).stop ≡ Some why)) × ((after e s).stop ≡ stop_after e None)
kept-by (Event.Refuse seat attempt device) s keeps = ((Stop.DeviceFault device, refl), refl)
kept-by (Event.Cut seat attempt steps place) s keeps = ((Stop.Spent, refl), refl)
kept-by (Event.Tall seat attempt steps place) s keeps = ((Stop.Tall attempt.tried.number, refl), refl)
kept-by (Event.Halt why) s keeps = ((why, refl), refl)
kept-by _ s keeps = absurd (let clash : false ≡ true = keeps in cc)

-- the others keep none
kept-none : (e : Event) (s : EngineState) → keeps_a_stop e ≡ false → (after e s).stop ≡ s.stop
kept-none (Event.Refuse seat attempt device) s keeps = absurd (let clash : true ≡ false = keeps in cc)
kept-none (Event.Cut seat attempt steps place) s keeps = absurd (let clash : true ≡ false = keeps in cc)
kept-none (Event.Tall seat attempt steps place) s keeps = absurd (let clash : true ≡ false = keeps in cc)
kept-none (Event.Halt why) s keeps = absurd (let clash : true ≡ false = keeps in cc)
kept-none _ s keeps = refl

-- After an event that keeps a stop seats undo alone, and the run ends with that stop.
pub record IsFirstStop (e : Event) (rest : List Event) (stop : Option Stop) : Type 0 where
  pub undo : OnlyUndo rest
  pub stays : stop ≡ stop_after e None

follows-split : (es rest : List Event) (s end : EngineState) → Follows s (es ++ rest) end → (mid : EngineState) × Follows s es mid × Follows mid rest end
follows-split [] rest s end run = (s, refl, run)
follows-split (e ∷ es) rest s end run = let more = follows-split es rest (after e s) end run.1 in (more.0, (run.0, more.1), more.2)

stop-first : (before rest : List Event) (e : Event) (s end : EngineState) → Follows s (before ++ e ∷ rest) end → keeps_a_stop e ≡ true → IsFirstStop e rest end.stop
stop-first before rest e s end run keeps =
    let parts = follows-split before (e ∷ rest) s end run in
    let kept = kept-by e parts.0 keeps in
    let later = then-undoes rest (after e parts.0) end kept.0.0 kept.0.1 parts.2.1 in
    record { undo = later.0; stays = later.1 ∙ kept.1 }

-- Devices that fail

none-refused : (es : List Event) → OnlyUndo es → count_by is_refusal es ≡ 0
none-refused [] only = refl
none-refused (e ∷ es) only =
    let sum = sum_by-cons (λ (x : Event). one (is_refusal x)) e es in
    let first = here e (All-head (λ (x : Event). undoes x ≡ true) e es only) in
    let rest = none-refused es (All-tail (λ (x : Event). undoes x ≡ true) e es only) in omega (arith, sum, first, rest)
  where
    here : (x : Event) → undoes x ≡ true → one (is_refusal x) ≡ 0
    here (Event.Undo seat attempt) is = refl
    here (Event.Home seat attempt) is = refl
    here _ is = absurd (let clash : false ≡ true = is in cc)

-- none failed, or one, and that stop is kept
abbrev AreFaults : ℕ → Option Stop → Type 0
AreFaults count stop = (count ≡ 0) ⊎ ((count ≡ 1) × (one_fault stop ≡ 1))

faults-along : (es : List Event) (s end : EngineState) → s.stop ≡ None → Follows s es end → AreFaults (count_by is_refusal es) end.stop
faults-along [] s end going run = inl refl
faults-along (e ∷ es) s end going run = by (keeps_a_stop e) refl (λ still. faults-along es (after e s) end still run.1)
  where
    sum : count_by is_refusal (e ∷ es) ≡ one (is_refusal e) + count_by is_refusal es
    sum = sum_by-cons (λ (x : Event). one (is_refusal x)) e es

    unkept : (x : Event) → keeps_a_stop x ≡ false → one (is_refusal x) ≡ 0
    unkept (Event.Refuse seat attempt device) is = absurd (let clash : true ≡ false = is in cc)
    unkept _ is = refl

    kept : (x : Event) → (one (is_refusal x) ≡ 0) ⊎ ((one (is_refusal x) ≡ 1) × (one_fault (stop_after x None) ≡ 1))
    kept (Event.Refuse seat attempt device) = inr (refl, refl)
    kept _ = inl refl

    by : (b : Bool) → keeps_a_stop e ≡ b → ((after e s).stop ≡ None → AreFaults (count_by is_refusal es) end.stop)
        → AreFaults (count_by is_refusal (e ∷ es)) end.stop
    by false is others =
        let none = unkept e is in
        let rest = others (kept-none e s is ∙ going) in
        let same : count_by is_refusal (e ∷ es) ≡ count_by is_refusal es = omega (arith, sum, none) in
        subst (λ (n : ℕ). AreFaults n end.stop) (sym same) rest
    by true is others =
        let own = kept-by e s is in
        let later = then-undoes es (after e s) end own.0.0 own.0.1 run.1 in
        let none = none-refused es later.0 in
        let stop : end.stop ≡ stop_after e None = later.1 ∙ own.1 in
        settled (kept e) none stop
      where
        settled : (one (is_refusal e) ≡ 0) ⊎ ((one (is_refusal e) ≡ 1) × (one_fault (stop_after e None) ≡ 1)) → count_by is_refusal es ≡ 0 → end.stop ≡ stop_after e None
            → AreFaults (count_by is_refusal (e ∷ es)) end.stop
        settled (inl quiet) none stop = inl (omega (arith, sum, quiet, none))
        settled (inr fails) none stop = inr (omega (arith, sum, fails.0, none), ap one_fault stop ∙ fails.1)

-- only the events of seats keep that stop
abbrev pub OnlySeatsFail : List Event → Type 0
OnlySeatsFail events = All (λ e. halts_for_device e ≡ false) events

faults-exact : (es : List Event) (s end : EngineState) → s.stop ≡ None → Follows s es end → OnlySeatsFail es → count_by is_refusal es ≡ one_fault end.stop
faults-exact [] s end going run only = sym (ap one_fault (ap (λ (x : EngineState). x.stop) run ∙ going))
faults-exact (e ∷ es) s end going run only =
    by (keeps_a_stop e) refl
    (λ still. faults-exact es (after e s) end still run.1 (All-tail (λ (x : Event). halts_for_device x ≡ false) e es only))
  where
    sum : count_by is_refusal (e ∷ es) ≡ one (is_refusal e) + count_by is_refusal es
    sum = sum_by-cons (λ (x : Event). one (is_refusal x)) e es

    unkept : (x : Event) → keeps_a_stop x ≡ false → one (is_refusal x) ≡ 0
    unkept (Event.Refuse seat attempt device) is = absurd (let clash : true ≡ false = is in cc)
    unkept _ is = refl

    kept : (x : Event) → keeps_a_stop x ≡ true → halts_for_device x ≡ false → one (is_refusal x) ≡ one_fault (stop_after x None)
    kept (Event.Refuse seat attempt device) keeps is = refl
    kept (Event.Cut seat attempt steps place) keeps is = refl
    kept (Event.Tall seat attempt steps place) keeps is = refl
    kept (Event.Halt Stop.Finished) keeps is = refl
    kept (Event.Halt Stop.Blocked) keeps is = refl
    kept (Event.Halt Stop.Spent) keeps is = refl
    kept (Event.Halt (Stop.Tall number)) keeps is = refl
    kept (Event.Halt Stop.NoMemory) keeps is = refl
    kept (Event.Halt Stop.WriteFault) keeps is = refl
    kept (Event.Halt (Stop.DeviceFault device)) keeps is = absurd (let clash : true ≡ false = is in cc)
    kept _ keeps is = absurd (let clash : false ≡ true = keeps in cc)

    by : (b : Bool) → keeps_a_stop e ≡ b → ((after e s).stop ≡ None → count_by is_refusal es ≡ one_fault end.stop)
        → count_by is_refusal (e ∷ es) ≡ one_fault end.stop
    by false is others =
        let none = unkept e is in
        let rest = others (kept-none e s is ∙ going) in
        omega (arith, sum, none, rest)
    by true is others =
        let own = kept-by e s is in
        let later = then-undoes es (after e s) end own.0.0 own.0.1 run.1 in
        let none = none-refused es later.0 in
        let here = kept e is (All-head (λ (x : Event). halts_for_device x ≡ false) e es only) in
        let stop : one_fault end.stop ≡ one_fault (stop_after e None) = ap one_fault (later.1 ∙ own.1) in
        omega (arith, sum, none, here, stop)

-- The counts of an end

-- The visits are those of the entries, and one more if a device failed in one, which is the stop then. There are at least as many calls
-- of commit as entries of it, and cells were made as often as the events say.
pub record CountsKinds (events : List Event) (entries : List Entry) (counters : Counters) (stop : Option Stop) : Type 0 where
  pub frees : counters.frees ≡ frees_in entries + count_by is_refusal events
  pub fails : (count_by is_refusal events ≡ 0) ⊎ ((count_by is_refusal events ≡ 1) × (one_fault stop ≡ 1))
  pub exact : OnlySeatsFail events → counters.frees ≡ frees_in entries + one_fault stop
  pub commits : counters.commits ≡ rans_in entries + count_by is_refused_commit events
  pub least : rans_in entries ≤ counters.commits
  pub allocs : counters.allocs ≡ count_by is_alloc events

module _ {V : Type 0} (program : Tree) (signature : Signature) (limits : Limits) (base : List Entry) (value : V → Val) (end : End V)
    (r : IsRanBy program signature limits base value end) where
  start-counts : (s : EngineState) → IsStart program signature limits base s → (s.counters ≡ nothing_counted) × (s.stop ≡ None)
  start-counts s (inl fresh) = (ap (λ (x : EngineState). x.counters) fresh.1, ap (λ (x : EngineState). x.stop) fresh.1)
  start-counts s (inr on) = (ap (λ (x : EngineState). x.counters) on.state, ap (λ (x : EngineState). x.stop) on.state)

  pub kinds-counted : CountsKinds r.events end.entries end.counters end.stop
  kinds-counted =
      let first = start-counts r.start r.starts in
      let frees = along-both (λ (c : Counters). c.frees) (λ (x : Entry). is_free x.kind) is_refusal event-frees r.events r.start r.last r.follows in
      let commits = along-both (λ (c : Counters). c.commits) (λ (x : Entry). is_ran x.kind) is_refused_commit event-commits r.events r.start r.last r.follows in
      let allocs = counted-along (λ (c : Counters). c.allocs) of_allocs event-allocs r.events r.start r.last r.follows in
      let no-frees = ap (λ (c : Counters). c.frees) first.0 in
      let no-commits = ap (λ (c : Counters). c.commits) first.0 in
      let no-allocs = ap (λ (c : Counters). c.allocs) first.0 in
      let its-frees = ap (λ (c : Counters). c.frees) r.ends.counters in
      let its-commits = ap (λ (c : Counters). c.commits) r.ends.counters in
      let its-allocs = ap (λ (c : Counters). c.allocs) r.ends.counters in
      let free : frees_in (entries_along r.events) ≡ frees_in end.entries = ap frees_in r.told in
      let ran : rans_in (entries_along r.events) ≡ rans_in end.entries = ap rans_in r.told in
      let all : end.counters.commits ≡ rans_in end.entries + count_by is_refused_commit r.events = omega (arith, commits, no-commits, its-commits, ran) in
      let visits : end.counters.frees ≡ frees_in end.entries + count_by is_refusal r.events = omega (arith, frees, no-frees, its-frees, free) in
      record {
        frees = visits;
        fails =
            subst (λ (o : Option Stop). AreFaults (count_by is_refusal r.events) o) r.ends.stop
            (faults-along r.events r.start r.last first.1 r.follows);
        exact = λ only.
            let faults = faults-exact r.events r.start r.last first.1 r.follows only in
            let stop : one_fault r.last.stop ≡ one_fault end.stop = ap one_fault r.ends.stop in omega (arith, visits, faults, stop);
        commits = all;
        least = omega (arith, all);
        allocs = omega (arith, allocs, no-allocs, its-allocs);
      }

  pub first-stop-stays : (before rest : List Event) (e : Event) → r.events ≡ before ++ e ∷ rest → keeps_a_stop e ≡ true → IsFirstStop e rest end.stop
  first-stop-stays before rest e is keeps =
      subst (λ (o : Option Stop). IsFirstStop e rest o) r.ends.stop
      (stop-first before rest e r.start r.last (subst (λ (es : List Event). Follows r.start es r.last) is r.follows) keeps)
