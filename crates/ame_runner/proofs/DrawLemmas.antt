-- A course is drawn, choice by choice.
use Rattle.std.proofs.Common.{◌≡◌, ◌≢◌, ℕ, suc, ◌+◌, ◌<◌, ◌≤◌, ◌++◌, ◌⊎◌, inl, inr, max, true, false, Bool, List, [], ◌∷◌, length, take, Option, Some}
use Rattle.std.proofs.Common.{None, refl, sym, ap, ◌∙◌, subst, arith, append-nil, append_assoc}
use Rattle.std.specs.Prelude.{Result, Ok, Err, IfOk}
use Rattle.std.proofs.lemmas.List.{take_all}
use Rattle.ame_term.specs.Tree.{Tree}
use Rattle.ame_term.specs.declared.semantics.Label.{Label}
use Rattle.ame_device.specs.declared.told.Told.{Told}
use Rattle.ame_gen.specs.Stream.{next as number_after}
use Rattle.ame_journal.specs.declared.entry.Entry.{Entry}
use Rattle.ame_journal.specs.Labels.{fragment_labels}
use Rattle.ame_weak.specs.Bounds.{is_growing_tall}
use Rattle.ame_weak.specs.declared.tries.Try.{Try}
use Rattle.ame_runner.specs.Freeing.{MakesOnly, IsLabelOf, FailsFor}
use Rattle.ame_runner.specs.Play.{PlayView}
use Rattle.ame_runner.specs.Run.{CourseView, IsRunning, CanBeEnded, HasMadeUncounted}
use Rattle.ame_runner.specs.Stop.{MayGoOn, IsFoundInOrder, HasStoppedWeakly, FoundAtRest}
use Rattle.ame_runner.specs.Tall.{tall_note}
use Rattle.ame_runner.specs.Trial.{last_turn}
use Rattle.ame_runner.specs.Drawn.{drawn_by, MakesNextLabel, StepsFree, MayAttempt, PlansFragment, ComesToNothing, NotesTry, GoesOnWhenDrawn, Course}
use Rattle.ame_runner.specs.Drawn.{RestsWith, StopsWhenDrawn, EndsBy, IsDrawn}
use Rattle.ame_runner.specs.Drawing.{HasCountedTurn, RunsOn, HasRunOut, HasActivated, KeepsCourse, HasTried, HasStoppedAt, TakesOrStops, HasDrawn}
use Rattle.ame_runner.specs.Drawing.{HasNotDrawn, HasEndedBy, DrawsOrEnds, DrawsAll, IsReportOf}
use Rattle.ame_runner.specs.declared.stop.WeakStop.{WeakStop}
use Rattle.ame_runner.specs.declared.trial.AttemptEnd.{AttemptEnd}

-- Labels

pub gone-on : (c d : CourseView) (label : Label) (rest : List Label) → c.left ≡ label ∷ rest → HasMadeUncounted label (record c { left = rest }) d → MakesNextLabel c d
gone-on c d label rest first h = record {
  label = label;
  first = first ∙ ap (λ (ls : List Label). label ∷ ls) (sym h.left);
  adds = record { made = h.made; tries = h.tries; aside = h.aside; limit = h.limit };
  above = h.above;
  turns = h.turns;
}

pub has-counted : (c m d : CourseView) (label : Label) → HasMadeUncounted label c m → d ≡ record m { above = max m.above m.play.above; turns = m.turns + 1 } → HasCountedTurn label c d
has-counted c m d label h is = subst (HasCountedTurn label c) (sym is) (record {
  adds = record { made = h.made; tries = h.tries; aside = h.aside; limit = h.limit };
  left = h.left;
  above = ap (λ (n : ℕ). max n m.play.above) h.above;
  turns = ap (λ (n : ℕ). n + 1) h.turns;
})

pub steps-free : (i : ℕ) (c d : CourseView) (label : Label) → IsLabelOf i label → MakesOnly c.above label → HasCountedTurn label c d → GoesOnWhenDrawn i c d
steps-free i c d label own fresh h = GoesOnWhenDrawn.steps (record { label = label; own = own; fresh = fresh; adds = h.adds; left = h.left; above = h.above; turns = h.turns })

-- The active fragment runs to its end

-- what stays along its labels
record IsAlong (c d : CourseView) : Type 0 where
  labels : d.play.labels ++ d.left ≡ c.play.labels ++ c.left
  tries : d.tries ≡ c.tries
  turns : d.turns ≡ c.turns
  limit : d.limit ≡ c.limit

along : (c d : CourseView) → RunsOn c d → IsAlong c d
along c _ RunsOn.none = record { labels = refl; tries = refl; turns = refl; limit = refl }
along c _ (RunsOn.more m d runs g) =
    let x = along c m runs in
    record {
      labels =
          ap (λ (ls : List Label). ls ++ d.left) g.adds.made.labels ∙ append_assoc m.play.labels (g.label ∷ []) d.left
          ∙ ap (λ (ls : List Label). m.play.labels ++ ls) (sym g.first) ∙ x.labels;
      tries = g.adds.tries ∙ x.tries;
      turns = g.turns ∙ x.turns;
      limit = g.adds.limit ∙ x.limit;
    }

module _ (c d : CourseView) (h : HasRunOut c d) where
  pub run-out-keeps : KeepsCourse c d
  run-out-keeps =
      let x = along c d h.runs in
      record { labels = sym (append-nil d.play.labels) ∙ ap (λ (ls : List Label). d.play.labels ++ ls) (sym h.none) ∙ x.labels; tries = x.tries }

  pub run-out-turns : d.turns ≡ c.turns
  run-out-turns = (along c d h.runs).turns

-- nothing was still to be made
pub keeps-still : (c d : CourseView) → c.left ≡ [] → d.play ≡ c.play → d.tries ≡ c.tries → KeepsCourse c d
keeps-still c d none play tries = record {
  labels = ap (λ (p : PlayView). p.labels) play ∙ sym (append-nil c.play.labels) ∙ ap (λ (ls : List Label). c.play.labels ++ ls) (sym none);
  tries = tries;
}

-- Attempts

pub comes-to-nothing : (o : AttemptEnd) → last_turn o ≡ 0 → (o ≡ AttemptEnd.Tall → ⊥) → ComesToNothing o
comes-to-nothing AttemptEnd.Leaves none low = absurd (omega (arith, none))
comes-to-nothing AttemptEnd.Ends none low = absurd (omega (arith, none))
comes-to-nothing AttemptEnd.Fails none low = inl refl
comes-to-nothing AttemptEnd.Tall none low = absurd (low refl)
comes-to-nothing AttemptEnd.Cut none low = inr refl

not-nothing : (label : Label) (rest ls : List Label) → ls ≡ label ∷ rest → ls ≡ [] → ⊥
not-nothing label rest ls some none = let clash : suc (length rest) ≡ 0 = sym (ap length some) ∙ ap length none in omega (arith, clash)

module _ (i : ℕ) (c m d : CourseView) (may : MayAttempt i c) (none : c.left ≡ []) where
  plans : PlansFragment i c m → HasActivated m d → GoesOnWhenDrawn i c d
  plans p (inl rest) = absurd (not-nothing _ _ m.left (ap (λ (v : CourseView). v.left) p.planned) rest.0)
  plans p (inr goes) = GoesOnWhenDrawn.begins m may p goes

  notes : NotesTry i c m → HasActivated m d → GoesOnWhenDrawn i c d
  notes n (inl rest) = GoesOnWhenDrawn.fails may (subst (NotesTry i c) (sym rest.1) n)
  notes n (inr goes) = absurd (not-nothing goes.label d.left m.left goes.first (n.left ∙ none))

  pub takes-tried : HasTried i c m None → HasActivated m d → GoesOnWhenDrawn i c d
  takes-tried (inl p) activated = plans p activated
  takes-tried (inr n) activated = notes n activated

-- a value would be too high
pub stops-tried : (i : ℕ) (c d : CourseView) (entry : Entry) → MayAttempt i c → HasTried i c d (Some entry) → HasStoppedAt i c d (WeakStop.Tall entry)
stops-tried i c d entry may grown = record { stops = inr (may, grown.0); keeps = grown.1 }

pub stops-free : (i : ℕ) (c d : CourseView) (entry : Entry) → is_growing_tall c.play.weak (Some i) ≡ true → entry ≡ tall_note i 0 [] → HasRunOut c d
    → HasStoppedAt i c d (WeakStop.Tall entry)
stops-free i c d entry grows note h = record { stops = inl (record { grows = grows; note = note; counted = run-out-turns c d h }); keeps = run-out-keeps c d h }

-- a device fails
pub stops-fault : (i device : ℕ) (c d : CourseView) (before after : List Told) → FailsFor c.play.weak i device before after → HasRunOut c d
    → HasStoppedAt i c d (WeakStop.DeviceFault device)
stops-fault i device c d before after f h = record {
  stops = record { argument = f.argument; stands = f.stands; counted = run-out-turns c d h };
  keeps = run-out-keeps c d h;
}

-- Choices

pub draws-member : (number later i : ℕ) (c d : CourseView) (stop : Option WeakStop) → later ≡ number_after number
    → c.turns < c.limit → MayGoOn c → i ≡ drawn_by (number_after number) c
    → TakesOrStops i c d stop → DrawsOrEnds number later c d stop
draws-member number later i c d None next turns may is takes = inl (record { number_is = next; turns = turns; may = may; takes = subst (λ (k : ℕ). GoesOnWhenDrawn k c d) is takes })
draws-member number later i c d (Some stop) next turns may is s = λ running. record {
  ends = EndsBy.drawn turns may (subst (λ (k : ℕ). StopsWhenDrawn stop k c d.turns) is s.stops);
  keeps = s.keeps;
}

pub draws-result : {E : Type 0} (number later i : ℕ) (c d : CourseView) (a : Result (Option WeakStop) E) → later ≡ number_after number → c.turns < c.limit
    → MayGoOn c → i ≡ drawn_by (number_after number) c → IfOk a (TakesOrStops i c d) → IfOk a (DrawsOrEnds number later c d)
draws-result number later i c d (Ok stop) next turns may is takes = draws-member number later i c d stop next turns may is takes
draws-result number later i c d (Err e) next turns may is takes = tt

rests : (stop : WeakStop) (c : CourseView) → HasStoppedWeakly stop c → IsFoundInOrder stop c → RestsWith stop c
rests WeakStop.Finished c stopped found = stopped.cause
rests (WeakStop.Blocked certificates) c stopped found = (stopped.cause.some, found)
rests WeakStop.Spent c stopped found = (found, stopped.cause.0)
rests (WeakStop.DeviceFault device) c stopped found = absurd found
rests (WeakStop.Tall entry) c stopped found = absurd found
rests WeakStop.NoMemory c stopped found = absurd found

pub ends-at-rest : (number : ℕ) (c : CourseView) (stop : WeakStop) → c.left ≡ [] → FoundAtRest c (Some stop) → IsRunning c → HasEndedBy number c c stop
ends-at-rest number c stop none found running =
    let f = found running in
    record { ends = EndsBy.rests none (rests stop c f.0 f.1) refl; keeps = keeps-still c c none refl refl }

-- Courses

module _ (program : Tree) (limit seed : ℕ) where
  out-spent : (c d : CourseView) → RunsOn c d → c.limit ≤ c.turns → d.limit ≤ d.turns
  out-spent c d runs spent = let x = along c d runs in let turns = x.turns in let same = x.limit in omega (arith, spent, turns, same)

  course-out : (number : ℕ) (c d : CourseView) → RunsOn c d → c.limit ≤ c.turns → Course program limit seed number c → Course program limit seed number d
  course-out number c _ RunsOn.none spent course = course
  course-out number c _ (RunsOn.more m d runs g) spent course =
      Course.runs_out number m d (course-out number c m runs spent course) (out-spent c m runs spent) g

  pub course-on : (number later : ℕ) (c d : CourseView) → Course program limit seed number c
      → DrawsOrEnds number later c d None → Course program limit seed later d
  course-on number later c d course (inl h) =
      subst (λ (n : ℕ). Course program limit seed n d) (sym h.number_is) (Course.draws number c d course h.turns h.may h.takes)
  course-on number later c d course (inr h) =
      subst (λ (n : ℕ). Course program limit seed n d) (sym h.same) (course-out number c d h.out.runs h.spent course)

-- a choice with what it came to
pub draws-as : (number later : ℕ) (c d : CourseView) (stop told : Option WeakStop) → stop ≡ told
    → DrawsOrEnds number later c d stop → DrawsOrEnds number later c d told
draws-as number later c d stop told is h = subst (DrawsOrEnds number later c d) is h

pub ends-drawn : (number : ℕ) (c d : CourseView) (stop : WeakStop) (program : Tree) (limit seed : ℕ)
    → Course program limit seed number c → HasEndedBy number c d stop
    → IsDrawn program limit seed d.play.labels d.tries d.turns stop
ends-drawn number c d stop program limit seed course h = record {
  number = number;
  course = c;
  leads = course;
  ends = h.ends;
  labels_are = h.keeps.labels;
  tries_are = h.keeps.tries;
}

-- Reports

pub drawn-report : (program : Tree) (limit seed : ℕ) (r : CourseView) (why : WeakStop) (labels : List Label) (tries : List Try) (turns : ℕ) (stop : WeakStop)
    → CanBeEnded r
    → HasStoppedWeakly why r → (stop ≡ WeakStop.NoMemory) ⊎ IsReportOf r why labels tries turns stop → stop ≢ WeakStop.NoMemory
    → IsDrawn program limit seed r.play.labels r.tries r.turns why → IsDrawn program limit seed labels tries turns stop
drawn-report program limit seed r why labels tries turns stop x stopped (inl lacking) able drawn = absurd (able lacking)
drawn-report program limit seed r why labels tries turns stop x stopped (inr told) able drawn =
    subst (λ (w : WeakStop). IsDrawn program limit seed labels tries turns w) (sym told.stop_is)
    (subst (λ (n : ℕ). IsDrawn program limit seed labels tries n why) (sym told.turns_are)
    (subst (λ (ts : List Try). IsDrawn program limit seed labels ts r.turns why) (sym told.tries_are)
    (subst (λ (ls : List Label). IsDrawn program limit seed ls r.tries r.turns why) (sym (told.labels_are ∙ all-settled)) drawn)))
  where
    all-settled : take r.play.settled r.play.labels ≡ r.play.labels
    all-settled = let here = x.played.here stopped.idle in take_all r.play.settled r.play.labels (omega (arith, here))
