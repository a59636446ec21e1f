-- Picks are made again, one after the other.
use Rattle.std.proofs.Common.{◌≡◌, ℕ, ◌⊎◌, inl, inr, ℤ, true, false, List, [], ◌∷◌, ◌++◌, length, Option, Some, None, refl, sym, ap, ◌∙◌, subst, append-nil, append_assoc}
use Rattle.std.specs.Prelude.{IsSome}
use Rattle.std.proofs.lemmas.List.{length-map}
use Rattle.ame_device.specs.declared.told.Told.{Told}
use Rattle.ame_journal.specs.declared.entry.Entry.{Entry}
use Rattle.ame_machine.specs.MachineView.{MachineView}
use Rattle.ame_machine.specs.Meaning.{Meaning}
use Rattle.ame_term.specs.Signature.{Signature}
use Rattle.ame_term.specs.Tree.{Tree}
use Rattle.ame_protocol.specs.declared.stop.Stop.{Stop}
use Rattle.ame_protocol.specs.declared.types.Limits.{Limits}
use Rattle.ame_protocol.specs.Engine.Parts.{task_at, member_of}
use Rattle.ame_protocol.specs.Event.After.{after}
use Rattle.ame_protocol.specs.Event.Event.{Event}
use Rattle.ame_protocol.specs.Event.Runs.{entries_told}
use Rattle.ame_protocol.specs.Event.EngineState.{EngineState, started_state}
use Rattle.ame_protocol.specs.Row.Shown.{shown_cell}
use Rattle.ame_protocol.proofs.Event.RunLemmas.{run-tells}
use Rattle.ame_engine.specs.Core.{Core}
use Rattle.ame_engine.specs.Ending.{End}
use Rattle.ame_engine.specs.Makes.{state_of}
use Rattle.ame_engine.specs.Seen.{parts_of}
use Rattle.ame_shell.specs.declared.work.Outcome.{Outcome}
use Rattle.ame_shell.specs.Outcomes.{IsMade}
use Rattle.ame_shell.specs.Shell.{Opening, ShellView}
use Rattle.ame_shell.specs.Turned.{HasTurned, member_told}
use Rattle.ame_sim.specs.declared.made.Made.{Made}
use Rattle.ame_sim.specs.Crew.{lacking}
use Rattle.ame_sim.specs.Places.{place_told, place_wanted}
use Rattle.ame_sim.specs.Played.{HasPlayed, Plays}
use Rattle.ame_sim.specs.Prepared.{IsPreparedHand}
use Rattle.ame_repeats.specs.Answers.{answer_of, one_answer, answers_in, AreAnsweredAlike, is_fault}
use Rattle.ame_repeats.specs.Played.{IsUnfailed, AreOfOneProgram, AreOfTheSameSeats, EndsAlike}
use Rattle.ame_repeats.proofs.HandLemmas.{hand-one}
use Rattle.ame_repeats.proofs.ClassLemmas.{is_lost}
use Rattle.ame_repeats.proofs.StepLemmas.{answer_made, turn-one, core-kept, kept-outcome}

-- Answers in entries

answers-append : (xs ys : List Entry) → answers_in (xs ++ ys) ≡ answers_in xs ++ answers_in ys
answers-append [] ys = refl
answers-append (x ∷ xs) ys = ap (λ (zs : List ℤ). one_answer x.answer ++ zs) (answers-append xs ys) ∙ sym (append_assoc (one_answer x.answer) (answers_in xs) (answers_in ys))

cancel : (xs ys zs : List ℤ) → xs ++ ys ≡ xs ++ zs → ys ≡ zs
cancel [] ys zs e = e
cancel (x ∷ xs) ys zs e = let rest : xs ++ ys ≡ xs ++ zs = cc in cancel xs ys zs rest

told-answers : (e : Event) → answers_in (entries_told e) ≡ one_answer (answer_of e)
told-answers (Event.Visit seat attempt steps place inside memory) = append-nil (one_answer place.answer)
told-answers (Event.End seat attempt steps place woken) = refl
told-answers (Event.Leave seat attempt steps place woken) = refl
told-answers (Event.Note seat attempt steps place) = refl
told-answers (Event.Cut seat attempt steps place) = refl
told-answers (Event.Tall seat attempt steps place) = refl
told-answers _ = refl

firsts-agree : (r s : Option ℤ) (xs ys : List ℤ) → one_answer r ++ xs ≡ one_answer s ++ ys → (n k : ℤ) → r ≡ Some n → s ≡ Some k → n ≡ k
firsts-agree r s xs ys e n k i j =
    let lists : n ∷ xs ≡ k ∷ ys = sym (ap (λ (o : Option ℤ). one_answer o ++ xs) i) ∙ e ∙ ap (λ (o : Option ℤ). one_answer o ++ ys) j in cc

-- Entries that a turn adds

module _ {C V M : Type 0} (meaning : Meaning C V M) (seat : ℕ) (hand : Option MachineView) (old new : Core C V M) (before told : List Told) where
  pub record Adds (o : Outcome) (made : IsMade meaning seat hand old new before told o) : Type 0 where
    pub more : List Entry
    pub adds : new.entries ≡ old.entries ++ more
    pub answers : answers_in more ≡ one_answer (answer_made meaning seat hand old new before told o made)

  made-adds : (o : Outcome) (made : IsMade meaning seat hand old new before told o) → Adds o made
  made-adds _ (IsMade.makes o e is m) = record {
    more = entries_told e;
    adds = ap (λ (x : EngineState). x.parts.entries) m.state ∙ run-tells (e ∷ []) (state_of meaning old) (after e (state_of meaning old)) (m.may, refl)
        ∙ ap (λ (xs : List Entry). old.entries ++ xs) (append-nil (entries_told e));
    answers = told-answers e;
  }
  made-adds _ (IsMade.waits met is) = record { more = []; adds = ap (λ (x : Core C V M). x.entries) is ∙ sym (append-nil old.entries); answers = refl }
  made-adds _ (IsMade.rests met is) = record { more = []; adds = ap (λ (x : Core C V M). x.entries) is ∙ sym (append-nil old.entries); answers = refl }

module _ {C V M : Type 0} (meaning : Meaning C V M) where
  -- One pick

  pub record IsOnePick (made other : Made) (new next : ShellView C V M) : Type 0 where
    pub same : other ≡ made
    pub leads : state_of meaning new.core ≡ state_of meaning next.core

  made-one : (made other : Made) → other.seat ≡ made.seat → other.member ≡ made.member → other.outcome ≡ made.outcome → other.place ≡ made.place → other ≡ made
  made-one made other seat member outcome place =
      ap (λ x. record other { seat = x }) seat ∙ ap (λ x. record other { seat = made.seat; member = x }) member
      ∙ ap (λ x. let m : Made = record { seat = made.seat; member = made.member; outcome = x; place = other.place } in m) outcome
      ∙ ap (λ x. let m : Made = record { seat = made.seat; member = made.member; outcome = made.outcome; place = x } in m) place

  answers-agree : (seat : ℕ) (hand : Option MachineView) (old new other next : Core C V M) (b1 a1 b2 a2 : List Told) (same : state_of meaning old ≡ state_of meaning other)
      (o p : Outcome) (x : IsMade meaning seat hand old new b1 a1 o) (y : IsMade meaning seat hand other next b2 a2 p) → AreAnsweredAlike new.entries next.entries
      → (n k : ℤ) → answer_made meaning seat hand old new b1 a1 o x ≡ Some n → answer_made meaning seat hand other next b2 a2 p y ≡ Some k → n ≡ k
  answers-agree seat hand old new other next b1 a1 b2 a2 same o p x y alike =
      let here = made-adds meaning seat hand old new b1 a1 o x in
      let there = made-adds meaning seat hand other next b2 a2 p y in
      let r = answer_made meaning seat hand old new b1 a1 o x in
      let s = answer_made meaning seat hand other next b2 a2 p y in
      let entries : other.entries ≡ old.entries = ap (λ (z : EngineState). z.parts.entries) (sym same) in
      let left : answers_in new.entries ++ alike.more ≡ answers_in old.entries ++ (one_answer r ++ alike.more) =
      ap (λ (xs : List Entry). answers_in xs ++ alike.more) here.adds ∙ ap (λ (xs : List ℤ). xs ++ alike.more) (answers-append old.entries here.more)
      ∙ append_assoc (answers_in old.entries) (answers_in here.more) alike.more
      ∙ ap (λ (xs : List ℤ). answers_in old.entries ++ (xs ++ alike.more)) here.answers in
      let right : answers_in next.entries ++ alike.rest ≡ answers_in old.entries ++ (one_answer s ++ alike.rest) =
      ap (λ (xs : List Entry). answers_in xs ++ alike.rest) there.adds ∙ ap (λ (xs : List ℤ). xs ++ alike.rest) (answers-append other.entries there.more)
      ∙ append_assoc (answers_in other.entries) (answers_in there.more) alike.rest
      ∙ ap (λ (xs : List ℤ). answers_in other.entries ++ (xs ++ alike.rest)) there.answers
      ∙ ap (λ (xs : List Entry). answers_in xs ++ (one_answer s ++ alike.rest)) entries in
      firsts-agree r s alike.more alike.rest
      (cancel (answers_in old.entries) (one_answer r ++ alike.more) (one_answer s ++ alike.rest) (sym left ∙ alike.alike ∙ right))

  cells-one : (old other : Core C V M) → state_of meaning old ≡ state_of meaning other → length other.memory.cells ≡ length old.memory.cells
  cells-one old other same =
      sym (length-map other.memory.cells (shown_cell (meaning.value_of other.code))) ∙ ap (λ (x : EngineState). length x.parts.memory.cells) (sym same)
      ∙ length-map old.memory.cells (shown_cell (meaning.value_of old.code))

  -- a machine was prepared, as memory didn't run out
  made-prepared : (made : Made) (old new : ShellView C V M) → old.core.stop ≡ None → (x : HasPlayed meaning made old new) → is_fault new.core.stop ≡ false
      → IsPreparedHand (parts_of meaning old.core) made.seat x.hand
  made-prepared made old new going x fine = elim (x.prepared going) [
    | inl lacked ↦ absurd (let clash : true ≡ false = sym (ap is_lost lacked) ∙ kept-outcome meaning made.seat x.hand old new made.outcome x.turned going fine in cc)
    | inr prepared ↦ prepared
  ]

  pub pick-again : (made again : Made) (old new other next : ShellView C V M) (same : state_of meaning old.core ≡ state_of meaning other.core) (going : old.core.stop ≡ None)
      (x : HasPlayed meaning made old new) (y : HasPlayed meaning again other next) → again.seat ≡ made.seat → is_fault new.core.stop ≡ false → is_fault next.core.stop ≡ false
      → AreAnsweredAlike new.core.entries next.core.entries → IsOnePick made again new next
  pick-again made again old new other next same going x y seat fine well alike =
      let there : other.core.stop ≡ None = ap (λ (z : EngineState). z.stop) (sym same) ∙ going in
      let ready = made-prepared made old new going x fine in
      let prepared = made-prepared again other next there y well in
      let moved : IsPreparedHand (parts_of meaning old.core) made.seat y.hand =
      subst (λ (z : EngineState). IsPreparedHand z.parts made.seat y.hand) (sym same) (subst (λ (z : ℕ). IsPreparedHand (parts_of meaning other.core) z y.hand) seat prepared) in
      let hands : y.hand ≡ x.hand = hand-one (parts_of meaning old.core) made.seat y.hand x.hand moved ready in
      let turned : HasTurned meaning made.seat x.hand other next again.outcome =
      subst (λ (h : Option MachineView). HasTurned meaning made.seat h other next again.outcome) hands
      (subst (λ (z : ℕ). HasTurned meaning z y.hand other next again.outcome) seat y.turned) in
      let t = x.turned in
      let kept = core-kept meaning made.seat x.hand old new made.outcome t going fine in
      let kept' = core-kept meaning made.seat x.hand other next again.outcome turned there well in
      let both : AreAnsweredAlike t.core.entries turned.core.entries = record {
        more = alike.more;
        rest = alike.rest;
        alike = ap (λ (z : Core C V M). answers_in z.entries ++ alike.more) (sym kept) ∙ alike.alike ∙ ap (λ (z : Core C V M). answers_in z.entries ++ alike.rest) kept';
      } in
      let one = turn-one meaning made.seat x.hand old.core t.core other.core turned.core old.ends.told new.ends.told other.ends.told next.ends.told same x.stands going
      made.outcome again.outcome t.done.event turned.done.event
      (kept-outcome meaning made.seat x.hand old new made.outcome t going fine) (kept-outcome meaning made.seat x.hand other next again.outcome turned there well)
      (answers-agree made.seat x.hand old.core t.core other.core turned.core old.ends.told new.ends.told other.ends.told next.ends.told same made.outcome again.outcome
      t.done.event turned.done.event both) in
      let leads : state_of meaning new.core ≡ state_of meaning next.core = ap (state_of meaning) kept ∙ one.leads ∙ sym (ap (state_of meaning) kept') in
      let member : again.member ≡ made.member =
      y.member ∙ ap (λ (z : ℕ). member_told (member_of (task_at other.core.tasks z)) (member_of (task_at next.core.tasks z))) seat
      ∙ ap (λ (z : EngineState). member_told (member_of (task_at z.parts.tasks made.seat)) (member_of (task_at next.core.tasks made.seat))) (sym same)
      ∙ ap (λ (z : EngineState). member_told (member_of (task_at old.core.tasks made.seat)) (member_of (task_at z.parts.tasks made.seat))) (sym leads) ∙ sym x.member in
      let place : again.place ≡ made.place =
      y.place ∙ ap (λ (o : Outcome). place_told o (place_wanted (length other.core.memory.cells) y.hand)) (sym one.outcome)
      ∙ ap (λ (n : ℕ). place_told made.outcome (place_wanted n y.hand)) (cells-one old.core other.core same)
      ∙ ap (λ (h : Option MachineView). place_told made.outcome (place_wanted (length old.core.memory.cells) h)) hands ∙ sym x.place in
      record { same = made-one made again seat member (sym one.outcome) place; leads = leads }

  -- Many picks

  pub fine-first : (mades : List Made) (old new : ShellView C V M) → Plays meaning mades old new → is_fault new.core.stop ≡ false → is_fault old.core.stop ≡ false
  fine-first [] old new is fine = ap (λ (x : ShellView C V M). is_fault x.core.stop) (sym is) ∙ fine
  fine-first (made ∷ mades) old new plays fine = ap is_fault plays.1

  grows : (mades : List Made) (old new : ShellView C V M) → Plays meaning mades old new → is_fault new.core.stop ≡ false
      → (more : List Entry) × (new.core.entries ≡ old.core.entries ++ more)
  grows [] old new is fine = ([], ap (λ (x : ShellView C V M). x.core.entries) is ∙ sym (append-nil old.core.entries))
  grows (made ∷ mades) old new plays fine =
      let mid = plays.0 in
      let x = plays.2 in
      let rest = grows mades mid new plays.3 fine in
      let kept = core-kept meaning made.seat x.hand old mid made.outcome x.turned plays.1 (fine-first mades mid new plays.3 fine) in
      let adds = made-adds meaning made.seat x.hand old.core x.turned.core old.ends.told mid.ends.told made.outcome x.turned.done.event in
      (adds.more ++ rest.0, rest.1 ∙ ap (λ (xs : List Entry). xs ++ rest.0) (ap (λ (z : Core C V M). z.entries) kept ∙ adds.adds) ∙ append_assoc old.core.entries adds.more rest.0)

  -- answers so far are alike
  pub mid-alike : (mades others : List Made) (mid last other end : ShellView C V M) → Plays meaning mades mid last → Plays meaning others other end
      → is_fault last.core.stop ≡ false → is_fault end.core.stop ≡ false → AreAnsweredAlike last.core.entries end.core.entries → AreAnsweredAlike mid.core.entries other.core.entries
  mid-alike mades others mid last other end plays again fine well alike =
      let more = grows mades mid last plays fine in
      let more' = grows others other end again well in record {
        more = answers_in more.0 ++ alike.more;
        rest = answers_in more'.0 ++ alike.rest;
        alike = sym (ap (λ (xs : List Entry). answers_in xs ++ alike.more) more.1 ∙ ap (λ (xs : List ℤ). xs ++ alike.more) (answers-append mid.core.entries more.0)
            ∙ append_assoc (answers_in mid.core.entries) (answers_in more.0) alike.more)
            ∙ alike.alike
            ∙ (ap (λ (xs : List Entry). answers_in xs ++ alike.rest) more'.1 ∙ ap (λ (xs : List ℤ). xs ++ alike.rest) (answers-append other.core.entries more'.0)
            ∙ append_assoc (answers_in other.core.entries) (answers_in more'.0) alike.rest);
      }

  pub record ArePicksOnce (mades others : List Made) (last end : ShellView C V M) : Type 0 where
    pub same : others ≡ mades
    pub leads : state_of meaning last.core ≡ state_of meaning end.core

  pub plays-again : (mades others : List Made) (first last other end : ShellView C V M) (plays : Plays meaning mades first last) (again : Plays meaning others other end)
      → state_of meaning first.core ≡ state_of meaning other.core → AreOfTheSameSeats mades others → is_fault last.core.stop ≡ false → is_fault end.core.stop ≡ false → AreAnsweredAlike last.core.entries end.core.entries
      → ArePicksOnce mades others last end
  plays-again [] [] first last other end plays again same seats fine well alike =
      record { same = refl; leads = ap (λ (x : ShellView C V M). state_of meaning x.core) plays ∙ same ∙ sym (ap (λ (x : ShellView C V M). state_of meaning x.core) again) }
  plays-again [] (o ∷ others) first last other end plays again same seats fine well alike = cc
  plays-again (m ∷ mades) [] first last other end plays again same seats fine well alike = cc
  plays-again (m ∷ mades) (o ∷ others) first last other end plays again same seats fine well alike =
      let seat : o.seat ≡ m.seat = cc in
      let rest : AreOfTheSameSeats mades others = cc in
      let mids = mid-alike mades others plays.0 last again.0 end plays.3 again.3 fine well alike in
      let one = pick-again m o first plays.0 other again.0 same plays.1 plays.2 again.2 seat (fine-first mades plays.0 last plays.3 fine)
      (fine-first others again.0 end again.3 well) mids in
      let others-one = plays-again mades others plays.0 last again.0 end plays.3 again.3 one.leads rest fine well alike in
      record { same = ap (λ (x : Made). x ∷ others) one.same ∙ ap (λ (xs : List Made). m ∷ xs) others-one.same; leads = others-one.leads }

  -- Whole runs

  now-last : (last now : ShellView C V M) → is_fault now.core.stop ≡ false → (now ≡ last) ⊎ ((last.core.stop ≡ None) × (now ≡ lacking last)) → now ≡ last
  now-last last now fine (inl is) = is
  now-last last now fine (inr lacks) =
      let stop : now.core.stop ≡ Some Stop.NoMemory = ap (λ (x : ShellView C V M). x.core.stop) lacks.1 ∙ ap (λ (o : Option Stop). (lacking (record last { core = record last.core { stop = o } })).core.stop) lacks.0 in
      absurd (let clash : true ≡ false = sym (ap is_fault stop) ∙ fine in cc)

  -- Two whole runs start in one state, and are answered alike up to their last picks.
  pub record AreBothRun (first last other end : ShellView C V M) : Type 0 where
    pub starts : state_of meaning first.core ≡ state_of meaning other.core
    pub fine : is_fault last.core.stop ≡ false
    pub well : is_fault end.core.stop ≡ false
    pub stopped : IsSome last.core.stop
    pub halted : IsSome end.core.stop
    pub ends : AreAnsweredAlike last.core.entries end.core.entries

  module _ (opening other : Opening C) (mades others : List Made) (end last : End V) (x : IsUnfailed meaning opening mades end) (y : IsUnfailed meaning other others last)
      (one : AreOfOneProgram meaning opening other) where
    here : x.played.now ≡ x.played.playing.last
    here = now-last x.played.playing.last x.played.now (sym (ap is_fault x.played.stop) ∙ x.fine) x.played.playing.ends

    there : y.played.now ≡ y.played.playing.last
    there = now-last y.played.playing.last y.played.now (sym (ap is_fault y.played.stop) ∙ y.fine) y.played.playing.ends

    pub both-run : AreAnsweredAlike end.entries last.entries → AreBothRun x.played.first x.played.playing.last y.played.first y.played.playing.last
    both-run alike = record {
      starts = x.played.fresh ∙ ap (λ (t : Tree). started_state t (meaning.signature opening.code) opening.limits) (sym one.program)
          ∙ ap (λ (s : Signature). started_state (meaning.program other.code) s opening.limits) (sym one.signature)
          ∙ ap (λ (l : Limits). started_state (meaning.program other.code) (meaning.signature other.code) l) (sym one.limits) ∙ sym y.played.fresh;
      fine = ap (λ (z : ShellView C V M). is_fault z.core.stop) (sym here) ∙ sym (ap is_fault x.played.stop) ∙ x.fine;
      well = ap (λ (z : ShellView C V M). is_fault z.core.stop) (sym there) ∙ sym (ap is_fault y.played.stop) ∙ y.fine;
      stopped = subst (λ (z : ShellView C V M). IsSome z.core.stop) here x.played.stopped;
      halted = subst (λ (z : ShellView C V M). IsSome z.core.stop) there y.played.stopped;
      ends = record {
        more = alike.more;
        rest = alike.rest;
        alike = sym (ap (λ (xs : List Entry). answers_in xs ++ alike.more) (x.played.entries ∙ ap (λ (z : ShellView C V M). z.core.entries) here)) ∙ alike.alike
            ∙ ap (λ (xs : List Entry). answers_in xs ++ alike.rest) (y.played.entries ∙ ap (λ (z : ShellView C V M). z.core.entries) there);
      };
    }

    pub run-again : AreOfTheSameSeats mades others → AreAnsweredAlike end.entries last.entries → (others ≡ mades) × EndsAlike end last
    run-again seats alike =
        let p = x.played in
        let q = y.played in
        let both = both-run alike in
        let all = plays-again mades others p.first p.playing.last q.first q.playing.last p.playing.plays q.playing.plays both.starts seats both.fine both.well
        both.ends in
        let states : state_of meaning q.now.core ≡ state_of meaning p.now.core =
        ap (λ (z : ShellView C V M). state_of meaning z.core) there ∙ sym all.leads ∙ sym (ap (λ (z : ShellView C V M). state_of meaning z.core) here) in (
          all.same,
          record {
            entries = q.entries ∙ ap (λ (z : EngineState). z.parts.entries) states ∙ sym p.entries;
            output = q.output ∙ ap (λ (z : EngineState). z.parts.output) states ∙ sym p.output;
            turns = q.turns ∙ ap (λ (z : EngineState). z.parts.turns) states ∙ sym p.turns;
            stop = q.stop ∙ ap (λ (z : EngineState). z.stop) states ∙ sym p.stop;
          },
        )
