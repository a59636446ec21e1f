-- A `Ran` entry.
use Rattle.std.proofs.Common.{◌≡◌, ◌≢◌, ℕ, zero, suc, ◌+◌, ◌<◌, ◌==◌, ◌||◌, ◌≤◌, ℤ, Bool, true, false, List, [], ◌∷◌, ◌++◌, Option, Some, None, is_none, refl, sym, ap, ◌∙◌, subst, if◌then◌else◌}
use Rattle.std.specs.Option.{option_and_then}
use Rattle.ame_term.specs.Tree.{Tree}
use Rattle.ame_term.specs.Height.{max_height}
use Rattle.ame_term.specs.Frame.{Side, side_told}
use Rattle.ame_term.specs.Context.{Focus, focus}
use Rattle.ame_term.specs.Maps.{at, put, without}
use Rattle.ame_term.specs.State.{State, after, activated, at_unprotected, at_value}
use Rattle.ame_term.specs.declared.semantics.Label.{Label}
use Rattle.ame_journal.proofs.ReplayLemmas.{ran-left_or_ended}
use Rattle.ame_laws.proofs.MapLemmas.{at-without_other, at-without_same}
use Rattle.ame_journal.specs.Replayed.{Replayed, is_inside, has_such, side_at, is_tall, coming_height, entering, staying}
use Rattle.ame_journal.specs.Replay.{replay, replay_kind, replay_entry, replay_ran, left_or_ended, fragment, attempt_on, or_else, steps, locations}
use Rattle.ame_journal.specs.declared.entry.Entry.{Entry}
use Rattle.ame_journal.specs.declared.entry.EntryKind.{EntryKind}
use Rattle.ame_journal.proofs.ReachedLemmas.{IsCalm}
use Rattle.ame_machine.specs.Meaning.{Meaning}
use Rattle.ame_machine.specs.MachineView.{MachineView, starting_at, running_side}
use Rattle.ame_machine.specs.Need.{Need, need_of_focus, need_told}
use Rattle.ame_machine.specs.Sound.{IsSoundStage}
use Rattle.ame_machine.specs.Move.{settled_stage, tells_leave}
use Rattle.ame_machine.specs.declared.wants.Wants.{Wants}
use Rattle.ame_machine.specs.declared.wants.Wants.TheVariants as wants
use Rattle.ame_machine.proofs.NeedLemmas.{comes_as}
use Rattle.ame_laws.specs.Typed.StoreTyping.{StoreTyping, Grows}
use Rattle.ame_laws.proofs.Typed.Preserved.{kept as kept_typed}
use Rattle.ame_check.proofs.FormLemmas.{forms-grow, forms-merged, below-merged}
use Rattle.ame_check.specs.Shows.{HaveForms, AreBelow, TellBelow, ReplayView, Shows, ShowsMembers, StandsForEntries, Adopts}
use Rattle.ame_check.specs.Walk.{active_on, begun_on, steps_on, IsStepping, ComesToTall}
use Rattle.ame_check.specs.Walked.{place_with, IsAtStep}
use Rattle.ame_check.specs.Entries.{BeginsSteps, MeetsTall}
use Rattle.ame_check.specs.Reasons.{entry_side}
use Rattle.ame_check.proofs.EntryLemmas.{behind-journal, stands-as, fragment-calm, no-steps, can-leave, can-end, left-is, ended-is, neither-is, ran-entry, whole-leads}
use Rattle.ame_check.proofs.MadeLemmas.{rest_of, shows-rest, outside-next, shows-store, shows-output, shows-next, shows-ended, shows-back, entering-other, entering-own}
use Rattle.ame_check.specs.declared.stored.Stored.{Stored}

-- the adopting of new members by the machines that are left
abbrev pub AdoptsAll : {C V M : Type 0} → Meaning C V M → C → List (ℕ × M) → ℕ → M → List (ℕ × M) → ℕ → M → Type 0
AdoptsAll meaning code machines next m last number kept = (before : List (ℕ × Tree)) (inside : ℕ → Bool) → meaning.is_machine code m → ShowsMembers meaning code inside machines before
    → ((k : ℕ) → next ≤ k → inside k ≡ false) → Adopts meaning code inside before next (meaning.stage code m) last number kept

-- The place of a machine

not-told : (want : Wants) → (want ≡ wants.Done → ⊥) → (want ≡ wants.Leave → ⊥) → (need_told want ≢ Need.Done) × (need_told want ≢ Need.Leave)
not-told wants.Done a b = absurd (a refl)
not-told wants.Leave a b = absurd (b refl)
not-told _ a b = (λ e. cc, λ e. cc)

neither-stands : (f : Focus) → need_of_focus false f ≢ Need.Done → need_of_focus false f ≢ Need.Leave → (at_unprotected f ≡ false) × (at_value f ≡ false)
neither-stands (Focus.AtValue v) a b = absurd (a refl)
neither-stands (Focus.AtRedex Side.Unprotected redex) a b = absurd (b refl)
neither-stands (Focus.AtRedex Side.Protected (Tree.Unprotected part)) a b = absurd (b refl)
neither-stands (Focus.AtRedex Side.Protected _) a b = (refl, refl)

low-there : (f : Focus) → at_unprotected f ≡ true → coming_height Side.Protected f ≡ 0
low-there (Focus.AtValue v) e = refl
low-there (Focus.AtRedex Side.Unprotected redex) e = refl
low-there (Focus.AtRedex Side.Protected (Tree.Unprotected part)) e = refl
low-there (Focus.AtRedex Side.Protected _) e = cc

-- A protected walk that comes to a tall form is the entry's
pub protected-tall : (r : Replayed) (entry : Entry) (term : Tree) → r.state.active ≡ None → at r.state.members entry.number ≡ Some term
    → BeginsSteps entry.kind (is_inside r entry.number) entry.answer → entry_side entry.kind entry.number r.state ≡ Side.Protected
    → ComesToTall Side.Protected entry.number entry.steps entry.fresh r.state → MeetsTall r entry
protected-tall r entry term idle member begins its_side c = by (at_unprotected (focus term)) refl
  where
    i : ℕ
    i = entry.number

    never : at_unprotected (focus term) ≡ true → (k : ℕ) → steps_on Side.Protected entry.number k c.used None (begun_on Side.Protected entry.number r.state) ≡ Some c.there → ⊥
    never stands zero leads = first c.used leads
      where
        first : (used : List ℕ) → steps_on Side.Protected entry.number zero used None (begun_on Side.Protected entry.number r.state) ≡ Some c.there → ⊥
        first [] e =
            let same : begun_on Side.Protected entry.number r.state ≡ c.there = cc in
            let low : is_tall Side.Protected entry.number (begun_on Side.Protected entry.number r.state) ≡ (0 == max_height + 1) =
            ap (has_such (λ (t : Tree). coming_height Side.Protected (focus t) == max_height + 1)) member ∙ ap (λ (h : ℕ). h == max_height + 1) (low-there (focus term) stands) in
            let clash : false ≡ true = sym low ∙ ap (is_tall Side.Protected entry.number) same ∙ c.tall in
            cc
        first (l ∷ used) e = cc
    never stands (suc k) leads = let clash : None ≡ Some c.there = sym (no-steps r.state entry.number idle term member k c.used stands) ∙ leads in cc

    by : (b : Bool) → at_unprotected (focus term) ≡ b → MeetsTall r entry
    by true stands = absurd (never stands c.made c.leads)
    by false calm =
        let on : side_at entry.number r.state ≡ Side.Protected = ap side_told (stands-as r.state entry.number idle term member ∙ calm) in
        record {
          begins = begins;
          side = on ∙ sym its_side;
          made = c.made;
          below = c.below;
          used = c.used;
          rest = c.rest;
          front = c.front;
          there = c.there;
          leads =
              ap (λ (z : Side). attempt_on z entry.number c.made c.used r.state) on
              ∙ fragment-calm r.state entry.number idle term member c.made c.used calm ∙ c.leads;
          tall = ap (λ (z : Side). is_tall z entry.number c.there) on ∙ c.tall;
        }

module _ {C V M : Type 0} (meaning : Meaning C V M) (code : C) (entries : List Entry) (entry : Entry) (place : ReplayView V M) (r : Replayed)
    (replayed : replay (meaning.program code) entries ≡ Some r) (shows : Shows meaning code place r) (calm : IsCalm r) where
  pub undefined-there : replay_entry r entry ≡ None → replay (meaning.program code) (entries ++ entry ∷ []) ≡ None
  undefined-there e = behind-journal (meaning.program code) entries entry r replayed ∙ e

  module _ (machine : M) (found : Some machine ≡ at place.members entry.number) (term : at r.state.members entry.number ≡ Some (meaning.stage code machine).term) (early : entry.number < r.state.next)
      (below : (most : ℕ) → TellBelow most entries → AreBelow most place.cells) (kind : entry.kind ≡ EntryKind.Ran) (quiet : entry.answer ≡ None) (outside : is_inside r entry.number ≡ false) where
    leads_to : replay_entry r entry ≡ option_and_then (left_or_ended r entry.number) (steps_on Side.Protected entry.number entry.steps entry.fresh None (begun_on Side.Protected entry.number r.state))
    leads_to = ran-entry r entry.number calm.idle entry kind refl quiet outside (meaning.stage code machine).term term

    pub ran-undefined : steps_on Side.Protected entry.number entry.steps entry.fresh None (begun_on Side.Protected entry.number r.state) ≡ None
        → replay (meaning.program code) (entries ++ entry ∷ []) ≡ None
    ran-undefined e = undefined-there (leads_to ∙ ap (option_and_then (left_or_ended r entry.number)) e)

    module _ (overlay : List (ℕ × Stored V)) (m : M) (a : IsAtStep meaning code r.state entry.number entry.fresh place.cells overlay m Side.Protected entry.steps) (used : (meaning.stage code m).fresh ≡ entry.fresh)
        (sound : IsSoundStage (meaning.stage code m)) where
      g : IsStepping (meaning.signature code) a.walking.types r.state entry.number (running_side (meaning.stage code m)) (place_with a.walking.sets (meaning.stage code m)) (meaning.stage code m).steps
      g = a.walking.going

      leads-now : replay_entry r entry ≡ left_or_ended r entry.number g.now
      leads-now =
          leads_to ∙ ap (option_and_then (left_or_ended r entry.number))
          (ap (λ (xs : List ℕ). steps_on Side.Protected entry.number entry.steps xs None (begun_on Side.Protected entry.number r.state)) (sym used)
          ∙ ap (λ (k : ℕ). steps_on Side.Protected entry.number k (meaning.stage code m).fresh None (begun_on Side.Protected entry.number r.state)) (sym a.counted)
          ∙ ap (λ (z : Side). steps_on z entry.number (meaning.stage code m).steps (meaning.stage code m).fresh None (begun_on z entry.number r.state)) (sym a.runs_on)
          ∙ whole-leads (meaning.signature code) r.state entry.number (running_side (meaning.stage code m)) (place_with a.walking.sets (meaning.stage code m)) (meaning.stage code m).steps g)

      now-active : g.now.active ≡ Some entry.number
      now-active = g.active ∙ ap (λ (z : Side). active_on z entry.number) a.runs_on

      outside-stage : (b : Bool) → side_told b ≡ Side.Protected → b ≡ false
      outside-stage true e = absurd (cc)
      outside-stage false e = refl

      pub ran-neither : (want : Wants) → (meaning.stage code m).want ≡ Some want → (want ≡ wants.Done → ⊥) → (want ≡ wants.Leave → ⊥) → replay (meaning.program code) (entries ++ entry ∷ []) ≡ None
      ran-neither want told done left =
          let tells : need_told want ≡ need_of_focus false (focus (meaning.stage code m).term) =
          sound.told want told ∙ ap (λ (b : Bool). need_of_focus b (focus (meaning.stage code m).term)) (outside-stage (meaning.stage code m).inside a.runs_on) in
          let no_such = not-told want done left in
          let stands = neither-stands (focus (meaning.stage code m).term) (λ e. no_such.0 (tells ∙ e)) (λ e. no_such.1 (tells ∙ e)) in
          undefined-there (leads-now ∙ neither-is r entry.number calm.idle g.now (meaning.stage code m).term now-active g.member stands.0 stands.1)

      module _ (machines : List (ℕ × M)) (gone : at machines entry.number ≡ None) (others : (k : ℕ) → (k ≡ entry.number → ⊥) → at machines k ≡ at place.members k)
          (cells : List (ℕ × Stored V)) (merged : (l : ℕ) → at cells l ≡ or_else (at overlay l) (at place.cells l)) (output : List ℤ) (printed : output ≡ place.output ++ (meaning.stage code m).prints)
          (kept : M) (number : ℕ) (last : List (ℕ × M)) (adopts : AdoptsAll meaning code machines place.next m last number kept) where
        later-forms : (types : StoreTyping) → Grows a.walking.types types → HaveForms (meaning.signature code) types cells
        later-forms types grows =
            forms-merged (meaning.signature code) types overlay place.cells cells (forms-grow (meaning.signature code) a.walking.types types overlay grows a.walking.forms_set) (forms-grow (meaning.signature code) a.walking.types types place.cells grows a.walking.forms) merged

        pub ran-ended : (meaning.stage code m).want ≡ Some wants.Done → StandsForEntries meaning code (entries ++ entry ∷ []) (record { cells = cells; members = last; output = output; next = number })
        ran-ended told =
            let i = entry.number in
            let comes = comes_as (meaning.stage code m) Need.Done (sound.told wants.Done told) in
            let u = record g.now { members = without g.now.members entry.number; active = None } in
            let inside = is_inside r in
            let adopted = adopts (rest_of meaning code r i place calm early shows machines gone others inside (λ k apart. refl)) inside a.walking.machine
            (shows-rest meaning code r i place calm early shows machines gone others inside (λ k apart. refl))
            (λ k far. outside-next meaning code r i place calm early shows machines gone others inside (λ k apart. refl) k (subst (λ (n : ℕ). n ≤ k) shows.next far)) in
            let typed = kept_typed (meaning.signature code) a.walking.types g.now Label.End u g.typed
            (can-end r.state i calm.idle g.now (meaning.stage code m).term now-active g.member comes.1) in
            record {
              led = staying r u;
              types = typed.0;
              typed = typed.2;
              forms = later-forms typed.0 typed.1;
              below = below-merged entries entry overlay place.cells cells a.walking.below below merged;
              replayed = behind-journal (meaning.program code) entries entry r replayed ∙ leads-now ∙ ended-is r i calm.idle g.now (meaning.stage code m).term now-active g.member comes.1;
              shows =
                  let later : ReplayView V M = record { cells = cells; members = last; output = output; next = number } in
                  record {
                    store = shows-store meaning code r i place calm early shows machines gone others inside (λ k apart. refl) a.walking.sets (meaning.stage code m) g.now u g.after_run refl refl refl
                        (λ k apart. at-without_other g.now.members i k (λ same. apart (sym same))) overlay a.walking.laid later merged printed kept number last adopted;
                    members = shows-ended meaning code r i place calm early shows machines gone others inside (λ k apart. refl) a.walking.sets (meaning.stage code m) g.now u g.after_run refl refl refl
                        (λ k apart. at-without_other g.now.members i k (λ same. apart (sym same))) overlay a.walking.laid later merged printed kept number last adopted
                        (at-without_same g.now.members i g.orderly.members_rise);
                    output = shows-output meaning code r i place calm early shows machines gone others inside (λ k apart. refl) a.walking.sets (meaning.stage code m) g.now u g.after_run refl refl refl
                        (λ k apart. at-without_other g.now.members i k (λ same. apart (sym same))) overlay a.walking.laid later merged printed kept number last adopted;
                    next = shows-next meaning code r i place calm early shows machines gone others inside (λ k apart. refl) a.walking.sets (meaning.stage code m) g.now u g.after_run refl refl refl
                        (λ k apart. at-without_other g.now.members i k (λ same. apart (sym same))) overlay a.walking.laid later merged printed kept number last adopted;
                  };
            }

        settled-there : (b : Bool) (back : MachineView) → b ≡ true → back ≡ settled_stage (record (meaning.stage code m) { spawns = [] }) → (meaning.stage code m).want ≡ Some wants.Leave
            → back ≡ record (starting_at back.term) { inside = b }
        settled-there b back is e told =
            e ∙ ap (λ (o : Option Wants). record (starting_at (meaning.stage code m).term) { inside = tells_leave o || (meaning.stage code m).inside }) told
            ∙ ap (λ (z : Bool). record (starting_at (meaning.stage code m).term) { inside = z }) (sym is)
            ∙ ap (λ (z : MachineView). record (starting_at z.term) { inside = b }) (sym e)

        pub ran-left : (meaning.stage code m).want ≡ Some wants.Leave → (back : M) → (meaning.is_machine code kept → meaning.is_machine code back) → meaning.stage code back ≡ settled_stage (meaning.stage code kept)
            → (members : List (ℕ × M)) → members ≡ put last entry.number back
            → StandsForEntries meaning code (entries ++ entry ∷ []) (record { cells = cells; members = members; output = output; next = number })
        ran-left told back good settled members put_back =
            let i = entry.number in
            let comes = comes_as (meaning.stage code m) Need.Leave (sound.told wants.Leave told) in
            let u = record g.now { active = None } in
            let inside = is_inside (entering r i u) in
            let flags = λ (k : ℕ) (apart : k ≡ i → ⊥). entering-other r i k u apart in
            let adopted = adopts (rest_of meaning code r i place calm early shows machines gone others inside flags) inside a.walking.machine
            (shows-rest meaning code r i place calm early shows machines gone others inside flags)
            (λ k far. outside-next meaning code r i place calm early shows machines gone others inside flags k (subst (λ (n : ℕ). n ≤ k) shows.next far)) in
            let is : meaning.stage code back ≡ settled_stage (record (meaning.stage code m) { spawns = [] }) = settled ∙ ap settled_stage adopted.stays in
            let typed = kept_typed (meaning.signature code) a.walking.types g.now Label.Leave u g.typed
            (can-leave r.state i calm.idle g.now (meaning.stage code m).term now-active g.member comes.1) in
            record {
              led = entering r i u;
              types = typed.0;
              typed = typed.2;
              forms = later-forms typed.0 typed.1;
              below = below-merged entries entry overlay place.cells cells a.walking.below below merged;
              replayed = behind-journal (meaning.program code) entries entry r replayed ∙ leads-now ∙ left-is r i calm.idle g.now (meaning.stage code m).term now-active g.member comes.1;
              shows =
                  let later : ReplayView V M = record { cells = cells; members = members; output = output; next = number } in
                  record {
                    store = shows-store meaning code r i place calm early shows machines gone others inside flags a.walking.sets (meaning.stage code m) g.now u g.after_run refl refl refl
                        (λ k apart. refl) overlay a.walking.laid later merged printed kept number last adopted;
                    members =
                        subst (λ (ms : List (ℕ × M)). ShowsMembers meaning code inside ms u.members) (sym put_back)
                        (shows-back meaning code r i place calm early shows machines gone others inside flags a.walking.sets (meaning.stage code m) g.now u g.after_run refl refl refl
                        (λ k apart. refl) overlay a.walking.laid later merged printed kept number last adopted back (good adopted.good)
                        (g.member ∙ ap (λ (z : MachineView). Some z.term) (sym is)) (settled-there (inside i) (meaning.stage code back) (entering-own r i u) is told));
                    output = shows-output meaning code r i place calm early shows machines gone others inside flags a.walking.sets (meaning.stage code m) g.now u g.after_run refl refl refl
                        (λ k apart. refl) overlay a.walking.laid later merged printed kept number last adopted;
                    next = shows-next meaning code r i place calm early shows machines gone others inside flags a.walking.sets (meaning.stage code m) g.now u g.after_run refl refl refl
                        (λ k apart. refl) overlay a.walking.laid later merged printed kept number last adopted;
                  };
            }

-- If it is undefined at once

pub no-fragment : (s : State) (i : ℕ) (n : ℕ) (fresh : List ℕ) → s.active ≡ None → at s.members i ≡ None → fragment i n fresh s ≡ None
unfolding after
no-fragment s i n fresh idle none =
    ap (option_and_then (λ (t : State). steps Label.Step i n (locations fresh) t))
    (ap (λ (o : Option ℕ). if is_none o then activated i s else None) idle
    ∙ ap (option_and_then (λ (term : Tree). if at_unprotected (focus term) then None else Some (record s { active = Some i }))) none)

ran-kind : (r : Replayed) (entry : Entry) → entry.kind ≡ EntryKind.Ran → replay_entry r entry ≡ replay_kind EntryKind.Ran r entry.number entry.steps entry.fresh entry.answer
unfolding replay_entry
ran-kind r entry kind = ap (λ (k : EntryKind). replay_kind k r entry.number entry.steps entry.fresh entry.answer) kind

pub ran-answered : (r : Replayed) (entry : Entry) (answer : ℤ) → entry.kind ≡ EntryKind.Ran → entry.answer ≡ Some answer → replay_entry r entry ≡ None
ran-answered r entry answer kind told = ran-kind r entry kind ∙ ap (replay_kind EntryKind.Ran r entry.number entry.steps entry.fresh) told

quiet-or-none : (r : Replayed) (entry : Entry) → ((o : Option ℤ) → o ≡ None → replay_kind EntryKind.Ran r entry.number entry.steps entry.fresh o ≡ None)
    → (o : Option ℤ) → replay_kind EntryKind.Ran r entry.number entry.steps entry.fresh o ≡ None
quiet-or-none r entry quiet None = quiet None refl
quiet-or-none r entry quiet (Some a) = refl

pub ran-inside : (r : Replayed) (entry : Entry) → entry.kind ≡ EntryKind.Ran → is_inside r entry.number ≡ true → replay_entry r entry ≡ None
ran-inside r entry kind inside =
    ran-kind r entry kind
    ∙ quiet-or-none r entry (λ o none. ap (λ (z : Option ℤ). replay_kind EntryKind.Ran r entry.number entry.steps entry.fresh z) none
    ∙ ap (λ (b : Bool). if b then None else replay_ran r entry.number entry.steps entry.fresh) inside) entry.answer

unless-none : (b : Bool) (o : Option Replayed) → o ≡ None → (if b then None else o) ≡ None
unless-none true o none = refl
unless-none false o none = none

pub ran-absent : (r : Replayed) (entry : Entry) → r.state.active ≡ None → entry.kind ≡ EntryKind.Ran → at r.state.members entry.number ≡ None → replay_entry r entry ≡ None
ran-absent r entry idle kind none =
    ran-kind r entry kind
    ∙ quiet-or-none r entry (λ o quiet. ap (λ (z : Option ℤ). replay_kind EntryKind.Ran r entry.number entry.steps entry.fresh z) quiet
    ∙ unless-none (is_inside r entry.number) (replay_ran r entry.number entry.steps entry.fresh)
    (ran-left_or_ended r entry.number entry.steps entry.fresh (ap (has_such (λ (t : Tree). at_unprotected (focus t))) none)
    ∙ ap (option_and_then (left_or_ended r entry.number)) (no-fragment r.state entry.number entry.steps entry.fresh idle none))) entry.answer
