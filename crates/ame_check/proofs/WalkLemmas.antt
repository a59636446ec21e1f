-- A machine on its walk can run, and goes on by steps alone.
use Rattle.std.proofs.Common.{◌≡◌, ◌≢◌, ℕ, ◌+◌, ◌-◌, ◌<◌, ◌≤◌, List, [], ◌∷◌, ◌++◌, zero, suc, map, length, append-nil, Some, None, refl, sym, ap, ◌∙◌, subst, arith}
use Rattle.std.specs.List.{AllByRecursion}
use Rattle.ame_term.specs.Tree.{Tree}
use Rattle.ame_term.specs.Frame.{Side, side_told}
use Rattle.ame_term.specs.Context.{focus}
use Rattle.ame_term.specs.Maps.{at, put}
use Rattle.ame_term.specs.State.{State, at_unprotected}
use Rattle.ame_laws.proofs.MapLemmas.{Each, at-put_same, at-put_other, each-at}
use Rattle.ame_laws.specs.Typed.TypedState.{IsMember}
use Rattle.ame_journal.specs.Replayed.{has_such}
use Rattle.ame_machine.specs.Run.AgreesWith.{with_members}
use Rattle.std.proofs.lemmas.Option.{option_and_then_some}
use Rattle.ame_term.specs.Act.{Act, act_of}
use Rattle.ame_machine.specs.Run.Local.{LocalState, goes}
use Rattle.ame_machine.proofs.Run.RunLemmas.{Acts, step-is}
use Rattle.ame_machine.proofs.Run.TypedLemmas.{goes-empty}
use Rattle.ame_machine.specs.MachineView.{running_side, place_shown}
use Rattle.ame_machine.specs.Meaning.{Meaning}
use Rattle.ame_machine.specs.Move.{AdvancesWithin}
use Rattle.ame_machine.specs.Sound.{CanRun}
use Rattle.ame_term.specs.declared.types.Loc.{Loc}
use Rattle.ame_check.specs.Walk.{steps_on, begun_on}
use Rattle.ame_check.proofs.ListLemmas.{rest-some, rest-none}
use Rattle.ame_check.proofs.EntryLemmas.{left-over}
use Rattle.ame_check.specs.Walked.{place_with, IsWalking, IsAtStep}
use Rattle.ame_check.proofs.GoingLemmas.{going-advanced}
use Rattle.ame_check.proofs.FormLemmas.{forms-grow}
use Rattle.ame_check.specs.declared.stored.Stored.{Stored}

-- new members leave those before them
pub with-below : (members : List (ℕ × Tree)) (next : ℕ) (bodies : List Tree) (k : ℕ) → k < next → at (with_members members next bodies) k ≡ at members k
with-below members next [] k below = refl
with-below members next (body ∷ bodies) k below =
    let later : k < next + 1 = omega arith in
    with-below (put members next body) (next + 1) bodies k later ∙ at-put_other members next k body (λ same. let differs : next ≡ k = same in omega arith)

-- what holds of all members holds of the new ones
spawns-all : (P : Tree → Type 0) (members now : List (ℕ × Tree)) (next : ℕ) (bodies : List Tree) → ((k : ℕ) → next ≤ k → at now k ≡ at (with_members members next bodies) k)
    → Each P now → AllByRecursion P bodies
spawns-all P members now next [] same all = tt
spawns-all P members now next (body ∷ bodies) same all =
    let here : next ≤ next = omega arith in
    let under : next < next + 1 = omega arith in
    let first : at now next ≡ Some body = same next here ∙ with-below (put members next body) (next + 1) bodies next under ∙ at-put_same members next body in
    (each-at P now next body first all, spawns-all P (put members next body) now (next + 1) bodies (λ k above. same k (let far : next + 1 ≤ k = above in omega arith)) all)

-- steps alone make no location
acts-fresh : (p : LocalState) (side : Side) (act : Act) (part : Tree) (q : LocalState) → Acts p side act part q → p.inputs ≡ [] → q.fresh ≡ p.fresh
acts-fresh p _ _ _ _ (Acts.feeds side act v inputs part q is given) empty = absurd (let clash : v ∷ inputs ≡ [] = sym is ∙ empty in cc)
acts-fresh p _ _ _ _ _ empty = refl

fresh-kept : (side : Side) (p : LocalState) (k : ℕ) (q : LocalState) → goes side p k ≡ Some q → p.inputs ≡ [] → q.fresh ≡ p.fresh
fresh-kept side p zero q e empty = let same : p ≡ q = cc in ap (λ (z : LocalState). z.fresh) (sym same)
fresh-kept side p (suc k) q e empty =
    option_and_then_some _ _ _ e (λ r first second.
    let x = step-is side r q second in
    ap (λ (z : LocalState). z.fresh) x.is ∙ acts-fresh r side (act_of x.redex) x.part x.behind x.acts (goes-empty side p r k first empty) ∙ fresh-kept side p k r first empty)

module _ {C V M : Type 0} (meaning : Meaning C V M) (code : C) (s : State) (i : ℕ) (fresh : List ℕ) (cells overlay : List (ℕ × Stored V)) where
  pub can-run : (m : M) → IsWalking meaning code s i fresh cells overlay m → CanRun (meaning.stage code m)
  can-run m w =
      let g = w.going in
      let early : i < s.next = w.early in (
        meaning.signature code,
        w.types,
        record {
          member = each-at (λ t. IsMember (meaning.signature code) w.types t) g.now.members i (meaning.stage code m).term g.member g.typed.typed.members;
          members =
              spawns-all (λ t. IsMember (meaning.signature code) w.types t) s.members g.now.members s.next (meaning.stage code m).spawns
              (λ k above. g.after_run.others k (λ same. let far : s.next ≤ k = above in let one : k ≡ i = same in absurd (omega arith))) g.typed.typed.members;
          standing = λ in_it. sym (ap (has_such (λ (t : Tree). at_unprotected (focus t))) g.member) ∙ g.standing (ap side_told in_it);
        },
      )

  pub walk-advanced : (m o : M) (side : Side) (n fuel : ℕ) → IsAtStep meaning code s i fresh cells overlay m side n → meaning.is_machine code o
      → AdvancesWithin fuel (meaning.stage code m) (meaning.stage code o) → IsAtStep meaning code s i fresh cells overlay o side (meaning.stage code o).steps
  walk-advanced m o side n fuel a good within =
      let w = a.walking in
      let v = within.advances in
      let on : running_side (meaning.stage code o) ≡ running_side (meaning.stage code m) = ap side_told v.inside in
      let gone = going-advanced (meaning.signature code) s i w.sets (meaning.stage code m) (meaning.stage code o) within.made v within.low w.going in
      record {
        walking = record {
          machine = good;
          early = w.early;
          store = w.store;
          sets = w.sets;
          laid = w.laid;
          types = gone.later;
          going = gone.going;
          forms = forms-grow (meaning.signature code) w.types gone.later cells gone.grows w.forms;
          forms_set = forms-grow (meaning.signature code) w.types gone.later overlay gone.grows w.forms_set;
          below = w.below;
          rest = w.rest;
          front = w.front ∙ ap (λ (z : List ℕ). z ++ w.rest) (sym (fresh-kept (running_side (meaning.stage code m)) (place_shown (meaning.stage code m)) within.made (place_shown (meaning.stage code o)) v.run refl));
        };
        runs_on = on ∙ a.runs_on;
        counted = refl;
      }

-- a machine has gone on, and has made at most this number of steps
pub record HasGoneOn {C V M : Type 0} (meaning : Meaning C V M) (code : C) (fresh : List ℕ) (cells first now : List (ℕ × Stored V)) (m o : M) (steps : ℕ) : Type 0 where
  pub goes_on : (s : State) (i : ℕ) (side : Side) (n : ℕ) → IsAtStep meaning code s i fresh cells first m side n → IsAtStep meaning code s i fresh cells now o side (meaning.stage code o).steps
  pub under : (meaning.stage code o).steps ≤ steps

module _ {C V M : Type 0} (meaning : Meaning C V M) (code : C) (fresh : List ℕ) (cells first over : List (ℕ × Stored V)) (m o : M) (steps : ℕ) where
  pub begins : (s : State) (i : ℕ) → IsWalking meaning code s i fresh cells first m → IsAtStep meaning code s i fresh cells first m (running_side (meaning.stage code m)) (meaning.stage code m).steps
  begins s i w = record { walking = w; runs_on = refl; counted = refl }

  module _ (gone : HasGoneOn meaning code fresh cells first over m o steps) where
    pub there : (s : State) (i : ℕ) → IsWalking meaning code s i fresh cells first m
        → IsAtStep meaning code s i fresh cells over o (running_side (meaning.stage code m)) (meaning.stage code o).steps
    there s i w = gone.goes_on s i (running_side (meaning.stage code m)) (meaning.stage code m).steps (begins s i w)

    pub gone-advanced : (t : M) (fuel before : ℕ) → before ≡ (meaning.stage code o).steps → fuel ≡ steps - before → meaning.is_machine code t
        → AdvancesWithin fuel (meaning.stage code o) (meaning.stage code t) → HasGoneOn meaning code fresh cells first over m t steps
    gone-advanced t fuel before count left good within = record {
      goes_on = λ s i side n a. walk-advanced meaning code s i fresh cells over o t side (meaning.stage code o).steps fuel (gone.goes_on s i side n a) good within;
      under =
          let below : (meaning.stage code o).steps ≤ steps = gone.under in
          let made : within.made ≤ fuel = within.within in
          let sum : (meaning.stage code t).steps ≡ (meaning.stage code o).steps + within.made = within.advances.steps in
          omega arith;
    }

    pub whole-there : (s : State) (i : ℕ) (side : Side) (n : ℕ) → (meaning.stage code o).steps ≡ steps → IsAtStep meaning code s i fresh cells first m side n
        → IsAtStep meaning code s i fresh cells over o side steps
    whole-there s i side n count a = subst (IsAtStep meaning code s i fresh cells over o side) count (gone.goes_on s i side n a)

    module _ (later : List (ℕ × Stored V)) (t : M) (takes : (s : State) (i : ℕ) (side : Side) (n : ℕ) → IsAtStep meaning code s i fresh cells over o side n → IsAtStep meaning code s i fresh cells later t side (n + 1))
        (some : (s : State) × (i : ℕ) × IsWalking meaning code s i fresh cells first m) (more : (meaning.stage code o).steps ≡ steps → ⊥) where
      pub one-more : (meaning.stage code t).steps ≡ (meaning.stage code o).steps + 1
      one-more = (takes some.0 some.1 (running_side (meaning.stage code m)) (meaning.stage code o).steps (there some.0 some.1 some.2)).counted

      pub gone-taken : HasGoneOn meaning code fresh cells first later m t steps
      gone-taken = record {
        goes_on = λ s i side n a.
            subst (IsAtStep meaning code s i fresh cells later t side) (sym one-more) (takes s i side (meaning.stage code o).steps (gone.goes_on s i side n a));
        under =
            let below : (meaning.stage code o).steps ≤ steps = gone.under in
            let differs : (meaning.stage code o).steps ≢ steps = more in
            let count = one-more in
            omega arith;
      }

    pub below-there : ((meaning.stage code o).steps ≡ steps → ⊥) → (meaning.stage code o).steps < steps
    below-there more =
        let below : (meaning.stage code o).steps ≤ steps = gone.under in
        let differs : (meaning.stage code o).steps ≢ steps = more in
        omega arith

-- fewer steps are left after one was made
pub fewer-left : (before there after made steps : ℕ) → there ≡ before + made → after ≡ there + 1 → there < steps → steps - after < steps - before
fewer-left before there after made steps a b below = omega arith

-- All locations are used, or not

module _ {C V M : Type 0} (meaning : Meaning C V M) (code : C) (s : State) (i : ℕ) (fresh used : List Loc) (cells overlay : List (ℕ × Stored V)) (m : M) (side : Side) (n : ℕ)
    (told : List ℕ) (as_told : told ≡ map (λ z. z.0) fresh) (as_used : map (λ z. z.0) used ≡ (meaning.stage code m).fresh) (a : IsAtStep meaning code s i told cells overlay m side n) where
  front-used : map (λ z. z.0) fresh ≡ map (λ z. z.0) used ++ a.walking.rest
  front-used = sym as_told ∙ a.walking.front ∙ ap (λ (xs : List ℕ). xs ++ a.walking.rest) (sym as_used)

  pub all-used : length fresh ≤ length used → (meaning.stage code m).fresh ≡ told
  all-used within =
      let none = rest-none fresh used a.walking.rest front-used within in
      sym (append-nil (meaning.stage code m).fresh) ∙ ap (λ (xs : List ℕ). (meaning.stage code m).fresh ++ xs) (sym none) ∙ sym a.walking.front

  pub some-left : length used < length fresh → steps_on side i n told None (begun_on side i s) ≡ None
  some-left below =
      let more = rest-some fresh used a.walking.rest (record { 0 = 0 }) front-used below in
      let g = a.walking.going in
      subst (λ (z : Side). steps_on z i n told None (begun_on z i s) ≡ None) a.runs_on
      (subst (λ (k : ℕ). steps_on (running_side (meaning.stage code m)) i k told None (begun_on (running_side (meaning.stage code m)) i s) ≡ None) a.counted
      (ap (λ (xs : List ℕ). steps_on (running_side (meaning.stage code m)) i (meaning.stage code m).steps xs None (begun_on (running_side (meaning.stage code m)) i s))
      (a.walking.front ∙ ap (λ (xs : List ℕ). (meaning.stage code m).fresh ++ xs) more.1)
      ∙ left-over (meaning.signature code) s i (running_side (meaning.stage code m)) (place_with a.walking.sets (meaning.stage code m)) (meaning.stage code m).steps g _ more.0 None))
