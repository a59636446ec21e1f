-- A walk at what its machine wants.
use Rattle.std.proofs.Common.{All, ◌≡◌, ◌≢◌, ℕ, ◌+◌, ◌<◌, ◌⊎◌, inl, inr, ℤ, Bool, true, false, List, [], ◌∷◌, ◌++◌, Option, Some, None, refl, sym, ap, ◌∙◌, subst, arith, append_assoc, append-nil, ◌==◌, is_some}
use Rattle.std.specs.Option.{option_and_then}
use Rattle.ame_term.specs.Tree.{Val, Tree}
use Rattle.ame_term.specs.Frame.{Side, side_told}
use Rattle.ame_term.specs.Context.{Focus, focus}
use Rattle.ame_term.specs.Act.{Act}
use Rattle.ame_term.specs.declared.types.Effect.{Effect}
use Rattle.ame_laws.specs.Typed.Fragment.{effect_at}
use Rattle.ame_laws.specs.Typed.TypedAct.{IsTypedAct}
use Rattle.ame_laws.specs.Typed.TypedState.{IsMember}
use Rattle.ame_laws.proofs.MapLemmas.{each-at}
use Rattle.ame_term.specs.Height.{max_height}
use Rattle.ame_journal.specs.Replayed.{has_such, coming_height, is_tall}
use Rattle.ame_machine.proofs.LowLemmas.{tall-is}
use Rattle.std.proofs.lemmas.Bool.{eq-eqb}
use Rattle.ame_term.specs.Maps.{at, put}
use Rattle.ame_term.specs.State.{State}
use Rattle.ame_term.specs.declared.types.Loc.{Loc}
use Rattle.ame_term.specs.declared.types.Sort.{Sort}
use Rattle.ame_term.specs.declared.types.TyNo.{TyNo}
use Rattle.ame_journal.specs.Replay.{or_else, member_act, redex_act}
use Rattle.ame_machine.specs.Run.Local.{LocalState}
use Rattle.ame_machine.specs.MachineView.{MachineView, running_side}
use Rattle.ame_machine.specs.Meaning.{Meaning}
use Rattle.ame_machine.specs.RefSorts.{IsRefForm}
use Rattle.ame_machine.specs.Comes.{Comes, HasNextAct}
use Rattle.ame_machine.specs.Need.{need_told}
use Rattle.ame_machine.specs.Sound.{IsSoundStage}
use Rattle.ame_machine.specs.Move.{after_input}
use Rattle.ame_machine.specs.Input.{value_to_set, value_set}
use Rattle.ame_machine.specs.declared.wants.Wants.{Wants}
use Rattle.ame_machine.specs.declared.wants.Wants.TheVariants as wants
use Rattle.ame_machine.proofs.NeedLemmas.{comes_as}
use Rattle.ame_laws.specs.Typed.StoreTyping.{StoreTyping}
use Rattle.ame_check.specs.Shows.{ShowsCells, HaveForms, AreBelow}
use Rattle.ame_check.specs.Walk.{IsNoWalk, ComesToTall, StaysLow, steps_on, begun_on}
use Rattle.ame_check.specs.Walked.{place_with, Looks, Allocates, IsWalking, IsAtStep}
use Rattle.ame_check.proofs.FedLemmas.{IsFedOn, fed-read, fed-peek, fed-write, fed-alloc, fed-spawn, fed-print, shows-put, shown-some, shown-none}
use Rattle.ame_check.proofs.TallLemmas.{low-more}
use Rattle.ame_check.proofs.NoteLemmas.{height-is, untall}
use Rattle.ame_check.proofs.FormLemmas.{member-act, form-found, forms-grow, forms-put, below-found, below-put, all-behind}
use Rattle.ame_check.proofs.HaltLemmas.{HaltsBy, halts-no_walk, halts-absent, halts-by_out, halts-by_taken, halts-value, halts-unprotected, halts-failing, halts-closing, halts-device}
use Rattle.ame_check.specs.declared.stored.Stored.{Stored}

-- wants at which no step is made with what a walk can give
abbrev pub ends_walk : Wants → Bool
ends_walk wants.Block = true
ends_walk wants.Done = true
ends_walk wants.Leave = true
ends_walk wants.Close = true
ends_walk (wants.Device device argument) = true
ends_walk wants.OutOfFuel = true
ends_walk _ = false

pub ends-other : (want : Wants) → ((l : Loc) → want ≡ wants.Read l → ⊥) → ((l : Loc) → want ≡ wants.Write l → ⊥) → ((sort : Sort) (number : TyNo) → want ≡ wants.Alloc sort number → ⊥)
    → ((l : Loc) → want ≡ wants.Peek l → ⊥) → (want ≡ wants.Spawn → ⊥) → ((n : ℤ) → want ≡ wants.Print n → ⊥) → (want ≡ wants.Tall → ⊥) → ends_walk want ≡ true
ends-other (wants.Read l) a b c d e f g = absurd (a l refl)
ends-other (wants.Write l) a b c d e f g = absurd (b l refl)
ends-other (wants.Alloc sort number) a b c d e f g = absurd (c sort number refl)
ends-other (wants.Peek l) a b c d e f g = absurd (d l refl)
ends-other wants.Spawn a b c d e f g = absurd (e refl)
ends-other (wants.Print n) a b c d e f g = absurd (f n refl)
ends-other wants.Tall a b c d e f g = absurd (g refl)
ends-other _ a b c d e f g = refl

module _ {C V M : Type 0} (meaning : Meaning C V M) (code : C) (sound : (m : M) → meaning.is_machine code m → IsSoundStage (meaning.stage code m))
    (s : State) (i : ℕ) (fresh : List ℕ) (cells overlay : List (ℕ × Stored V)) (m : M) (side : Side) (n : ℕ) (a : IsAtStep meaning code s i fresh cells overlay m side n) where
  abbrev pub w : IsWalking meaning code s i fresh cells overlay m
  w = a.walking

  -- the act that comes if a want is known
  pub coming : (want : Wants) → (meaning.stage code m).want ≡ Some want → Comes (meaning.stage code m) (need_told want)
  coming want told = comes_as (meaning.stage code m) (need_told want) ((sound m w.machine).told want told)

  -- if it wants anything else it isn't at a form that would become a value that is too high
  pub low-at : (want : Wants) → (meaning.stage code m).want ≡ Some want → (want ≡ wants.Tall → ⊥) → is_tall (running_side (meaning.stage code m)) i w.going.now ≡ true → ⊥
  low-at want told other tall =
      let low : is_tall (running_side (meaning.stage code m)) i w.going.now ≡ false =
      ap (has_such (λ (term : Tree). coming_height (running_side (meaning.stage code m)) (focus term) == max_height + 1)) w.going.member
      ∙ height-is (meaning.stage code m) (sound m w.machine) want told ∙ untall want other in
      let clash : true ≡ false = sym tall ∙ low in
      cc

  -- a walk that can't go on here
  stopped : (want : Wants) → (meaning.stage code m).want ≡ Some want → (want ≡ wants.Tall → ⊥) → HaltsBy (running_side (meaning.stage code m)) i w.going.now w.rest
      → (total : ℕ) → n < total → IsNoWalk side i total fresh s
  stopped want told other halts total below =
      let count : (meaning.stage code m).steps ≡ n = a.counted in
      let under : (meaning.stage code m).steps < total = omega arith in
      subst (λ (z : Side). IsNoWalk z i total fresh s) a.runs_on
      (halts-no_walk (meaning.signature code) s i (running_side (meaning.stage code m)) (place_with w.sets (meaning.stage code m)) (meaning.stage code m).steps w.going fresh w.rest w.front
      (low-at want told other) halts total under)

  -- the walk after a step
  next : (P : StoreTyping → Type 0) (later : List (ℕ × Val)) (laid_later : List (ℕ × Stored V)) (o : M) (plain : Tree × LocalState)
      → (f : IsFedOn (meaning.signature code) s i w.types P later (meaning.stage code m) (meaning.stage code o) plain)
      → meaning.is_machine code o → ShowsCells meaning code laid_later later → HaveForms (meaning.signature code) f.later laid_later
      → ((most : ℕ) → All (λ l. l < most) fresh → AreBelow most cells → AreBelow most laid_later)
      → (rest : List ℕ) → fresh ≡ plain.1.fresh ++ rest → IsAtStep meaning code s i fresh cells laid_later o side (n + 1)
  next P later laid_later o plain f good laid forms below rest front = record {
    walking = record {
      machine = good;
      early = w.early;
      store = w.store;
      sets = later;
      laid = laid;
      types = f.later;
      going = f.going;
      forms = forms-grow (meaning.signature code) w.types f.later cells f.grows w.forms;
      forms_set = forms;
      below = below;
      rest = rest;
      front = front ∙ ap (λ (z : MachineView). z.fresh ++ rest) f.is;
    };
    runs_on = ap running_side (sym f.is) ∙ a.runs_on;
    counted = ap (λ (z : MachineView). z.steps) (sym f.is) ∙ ap (λ (k : ℕ). k + 1) a.counted;
  }

  -- the same where nothing is set
  unset : (P : StoreTyping → Type 0) (o : M) (plain : Tree × LocalState) → IsFedOn (meaning.signature code) s i w.types P w.sets (meaning.stage code m) (meaning.stage code o) plain
      → meaning.is_machine code o → fresh ≡ plain.1.fresh ++ w.rest → IsAtStep meaning code s i fresh cells overlay o side (n + 1)
  unset P o plain f good front = next P w.sets overlay o plain f good w.laid (forms-grow (meaning.signature code) w.types f.later overlay f.grows w.forms_set) w.below w.rest front

  -- A value that is taken

  at_want : (o : M) (want : Wants) (v : Val) → (meaning.stage code m).want ≡ Some want → after_input (meaning.stage code m).want v (meaning.stage code m) ≡ Some (meaning.stage code o)
      → after_input (Some want) v (meaning.stage code m) ≡ Some (meaning.stage code o)
  at_want o want v told e = ap (λ (z : Option Wants). after_input z v (meaning.stage code m)) (sym told) ∙ e

  pub look-taken : (l : Loc) (v : Stored V) (shown : Val) (o : M) → Looks l (meaning.stage code m).want → Some v ≡ or_else (at overlay l.0) (at cells l.0) → meaning.value_of code v.value ≡ shown
      → meaning.is_machine code o → after_input (meaning.stage code m).want shown (meaning.stage code m) ≡ Some (meaning.stage code o) → IsAtStep meaning code s i fresh cells overlay o side (n + 1)
  look-taken l v shown o (inl told) is same good e =
      let has = (shown-some meaning code (at overlay l.0) (at cells l.0) (at w.sets l.0) (at s.store l.0) v (w.laid l.0) (w.store l.0) is).1 ∙ ap (λ (z : Val). Some z) same in
      unset _ o _ (fed-read (meaning.signature code) s i w.sets (meaning.stage code m) (meaning.stage code o) w.going (low-at (wants.Read l) told (λ e. cc)) l.0 shown (coming (wants.Read l) told) (at_want o (wants.Read l) shown told e) has)
      good w.front
  look-taken l v shown o (inr told) is same good e =
      let has = (shown-some meaning code (at overlay l.0) (at cells l.0) (at w.sets l.0) (at s.store l.0) v (w.laid l.0) (w.store l.0) is).1 ∙ ap (λ (z : Val). Some z) same in
      let comes = coming (wants.Peek l) told in
      unset _ o _ (fed-peek (meaning.signature code) s i w.sets (meaning.stage code m) (meaning.stage code o) w.going (low-at (wants.Peek l) told (λ e. cc)) l.0 shown comes.0 comes.1 (at_want o (wants.Peek l) shown told e) has)
      good w.front

  -- what the state has at a location where nothing was set and nothing is
  pub nothing_there : (l : ℕ) → None ≡ or_else (at overlay l) (at cells l) → (at w.sets l ≡ None) × (at s.store l ≡ None) × (at w.going.now.store l ≡ None)
  nothing_there l is =
      let none = shown-none meaning code (at overlay l) (at cells l) (at w.sets l) (at s.store l) (w.laid l) (w.store l) is in
      (none.0, none.1, w.going.after_run.stored l ∙ ap (λ (o : Option Val). or_else o (at s.store l)) none.0 ∙ none.1)

  absent : (l : ℕ) (act : Act) → HasNextAct (meaning.stage code m) act → (act ≡ Act.Reads l) ⊎ (act ≡ Act.Peeks l) → None ≡ or_else (at overlay l) (at cells l)
      → HaltsBy (running_side (meaning.stage code m)) i w.going.now w.rest
  absent l act there reads is used more e =
      halts-absent (running_side (meaning.stage code m)) i w.going.now (meaning.stage code m).term w.going.member w.going.active used l there.0 there.1
      (subst (λ (z : Act). (z ≡ Act.Reads l) ⊎ (z ≡ Act.Peeks l)) (sym there.2) reads) (nothing_there l is).2

  pub look-stopped : (l : Loc) → Looks l (meaning.stage code m).want → None ≡ or_else (at overlay l.0) (at cells l.0) → (total : ℕ) → n < total → IsNoWalk side i total fresh s
  look-stopped l (inl told) is = stopped (wants.Read l) told (λ e. cc) (absent l.0 (Act.Reads l.0) (coming (wants.Read l) told) (inl refl) is)
  look-stopped l (inr told) is = stopped (wants.Peek l) told (λ e. cc) (absent l.0 (Act.Peeks l.0) (coming (wants.Peek l) told).1 (inr refl) is)

  -- A value that is set

  -- where nothing is there, nothing is written
  pub write-absent : (l : Loc) → (meaning.stage code m).want ≡ Some (wants.Write l) → None ≡ or_else (at overlay l.0) (at cells l.0) → ⊥
  write-absent l told none =
      let comes = coming (wants.Write l) told in
      let member = each-at (λ t. IsMember (meaning.signature code) w.types t) w.going.now.members i (meaning.stage code m).term w.going.member w.going.typed.typed.members in
      let act = member-act (meaning.signature code) w.types (meaning.stage code m).term comes.1.0 (running_side (meaning.stage code m)) comes.1.1 member in
      let its : IsTypedAct (meaning.signature code) w.types (effect_at (running_side (meaning.stage code m)) Effect.Protected) act.0 (Act.Writes l.0 comes.0) =
      subst (IsTypedAct (meaning.signature code) w.types (effect_at (running_side (meaning.stage code m)) Effect.Protected) act.0) comes.1.2 act.1 in
      let there : is_some (at w.going.now.store l.0) ≡ true = w.going.typed.located l.0 (its.0, its.1) its.2 in
      let clash : false ≡ true = sym (ap is_some (nothing_there l.0 none).2) ∙ there in
      cc

  pub write-taken : (l : Loc) (at_place : Stored V) (v c : V) (o : M) → (meaning.stage code m).want ≡ Some (wants.Write l) → Some at_place ≡ or_else (at overlay l.0) (at cells l.0)
      → value_to_set (meaning.stage code m) ≡ Some (meaning.value_of code v)
      → meaning.is_value code c → meaning.value_of code v ≡ meaning.value_of code c → meaning.is_machine code o
      → after_input (meaning.stage code m).want Val.Unit (meaning.stage code m) ≡ Some (meaning.stage code o) → (laid_later : List (ℕ × Stored V)) → laid_later ≡ put overlay l.0 (record at_place { value = c })
      → IsAtStep meaning code s i fresh cells laid_later o side (n + 1)
  write-taken l at_place v c o told is_there lent good_value same good e laid_later is =
      let comes = coming (wants.Write l) told in
      let lends = set-of (Act.Writes l.0 comes.0) comes.1 ∙ refl in
      let one : comes.0 ≡ meaning.value_of code v = (let both : ◌≡◌ {A = Option Val} (Some comes.0) (Some (meaning.value_of code v)) = sym lends ∙ lent in cc) in
      let f = fed-write (meaning.signature code) s i w.sets (meaning.stage code m) (meaning.stage code o) w.going (low-at (wants.Write l) told (λ e. cc)) l.0 comes.0 comes.1 (at_want o (wants.Write l) Val.Unit told e) in
      let cell = record at_place { value = c } in
      let made = (shown-some meaning code (at overlay l.0) (at cells l.0) (at w.sets l.0) (at s.store l.0) at_place (w.laid l.0) (w.store l.0) is_there).0.1 in
      let has = form-found (meaning.signature code) w.types overlay cells l.0 at_place w.forms_set w.forms is_there in
      next _ (put w.sets l.0 comes.0) laid_later o _ f
      good (subst (λ (z : List (ℕ × Stored V)). ShowsCells meaning code z (put w.sets l.0 comes.0)) (sym is) (shows-put meaning code overlay w.sets l.0 cell comes.0 w.laid (good_value, made) (sym same ∙ sym one)))
      (subst (λ (z : List (ℕ × Stored V)). HaveForms (meaning.signature code) f.later z) (sym is)
      (forms-put (meaning.signature code) f.later overlay l.0 cell (has.0, f.grows l.0 (at_place.sort, has.0) has.1, has.2) (forms-grow (meaning.signature code) w.types f.later overlay f.grows w.forms_set)))
      (λ most told under. subst (λ (z : List (ℕ × Stored V)). AreBelow most z) (sym is)
      (below-put most overlay l.0 cell (below-found most overlay cells l.0 at_place (w.below most told under) under is_there) (w.below most told under))) w.rest w.front
    where
      set-of : (act : Act) → HasNextAct (meaning.stage code m) act → value_to_set (meaning.stage code m) ≡ value_set (Some act)
      set-of act there = ap (λ (f : Focus). value_set (redex_act f)) there.1 ∙ ap (λ (z : Act). value_set (Some z)) there.2

  -- A new location

  act-there : (act : Act) → HasNextAct (meaning.stage code m) act → member_act i w.going.now ≡ Some act
  act-there act there =
      ap (option_and_then (λ (z : Tree). redex_act (focus z))) w.going.member ∙ ap redex_act there.1 ∙ ap (λ (z : Act). Some z) there.2

  pub allocate-out : Allocates (meaning.stage code m).want → w.rest ≡ [] → (total : ℕ) → n < total → IsNoWalk side i total fresh s
  allocate-out (sort, number, told) none =
      let comes = coming (wants.Alloc sort number) told in
      stopped (wants.Alloc sort number) told (λ e. cc) (subst (λ (z : List ℕ). HaltsBy (running_side (meaning.stage code m)) i w.going.now z) (sym none)
      (halts-by_out (running_side (meaning.stage code m)) i w.going.now sort number comes.0 (act-there (Act.Allocates sort number comes.0) comes.1)))

  pub allocate-taken_place : (l : ℕ) (more : List ℕ) (v : Stored V) → Allocates (meaning.stage code m).want → w.rest ≡ l ∷ more → Some v ≡ or_else (at overlay l) (at cells l)
      → (total : ℕ) → n < total → IsNoWalk side i total fresh s
  allocate-taken_place l more v (sort, number, told) front is =
      let comes = coming (wants.Alloc sort number) told in
      let has = (shown-some meaning code (at overlay l) (at cells l) (at w.sets l) (at s.store l) v (w.laid l) (w.store l) is).1 in
      stopped (wants.Alloc sort number) told (λ e. cc) (subst (λ (z : List ℕ). HaltsBy (running_side (meaning.stage code m)) i w.going.now z) (sym front)
      (halts-by_taken (running_side (meaning.stage code m)) i w.going.now sort number comes.0 (meaning.value_of code v.value) l more w.going.active (act-there (Act.Allocates sort number comes.0) comes.1)
      (w.going.after_run.stored l ∙ has)))

  pub allocate-made : (sort : Sort) (number : TyNo) (l : Loc) (more : List ℕ) (v c : V) (o : M) → (meaning.stage code m).want ≡ Some (wants.Alloc sort number) → w.rest ≡ l.0 ∷ more → None ≡ or_else (at overlay l.0) (at cells l.0)
      → value_to_set (meaning.stage code m) ≡ Some (meaning.value_of code v) → meaning.is_value code c → IsRefForm (meaning.program code) sort number.0 → meaning.value_of code v ≡ meaning.value_of code c → meaning.is_machine code o
      → after_input (meaning.stage code m).want (Val.Loc l.0) (meaning.stage code m) ≡ Some (meaning.stage code o) → (laid_later : List (ℕ × Stored V)) → laid_later ≡ put overlay l.0 (record { sort = sort; number = number; value = c })
      → IsAtStep meaning code s i fresh cells laid_later o side (n + 1)
  allocate-made sort number l more v c o told front none lent good_value form same good e laid_later is =
      let comes = coming (wants.Alloc sort number) told in
      let lends = set-of (Act.Allocates sort number comes.0) comes.1 ∙ refl in
      let one : comes.0 ≡ meaning.value_of code v = (let both : ◌≡◌ {A = Option Val} (Some comes.0) (Some (meaning.value_of code v)) = sym lends ∙ lent in cc) in
      let free = nothing_there l.0 none in
      let f = fed-alloc (meaning.signature code) s i w.sets (meaning.stage code m) (meaning.stage code o) w.going (low-at (wants.Alloc sort number) told (λ e. cc)) sort number l.0 comes.0 comes.1 (at_want o (wants.Alloc sort number) (Val.Loc l.0) told e) free.0 free.1 in
      let cell : Stored V = record { sort = sort; number = number; value = c } in
      next _ (put w.sets l.0 comes.0) laid_later o _ f
      good (subst (λ (z : List (ℕ × Stored V)). ShowsCells meaning code z (put w.sets l.0 comes.0)) (sym is) (shows-put meaning code overlay w.sets l.0 cell comes.0 w.laid (good_value, form) (sym same ∙ sym one)))
      (subst (λ (z : List (ℕ × Stored V)). HaveForms (meaning.signature code) f.later z) (sym is)
      (forms-put (meaning.signature code) f.later overlay l.0 cell f.has (forms-grow (meaning.signature code) w.types f.later overlay f.grows w.forms_set)))
      (λ most told under. subst (λ (z : List (ℕ × Stored V)). AreBelow most z) (sym is)
      (below-put most overlay l.0 cell (all-behind (λ (k : ℕ). k < most) (meaning.stage code m).fresh l.0 more (subst (λ (xs : List ℕ). All (λ k. k < most) xs)
      (w.front ∙ ap (λ (z : List ℕ). (meaning.stage code m).fresh ++ z) front) told)) (w.below most told under))) more
      (w.front ∙ ap (λ (z : List ℕ). (meaning.stage code m).fresh ++ z) front ∙ sym (append_assoc (meaning.stage code m).fresh (l.0 ∷ []) more))
    where
      set-of : (act : Act) → HasNextAct (meaning.stage code m) act → value_to_set (meaning.stage code m) ≡ value_set (Some act)
      set-of act there = ap (λ (f : Focus). value_set (redex_act f)) there.1 ∙ ap (λ (z : Act). value_set (Some z)) there.2

  -- Wants that are accepted

  pub accepted-spawn : (o : M) → (meaning.stage code m).want ≡ Some wants.Spawn → meaning.is_machine code o
      → after_input (meaning.stage code m).want Val.Unit (meaning.stage code m) ≡ Some (meaning.stage code o) → IsAtStep meaning code s i fresh cells overlay o side (n + 1)
  accepted-spawn o told good e =
      let comes = coming wants.Spawn told in
      unset _ o _ (fed-spawn (meaning.signature code) s i w.sets (meaning.stage code m) (meaning.stage code o) w.going (low-at wants.Spawn told (λ e. cc)) comes.1.0 comes.0 comes.1.1 (at_want o wants.Spawn Val.Unit told e)) good w.front

  pub accepted-print : (number : ℤ) (o : M) → (meaning.stage code m).want ≡ Some (wants.Print number) → meaning.is_machine code o
      → after_input (meaning.stage code m).want Val.Unit (meaning.stage code m) ≡ Some (meaning.stage code o) → IsAtStep meaning code s i fresh cells overlay o side (n + 1)
  accepted-print number o told good e =
      let comes = coming (wants.Print number) told in
      unset _ o _ (fed-print (meaning.signature code) s i w.sets (meaning.stage code m) (meaning.stage code o) w.going (low-at (wants.Print number) told (λ e. cc)) number comes.0 comes.1 (at_want o (wants.Print number) Val.Unit told e)) good w.front

  -- Wants that end a walk

  pub stopped-done : (meaning.stage code m).want ≡ Some wants.Done → (total : ℕ) → n < total → IsNoWalk side i total fresh s
  stopped-done told = stopped wants.Done told (λ e. cc) (λ used more e. halts-value (running_side (meaning.stage code m)) i w.going.now (meaning.stage code m).term w.going.member w.going.active used (coming wants.Done told).1)

  pub stopped-leave : (meaning.stage code m).want ≡ Some wants.Leave → (total : ℕ) → n < total → IsNoWalk side i total fresh s
  stopped-leave told =
      let comes = coming wants.Leave told in
      stopped wants.Leave told (λ e. cc) (λ used more e. halts-unprotected (running_side (meaning.stage code m)) i w.going.now (meaning.stage code m).term w.going.member w.going.active used (ap side_told comes.0) comes.1)

  pub stopped-block : (meaning.stage code m).want ≡ Some wants.Block → (total : ℕ) → n < total → IsNoWalk side i total fresh s
  stopped-block told = stopped wants.Block told (λ e. cc) (λ used more e. halts-failing (running_side (meaning.stage code m)) i w.going.now (meaning.stage code m).term w.going.member w.going.active used (coming wants.Block told).1)

  pub stopped-close : (meaning.stage code m).want ≡ Some wants.Close → (total : ℕ) → n < total → IsNoWalk side i total fresh s
  stopped-close told =
      let comes = coming wants.Close told in
      stopped wants.Close told (λ e. cc) (λ used more e. halts-closing (running_side (meaning.stage code m)) i w.going.now (meaning.stage code m).term w.going.member w.going.active used comes.1.0 comes.1.1)

  pub stopped-device : (device : ℕ) (argument : ℤ) → (meaning.stage code m).want ≡ Some (wants.Device device argument) → (total : ℕ) → n < total → IsNoWalk side i total fresh s
  stopped-device device argument told =
      stopped (wants.Device device argument) told (λ e. cc) (λ used more e. halts-device (running_side (meaning.stage code m)) i w.going.now used device argument (act-there (Act.Calls device argument) (coming (wants.Device device argument) told).1))

  -- the steps that were made pass no tall form
  pub walked-low : StaysLow side i n fresh s
  walked-low =
      subst (λ (z : Side). StaysLow z i n fresh s) a.runs_on
      (subst (λ (k : ℕ). StaysLow (running_side (meaning.stage code m)) i k fresh s) a.counted
      (subst (λ (xs : List ℕ). StaysLow (running_side (meaning.stage code m)) i (meaning.stage code m).steps xs s) (sym w.front) (w.going.low w.rest)))

  -- nor does a further one, if it wants anything else
  pub last-low : (want : Wants) → (meaning.stage code m).want ≡ Some want → (want ≡ wants.Tall → ⊥) → StaysLow side i (n + 1) fresh s
  last-low want told other =
      subst (λ (z : Side). StaysLow z i (n + 1) fresh s) a.runs_on
      (subst (λ (k : ℕ). StaysLow (running_side (meaning.stage code m)) i (k + 1) fresh s) a.counted
      (subst (λ (xs : List ℕ). StaysLow (running_side (meaning.stage code m)) i ((meaning.stage code m).steps + 1) xs s) (sym w.front)
      (low-more (meaning.signature code) s i (running_side (meaning.stage code m)) (place_with w.sets (meaning.stage code m)) (meaning.stage code m).steps w.going (low-at want told other) w.rest)))

  pub tall-there : (meaning.stage code m).want ≡ Some wants.Tall → (total : ℕ) → n < total → ComesToTall side i total fresh s
  tall-there told total below =
      let g = w.going in
      let steps = (meaning.stage code m).steps in
      let none : steps ≡ steps + 0 = omega arith in
      let leads : steps_on (running_side (meaning.stage code m)) i steps (meaning.stage code m).fresh None (begun_on (running_side (meaning.stage code m)) i s) ≡ Some g.now =
      ap (λ (k : ℕ). steps_on (running_side (meaning.stage code m)) i k (meaning.stage code m).fresh None (begun_on (running_side (meaning.stage code m)) i s)) none
      ∙ ap (λ (xs : List ℕ). steps_on (running_side (meaning.stage code m)) i (steps + 0) xs None (begun_on (running_side (meaning.stage code m)) i s)) (sym (append-nil (meaning.stage code m).fresh))
      ∙ g.goes 0 [] None in
      let count : steps ≡ n = a.counted in
      subst (λ (z : Side). ComesToTall z i total fresh s) a.runs_on (record {
        made = steps;
        below = omega arith;
        used = (meaning.stage code m).fresh;
        rest = w.rest;
        front = w.front;
        there = g.now;
        leads = leads;
        tall =
            ap (has_such (λ (term : Tree). coming_height (running_side (meaning.stage code m)) (focus term) == max_height + 1)) g.member
            ∙ eq-eqb _ _ (tall-is (meaning.stage code m) (sound m w.machine).low (sym ((sound m w.machine).told wants.Tall told)));
      })

  -- any other want ends the walk
  pub stopped-other : (want : Wants) → (meaning.stage code m).want ≡ Some want → want ≢ wants.OutOfFuel → ends_walk want ≡ true → (total : ℕ) → n < total → IsNoWalk side i total fresh s
  stopped-other wants.Block told fuel ends = stopped-block told
  stopped-other wants.Done told fuel ends = stopped-done told
  stopped-other wants.Leave told fuel ends = stopped-leave told
  stopped-other wants.Close told fuel ends = stopped-close told
  stopped-other (wants.Device device argument) told fuel ends = stopped-device device argument told
  stopped-other wants.OutOfFuel told fuel ends = absurd (fuel refl)
  stopped-other _ told fuel ends = cc
