-- The steps of a member, watched one after another.
use Rattle.std.proofs.Common.{◌≡◌, ℕ, ◌+◌, ◌<◌, ◌≤◌, ◌⊎◌, inl, inr, List, [], Some, None, refl, sym, ap, ◌∙◌, subst, arith}
use Rattle.ame_term.specs.Tree.{Tree}
use Rattle.ame_term.specs.Frame.{Side}
use Rattle.ame_term.specs.Context.{focus}
use Rattle.ame_term.specs.Maps.{at, put}
use Rattle.ame_term.specs.State.{State}
use Rattle.ame_term.specs.declared.types.Loc.{Loc}
use Rattle.ame_laws.proofs.MapLemmas.{at-put}
use Rattle.ame_machine.specs.Meaning.{Meaning}
use Rattle.ame_machine.specs.MachineView.{running_side}
use Rattle.ame_machine.specs.Need.{Need, need_of_focus, need_told}
use Rattle.ame_machine.specs.Sound.{IsSoundStage}
use Rattle.ame_machine.specs.declared.wants.Wants.{Wants}
use Rattle.ame_machine.specs.declared.wants.Wants.TheVariants as wants
use Rattle.ame_check.specs.Walked.{IsWalking, IsAtStep, WalksTo}
use Rattle.ame_check.specs.Reasons.{is_unprotected_side}
use Rattle.ame_check.specs.Walk.{steps_on, begun_on}
use Rattle.ame_check.specs.Walked.{place_with}
use Rattle.ame_check.specs.Standing.{ReadsAfter, TellsReads, TellsEachRead, WatchedSteps, with_read}
use Rattle.ame_check.specs.declared.stored.Stored.{Stored}
use Rattle.ame_check.proofs.ReasonLemmas.{comes-at}
use Rattle.ame_check.proofs.TallLemmas.{same-there}
use Rattle.ame_check.proofs.WalkLemmas.{begins}

at-itself : (reads : List (ℕ × ℕ)) (l k : ℕ) → at (put reads l k) l ≡ Some k
at-itself reads l k = elim (at-put reads l l k) [
  | inl here ↦ here.1
  | inr other ↦ absurd (other.0 refl)
]

-- A member that comes to read a location after as many steps as a machine made stands at the machine's place, and wants the same.
module _ {C V M : Type 0} (meaning : Meaning C V M) (code : C) (sound : (m : M) → meaning.is_machine code m → IsSoundStage (meaning.stage code m))
    (s : State) (i : ℕ) (fresh : List ℕ) (cells overlay : List (ℕ × Stored V)) (m : M) (side : Side) (n total : ℕ) (within : n ≤ total) where
  pub wants-it : IsAtStep meaning code s i fresh cells overlay m side n → (want : Wants) → (meaning.stage code m).want ≡ Some want
      → (l : ℕ) → ReadsAfter side s i fresh total l n → Need.Read l ≡ need_told want
  wants-it a want told l r =
      let mine = comes-at meaning code sound s i fresh cells overlay m side n a total within n (sym a.counted) want told in
      let there = r.comes in
      let leads : steps_on (running_side (meaning.stage code m)) i (meaning.stage code m).steps there.used None (begun_on (running_side (meaning.stage code m)) i s) ≡ Some r.now =
      subst (λ (z : Side). steps_on z i (meaning.stage code m).steps there.used None (begun_on z i s) ≡ Some r.now) (sym a.runs_on)
      (subst (λ (j : ℕ). steps_on side i j there.used None (begun_on side i s) ≡ Some r.now) (sym a.counted) there.leads) in
      let same = (same-there (meaning.signature code) s i (running_side (meaning.stage code m)) (place_with a.walking.sets (meaning.stage code m)) (meaning.stage code m).steps a.walking.going
      a.walking.rest there.used r.rest r.now (sym a.walking.front ∙ there.front) leads).1 in
      let both : Some mine.term ≡ Some there.term = sym mine.member ∙ ap (λ (z : State). at z.members i) same ∙ there.member in
      let term : mine.term ≡ there.term = cc in
      there.wants ∙ ap (λ (t : Tree). need_of_focus (is_unprotected_side side) (focus t)) (sym term) ∙ sym mine.wants

below-or-same : (m n : ℕ) → m < n + 1 → (m < n) ⊎ (m ≡ n)
below-or-same m n under = grind arith

module _ (side : Side) (s : State) (i : ℕ) (fresh : List ℕ) (total : ℕ) where
  tells-put : (reads : List (ℕ × ℕ)) (l k : ℕ) → TellsReads side s i fresh total reads → ReadsAfter side s i fresh total l k → TellsReads side s i fresh total (put reads l k)
  tells-put reads l k told here m j found = by (at-put reads l m k)
    where
      by : ((l ≡ m) × (at (put reads l k) m ≡ Some k)) ⊎ (((l ≡ m) → ⊥) × (at (put reads l k) m ≡ at reads m)) → ReadsAfter side s i fresh total m j
      by (inl (same, e)) =
          let opened : Some k ≡ Some j = sym e ∙ found in
          let count : k ≡ j = cc in
          subst (λ (x : ℕ). ReadsAfter side s i fresh total x j) same (subst (λ (x : ℕ). ReadsAfter side s i fresh total l x) count here)
      by (inr (apart, e)) = told m j (sym e ∙ found)

  pub tells-none : (reads : List (ℕ × ℕ)) → reads ≡ [] → TellsReads side s i fresh total reads
  tells-none reads none l k found =
      let nothing : None ≡ Some k = ap (λ (es : List (ℕ × ℕ)). at es l) (sym none) ∙ found in
      cc

  pub tells-more : (want : Wants) (k : ℕ) (reads : List (ℕ × ℕ)) → TellsReads side s i fresh total reads
      → ((l : Loc) → want ≡ wants.Read l → ReadsAfter side s i fresh total l.0 k) → TellsReads side s i fresh total (with_read want k reads)
  tells-more (wants.Read l) k reads told here = tells-put reads l.0 k told (here l refl)
  tells-more _ k reads told here = told

  -- one more read of a location is the last one of it
  each-put : (reads : List (ℕ × ℕ)) (l most : ℕ) → TellsEachRead side s i fresh total most reads → TellsEachRead side s i fresh total most (put reads l most)
  each-put reads l most each m k below here = by (at-put reads l m most)
    where
      by : ((l ≡ m) × (at (put reads l most) m ≡ Some most)) ⊎ (((l ≡ m) → ⊥) × (at (put reads l most) m ≡ at reads m))
          → (last : ℕ) × (at (put reads l most) m ≡ Some last) × (k ≤ last)
      by (inl (same, e)) = (most, e, (let within : k ≤ most = omega arith in within))
      by (inr (apart, e)) = let before = each m k below here in (before.0, e ∙ before.1, before.2)

  each-kept : (want : Wants) (most : ℕ) (reads : List (ℕ × ℕ)) → TellsEachRead side s i fresh total most reads → TellsEachRead side s i fresh total most (with_read want most reads)
  each-kept (wants.Read l) most reads each = each-put reads l.0 most each
  each-kept _ most reads each = each

  -- what wants a read notes it
  noted-read : (want : Wants) (l most : ℕ) (reads : List (ℕ × ℕ)) → Need.Read l ≡ need_told want → at (with_read want most reads) l ≡ Some most
  noted-read (wants.Read x) l most reads e =
      let same : x.0 ≡ l = cc in
      subst (λ (z : ℕ). at (put reads x.0 most) z ≡ Some most) same (at-itself reads x.0 most)
  noted-read (wants.Write x) l most reads e = cc
  noted-read (wants.Alloc sort number) l most reads e = cc
  noted-read (wants.Peek x) l most reads e = cc
  noted-read wants.Block l most reads e = cc
  noted-read wants.Done l most reads e = cc
  noted-read wants.Leave l most reads e = cc
  noted-read wants.Close l most reads e = cc
  noted-read (wants.Device device n) l most reads e = cc
  noted-read wants.Spawn l most reads e = cc
  noted-read (wants.Print n) l most reads e = cc
  noted-read wants.Tall l most reads e = cc
  noted-read wants.OutOfFuel l most reads e = cc

  -- with the step after these, which reads if its want does
  pub each-more : (want : Wants) (most : ℕ) (reads : List (ℕ × ℕ)) → TellsEachRead side s i fresh total most reads
      → ((l : ℕ) → ReadsAfter side s i fresh total l most → Need.Read l ≡ need_told want) → TellsEachRead side s i fresh total (most + 1) (with_read want most reads)
  each-more want most reads each wanted l k below here = elim (below-or-same k most below) [
    | inl under ↦ each-kept want most reads each l k under here
    | inr count ↦ (
      most,
      noted-read want l most reads (wanted l (subst (λ (j : ℕ). ReadsAfter side s i fresh total l j) count here)),
      (let within : k ≤ most = omega (arith, count) in within),
    )
  ]

module _ {C V M : Type 0} (meaning : Meaning C V M) (code : C) (fresh : List ℕ) (cells first : List (ℕ × Stored V)) (begun : M) (total : ℕ) where
  -- so it is for each place at which the machine began
  abbrev pub Watching : List (ℕ × Stored V) → M → ℕ → List (ℕ × ℕ) → Type 0
  Watching overlay machine most reads =
      (s : State) (i : ℕ) (side : Side) (n : ℕ) → IsAtStep meaning code s i fresh cells first begun side n
      → WatchedSteps meaning code s i fresh cells overlay machine side total most reads

  pub watching-begins : (reads : List (ℕ × ℕ)) → reads ≡ [] → (meaning.stage code begun).steps ≡ 0 → Watching first begun 0 reads
  watching-begins reads none zero s i side n a = record {
    made = n;
    few = let counted : (meaning.stage code begun).steps ≡ n = a.counted in omega arith;
    stands = a;
    told = tells-none side s i fresh total reads none;
    each = λ l k under here. absurd (omega (arith, under));
  }

  module _ (overlay : List (ℕ × Stored V)) (machine : M) (count : ℕ) (reads : List (ℕ × ℕ)) (w : Watching overlay machine count reads) where
    -- the place of the machine, by a place at which it began
    pub watched-there : (some : (s : State) × (i : ℕ) × IsWalking meaning code s i fresh cells first begun)
        → WatchedSteps meaning code some.0 some.1 fresh cells overlay machine (running_side (meaning.stage code begun)) total count reads
    watched-there some =
        w some.0 some.1 (running_side (meaning.stage code begun)) (meaning.stage code begun).steps
        (begins meaning code fresh cells first first begun begun (meaning.stage code begun).steps some.0 some.1 some.2)

    pub watched-few : (some : (s : State) × (i : ℕ) × IsWalking meaning code s i fresh cells first begun) → (meaning.stage code machine).steps ≤ count
    watched-few some =
        let t = watched-there some in
        let few : t.made ≤ count = t.few in
        let counted : (meaning.stage code machine).steps ≡ t.made = t.stands.counted in
        omega arith

    pub watching-ends : count ≡ total → Watching overlay machine total reads
    watching-ends same = subst (λ (most : ℕ). Watching overlay machine most reads) same w

    pub watching-goes-on : (sound : (m : M) → meaning.is_machine code m → IsSoundStage (meaning.stage code m)) (later : List (ℕ × Stored V)) (next : M) (want : Wants) → count < total
        → ((s : State) (i : ℕ) (side : Side) (n : ℕ) → IsAtStep meaning code s i fresh cells overlay machine side n
        → WalksTo meaning code s i fresh cells later next side count want)
        → (more : List (ℕ × ℕ)) → more ≡ with_read want count reads → Watching later next (count + 1) more
    watching-goes-on sound later next want below walks more is s i side n a =
        let t = w s i side n a in
        let there = walks s i side t.made t.stands in
        let within : count ≤ total = omega arith in
        record {
          made = count;
          few = omega arith;
          stands = there.0;
          told =
              subst (λ (es : List (ℕ × ℕ)). TellsReads side s i fresh total es) (sym is)
              (tells-more side s i fresh total want count reads t.told
              (λ l reads_it. record {
                below = below;
                rest = there.0.walking.rest;
                now = there.0.walking.going.now;
                comes =
                    comes-at meaning code sound s i fresh cells later next side count there.0 total within count (sym there.0.counted) (wants.Read l)
                    (there.1 ∙ ap (λ (x : Wants). Some x) reads_it);
              }));
          each =
              subst (λ (es : List (ℕ × ℕ)). TellsEachRead side s i fresh total (count + 1) es) (sym is)
              (each-more side s i fresh total want count reads t.each
              (wants-it meaning code sound s i fresh cells later next side count total within there.0 want there.1));
        }
