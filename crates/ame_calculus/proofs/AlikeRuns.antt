-- Two runs of an accepted program by labels that are the same but for the locations that they make.
use Rattle.std.proofs.Common.{◌≡◌, ℕ, ◌⊎◌, inl, inr, List, [], ◌∷◌, map, Some, refl, sym, ap, ◌∙◌, subst}
use Rattle.std.proofs.lemmas.Option.{option_and_then_some}
use Rattle.ame_term.specs.Tree.{Typ, Tree}
use Rattle.ame_term.specs.Frame.{Side}
use Rattle.ame_term.specs.Numbered.{IsNumbered}
use Rattle.ame_term.specs.Signature.{Signature, listed}
use Rattle.ame_term.specs.SourceTerm.{IsSourceTerm}
use Rattle.ame_term.specs.State.{State, IsRun, start, after, run}
use Rattle.ame_term.specs.Typing.{no_cells, Accepts}
use Rattle.ame_term.specs.declared.semantics.StepKind.{StepKind}
use Rattle.ame_term.specs.declared.semantics.Label.{Label}
use Rattle.ame_term.specs.declared.types.Loc.{Loc}
use Rattle.ame_laws.specs.Orderly.{IsOrderly}
use Rattle.ame_laws.specs.Typed.StoreTyping.{StoreTyping}
use Rattle.ame_laws.specs.Typed.TypedState.{IsTyped}
use Rattle.ame_laws.proofs.OrderlyLemmas.{after-goes, start-orderly}
use Rattle.ame_laws.proofs.Typed.Preserved.{kept}
use Rattle.ame_laws.proofs.Typed.Started.{started}
use Rattle.ame_journal.proofs.StepLemmas.{free-reduced}
use Rattle.ame_calculus.specs.Renamed.{AreInverse, renamed_kind, renamed_label, IsRenamed}
use Rattle.ame_calculus.proofs.AlignLemmas.{IsAligned, itself, no_change, reduced-unstored, step-unstored, same-label, both-alloc}

-- the label without its location
abbrev bare : Label → Label
bare label = renamed_label (λ l. 0) label

abbrev bare_kind : StepKind → StepKind
bare_kind kind = renamed_kind (λ l. 0) kind

-- two kinds that are one but for their locations
kinds-alike : (k h : StepKind) → bare_kind k ≡ bare_kind h → ((f : ℕ → ℕ) → renamed_kind f k ≡ h) ⊎ ((l : Loc) × (m : Loc) × (k ≡ StepKind.Alloc l) × (h ≡ StepKind.Alloc m))
kinds-alike StepKind.Local StepKind.Local e = inl (λ f. refl)
kinds-alike StepKind.Read StepKind.Read e = inl (λ f. refl)
kinds-alike StepKind.Peek StepKind.Peek e = inl (λ f. refl)
kinds-alike StepKind.Write StepKind.Write e = inl (λ f. refl)
kinds-alike StepKind.Spawn StepKind.Spawn e = inl (λ f. refl)
kinds-alike StepKind.Print StepKind.Print e = inl (λ f. refl)
kinds-alike StepKind.Block StepKind.Block e = inl (λ f. refl)
kinds-alike (StepKind.Alloc l) (StepKind.Alloc m) e = inr (l, m, refl, refl)
kinds-alike (StepKind.Device a) (StepKind.Device b) e = inl (λ f. e)
kinds-alike _ _ e = cc

-- One label in a state and in the same state renamed

module _ (signature : Signature) (cells : StoreTyping) (a b : State) (typed : IsTyped signature cells a) (ordered : IsOrderly a) (others : IsOrderly b) (f g : ℕ → ℕ) (inverse : AreInverse f g)
    (r : IsRenamed f a b) where
  steps-alike : (k h : StepKind) (v w : State) → bare_kind k ≡ bare_kind h → after a (Label.Step k) ≡ Some v → after b (Label.Step h) ≡ Some w → IsAligned v w
  steps-alike k h v w e first second = by (kinds-alike k h e)
    where
      by : ((f : ℕ → ℕ) → renamed_kind f k ≡ h) ⊎ ((l : Loc) × (m : Loc) × (k ≡ StepKind.Alloc l) × (h ≡ StepKind.Alloc m)) → IsAligned v w
      by (inl same) = same-label signature cells a b typed ordered others f g inverse r (Label.Step k) (Label.Step h) v w (ap Label.Step (same f)) first second
      by (inr p) =
          both-alloc signature cells a b typed ordered others f g inverse r Label.Step (λ z y. refl) p.0 p.1 v w (step-unstored k p.0 a v p.2 first) (step-unstored h p.1 b w p.3 second)
          (ap (λ (z : StepKind). after a (Label.Step z)) (sym p.2) ∙ first) (ap (λ (z : StepKind). after b (Label.Step z)) (sym p.3) ∙ second)

  frees-alike : (i : ℕ) (k h : StepKind) (v w : State) → bare_kind k ≡ bare_kind h → after a (Label.Free i k) ≡ Some v → after b (Label.Free i h) ≡ Some w → IsAligned v w
  frees-alike i k h v w e first second = by (kinds-alike k h e)
    where
      by : ((f : ℕ → ℕ) → renamed_kind f k ≡ h) ⊎ ((l : Loc) × (m : Loc) × (k ≡ StepKind.Alloc l) × (h ≡ StepKind.Alloc m)) → IsAligned v w
      by (inl same) = same-label signature cells a b typed ordered others f g inverse r (Label.Free i k) (Label.Free i h) v w (ap (Label.Free i) (same f)) first second
      by (inr p) =
          both-alloc signature cells a b typed ordered others f g inverse r (Label.Free i) (λ z y. refl) p.0 p.1 v w (reduced-unstored Side.Unprotected k p.0 i a v p.2 (free-reduced k i a v first))
          (reduced-unstored Side.Unprotected h p.1 i b w p.3 (free-reduced h i b w second))
          (ap (λ (z : StepKind). after a (Label.Free i z)) (sym p.2) ∙ first) (ap (λ (z : StepKind). after b (Label.Free i z)) (sym p.3) ∙ second)

  labels-alike : (label other : Label) (v w : State) → bare label ≡ bare other → after a label ≡ Some v → after b other ≡ Some w → IsAligned v w
  labels-alike (Label.Step k) (Label.Step h) v w e first second = let same : bare_kind k ≡ bare_kind h = cc in steps-alike k h v w same first second
  labels-alike (Label.Free i k) (Label.Free j h) v w e first second =
      let one : j ≡ i = cc in
      let same : bare_kind k ≡ bare_kind h = cc in
      frees-alike i k h v w same first (ap (λ (n : ℕ). after b (Label.Free n h)) (sym one) ∙ second)
  labels-alike (Label.Activate i) (Label.Activate j) v w e first second = same-label signature cells a b typed ordered others f g inverse r (Label.Activate i) (Label.Activate j) v w e first second
  labels-alike Label.Leave Label.Leave v w e first second = same-label signature cells a b typed ordered others f g inverse r Label.Leave Label.Leave v w e first second
  labels-alike Label.End Label.End v w e first second = same-label signature cells a b typed ordered others f g inverse r Label.End Label.End v w e first second
  labels-alike (Label.Close i) (Label.Close j) v w e first second = same-label signature cells a b typed ordered others f g inverse r (Label.Close i) (Label.Close j) v w e first second
  labels-alike _ _ v w e first second = cc

-- All labels

runs-alike : (signature : Signature) (labels more : List Label) (cells : StoreTyping) (f g : ℕ → ℕ) (a b u v : State) → AreInverse f g → IsTyped signature cells a → IsOrderly a → IsOrderly b
    → IsRenamed f a b → map bare labels ≡ map bare more → run a labels ≡ Some u → run b more ≡ Some v → IsAligned u v
runs-alike signature [] [] cells f g a b u v inverse typed ordered others r e first second =
    let here : a ≡ u = cc in
    let there : b ≡ v = cc in
    record { to = f; from = g; inverse = inverse; renames = subst (λ (z : State). IsRenamed f u z) there (subst (λ (z : State). IsRenamed f z b) here r) }
runs-alike signature [] (other ∷ more) cells f g a b u v inverse typed ordered others r e first second = cc
runs-alike signature (label ∷ labels) [] cells f g a b u v inverse typed ordered others r e first second = cc
runs-alike signature (label ∷ labels) (other ∷ more) cells f g a b u v inverse typed ordered others r e first second =
    option_and_then_some (λ (z : State). run z labels) (after a label) u first (λ s one rest.
    option_and_then_some (λ (z : State). run z more) (after b other) v second (λ t two rest_too.
    let heads : bare label ≡ bare other = cc in
    let tails : map bare labels ≡ map bare more = cc in
    let x = labels-alike signature cells a b typed ordered others f g inverse r label other s t heads one two in
    let later = kept signature cells a label s typed one in
    runs-alike signature labels more later.0 x.to x.from s t u v x.inverse later.2 ((after-goes a label s one).orderly ordered) ((after-goes b other t two).orderly others) x.renames tails rest rest_too))

pub program-alike : (devices : ℕ) (places : List ℕ) (program : Tree) (refs : List Typ) → Accepts devices places program refs → IsSourceTerm program → IsNumbered 0 program
    → (labels others : List Label) (s t : State) → IsRun program labels s → IsRun program others t → map (renamed_label (λ l. 0)) labels ≡ map (renamed_label (λ l. 0)) others
    → (f : ℕ → ℕ) × (g : ℕ → ℕ) × AreInverse f g × IsRenamed f s t
program-alike devices places program refs accepts source numbered labels others s t first second e =
    let x =
    runs-alike (listed devices refs) labels others no_cells (λ l. l) (λ l. l) (start program) (start program) s t no_change (started devices places program refs accepts source numbered)
    (start-orderly program) (start-orderly program) (itself (start program)) e first second in
    (x.to, x.from, x.inverse, x.renames)
