-- A legal label makes a local run of a member.
use Rattle.std.proofs.Common.{◌≡◌, ℕ, ◌<◌, ◌⊎◌, Bool, true, false, List, Option, Some, None, refl, sym, ap, ◌∙◌, subst, inl, inr, is_some, arith}
use Rattle.std.proofs.lemmas.Bool.Decides.{nat_tests}
use Rattle.std.specs.Prelude.{◌==◌}
use Rattle.ame_term.specs.Tree.{Tree}
use Rattle.ame_term.specs.Signature.{Signature}
use Rattle.ame_term.specs.Frame.{Frame, Side, plug_all, side_of}
use Rattle.ame_term.specs.Maps.{at, change, without}
use Rattle.ame_term.specs.State.{State}
use Rattle.ame_term.specs.declared.semantics.StepKind.{StepKind}
use Rattle.ame_term.specs.declared.semantics.Label.{Label}
use Rattle.ame_laws.specs.Rules.{Reduces, Steps, Rule}
use Rattle.ame_laws.specs.Orderly.{IsOrderly}
use Rattle.ame_laws.proofs.MapLemmas.{numbers-at, at-put_other, at-change_same, at-change_other, at-without_same, at-without_other}
use Rattle.ame_laws.specs.Typed.StoreTyping.{StoreTyping}
use Rattle.ame_laws.specs.Typed.TypedState.{IsTypedBy}
use Rattle.ame_laws.specs.Typed.NewCell.{HasNewCellOf, HasNewCellAfter}
use Rattle.ame_laws.specs.Typed.LocalRun.{LocalStep, LocalRun}
use Rattle.ame_laws.proofs.Typed.GivenTypes.{makes_of, step_local}

equal_or_not : (j k : ℕ) → (j ≡ k) ⊎ (j ≡ k → ⊥)
equal_or_not j k = by (j == k) refl
  where
    by : (b : Bool) → (j == k) ≡ b → (j ≡ k) ⊎ (j ≡ k → ⊥)
    by true e = inl (grind (arith, nat_tests))
    by false e = inr (λ same. grind (arith, nat_tests))

module _ (signature : Signature) (cells : StoreTyping) (s : State) (typed : IsTypedBy signature cells s) (orderly : IsOrderly s) (i : ℕ) (term last : Tree) (member : at s.members i ≡ Some term) where
  -- a member is as it was
  stays : at s.members i ≡ Some last → LocalRun signature cells term last
  stays behind = let same : term ≡ last = cc in subst (LocalRun signature cells term) same (LocalRun.done term)

  -- after the effect of a row too
  still : (side : Side) (kind : StepKind) (redex part : Tree) (t : State) → Reduces s side kind redex part t → at t.members i ≡ at s.members i
  still _ _ _ _ _ (Reduces.spawning side body) =
      let below : i < s.next = numbers-at (λ k. k < s.next) s.members i (ap is_some member) orderly.members_below in
      at-put_other s.members s.next i body (λ same. omega arith)
  still _ _ _ _ _ _ = refl

  -- a member's term was changed: it is another one, or made a step in its frames
  was_changed : (members : List (ℕ × Tree)) → at members i ≡ at s.members i → (j : ℕ) (frames : List Frame) (redex part : Tree) → at s.members j ≡ Some (plug_all frames redex)
      → LocalStep signature cells (side_of frames) redex part → at (change members j (plug_all frames part)) i ≡ Some last → LocalRun signature cells term last
  was_changed members same j frames redex part found step behind = by (equal_or_not j i)
    where
      by : (j ≡ i) ⊎ (j ≡ i → ⊥) → LocalRun signature cells term last
      by (inr apart) = stays (sym same ∙ sym (at-change_other members j i (plug_all frames part) apart) ∙ behind)
      by (inl is) =
          let here : at s.members i ≡ Some (plug_all frames redex) = ap (at s.members) (sym is) ∙ found in
          let before : plug_all frames redex ≡ term = cc in
          let there : is_some (at members j) ≡ true = ap (λ (z : ℕ). is_some (at members z)) is ∙ ap is_some (same ∙ member) in
          let at_last : ◌≡◌ {A = Option Tree} (Some (plug_all frames part)) (Some last) =
          sym (at-change_same members j (plug_all frames part) there) ∙ ap (at (change members j (plug_all frames part))) is ∙ behind in
          let after : plug_all frames part ≡ last = cc in
          subst (λ (z : Tree). LocalRun signature cells z last) before
          (LocalRun.step frames redex part last step (subst (LocalRun signature cells (plug_all frames part)) after (LocalRun.done (plug_all frames part))))

  stepped : (side : Side) (kind : StepKind) (j : ℕ) (t : State) → Steps s side kind j t → HasNewCellOf signature cells s kind j → at t.members i ≡ Some last → LocalRun signature cells term last
  stepped side kind j t st has behind =
      was_changed st.after_effect.members (still side kind st.redex st.part st.after_effect st.reduces) j st.frames st.redex st.part st.found
      (step_local signature cells s typed side kind j t st (makes_of signature cells s typed kind st.frames st.redex (has (plug_all st.frames st.redex) st.found)))
      (ap (λ (z : State). at z.members i) (sym st.result) ∙ behind)

  pub runs_locally : (label : Label) (t : State) → Rule s label t → HasNewCellAfter signature cells s label → at t.members i ≡ Some last → LocalRun signature cells term last
  runs_locally _ _ (Rule.activates j other idle there calm) has behind = stays behind
  runs_locally _ _ (Rule.steps j kind t is st) has behind = stepped Side.Protected kind j t st (has j is) behind
  runs_locally _ _ (Rule.leaves j other is there stands) has behind = stays behind
  runs_locally _ _ (Rule.ends j v is there) has behind = by (equal_or_not j i)
    where
      by : (j ≡ i) ⊎ (j ≡ i → ⊥) → LocalRun signature cells term last
      by (inr apart) = stays (sym (at-without_other s.members j i apart) ∙ behind)
      by (inl same) =
          let gone : at (without s.members j) i ≡ None = ap (at (without s.members j)) (sym same) ∙ at-without_same s.members j orderly.members_rise in
          let clash : ◌≡◌ {A = Option Tree} None (Some last) = sym gone ∙ behind in
          absurd (cc)
  runs_locally _ _ (Rule.frees j kind t idle st) has behind = stepped Side.Unprotected kind j t st has behind
  runs_locally _ _ (Rule.closes j frames v idle there on) has behind =
      was_changed s.members refl j frames (Tree.Unprotected (Tree.Held v)) (Tree.Held v) there
      (subst (λ (z : Side). LocalStep signature cells z (Tree.Unprotected (Tree.Held v)) (Tree.Held v)) (sym on) (LocalStep.closed v)) behind
