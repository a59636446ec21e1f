-- Steps alone of a member that is inside are labels of it.
use Rattle.std.proofs.Common.{◌≡◌, ℕ, zero, suc, List, [], ◌∷◌, ◌++◌, Option, Some, None, is_none, option_map, option_and_then, if◌then◌else◌, refl, sym, ap, ◌∙◌}
use Rattle.std.specs.Prelude.{replicate, is_some}
use Rattle.std.proofs.lemmas.Option.{option_and_then_some}
use Rattle.ame_term.specs.Tree.{Tree}
use Rattle.ame_term.specs.Frame.{Side}
use Rattle.ame_term.specs.Context.{Focus, focus, fill}
use Rattle.ame_term.specs.Act.{Act, act_of}
use Rattle.ame_term.specs.Maps.{at, change}
use Rattle.ame_term.specs.State.{State, after, run, reduce, reduced_at, performed_on, rewritten}
use Rattle.ame_term.specs.declared.semantics.StepKind.{StepKind}
use Rattle.ame_term.specs.declared.semantics.Label.{Label}
use Rattle.ame_laws.proofs.MapLemmas.{at-change_same}
use Rattle.ame_journal.specs.Labels.{free_labels}
use Rattle.ame_journal.proofs.LabelLemmas.{run-two, run-one}
use Rattle.ame_machine.specs.Run.Local.{LocalState, begun_with, local}
use Rattle.ame_machine.proofs.Run.RunLemmas.{Acts, step-is}
use Rattle.ame_protocol.proofs.Visits.PlaceLemmas.{alone}

-- Returns the labels of a number of steps under `unprotected`.
abbrev alone-labels : ℕ → ℕ → List Label
alone-labels i n = free_labels i (replicate n StepKind.Local)

one-label-more : (i n : ℕ) → alone-labels i (suc n) ≡ alone-labels i n ++ Label.Free i StepKind.Local ∷ []
one-label-more i zero = refl
one-label-more i (suc n) = ap (λ (ls : List Label). Label.Free i StepKind.Local ∷ ls) (one-label-more i n)

-- what takes no input, under `unprotected`, is determined by the term
acts-becomes : (p : LocalState) (side : Side) (act : Act) (part : Tree) (q : LocalState) → Acts p side act part q → side ≡ Side.Unprotected → p.inputs ≡ []
    → act ≡ Act.Becomes part
acts-becomes p _ _ _ _ (Acts.becomes side term) under empty = refl
acts-becomes p _ _ _ _ (Acts.spawns body) under empty = absurd (let clash : Side.Protected ≡ Side.Unprotected = under in cc)
acts-becomes p _ _ _ _ (Acts.prints n) under empty = absurd (let clash : Side.Protected ≡ Side.Unprotected = under in cc)
acts-becomes p _ _ _ _ Acts.passes under empty = absurd (let clash : Side.Protected ≡ Side.Unprotected = under in cc)
acts-becomes p _ _ _ _ (Acts.feeds side act v inputs part q is given) under empty = absurd (let clash : v ∷ inputs ≡ [] = sym is ∙ empty in cc)

-- a member after steps alone
pub record IsAloneRun (s : State) (i n : ℕ) (term : Tree) : Type 0 where
  pub reached : State
  pub made : run s (alone-labels i n) ≡ Some reached
  pub member : at reached.members i ≡ Some term
  pub idle : reached.active ≡ None

module _ (t : State) (i : ℕ) (term redex part : Tree) (idle : t.active ≡ None) (member : at t.members i ≡ Some term)
    (stands : focus term ≡ Focus.AtRedex Side.Unprotected redex) (becomes : act_of redex ≡ Act.Becomes part) where
  abbrev next : State
  next = record t { members = change t.members i (fill term part) }

  one-reduced : reduce Side.Unprotected StepKind.Local i t ≡ Some next
  one-reduced =
      ap (option_and_then (λ (x : Tree). option_map (rewritten i x) (reduced_at Side.Unprotected StepKind.Local (focus x) t))) member
      ∙ ap (λ (f : Focus). option_map (rewritten i term) (reduced_at Side.Unprotected StepKind.Local f t)) stands
      ∙ ap (λ (act : Act). option_map (rewritten i term) (performed_on Side.Unprotected StepKind.Local act t)) becomes

  one-made : after t (Label.Free i StepKind.Local) ≡ Some next
  unfolding after
  one-made = ap (λ (o : Option ℕ). if is_none o then reduce Side.Unprotected StepKind.Local i t else None) idle ∙ one-reduced

  one-there : at next.members i ≡ Some (fill term part)
  one-there = at-change_same t.members i (fill term part) (ap (λ (o : Option Tree). is_some o) member)

module _ (s : State) (i : ℕ) (first : Tree) (idle : s.active ≡ None) (member : at s.members i ≡ Some first) where
  pub alone-run : (n : ℕ) (p : LocalState) → local Side.Unprotected first [] n ≡ Some p → IsAloneRun s i n p.term
  alone-run zero p e =
      let whole : begun_with first [] ≡ p = cc in
      let same : first ≡ p.term = ap (λ (z : LocalState). z.term) whole in
      record { reached = s; made = refl; member = member ∙ ap Some same; idle = idle }
  alone-run (suc n) p e =
      option_and_then_some _ _ _ e (λ r before step.
      let x = step-is Side.Unprotected r p step in
      let behind = alone-run n r before in
      let empty : r.inputs ≡ [] = ap (λ (z : LocalState). z.inputs) (alone first n r before) in
      let becomes : act_of x.redex ≡ Act.Becomes x.part = acts-becomes r Side.Unprotected (act_of x.redex) x.part x.behind x.acts refl empty in
      let made = one-made behind.reached i r.term x.redex x.part behind.idle behind.member x.stands becomes in
      let later = next behind.reached i r.term x.redex x.part behind.idle behind.member x.stands becomes in
      record {
        reached = later;
        made = ap (run s) (one-label-more i n)
            ∙ run-two s behind.reached later (alone-labels i n) (Label.Free i StepKind.Local ∷ []) behind.made
            (run-one behind.reached later (Label.Free i StepKind.Local) made);
        member = one-there behind.reached i r.term x.redex x.part behind.idle behind.member x.stands becomes
            ∙ ap Some (sym (ap (λ (z : LocalState). z.term) x.is));
        idle = behind.idle;
      })
