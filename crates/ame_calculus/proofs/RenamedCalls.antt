-- Labels renamed make the same calls of devices.
use Rattle.std.proofs.Common.{◌≡◌, ℕ, ◌++◌, ℤ, List, [], ◌∷◌, map, Option, Some, None, option_and_then, option_map, refl, sym, ap, ◌∙◌}
use Rattle.std.proofs.lemmas.Option.{option_and_then_some}
use Rattle.ame_term.specs.Tree.{Tree}
use Rattle.ame_term.specs.Context.{Focus, focus}
use Rattle.ame_term.specs.Act.{Act, device_answer}
use Rattle.ame_term.specs.Maps.{at}
use Rattle.ame_term.specs.State.{State, after, run}
use Rattle.ame_term.specs.declared.semantics.Label.{Label}
use Rattle.ame_laws.specs.Orderly.{IsOrderly}
use Rattle.ame_laws.proofs.OrderlyLemmas.{after-goes}
use Rattle.ame_journal.specs.Calls.{call_at, label_call, of_next, calls_along}
use Rattle.ame_journal.specs.Replay.{redex_act, member_act}
use Rattle.ame_calculus.specs.Renamed.{renamed, AreInverse, renamed_label, IsRenamed}
use Rattle.ame_calculus.proofs.RenamedLemmas.{renamed_focus, renamed_act, focus-renamed, act-renamed, answer-renamed}
use Rattle.ame_calculus.proofs.RenamedRuns.{label-too}

module _ (f : ℕ → ℕ) where
  call-same : (k : ℕ) (answer : Option ℤ) (o : Option Act) → call_at k answer (option_map (renamed_act f) o) ≡ call_at k answer o
  call-same k None o = refl
  call-same k (Some answer) None = refl
  call-same k (Some answer) (Some (Act.Becomes term)) = refl
  call-same k (Some answer) (Some (Act.Allocates sort number v)) = refl
  call-same k (Some answer) (Some (Act.Reads l)) = refl
  call-same k (Some answer) (Some (Act.Peeks l)) = refl
  call-same k (Some answer) (Some (Act.Writes l v)) = refl
  call-same k (Some answer) (Some (Act.Spawns body)) = refl
  call-same k (Some answer) (Some (Act.Prints n)) = refl
  call-same k (Some answer) (Some Act.Passes) = refl
  call-same k (Some answer) (Some Act.Fails) = refl
  call-same k (Some answer) (Some (Act.Calls device n)) = refl
  call-same k (Some answer) (Some (Act.Closes v)) = refl
  call-same k (Some answer) (Some Act.Stuck) = refl

  redex-same : (p : Focus) → redex_act (renamed_focus f p) ≡ option_map (renamed_act f) (redex_act p)
  redex-same (Focus.AtValue v) = refl
  redex-same (Focus.AtRedex side redex) = ap Some (act-renamed f redex)

  act-same : (o p : Option Tree) → p ≡ option_map (renamed f) o
      → option_and_then (λ term. redex_act (focus term)) p ≡ option_map (renamed_act f) (option_and_then (λ term. redex_act (focus term)) o)
  act-same None p e = ap (option_and_then (λ term. redex_act (focus term))) e
  act-same (Some term) p e = ap (option_and_then (λ z. redex_act (focus z))) e ∙ ap redex_act (focus-renamed f term) ∙ redex-same (focus term)

  -- a label
  label-same : (k : ℕ) (s t : State) → IsRenamed f s t → (label : Label) → label_call k t (renamed_label f label) ≡ label_call k s label
  label-same k s t r (Label.Free i kind) =
      ap (λ (a : Option ℤ). call_at k a (member_act i t)) (answer-renamed f kind)
      ∙ ap (call_at k (device_answer kind)) (act-same (at s.members i) (at t.members i) (r.members i)) ∙ call-same k (device_answer kind) (member_act i s)
  label-same k s t r (Label.Activate i) = refl
  label-same k s t r (Label.Step kind) = refl
  label-same k s t r Label.Leave = refl
  label-same k s t r Label.End = refl
  label-same k s t r (Label.Close i) = refl

pub calls-renamed : (f g : ℕ → ℕ) → AreInverse f g → (k : ℕ) (labels : List Label) (s t u : State) → IsOrderly s → IsOrderly t → IsRenamed f s t → run s labels ≡ Some u
    → calls_along k t (map (renamed_label f) labels) ≡ calls_along k s labels
calls-renamed f g inverse k [] s t u ordered others r e = refl
calls-renamed f g inverse k (label ∷ labels) s t u ordered others r e =
    option_and_then_some (λ (v : State). run v labels) (after s label) u e (λ v first rest.
    let x = label-too f g inverse s t v r ordered.members_rise others.members_rise label first in
    let y =
    calls-renamed f g inverse k labels v x.behind u ((after-goes s label v first).orderly ordered) ((after-goes t (renamed_label f label) x.behind x.leads).orderly others) x.renames rest in
    ap (λ (o : Option State). label_call k t (renamed_label f label) ++ of_next (λ z. calls_along k z (map (renamed_label f) labels)) o) x.leads
    ∙ ap (λ ls. label_call k t (renamed_label f label) ++ ls) y ∙ ap (λ ls. ls ++ calls_along k v labels) (label-same f k s t r label)
    ∙ ap (λ (o : Option State). label_call k s label ++ of_next (λ z. calls_along k z labels) o) (sym first))
