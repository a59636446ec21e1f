-- `weak_after` follows the weak rules, and `weak_run` leads to the same state as these.
use Rattle.std.proofs.Common.{◌≡◌, ◌≢◌, ◌↔◌, ℕ, ◌+◌, ◌==◌, ◌++◌, ℤ, Bool, true, false, not, List, [], ◌∷◌, length, Option, Some, None, option_map, option_and_then, refl, sym, ap, ◌∙◌, subst, arith, eqb-true}
use Rattle.std.proofs.lemmas.Option.{option_and_then_some}
use Rattle.std.specs.Prelude.{◌&&◌}
use Rattle.std.specs.Option.{option_map_or}
use Rattle.ame_term.specs.Tree.{Val, Tree, unit_tree}
use Rattle.ame_term.specs.Frame.{Frame, Side, plug_all}
use Rattle.ame_term.specs.Context.{Focus, focus, fill}
use Rattle.ame_term.specs.Act.{Act, act_of, makes}
use Rattle.ame_term.specs.Maps.{at, put, change}
use Rattle.ame_term.specs.State.{State, performed_on, reduce, after, closed, closed_value}
use Rattle.ame_term.specs.declared.types.Unary.TheVariants as unary
use Rattle.ame_term.specs.declared.semantics.StepKind.{StepKind}
use Rattle.ame_term.specs.declared.semantics.Label.{Label}
use Rattle.ame_laws.specs.Rules.{Steps, Reduces}
use Rattle.ame_laws.proofs.FrameLemmas.{focused, filled, found, stands}
use Rattle.ame_laws.proofs.RuleEffects.{row_of}
use Rattle.ame_laws.proofs.Followed.{HasSteps, has_steps, reduce_of, rule_of, after_of, closed_by, close_of, begins}
use Rattle.ame_machine.specs.Run.AgreesWith.{with_members}
use Rattle.ame_strong.specs.Handed.{print_at, body_at}
use Rattle.ame_strong.specs.Plan.{refilled}
use Rattle.ame_weak.specs.Answer.{IsPlain}
use Rattle.ame_weak.specs.Weak.{Weak, moved, holds_none, holds_nothing, held_performed, held_rewritten, held_step, with_held_released, is_resting, may_free, weak_after, weak_start, weak_run}
use Rattle.ame_weak.specs.WeakRules.{Joins, Releases, WeakRule, WeakBegins, WeakRuns}
use Rattle.ame_weak.proofs.HeldSteps.{if-gave, map-gave, held-reduced}
use Rattle.ame_weak.proofs.LabelLemmas.{activate-free, step-active, free-may, close-may, plain-step, print-some, spawn-some, leave-is, end-is}

-- Held effects

none-held : (prints : List ℤ) (spawns : List Tree) → holds_none prints spawns ≡ true → (prints ≡ []) × (spawns ≡ [])
none-held [] [] e = (refl, refl)
none-held [] (body ∷ spawns) e = cc
none-held (n ∷ prints) spawns e = cc

held-none : (w : Weak) → w.prints ≡ [] → w.spawns ≡ [] → holds_nothing w ≡ true
held-none w p s = ap (λ ps. holds_none ps w.spawns) p ∙ ap (holds_none []) s

joins-of : (members : List (ℕ × Tree)) (next : ℕ) (bodies : List Tree) → Joins members next bodies (with_members members next bodies) (next + length bodies)
joins-of members next [] = let none : next ≡ next + 0 = omega arith in subst (Joins members next [] members) none (Joins.none members next)
joins-of members next (body ∷ bodies) =
    let count : (next + 1) + length bodies ≡ next + length (body ∷ bodies) = omega arith in
    subst (Joins members next (body ∷ bodies) (with_members (put members next body) (next + 1) bodies)) count
    (Joins.more members (with_members (put members next body) (next + 1) bodies) next ((next + 1) + length bodies) body bodies (joins-of (put members next body) (next + 1) bodies))

joins-are : (members : List (ℕ × Tree)) (next : ℕ) (bodies : List Tree) (later : List (ℕ × Tree)) (end : ℕ) → Joins members next bodies later end
    → (later ≡ with_members members next bodies) × (end ≡ next + length bodies)
joins-are _ _ _ _ _ (Joins.none members next) = (refl, omega arith)
joins-are _ _ _ _ _ (Joins.more members later next end body bodies joins) =
    let x = joins-are (put members next body) (next + 1) bodies later end joins in
    let count : end ≡ (next + 1) + length bodies = x.1 in
    (x.0, omega arith)

releases-of : (w : Weak) (s : State) → Releases s w.prints w.spawns (with_held_released (moved w s))
releases-of w s = record { store = refl; active = refl; output = refl; members = joins-of s.members s.next w.spawns; no_prints = refl; no_spawns = refl }

released-by : (w : Weak) (s : State) (v : Weak) → Releases s w.prints w.spawns v → with_held_released (moved w s) ≡ v
released-by w s v r =
    let j = joins-are s.members s.next w.spawns v.state.members v.state.next r.members in
    λ i. record {
      state = record { store = sym r.store i; members = sym j.0 i; active = sym r.active i; output = sym r.output i; next = sym j.1 i };
      prints = sym r.no_prints i;
      spawns = sym r.no_spawns i;
    }

-- Resting members

itself : (n : ℕ) → (n == n) ≡ true
itself n = grind arith

resting-other : (o : Option ℕ) (i : ℕ) → is_resting o i ≡ true → o ≢ Some i
resting-other None i e = λ is. cc
resting-other (Some j) i e = λ is.
    let same : j ≡ i = cc in
    let one : (j == i) ≡ true = ap (λ k. k == i) same ∙ itself i in
    let clash : false ≡ true = ap not (sym one) ∙ e in
    cc

other-resting : (o : Option ℕ) (i : ℕ) → o ≢ Some i → is_resting o i ≡ true
other-resting None i apart = refl
other-resting (Some j) i apart = by (j == i) refl
  where
    by : (b : Bool) → (j == i) ≡ b → not b ≡ true
    by true is = absurd (apart (ap Some (eqb-true j i is)))
    by false is = refl

peek-idle : (o : Option ℕ) (kind : StepKind) → may_free o kind ≡ true → kind ≡ StepKind.Peek → o ≡ None
peek-idle None kind e is = refl
peek-idle (Some j) kind e is = let clash : false ≡ true = ap (may_free (Some j)) (sym is) ∙ e in cc

idle-peek : (o : Option ℕ) (kind : StepKind) → (kind ≡ StepKind.Peek → o ≡ None) → may_free o kind ≡ true
idle-peek None kind idle = refl
idle-peek (Some j) StepKind.Peek idle = let clash : ◌≡◌ {A = Option ℕ} (Some j) None = idle refl in cc
idle-peek (Some j) StepKind.Local idle = refl
idle-peek (Some j) (StepKind.Alloc l) idle = refl
idle-peek (Some j) StepKind.Read idle = refl
idle-peek (Some j) StepKind.Write idle = refl
idle-peek (Some j) StepKind.Spawn idle = refl
idle-peek (Some j) StepKind.Print idle = refl
idle-peek (Some j) StepKind.Block idle = refl
idle-peek (Some j) (StepKind.Device answer) idle = refl

both-true : (a b : Bool) → (a && b) ≡ true → (a ≡ true) × (b ≡ true)
both-true true b e = (refl, e)
both-true false b e = cc

true-both : (a b : Bool) → a ≡ true → b ≡ true → (a && b) ≡ true
true-both a b p q = ap (λ x. x && b) p ∙ q

-- Held effects of a step

print-made : (act : Act) → makes Side.Protected StepKind.Print act ≡ true → (n : ℤ) × (act ≡ Act.Prints n)
print-made (Act.Prints n) e = (n, refl)
print-made (Act.Becomes term) e = cc
print-made _ e = cc

spawn-made : (act : Act) → makes Side.Protected StepKind.Spawn act ≡ true → (body : Tree) × (act ≡ Act.Spawns body)
spawn-made (Act.Spawns body) e = (body, refl)
spawn-made (Act.Becomes term) e = cc
spawn-made _ e = cc

print-form : (s t : State) (side : Side) (kind : StepKind) (redex part : Tree) → Reduces s side kind redex part t → (n : ℤ) → act_of redex ≡ Act.Prints n
    → kind ≡ StepKind.Print → redex ≡ Tree.One unary.Print (Tree.Held (Val.Int n))
unfolding act_of
print-form s _ _ _ _ _ (Reduces.printing side m) n is kind = cc
print-form s _ _ _ _ _ (Reduces.pure side redex part row) n is kind = cc
print-form s _ _ _ _ _ (Reduces.allocation side l sort number v fresh) n is kind = cc
print-form s _ _ _ _ _ (Reduces.reading side l v at) n is kind = cc
print-form s _ _ _ _ _ (Reduces.peeking l v at) n is kind = cc
print-form s _ _ _ _ _ (Reduces.writing side l v) n is kind = cc
print-form s _ _ _ _ _ (Reduces.spawning side body) n is kind = cc
print-form s _ _ _ _ _ Reduces.passing n is kind = cc
print-form s _ _ _ _ _ (Reduces.answering device m reply) n is kind = cc

spawn-form : (s t : State) (side : Side) (kind : StepKind) (redex part : Tree) → Reduces s side kind redex part t → (body : Tree) → act_of redex ≡ Act.Spawns body
    → kind ≡ StepKind.Spawn → redex ≡ Tree.Async body
unfolding act_of
spawn-form s _ _ _ _ _ (Reduces.spawning side other) body is kind = cc
spawn-form s _ _ _ _ _ (Reduces.pure side redex part row) body is kind = cc
spawn-form s _ _ _ _ _ (Reduces.allocation side l sort number v fresh) body is kind = cc
spawn-form s _ _ _ _ _ (Reduces.reading side l v at) body is kind = cc
spawn-form s _ _ _ _ _ (Reduces.peeking l v at) body is kind = cc
spawn-form s _ _ _ _ _ (Reduces.writing side l v) body is kind = cc
spawn-form s _ _ _ _ _ (Reduces.printing side n) body is kind = cc
spawn-form s _ _ _ _ _ Reduces.passing body is kind = cc
spawn-form s _ _ _ _ _ (Reduces.answering device m reply) body is kind = cc

-- From legal labels to rules

plain-not : (kind : StepKind) → kind ≢ StepKind.Print → kind ≢ StepKind.Spawn → IsPlain kind
plain-not StepKind.Print p s = absurd (p refl)
plain-not StepKind.Spawn p s = absurd (s refl)
plain-not StepKind.Local p s = tt
plain-not (StepKind.Alloc l) p s = tt
plain-not StepKind.Read p s = tt
plain-not StepKind.Peek p s = tt
plain-not StepKind.Write p s = tt
plain-not StepKind.Block p s = tt
plain-not (StepKind.Device answer) p s = tt

steps-made : (s : State) (side : Side) (kind : StepKind) (i : ℕ) (t : State) → reduce side kind i s ≡ Some t → Steps s side kind i t
steps-made s side kind i t e = subst (HasSteps s side kind i) e (has_steps s side kind i)

module _ (w v : Weak) where
  plain-rule : (kind : StepKind) (i : ℕ) → w.state.active ≡ Some i → kind ≢ StepKind.Print → kind ≢ StepKind.Spawn → IsPlain kind → held_step kind i w ≡ Some v
      → WeakRule w (Label.Step kind) v
  plain-rule kind i is no_print no_spawn plain e =
      let m = map-gave (moved w) (reduce Side.Protected kind i w.state) v (sym (plain-step w kind i plain) ∙ e) in
      subst (WeakRule w (Label.Step kind)) m.2 (WeakRule.steps i kind m.0 is no_print no_spawn (steps-made w.state Side.Protected kind i m.0 m.1))

  print-rule : (i : ℕ) → w.state.active ≡ Some i → held_step StepKind.Print i w ≡ Some v → WeakRule w (Label.Step StepKind.Print) v
  print-rule i is e =
      let x = held-reduced StepKind.Print i w v e in
      let a = print-made (act_of x.redex) x.can in
      let h = found x.term x.redex Side.Protected x.stands in
      let s = record w.state { output = w.state.output ++ a.0 ∷ [] } in
      let row = row_of w.state Side.Protected StepKind.Print x.redex (unit_tree, record w.state { output = w.state.output ++ a.0 ∷ [] })
      (ap (λ (act : Act). performed_on Side.Protected StepKind.Print act w.state) a.1) in
      let form = print-form w.state (record w.state { output = w.state.output ++ a.0 ∷ [] }) Side.Protected StepKind.Print x.redex unit_tree row a.0 a.1 refl in
      let member : at w.state.members i ≡ Some (plug_all h.frames (Tree.One unary.Print (Tree.Held (Val.Int a.0)))) =
      x.is_member ∙ ap Some (h.term ∙ ap (plug_all h.frames) form) in
      let held = record w { prints = w.prints ++ a.0 ∷ [] } in
      let made : x.made ≡ (unit_tree, record w { prints = w.prints ++ a.0 ∷ [] }) =
      let both : ◌≡◌ {A = Option (Tree × Weak)} (Some x.made) (Some (unit_tree, record w { prints = w.prints ++ a.0 ∷ [] })) =
      sym x.performs ∙ ap (λ (act : Act). held_performed StepKind.Print act w) a.1 in
      cc in
      let result : record {
        state = record w.state { members = change w.state.members i (plug_all h.frames unit_tree) };
        prints = w.prints ++ a.0 ∷ [];
        spawns = w.spawns;
      } ≡ v =
      ap (λ (t : Tree). record {
        state = record w.state { members = change w.state.members i t };
        prints = w.prints ++ a.0 ∷ [];
        spawns = w.spawns;
      }) (sym (h.refilled unit_tree))
      ∙ ap (held_rewritten i x.term) (sym made) ∙ x.is in
      subst (WeakRule w (Label.Step StepKind.Print)) result (WeakRule.prints i h.frames a.0 is member h.on)

  spawn-rule : (i : ℕ) → w.state.active ≡ Some i → held_step StepKind.Spawn i w ≡ Some v → WeakRule w (Label.Step StepKind.Spawn) v
  spawn-rule i is e =
      let x = held-reduced StepKind.Spawn i w v e in
      let a = spawn-made (act_of x.redex) x.can in
      let h = found x.term x.redex Side.Protected x.stands in
      let row = row_of w.state Side.Protected StepKind.Spawn x.redex (unit_tree, record w.state { members = put w.state.members w.state.next a.0; next = w.state.next + 1 })
      (ap (λ (act : Act). performed_on Side.Protected StepKind.Spawn act w.state) a.1) in
      let form = spawn-form w.state (record w.state { members = put w.state.members w.state.next a.0; next = w.state.next + 1 }) Side.Protected StepKind.Spawn x.redex unit_tree row a.0 a.1 refl in
      let member : at w.state.members i ≡ Some (plug_all h.frames (Tree.Async a.0)) =
      x.is_member ∙ ap Some (h.term ∙ ap (plug_all h.frames) form) in
      let made : x.made ≡ (unit_tree, record w { spawns = w.spawns ++ a.0 ∷ [] }) =
      let both : ◌≡◌ {A = Option (Tree × Weak)} (Some x.made) (Some (unit_tree, record w { spawns = w.spawns ++ a.0 ∷ [] })) =
      sym x.performs ∙ ap (λ (act : Act). held_performed StepKind.Spawn act w) a.1 in
      cc in
      let result : record {
        state = record w.state { members = change w.state.members i (plug_all h.frames unit_tree) };
        prints = w.prints;
        spawns = w.spawns ++ a.0 ∷ [];
      } ≡ v =
      ap (λ (t : Tree). record {
        state = record w.state { members = change w.state.members i t };
        prints = w.prints;
        spawns = w.spawns ++ a.0 ∷ [];
      }) (sym (h.refilled unit_tree))
      ∙ ap (held_rewritten i x.term) (sym made) ∙ x.is in
      subst (WeakRule w (Label.Step StepKind.Spawn)) result (WeakRule.spawns i h.frames a.0 is member h.on)

  step-rule : (kind : StepKind) (i : ℕ) → w.state.active ≡ Some i → held_step kind i w ≡ Some v → WeakRule w (Label.Step kind) v
  step-rule StepKind.Print i is e = print-rule i is e
  step-rule StepKind.Spawn i is e = spawn-rule i is e
  step-rule StepKind.Local i is e = plain-rule StepKind.Local i is (λ k. cc) (λ k. cc) tt e
  step-rule (StepKind.Alloc l) i is e = plain-rule (StepKind.Alloc l) i is (λ k. cc) (λ k. cc) tt e
  step-rule StepKind.Read i is e = plain-rule StepKind.Read i is (λ k. cc) (λ k. cc) tt e
  step-rule StepKind.Peek i is e = plain-rule StepKind.Peek i is (λ k. cc) (λ k. cc) tt e
  step-rule StepKind.Write i is e = plain-rule StepKind.Write i is (λ k. cc) (λ k. cc) tt e
  step-rule StepKind.Block i is e = plain-rule StepKind.Block i is (λ k. cc) (λ k. cc) tt e
  step-rule (StepKind.Device answer) i is e = plain-rule (StepKind.Device answer) i is (λ k. cc) (λ k. cc) tt e

  close-rule : (i : ℕ) → w.state.active ≢ Some i → (s : State) → closed i w.state ≡ Some s → moved w s ≡ v → WeakRule w (Label.Close i) v
  close-rule i apart s e is =
      option_and_then_some _ _ _ e (λ term member e1.
      let m = map-gave (λ u. record w.state { members = change w.state.members i (fill term (Tree.Held u)) }) (closed_value (focus term)) s e1 in
      let h = closed_by term (stands term) m.0 m.1 in
      let form = Tree.Unprotected (Tree.Held m.0) in
      let result : fill term (Tree.Held m.0) ≡ plug_all h.0 (Tree.Held m.0) = ap (λ (z : Tree). fill z (Tree.Held m.0)) h.2 ∙ filled h.0 (Tree.Unprotected (Tree.Held m.0)) (Tree.Held m.0) refl in
      subst (WeakRule w (Label.Close i))
      (ap (λ (z : Tree). moved w (record w.state { members = change w.state.members i z })) (sym result) ∙ ap (moved w) m.2 ∙ is)
      (WeakRule.closes i h.0 m.0 apart (member ∙ ap Some h.2) h.1))

  pub weak_rule_of : (label : Label) → weak_after w label ≡ Some v → WeakRule w label v
  unfolding weak_after
  weak_rule_of (Label.Activate i) e =
      let b = if-gave (holds_nothing w) (option_map (moved w) (after w.state (Label.Activate i))) v e in
      let n = none-held w.prints w.spawns b.0 in
      let m = map-gave (moved w) (after w.state (Label.Activate i)) v b.1 in
      subst (WeakRule w (Label.Activate i)) m.2 (WeakRule.activates i m.0 n.0 n.1 (rule_of w.state (Label.Activate i) m.0 m.1))
  weak_rule_of (Label.Step kind) e = option_and_then_some _ _ _ e (λ i is e1. step-rule kind i is e1)
  weak_rule_of Label.Leave e =
      let m = map-gave (λ (s : State). with_held_released (moved w s)) (after w.state Label.Leave) v e in
      subst (WeakRule w Label.Leave) m.2 (WeakRule.leaves m.0 (with_held_released (moved w m.0)) (rule_of w.state Label.Leave m.0 m.1) (releases-of w m.0))
  weak_rule_of Label.End e =
      let m = map-gave (λ (s : State). with_held_released (moved w s)) (after w.state Label.End) v e in
      subst (WeakRule w Label.End) m.2 (WeakRule.ends m.0 (with_held_released (moved w m.0)) (rule_of w.state Label.End m.0 m.1) (releases-of w m.0))
  weak_rule_of (Label.Free i kind) e =
      let b = if-gave (is_resting w.state.active i && may_free w.state.active kind) (option_map (moved w) (reduce Side.Unprotected kind i w.state)) v e in
      let both = both-true (is_resting w.state.active i) (may_free w.state.active kind) b.0 in
      let m = map-gave (moved w) (reduce Side.Unprotected kind i w.state) v b.1 in
      subst (WeakRule w (Label.Free i kind)) m.2
      (WeakRule.frees i kind m.0 (resting-other w.state.active i both.0) (peek-idle w.state.active kind both.1) (steps-made w.state Side.Unprotected kind i m.0 m.1))
  weak_rule_of (Label.Close i) e =
      let b = if-gave (is_resting w.state.active i) (option_map (moved w) (closed i w.state)) v e in
      let m = map-gave (moved w) (closed i w.state) v b.1 in
      close-rule i (resting-other w.state.active i b.0) m.0 m.1 m.2

-- From rules to legal labels

held-at : (w : Weak) (i : ℕ) (frames : List Frame) (redex : Tree) (found_at : at w.state.members i ≡ Some (plug_all frames redex))
    → fill (plug_all frames redex) unit_tree ≡ plug_all frames unit_tree → refilled w.state.members i unit_tree ≡ change w.state.members i (plug_all frames unit_tree)
held-at w i frames redex found_at fills =
    ap (λ (o : Option Tree). option_map_or (λ z. change w.state.members i (fill z unit_tree)) o w.state.members) found_at ∙ ap (change w.state.members i) fills

pub weak_after_of : (w v : Weak) (label : Label) → WeakRule w label v → weak_after w label ≡ Some v
unfolding act_of
weak_after_of w _ _ (WeakRule.activates i s prints spawns rule) =
    activate-free w i (held-none w prints spawns) ∙ ap (option_map (moved w)) (after_of w.state (Label.Activate i) s rule)
weak_after_of w _ _ (WeakRule.steps i kind s is no_print no_spawn steps) =
    step-active w kind i is ∙ plain-step w kind i (plain-not kind no_print no_spawn) ∙ ap (option_map (moved w)) (reduce_of w.state Side.Protected kind i s steps)
weak_after_of w _ _ (WeakRule.prints i frames n is member on) =
    let redex = Tree.One unary.Print (Tree.Held (Val.Int n)) in
    let stands_at : focus (plug_all frames (Tree.One unary.Print (Tree.Held (Val.Int n)))) ≡ Focus.AtRedex Side.Protected (Tree.One unary.Print (Tree.Held (Val.Int n))) =
    focused frames (Tree.One unary.Print (Tree.Held (Val.Int n))) refl ∙ ap (λ (z : Side). Focus.AtRedex z (Tree.One unary.Print (Tree.Held (Val.Int n)))) on in
    let told : Some n ≡ option_and_then (λ term. print_at (focus term)) (at w.state.members i) =
    sym (ap (option_and_then (λ term. print_at (focus term))) member ∙ ap print_at stands_at) in
    step-active w StepKind.Print i is ∙ print-some w i n told
    ∙ ap (λ (ms : List (ℕ × Tree)). Some (record { state = record w.state { members = ms }; prints = w.prints ++ n ∷ []; spawns = w.spawns }))
    (held-at w i frames (Tree.One unary.Print (Tree.Held (Val.Int n))) member (filled frames (Tree.One unary.Print (Tree.Held (Val.Int n))) unit_tree refl))
weak_after_of w _ _ (WeakRule.spawns i frames body is member on) =
    let stands_at : focus (plug_all frames (Tree.Async body)) ≡ Focus.AtRedex Side.Protected (Tree.Async body) =
    focused frames (Tree.Async body) refl ∙ ap (λ (z : Side). Focus.AtRedex z (Tree.Async body)) on in
    let told : Some body ≡ option_and_then (λ term. body_at (focus term)) (at w.state.members i) =
    sym (ap (option_and_then (λ term. body_at (focus term))) member ∙ ap body_at stands_at) in
    step-active w StepKind.Spawn i is ∙ spawn-some w i body told
    ∙ ap (λ (ms : List (ℕ × Tree)). Some (record { state = record w.state { members = ms }; prints = w.prints; spawns = w.spawns ++ body ∷ [] }))
    (held-at w i frames (Tree.Async body) member (filled frames (Tree.Async body) unit_tree refl))
weak_after_of w _ _ (WeakRule.leaves s v rule releases) =
    leave-is w ∙ ap (option_map (λ z. with_held_released (moved w z))) (after_of w.state Label.Leave s rule) ∙ ap Some (released-by w s v releases)
weak_after_of w _ _ (WeakRule.ends s v rule releases) =
    end-is w ∙ ap (option_map (λ z. with_held_released (moved w z))) (after_of w.state Label.End s rule) ∙ ap Some (released-by w s v releases)
weak_after_of w _ _ (WeakRule.frees i kind s apart idle steps) =
    free-may w i kind (true-both (is_resting w.state.active i) (may_free w.state.active kind) (other-resting w.state.active i apart) (idle-peek w.state.active kind idle))
    ∙ ap (option_map (moved w)) (reduce_of w.state Side.Unprotected kind i s steps)
weak_after_of w _ _ (WeakRule.closes i frames v apart member on) =
    close-may w i (other-resting w.state.active i apart) ∙ ap (option_map (moved w)) (close_of w.state i frames v member on)

-- Runs

pub weak_begins : (program : Tree) (w : Weak) → (w ≡ weak_start program) ↔ WeakBegins program w
weak_begins program w = (
  λ e. record {
    state = (begins program w.state).0 (ap (λ (z : Weak). z.state) e);
    prints = ap (λ (z : Weak). z.prints) e;
    spawns = ap (λ (z : Weak). z.spawns) e;
  },
  λ b. let s = (begins program w.state).1 b.state in λ i. record { state = s i; prints = b.prints i; spawns = b.spawns i },
)

weak_runs_by : (w : Weak) (labels : List Label) (v : Weak) → weak_run w labels ≡ Some v → WeakRuns w labels v
weak_runs_by w [] v e = let same : w ≡ v = cc in subst (WeakRuns w []) same (WeakRuns.none w)
weak_runs_by w (label ∷ labels) v e =
    option_and_then_some _ _ _ e (λ x first rest. WeakRuns.more w x v label labels (weak_rule_of w x label first) (weak_runs_by x labels v rest))

weak_run_of : (w : Weak) (labels : List Label) (v : Weak) → WeakRuns w labels v → weak_run w labels ≡ Some v
weak_run_of _ _ _ (WeakRuns.none w) = refl
weak_run_of _ _ _ (WeakRuns.more w v u label labels rule runs) =
    ap (option_and_then (λ (z : Weak). weak_run z labels)) (weak_after_of w v label rule) ∙ weak_run_of v labels u runs

pub weak_runs : (w : Weak) (labels : List Label) (v : Weak) → (weak_run w labels ≡ Some v) ↔ WeakRuns w labels v
weak_runs w labels v = (weak_runs_by w labels v, weak_run_of w labels v)
