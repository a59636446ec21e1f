-- Renaming commutes with focus, fill, substitution and what a redex does.
use Rattle.std.proofs.Common.{◌≡◌, ℕ, ◌+◌, ◌==◌, max, ℤ, Bool, true, false, Option, Some, None, option_map, if◌then◌else◌, refl, sym, ap, ◌∙◌}
use Rattle.ame_term.specs.Tree.{Typ, OwnName, Head, Val, Tree, Trees, is_held}
use Rattle.ame_term.specs.Frame.{Side, same_side}
use Rattle.ame_term.specs.Context.{Focus, here, inside, focus, focus_first, fill, fill_first}
use Rattle.ame_term.proofs.OperatorLemmas.{IsScalar, result-is-scalar}
use Rattle.ame_term.specs.Act.{Act, act_of, rest_act, do_act, if_act, call_act, operator_act, set_act, block_act, unary_act, binary_act, Sides, StepName, step_name, same_step, making, made_there, is_step_told, makes, device_answer}
use Rattle.ame_term.specs.Height.{height, held_height, held_heights}
use Rattle.ame_term.specs.Substitute.{binds, substitute, substitute_all, with_own, entered}
use Rattle.ame_term.specs.State.{at_unprotected, at_value, closed_value}
use Rattle.ame_term.specs.declared.semantics.StepKind.{StepKind}
use Rattle.ame_term.specs.declared.types.Op.{Op}
use Rattle.ame_term.specs.declared.types.Unary.{Unary}
use Rattle.ame_term.specs.declared.types.Unary.TheVariants as unary
use Rattle.ame_term.specs.declared.types.Binary.{Binary}
use Rattle.ame_term.specs.declared.types.Binary.TheVariants as binary
use Rattle.ame_journal.specs.Replayed.{is_false_condition, value_height, coming_height}
use Rattle.ame_calculus.specs.Renamed.{renamed_value, renamed, all_renamed, renamed_kind}

module _ (f : ℕ → ℕ) where
  abbrev pub renamed_focus : Focus → Focus
  renamed_focus (Focus.AtValue v) = Focus.AtValue (renamed_value f v)
  renamed_focus (Focus.AtRedex side redex) = Focus.AtRedex side (renamed f redex)

  abbrev pub renamed_act : Act → Act
  renamed_act (Act.Becomes term) = Act.Becomes (renamed f term)
  renamed_act (Act.Allocates sort number v) = Act.Allocates sort number (renamed_value f v)
  renamed_act (Act.Reads l) = Act.Reads (f l)
  renamed_act (Act.Peeks l) = Act.Peeks (f l)
  renamed_act (Act.Writes l v) = Act.Writes (f l) (renamed_value f v)
  renamed_act (Act.Spawns body) = Act.Spawns (renamed f body)
  renamed_act (Act.Prints n) = Act.Prints n
  renamed_act Act.Passes = Act.Passes
  renamed_act Act.Fails = Act.Fails
  renamed_act (Act.Calls device n) = Act.Calls device n
  renamed_act (Act.Closes v) = Act.Closes (renamed_value f v)
  renamed_act Act.Stuck = Act.Stuck

  -- a choice of two
  chosen : {A B : Type 0} (g : A → B) (b c : Bool) (x y : B) (p q : A) → b ≡ c → x ≡ g p → y ≡ g q → (if b then x else y) ≡ g (if c then p else q)
  chosen g true true x y p q same e h = e
  chosen g false false x y p q same e h = h
  chosen g true false x y p q same e h = cc
  chosen g false true x y p q same e h = cc

  held-same : (t : Tree) → is_held (renamed f t) ≡ is_held t
  unfolding renamed
  held-same (Tree.Held v) = refl
  held-same (Tree.Var x) = refl
  held-same (Tree.Lambda head body) = refl
  held-same (Tree.Let x bound body) = refl
  held-same (Tree.Do parts) = refl
  held-same (Tree.If a b c) = refl
  held-same (Tree.Async body) = refl
  held-same (Tree.Unprotected part) = refl
  held-same (Tree.One op part) = refl
  held-same (Tree.Two op left right) = refl

  inside-renamed : (p : Focus) → inside (renamed_focus p) ≡ renamed_focus (inside p)
  inside-renamed (Focus.AtValue v) = refl
  inside-renamed (Focus.AtRedex side redex) = refl

  mutual
    unfolding focus focus_first renamed all_renamed renamed_value

    pub focus-renamed : (t : Tree) → focus (renamed f t) ≡ renamed_focus (focus t)
    focus-renamed (Tree.Held v) = refl
    focus-renamed (Tree.Var x) = refl
    focus-renamed (Tree.Lambda head body) = refl
    focus-renamed (Tree.Let x bound body) =
        chosen renamed_focus (is_held (renamed f bound)) (is_held bound) (here (Tree.Let x (renamed f bound) (renamed f body))) (focus (renamed f bound)) (here (Tree.Let x bound body)) (focus bound)
        (held-same bound) refl (focus-renamed bound)
    focus-renamed (Tree.Do parts) = focus_first-renamed parts
    focus-renamed (Tree.If a b c) =
        chosen renamed_focus (is_held (renamed f a)) (is_held a) (here (Tree.If (renamed f a) (renamed f b) (renamed f c))) (focus (renamed f a)) (here (Tree.If a b c)) (focus a) (held-same a) refl
        (focus-renamed a)
    focus-renamed (Tree.Async body) = refl
    focus-renamed (Tree.Unprotected part) =
        chosen renamed_focus (is_held (renamed f part)) (is_held part) (here (Tree.Unprotected (renamed f part))) (inside (focus (renamed f part))) (here (Tree.Unprotected part)) (inside (focus part))
        (held-same part) refl (ap inside (focus-renamed part) ∙ inside-renamed (focus part))
    focus-renamed (Tree.One op part) =
        chosen renamed_focus (is_held (renamed f part)) (is_held part) (here (Tree.One op (renamed f part))) (focus (renamed f part)) (here (Tree.One op part)) (focus part) (held-same part) refl
        (focus-renamed part)
    focus-renamed (Tree.Two op left right) =
        chosen renamed_focus (is_held (renamed f left)) (is_held left)
        (if is_held (renamed f right) then here (Tree.Two op (renamed f left) (renamed f right)) else focus (renamed f right)) (focus (renamed f left))
        (if is_held right then here (Tree.Two op left right) else focus right) (focus left) (held-same left)
        (chosen renamed_focus (is_held (renamed f right)) (is_held right) (here (Tree.Two op (renamed f left) (renamed f right))) (focus (renamed f right)) (here (Tree.Two op left right)) (focus right)
        (held-same right) refl (focus-renamed right))
        (focus-renamed left)

    focus_first-renamed : (parts : Trees) → focus_first (all_renamed f parts) ≡ renamed_focus (focus_first parts)
    focus_first-renamed Trees.None = refl
    focus_first-renamed (Trees.More part rest) =
        chosen renamed_focus (is_held (renamed f part)) (is_held part) (here (Tree.Do (Trees.More (renamed f part) (all_renamed f rest)))) (focus (renamed f part)) (here (Tree.Do (Trees.More part rest))) (focus part)
        (held-same part) refl (focus-renamed part)

  mutual
    unfolding fill fill_first renamed all_renamed renamed_value

    pub fill-renamed : (t u : Tree) → fill (renamed f t) (renamed f u) ≡ renamed f (fill t u)
    fill-renamed (Tree.Held v) u = refl
    fill-renamed (Tree.Var x) u = refl
    fill-renamed (Tree.Lambda head body) u = refl
    fill-renamed (Tree.Let x bound body) u =
        chosen (renamed f) (is_held (renamed f bound)) (is_held bound) (renamed f u) (Tree.Let x (fill (renamed f bound) (renamed f u)) (renamed f body)) u (Tree.Let x (fill bound u) body)
        (held-same bound) refl (ap (λ (z : Tree). Tree.Let x z (renamed f body)) (fill-renamed bound u))
    fill-renamed (Tree.Do parts) u = fill_first-renamed parts u
    fill-renamed (Tree.If a b c) u =
        chosen (renamed f) (is_held (renamed f a)) (is_held a) (renamed f u) (Tree.If (fill (renamed f a) (renamed f u)) (renamed f b) (renamed f c)) u (Tree.If (fill a u) b c)
        (held-same a) refl (ap (λ (z : Tree). Tree.If z (renamed f b) (renamed f c)) (fill-renamed a u))
    fill-renamed (Tree.Async body) u = refl
    fill-renamed (Tree.Unprotected part) u =
        chosen (renamed f) (is_held (renamed f part)) (is_held part) (renamed f u) (Tree.Unprotected (fill (renamed f part) (renamed f u))) u (Tree.Unprotected (fill part u))
        (held-same part) refl (ap Tree.Unprotected (fill-renamed part u))
    fill-renamed (Tree.One op part) u =
        chosen (renamed f) (is_held (renamed f part)) (is_held part) (renamed f u) (Tree.One op (fill (renamed f part) (renamed f u))) u (Tree.One op (fill part u))
        (held-same part) refl (ap (Tree.One op) (fill-renamed part u))
    fill-renamed (Tree.Two op left right) u =
        chosen (renamed f) (is_held (renamed f left)) (is_held left)
        (if is_held (renamed f right) then renamed f u else Tree.Two op (renamed f left) (fill (renamed f right) (renamed f u))) (Tree.Two op (fill (renamed f left) (renamed f u)) (renamed f right))
        (if is_held right then u else Tree.Two op left (fill right u)) (Tree.Two op (fill left u) right) (held-same left)
        (chosen (renamed f) (is_held (renamed f right)) (is_held right) (renamed f u) (Tree.Two op (renamed f left) (fill (renamed f right) (renamed f u))) u (Tree.Two op left (fill right u))
        (held-same right) refl (ap (Tree.Two op (renamed f left)) (fill-renamed right u)))
        (ap (λ (z : Tree). Tree.Two op z (renamed f right)) (fill-renamed left u))

    fill_first-renamed : (parts : Trees) (u : Tree) → fill_first (all_renamed f parts) (renamed f u) ≡ renamed f (fill_first parts u)
    fill_first-renamed Trees.None u = refl
    fill_first-renamed (Trees.More part rest) u =
        chosen (renamed f) (is_held (renamed f part)) (is_held part) (renamed f u) (Tree.Do (Trees.More (fill (renamed f part) (renamed f u)) (all_renamed f rest))) u (Tree.Do (Trees.More (fill part u) rest))
        (held-same part) refl (ap (λ (z : Tree). Tree.Do (Trees.More z (all_renamed f rest))) (fill-renamed part u))

  mutual
    unfolding substitute substitute_all renamed all_renamed renamed_value

    pub substitute-renamed : (t : Tree) (x : ℕ) (w : Val) → substitute (renamed f t) x (renamed_value f w) ≡ renamed f (substitute t x w)
    substitute-renamed (Tree.Held v) x w = refl
    substitute-renamed (Tree.Var y) x w = chosen (renamed f) (y == x) (y == x) (Tree.Held (renamed_value f w)) (Tree.Var y) (Tree.Held w) (Tree.Var y) refl refl refl
    substitute-renamed (Tree.Lambda head body) x w =
        ap (Tree.Lambda head)
        (chosen (renamed f) (binds head x) (binds head x) (renamed f body) (substitute (renamed f body) x (renamed_value f w)) body (substitute body x w) refl refl (substitute-renamed body x w))
    substitute-renamed (Tree.Let y bound body) x w =
        ap (λ (z : Tree). Tree.Let y z (if y == x then renamed f body else substitute (renamed f body) x (renamed_value f w))) (substitute-renamed bound x w)
        ∙ ap (Tree.Let y (renamed f (substitute bound x w)))
        (chosen (renamed f) (y == x) (y == x) (renamed f body) (substitute (renamed f body) x (renamed_value f w)) body (substitute body x w) refl refl (substitute-renamed body x w))
    substitute-renamed (Tree.Do parts) x w = ap Tree.Do (substitute_all-renamed parts x w)
    substitute-renamed (Tree.If a b c) x w =
        let p = substitute-renamed a x w in
        let q = substitute-renamed b x w in
        let r = substitute-renamed c x w in
        λ i. Tree.If (p i) (q i) (r i)
    substitute-renamed (Tree.Async body) x w = ap Tree.Async (substitute-renamed body x w)
    substitute-renamed (Tree.Unprotected part) x w = ap Tree.Unprotected (substitute-renamed part x w)
    substitute-renamed (Tree.One op part) x w = ap (Tree.One op) (substitute-renamed part x w)
    substitute-renamed (Tree.Two op left right) x w =
        let p = substitute-renamed left x w in
        let q = substitute-renamed right x w in
        λ i. Tree.Two op (p i) (q i)

    substitute_all-renamed : (parts : Trees) (x : ℕ) (w : Val) → substitute_all (all_renamed f parts) x (renamed_value f w) ≡ all_renamed f (substitute_all parts x w)
    substitute_all-renamed Trees.None x w = refl
    substitute_all-renamed (Trees.More part rest) x w =
        let p = substitute-renamed part x w in
        let q = substitute_all-renamed rest x w in
        λ i. Trees.More (p i) (q i)

  own-renamed : (own : Option OwnName) (param : ℕ) (body : Tree) (function : Val) → with_own own param (renamed f body) (renamed_value f function) ≡ renamed f (with_own own param body function)
  own-renamed None param body function = refl
  own-renamed (Some own) param body function =
      chosen (renamed f) (own.name == param) (own.name == param) (renamed f body) (substitute (renamed f body) own.name (renamed_value f function)) body (substitute body own.name function)
      refl refl (substitute-renamed body own.name function)

  entered-renamed : (head : Head) (body : Tree) (v : Val) → entered head (renamed f body) (renamed_value f v) ≡ renamed f (entered head body v)
  unfolding renamed_value
  entered-renamed head body v =
      ap (λ (z : Tree). with_own head.own head.param z (Val.Fun head (renamed f body))) (substitute-renamed body head.param v)
      ∙ own-renamed head.own head.param (substitute body head.param v) (Val.Fun head body)

  -- Acts

  call-renamed : (v w : Val) → call_act (renamed_value f v) (renamed_value f w) ≡ renamed_act (call_act v w)
  unfolding renamed_value
  call-renamed (Val.Fun head body) w = ap Act.Becomes (entered-renamed head body w)
  call-renamed Val.Unit w = refl
  call-renamed (Val.Bool b) w = refl
  call-renamed (Val.Int n) w = refl
  call-renamed (Val.Loc l) w = refl
  call-renamed (Val.Pair first second) w = refl

  if-renamed : (v : Val) (a b : Tree) → if_act (renamed_value f v) (renamed f a) (renamed f b) ≡ renamed_act (if_act v a b)
  unfolding renamed_value
  if-renamed (Val.Bool true) a b = refl
  if-renamed (Val.Bool false) a b = refl
  if-renamed Val.Unit a b = refl
  if-renamed (Val.Int n) a b = refl
  if-renamed (Val.Loc l) a b = refl
  if-renamed (Val.Fun head body) a b = refl
  if-renamed (Val.Pair first second) a b = refl

  scalar-renamed : (v : Val) (t : Typ) → IsScalar v t → renamed_value f v ≡ v
  unfolding renamed_value
  scalar-renamed _ _ (IsScalar.bool b) = refl
  scalar-renamed _ _ (IsScalar.int n) = refl

  operator-renamed : (op : Op) (v w : Val) → operator_act op (renamed_value f v) (renamed_value f w) ≡ renamed_act (operator_act op v w)
  unfolding renamed renamed_value
  operator-renamed op (Val.Int x) (Val.Int y) = ap (λ (z : Val). Act.Becomes (Tree.Held z)) (sym (scalar-renamed _ _ (result-is-scalar op x y)))
  operator-renamed op (Val.Int x) Val.Unit = refl
  operator-renamed op (Val.Int x) (Val.Bool b) = refl
  operator-renamed op (Val.Int x) (Val.Loc l) = refl
  operator-renamed op (Val.Int x) (Val.Fun head body) = refl
  operator-renamed op (Val.Int x) (Val.Pair first second) = refl
  operator-renamed op Val.Unit w = refl
  operator-renamed op (Val.Bool b) w = refl
  operator-renamed op (Val.Loc l) w = refl
  operator-renamed op (Val.Fun head body) w = refl
  operator-renamed op (Val.Pair first second) w = refl

  set-renamed : (v w : Val) → set_act (renamed_value f v) (renamed_value f w) ≡ renamed_act (set_act v w)
  unfolding renamed_value
  set-renamed (Val.Loc l) w = refl
  set-renamed Val.Unit w = refl
  set-renamed (Val.Bool b) w = refl
  set-renamed (Val.Int n) w = refl
  set-renamed (Val.Fun head body) w = refl
  set-renamed (Val.Pair first second) w = refl

  -- a form with one part, by the part
  block-renamed : (v : Val) → block_act (renamed_value f v) ≡ renamed_act (block_act v)
  unfolding renamed_value
  block-renamed (Val.Bool true) = refl
  block-renamed (Val.Bool false) = refl
  block-renamed Val.Unit = refl
  block-renamed (Val.Int n) = refl
  block-renamed (Val.Loc l) = refl
  block-renamed (Val.Fun head body) = refl
  block-renamed (Val.Pair first second) = refl

  unary-renamed : (op : Unary) (v : Val) → unary_act op (renamed_value f v) ≡ renamed_act (unary_act op v)
  unfolding renamed renamed_value
  unary-renamed unary.Block v = block-renamed v
  unary-renamed (unary.Ref sort number) v = refl
  unary-renamed unary.Not Val.Unit = refl
  unary-renamed unary.Not (Val.Bool b) = refl
  unary-renamed unary.Not (Val.Int n) = refl
  unary-renamed unary.Not (Val.Loc l) = refl
  unary-renamed unary.Not (Val.Fun head body) = refl
  unary-renamed unary.Not (Val.Pair first second) = refl
  unary-renamed unary.Get Val.Unit = refl
  unary-renamed unary.Get (Val.Bool b) = refl
  unary-renamed unary.Get (Val.Int n) = refl
  unary-renamed unary.Get (Val.Loc l) = refl
  unary-renamed unary.Get (Val.Fun head body) = refl
  unary-renamed unary.Get (Val.Pair first second) = refl
  unary-renamed unary.Peek Val.Unit = refl
  unary-renamed unary.Peek (Val.Bool b) = refl
  unary-renamed unary.Peek (Val.Int n) = refl
  unary-renamed unary.Peek (Val.Loc l) = refl
  unary-renamed unary.Peek (Val.Fun head body) = refl
  unary-renamed unary.Peek (Val.Pair first second) = refl
  unary-renamed unary.Print Val.Unit = refl
  unary-renamed unary.Print (Val.Bool b) = refl
  unary-renamed unary.Print (Val.Int n) = refl
  unary-renamed unary.Print (Val.Loc l) = refl
  unary-renamed unary.Print (Val.Fun head body) = refl
  unary-renamed unary.Print (Val.Pair first second) = refl
  unary-renamed (unary.Call device) Val.Unit = refl
  unary-renamed (unary.Call device) (Val.Bool b) = refl
  unary-renamed (unary.Call device) (Val.Int n) = refl
  unary-renamed (unary.Call device) (Val.Loc l) = refl
  unary-renamed (unary.Call device) (Val.Fun head body) = refl
  unary-renamed (unary.Call device) (Val.Pair first second) = refl
  unary-renamed unary.First Val.Unit = refl
  unary-renamed unary.First (Val.Bool b) = refl
  unary-renamed unary.First (Val.Int n) = refl
  unary-renamed unary.First (Val.Loc l) = refl
  unary-renamed unary.First (Val.Fun head body) = refl
  unary-renamed unary.First (Val.Pair first second) = refl
  unary-renamed unary.Second Val.Unit = refl
  unary-renamed unary.Second (Val.Bool b) = refl
  unary-renamed unary.Second (Val.Int n) = refl
  unary-renamed unary.Second (Val.Loc l) = refl
  unary-renamed unary.Second (Val.Fun head body) = refl
  unary-renamed unary.Second (Val.Pair first second) = refl

  binary-renamed : (op : Binary) (v w : Val) → binary_act op (renamed_value f v) (renamed_value f w) ≡ renamed_act (binary_act op v w)
  unfolding renamed renamed_value
  binary-renamed binary.App v w = call-renamed v w
  binary-renamed (binary.Bin op) v w = operator-renamed op v w
  binary-renamed binary.Set v w = set-renamed v w
  binary-renamed binary.Pair v w = refl

  rest-renamed : (rest : Trees) → rest_act (all_renamed f rest) ≡ renamed_act (rest_act rest)
  unfolding renamed all_renamed
  rest-renamed Trees.None = refl
  rest-renamed (Trees.More part Trees.None) = refl
  rest-renamed (Trees.More part (Trees.More next rest)) = refl

  do-renamed : (parts : Trees) → do_act (all_renamed f parts) ≡ renamed_act (do_act parts)
  unfolding renamed all_renamed
  do-renamed Trees.None = refl
  do-renamed (Trees.More (Tree.Held v) rest) = rest-renamed rest
  do-renamed (Trees.More _ rest) = refl

  pub act-renamed : (t : Tree) → act_of (renamed f t) ≡ renamed_act (act_of t)
  unfolding act_of renamed renamed_value
  act-renamed (Tree.Held v) = refl
  act-renamed (Tree.Var x) = refl
  act-renamed (Tree.Lambda head body) = refl
  act-renamed (Tree.Let x (Tree.Held v) body) = ap Act.Becomes (substitute-renamed body x v)
  act-renamed (Tree.Let x _ body) = refl
  act-renamed (Tree.Do parts) = do-renamed parts
  act-renamed (Tree.If (Tree.Held v) a b) = if-renamed v a b
  act-renamed (Tree.If _ a b) = refl
  act-renamed (Tree.Async body) = refl
  act-renamed (Tree.Unprotected (Tree.Held v)) = refl
  act-renamed (Tree.Unprotected _) = refl
  act-renamed (Tree.One op (Tree.Held v)) = unary-renamed op v
  act-renamed (Tree.One op _) = refl
  act-renamed (Tree.Two op (Tree.Held v) (Tree.Held w)) = binary-renamed op v w
  act-renamed (Tree.Two op (Tree.Held v) _) = refl
  act-renamed (Tree.Two op _ right) = refl

  -- Steps

  making-renamed : (act : Act) → making (renamed_act act) ≡ making act
  making-renamed (Act.Becomes term) = refl
  making-renamed (Act.Allocates sort number v) = refl
  making-renamed (Act.Reads l) = refl
  making-renamed (Act.Peeks l) = refl
  making-renamed (Act.Writes l v) = refl
  making-renamed (Act.Spawns body) = refl
  making-renamed (Act.Prints n) = refl
  making-renamed Act.Passes = refl
  making-renamed Act.Fails = refl
  making-renamed (Act.Calls device n) = refl
  making-renamed (Act.Closes v) = refl
  making-renamed Act.Stuck = refl

  pub name-renamed : (kind : StepKind) → step_name (renamed_kind f kind) ≡ step_name kind
  name-renamed (StepKind.Alloc l) = refl
  name-renamed StepKind.Local = refl
  name-renamed StepKind.Read = refl
  name-renamed StepKind.Peek = refl
  name-renamed StepKind.Write = refl
  name-renamed StepKind.Spawn = refl
  name-renamed StepKind.Print = refl
  name-renamed StepKind.Block = refl
  name-renamed (StepKind.Device answer) = refl

  pub answer-renamed : (kind : StepKind) → device_answer (renamed_kind f kind) ≡ device_answer kind
  answer-renamed (StepKind.Alloc l) = refl
  answer-renamed StepKind.Local = refl
  answer-renamed StepKind.Read = refl
  answer-renamed StepKind.Peek = refl
  answer-renamed StepKind.Write = refl
  answer-renamed StepKind.Spawn = refl
  answer-renamed StepKind.Print = refl
  answer-renamed StepKind.Block = refl
  answer-renamed (StepKind.Device answer) = refl

  told-renamed : (o : Option StepName) (kind : StepKind) → is_step_told o (renamed_kind f kind) ≡ is_step_told o kind
  told-renamed None kind = refl
  told-renamed (Some name) kind = ap (same_step name) (name-renamed kind)

  pub makes-renamed : (side : Side) (kind : StepKind) (act : Act) → makes side (renamed_kind f kind) (renamed_act act) ≡ makes side kind act
  makes-renamed side kind act =
      ap (λ (row : Option (Sides × StepName)). is_step_told (made_there side row) (renamed_kind f kind)) (making-renamed act) ∙ told-renamed (made_there side (making act)) kind

  -- The places of redexes

  pub unprotected-renamed : (p : Focus) → at_unprotected (renamed_focus p) ≡ at_unprotected p
  unfolding renamed
  unprotected-renamed (Focus.AtValue v) = refl
  unprotected-renamed (Focus.AtRedex Side.Unprotected redex) = refl
  unprotected-renamed (Focus.AtRedex Side.Protected (Tree.Unprotected part)) = refl
  unprotected-renamed (Focus.AtRedex Side.Protected _) = refl

  pub value-renamed : (p : Focus) → at_value (renamed_focus p) ≡ at_value p
  value-renamed (Focus.AtValue v) = refl
  value-renamed (Focus.AtRedex side redex) = refl

  pub closed-renamed : (p : Focus) → closed_value (renamed_focus p) ≡ option_map (renamed_value f) (closed_value p)
  unfolding renamed
  closed-renamed (Focus.AtValue v) = refl
  closed-renamed (Focus.AtRedex Side.Unprotected redex) = refl
  closed-renamed (Focus.AtRedex Side.Protected (Tree.Unprotected (Tree.Held v))) = refl
  closed-renamed (Focus.AtRedex Side.Protected (Tree.Unprotected _)) = refl
  closed-renamed (Focus.AtRedex Side.Protected _) = refl

  block_held-renamed : (v : Val) → is_false_condition (Focus.AtRedex Side.Protected (Tree.One unary.Block (Tree.Held (renamed_value f v)))) ≡ is_false_condition (Focus.AtRedex Side.Protected (Tree.One unary.Block (Tree.Held v)))
  unfolding renamed_value
  block_held-renamed Val.Unit = refl
  block_held-renamed (Val.Bool true) = refl
  block_held-renamed (Val.Bool false) = refl
  block_held-renamed (Val.Int n) = refl
  block_held-renamed (Val.Loc l) = refl
  block_held-renamed (Val.Fun head body) = refl
  block_held-renamed (Val.Pair first second) = refl

  pub condition-renamed : (p : Focus) → is_false_condition (renamed_focus p) ≡ is_false_condition p
  unfolding renamed
  condition-renamed (Focus.AtValue v) = refl
  condition-renamed (Focus.AtRedex Side.Unprotected redex) = refl
  condition-renamed (Focus.AtRedex Side.Protected (Tree.One unary.Block (Tree.Held v))) = block_held-renamed v
  condition-renamed (Focus.AtRedex Side.Protected (Tree.One unary.Block _)) = refl
  condition-renamed (Focus.AtRedex Side.Protected (Tree.One _ part)) = refl
  condition-renamed (Focus.AtRedex Side.Protected _) = refl

  -- Heights

  mutual
    unfolding height held_height held_heights renamed all_renamed renamed_value

    height-renamed : (v : Val) → height (renamed_value f v) ≡ height v
    height-renamed Val.Unit = refl
    height-renamed (Val.Bool b) = refl
    height-renamed (Val.Int n) = refl
    height-renamed (Val.Loc l) = refl
    height-renamed (Val.Fun head body) = ap (λ n. n + 1) (held_height-renamed body)
    height-renamed (Val.Pair first second) =
        let p = height-renamed first in
        let q = height-renamed second in
        λ i. max (p i) (q i) + 1

    held_height-renamed : (t : Tree) → held_height (renamed f t) ≡ held_height t
    held_height-renamed (Tree.Held v) = height-renamed v
    held_height-renamed (Tree.Var x) = refl
    held_height-renamed (Tree.Lambda head body) = held_height-renamed body
    held_height-renamed (Tree.Let x bound body) =
        let p = held_height-renamed bound in
        let q = held_height-renamed body in
        λ i. max (p i) (q i)
    held_height-renamed (Tree.Do parts) = held_heights-renamed parts
    held_height-renamed (Tree.If a b c) =
        let p = held_height-renamed a in
        let q = held_height-renamed b in
        let r = held_height-renamed c in
        λ i. max (p i) (max (q i) (r i))
    held_height-renamed (Tree.Async body) = held_height-renamed body
    held_height-renamed (Tree.Unprotected part) = held_height-renamed part
    held_height-renamed (Tree.One op part) = held_height-renamed part
    held_height-renamed (Tree.Two op left right) =
        let p = held_height-renamed left in
        let q = held_height-renamed right in
        λ i. max (p i) (q i)

    held_heights-renamed : (parts : Trees) → held_heights (all_renamed f parts) ≡ held_heights parts
    held_heights-renamed Trees.None = refl
    held_heights-renamed (Trees.More part rest) =
        let p = held_height-renamed part in
        let q = held_heights-renamed rest in
        λ i. max (p i) (q i)

  pair_height-renamed : (left right : Tree) → value_height (Tree.Two binary.Pair (renamed f left) (renamed f right)) ≡ value_height (Tree.Two binary.Pair left right)
  unfolding renamed height
  pair_height-renamed (Tree.Held v) (Tree.Held w) = height-renamed (Val.Pair v w)
  pair_height-renamed (Tree.Held v) _ = refl
  pair_height-renamed _ right = refl

  value_height-renamed : (t : Tree) → value_height (renamed f t) ≡ value_height t
  unfolding renamed renamed_value
  value_height-renamed (Tree.Lambda head body) = height-renamed (Val.Fun head body)
  value_height-renamed (Tree.Two binary.Pair left right) = pair_height-renamed left right
  value_height-renamed (Tree.Two _ left right) = refl
  value_height-renamed _ = refl

  pub coming-renamed : (side : Side) (p : Focus) → coming_height side (renamed_focus p) ≡ coming_height side p
  coming-renamed side (Focus.AtValue v) = refl
  coming-renamed side (Focus.AtRedex under redex) = ap (λ n. if same_side side under then n else 0) (value_height-renamed redex)
