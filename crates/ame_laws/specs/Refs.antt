-- The `ref` forms of a term in reading order, and the types of what they store, form by form.
use Rattle.std.specs.Prelude.{◌≡◌, ℕ, Bool, true, false, List, [], ◌∷◌, ◌++◌, Option, Some, None, slice_get}
use Rattle.ame_term.specs.Tree.{Typ, OwnName, Head, Val, Tree, Trees}
use Rattle.ame_term.specs.Signature.{Signature}
use Rattle.ame_term.specs.Scope.{Scope, bind}
use Rattle.ame_term.specs.HasType.{HasType}
use Rattle.ame_term.specs.declared.types.Sort.{Sort}
use Rattle.ame_term.specs.declared.types.TyNo.{TyNo}
use Rattle.ame_term.specs.declared.types.Effect.{Effect}
use Rattle.ame_term.specs.declared.types.Unary.{Unary}
use Rattle.ame_term.specs.declared.types.Unary.TheVariants as unary
use Rattle.ame_term.specs.declared.types.Binary.{Binary}

-- whether a form with one part is a `ref` form
abbrev pub is_ref : Unary → Bool
is_ref (unary.Ref sort number) = true
is_ref _ = false

-- a `ref` form, before those that stand in its part
abbrev pub own_form : Unary → Tree → List Tree → List Tree
own_form (unary.Ref sort number) part others = Tree.One (unary.Ref sort number) part ∷ others
own_form _ part others = others

unfoldable mutual
  -- the `ref` forms of a term, in reading order
  pub ref_forms : Tree → List Tree
  ref_forms (Tree.Held v) = []
  ref_forms (Tree.Var x) = []
  ref_forms (Tree.Lambda head body) = ref_forms body
  ref_forms (Tree.Let x bound body) = ref_forms bound ++ ref_forms body
  ref_forms (Tree.Do parts) = ref_forms_among parts
  ref_forms (Tree.If test then_part else_part) = ref_forms test ++ ref_forms then_part ++ ref_forms else_part
  ref_forms (Tree.Async body) = ref_forms body
  ref_forms (Tree.Unprotected part) = ref_forms part
  ref_forms (Tree.One op part) = own_form op part (ref_forms part)
  ref_forms (Tree.Two op left right) = ref_forms left ++ ref_forms right

  pub ref_forms_among : Trees → List Tree
  ref_forms_among Trees.None = []
  ref_forms_among (Trees.More part rest) = ref_forms part ++ ref_forms_among rest

-- the `ref` form of a program with this number is of this sort
abbrev pub HasRefForm : Tree → Sort → TyNo → Type 0
HasRefForm program sort number = (part : Tree) × (slice_get (ref_forms program) number.0 ≡ Some (Tree.One (unary.Ref sort number) part))

-- for a signature, and cells with their sorts and content types
module _ (signature : Signature) (cells : ℕ → Option (Sort × Typ)) where
  mutual
    -- a term's `ref` forms, in reading order, store values of these types
    pub data HasRefs : Scope → Effect → Tree → List Typ → Type 0 where
      held : {g : Scope} {q : Effect} {v : Val} → HasRefs g q (Tree.Held v) []
      name : {g : Scope} {q : Effect} {x : ℕ} → HasRefs g q (Tree.Var x) []
      function : {g : Scope} {q : Effect} {head : Head} {body : Tree} {ts : List Typ} → head.own ≡ None →
          HasRefs (bind head.param head.param_type g) head.effect body ts → HasRefs g q (Tree.Lambda head body) ts
      recursive : {g : Scope} {q : Effect} {head : Head} {own : OwnName} {body : Tree} {ts : List Typ} → head.own ≡ Some own →
          HasRefs (bind head.param head.param_type (bind own.name (Typ.Fun head.effect head.param_type own.result) g)) head.effect body ts →
          HasRefs g q (Tree.Lambda head body) ts
      binding : {g : Scope} {q : Effect} {x : ℕ} {bound body : Tree} {t : Typ} {ts us : List Typ} → HasType signature cells g q bound t →
          HasRefs g q bound ts → HasRefs (bind x t g) q body us → HasRefs g q (Tree.Let x bound body) (ts ++ us)
      sequence : {g : Scope} {q : Effect} {parts : Trees} {ts : List Typ} → HaveRefs g q parts ts → HasRefs g q (Tree.Do parts) ts
      choice : {g : Scope} {q : Effect} {test then_part else_part : Tree} {ts us ws : List Typ} →
          HasRefs g q test ts → HasRefs g q then_part us → HasRefs g q else_part ws → HasRefs g q (Tree.If test then_part else_part) (ts ++ us ++ ws)
      async : {g : Scope} {q : Effect} {body : Tree} {ts : List Typ} → HasRefs g Effect.Protected body ts → HasRefs g q (Tree.Async body) ts
      unprotected : {g : Scope} {q : Effect} {part : Tree} {ts : List Typ} → HasRefs g Effect.Unprotected part ts → HasRefs g q (Tree.Unprotected part) ts
      reference : {g : Scope} {q : Effect} {sort : Sort} {number : TyNo} {part : Tree} {t : Typ} {ts : List Typ} → HasType signature cells g q part t →
          HasRefs g q part ts → HasRefs g q (Tree.One (unary.Ref sort number) part) (t ∷ ts)
      one : {g : Scope} {q : Effect} {op : Unary} {part : Tree} {ts : List Typ} → is_ref op ≡ false →
          HasRefs g q part ts → HasRefs g q (Tree.One op part) ts
      two : {g : Scope} {q : Effect} {op : Binary} {left right : Tree} {ts us : List Typ} →
          HasRefs g q left ts → HasRefs g q right us → HasRefs g q (Tree.Two op left right) (ts ++ us)

    -- the same of the parts of a `do` form
    pub data HaveRefs : Scope → Effect → Trees → List Typ → Type 0 where
      none : {g : Scope} {q : Effect} → HaveRefs g q Trees.None []
      more : {g : Scope} {q : Effect} {part : Tree} {rest : Trees} {ts us : List Typ} →
          HasRefs g q part ts → HaveRefs g q rest us → HaveRefs g q (Trees.More part rest) (ts ++ us)

-- a `ref` form whose part has this type, in some scope and under some effect
abbrev pub StoresType : Signature → (ℕ → Option (Sort × Typ)) → Tree → Typ → Type 0
StoresType signature cells (Tree.One (unary.Ref sort number) part) t = (g : Scope) × (q : Effect) × HasType signature cells g q part t
StoresType signature cells _ t = ⊥
