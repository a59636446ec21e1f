-- The types of terms. Each row of the table computes a form's type or its first fault. Separation of
-- protected and unprotected references by effects is after Abadi, Birrell, Harris and Isard (POPL
-- 2008); the effect that fits both, peeks, pairs and the order of the tests are ours.
use Rattle.std.specs.Prelude.{◌≡◌, ℕ, ◌+◌, Bool, true, false, ◌&&◌, List, [], ◌∷◌, ◌++◌, Option, Some, None, Ok, Err, slice_index, nat_lt}
use Rattle.ame_term.specs.Tree.{Typ, OwnName, Val, Tree, Trees}
use Rattle.ame_term.specs.Operators.{operator}
use Rattle.ame_term.specs.Scope.{Scope, unscoped, bind, within}
use Rattle.ame_term.specs.SourceTerm.{nodes}
use Rattle.ame_term.specs.Shown.{Shown, TypeOutcome, type_mismatch, no_function, wrong_effect, wrong_sort, no_reference, misplaced_block, misplaced_unprotected, no_device, not_unit, no_pair}
use Rattle.ame_term.specs.declared.types.Sort.{Sort}
use Rattle.ame_term.specs.declared.types.Effect.{Effect}
use Rattle.ame_term.specs.declared.types.Op.{Op}
use Rattle.ame_term.specs.declared.types.Unary.{Unary}
use Rattle.ame_term.specs.declared.types.Unary.TheVariants as unary
use Rattle.ame_term.specs.declared.types.Binary.{Binary}
use Rattle.ame_term.specs.declared.types.Binary.TheVariants as binary

-- The tests.

abbrev pub same_sort : Sort → Sort → Bool
same_sort Sort.Protected Sort.Protected = true
same_sort Sort.Unprotected Sort.Unprotected = true
same_sort _ _ = false

abbrev pub same_effect : Effect → Effect → Bool
same_effect Effect.Protected Effect.Protected = true
same_effect Effect.Unprotected Effect.Unprotected = true
same_effect Effect.Either Effect.Either = true
same_effect _ _ = false

unfoldable pub same_type : Typ → Typ → Bool
same_type Typ.Unit Typ.Unit = true
same_type Typ.Bool Typ.Bool = true
same_type Typ.Int Typ.Int = true
same_type (Typ.Ref sort content) (Typ.Ref sort' content') = same_sort sort sort' && same_type content content'
same_type (Typ.Fun effect param result) (Typ.Fun effect' param' result') =
    same_effect effect effect' && (same_type param param' && same_type result result')
same_type (Typ.Pair first second) (Typ.Pair first' second') = same_type first first' && same_type second second'
same_type _ _ = false

-- whether a reference of the sort may be read and written under the effect
abbrev pub touches : Sort → Effect → Bool
touches Sort.Protected Effect.Protected = true
touches Sort.Unprotected Effect.Unprotected = true
touches _ _ = false

-- whether a function of the first effect may be called under the second
abbrev pub fits : Effect → Effect → Bool
fits Effect.Either q = true
fits effect q = same_effect effect q

-- a fault
abbrev pub breaks : ℕ → ℕ → Shown → Shown → TypeOutcome
breaks rule place found wanted = Err (record { rule = rule; place = place; found = found; wanted = wanted })

-- a part, and then the rest, which gets the part's type
abbrev pub then_ : TypeOutcome → (Typ → TypeOutcome) → TypeOutcome
then_ (Ok t) rest = rest t
then_ (Err fault) rest = Err fault

-- the rest, if the test holds; otherwise a fault
abbrev pub need : Bool → TypeOutcome → TypeOutcome → TypeOutcome
need true fault rest = rest
need false fault rest = fault

-- the rest, if the part at the place has the wanted type
abbrev pub want : ℕ → Typ → Typ → TypeOutcome → TypeOutcome
want place found wanted rest = need (same_type found wanted) (breaks type_mismatch place (Shown.Ty found) (Shown.Ty wanted)) rest

-- the rest, if the part at the place is Unit
abbrev pub want_unit : ℕ → Typ → TypeOutcome → TypeOutcome
want_unit place found rest = need (same_type found Typ.Unit) (breaks not_unit place (Shown.Ty found) (Shown.Ty Typ.Unit)) rest

-- the rest, if the ambient effect of the form at the place is the wanted one
abbrev pub want_effect : ℕ → ℕ → Effect → Effect → TypeOutcome → TypeOutcome
want_effect rule place q wanted rest = need (same_effect q wanted) (breaks rule place (Shown.Effect q) (Shown.Effect wanted)) rest

-- The rows. Each takes the place of the form, `at`, and of its parts, the ambient effect `q` if it
-- is tested, and the outcomes of the parts.

abbrev pub function_row : Option OwnName → Effect → Typ → ℕ → TypeOutcome → TypeOutcome
function_row None effect param body_at body = then_ body (λ t. Ok (Typ.Fun effect param t))
function_row (Some own) effect param body_at body =
    then_ body (λ t. want body_at t own.result (Ok (Typ.Fun effect param own.result)))

-- a call of what has the type, once its argument is typed
abbrev pub call_row : ℕ → ℕ → ℕ → Effect → Typ → TypeOutcome → TypeOutcome
call_row at function_at argument_at q (Typ.Fun effect param result) argument =
    then_ argument (λ t. want argument_at t param
    (need (fits effect q) (breaks wrong_effect at (Shown.Effect effect) (Shown.Effect q)) (Ok result)))
call_row at function_at argument_at q t argument = breaks no_function function_at (Shown.Ty t) Shown.Nothing

abbrev pub app_row : ℕ → ℕ → ℕ → Effect → TypeOutcome → TypeOutcome → TypeOutcome
app_row at function_at argument_at q function argument =
    then_ function (λ t. call_row at function_at argument_at q t argument)

-- a part of a `do` form before the others, if there are any
abbrev pub part_row : Trees → ℕ → TypeOutcome → TypeOutcome → TypeOutcome
part_row Trees.None at part others = part
part_row (Trees.More _ _) at part others = then_ part (λ t. want_unit at t others)

abbrev pub if_row : ℕ → ℕ → TypeOutcome → TypeOutcome → TypeOutcome → TypeOutcome
if_row test_at else_at test then_part else_part =
    then_ test (λ t. want test_at t Typ.Bool
    (then_ then_part (λ u. then_ else_part (λ v. want else_at v u (Ok u)))))

-- what an operator gives
abbrev pub op_type : Op → Typ
op_type op = (operator op).gives

abbrev pub bin_row : Op → ℕ → ℕ → TypeOutcome → TypeOutcome → TypeOutcome
bin_row op left_at right_at left right =
    then_ left (λ t. want left_at t Typ.Int (then_ right (λ u. want right_at u Typ.Int (Ok (op_type op)))))

abbrev pub not_row : ℕ → TypeOutcome → TypeOutcome
not_row part_at part = then_ part (λ t. want part_at t Typ.Bool (Ok Typ.Bool))

abbrev pub ref_row : Sort → TypeOutcome → TypeOutcome
ref_row sort part = then_ part (λ t. Ok (Typ.Ref sort t))

-- what is read through the type
abbrev pub read_row : ℕ → ℕ → Effect → Typ → TypeOutcome
read_row at part_at q (Typ.Ref sort content) = need (touches sort q) (breaks wrong_sort at (Shown.Sort sort) (Shown.Effect q)) (Ok content)
read_row at part_at q t = breaks no_reference part_at (Shown.Ty t) Shown.Nothing

abbrev pub get_row : ℕ → ℕ → Effect → TypeOutcome → TypeOutcome
get_row at part_at q part = then_ part (λ t. read_row at part_at q t)

-- what is peeked at through the type
abbrev pub peeked_row : ℕ → ℕ → Typ → TypeOutcome
peeked_row at part_at (Typ.Ref Sort.Protected content) = Ok content
peeked_row at part_at (Typ.Ref Sort.Unprotected content) = breaks wrong_sort at (Shown.Sort Sort.Unprotected) (Shown.Sort Sort.Protected)
peeked_row at part_at t = breaks no_reference part_at (Shown.Ty t) Shown.Nothing

abbrev pub peek_row : ℕ → ℕ → Effect → TypeOutcome → TypeOutcome
peek_row at part_at q part = want_effect wrong_effect at q Effect.Unprotected (then_ part (λ t. peeked_row at part_at t))

-- a write through the type, of the content
abbrev pub write_row : ℕ → ℕ → ℕ → Effect → Typ → TypeOutcome → TypeOutcome
write_row at cell_at content_at q (Typ.Ref sort wanted) content =
    then_ content (λ t. want content_at t wanted
    (need (touches sort q) (breaks wrong_sort at (Shown.Sort sort) (Shown.Effect q)) (Ok Typ.Unit)))
write_row at cell_at content_at q t content = breaks no_reference cell_at (Shown.Ty t) Shown.Nothing

abbrev pub set_row : ℕ → ℕ → ℕ → Effect → TypeOutcome → TypeOutcome → TypeOutcome
set_row at cell_at content_at q cell content = then_ cell (λ t. write_row at cell_at content_at q t content)

abbrev pub async_row : ℕ → TypeOutcome → TypeOutcome
async_row body_at body = then_ body (λ t. want_unit body_at t (Ok Typ.Unit))

abbrev pub program_row : ℕ → TypeOutcome → TypeOutcome
program_row at program = then_ program (λ t. want_unit at t (Ok Typ.Unit))

abbrev pub block_row : ℕ → ℕ → Effect → TypeOutcome → TypeOutcome
block_row at part_at q part =
    want_effect misplaced_block at q Effect.Protected (then_ part (λ t. want part_at t Typ.Bool (Ok Typ.Unit)))

abbrev pub unprotected_row : ℕ → Effect → TypeOutcome → TypeOutcome
unprotected_row at q part = want_effect misplaced_unprotected at q Effect.Protected part

abbrev pub print_row : ℕ → TypeOutcome → TypeOutcome
print_row part_at part = then_ part (λ t. want part_at t Typ.Int (Ok Typ.Unit))

abbrev pub device_row : ℕ → ℕ → ℕ → ℕ → Effect → TypeOutcome → TypeOutcome
device_row devices at part_at device q part =
    want_effect wrong_effect at q Effect.Unprotected
    (need (nat_lt device devices) (breaks no_device at (Shown.Device device) (Shown.Device devices))
    (then_ part (λ t. want part_at t Typ.Int (Ok Typ.Int))))

abbrev pub pairing_row : TypeOutcome → TypeOutcome → TypeOutcome
pairing_row first second = then_ first (λ t. then_ second (λ u. Ok (Typ.Pair t u)))

-- the first part of the type
abbrev pub first_of : ℕ → Typ → TypeOutcome
first_of part_at (Typ.Pair first second) = Ok first
first_of part_at t = breaks no_pair part_at (Shown.Ty t) Shown.Nothing

-- its second part
abbrev pub second_of : ℕ → Typ → TypeOutcome
second_of part_at (Typ.Pair first second) = Ok second
second_of part_at t = breaks no_pair part_at (Shown.Ty t) Shown.Nothing

abbrev pub first_row : ℕ → TypeOutcome → TypeOutcome
first_row part_at part = then_ part (λ t. first_of part_at t)

abbrev pub second_row : ℕ → TypeOutcome → TypeOutcome
second_row part_at part = then_ part (λ t. second_of part_at t)

-- a form with one part, if there are this many devices
abbrev pub unary_row : ℕ → Unary → ℕ → ℕ → Effect → TypeOutcome → TypeOutcome
unary_row devices unary.Not at part_at q part = not_row part_at part
unary_row devices (unary.Ref sort number) at part_at q part = ref_row sort part
unary_row devices unary.Get at part_at q part = get_row at part_at q part
unary_row devices unary.Peek at part_at q part = peek_row at part_at q part
unary_row devices unary.Block at part_at q part = block_row at part_at q part
unary_row devices unary.Print at part_at q part = print_row part_at part
unary_row devices (unary.Call device) at part_at q part = device_row devices at part_at device q part
unary_row devices unary.First at part_at q part = first_row part_at part
unary_row devices unary.Second at part_at q part = second_row part_at part

-- a form with two parts
abbrev pub binary_row : Binary → ℕ → ℕ → ℕ → Effect → TypeOutcome → TypeOutcome → TypeOutcome
binary_row binary.App at left_at right_at q left right = app_row at left_at right_at q left right
binary_row (binary.Bin op) at left_at right_at q left right = bin_row op left_at right_at left right
binary_row binary.Set at left_at right_at q left right = set_row at left_at right_at q left right
binary_row binary.Pair at left_at right_at q left right = pairing_row left right

-- Terms that no program text has: a name that isn't bound, a location without a cell, a `do` without parts.
abbrev pub stray : ℕ → TypeOutcome
stray at = breaks 0 at Shown.Nothing Shown.Nothing

-- the type that is known, if one is
abbrev pub known : ℕ → Option Typ → TypeOutcome
known at None = stray at
known at (Some t) = Ok t

-- a cell's reference type
abbrev pub cell_type : Option (Sort × Typ) → Option Typ
cell_type None = None
cell_type (Some cell) = Some (Typ.Ref cell.0 cell.1)

-- The table, for a number of devices, and cells with their sorts and content types. A term's nodes
-- have places by their numbers in preorder, and the term's own number is given.
module _ (devices : ℕ) (cells : ℕ → Option (Sort × Typ)) where
  unfoldable mutual
    -- the type of a term under an ambient effect, or its first fault
    pub typed : (ℕ → ℕ) → Scope → Effect → ℕ → Tree → TypeOutcome
    typed places names q i (Tree.Held v) = typed_value (places i) v
    typed places names q i (Tree.Var x) = known (places i) (names x)
    typed places names q i (Tree.Lambda head body) =
        function_row head.own head.effect head.param_type (places (i + 1))
        (typed places (within head.effect head.own head.param head.param_type names) head.effect (i + 1) body)
    typed places names q i (Tree.Let x bound body) =
        then_ (typed places names q (i + 1) bound) (λ t. typed places (bind x t names) q (i + 1 + nodes bound) body)
    typed places names q i (Tree.Do parts) = typed_parts places names q (i + 1) parts
    typed places names q i (Tree.If test then_part else_part) =
        if_row (places (i + 1)) (places (i + 1 + nodes test + nodes then_part))
        (typed places names q (i + 1) test) (typed places names q (i + 1 + nodes test) then_part)
        (typed places names q (i + 1 + nodes test + nodes then_part) else_part)
    typed places names q i (Tree.Async body) = async_row (places (i + 1)) (typed places names Effect.Protected (i + 1) body)
    typed places names q i (Tree.Unprotected part) = unprotected_row (places i) q (typed places names Effect.Unprotected (i + 1) part)
    typed places names q i (Tree.One op part) =
        unary_row devices op (places i) (places (i + 1)) q (typed places names q (i + 1) part)
    typed places names q i (Tree.Two op left right) =
        binary_row op (places i) (places (i + 1)) (places (i + 1 + nodes left)) q
        (typed places names q (i + 1) left) (typed places names q (i + 1 + nodes left) right)

    -- the type of the last part of a `do` form, whose parts begin at this number
    pub typed_parts : (ℕ → ℕ) → Scope → Effect → ℕ → Trees → TypeOutcome
    typed_parts places names q i Trees.None = stray (places i)
    typed_parts places names q i (Trees.More part rest) =
        part_row rest (places i) (typed places names q i part) (typed_parts places names q (i + nodes part) rest)

    -- the type of a value held at a place; a held function is typed as its form, with no names around it
    pub typed_value : ℕ → Val → TypeOutcome
    typed_value at Val.Unit = Ok Typ.Unit
    typed_value at (Val.Bool b) = Ok Typ.Bool
    typed_value at (Val.Int n) = Ok Typ.Int
    typed_value at (Val.Loc l) = known at (cell_type (cells l))
    typed_value at (Val.Fun head body) =
        function_row head.own head.effect head.param_type at
        (typed (λ _. at) (within head.effect head.own head.param head.param_type unscoped) head.effect 0 body)
    typed_value at (Val.Pair first second) = pairing_row (typed_value at first) (typed_value at second)

  -- the rest, which gets the type of a part that has one
  abbrev pub under : TypeOutcome → (Typ → List Typ) → List Typ
  under (Ok t) rest = rest t
  under (Err fault) rest = []

  -- a `ref` form stores values of its part's type, before those that stand in the part
  abbrev pub own_ref_type : Unary → TypeOutcome → List Typ → List Typ
  own_ref_type (unary.Ref sort number) part others = under part (λ t. t ∷ others)
  own_ref_type _ part others = others

  unfoldable mutual
    -- the types of the values that the `ref` forms of a typed term store, in the order of the text
    pub ref_types_in : (ℕ → ℕ) → Scope → Effect → ℕ → Tree → List Typ
    ref_types_in places names q i (Tree.Held v) = []
    ref_types_in places names q i (Tree.Var x) = []
    ref_types_in places names q i (Tree.Lambda head body) =
        ref_types_in places (within head.effect head.own head.param head.param_type names) head.effect (i + 1) body
    ref_types_in places names q i (Tree.Let x bound body) =
        ref_types_in places names q (i + 1) bound ++
        under (typed places names q (i + 1) bound) (λ t. ref_types_in places (bind x t names) q (i + 1 + nodes bound) body)
    ref_types_in places names q i (Tree.Do parts) = ref_types_in_parts places names q (i + 1) parts
    ref_types_in places names q i (Tree.If test then_part else_part) =
        ref_types_in places names q (i + 1) test ++ ref_types_in places names q (i + 1 + nodes test) then_part ++
        ref_types_in places names q (i + 1 + nodes test + nodes then_part) else_part
    ref_types_in places names q i (Tree.Async body) = ref_types_in places names Effect.Protected (i + 1) body
    ref_types_in places names q i (Tree.Unprotected part) = ref_types_in places names Effect.Unprotected (i + 1) part
    ref_types_in places names q i (Tree.One op part) =
        own_ref_type op (typed places names q (i + 1) part) (ref_types_in places names q (i + 1) part)
    ref_types_in places names q i (Tree.Two op left right) =
        ref_types_in places names q (i + 1) left ++ ref_types_in places names q (i + 1 + nodes left) right

    pub ref_types_in_parts : (ℕ → ℕ) → Scope → Effect → ℕ → Trees → List Typ
    ref_types_in_parts places names q i Trees.None = []
    ref_types_in_parts places names q i (Trees.More part rest) =
        ref_types_in places names q i part ++ ref_types_in_parts places names q (i + nodes part) rest

-- a program has no cells before it runs
abbrev pub no_cells : ℕ → Option (Sort × Typ)
no_cells l = None

-- The verdict on a program under protected: Unit, or the first fault. Its nodes have these places.
abbrev pub typing : ℕ → List ℕ → Tree → TypeOutcome
typing devices places term =
    program_row (slice_index places 0) (typed devices no_cells (slice_index places) unscoped Effect.Protected 0 term)

-- the types of the values that its `ref` forms store
abbrev pub ref_types : ℕ → List ℕ → Tree → List Typ
ref_types devices places term = ref_types_in devices no_cells (slice_index places) unscoped Effect.Protected 0 term

-- the program is Unit under protected, and stores values of these types
abbrev pub Accepts : ℕ → List ℕ → Tree → List Typ → Type 0
Accepts devices places term refs = (typing devices places term ≡ Ok Typ.Unit) × (refs ≡ ref_types devices places term)
