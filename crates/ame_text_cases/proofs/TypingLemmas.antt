-- The generated program is Unit under the protected effect.
use Rattle.std.proofs.Common.{◌≡◌, refl, ℕ, zero, suc, ◌+◌, ◌<◌, List, [], ◌∷◌, ◌++◌, map, Some, arith}
use Rattle.std.specs.List.{AllByRecursion}
use Rattle.ame_term.specs.Tree.{Typ, Tree, Trees}
use Rattle.ame_term.specs.Scope.{Scope, unscoped, bind}
use Rattle.ame_term.specs.Signature.{unlisted}
use Rattle.ame_term.specs.Typing.{no_cells}
use Rattle.ame_term.specs.HasType as rule
use Rattle.ame_term.specs.HasType.{HasBinary, HasType, HasLast}
use Rattle.ame_term.specs.declared.types.Sort.{Sort}
use Rattle.ame_term.specs.declared.types.Effect.{Effect}
use Rattle.ame_term.specs.declared.types.Op.{Op}
use Rattle.ame_term.specs.declared.types.Op.TheVariants as op
use Rattle.ame_term.specs.declared.types.Binary.TheVariants as binary
use Rattle.ame_parse.specs.Forms.{row}
use Rattle.ame_gen.specs.declared.transfers.Transfer.{Transfer}
use Rattle.ame_gen.specs.Transfers.{accounts, transfers, IsTransfer}
use Rattle.ame_gen.specs.Balances.{initial_balance}
use Rattle.ame_text_cases.specs.Workload.{counter, content, updated, transfer_term, print_term, report_term, with_cells, members_term, workload_term}

-- ---- scopes

abbrev cell_type : Typ
cell_type = Typ.Ref Sort.Protected Typ.Int

-- the names in scope within the cells
abbrev among_cells : List ℕ → Scope → Scope
among_cells [] names = names
among_cells (cell ∷ cells) names = among_cells cells (bind cell cell_type names)

abbrev inner : Scope
inner = among_cells (counter ∷ []) (among_cells accounts unscoped)

is_cell : (x : ℕ) → x < 9 → inner x ≡ Some cell_type
is_cell zero h = refl
is_cell (suc zero) h = refl
is_cell (suc (suc zero)) h = refl
is_cell (suc (suc (suc zero))) h = refl
is_cell (suc (suc (suc (suc zero)))) h = refl
is_cell (suc (suc (suc (suc (suc zero))))) h = refl
is_cell (suc (suc (suc (suc (suc (suc zero)))))) h = refl
is_cell (suc (suc (suc (suc (suc (suc (suc zero))))))) h = refl
is_cell (suc (suc (suc (suc (suc (suc (suc (suc zero)))))))) h = refl
is_cell (suc (suc (suc (suc (suc (suc (suc (suc (suc x))))))))) h = absurd (omega (arith, h))

-- ---- terms

module _ (devices : ℕ) where
  abbrev Has : Tree → Typ → Type 0
  Has e t = HasType (unlisted devices) no_cells inner Effect.Protected e t

  abbrev EndsIn : Trees → Typ → Type 0
  EndsIn parts t = HasLast (unlisted devices) no_cells inner Effect.Protected parts t

  content_typed : (x : ℕ) → x < 9 → Has (content x) Typ.Int
  content_typed x h = rule.one (rule.get {s = Sort.Protected} {t = Typ.Int} refl) (rule.name (is_cell x h))

  updated_typed : (operator : Op) (x n : ℕ) → HasBinary (binary.Bin operator) Effect.Protected Typ.Int Typ.Int Typ.Int → x < 9 → Has (updated operator x n) Typ.Unit
  updated_typed operator x n row h = rule.two (rule.set {s = Sort.Protected} {t = Typ.Int} refl) (rule.name (is_cell x h)) (rule.two row (content_typed x h) (rule.held rule.int))

  on_top : {e : Tree} {parts : Trees} {t : Typ} → Has e Typ.Unit → EndsIn parts t → EndsIn (Trees.More e parts) t
  on_top h (rule.last k) = rule.more h (rule.last k)
  on_top h (rule.more k others) = rule.more h (rule.more k others)

  transfer_typed : (t : Transfer) → IsTransfer t → Has (transfer_term t) Typ.Unit
  transfer_typed t valid =
      let from : t.from < 9 = omega (arith, valid.from) in
      let to : t.to < 9 = omega (arith, valid.to) in
      let last : counter < 9 = omega arith in
      rule.async (rule.sequence
      (on_top (rule.one rule.block (rule.one rule.negation (rule.two (rule.operation op.Less) (content_typed t.from from) (rule.held rule.int))))
      (on_top (updated_typed _ t.from t.amount (rule.operation op.Sub) from)
      (on_top (updated_typed _ t.to t.amount (rule.operation op.Add) to)
      (rule.last (updated_typed _ counter 1 (rule.operation op.Add) last))))))

  print_typed : (x : ℕ) → x < 9 → Has (print_term x) Typ.Unit
  print_typed x h = rule.one rule.print (content_typed x h)

  prints_typed : (x : ℕ) (xs : List ℕ) → x < 9 → AllByRecursion (λ y. y < 9) xs → EndsIn (row (map print_term (x ∷ xs))) Typ.Unit
  prints_typed x [] h all = rule.last (print_typed x h)
  prints_typed x (y ∷ ys) h all = on_top (print_typed x h) (prints_typed y ys all.0 all.1)

  report_typed : (size : ℕ) → Has (report_term size) Typ.Unit
  report_typed size =
      rule.async (rule.sequence
      (on_top (rule.one rule.block (rule.two (rule.operation op.Same) (content_typed counter (omega arith)) (rule.held rule.int)))
      (prints_typed 0 (1 ∷ 2 ∷ 3 ∷ 4 ∷ 5 ∷ 6 ∷ 7 ∷ []) (omega arith)
      (omega arith, (omega arith, (omega arith, (omega arith, (omega arith, (omega arith, (omega arith, tt))))))))))

  members_typed : (size : ℕ) (ts : List Transfer) → AllByRecursion IsTransfer ts → EndsIn (row (map transfer_term ts ++ report_term size ∷ [])) Typ.Unit
  members_typed size [] all = rule.last (report_typed size)
  members_typed size (t ∷ ts) all = on_top (transfer_typed t all.0) (members_typed size ts all.1)

  cells_typed : (ref start : ℕ) (cells : List ℕ) (names : Scope) (body : Tree) (t : Typ) → HasType (unlisted devices) no_cells (among_cells cells names) Effect.Protected body t
      → HasType (unlisted devices) no_cells names Effect.Protected (with_cells ref start cells body) t
  cells_typed ref start [] names body t h = h
  cells_typed ref start (cell ∷ cells) names body t h =
      rule.binding {t = cell_type} (rule.one (rule.reference tt) (rule.held rule.int)) (cells_typed (ref + 1) start cells (bind cell cell_type names) body t h)

  pub workload_has : (seed size : ℕ) → AllByRecursion IsTransfer (transfers seed size) → HasType (unlisted devices) no_cells unscoped Effect.Protected (workload_term seed size) Typ.Unit
  workload_has seed size all =
      let body = rule.sequence (members_typed size (transfers seed size) all) in
      cells_typed 0 (initial_balance size) accounts unscoped (with_cells counter 0 (counter ∷ []) (members_term seed size)) Typ.Unit
      (cells_typed counter 0 (counter ∷ []) (among_cells accounts unscoped) (members_term seed size) Typ.Unit body)
