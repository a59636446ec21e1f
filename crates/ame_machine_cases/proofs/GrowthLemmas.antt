-- A new location gets a type.
use Rattle.std.proofs.Common.{◌≡◌, ℕ, ◌+◌, ◌≤◌, Bool, true, false, List, [], ◌∷◌, Option, Some, None, sym, ap, ◌∙◌, arith}
use Rattle.std.specs.Prelude.{if◌then◌else◌, ◌==◌}
use Rattle.std.specs.List.{AllByRecursion}
use Rattle.ame_term.specs.Tree.{Typ, Val, Tree}
use Rattle.ame_term.specs.Signature.{Signature}
use Rattle.ame_term.specs.declared.types.Sort.{Sort}
use Rattle.ame_laws.specs.Typed.StoreTyping.{StoreTyping, Grows}
use Rattle.ame_laws.specs.Typed.Fragment.{IsValueOf}
use Rattle.ame_laws.specs.Typed.TypedState.{IsStored, IsMember}
use Rattle.ame_laws.proofs.Typed.Weaken.{weaken_cells, weaken_value}
use Rattle.ame_machine.specs.MachineView.{MachineView}
use Rattle.ame_machine.specs.Sound.{IsRunnable}

abbrev pub with_type : ℕ → Sort × Typ → StoreTyping → StoreTyping
with_type n cell types l = if l == n then Some cell else types l

itself : (n : ℕ) → (n == n) ≡ true
itself n = grind arith

differ : (m n : ℕ) → (m ≡ n → ⊥) → (m == n) ≡ false
differ m n apart = grind arith

pub type-here : (n : ℕ) (cell : Sort × Typ) (types : StoreTyping) → with_type n cell types n ≡ Some cell
type-here n cell types = ap (λ (b : Bool). if b then Some cell else types n) (itself n)

type-other : (n l : ℕ) (cell : Sort × Typ) (types : StoreTyping) → (l ≡ n → ⊥) → with_type n cell types l ≡ types l
type-other n l cell types apart = ap (λ (b : Bool). if b then Some cell else types l) (differ l n apart)

module _ (types : StoreTyping) (n : ℕ) (cell : Sort × Typ) (free : (l : ℕ) → n ≤ l → types l ≡ None) where
  pub types-grow : Grows types (with_type n cell types)
  types-grow l here e = type-other n l cell types (λ same. clash (sym (free l (omega arith)) ∙ e)) ∙ e
    where
      clash : ◌≡◌ {A = Option (Sort × Typ)} None (Some here) → ⊥
      clash p = cc

  pub still-free : (l : ℕ) → n + 1 ≤ l → with_type n cell types l ≡ None
  still-free l after = type-other n l cell types (λ same. omega arith) ∙ free l (omega arith)

module _ (signature : Signature) (types later : StoreTyping) (grows : Grows types later) where
  member-grown : (term : Tree) → IsMember signature types term → IsMember signature later term
  member-grown term f = (weaken_cells signature types later grows f.0, f.1)

  members-grown : (bodies : List Tree) → AllByRecursion (λ body. IsMember signature types body) bodies → AllByRecursion (λ body. IsMember signature later body) bodies
  members-grown [] all = tt
  members-grown (body ∷ bodies) all = (member-grown body all.0, members-grown bodies all.1)

  pub runs-grown : (s : MachineView) → IsRunnable signature types s → IsRunnable signature later s
  runs-grown s h = record { member = member-grown s.term h.member; members = members-grown s.spawns h.members; standing = h.standing }

  pub value-grown : (v : Val) (t : Typ) → IsValueOf signature types v t → IsValueOf signature later v t
  value-grown v t h = (weaken_value signature types later grows h.0, h.1)

  pub stored-grown : (l : ℕ) (v : Val) → IsStored signature types l v → IsStored signature later l v
  stored-grown l v h = (h.0, grows l h.0 h.1, value-grown v h.0.1 h.2)
