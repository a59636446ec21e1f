-- The entry that can't be made when a replay comes to no end.
use Rattle.std.proofs.Common.{◌≡◌, ℕ, List, inl, inr, subst}
use Rattle.ame_term.specs.Tree.{Tree}
use Rattle.ame_journal.specs.declared.entry.Entry.{Entry}
use Rattle.ame_check.specs.Judge.{IsHalted}
use Rattle.ame_check.specs.declared.reason.Reason.{Reason}
use Rattle.ame_check.specs.declared.halt.Halt.{Halt}
use Rattle.ame_views.specs.Faults.{HasFault}

module _ (program : Tree) (entries : List Entry) (halt : Halt) (halted : IsHalted program entries halt) (n : ℕ) where
  pub undefined_told : (why : Reason) → halt ≡ Halt.Undefined n why → HasFault program entries
  undefined_told why e = let P : Halt → Type 0 = λ h. IsHalted program entries h in (n, inl (why, subst P e halted))

  pub tall_told : halt ≡ Halt.Tall n → HasFault program entries
  tall_told e = let P : Halt → Type 0 = λ h. IsHalted program entries h in (n, inr (subst P e halted))
