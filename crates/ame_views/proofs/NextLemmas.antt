-- The next entry of a member, found by an index.
use Rattle.std.proofs.Common.{◌≡◌, ℕ, zero, suc, ◌+◌, ◌<◌, List, [], ◌∷◌, length, get_or, drop, Option, refl, ap, ◌∙◌, arith}
use Rattle.ame_journal.specs.declared.entry.Entry.{Entry}
use Rattle.ame_journal.specs.declared.entry.EntryKind.{EntryKind}
use Rattle.ame_views.specs.Nexts.{kind_of_next, nexts}

pub nexts_at : (entries : List Entry) (i : ℕ) (entry : Entry) (next : Option EntryKind) → i < length entries →
    get_or (nexts entries) i next ≡ kind_of_next (get_or entries i entry).number (drop (i + 1) entries)
nexts_at [] i entry next inside = absurd (omega arith)
nexts_at (first ∷ entries) zero entry next inside = refl
nexts_at (first ∷ entries) (suc i) entry next inside =
    let within : i < length entries = omega arith in
    let same : suc (i + 1) ≡ suc i + 1 = omega arith in
    nexts_at entries i entry next within ∙ ap (λ k. kind_of_next (get_or entries i entry).number (drop k (first ∷ entries))) same

pub length-nexts : (entries : List Entry) → length (nexts entries) ≡ length entries
length-nexts [] = refl
length-nexts (entry ∷ entries) = ap suc (length-nexts entries)
