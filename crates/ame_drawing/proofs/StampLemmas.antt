-- Stamps and entries, one for one.
use Rattle.std.proofs.Common.{◌≡◌, ℕ, zero, suc, ◌<◌, List, [], ◌∷◌, length, get_or, map, drop, ap, arith}
use Rattle.ame_journal.specs.declared.entry.Entry.{Entry}
use Rattle.ame_drawing.specs.declared.stamp.Stamp.{Stamp}
use Rattle.ame_drawing.specs.Stamps.{made_by_stamp, made_by_entry}

-- if they differ at one place, they differ
pub differ : (marks : List Stamp) (entries : List Entry) (i : ℕ) (s : Stamp) (e : Entry) → i < length marks → i < length entries →
    (made_by_stamp (get_or marks i s) ≡ made_by_entry (get_or entries i e) → ⊥) → map made_by_stamp marks ≡ map made_by_entry entries → ⊥
differ [] entries i s e a b other same = absurd (omega (arith, a))
differ (x ∷ marks) [] i s e a b other same = absurd (omega (arith, b))
differ (x ∷ marks) (y ∷ entries) zero s e a b other same = other (ap (λ l. get_or l 0 (made_by_stamp x)) same)
differ (x ∷ marks) (y ∷ entries) (suc i) s e a b other same = differ marks entries i s e (omega (arith, a)) (omega (arith, b)) other (ap (drop 1) same)
