-- A name by its number.
use Rattle.std.proofs.Common.{◌≡◌, refl, sym, ap, ◌∙◌, ◌<◌, Bool, true, false, cond, List, [], ◌∷◌, ◌++◌, length, append_assoc, arith}
use Rattle.std.specs.Prelude.{slice_index_or}
use Rattle.std.specs.List.{list_any, position_or_len}
use Rattle.std.specs.Str.{bytes_eq}
use Rattle.std.proofs.Math.ListN.{get_or-append}
use Rattle.std.proofs.Math.Seq.{get_or-append_seam}
use Rattle.std.proofs.lemmas.List.Sums.{passes_at_first}
use Rattle.std.proofs.lemmas.Slice.Eq.{bytes_eq-Decides}
use Rattle.ame_lex.specs.Bytes.{Text}
use Rattle.ame_parse.specs.Names.{number_in, with_name}
use Rattle.ame_print.proofs.Canon.{IsFirstOf}

module _ {X : Type 0} (p : X → Bool) where
  some_by : (x : X) (xs : List X) (b : Bool) → p x ≡ b → (list_any p xs ≡ true → position_or_len p xs < length xs) → list_any p (x ∷ xs) ≡ true
      → position_or_len p (x ∷ xs) < length (x ∷ xs)
  some_by x xs true is later e = rw is (omega arith)
  some_by x xs false is later e = let inside = later (rw is at e) in rw is (omega arith)

  -- a place that there is, or none
  some_place : (xs : List X) → list_any p xs ≡ true → position_or_len p xs < length xs
  some_place [] e = absurd (cc)
  some_place (x ∷ xs) e = some_by x xs (p x) refl (some_place xs) e

  none_by : (x : X) (xs : List X) (b : Bool) → p x ≡ b → (list_any p xs ≡ false → position_or_len p xs ≡ length xs) → list_any p (x ∷ xs) ≡ false
      → position_or_len p (x ∷ xs) ≡ length (x ∷ xs)
  none_by x xs true is later e = absurd (let fails = rw is at e in cc)
  none_by x xs false is later e = let outside = later (rw is at e) in rw is (omega arith)

  no_place : (xs : List X) → list_any p xs ≡ false → position_or_len p xs ≡ length xs
  no_place [] e = refl
  no_place (x ∷ xs) e = none_by x xs (p x) refl (no_place xs) e

spelled_by : (names : List Text) (name more_name : Text) (more : List Text) (b : Bool) → list_any (bytes_eq name) names ≡ b
    → slice_index_or (cond b names (names ++ name ∷ []) ++ more) (number_in names name) more_name ≡ name
spelled_by names name d more true e =
    let inside = some_place (bytes_eq name) names e in
    get_or-append names more d (number_in names name) inside ∙ sym ((bytes_eq-Decides name _).0 (passes_at_first (bytes_eq name) names d inside))
spelled_by names name d more false e =
    ap (λ z. slice_index_or z (number_in names name) d) (append_assoc names (name ∷ []) more)
    ∙ ap (λ n. slice_index_or (names ++ name ∷ more) n d) (no_place (bytes_eq name) names e)
    ∙ get_or-append_seam names name more d

-- the spelling of a name that was read, at its number
pub spelled_at : (names : List Text) (name d : Text) (all : List Text) → IsFirstOf (with_name names name) all → slice_index_or all (number_in names name) d ≡ name
spelled_at names name d all first =
    ap (λ z. slice_index_or z (number_in names name) d) first.split ∙ spelled_by names name d first.more (list_any (bytes_eq name) names) refl
