-- A set of vectors, seen as the list of what they hold.
use Rattle.std.proofs.Common.{◌≡◌, ℕ, Bool, true, false, cond, List, [], ◌∷◌, ◌++◌, map, ap, refl, ◌∙◌, Vec, Global}
use Rattle.std.proofs.lemmas.List.{map-append}
use Rattle.std.specs.List.{list_any, position_or_len}
use Rattle.std.specs.Str.{bytes_eq}
use Rattle.ame_parse.specs.Names.{number_in, with_name}

module _ {X Y : Type 0} (f : X → Y) (test : Y → Bool) where
  list_any-map : (xs : List X) → list_any (λ x. test (f x)) xs ≡ list_any test (map f xs)
  list_any-map [] = refl
  list_any-map (x ∷ xs) = let more = list_any-map xs in cc

  position_or_len-map : (xs : List X) → position_or_len (λ x. test (f x)) xs ≡ position_or_len test (map f xs)
  position_or_len-map [] = refl
  position_or_len-map (x ∷ xs) = let more = position_or_len-map xs in cc

map-cond : {X Y : Type 0} (f : X → Y) (b : Bool) (xs ys : List X) → map f (cond b xs ys) ≡ cond b (map f xs) (map f ys)
map-cond f true xs ys = refl
map-cond f false xs ys = refl

abbrev bytes_of : Vec ℕ Global → List ℕ
bytes_of name = name.items

module _ (names : List (Vec ℕ Global)) (name : Vec ℕ Global) where
  pub number-items : position_or_len (λ other. bytes_eq name.items other.items) names ≡ number_in (map bytes_of names) name.items
  number-items = position_or_len-map bytes_of (bytes_eq name.items) names

  pub with_name-items : map bytes_of (cond (list_any (λ other. bytes_eq name.items other.items) names) names (names ++ name ∷ [])) ≡ with_name (map bytes_of names) name.items
  with_name-items =
      map-cond bytes_of (list_any (λ other. bytes_eq name.items other.items) names) names (names ++ name ∷ [])
      ∙ ap (λ z. cond z (map bytes_of names) (map bytes_of (names ++ name ∷ []))) (list_any-map bytes_of (bytes_eq name.items) names)
      ∙ ap (cond (list_any (bytes_eq name.items) (map bytes_of names)) (map bytes_of names)) (map-append bytes_of names (name ∷ []))
