-- The tokens of types and parameters are read again.
use Rattle.std.proofs.Common.{subst, ◌∙◌, ℕ, suc, List, ◌∷◌}
use Rattle.std.specs.List.{AllByRecursion}
use Rattle.ame_lex.specs.Bytes.{Text}
use Rattle.ame_term.specs.Tree.{Typ}
use Rattle.ame_parse.specs.declared.words.Word.TheVariants as w
use Rattle.ame_parse.specs.Input.{Input, advanced, name_number}
use Rattle.ame_parse.specs.Grammar as g
use Rattle.ame_parse.specs.Grammar.{IsType, IsTypeForm, IsParam}
use Rattle.ame_print.specs.Layout.{open_token, close_token}
use Rattle.ame_print.specs.Tokens.{form, type_tokens, name_token, sort_token, effect_token}
use Rattle.ame_print.proofs.Canon.{IsGood, IsFirstOf}
use Rattle.ame_print.proofs.Growth.{◌▸◌, first_of_first, grows_after, type_grows}
use Rattle.ame_print.proofs.Alone.{opening_fixed, reserved, sort_fixed, sort_read, effect_fixed, effect_read, name_fixed}
use Rattle.ame_print.proofs.Parts.{Part, moves_after, moves_named, number_like, begun, both, shut, mapped, before_type, atom, type_form_part}

mutual
  unfolding type_tokens

  pub type_again : {n : ℕ} {i j : Input} {type : Typ} → IsType n i type j → Part (type_tokens type) (λ i' j'. IsType n i' type j') i j
  type_again (g.unit_type {i = i} e) = atom (reserved w.UnitType) (moves_after _ i) (λ i' like is spelt. g.unit_type is)
  type_again (g.bool_type {i = i} e) = atom (reserved w.BoolType) (moves_after _ i) (λ i' like is spelt. g.bool_type is)
  type_again (g.int_type {i = i} e) = atom (reserved w.IntType) (moves_after _ i) (λ i' like is spelt. g.int_type is)
  type_again (g.type_form {i = i} e form) = before_type i (type_form_again form)

  -- with the opening parenthesis
  type_form_again : {n : ℕ} {i j : Input} {type : Typ} → IsTypeForm n i type j → Part (type_tokens type) (λ i' j'. IsType (suc n) i' type j') i j
  type_form_again (g.ref_type {i = i} {sort = sort} e s h shut) =
      type_form_part (begun (reserved w.RefType) (moves_after _ i) (begun (sort_fixed sort) (moves_after (sort_token sort) (advanced i)) (type_again h)))
      (λ i' j' r shut. g.ref_type r.is (sort_read sort (advanced i') (r.then).spelt) (r.then).then shut)
  type_form_again (g.fun_type {i = i} {effect = effect} e q h h' shut) =
      type_form_part (begun (reserved w.FunType) (moves_after _ i) (begun (effect_fixed effect) (moves_after (effect_token effect) (advanced i)) (both (type_again h) (type_again h'))))
      (λ i' j' r shut. let s = r.then in g.fun_type r.is (effect_read effect (advanced i') s.spelt) (s.then).first (s.then).second shut)
  type_form_again (g.pair_type {i = i} e h h' shut) =
      type_form_part (begun (reserved w.PairType) (moves_after _ i) (both (type_again h) (type_again h'))) (λ i' j' r shut. g.pair_type r.is (r.then).first (r.then).second shut)

pub param_again : {n : ℕ} {i j : Input} {x : ℕ} {type : Typ} → IsParam n i x type j → (all : List Text) → AllByRecursion IsGood i.rest → IsFirstOf j.names all
    → Part (form (name_token all x ∷ type_tokens type)) (λ i' j'. IsParam n i' x type j') i j
param_again (g.param {n = n} {i = i} {j = j} {type = type} e e' h is_shut) all good first =
    let name = name_fixed (advanced i) all e' ((grows_after i).good good) (first_of_first (type_grows h ▸ grows_after j).names first) in
    mapped (begun opening_fixed (moves_after open_token i) (shut (begun name.fixed (moves_named (advanced i) name.bytes) (type_again h)) (moves_after close_token j)))
    (λ i' k' like r.
    let s = r.then in
    let t = s.inside in
    let same = number_like (advanced i) (advanced i') ((moves_after open_token i).like i' like r.spelt) (t.spelt ∙ name.bytes) in
    subst (IsParam (suc n) i' (name_number (advanced i)) type) s.end (subst (λ x. IsParam (suc n) i' x type (advanced s.last)) same (g.param r.is t.is t.then s.next)))
