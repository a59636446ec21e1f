-- The bytes of a token are a token of its kind.
use Rattle.std.proofs.Common.{◌≡◌, ℕ, suc, ◌+◌, ◌-◌, List, [], ◌∷◌, ◌++◌, length, take, drop, refl, sym, ap, ◌∙◌, subst, Ok, arith}
use Rattle.std.specs.Prelude.{All}
use Rattle.std.specs.List.{AllByRecursion}
use Rattle.std.proofs.Math.Seq.{drop-append_seam, take-append_seam}
use Rattle.std.proofs.lemmas.List.{drop-drop}
use Rattle.std.proofs.lemmas.List.Elements.{All-from_recursion}
use Rattle.ame_lex.specs.declared.tokens.Kind.{Kind}
use Rattle.ame_lex.specs.declared.tokens.Token.{Token}
use Rattle.ame_lex.specs.Bytes.{Text}
use Rattle.ame_lex.specs.Tokens.{IsSpelled}
use Rattle.ame_lex.specs.Grammar.{IsToken, Lexes, finished, blank, comment, token}
use Rattle.ame_lex.specs.Reading.{tokens_of, token_at}
use Rattle.ame_lex.proofs.PieceLemmas.{token-splits}
use Rattle.ame_lex.proofs.Soundness.{lexes_text}

-- the bytes that follow the first ones from a place on
after_front : (whole text front rest : Text) (at : ℕ) → text ≡ drop at whole → text ≡ front ++ rest → rest ≡ drop (at + length front) whole
after_front whole text front rest at e split =
    sym (drop-append_seam front rest) ∙ ap (drop (length front)) (sym split ∙ e) ∙ drop-drop (length front) at whole

-- a token that stands from a place on spells its kind there
spells_token : (whole text spelling rest : Text) (kind : Kind) (at : ℕ) → IsToken text kind spelling rest → text ≡ drop at whole → IsSpelled whole (token_at at kind (length spelling))
spells_token whole text spelling rest kind at t e =
    let splits = token-splits t in
    let after = after_front whole text spelling rest at e splits.0 in
    let len : at + length spelling - at ≡ length spelling = omega arith in
    let spelled : spelling ≡ take (at + length spelling - at) (drop at whole) =
    sym (take-append_seam spelling rest) ∙ ap (take (length spelling)) (sym splits.0 ∙ e) ∙ ap (λ n. take n (drop at whole)) (sym len) in
    subst (λ z. IsToken (drop at whole) kind z (drop (at + length spelling) whole)) spelled
    (subst (λ z. IsToken (drop at whole) kind spelling z) after (subst (λ z. IsToken z kind spelling rest) e t))

spells : (whole : Text) {at : ℕ} {text : Text} {tokens : List Token} → Lexes at text (Ok tokens) → text ≡ drop at whole → AllByRecursion (IsSpelled whole) tokens
spells whole finished e = tt
spells whole (blank {at = at} {b = b} {rest = rest} {outcome = Ok tokens} is more) e =
    spells whole more (after_front whole (b ∷ rest) (b ∷ []) rest at e refl)
spells whole (comment {at = at} {b = b} {text = text} {body = body} {rest = rest} {outcome = Ok tokens} is run more) e =
    let place : at + suc (length body) ≡ at + 1 + length body = omega arith in
    spells whole more (after_front whole (b ∷ text) (b ∷ body) rest at e (ap (λ z. b ∷ z) run.split) ∙ ap (λ k. drop k whole) place)
spells whole (token {at = at} {text = text} {spelling = spelling} {rest = rest} {kind = kind} t more) e =
    (spells_token whole text spelling rest kind at t e, spells whole more (after_front whole text spelling rest at e (token-splits t).0))

pub tokens_spell : (text : Text) (tokens : List Token) → tokens_of text ≡ Ok tokens → All (IsSpelled text) tokens
tokens_spell text tokens e = All-from_recursion (IsSpelled text) tokens (spells text (subst (Lexes 0 text) e (lexes_text text)) refl)
