-- Canonical tokens that each stand alone are what their layout is lexed as.
use Rattle.std.proofs.Common.{◌≡◌, ℕ, ◌+◌, ◌-◌, ◌||◌, Bool, true, false, cond, List, [], ◌∷◌, ◌++◌, length, length-append, map, take, drop, slice_range, refl, sym, ap, ◌∙◌, subst, add-zero, append_assoc, Ok, arith}
use Rattle.std.specs.List.{AllByRecursion}
use Rattle.std.proofs.Math.Seq.{drop-append_seam, take-append_seam}
use Rattle.ame_lex.specs.declared.classes.Class.TheVariants.{Blank}
use Rattle.ame_lex.specs.declared.tokens.Kind.{Kind}
use Rattle.ame_lex.specs.declared.tokens.Token.{Token}
use Rattle.ame_lex.specs.Bytes.{Text, class_of, continues_word, is_word_byte, begins}
use Rattle.ame_lex.specs.Grammar as grammar
use Rattle.ame_lex.specs.Grammar.{IsToken, Lexes}
use Rattle.ame_lex.specs.Reading.{LexOutcome, token_at}
use Rattle.ame_parse.specs.Seen.{seen, start_of}
use Rattle.ame_print.specs.Layout.{Printed, is_open_kind, is_close_kind, gap, layout}
use Rattle.ame_print.proofs.Canon.{token_of, tokens_of, IsAlone}

-- the text after `before` has tokens, which are these
pub record Lexed (before : Text) (is_first : Bool) (tokens : List Printed) : Type 0 where
  pub found : List Token
  pub lexes : Lexes (length before) (layout is_first tokens) (Ok found)
  pub same : tokens_of (map (seen (before ++ layout is_first tokens)) found) ≡ tokens

-- ---- the space between tokens

space_is_blank : class_of 32 ≡ Blank
unfolding class_of
space_is_blank = refl

-- the text after the space of a gap is lexed after it
behind_gap : (none : Bool) (at : ℕ) (bytes more : Text) (outcome : LexOutcome) → Lexes (at + length {A = ℕ} (cond none [] (32 ∷ []))) (bytes ++ more) outcome
    → Lexes at (cond none [] (32 ∷ []) ++ bytes ++ more) outcome
behind_gap true at bytes more outcome l = subst (λ k. Lexes k (bytes ++ more) outcome) (add-zero at) l
behind_gap false at bytes more outcome l = grammar.blank space_is_blank l

-- a closing parenthesis begins with no byte of a word
closing_ends : {kind : Kind} {text spelling rest : Text} (more : Text) → IsToken text kind spelling rest → is_close_kind kind ≡ true → begins is_word_byte (spelling ++ more) ≡ false
closing_ends more (grammar.opening e) is = (cc)
closing_ends more (grammar.closing e) is = ap continues_word e
closing_ends more (grammar.word e run) is = (cc)
closing_ends more (grammar.number n fit alone) is = (cc)
closing_ends more (grammar.symbol e) is = (cc)
closing_ends more (grammar.minus e alone) is = (cc)

gap_ends : (none : Bool) (token : Printed) (more : Text) → IsAlone token → is_close_kind token.kind ≡ none → begins is_word_byte (cond none [] (32 ∷ []) ++ token.bytes ++ more) ≡ false
unfolding class_of
gap_ends true token more alone is = closing_ends more (alone [] (λ e. refl)) is
gap_ends false token more alone is = refl

-- what follows a token that doesn't open a form ends a word
layout_ends : (is_first : Bool) (tokens : List Printed) → AllByRecursion IsAlone tokens → is_first ≡ false → begins is_word_byte (layout is_first tokens) ≡ false
layout_ends is_first [] alone e = refl
layout_ends is_first (token ∷ rest) alone e =
    subst (λ b. begins is_word_byte (layout b (token ∷ rest)) ≡ false) (sym e) (gap_ends (is_close_kind token.kind) token (layout (is_open_kind token.kind) rest) alone.0 refl)

-- ---- a token in its text

-- what stands between two places
spelled_at : (front bytes more : Text) (start end : ℕ) → start ≡ length front → end ≡ start + length bytes → slice_range (front ++ (bytes ++ more)) start end ≡ bytes
spelled_at front bytes more start end s e =
    let len : end - start ≡ length bytes = omega arith in
    ap (λ n. take n (drop start (front ++ (bytes ++ more)))) len
    ∙ ap (λ n. take (length bytes) (drop n (front ++ (bytes ++ more)))) s
    ∙ ap (take (length bytes)) (drop-append_seam front (bytes ++ more))
    ∙ take-append_seam bytes more

-- a token whose bytes are these
token_is : (token : Printed) (text : Text) (start : ℕ) → slice_range text start (start + length token.bytes) ≡ token.bytes
    → token_of (seen text (token_at start token.kind (length token.bytes))) ≡ token
token_is token text start e = ap (λ bytes. record { kind = token.kind; bytes = bytes }) e

module _ (before space bytes more : Text) where
  spelled_behind : slice_range (before ++ (space ++ bytes ++ more)) (length before + length space) (length before + length space + length bytes) ≡ bytes
  spelled_behind =
      let split : before ++ (space ++ bytes ++ more) ≡ before ++ space ++ (bytes ++ more) =
      ap (λ z. before ++ z) (append_assoc space bytes more) ∙ sym (append_assoc before space (bytes ++ more)) in
      ap (λ z. slice_range z (length before + length space) (length before + length space + length bytes)) split
      ∙ spelled_at (before ++ space) bytes more _ _ (sym (length-append before space)) refl

  place_behind : length (before ++ (space ++ bytes)) ≡ length before + length space + length bytes
  place_behind = omega (arith, length-append before (space ++ bytes), length-append space bytes)

-- tokens that each stand alone are lexed as they are, wherever their text stands
pub laid_out : (before : Text) (is_first : Bool) (tokens : List Printed) → AllByRecursion IsAlone tokens → Lexed before is_first tokens
laid_out before is_first [] alone = record { found = []; lexes = grammar.finished; same = refl }
laid_out before is_first (token ∷ rest) alone =
    let space = gap is_first token.kind in
    let more = layout (is_open_kind token.kind) rest in
    let whole = before ++ (space ++ token.bytes ++ more) in
    let at = length before + length space in
    let behind = laid_out (before ++ (space ++ token.bytes)) (is_open_kind token.kind) rest alone.1 in
    let here : Lexes (at + length token.bytes) more (Ok behind.found) =
    subst (λ k. Lexes k more (Ok behind.found)) (place_behind before space token.bytes more) behind.lexes in
    let left : tokens_of (map (seen whole) behind.found) ≡ rest =
    subst (λ z. tokens_of (map (seen z) behind.found) ≡ rest) (append_assoc before (space ++ token.bytes) more) behind.same in
    record {
      found = token_at at token.kind (length token.bytes) ∷ behind.found;
      lexes = behind_gap (is_first || is_close_kind token.kind) (length before) token.bytes more _ (grammar.token (alone.0 more (layout_ends (is_open_kind token.kind) rest alone.1)) here);
      same = ap (λ t. t ∷ tokens_of (map (seen whole) behind.found)) (token_is token whole at (spelled_behind before space token.bytes more)) ∙ ap (λ z. token ∷ z) left;
    }

-- the text of canonical tokens has tokens, which its reading sees as these
pub record LexedAgain (tokens : List Printed) : Type 0 where
  pub found : List Token
  pub lexes : Lexes 0 (layout true tokens) (Ok found)
  pub same : tokens_of (start_of (layout true tokens) found).rest ≡ tokens

pub lexed_again : (tokens : List Printed) → AllByRecursion IsAlone tokens → LexedAgain tokens
lexed_again tokens alone = let whole = laid_out [] true tokens alone in record { found = whole.found; lexes = whole.lexes; same = whole.same }
