-- Tokens that each stand alone are lexed as they are, whatever blanks stand between them and wherever their text stands.
use Rattle.std.proofs.Common.{◌≡◌, ℕ, ◌+◌, ◌-◌, ◌||◌, Bool, true, false, cond, List, [], ◌∷◌, ◌++◌, length, length-append, map, take, drop, slice_range, refl, sym, ap, ◌∙◌, subst, append_assoc, Ok, arith}
use Rattle.std.specs.List.{AllByRecursion, flat_map}
use Rattle.std.proofs.Math.Seq.{drop-append_seam, take-append_seam}
use Rattle.ame_lex.specs.declared.classes.Class.TheVariants.{Blank}
use Rattle.ame_lex.specs.declared.tokens.Kind.{Kind}
use Rattle.ame_lex.specs.declared.tokens.Token.{Token}
use Rattle.ame_lex.specs.Bytes.{Text, class_of, continues_word, is_word_byte, begins}
use Rattle.ame_lex.specs.Grammar as grammar
use Rattle.ame_lex.specs.Grammar.{IsToken, Lexes}
use Rattle.ame_lex.specs.Reading.{token_at}
use Rattle.ame_parse.specs.Seen.{seen}
use Rattle.ame_print.specs.Layout.{Printed, is_open_kind, is_close_kind, gap}
use Rattle.ame_print.proofs.Canon.{token_of, tokens_of, IsAlone}

-- the text after this one has these tokens
pub record LexedBehind (front text : Text) (tokens : List Printed) : Type 0 where
  pub found : List Token
  pub lexes : Lexes (length front) text (Ok found)
  pub same : tokens_of (map (seen (front ++ text)) found) ≡ tokens

-- the text has these tokens, whatever stands before it
abbrev pub IsLexed : Text → List Printed → Type 0
IsLexed text tokens = (front : Text) → LexedBehind front text tokens

pub no_tokens : IsLexed [] []
no_tokens front = record { found = []; lexes = grammar.finished; same = refl }

-- ---- one step

pub after_blank : (b : ℕ) (text : Text) (tokens : List Printed) → class_of b ≡ Blank → IsLexed text tokens → IsLexed (b ∷ text) tokens
after_blank b text tokens is lexed front =
    let behind = lexed (front ++ b ∷ []) in
    let place : length (front ++ b ∷ []) ≡ length front + 1 = length-append front (b ∷ []) in
    record {
      found = behind.found;
      lexes = grammar.blank is (subst (λ k. Lexes k text (Ok behind.found)) place behind.lexes);
      same = subst (λ z. tokens_of (map (seen z) behind.found) ≡ tokens) (append_assoc front (b ∷ []) text) behind.same;
    }

-- the rest after a text
stands : (front bytes more : Text) → slice_range (front ++ (bytes ++ more)) (length front) (length front + length bytes) ≡ bytes
stands front bytes more =
    let len : length front + length bytes - length front ≡ length bytes = omega arith in
    ap (λ n. take n (drop (length front) (front ++ (bytes ++ more)))) len ∙ ap (take (length bytes)) (drop-append_seam front (bytes ++ more)) ∙ take-append_seam bytes more

-- a token whose bytes are these
token_is : (token : Printed) (text : Text) (start : ℕ) → slice_range text start (start + length token.bytes) ≡ token.bytes
    → token_of (seen text (token_at start token.kind (length token.bytes))) ≡ token
token_is token text start e = ap (λ bytes. record { kind = token.kind; bytes = bytes }) e

pub after_token : (token : Printed) (rest : Text) (tokens : List Printed) → IsAlone token → (is_open_kind token.kind ≡ false → begins is_word_byte rest ≡ false) → IsLexed rest tokens
    → IsLexed (token.bytes ++ rest) (token ∷ tokens)
after_token token rest tokens alone apart lexed front =
    let at = length front in
    let whole = front ++ (token.bytes ++ rest) in
    let behind = lexed (front ++ token.bytes) in
    let here : Lexes (at + length token.bytes) rest (Ok behind.found) = subst (λ k. Lexes k rest (Ok behind.found)) (length-append front token.bytes) behind.lexes in
    let left : tokens_of (map (seen whole) behind.found) ≡ tokens =
    subst (λ z. tokens_of (map (seen z) behind.found) ≡ tokens) (append_assoc front token.bytes rest) behind.same in
    record {
      found = token_at at token.kind (length token.bytes) ∷ behind.found;
      lexes = grammar.token (alone rest apart) here;
      same = ap (λ t. t ∷ tokens_of (map (seen whole) behind.found)) (token_is token whole at (stands front token.bytes rest)) ∙ ap (λ z. token ∷ z) left;
    }

-- ---- the layout of tokens before a text

abbrev pub laid : Bool → List Printed → Text → Text
laid is_first [] after = after
laid is_first (token ∷ rest) after = gap is_first token.kind ++ (token.bytes ++ laid (is_open_kind token.kind) rest after)

-- a closing parenthesis begins with no byte of a word
closing_ends : {kind : Kind} {text spelling rest : Text} (more : Text) → IsToken text kind spelling rest → is_close_kind kind ≡ true → begins is_word_byte (spelling ++ more) ≡ false
closing_ends more (grammar.opening e) is = (cc)
closing_ends more (grammar.closing e) is = ap continues_word e
closing_ends more (grammar.word e run) is = (cc)
closing_ends more (grammar.number n fit alone) is = (cc)
closing_ends more (grammar.symbol e) is = (cc)
closing_ends more (grammar.minus e alone) is = (cc)

gap_ends : (none : Bool) (token : Printed) (more : Text) → IsAlone token → is_close_kind token.kind ≡ none → begins is_word_byte (cond none [] (32 ∷ []) ++ (token.bytes ++ more)) ≡ false
unfolding class_of
gap_ends true token more alone is = closing_ends more (alone [] (λ e. refl)) is
gap_ends false token more alone is = refl

-- what follows a token that doesn't open a form ends a word
laid_ends : (is_first : Bool) (tokens : List Printed) (after : Text) → AllByRecursion IsAlone tokens → begins is_word_byte after ≡ false → is_first ≡ false
    → begins is_word_byte (laid is_first tokens after) ≡ false
laid_ends is_first [] after alone ends e = ends
laid_ends is_first (token ∷ rest) after alone ends e =
    subst (λ b. begins is_word_byte (laid b (token ∷ rest) after) ≡ false) (sym e) (gap_ends (is_close_kind token.kind) token (laid (is_open_kind token.kind) rest after) alone.0 refl)

space_is_blank : class_of 32 ≡ Blank
unfolding class_of
space_is_blank = refl

after_gap : (none : Bool) (text : Text) (tokens : List Printed) → IsLexed text tokens → IsLexed (cond none [] (32 ∷ []) ++ text) tokens
after_gap true text tokens lexed = lexed
after_gap false text tokens lexed = after_blank 32 text tokens space_is_blank lexed

pub laid_lexed : (is_first : Bool) (tokens : List Printed) (after : Text) (later : List Printed) → AllByRecursion IsAlone tokens → begins is_word_byte after ≡ false → IsLexed after later
    → IsLexed (laid is_first tokens after) (tokens ++ later)
laid_lexed is_first [] after later alone ends lexed = lexed
laid_lexed is_first (token ∷ rest) after later alone ends lexed =
    let more = laid (is_open_kind token.kind) rest after in
    after_gap (is_first || is_close_kind token.kind) (token.bytes ++ more) (token ∷ (rest ++ later))
    (after_token token more (rest ++ later) alone.0 (laid_ends (is_open_kind token.kind) rest after alone.1 ends)
    (laid_lexed (is_open_kind token.kind) rest after later alone.1 ends lexed))

-- ---- lines

-- the bytes are a line of these tokens, before any other lines
abbrev pub IsLine : Text → List Printed → Type 0
IsLine bytes tokens = (after : Text) (later : List Printed) → IsLexed after later → IsLexed (bytes ++ after) (tokens ++ later)

pub laid_append : (is_first : Bool) (tokens : List Printed) (x y : Text) → laid is_first tokens x ++ y ≡ laid is_first tokens (x ++ y)
laid_append is_first [] x y = refl
laid_append is_first (token ∷ rest) x y =
    let space = gap is_first token.kind in
    let more = laid (is_open_kind token.kind) rest x in
    append_assoc space (token.bytes ++ more) y ∙ ap (λ z. space ++ z) (append_assoc token.bytes more y ∙ ap (λ z. token.bytes ++ z) (laid_append (is_open_kind token.kind) rest x y))

feed_is_blank : class_of 10 ≡ Blank
unfolding class_of
feed_is_blank = refl

feed_ends : (after : Text) → begins is_word_byte (10 ∷ after) ≡ false
unfolding class_of
feed_ends after = refl

-- tokens laid out before a line feed
pub line : (tokens : List Printed) → AllByRecursion IsAlone tokens → IsLine (laid true tokens (10 ∷ [])) tokens
line tokens alone after later lexed =
    subst (λ z. IsLexed z (tokens ++ later)) (sym (laid_append true tokens (10 ∷ []) after))
    (laid_lexed true tokens (10 ∷ after) later alone (feed_ends after) (after_blank 10 after later feed_is_blank lexed))

pub line_of : (bytes : Text) (tokens : List Printed) → bytes ≡ laid true tokens (10 ∷ []) → AllByRecursion IsAlone tokens → IsLine bytes tokens
line_of bytes tokens e alone = subst (λ z. IsLine z tokens) (sym e) (line tokens alone)

regrouped : (x y after : Text) (s t later : List Printed) → IsLexed (x ++ (y ++ after)) (s ++ (t ++ later)) → IsLexed ((x ++ y) ++ after) ((s ++ t) ++ later)
regrouped x y after s t later lexed =
    subst (λ z. IsLexed z ((s ++ t) ++ later)) (sym (append_assoc x y after)) (subst (λ z. IsLexed (x ++ (y ++ after)) z) (sym (append_assoc s t later)) lexed)

-- one line after another
pub two_lines : (x y : Text) (s t : List Printed) → IsLine x s → IsLine y t → IsLine (x ++ y) (s ++ t)
two_lines x y s t p q after later lexed = regrouped x y after s t later (p (y ++ after) (t ++ later) (q after later lexed))

pub no_lines : IsLine [] []
no_lines after later lexed = lexed

-- a line for each item
pub lines : {X : Type 0} (f : X → Text) (g : X → List Printed) (P : X → Type 0) → ((x : X) → P x → IsLine (f x) (g x)) → (xs : List X) → AllByRecursion P xs
    → IsLine (flat_map f xs) (flat_map g xs)
lines f g P each [] all = no_lines
lines f g P each (x ∷ xs) all = two_lines (f x) (flat_map f xs) (g x) (flat_map g xs) (each x all.0) (lines f g P each xs all.1)
