-- One step of the reading of a text.
use Rattle.std.proofs.Common.{◌≡◌, ℕ, zero, suc, ◌+◌, ◌-◌, ◌<◌, ◌≤◌, List, [], ◌∷◌, ◌++◌, length, drop, refl, sym, ap, ◌∙◌, add-zero, append_assoc, Ok, Err, arith}
use Rattle.ame_lex.specs.declared.pieces.Piece.{Piece}
use Rattle.ame_lex.specs.declared.pieces.Piece.TheVariants.{Space, Found, Bad, Long}
use Rattle.ame_lex.specs.declared.tokens.Kind.{Kind}
use Rattle.ame_lex.specs.declared.tokens.Token.{Token}
use Rattle.ame_lex.specs.declared.tokens.LexFault.TheVariants.{BadByte, LongNumber}
use Rattle.ame_lex.specs.Bytes.{Text}
use Rattle.ame_lex.specs.Reading.{LexOutcome, first_piece, after_piece, with_first, token_at, tokens_from}

-- what is skipped might as well be dropped
pub tokens_from-drop : (at n : ℕ) (text : Text) → n ≤ length text → tokens_from at n text ≡ tokens_from (at + n) 0 (drop n text)
unfolding tokens_from
tokens_from-drop at zero text h = rw add-zero refl
tokens_from-drop at (suc n) [] h = absurd (omega arith)
tokens_from-drop at (suc n) (b ∷ text) h =
    let e : at + 1 + n ≡ at + suc n = omega arith in tokens_from-drop (at + 1) n text (omega arith) ∙ ap (λ k. tokens_from k 0 (drop n text)) e

-- the first piece of a text
abbrev pub front : Text → Piece
front [] = Long
front (b ∷ rest) = first_piece b rest

goes_on : (at len b : ℕ) (text : Text) → 0 < len → len ≤ length (b ∷ text) → tokens_from (at + 1) (len - 1) text ≡ tokens_from (at + len) 0 (drop len (b ∷ text))
goes_on at zero b text some within = absurd (omega arith)
goes_on at (suc n) b text some within =
    let e : suc n - 1 ≡ n = omega arith in
    let sum : at + 1 + n ≡ at + suc n = omega arith in
    ap (λ k. tokens_from (at + 1) k text) e ∙ tokens_from-drop (at + 1) n text (omega arith) ∙ ap (λ k. tokens_from k 0 (drop n text)) sum

pub tokens_from-space : (at len : ℕ) (text : Text) → front text ≡ Space len → 0 < len → len ≤ length text → tokens_from at 0 text ≡ tokens_from (at + len) 0 (drop len text)
unfolding tokens_from
tokens_from-space at len [] e some within = absurd (omega arith)
tokens_from-space at len (b ∷ text) e some within = ap (λ p. after_piece p at (λ more. tokens_from (at + 1) more text)) e ∙ goes_on at len b text some within

pub tokens_from-found : (at len : ℕ) (kind : Kind) (text : Text) → front text ≡ Found kind len → 0 < len → len ≤ length text
    → tokens_from at 0 text ≡ with_first (token_at at kind len) (tokens_from (at + len) 0 (drop len text))
unfolding tokens_from
tokens_from-found at len kind [] e some within = absurd (omega arith)
tokens_from-found at len kind (b ∷ text) e some within =
    ap (λ p. after_piece p at (λ more. tokens_from (at + 1) more text)) e ∙ ap (with_first (token_at at kind len)) (goes_on at len b text some within)

pub tokens_from-bad : (at offset : ℕ) (text : Text) → front text ≡ Bad offset → tokens_from at 0 text ≡ Err (BadByte (at + offset))
unfolding tokens_from
tokens_from-bad at offset [] e = (cc)
tokens_from-bad at offset (b ∷ text) e = ap (λ p. after_piece p at (λ more. tokens_from (at + 1) more text)) e

pub tokens_from-long : (at : ℕ) (text : Text) → 0 < length text → front text ≡ Long → tokens_from at 0 text ≡ Err (LongNumber at)
unfolding tokens_from
tokens_from-long at [] some e = absurd (omega arith)
tokens_from-long at (b ∷ text) some e = ap (λ p. after_piece p at (λ more. tokens_from (at + 1) more text)) e

-- the outcome with these tokens before it
abbrev pub with_front : List Token → LexOutcome → LexOutcome
with_front tokens (Ok more) = Ok (tokens ++ more)
with_front tokens (Err fault) = Err fault

pub with_front-first : (tokens : List Token) (t : Token) (outcome : LexOutcome) → with_front tokens (with_first t outcome) ≡ with_front (tokens ++ t ∷ []) outcome
with_front-first tokens t (Ok more) = ap Ok (sym (append_assoc tokens (t ∷ []) more))
with_front-first tokens t (Err fault) = refl

pub with_front-none : (outcome : LexOutcome) → with_front [] outcome ≡ outcome
with_front-none (Ok tokens) = refl
with_front-none (Err fault) = refl
