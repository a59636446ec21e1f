use Rattle.std.proofs.Common.{◌≡◌, ℕ, List, IfOk, Ok, Err, Result, Vec, Global, subst}
use Rattle.ame_lex.specs.declared.tokens.Token.{Token}
use Rattle.ame_lex.specs.declared.tokens.LexFault.{LexFault}
use Rattle.ame_lex.specs.declared.tokens.LexFault.TheVariants.{BadByte, LongNumber}
use Rattle.ame_lex.specs.Grammar.{Lexes}
use Rattle.ame_lex.specs.Reading.{AnswersTokens, tokens_of}
use Rattle.ame_lex.proofs.Soundness.{lexes_text}
use Rattle.ame_lex.proofs.Places.{ordered_tokens, tokens_within}
use Rattle.ame_lex.proofs.Spelling.{tokens_spell}
use Rattle.ame_lex.proofs.lexer.lex.Goals as goal

-- what is read of the text is what it is by the grammar
lexes_read : (text : List ℕ) (outcome : Result (List Token) LexFault) → tokens_of text ≡ outcome → Lexes 0 text outcome
lexes_read text outcome e = subst (Lexes 0 text) e (lexes_text text)

-- if the answer is `Ok`, its tokens are those that were read
read_ok : {P : List Token → Type 0} (text : List ℕ) (r : Result (Vec Token Global) LexFault) → AnswersTokens (λ v. v.items) r (tokens_of text)
    → ((tokens : List Token) → tokens_of text ≡ Ok tokens → P tokens) → IfOk r (λ v. P v.items)
read_ok text (Ok v) read h = h v.items read
read_ok text (Err fault) read h = tt

-- an answer that is a fault is what is read
read_bad_byte : (text : List ℕ) (r : Result (Vec Token Global) LexFault) → AnswersTokens (λ v. v.items) r (tokens_of text) → (place : ℕ) → r ≡ Err (BadByte place) → tokens_of text ≡ Err (BadByte place)
read_bad_byte text r read place e = subst (λ s. AnswersTokens (λ (v : Vec Token Global). v.items) s (tokens_of text)) e read

read_long_number : (text : List ℕ) (r : Result (Vec Token Global) LexFault) → AnswersTokens (λ v. v.items) r (tokens_of text) → (place : ℕ) → r ≡ Err (LongNumber place) → tokens_of text ≡ Err (LongNumber place)
read_long_number text r read place e = subst (λ s. AnswersTokens (λ (v : Vec Token Global). v.items) s (tokens_of text)) e read

pub returns-clause-tokens : goal.returns-clause-tokens
returns-clause-tokens c = read_ok _ c.scan.result c.scan.ensures (λ tokens e. lexes_read _ _ e)

pub returns-clause-bad_byte : goal.returns-clause-bad_byte
returns-clause-bad_byte c place e = lexes_read _ _ (read_bad_byte _ c.scan.result c.scan.ensures place e)

pub returns-clause-long_number : goal.returns-clause-long_number
returns-clause-long_number c place e = lexes_read _ _ (read_long_number _ c.scan.result c.scan.ensures place e)

pub returns-clause-within : goal.returns-clause-within
returns-clause-within c = read_ok _ c.scan.result c.scan.ensures (tokens_within c.args.text.now)

pub returns-clause-in_order : goal.returns-clause-in_order
returns-clause-in_order c = read_ok _ c.scan.result c.scan.ensures (ordered_tokens c.args.text.now)

pub returns-clause-spelled : goal.returns-clause-spelled
returns-clause-spelled c = read_ok _ c.scan.result c.scan.ensures (tokens_spell c.args.text.now)
