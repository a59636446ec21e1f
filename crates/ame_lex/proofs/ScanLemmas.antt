-- One turn of the loop over a text keeps that the tokens so far and the reading of the rest are the reading of the text.
use Rattle.std.proofs.Common.{◌≡◌, ℕ, ◌+◌, ◌-◌, ◌<◌, ◌≤◌, List, [], ◌∷◌, ◌++◌, length, drop, get_or, refl, sym, ap, lit<, ◌∙◌, length-drop, append-nil, Ok, Err, arith}
use Rattle.ame_lex.specs.declared.pieces.Piece.TheVariants.{Space, Found, Bad, Long}
use Rattle.ame_lex.specs.declared.tokens.Kind.{Kind}
use Rattle.ame_lex.specs.declared.tokens.Token.{Token}
use Rattle.ame_lex.specs.declared.tokens.LexFault.TheVariants.{BadByte, LongNumber}
use Rattle.ame_lex.specs.Bytes.{Text, class_of}
use Rattle.ame_lex.specs.Reading.{first_piece, token_at, tokens_from, tokens_of}
use Rattle.ame_lex.proofs.ReadingLemmas.{front, with_front, with_front-first, with_front-none, tokens_from-space, tokens_from-found, tokens_from-bad, tokens_from-long}

-- the tokens so far, and the reading of the rest, are the reading of the text
pub record IsSoFar (text : Text) (tokens : List Token) (rest : Text) : Type 0 where
  pub read : with_front tokens (tokens_from (length text - length rest) 0 rest) ≡ tokens_of text
  pub within : length rest ≤ length text

front_is : (rest : Text) → 0 < length rest → front rest ≡ first_piece (get_or rest 0 0) (drop 1 rest)
front_is [] some = absurd (omega arith)
front_is (b ∷ rest) some = refl

pub begins_so : (text : Text) → IsSoFar text [] text
unfolding tokens_of
begins_so text =
    let e : length text - length text ≡ 0 = omega arith in
    record { read = with_front-none _ ∙ ap (λ k. tokens_from k 0 text) e; within = omega arith }

pub at_end : (text : Text) (tokens : List Token) (rest : Text) → IsSoFar text tokens rest → length rest ≡ 0 → tokens_of text ≡ Ok tokens
unfolding tokens_from
at_end text tokens [] so_far none = sym so_far.read ∙ ap Ok (append-nil tokens)
at_end text tokens (b ∷ rest) so_far none = absurd (omega arith)

module _ (text : Text) (tokens : List Token) (rest : Text) (so_far : IsSoFar text tokens rest) (some : 0 < length rest) where
  at : ℕ
  at = length text - length rest

  place_after : (len : ℕ) → len ≤ length rest → length text - length (drop len rest) ≡ length text - length rest + len
  place_after len within = omega (arith, length-drop len rest, so_far.within)

  pub after_space : (len : ℕ) → first_piece (get_or rest 0 0) (drop 1 rest) ≡ Space len → 0 < len → len ≤ length rest → IsSoFar text tokens (drop len rest)
  after_space len e positive within = record {
    read = ap (λ k. with_front tokens (tokens_from k 0 (drop len rest))) (place_after len within)
        ∙ ap (with_front tokens) (sym (tokens_from-space _ len rest (front_is rest some ∙ e) positive within)) ∙ so_far.read;
    within = omega (arith, length-drop len rest, so_far.within);
  }

  pub after_blank : get_or rest 0 0 ≡ 32 → IsSoFar text tokens (drop 1 rest)
  unfolding first_piece class_of
  after_blank blank = after_space 1 (ap (λ b. first_piece b (drop 1 rest)) blank) (lit< tt) some

  pub after_found : (len : ℕ) (kind : Kind) → first_piece (get_or rest 0 0) (drop 1 rest) ≡ Found kind len → 0 < len → len ≤ length rest
      → IsSoFar text (tokens ++ token_at (length text - length rest) kind len ∷ []) (drop len rest)
  after_found len kind e positive within = record {
    read = ap (λ k. with_front (tokens ++ token_at (length text - length rest) kind len ∷ []) (tokens_from k 0 (drop len rest))) (place_after len within)
        ∙ sym (with_front-first tokens (token_at (length text - length rest) kind len) _)
        ∙ ap (with_front tokens) (sym (tokens_from-found _ len kind rest (front_is rest some ∙ e) positive within)) ∙ so_far.read;
    within = omega (arith, length-drop len rest, so_far.within);
  }

  pub at_bad : (offset : ℕ) → first_piece (get_or rest 0 0) (drop 1 rest) ≡ Bad offset → tokens_of text ≡ Err (BadByte (length text - length rest + offset))
  at_bad offset e = sym so_far.read ∙ ap (with_front tokens) (tokens_from-bad _ offset rest (front_is rest some ∙ e))

  pub at_long : first_piece (get_or rest 0 0) (drop 1 rest) ≡ Long → tokens_of text ≡ Err (LongNumber (length text - length rest))
  at_long e = sym so_far.read ∙ ap (with_front tokens) (tokens_from-long _ rest some (front_is rest some ∙ e))
