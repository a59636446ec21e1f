-- The outcome of a text by the grammar is the computed one.
use Rattle.std.proofs.Common.{◌≡◌, ℕ, suc, ◌+◌, ◌<◌, ◌≤◌, cond, ◌∷◌, length, length-append, drop, refl, ap, ◌∙◌, add-zero, Err, arith}
use Rattle.std.specs.List.{prefix_len}
use Rattle.std.proofs.Math.Seq.{drop-append_seam}
use Rattle.ame_lex.specs.declared.classes.Class.{Class}
use Rattle.ame_lex.specs.declared.classes.Class.TheVariants.{Blank, Semicolon}
use Rattle.ame_lex.specs.declared.pieces.Piece.TheVariants.{Space, Found, Bad, Long}
use Rattle.ame_lex.specs.declared.tokens.Kind.{Kind}
use Rattle.ame_lex.specs.declared.tokens.Kind.TheVariants.{Number}
use Rattle.ame_lex.specs.declared.tokens.LexFault.{LexFault}
use Rattle.ame_lex.specs.declared.tokens.LexFault.TheVariants.{BadByte}
use Rattle.ame_lex.specs.Bytes.{Text, is_word_byte, is_comment_byte, begins}
use Rattle.ame_lex.specs.Grammar.{BeginsNothing, underscore, other, IsToken, IsFault, bad_byte, long_number, letter_after_number, Lexes, finished, blank, comment, token, later, faulty}
use Rattle.ame_lex.specs.Reading.{LexOutcome, piece_by, with_first, token_at, tokens_from, tokens_of}
use Rattle.ame_lex.proofs.RunLemmas.{one-plus, run_len, run_rest}
use Rattle.ame_lex.proofs.FitLemmas.{fits_test, long_test}
use Rattle.ame_lex.proofs.ReadingLemmas.{tokens_from-space, tokens_from-found, tokens_from-bad, tokens_from-long}
use Rattle.ame_lex.proofs.PieceLemmas.{front_by, front-number, front-token, number-splits, token-splits}

-- a token is read, and then what is after it
read-token : {text spelling rest : Text} {kind : Kind} (at : ℕ) → IsToken text kind spelling rest
    → tokens_from at 0 text ≡ with_first (token_at at kind (length spelling)) (tokens_from (at + length spelling) 0 rest)
read-token {text} {spelling} {rest} {kind} at t =
    let splits = token-splits t in
    let within : length spelling ≤ length text = omega (arith, ap length splits.0, length-append spelling rest) in
    let after : drop (length spelling) text ≡ rest = ap (drop (length spelling)) splits.0 ∙ drop-append_seam spelling rest in
    tokens_from-found at (length spelling) kind text (front-token t) splits.1 within
    ∙ ap (λ z. with_first (token_at at kind (length spelling)) (tokens_from (at + length spelling) 0 z)) after

read-nothing : (class : Class) (b : ℕ) (rest : Text) → BeginsNothing class → piece_by class b rest ≡ Bad 0
read-nothing class b rest underscore = refl
read-nothing class b rest other = refl

read-fault : {at : ℕ} {text : Text} {fault : LexFault} → IsFault at text fault → tokens_from at 0 text ≡ Err fault
read-fault (bad_byte {at = at} {b = b} {rest = rest} nothing) =
    tokens_from-bad at 0 (b ∷ rest) (front_by _ b rest refl ∙ read-nothing _ b rest nothing) ∙ ap (λ n. Err (BadByte n)) (add-zero at)
read-fault (long_number {at = at} {text = text} {spelling = spelling} {rest = rest} {value = value} n long) =
    let splits = number-splits n in
    let some : 0 < length text = omega (arith, ap length splits.0, length-append spelling rest, splits.1) in
    tokens_from-long at text some
    (front-number n ∙ ap (λ b. cond b (cond (begins is_word_byte rest) (Bad (length spelling)) (Found (Number value) (length spelling))) Long) (long_test value long))
read-fault (letter_after_number {at = at} {text = text} {spelling = spelling} {rest = rest} {value = value} n fit letter) =
    tokens_from-bad at (length spelling) text
    (front-number n ∙ ap (λ b. cond b (cond (begins is_word_byte rest) (Bad (length spelling)) (Found (Number value) (length spelling))) Long) (fits_test value fit)
    ∙ ap (λ b. cond b (Bad (length spelling)) (Found (Number value) (length spelling))) letter)

pub read_so : {at : ℕ} {text : Text} {outcome : LexOutcome} → Lexes at text outcome → tokens_from at 0 text ≡ outcome
unfolding tokens_from
read_so finished = refl
read_so (blank {at = at} {b = b} {rest = rest} e more) = tokens_from-space at 1 (b ∷ rest) (front_by Blank b rest e) (omega arith) (omega arith) ∙ read_so more
read_so (comment {at = at} {b = b} {text = text} {body = body} {rest = rest} e run more) =
    let len : 1 + prefix_len is_comment_byte text ≡ suc (length body) = ap (λ n. 1 + n) (run_len run) ∙ one-plus (length body) in
    let within : suc (length body) ≤ length (b ∷ text) = omega (arith, ap length run.split, length-append body rest) in
    let place : at + suc (length body) ≡ at + 1 + length body = omega arith in
    tokens_from-space at (suc (length body)) (b ∷ text) (front_by Semicolon b text e ∙ ap Space len) (omega arith) within
    ∙ ap (λ z. tokens_from (at + suc (length body)) 0 z) (run_rest run) ∙ ap (λ k. tokens_from k 0 rest) place ∙ read_so more
read_so (token {at = at} {spelling = spelling} {kind = kind} t more) = read-token at t ∙ ap (with_first (token_at at kind (length spelling))) (read_so more)
read_so (later {at = at} {spelling = spelling} {kind = kind} t more) = read-token at t ∙ ap (with_first (token_at at kind (length spelling))) (read_so more)
read_so (faulty f) = read-fault f

pub read_text : (text : Text) (outcome : LexOutcome) → Lexes 0 text outcome → tokens_of text ≡ outcome
unfolding tokens_of
read_text text outcome l = read_so l
