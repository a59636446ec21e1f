-- A fault is the first of its text.
use Rattle.std.proofs.Common.{◌≡◌, ℕ, ◌+◌, ℤ, List, [], ◌∷◌, ◌++◌, length, length-append, take, refl, sym, ap, ◌∙◌, subst, add-zero, append_assoc, append-nil, Ok, Err, arith}
use Rattle.std.proofs.Math.Seq.{take-append_seam}
use Rattle.ame_lex.specs.declared.tokens.Kind.TheVariants.{Number}
use Rattle.ame_lex.specs.declared.tokens.Token.{Token}
use Rattle.ame_lex.specs.declared.tokens.LexFault.{LexFault}
use Rattle.ame_lex.specs.declared.tokens.LexFault.TheVariants.{BadByte}
use Rattle.ame_lex.specs.Bytes.{Text}
use Rattle.ame_lex.specs.Grammar.{IsNumber, plain, negative, number, IsFault, bad_byte, long_number, letter_after_number, Lexes, finished, blank, comment, token, later, faulty}
use Rattle.ame_lex.specs.Faults.{IsFaultAt, HasTokens}
use Rattle.ame_lex.specs.Reading.{LexOutcome, with_first, token_at}
use Rattle.ame_lex.proofs.Cuts.{EndsSo, run-on, number-on, token-on, ends_at_once, ends_alike, ends_alike_some}
use Rattle.ame_lex.proofs.Growing.{still_long}
use Rattle.ame_lex.proofs.PieceLemmas.{number-splits, token-splits}
use Rattle.ame_lex.proofs.ReadingLemmas.{with_front, with_front-none}
use Rattle.ame_lex.proofs.Soundness.{lexes-token}

-- The text has these tokens at its front and then the fault. What is written in place of the rest is read after them.
record Reaches (at : ℕ) (text : Text) (fault : LexFault) : Type 0 where
  front : Text
  tail : Text
  tokens : List Token
  split : text ≡ front ++ tail
  here : IsFault (at + length front) tail fault
  goes : (other : Text) (outcome : LexOutcome) → EndsSo tail other → Lexes (at + length front) other outcome → Lexes at (front ++ other) (with_front tokens outcome)

with_front-cons : (t : Token) (tokens : List Token) (outcome : LexOutcome) → with_first t (with_front tokens outcome) ≡ with_front (t ∷ tokens) outcome
with_front-cons t tokens (Ok more) = refl
with_front-cons t tokens (Err fault) = refl

reaches : {at : ℕ} {text : Text} {fault : LexFault} → Lexes at text (Err fault) → Reaches at text fault
reaches (blank {at = at} {b = b} {rest = rest} {outcome = Err fault} e more) =
    let r = reaches more in
    let place : at + 1 + length r.front ≡ at + length (b ∷ r.front) = omega arith in
    record {
      front = b ∷ r.front;
      tail = r.tail;
      tokens = r.tokens;
      split = ap (λ z. b ∷ z) r.split;
      here = subst (λ k. IsFault k r.tail fault) place r.here;
      goes = λ other outcome so l. blank e (r.goes other outcome so (subst (λ k. Lexes k other outcome) (sym place) l));
    }
reaches (comment {at = at} {b = b} {text = text} {body = body} {rest = rest} {outcome = Err fault} e run more) =
    let r = reaches more in
    let place : at + 1 + length body + length r.front ≡ at + length (b ∷ (body ++ r.front)) = omega (arith, length-append body r.front) in
    record {
      front = b ∷ (body ++ r.front);
      tail = r.tail;
      tokens = r.tokens;
      split = ap (λ z. b ∷ z) (run.split ∙ ap (λ z. body ++ z) r.split ∙ sym (append_assoc body r.front r.tail));
      here = subst (λ k. IsFault k r.tail fault) place r.here;
      goes = λ other outcome so l.
          let after : EndsSo rest (r.front ++ other) = subst (λ z. EndsSo z (r.front ++ other)) (sym r.split) (ends_alike r.front r.tail other so) in
          subst (λ z. Lexes at (b ∷ z) (with_front r.tokens outcome)) (sym (append_assoc body r.front other))
          (comment e (run-on (r.front ++ other) after run) (r.goes other outcome so (subst (λ k. Lexes k other outcome) (sym place) l)));
    }
reaches (later {at = at} {text = text} {spelling = spelling} {rest = rest} {kind = kind} {fault = fault} t more) =
    let r = reaches more in
    let place : at + length spelling + length r.front ≡ at + length (spelling ++ r.front) = omega (arith, length-append spelling r.front) in
    record {
      front = spelling ++ r.front;
      tail = r.tail;
      tokens = token_at at kind (length spelling) ∷ r.tokens;
      split = (token-splits t).0 ∙ ap (λ z. spelling ++ z) r.split ∙ sym (append_assoc spelling r.front r.tail);
      here = subst (λ k. IsFault k r.tail fault) place r.here;
      goes = λ other outcome so l.
          let after : EndsSo rest (r.front ++ other) = subst (λ z. EndsSo z (r.front ++ other)) (sym r.split) (ends_alike r.front r.tail other so) in
          subst (λ z. Lexes at z (with_front (token_at at kind (length spelling) ∷ r.tokens) outcome)) (sym (append_assoc spelling r.front other))
          (subst (λ o. Lexes at (spelling ++ (r.front ++ other)) o) (with_front-cons _ r.tokens outcome)
          (lexes-token (length spelling) (with_front r.tokens outcome) (token-on (r.front ++ other) after t) refl (r.goes other outcome so (subst (λ k. Lexes k other outcome) (sym place) l))));
    }
reaches (faulty {at = at} {text = text} {fault = fault} f) = record {
  front = [];
  tail = text;
  tokens = [];
  split = refl;
  here = subst (λ k. IsFault k text fault) (sym (add-zero at)) f;
  goes = λ other outcome so l. subst (λ k. Lexes k other (with_front [] outcome)) (add-zero at) (subst (λ o. Lexes (at + 0) other o) (sym (with_front-none outcome)) l);
}

-- the place of the cut, with the bytes before it and the rest
record Cut (tail part : Text) : Type 0 where
  after : Text
  split : tail ≡ part ++ after
  ends : EndsSo tail part

-- what stands before a fault has tokens
record Before (start : ℕ) (tail : Text) (place : ℕ) : Type 0 where
  part : Text
  tokens : List Token
  cut : Cut tail part
  len : place ≡ start + length part
  lexes : Lexes start part (Ok tokens)

at_once : (start : ℕ) (tail : Text) → Before start tail start
at_once start tail = record { part = []; tokens = []; cut = record { after = tail; split = refl; ends = ends_at_once tail }; len = sym (add-zero start); lexes = finished }

before_fault : {start : ℕ} {tail : Text} {fault : LexFault} (place : ℕ) → IsFault start tail fault → IsFaultAt fault place → Before start tail place
before_fault place (bad_byte {at = start} {b = b} {rest = rest} nothing) e = subst (Before start (b ∷ rest)) e (at_once start (b ∷ rest))
before_fault place (long_number {at = start} {text = tail} n long) e = subst (Before start tail) e (at_once start tail)
before_fault place (letter_after_number {at = start} {text = tail} {spelling = spelling} {rest = rest} {value = value} n fit letter) e =
    let split = (number-splits n).0 in
    let alone : IsNumber spelling value spelling [] = subst (λ z. IsNumber z value spelling []) (append-nil spelling) (number-on [] (ends_at_once rest) n) in
    let ends : EndsSo (spelling ++ rest) spelling = subst (EndsSo (spelling ++ rest)) (append-nil spelling) (ends_alike spelling rest [] (ends_at_once rest)) in
    record {
      part = spelling;
      tokens = token_at start (Number value) (length spelling) ∷ [];
      cut = record { after = rest; split = split; ends = subst (λ z. EndsSo z spelling) (sym split) ends };
      len = sym e;
      lexes = token (number alone fit refl) finished;
    }

-- the part of a text up to a place in its last piece
take-part : (text front tail part : Text) (place : ℕ) (cut : Cut tail part) → text ≡ front ++ tail → place ≡ 0 + length front + length part → take place text ≡ front ++ part
take-part text front tail part place cut split len =
    let whole : text ≡ (front ++ part) ++ cut.after = split ∙ ap (λ z. front ++ z) cut.split ∙ sym (append_assoc front part cut.after) in
    let e : place ≡ length (front ++ part) = omega (arith, len, length-append front part) in
    ap (take place) whole ∙ ap (λ n. take n ((front ++ part) ++ cut.after)) e ∙ take-append_seam (front ++ part) cut.after

pub tokens_before : (text : Text) (fault : LexFault) (place : ℕ) → Lexes 0 text (Err fault) → IsFaultAt fault place → HasTokens (take place text)
tokens_before text fault place l at =
    let r = reaches l in
    let before = before_fault place r.here at in (
      r.tokens ++ before.tokens,
      subst (λ z. Lexes 0 z (Ok (r.tokens ++ before.tokens))) (sym (take-part text r.front r.tail before.part place before.cut r.split before.len))
          (r.goes before.part (Ok before.tokens) before.cut.ends before.lexes),
    )

-- a bad byte is the first fault of any text that ends with it
record Spoiled (start : ℕ) (tail : Text) (place : ℕ) : Type 0 where
  part : Text
  cut : Cut tail part
  len : place + 1 ≡ start + length part
  fault : IsFault start part (BadByte place)

spoiled : {start : ℕ} {tail : Text} {place : ℕ} → IsFault start tail (BadByte place) → Spoiled start tail place
spoiled (bad_byte {at = start} {b = b} {rest = rest} nothing) =
    record { part = b ∷ []; cut = record { after = rest; split = refl; ends = ends_alike_some b rest [] }; len = refl; fault = bad_byte nothing }
spoiled (letter_after_number {rest = []} n fit letter) = (cc)
spoiled (letter_after_number {at = start} {text = tail} {spelling = spelling} {rest = c ∷ rest} n fit letter) =
    let split = (number-splits n).0 in
    record {
      part = spelling ++ c ∷ [];
      cut = record {
        after = rest;
        split = split ∙ sym (append_assoc spelling (c ∷ []) rest);
        ends = subst (λ z. EndsSo z (spelling ++ c ∷ [])) (sym split) (ends_alike spelling (c ∷ rest) (c ∷ []) (ends_alike_some c rest []));
      };
      len = omega (arith, length-append spelling (c ∷ []));
      fault = letter_after_number (number-on (c ∷ []) (ends_alike_some c rest []) n) fit letter;
    }

pub bad_byte_alone : (text : Text) (place : ℕ) → Lexes 0 text (Err (BadByte place)) → Lexes 0 (take (place + 1) text) (Err (BadByte place))
bad_byte_alone text place l =
    let r = reaches l in
    let s = spoiled r.here in
    subst (λ z. Lexes 0 z (Err (BadByte place))) (sym (take-part text r.front r.tail s.part (place + 1) s.cut r.split s.len))
    (r.goes s.part (Err (BadByte place)) s.cut.ends (faulty s.fault))

-- a fault stays, whatever is written after its text
record Stays (start : ℕ) (tail more : Text) (fault : LexFault) : Type 0 where
  ends : EndsSo tail (tail ++ more)
  fault_is : IsFault start (tail ++ more) fault

number_begins : {text spelling rest : Text} {value : ℤ} (more : Text) → IsNumber text value spelling rest → EndsSo text (text ++ more)
number_begins more (plain {first = first} {text = text} digit run) = ends_alike_some first text (text ++ more)
number_begins more (negative {sign = sign} {first = first} {text = text} sign_is digit run) = ends_alike_some sign (first ∷ text) (first ∷ (text ++ more))

stays : {start : ℕ} {tail : Text} {fault : LexFault} (more : Text) → IsFault start tail fault → Stays start tail more fault
stays more (bad_byte {b = b} {rest = rest} nothing) = record { ends = ends_alike_some b rest (rest ++ more); fault_is = bad_byte nothing }
stays more (long_number n long) = record { ends = number_begins more n; fault_is = still_long more n long }
stays more (letter_after_number {rest = []} n fit letter) = (cc)
stays more (letter_after_number {at = start} {text = tail} {spelling = spelling} {rest = c ∷ rest} {value = value} n fit letter) =
    let split = (number-splits n).0 in
    let on = number-on (c ∷ (rest ++ more)) (ends_alike_some c rest (rest ++ more)) n in
    record {
      ends = number_begins more n;
      fault_is = subst (λ z. IsFault start z (BadByte (start + length spelling))) (sym (ap (λ z. z ++ more) split ∙ append_assoc spelling (c ∷ rest) more)) (letter_after_number on fit letter);
    }

pub fault_stays : (text more : Text) (fault : LexFault) → Lexes 0 text (Err fault) → Lexes 0 (text ++ more) (Err fault)
fault_stays text more fault l =
    let r = reaches l in
    let s = stays more r.here in
    subst (λ z. Lexes 0 z (Err fault)) (sym (ap (λ z. z ++ more) r.split ∙ append_assoc r.front r.tail more))
    (r.goes (r.tail ++ more) (Err fault) s.ends (faulty s.fault_is))
