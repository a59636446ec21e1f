-- A fault stands at the first token at which the reading can't go on.
use Rattle.std.proofs.Common.{◌≡◌, refl, sym, ap, subst, ◌∙◌, ℕ, ◌+◌, ◌≤◌, List, [], ◌∷◌, ◌++◌, length, map, arith, Ok, Err}
use Rattle.ame_lex.specs.Bytes.{Text}
use Rattle.ame_lex.specs.Reading.{tokens_of}
use Rattle.ame_lex.specs.Tokens.{InOrder}
use Rattle.ame_lex.specs.declared.tokens.Token.{Token}
use Rattle.ame_term.specs.Tree.{Tree}
use Rattle.ame_parse.specs.declared.fault.ParseFault.{ParseFault}
use Rattle.ame_parse.specs.Input.{Seen, Input, ParseOutcome, place_in}
use Rattle.ame_parse.specs.Seen.{seen, start_of}
use Rattle.ame_parse.specs.Reading.{program}
use Rattle.ame_parse.specs.Fault.{place_of, at_place, lexeme_of, first_lexeme, HasSeenTokens}
use Rattle.ame_parse.specs.Text.{ReadingFault, source_by, reading_by, reading}
use Rattle.ame_parse.proofs.Locality.{Follows, LocalAt, goes, stops}
use Rattle.ame_parse.proofs.LocalTerms.{local_program}

-- ---- places rise

abbrev IsRising : ℕ → List Seen → ℕ → Type 0
IsRising from [] end = from ≤ end
IsRising from (token ∷ rest) end = (from ≤ token.place) × IsRising (token.place + 1) rest end

rising_from : (low from : ℕ) (rest : List Seen) (end : ℕ) → low ≤ from → IsRising from rest end → IsRising low rest end
rising_from low from [] end le h = omega arith
rising_from low from (token ∷ rest) end le h = (omega (arith, h.0), h.1)

rising_of : (text : Text) (from to : ℕ) (tokens : List Token) → InOrder from tokens to → IsRising from (map (seen text) tokens) to
rising_of text from to [] h = h
rising_of text from to (token ∷ tokens) h =
    (h.0, rising_from (token.start + 1) token.end (map (seen text) tokens) to (omega (arith, h.1)) (rising_of text token.end to tokens h.2))

place_rises : (before rest : List Seen) (from end : ℕ) → IsRising from (before ++ rest) end → from ≤ place_in end rest
place_rises [] [] from end h = h
place_rises [] (token ∷ rest) from end h = h.0
place_rises (token ∷ before) rest from end h = omega (arith, h.0, place_rises before rest (token.place + 1) end h.1)

head_same : (x y : Seen) (xs ys : List Seen) → x ∷ xs ≡ y ∷ ys → x ≡ y
head_same x y xs ys e = cc

tail_same : (x y : Seen) (xs ys : List Seen) → x ∷ xs ≡ y ∷ ys → xs ≡ ys
tail_same x y xs ys e = cc

-- one place of the list has this place of the text
one_place : (before before' rest rest' : List Seen) (from end : ℕ) → IsRising from (before ++ rest) end → before ++ rest ≡ before' ++ rest'
    → place_in end rest ≡ place_in end rest' → (before ≡ before') × (rest ≡ rest')
one_place [] [] rest rest' from end h e place = (refl, e)
one_place [] (x ∷ before') rest rest' from end h e place =
    let rises : IsRising from (x ∷ (before' ++ rest')) end = subst (λ z. IsRising from z end) e h in
    let first : place_in end rest ≡ x.place = ap (place_in end) e in
    absurd (omega (arith, place_rises before' rest' (x.place + 1) end rises.1, first, place))
one_place (x ∷ before) [] rest rest' from end h e place =
    let first : x.place ≡ place_in end rest' = ap (place_in end) e in
    absurd (omega (arith, place_rises before rest (x.place + 1) end h.1, first, place))
one_place (x ∷ before) (y ∷ before') rest rest' from end h e place =
    let first : x ≡ y = head_same x y (before ++ rest) (before' ++ rest') e in
    let found = one_place before before' rest rest' (x.place + 1) end h.1 (tail_same x y (before ++ rest) (before' ++ rest') e) place in
    (cc, found.1)

-- ---- the place at which the program stops

record Stop (m : ℕ) (i : Input) (fault : ParseFault) : Type 0 where
  before : List Seen
  from : List Seen
  split : i.rest ≡ before ++ from
  stands : place_of fault ≡ place_in i.end from
  stays : (i' : Input) (rest' : List Seen) → Follows m i before from i' rest' → program i' ≡ Err (at_place (place_in i'.end rest') fault)

stop_of : (m : ℕ) (i : Input) (fault : ParseFault) (o : ParseOutcome Tree) → LocalAt m program i o → o ≡ Err fault → Stop m i fault
stop_of m i fault o (goes used e ends go) same = absurd (cc)
stop_of m i fault o (stops {fault = found} before from e place stay) same =
    let it : found ≡ fault = cc in
    record {
      before = before;
      from = from;
      split = e;
      stands = ap place_of (sym it) ∙ place;
      stays = λ i' rest' follows. stay i' rest' follows ∙ ap (λ z. Err (at_place (place_in i'.end rest') z)) it;
    }

stop_at : (m : ℕ) (i : Input) (fault : ParseFault) → length i.rest ≤ m → program i ≡ Err fault → Stop m i fault
stop_at m i fault few e = stop_of m i fault (program i) (local_program m i few) e

syntactic_by : (o : ParseOutcome Tree) (fault : ParseFault) → source_by o ≡ Err (ReadingFault.Syntactic fault) → o ≡ Err fault
syntactic_by (Ok p) fault e = absurd (cc)
syntactic_by (Err found) fault e = let same : found ≡ fault = cc in ap Err same

pub fault_of_tokens : (text : Text) (tokens : List Token) (fault : ParseFault) → tokens_of text ≡ Ok tokens → reading text ≡ Err (ReadingFault.Syntactic fault)
    → program (start_of text tokens) ≡ Err fault
unfolding reading
fault_of_tokens text tokens fault lexed e = syntactic_by (program (start_of text tokens)) fault (sym (ap (reading_by text) lexed) ∙ e)

reading_of_fault : (text : Text) (tokens : List Token) (fault : ParseFault) → tokens_of text ≡ Ok tokens → program (start_of text tokens) ≡ Err fault
    → reading text ≡ Err (ReadingFault.Syntactic fault)
unfolding reading
reading_of_fault text tokens fault lexed e = ap (reading_by text) lexed ∙ ap source_by e

-- a fault stands at a token of the text, or at its end
pub fault_stands : (text : Text) (all : List Seen) (fault : ParseFault) → HasSeenTokens text all → reading text ≡ Err (ReadingFault.Syntactic fault)
    → (before from : List Seen) × (all ≡ before ++ from) × (place_of fault ≡ place_in (length text) from)
fault_stands text all fault has e =
    let i = start_of text has.tokens in
    let stop = stop_at (length i.rest) i fault (omega arith) (fault_of_tokens text has.tokens fault has.lexed e) in
    (stop.before, stop.from, sym has.seen_so ∙ stop.split, stop.stands)

abbrev AreInOrder : Text → Type 0
AreInOrder text = (tokens : List Token) → tokens_of text ≡ Ok tokens → InOrder 0 tokens (length text)

-- and stays, wherever the tokens stand and whatever comes after that one
pub fault_stays : (text other : Text) (before from before' from' : List Seen) (fault : ParseFault) → AreInOrder text
    → HasSeenTokens text (before ++ from) → reading text ≡ Err (ReadingFault.Syntactic fault) → place_of fault ≡ place_in (length text) from
    → HasSeenTokens other (before' ++ from') → map lexeme_of before' ≡ map lexeme_of before → first_lexeme from' ≡ first_lexeme from
    → reading other ≡ Err (ReadingFault.Syntactic (at_place (place_in (length other) from') fault))
fault_stays text other before from before' from' fault ordered has e place has' same alike =
    let i = start_of text has.tokens in
    let i' = start_of other has'.tokens in
    let m = length i'.rest + length i.rest in
    let stop = stop_at m i fault (omega arith) (fault_of_tokens text has.tokens fault has.lexed e) in
    let rises : IsRising 0 i.rest (length text) = rising_of text 0 (length text) has.tokens (ordered has.tokens has.lexed) in
    let found = one_place stop.before before stop.from from 0 (length text) (subst (λ z. IsRising 0 z (length text)) stop.split rises) (sym stop.split ∙ has.seen_so) (sym stop.stands ∙ place) in
    let follows : Follows m i stop.before stop.from i' from' = record {
      twin = record { names = refl; scope = refl; refs = refl };
      few = omega arith;
      used' = before';
      split = has'.seen_so;
      same = same ∙ ap (map lexeme_of) (sym found.0);
      alike = alike ∙ ap first_lexeme (sym found.1);
    } in
    reading_of_fault other has'.tokens _ has'.lexed (stop.stays i' from' follows)
