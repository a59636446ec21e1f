-- A whole text: what is read of it is what it spells.
use Rattle.std.proofs.Common.{◌≡◌, ◌≢◌, ◌↔◌, ℕ, refl, sym, ap, subst, ◌∙◌, List, [], length, Result, Ok, Err, arith}
use Rattle.ame_lex.specs.Bytes.{Text}
use Rattle.ame_lex.specs.Grammar.{Lexes}
use Rattle.ame_lex.specs.Reading.{tokens_of}
use Rattle.ame_lex.specs.declared.tokens.Token.{Token}
use Rattle.ame_lex.specs.declared.tokens.LexFault.{LexFault}
use Rattle.ame_term.specs.Tree.{Tree}
use Rattle.ame_parse.specs.declared.ahead.Ahead.TheVariants as a
use Rattle.ame_parse.specs.declared.fault.ParseFault.{ParseFault}
use Rattle.ame_parse.specs.declared.fault.ParseFault.TheVariants.{Expected, UnknownName, TooNested, Trailing, NoMemory}
use Rattle.ame_parse.specs.Input.{Input, ParseOutcome, ahead, finish_by, finish}
use Rattle.ame_parse.specs.Seen.{start_of}
use Rattle.ame_parse.specs.Reading.{term, max_open, program}
use Rattle.ame_parse.specs.Text.{Source, source_by, reading_by, reading, AnswersProgram}
use Rattle.ame_parse.specs.Grammar as g
use Rattle.ame_parse.specs.Grammar.{IsTerm, Spells}
use Rattle.ame_term.specs.SourceTerm.{nodes, IsSourceTerm, IsBound}
use Rattle.ame_parse.proofs.Facts.{term_places, term_source}
use Rattle.ame_term.specs.Numbered.{IsNumbered}
use Rattle.ame_parse.proofs.Bound.{term_closed}
use Rattle.ame_parse.proofs.Numbering.{term_numbered}
use Rattle.ame_parse.proofs.Steps.{Leads, leads_pure, leads_on, leads_end}
use Rattle.ame_parse.proofs.Soundness.{term_leads}
use Rattle.ame_parse.proofs.Completeness.{term_reads}

pub record IsWhole (i : Input) (tree : Tree) (last : Input) : Type 0 where
  pub term : IsTerm max_open i tree last
  pub ended : ahead last ≡ a.End

pub program_leads : (i : Input) → Leads program i (IsWhole i)
unfolding program
program_leads i = leads_on (term max_open) _ (IsTerm max_open i) (IsWhole i) i (term_leads max_open i) (λ tree j h.
    leads_end _ (IsWhole i) j (λ e. leads_pure tree j (IsWhole i) (record { term = h; ended = e })))

finish_at : (i : Input) → ahead i ≡ a.End → finish i ≡ Ok (tt, i)
unfolding finish
finish_at i e = ap (λ z. finish_by z i) e

program_reads : (i j : Input) (tree : Tree) → IsTerm max_open i tree j → ahead j ≡ a.End → program i ≡ Ok (tree, j)
unfolding program
program_reads i j tree t e = rw (term_reads t) (rw (finish_at j e))

-- the tokens of a text are what it is by their grammar
abbrev pub LexesAsRead : Text → Type 0
LexesAsRead text = (outcome : Result (List Token) LexFault) → Lexes 0 text outcome ↔ (tokens_of text ≡ outcome)

pub spelled_is_read : (text : Text) (source : Source) → LexesAsRead text → Spells text source → reading text ≡ Ok source
unfolding reading
spelled_is_read text source lexes (g.program {tokens = tokens} {tree = tree} {last = last} lexed term ended) =
    ap (reading_by text) ((lexes _).0 lexed) ∙ ap source_by (program_reads (start_of text tokens) last tree term ended)

abbrev source_of_answer : Tree × Input → Source
source_of_answer p = record { names = p.1.names; places = p.1.places; tree = p.0 }

spells_by : (text : Text) (source : Source) (tokens : List Token) → Lexes 0 text (Ok tokens) → (outcome : ParseOutcome Tree) → program (start_of text tokens) ≡ outcome
    → source_by outcome ≡ Ok source → Spells text source
spells_by text source tokens lexed (Ok p) e same =
    let whole = program_leads (start_of text tokens) p.0 p.1 e in
    let same_source : source_of_answer p ≡ source = cc in
    subst (Spells text) same_source (g.program lexed whole.term whole.ended)
spells_by text source tokens lexed (Err fault) e same = absurd (cc)

read_is_spelled_by : (text : Text) (source : Source) → LexesAsRead text → (outcome : Result (List Token) LexFault) → tokens_of text ≡ outcome → reading_by text outcome ≡ Ok source
    → Spells text source
read_is_spelled_by text source lexes (Ok tokens) e same = spells_by text source tokens ((lexes (Ok tokens)).1 e) (program (start_of text tokens)) refl same
read_is_spelled_by text source lexes (Err fault) e same = absurd (cc)

pub read_is_spelled : (text : Text) (source : Source) → LexesAsRead text → reading text ≡ Ok source → Spells text source
unfolding reading
read_is_spelled text source lexes e = read_is_spelled_by text source lexes (tokens_of text) refl e

-- what is read of the tokens is read of the text
read_of_tokens : (text : Text) (tokens : List Token) (i : Input) → tokens_of text ≡ Ok tokens → i ≡ start_of text tokens → reading text ≡ source_by (program i)
unfolding reading
read_of_tokens text tokens i e start = ap (reading_by text) e ∙ ap (λ k. source_by (program k)) (sym start)

pub fault_answers : (text : Text) (tokens : List Token) (i : Input) (fault : ParseFault) → tokens_of text ≡ Ok tokens → i ≡ start_of text tokens
    → (fault ≢ NoMemory → program i ≡ Err fault) → AnswersProgram text (Err fault)
fault_answers text tokens i NoMemory e start h = tt
fault_answers text tokens i (Expected place wanted) e start h = read_of_tokens text tokens i e start ∙ ap source_by (h (λ same. cc))
fault_answers text tokens i (UnknownName place) e start h = read_of_tokens text tokens i e start ∙ ap source_by (h (λ same. cc))
fault_answers text tokens i (TooNested place) e start h = read_of_tokens text tokens i e start ∙ ap source_by (h (λ same. cc))
fault_answers text tokens i (Trailing place) e start h = read_of_tokens text tokens i e start ∙ ap source_by (h (λ same. cc))

pub program_answers : (text : Text) (tokens : List Token) (i j : Input) (tree : Tree) → tokens_of text ≡ Ok tokens → i ≡ start_of text tokens
    → program i ≡ Ok (tree, j) → reading text ≡ Ok (source_of_answer (tree, j))
program_answers text tokens i j tree e start h = read_of_tokens text tokens i e start ∙ ap source_by h

-- what holds of a program that was read
pub record IsProgram (tree : Tree) (places : List ℕ) : Type 0 where
  pub placed : length places ≡ nodes tree
  pub source : IsSourceTerm tree
  pub bound : IsBound [] tree
  pub numbered : IsNumbered 0 tree

pub program_is : (text : Text) (tokens : List Token) (i j : Input) (tree : Tree) → i ≡ start_of text tokens → program i ≡ Ok (tree, j) → IsProgram tree j.places
program_is text tokens i j tree start e =
    let none : i.places ≡ [] = ap (λ k. k.places) start in
    let whole = program_leads i tree j e in
    record {
      placed = omega (arith, term_places whole.term, ap length none);
      source = term_source whole.term;
      bound = term_closed whole.term (ap (λ k. k.scope) start);
      numbered = term_numbered whole.term 0 (sym (ap (λ k. k.refs) start));
    }
