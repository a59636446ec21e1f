use Rattle.std.proofs.Common.{refl, [], map, Ok}
use Rattle.std.proofs.lemmas.List.Elements.{recursion_from_All}
use Rattle.ame_parse.specs.Seen.{seen}
use Rattle.ame_print.specs.Again.{source_text}
use Rattle.ame_print.specs.Tokens.{term_tokens}
use Rattle.ame_gen.specs.Template.{program_text}
use Rattle.ame_gen.specs.Transfers.{transfers, IsTransfer}
use Rattle.ame_text_cases.specs.Workload.{workload, workload_names, workload_term}
use Rattle.ame_text_cases.proofs.ReadsLemmas.{workload_reads}
use Rattle.ame_text_cases.proofs.TextLemmas.{text_lexed}
use Rattle.ame_text_cases.proofs.WholeLemmas.{canonical_lexed, same_lexemes}
use Rattle.ame_text_cases.proofs.laws.text_has_canonical_tokens.Goals as goal

pub returns : goal.returns
returns c = λ seed size some most.
    let all = recursion_from_All IsTransfer (transfers seed size) (c.transfers_are_valid.ensures seed size) in
    let text = program_text seed size in
    let canonical = source_text (workload seed size) in
    let one = text_lexed seed size most all [] in
    let other = canonical_lexed (workload seed size) 9 (workload_reads seed size some most all) in
    record {
      ones = map (seen text) one.found;
      others = map (seen canonical) other.found;
      of_one = record { tokens = one.found; lexed = (c.grammar_is_reading.ensures text (Ok one.found)).0 one.lexes; seen_so = refl };
      of_other = record { tokens = other.found; lexed = (c.grammar_is_reading.ensures canonical (Ok other.found)).0 other.lexes; seen_so = refl };
      same = same_lexemes _ _ (term_tokens workload_names (workload_term seed size)) one.same other.same;
    }
