use Rattle.std.proofs.Common.{[]}
use Rattle.std.proofs.lemmas.List.Elements.{recursion_from_All}
use Rattle.ame_lex.specs.Bytes.{Text}
use Rattle.ame_parse.specs.Text.{Source}
use Rattle.ame_print.specs.Again.{ReadsAs, source_text}
use Rattle.ame_print.proofs.Whole.{SpellsAs}
use Rattle.ame_gen.specs.Template.{program_text}
use Rattle.ame_gen.specs.Transfers.{transfers, IsTransfer}
use Rattle.ame_text_cases.specs.Workload.{workload}
use Rattle.ame_text_cases.proofs.ReadsLemmas.{workload_reads}
use Rattle.ame_text_cases.proofs.TextLemmas.{text_lexed}
use Rattle.ame_text_cases.proofs.WholeLemmas.{spelled_so, canonical_lexed}
use Rattle.ame_text_cases.proofs.laws.text_is_read.Goals as goal

pub returns : goal.returns
returns c =
    let read : (text : Text) (source : Source) → SpellsAs text source → ReadsAs text source =
    λ text source spelled. record { again = spelled.again; read = (c.spelled_is_read.ensures text spelled.again).0 spelled.spells; names = spelled.names; tree = spelled.tree } in
    record {
      text = λ seed size some most.
          let all = recursion_from_All IsTransfer (transfers seed size) (c.transfers_are_valid.ensures seed size) in
          read (program_text seed size) (workload seed size) (spelled_so (program_text seed size) (workload seed size) 9 (text_lexed seed size most all []) (workload_reads seed size some most all));
      canonical = λ seed size some most.
          let all = recursion_from_All IsTransfer (transfers seed size) (c.transfers_are_valid.ensures seed size) in
          let part = workload_reads seed size some most all in
          read (source_text (workload seed size)) (workload seed size) (spelled_so (source_text (workload seed size)) (workload seed size) 9 (canonical_lexed (workload seed size) 9 part) part);
    }
