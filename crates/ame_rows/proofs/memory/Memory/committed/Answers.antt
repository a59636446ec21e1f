use Rattle.std.proofs.Common.{refl, sym, ap, ◌∙◌, arith, option_and_then}
use Rattle.std.proofs.lemmas.List.{length-map}
use Rattle.ame_rows.specs.MemoryView.{Log, MemoryView, memory_of, without_room}
use Rattle.ame_rows.specs.Entries.{entry_at}
use Rattle.ame_rows.specs.Committed.{old_value, committed}
use Rattle.ame_rows.proofs.KeptLemmas.{owner_within}
use Rattle.ame_rows.proofs.CommittedLemmas.{committed_owned}
use Rattle.ame_rows.proofs.FieldLemmas.{opened, row_in}
use Rattle.ame_rows.proofs.memory.Memory.committed.Goals as goal

pub index-requires : goal.index-requires
index-requires g c =
    let seen = memory_of c.self.inside.store c.self.inside.rows.items in
    let within = owner_within seen c.args.l.0 c.in-Some.owner c.cell-cell.result.now c.self.invariant c.cell-cell.ensures c.in-Some.is in
    omega (arith, within, length-map c.self.inside.rows.items without_room, c.self.inside.rows.ok.0)

pub returns-in-Some : goal.returns-in-Some
returns-in-Some g c =
    let seen = memory_of c.self.inside.store c.self.inside.rows.items in
    let l = c.args.l.0 in
    let within = owner_within seen l c.in-Some.owner c.cell-cell.result.now c.self.invariant c.cell-cell.ensures c.in-Some.is in
    let row = row_in (opened c.self.inside.store c.self.inside.rows.items refl c.self.invariant within c.index.ensures) in
    c.old_value.ensures
    ∙ ap (λ us. option_and_then old_value (entry_at us l)) (c.undos.ensures ∙ ap (λ (n : Log g.row.V.Denot). n.undos) (sym row))
    ∙ sym (committed_owned seen l c.cell-cell.result.now c.in-Some.owner c.cell-cell.ensures c.if-not-cell.false c.in-Some.is)
    ∙ ap (λ (x : MemoryView g.row.V.Denot). committed x l) c.self.view_is
