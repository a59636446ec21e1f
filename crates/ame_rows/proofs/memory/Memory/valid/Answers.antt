use Rattle.std.proofs.Common.{◌↔◌, IsNone, IfSome}
use Rattle.ame_rows.specs.Valid.{IsValid, IsFirstBad}
use Rattle.ame_rows.proofs.FieldLemmas.{opened, reads_in, told}
use Rattle.ame_rows.proofs.memory.Memory.valid.Goals as goal

pub valid-requires : goal.valid-requires
valid-requires g c =
    let o = opened c.self.inside.store c.self.inside.rows.items c.self.view_is c.self.invariant c.requires c.index.ensures in
    reads_in o

pub returns-clause-valid : goal.returns-clause-valid
returns-clause-valid g c =
    let o = opened c.self.inside.store c.self.inside.rows.items c.self.view_is c.self.invariant c.requires c.index.ensures in
    told o (λ cells notes. IsNone c.valid.result ↔ IsValid cells c.args.seat notes.reads) c.valid.ensures.valid

pub returns-clause-bad : goal.returns-clause-bad
returns-clause-bad g c =
    let o = opened c.self.inside.store c.self.inside.rows.items c.self.view_is c.self.invariant c.requires c.index.ensures in
    told o (λ cells notes. IfSome c.valid.result (IsFirstBad cells c.args.seat notes.reads)) c.valid.ensures.bad
