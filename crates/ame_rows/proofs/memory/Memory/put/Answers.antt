use Rattle.std.proofs.Common.{sym, ap, subst, ◌∙◌, slice_get}
use Rattle.ame_store.specs.Changes.{replaced}
use Rattle.ame_rows.specs.MemoryView.{MemoryView, memory_of}
use Rattle.ame_rows.specs.Consistent.{IsConsistent}
use Rattle.ame_rows.specs.Access.{put_at}
use Rattle.ame_rows.proofs.LookupLemmas.{get_there, changed_is}
use Rattle.ame_rows.proofs.AccessLemmas.{kept_put}
use Rattle.ame_rows.proofs.memory.Memory.put.Goals as goal

pub invariant_of-self : goal.invariant_of-self
invariant_of-self g c =
    let old = memory_of c.self.inside.store c.self.inside.rows.items in
    let l = c.args.l.0 in
    let there = get_there c.args.self.now.cells l c.requires.location in
    let at = ap (λ (x : MemoryView g.row.V.Denot). slice_get x.cells l) c.self.view_is ∙ there.1 in
    let became = c.put.ensures.cells there.0 at ∙ sym (changed_is l (replaced c.args.value) c.self.inside.store there.0 at) in
    subst (λ cells. IsConsistent (memory_of cells c.self.inside.rows.items)) (sym became)
    (kept_put old l c.args.value there.0 c.self.invariant at (c.requires.free there.0 there.1))

pub returns-clause-contents : goal.returns-clause-contents
returns-clause-contents g c =
    let l = c.args.l.0 in
    let there = get_there c.args.self.now.cells l c.requires.location in
    let at = ap (λ (x : MemoryView g.row.V.Denot). slice_get x.cells l) c.self.view_is ∙ there.1 in
    let became = c.put.ensures.cells there.0 at ∙ sym (changed_is l (replaced c.args.value) c.self.inside.store there.0 at) in
    ap (λ cells. memory_of cells c.self.inside.rows.items) became ∙ ap (put_at l c.args.value) c.self.view_is
