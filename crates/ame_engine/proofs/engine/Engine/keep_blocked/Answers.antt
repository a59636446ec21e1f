use Rattle.std.proofs.Common.{ap, ◌++◌, ◌∙◌}
use Rattle.ame_protocol.specs.Event.Causes.{certificates_of}
use Rattle.ame_engine.proofs.BlockedLemmas.{whole-blocked, makes-blocked}
use Rattle.ame_engine.proofs.engine.Engine.keep_blocked.Goals as goal

pub invariant_of-self : goal.invariant_of-self
invariant_of-self g c = record {
  whole = whole-blocked g.M.Runner.meaning
      _ c.args.self.now c.self.view_is c.self.invariant.whole c.in_ok-numbers.numbers.items c.in_ok-numbers.ensures.numbers
      c.entries.result.now c.entries-2.result.now c.entries.ensures.entries c.entries-2.ensures.entries c.in_ok-certificates.certificates.items
      (c.in_ok-certificates.ensures ∙ ap (certificates_of (c.entries.result.now ++ c.entries-2.result.now)) c.as_slice.ensures.value)
      c.requires.going c.requires.parked;
  places = c.self.invariant.places;
}

pub returns-clause-ok : goal.returns-clause-ok
returns-clause-ok g c =
    makes-blocked g.M.Runner.meaning
    _ c.args.self.now c.self.view_is c.self.invariant.whole c.in_ok-numbers.numbers.items c.in_ok-numbers.ensures.numbers
    c.entries.result.now c.entries-2.result.now c.entries.ensures.entries c.entries-2.ensures.entries c.in_ok-certificates.certificates.items
    (c.in_ok-certificates.ensures ∙ ap (certificates_of (c.entries.result.now ++ c.entries-2.result.now)) c.as_slice.ensures.value)
    c.requires.going c.requires.parked
