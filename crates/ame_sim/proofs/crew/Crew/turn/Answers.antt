use Rattle.std.proofs.Common.{◌<◌, sym, subst, arith}
use Rattle.std.specs.Arc.{arc_value}
use Rattle.ame_shell.specs.Work.{stage_at}
use Rattle.ame_shell.specs.Shell.{shell_view, IsShell}
use Rattle.ame_shell.specs.Turned.{IsShellInOrder, LeavesInOrder}
use Rattle.ame_shell.proofs.TurnLemmas.{hand-stands}
use Rattle.ame_sim.proofs.CrewLemmas.{crew-turned, turn-played}
use Rattle.ame_sim.proofs.PreparedLemmas.{prepared-or-lacked}
use Rattle.ame_sim.proofs.crew.Crew.turn.Goals as goal

pub turn-member-requires : goal.turn-member-requires
turn-member-requires g c = record {
  may = record {
    order = subst (λ k. IsShellInOrder g.M.Runner.meaning k (shell_view c.self.inside.shell)) (sym c.deref-2.ensures) c.self.invariant.order;
    there = subst (λ v. c.args.seat < v.core.limits.seats) (sym c.self.view_is) c.requires;
    fits = c.prepare_seat.ensures.fits;
  };
}

pub invariant_of-self : goal.invariant_of-self
invariant_of-self g c =
    let seat = c.args.seat in
    let within = subst (λ v. seat < v.core.limits.seats) (sym c.self.view_is) c.requires in
    let count = c.self.invariant.count in
    let now = shell_view c.turn-member.new.self in
    crew-turned g.M.Runner.meaning (arc_value c.self.inside.code) (shell_view c.self.inside.shell) now c.self.inside.hands.items seat c.turn-member.new.work
    c.self.invariant (omega (arith, within, count))
    (subst (λ k. LeavesInOrder g.M.Runner.meaning k seat (shell_view c.self.inside.shell) now c.turn-member.new.work) c.deref-2.ensures c.turn-member.ensures.leaves)

pub returns-clause-played : goal.returns-clause-played
returns-clause-played g c =
    let engine = c.self.inside.shell.engine in
    let work = c.prepare_seat.new.work in
    turn-played g.M.Runner.meaning c.args.seat (stage_at g.M.Runner.meaning.stage engine.code work) _ _ _ c.turn-member.result.outcome c.turn-member.result.member
    c.place_wanted-wanted.result c.place_told.result c.cells.result c.self.view_is
    (λ s e. (hand-stands g.M.Runner.meaning g.met.M.Runner.sound engine c.args.seat work c.prepare_seat.ensures.fits s e).0.on)
    (prepared-or-lacked g.M.Runner.meaning g.met.M.Runner.sound engine c.args.seat work c.turn-member.result.outcome c.prepare_seat.ensures.fits c.turn-member.ensures.lacks)
    c.turn-member.ensures.turned c.turn-member.ensures.member
    c.cells.ensures (c.place_wanted-wanted.ensures engine.code) c.place_told.ensures

pub returns-clause-keeps : goal.returns-clause-keeps
returns-clause-keeps g c = λ opening h. c.turn-member.ensures.leaves.keeps opening (subst (λ v. IsShell g.M.Runner.meaning opening v) (sym c.self.view_is) h)
