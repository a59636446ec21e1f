use Rattle.std.proofs.Common.{◌<◌, length, sym, ap, ◌∙◌, subst, arith}
use Rattle.ame_sim.specs.Waits.{may_be_picked}
use Rattle.ame_sim.proofs.WaitsLemmas.{free-seat}
use Rattle.std.specs.List.{Contains}
use Rattle.ame_sim.specs.Crew.{AreResting, left_to_play}
use Rattle.ame_sim.specs.Run.{IsPlaying}
use Rattle.ame_sim.proofs.PlayLemmas.{IsNoted, answered-noted, later-is, noted-is, play-less, playing-more, resting-more, seat-within, some-may, waits-long, waits-noted, was-asked, who-asked}
use Rattle.ame_sim.proofs.PlainLemmas.{played-plain}
use Rattle.ame_sim.proofs.run.pick.Given as given
use Rattle.ame_sim.proofs.run.pick.Goals as goal

pub choose-requires : goal.choose-requires
choose-requires g c =
    let core = c.args.crew.now.core in
    let waits = c.args.book.now.waits in
    let long = waits-long core.limits.seats waits c.args.book.now.mades.items c.requires.waits in
    record {
      some =
          subst (λ may. 0 < length may) (sym (c.may_be_picked.ensures ∙ ap may_be_picked c.make_room.ensures.waits))
          (some-may core waits c.requires.rests c.who_waits_waits_for_a_seat.ensures c.requires.limits.some_seats long);
    }

pub turn-made-requires : goal.turn-made-requires
turn-made-requires g c =
    let waits = c.args.book.now.waits in
    let seat = c.in_ok-seat.seat in
    let long = waits-long c.args.crew.now.core.limits.seats waits c.args.book.now.mades.items c.requires.waits in
    let its = free-seat seat waits
    (subst (λ may. Contains may seat) (c.may_be_picked.ensures ∙ ap may_be_picked c.make_room.ensures.waits) c.in_ok-seat.ensures.picks) in
    omega (arith, its.0, long)

pub note-requires-clause-seat : goal.note-requires-clause-seat
note-requires-clause-seat g c =
    let waits = c.args.book.now.waits in
    let seat = c.in_ok-seat.seat in
    let its = free-seat seat waits
    (subst (λ may. Contains may seat) (c.may_be_picked.ensures ∙ ap may_be_picked c.make_room.ensures.waits) c.in_ok-seat.ensures.picks) in
    let is = c.turn-made.ensures.seat in
    let same = ap length c.make_room.ensures.waits in
    omega (arith, its.0, is, same)

pub note-requires-clause-byte : goal.note-requires-clause-byte
note-requires-clause-byte g c =
    let waits = c.args.book.now.waits in
    let seat = c.in_ok-seat.seat in
    let long = waits-long c.args.crew.now.core.limits.seats waits c.args.book.now.mades.items c.requires.waits in
    let its = free-seat seat waits
    (subst (λ may. Contains may seat) (c.may_be_picked.ensures ∙ ap may_be_picked c.make_room.ensures.waits) c.in_ok-seat.ensures.picks) in
    let is = c.turn-made.ensures.seat in
    let few = c.requires.limits.seats in
    omega (arith, its.0, is, long, few)

pub note-requires-clause-plain : goal.note-requires-clause-plain
note-requires-clause-plain g c = played-plain g.M.Runner.meaning c.turn-made.result _ _ c.turn-made.ensures.played

abbrev One : (g : given.Over) → goal.After-note g → Type 0
One g c =
    IsNoted c.args.crew.now.core.limits.seats c.args.book.now.waits c.make_room.new.self.waits c.note.new.self.waits c.args.book.now.mades.items
    c.make_room.new.self.mades.items c.note.new.self.mades.items c.may_be_picked.result.now c.turn-made.result

one : (g : given.Over) (c : goal.After-note g) → One g c
one g c = record {
  who = c.requires.waits;
  same = c.make_room.ensures.waits;
  as_before = c.make_room.ensures.same;
  lists = c.may_be_picked.ensures;
  seat = c.in_ok-seat.seat;
  picks = c.in_ok-seat.ensures.picks;
  its = c.turn-made.ensures.seat;
  waits_on = c.note.ensures.waits;
  more = c.note.ensures.noted;
}

pub returns-clause-plays : goal.returns-clause-plays
returns-clause-plays g c = λ first h.
    let seats = c.args.crew.now.core.limits.seats in
    subst (IsPlaying g.M.Runner.meaning seats first c.turn-made.new.self) (sym (noted-is _ _ _ _ _ _ _ _ _ (one g c)))
    (playing-more g.M.Runner.meaning seats first c.args.crew.now c.args.book.now.mades.items h c.requires.going c.turn-made.new.self c.turn-made.result
    c.turn-made.ensures.played (seat-within _ _ _ _ _ _ _ _ _ (one g c)) (who-asked _ _ _ _ _ _ _ _ _ (one g c)))

pub returns-clause-answers : goal.returns-clause-answers
unfolding one
returns-clause-answers g c =
    answered-noted _ _ _ _ _ _ _ _ _ (one g c) (g.H.Chooser.strategy c.args.chooser.now) (g.H.Chooser.strategy c.choose.new.self) c.in_ok-seat.ensures.answers

pub returns-clause-waits : goal.returns-clause-waits
returns-clause-waits g c = waits-noted _ _ _ _ _ _ _ _ _ (one g c)

pub returns-clause-rests : goal.returns-clause-rests
returns-clause-rests g c = λ none.
    subst (λ waits. AreResting waits c.turn-made.new.self.core) (sym (later-is _ _ _ _ _ _ _ _ _ (one g c)))
    (resting-more g.M.Runner.meaning c.args.crew.now c.turn-made.new.self c.turn-made.result c.args.book.now.waits c.turn-made.ensures.played c.requires.rests)

pub returns-clause-less : goal.returns-clause-less
returns-clause-less g c =
    subst (λ waits. left_to_play c.turn-made.new.self.core waits < left_to_play c.args.crew.now.core c.args.book.now.waits)
    (sym (later-is _ _ _ _ _ _ _ _ _ (one g c)))
    (play-less g.M.Runner.meaning c.args.crew.now c.turn-made.new.self c.turn-made.result c.args.book.now.waits c.turn-made.ensures.played c.requires.going
    (was-asked _ _ _ _ _ _ _ _ _ (one g c)) c.turn-made.ensures.limits c.turn-made.ensures.within)
