use Rattle.ame_views.proofs.StandingsLemmas.{comes-to}
use Rattle.ame_views.proofs.standings.stance_of.Goals as goal

pub returns : goal.returns
returns c = λ entries st.
    comes-to c.args.lines.now.text.now c.args.code.now entries c.args.note.now c.in_ok-cut.cut c.in_ok-cut.ensures c.in-Ok.standing.machine c.in-Ok.standing.want
    c.in-Ok.standing.reads.entries (c.in-Ok.ensures.there entries st) c.standing_position-there.ensures.form c.standing_position-there.result c.standing_position-there.ensures.there
