use Rattle.std.proofs.Common.{rules, ◌∙◌, max, sym, ap, subst, refl}
use Rattle.ame_weak.specs.View.{weak_of}
use Rattle.ame_runner.specs.Play.{PlayView, IsPlayedWeakly, HasMadeLabel}
use Rattle.ame_runner.specs.View.{play_of}
use Rattle.ame_runner.specs.Labels.{label_location, behind_location}
use Rattle.ame_runner.proofs.PlayLemmas.{played-made}
use Rattle.ame_runner.proofs.play.Play.make.Goals as goal

pub returns-then-is_none-clause-ok : goal.returns-then-is_none-clause-ok
returns-then-is_none-clause-ok c =
    let same = c.in_ok-room.ensures.same in
    let q : PlayView = record {
      program = (play_of c.room.new.self).program;
      labels = c.push_reserved.new.self.items;
      weak = weak_of c.step.new.self;
      above = c.in_ok-above.above;
      settled = c.len-self.result;
    } in
    let made : HasMadeLabel c.args.label (play_of c.room.new.self) q = record {
      program = refl;
      labels = c.push_reserved.ensures.items;
      legal = c.in_ok-step.ensures.ok;
      within = c.in_ok-step.ensures.bounds;
      above = c.in_ok-above.ensures ∙ ap (λ (p : PlayView). max p.above (behind_location (label_location c.args.label))) (sym same);
      settled = search rules;
    } in
    subst (λ (p : PlayView). HasMadeLabel c.args.label p q) same made

pub returns-then-is_none-clause-played : goal.returns-then-is_none-clause-played
returns-then-is_none-clause-played c = λ played.
    let same = c.in_ok-room.ensures.same in
    let q : PlayView = record {
      program = (play_of c.room.new.self).program;
      labels = c.push_reserved.new.self.items;
      weak = weak_of c.step.new.self;
      above = c.in_ok-above.above;
      settled = c.len-self.result;
    } in
    let made : HasMadeLabel c.args.label (play_of c.room.new.self) q = record {
      program = refl;
      labels = c.push_reserved.ensures.items;
      legal = c.in_ok-step.ensures.ok;
      within = c.in_ok-step.ensures.bounds;
      above = c.in_ok-above.ensures ∙ ap (λ (p : PlayView). max p.above (behind_location (label_location c.args.label))) (sym same);
      settled = search rules;
    } in
    played-made (play_of c.room.new.self) q c.args.label (subst IsPlayedWeakly (sym same) played) made

pub returns-else-is_none-clause-ok : goal.returns-else-is_none-clause-ok
returns-else-is_none-clause-ok c =
    let same = c.in_ok-room.ensures.same in
    let q : PlayView = record {
      program = (play_of c.room.new.self).program;
      labels = c.push_reserved.new.self.items;
      weak = weak_of c.step.new.self;
      above = c.in_ok-above.above;
      settled = c.room.new.self.settled;
    } in
    let made : HasMadeLabel c.args.label (play_of c.room.new.self) q = record {
      program = refl;
      labels = c.push_reserved.ensures.items;
      legal = c.in_ok-step.ensures.ok;
      within = c.in_ok-step.ensures.bounds;
      above = c.in_ok-above.ensures ∙ ap (λ (p : PlayView). max p.above (behind_location (label_location c.args.label))) (sym same);
      settled = search rules;
    } in
    subst (λ (p : PlayView). HasMadeLabel c.args.label p q) same made

pub returns-else-is_none-clause-played : goal.returns-else-is_none-clause-played
returns-else-is_none-clause-played c = λ played.
    let same = c.in_ok-room.ensures.same in
    let q : PlayView = record {
      program = (play_of c.room.new.self).program;
      labels = c.push_reserved.new.self.items;
      weak = weak_of c.step.new.self;
      above = c.in_ok-above.above;
      settled = c.room.new.self.settled;
    } in
    let made : HasMadeLabel c.args.label (play_of c.room.new.self) q = record {
      program = refl;
      labels = c.push_reserved.ensures.items;
      legal = c.in_ok-step.ensures.ok;
      within = c.in_ok-step.ensures.bounds;
      above = c.in_ok-above.ensures ∙ ap (λ (p : PlayView). max p.above (behind_location (label_location c.args.label))) (sym same);
      settled = search rules;
    } in
    played-made (play_of c.room.new.self) q c.args.label (subst IsPlayedWeakly (sym same) played) made
