use Rattle.std.proofs.Common.{◌≡◌, ◌+◌, ◌-◌, ◌<◌, length, take, arith, rules}
use Rattle.std.specs.List.{after_last}
use Rattle.ame_why.specs.Position.{is_feed}
use Rattle.ame_views.proofs.LineIndexLemmas.{first-line, last-feed-listed, later-line}
use Rattle.ame_views.proofs.line_index.LineIndex.line_start.Goals as goal

pub returns-then-feeds-eq0 : goal.returns-then-feeds-eq0
returns-then-feeds-eq0 c =
    let whole = first-line c.args.self.now.text.now c.args.place c.args.feeds c.requires.within c.requires.counted c.if-feeds-eq0.true in
    omega arith

pub index-requires : goal.index-requires
index-requires c =
    let inside : c.args.feeds - 1 < length c.args.self.now.feeds.items =
    last-feed-listed c.args.self.now.text.now c.args.self.now.feeds.items c.args.place c.args.feeds c.requires.within c.args.self.now.listed c.requires.counted
    c.if-feeds-eq0.false in
    search rules

pub overflow_add-result : goal.overflow_add-result
overflow_add-result c =
    let whole : c.index.result.now + 1 + length (after_last is_feed (take c.args.place c.args.self.now.text.now)) ≡ c.args.place =
    later-line c.args.self.now.text.now c.args.self.now.feeds.items c.args.place c.args.feeds c.requires.within c.args.self.now.listed c.requires.counted
    c.if-feeds-eq0.false c.index.result.now c.index.ensures in
    omega arith

pub returns-else-feeds-eq0 : goal.returns-else-feeds-eq0
returns-else-feeds-eq0 c =
    later-line c.args.self.now.text.now c.args.self.now.feeds.items c.args.place c.args.feeds c.requires.within c.args.self.now.listed c.requires.counted
    c.if-feeds-eq0.false c.index.result.now c.index.ensures
