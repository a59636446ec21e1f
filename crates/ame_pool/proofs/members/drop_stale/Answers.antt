use Rattle.std.proofs.Common.{◌∙◌, is_some, ap, rules}
use Rattle.ame_pool.proofs.Words.{get, Numbered, only, members_at, filter_same}
use Rattle.ame_pool.proofs.EntryLemmas.{rising_filtered}
use Rattle.ame_pool.proofs.SlotLemmas.{kept_members}
use Rattle.ame_pool.proofs.members.drop_stale.Goals as goal

pub returns-then-len-clause-list : goal.returns-then-len-clause-list
returns-then-len-clause-list g c =
    let at = get c.args.slots.now in
    let kept = filter_same _ (λ (e : Numbered). is_some (only e.number (at e.key))) _ (λ e b f called. search rules) c.args.numbers.now.items c.retain.new.self.items c.retain.ensures.filtered in
    ap (members_at at) kept ∙ kept_members at c.args.numbers.now.items

pub returns-then-len-clause-rising : goal.returns-then-len-clause-rising
returns-then-len-clause-rising g c =
    let at = get c.args.slots.now in
    let kept = filter_same _ (λ (e : Numbered). is_some (only e.number (at e.key))) _ (λ e b f called. search rules) c.args.numbers.now.items c.retain.new.self.items c.retain.ensures.filtered in
    rw kept (rising_filtered (λ (e : Numbered). is_some (only e.number (at e.key))) c.args.numbers.now.items c.requires)
