use Rattle.std.proofs.Common.{◌≡◌, ◌∙◌, length, not, subst, ap, sym, rules, arith}
use Rattle.ame_pool.proofs.Words.{QueueEntry, numbers_in, is_gap, StartsFull, filter, filter_same}
use Rattle.ame_pool.proofs.QueueLemmas.{packed, packed_len, packed_starts}
use Rattle.ame_pool.proofs.queue.pack.Goals as goal

kept : (c : goal.After-retain) → c.retain.new.self.items ≡ filter (λ e. not (is_gap e)) c.args.entries.now.items
kept c = filter_same _ (λ (e : QueueEntry). not (is_gap e)) _ (λ e b f called. search rules) c.args.entries.now.items c.retain.new.self.items c.retain.ensures.filtered

pub returns-clause-list : goal.returns-clause-list
returns-clause-list c = ap numbers_in (kept c) ∙ packed c.args.entries.now.items

pub returns-clause-starts : goal.returns-clause-starts
returns-clause-starts c = subst StartsFull (sym (kept c)) (packed_starts c.args.entries.now.items)

pub returns-clause-len : goal.returns-clause-len
returns-clause-len c = omega (arith, c.retain.new.self.ok.0, ap length (kept c), packed_len c.args.entries.now.items)
