-- The words of the crate that its proofs speak of.
pub use Rattle.ame_pool.specs.Begin.{first_to_begin, is_protected, is_exhausted, is_exhausted_protected, may_begin, may_begin_beside, members_of, oldest, oldest_or_wait, some_busy}
pub use Rattle.ame_pool.specs.Calls.{IsAt, at_home, at_rest, begun, held, is_noted, is_running, joined, machine_of, newcomer, noted, noted_on, removed, renewed, skipping, woken}
pub use Rattle.ame_pool.specs.Counts.{AreCounted, CountsIn, IsRecounted, counted, idle, is_busy_protected, is_busy_exhausted}
pub use Rattle.ame_pool.specs.Found.{IsFoundAfter}
pub use Rattle.ame_pool.specs.Index.{IsBetween, IsListedAfter, among, lists, pair_cmp, untouched, waits_for}
pub use Rattle.ame_pool.specs.Keeps.{IsKept, IsOrderOf, AreInOrder, IsWatched, is_inside_at}
pub use Rattle.ame_pool.specs.Queue.{IsPlaceOf, QueueView, StartsFull, is_gap, is_of, numbers_in}
pub use Rattle.ame_pool.specs.Members.{IsRising, altered, except, find, is_busy, is_parked, is_ready, placed}
pub use Rattle.ame_pool.specs.Numbered.{AreNumberedSlots, AreRising, IsEntryGap, IsEntryOf, IsSlotOf, behind, filed, key_of, members_at, only}
pub use Rattle.ame_pool.specs.Queues.{HasPlace, Queues, front, pushed, taken}
pub use Rattle.ame_pool.specs.Register.{Register}
pub use Rattle.ame_pool.specs.Roster.{Roster}
pub use Rattle.ame_pool.specs.Standings.{is_touched, rolled, settled}
pub use Rattle.ame_pool.specs.Stirs.{is_watching, is_woken_at, stirred_at}
pub use Rattle.ame_pool.specs.Turns.{is_away, is_readied, is_readied_at, after_transition, turned_at}
pub use Rattle.ame_pool.specs.Waking.{has, is_waiting_for, is_woken_by, stirred, stirred_by, touched_by, woken_by}
pub use Rattle.ame_pool.specs.declared.counts.Counts.{Counts}
pub use Rattle.ame_pool.specs.declared.queue.QueueEntry.{QueueEntry}
pub use Rattle.ame_pool.specs.declared.member.Member.{Member}
pub use Rattle.ame_pool.specs.declared.member.MemberStanding.{MemberStanding}
pub use Rattle.ame_pool.specs.declared.member.Watch.{Watch}
pub use Rattle.ame_pool.specs.declared.numbers.Numbered.{Numbered}
pub use Rattle.ame_pool.specs.declared.oldest.Oldest.{Oldest}
pub use Rattle.ame_pool.specs.declared.turn.Transition.{Transition}
pub use Rattle.ame_term.specs.declared.types.Loc.{Loc}
pub use Rattle.slab.specs.Slab.{ContainsKey, Slab, Updates, get, with_value}
pub use Rattle.std.proofs.lemmas.Bool.{cases_Bool, cases_eq, cases_lt, cond_both}
pub use Rattle.std.proofs.lemmas.Bool.Decides.{nat_tests}
pub use Rattle.std.proofs.lemmas.Fn.{filter_same}
pub use Rattle.std.proofs.lemmas.List.{append-nil, append_assoc, get_or_default, length-append, take-append-drop, take_all}
pub use Rattle.std.proofs.lemmas.List.Elements.{All-cons, All-head, All-nil, All-tail, All-weaker, filter-append, filter_agree, filter_map-append}
pub use Rattle.std.proofs.lemmas.List.Folds.{list_any-append, list_any_more}
pub use Rattle.std.proofs.lemmas.List.Sums.{count_by-le-length, length-filter, sum_by-cons, sum_by_push}
pub use Rattle.std.specs.BTreeSet.{BTreeSet}
pub use Rattle.std.specs.List.{count_by, filter, filter_map, insert, list_all, list_any, position, position_or_len}
pub use Rattle.std.specs.Prelude.{drop, max, nat_lt, take, ◌||◌}
pub use mathlib.Core.Bool.{false≢true}
