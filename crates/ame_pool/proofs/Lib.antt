mod Words
mod EntryLemmas
mod SlotLemmas
pub mod MemberLemmas
mod OrderLemmas
mod FindLemmas
mod CountLemmas
mod StandingLemmas
mod KeptLemmas
mod WakeLemmas
mod QueueLemmas
mod ChoiceLemmas
mod IndexLemmas
