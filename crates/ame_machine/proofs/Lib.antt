pub mod NeedLemmas
pub mod MoveLemmas
pub mod RunnableLemmas
pub mod LowLemmas
pub mod TermLemmas
pub mod FeedLemmas
pub mod MachineLemmas
pub mod Run
