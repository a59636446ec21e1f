pub mod LaneLemmas
pub mod StampLemmas
pub mod ArrowLemmas
pub mod CauseLemmas
pub mod CountLemmas
pub mod EndLemmas
pub mod MomentLemmas
pub mod FateLemmas
