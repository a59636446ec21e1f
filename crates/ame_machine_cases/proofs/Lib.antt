pub mod FitLemmas
pub mod GrowthLemmas
pub mod AloneLemmas
