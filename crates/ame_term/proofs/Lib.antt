pub mod TreesLemmas
pub mod RedexLemmas
pub mod PartsLemmas
pub mod OperatorLemmas
