pub mod CountsLemmas
pub mod ReadsLemmas
pub mod WritesLemmas
pub mod LinesLemmas
