pub mod KindLemmas
pub mod ListLemmas
pub mod SumLemmas
