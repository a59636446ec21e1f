pub mod TextLemmas
pub mod MoneyLemmas
pub mod LengthLemmas
