pub mod TypingLemmas
pub mod Lexing
pub mod PartLemmas
pub mod ReadsLemmas
pub mod TextLemmas
pub mod WholeLemmas
