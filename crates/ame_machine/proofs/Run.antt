pub mod RunLemmas
pub mod EffectLemmas
pub mod ReplayLemmas
pub mod EntryLemmas
pub mod TypedLemmas
pub mod LegalLemmas
pub mod LabelRunLemmas
