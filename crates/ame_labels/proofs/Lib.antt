pub mod LedgerLemmas
pub mod OrderLemmas
pub mod StepperLemmas
pub mod FrontLemmas
