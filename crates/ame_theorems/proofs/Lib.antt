pub mod DoomedLemmas
pub mod RowLemmas
pub mod JournalLemmas
pub mod StraightLemmas
pub mod SoFarLemmas
mod KindLemmas
mod StoppedLemmas
mod BackLemmas
mod RanLemmas
mod BlockedLemmas
