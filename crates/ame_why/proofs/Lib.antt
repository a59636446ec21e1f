pub mod BinderLemmas
pub mod WordLemmas
