pub mod HiddenLemmas
