mod CrossLemmas
mod TeamLemmas
mod AfterLemmas
mod EndLemmas
mod ChangeLemmas
