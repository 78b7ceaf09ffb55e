pub mod Fitting
pub mod FittingRun
pub mod AsAdapter
pub mod WordsStay
pub mod NoHarmWords
pub mod DemandWords
pub mod Refuted
