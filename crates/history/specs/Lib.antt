pub mod Calls
pub mod Harm
pub mod Demand
pub mod Keeping
pub mod Replay
pub mod OtherId
pub mod Pairs
pub mod Submitted
