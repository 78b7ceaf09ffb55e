pub mod Laws
pub mod WaitingLaws
pub mod AppendLaws
