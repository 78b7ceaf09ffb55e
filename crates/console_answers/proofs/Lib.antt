pub mod Putting
pub mod Decimal
pub mod ReadBack
pub mod Examples
