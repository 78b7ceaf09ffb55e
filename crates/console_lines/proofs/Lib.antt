pub mod Fields
pub mod Words
pub mod Numbers
pub mod Examples
pub mod Long
