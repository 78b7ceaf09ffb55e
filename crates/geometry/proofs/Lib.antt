pub mod Tests
pub mod Tabulate
pub mod Painted
pub mod Rows
pub mod Loops
pub mod Cutting
