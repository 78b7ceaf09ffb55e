pub mod Painters
pub mod CutPainters
