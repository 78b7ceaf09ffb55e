pub mod RasterOperation
pub mod Named
pub mod Blend
pub mod Masks
