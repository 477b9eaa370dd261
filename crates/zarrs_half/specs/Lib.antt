-- Floats of 16 bits.
pub mod ByPattern
pub mod HalfFloats
pub mod Laws
