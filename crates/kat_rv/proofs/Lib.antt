pub mod Splits
pub mod Bits
pub mod Decoded
pub mod Encoded
