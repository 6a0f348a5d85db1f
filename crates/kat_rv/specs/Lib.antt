pub mod Numbers
pub mod Parts
pub mod Decoding
pub mod Encoding
pub mod Written
