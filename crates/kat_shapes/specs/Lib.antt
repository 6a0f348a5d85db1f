pub mod Sorts
pub mod Forms
pub mod Seen
pub mod Version
pub mod Fits
pub mod Places
