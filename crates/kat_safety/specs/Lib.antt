pub mod Typed
pub mod NeverStuck
pub mod Failing
