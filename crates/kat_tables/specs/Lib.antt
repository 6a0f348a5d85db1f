pub mod Entries
pub mod Forms
pub mod KeptNames
pub mod Meanings
pub mod Protected
pub mod Tables
