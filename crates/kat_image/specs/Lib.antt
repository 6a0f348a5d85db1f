pub mod Words
pub mod ValueText
pub mod Lines
pub mod Image
pub mod ImageError
pub mod ImageText
pub mod ReadsBack
pub mod Reader
