pub mod Refusal
pub mod Told
pub mod Kind
pub mod Sheet
pub mod Answers
pub mod Over
pub mod Listed
