pub mod Write
pub mod Read
pub mod Class
pub mod Added
pub mod Numbers
