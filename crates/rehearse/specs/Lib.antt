pub mod Exit
pub mod Failure
pub mod Fields
pub mod Reading
