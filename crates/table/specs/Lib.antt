pub mod Acceptance
pub mod Column
pub mod Counts
pub mod Kinds
pub mod Reading
