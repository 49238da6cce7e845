pub mod Opcodes
pub mod Reading
