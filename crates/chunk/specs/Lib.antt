pub mod Chunk
pub mod Parts
