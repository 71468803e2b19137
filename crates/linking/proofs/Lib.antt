-- The laws of the definitions of specs/.
pub mod OneMore
pub mod Modules
pub mod Found
pub mod PerModule
pub mod LinkedOrder
pub mod ChunkModules
pub mod LinkWrites
pub mod BitWords
pub mod PastModules
pub mod MoreChunks
pub mod MadeRead
pub mod MadeMore
pub mod Untaken
pub mod MadeWritten
