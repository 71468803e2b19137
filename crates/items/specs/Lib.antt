-- One work item on its turn, in modules: the chunks that what is left of it ends as.
pub mod Turn
