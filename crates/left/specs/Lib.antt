-- What is left of an item.
pub mod Untaken
