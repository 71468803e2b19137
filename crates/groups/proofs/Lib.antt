-- The groups of a build in the order of their turns, and what each is matched by.
pub mod GroupReady
pub mod GroupTurn
pub mod Turning
pub mod AllGroups
