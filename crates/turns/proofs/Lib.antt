-- The table of settings, and the groups in the order of their turns.
pub mod Keying
pub mod TurnOrder
pub mod SettingsTable
pub mod TurnsOfBuild
