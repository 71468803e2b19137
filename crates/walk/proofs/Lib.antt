-- The laws of the definitions of specs/.
pub mod Reached
pub mod State
pub mod Visit
pub mod Chains
pub mod Passing
pub mod SideBySide
pub mod Walking
pub mod Trail
pub mod MarksUndone
