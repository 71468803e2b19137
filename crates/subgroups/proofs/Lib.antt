-- What the loops need, and the laws.
pub mod SameBits
pub mod Numbers
pub mod OneMore
pub mod Entering
pub mod Chains
pub mod KindSizes
pub mod Counting
pub mod Turning
pub mod Positions
pub mod FinalState
pub mod Merging
pub mod ByPlace
pub mod Numbered
pub mod RunModules
pub mod TurnOrder
pub mod DividedItems
pub mod ItemsInTurn
