-- The laws of the definitions of specs/.
pub mod RankOrder
pub mod InPieces
pub mod Within
pub mod FromLeft
