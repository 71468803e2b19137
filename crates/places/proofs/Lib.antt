-- Laws of the tables in both orders, for a build.
pub mod SharedByTwo
pub mod PlacesByOrder
pub mod RankOrder
pub mod Handing
pub mod OfBuild
