-- A build with its dependency records laid anew.
pub mod Relaid
