-- Laws of the definitions of specs/, and of the signs by which one byte pair is scored.
pub mod SimilarityLaws
pub mod SignBits
