-- The laws of the definitions of specs/.
pub mod TableLaws
pub mod Texts
pub mod Cuts
pub mod Starts
pub mod StateLaws
