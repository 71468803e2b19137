-- The laws of the definitions of specs/.
pub mod NamesFrom
pub mod AllText
