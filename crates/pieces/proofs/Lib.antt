-- The laws of the definitions of specs/.
pub mod PartsBack
pub mod Cut
