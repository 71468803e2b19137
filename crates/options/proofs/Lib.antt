-- Laws that the functions over options cite.
pub mod GroupRead
