-- The settings of the groups in a table, and the order of the turns.
pub mod Order
