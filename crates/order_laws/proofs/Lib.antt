-- The order of the work list by the smallest ids of its items.
pub mod SubgroupsAscend
pub mod IdsApart
pub mod Strict
pub mod Reordered
pub mod MovedBuilds
