pub mod DetailsOrder
pub mod OverridingOrder
