pub mod SameLaws
pub mod DistinctLaws
pub mod RowLaws
pub mod CarrierLaws
pub mod DenotedLaws
pub mod KeyLaws
pub mod ExampleLaws
