pub mod SortLaws
mod RegisterLaws
