pub mod Filled
pub mod Premises
pub mod Pulls
pub mod Pushes
pub mod PushingLaws
