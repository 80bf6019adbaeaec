pub mod Controls
pub mod Lists
