pub mod LawsOpen
pub mod LawsOpened
pub mod LawsPlace
