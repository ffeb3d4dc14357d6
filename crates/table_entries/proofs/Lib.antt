pub mod Entries
pub mod Cuts
pub mod Real
pub mod Says
pub mod Seeks
pub mod Absences
