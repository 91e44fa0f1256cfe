pub mod Shown
pub mod TreeTexts
pub mod Workspaces
