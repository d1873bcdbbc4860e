-- Words that are laid.
pub mod Placing
