-- In reading order: what the code's book shows and ensures; what its methods ask and give on their way.
pub mod Shown
pub mod Asking
pub mod Taking
