-- In reading order: moving a state is one to one; a text of four bytes is a state; the claims.
pub mod OneToOne
pub mod Window
pub mod Claims
