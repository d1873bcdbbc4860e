-- In reading order: the table of answers.
pub mod Answers
