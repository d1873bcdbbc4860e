-- In reading order: the text that a checksum is made of; a level that carries its piece's sum; the cases that are checked by hand.
pub mod Text
pub mod Carried
pub mod CheckedByHand
