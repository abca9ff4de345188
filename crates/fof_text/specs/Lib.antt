-- what is to be believed: names, what a text states, and the text that is written
pub mod Names
pub mod Meaning
pub mod States
pub mod Written
pub mod Laws
-- how the writers and the choice of names come to it, of which nothing need be believed
pub mod Pieces
pub mod Uses
