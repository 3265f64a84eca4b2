-- Words of public contracts: steps that are gone one after another (Going), what is told of levels that are settled (Settles) and of lines of offers
-- (Offers), and what becomes of the book, the lines of both (Lines), what a search finds of a level (Finding), what becomes of certificates (Keeping), and
-- what holds of the book then (Laws). The proof's own: `Steps`.
pub mod Finding
pub mod Going
pub mod Keeping
pub mod Laws
pub mod Lines
pub mod Offers
pub mod Settles
pub mod Steps
