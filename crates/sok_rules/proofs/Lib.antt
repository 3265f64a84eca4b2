-- Lemmas on the definitions of this crate, which crates above cite too: `Grid` (tests of a cell), `Spots` (squares), `Moved` (boxes),
-- `Steps`, `Runs`, `Walking`, `Marks`, `Outcomes`, `Reaching`, `Thinner` (letters and lists of letters), `Places`, `ReadingOrder` (the places of a text), `Proper`, `Man` (levels),
-- `Refusing` (the first of some causes).
-- The proof's own: `Backs`, `Replays`, `Rows`, `Scenes`, `Seen`, `Sessions`; `Worked` computes a few levels.
pub mod Backs
pub mod Grid
pub mod Man
pub mod Marks
pub mod Moved
pub mod Outcomes
pub mod Places
pub mod Proper
pub mod Reaching
pub mod ReadingOrder
pub mod Refusing
pub mod Replays
pub mod Rows
pub mod Runs
pub mod Scenes
pub mod Seen
pub mod Sessions
pub mod Spots
pub mod Steps
pub mod Thinner
pub mod Walking
pub mod Worked
