-- words of public contracts
pub mod Closed
pub mod Refusals
pub mod Rosters
pub mod LevelClaims
pub mod Streams
pub mod Verdicts
-- what a certificate is, and its text
pub use Rattle.sok_entry.specs.Faults
pub use Rattle.sok_entry.specs.Reading
pub use Rattle.sok_entry.specs.Stages
pub use Rattle.sok_entry.specs.Text
pub use Rattle.sok_entry.specs.declared.claim.Claim
pub use Rattle.sok_entry.specs.declared.entry.Certificate
pub use Rattle.sok_entry.specs.declared.entry.Entry
pub use Rattle.sok_entry.specs.declared.entry.Reason
pub use Rattle.sok_entry.specs.declared.fault.CertFault
pub use Rattle.sok_entry.specs.declared.stage.Stage
pub use Rattle.sok_entry.specs.declared.version.Version
-- words of the crate's own contracts
pub mod Judging
pub mod Parts
