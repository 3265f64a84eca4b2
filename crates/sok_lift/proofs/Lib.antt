pub mod Held
pub mod LiftLaws
pub mod Lifting
pub mod Losing
pub mod Pairing
pub mod Spares
pub mod Taking
pub mod Wasting
