pub mod CertFiles
pub mod Plain
pub mod Serving
pub mod Working
