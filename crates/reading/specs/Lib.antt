pub mod Reading
pub mod Laws
pub mod Text
pub mod RoundTrip
pub mod Fitting
