pub mod Barycentric
