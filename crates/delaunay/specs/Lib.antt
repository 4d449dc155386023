pub mod Delaunay
pub mod Buckets
