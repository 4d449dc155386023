pub mod TriangleA
