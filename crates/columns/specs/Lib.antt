pub mod Laid
pub mod Printed
pub mod Column
