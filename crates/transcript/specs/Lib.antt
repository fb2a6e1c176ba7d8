pub mod Judged
pub mod Printed
