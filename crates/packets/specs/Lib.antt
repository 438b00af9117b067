pub mod Link
pub mod Ipv6
pub mod Ip
pub mod Inside
