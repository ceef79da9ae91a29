-- What the functions answer and leave.
pub mod Delivery
