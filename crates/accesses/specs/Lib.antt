-- What a load or a store of a monitor leads to.
pub mod Leads
