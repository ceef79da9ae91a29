-- Laws that the proofs of these functions and of those above them cite.
pub mod KeyLaws
pub mod DeliveryLaws
