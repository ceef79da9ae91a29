-- What a candidate can learn of secret words in a whole sitting: nothing. Sitting and HandedIn state it; crate
-- sitting_examples has sittings that would tell without a premise. The rest is for any monitor: what is known of a
-- value (Values), the test of a monitor that is made of it (Test), and the theorem of each that passes (Certified).
pub mod Sitting
pub mod HandedIn
pub mod Values
pub mod Test
pub mod Certified
