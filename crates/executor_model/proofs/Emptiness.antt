-- Whether the executor is empty is answered as it is: emptiness_is_exact and quiet_emptiness_is_exact.
pub mod Looking
pub mod Quieting
