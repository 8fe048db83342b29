-- What a well-formed job's points rely on, and the job with its timed facts among its effects.
pub mod Ranged
pub mod Clocked
