pub mod Singles
pub mod Sound
