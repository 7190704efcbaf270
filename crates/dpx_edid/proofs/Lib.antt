pub mod Alike
pub mod Bounded
pub mod Brought
pub mod Caused
pub mod Decided
pub mod Reading
pub mod Suffices
pub mod TimingBack
