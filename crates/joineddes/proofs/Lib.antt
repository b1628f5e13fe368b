pub mod NumberBits
pub mod ExchangeLaws
pub mod HalfLaws
pub mod ScheduleLaws
pub mod JoinedLaws
pub mod BoxBitLaws
pub mod BothEngines
