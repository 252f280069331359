pub mod Alone
pub mod OneItem
pub mod OneMember
