pub mod Alone
pub mod ItemsAlone
pub mod MembersAlone
