pub mod Leaves
pub mod ChainRead
pub mod ManyRead
pub mod MarksBack
pub mod NamesBack
pub mod NamesMany
pub mod NamesTaken
pub mod Rereading
