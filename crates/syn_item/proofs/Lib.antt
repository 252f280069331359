pub mod ItemPlaces
pub mod ItemJudged
pub mod ItemEntries
pub mod ItemKinds
pub mod ItemKept
pub mod ItemArgumentLaws
