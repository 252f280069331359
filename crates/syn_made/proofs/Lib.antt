pub mod MadeLists
pub mod TraitForms
pub mod SignTexts
