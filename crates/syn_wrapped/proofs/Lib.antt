pub mod TypeForms
pub mod PatternForms
pub mod StatementForms
pub mod AmongForms
pub mod MemberForms
