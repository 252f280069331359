pub mod PatForms
