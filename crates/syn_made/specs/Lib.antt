pub mod MadeAst
pub mod MadeExpr
pub mod MadeWhole
