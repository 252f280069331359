-- What a punctuation is read from.
use Rattle.std.specs.Prelude.{◌≡◌, ℕ, List, [], ◌∷◌}
use Rattle.rust_map.specs.declared.span.Span.{Span}
use Rattle.rust_leaf.specs.declared.punct.Spacing.{Spacing}
use Rattle.rust_leaf.specs.declared.punct.Spacing.TheVariants.{Joint}
use Rattle.proc_macro2.specs.Token.{Punct, Spanned}
use Rattle.proc_macro2.specs.Flat.{spanned}

-- the marks, each where it stands, and all but the last of them joint: how the last is spaced is not looked at
abbrev pub ReadsMarks : List ℕ → List Span → List Spanned → List Spanned → Type 0
ReadsMarks (c ∷ []) (s ∷ []) ts us = (spacing : Spacing) × (ts ≡ spanned (Punct c spacing) s ∷ us)
ReadsMarks (c ∷ d ∷ cs) (s ∷ ss) ts us =
    (vs : List Spanned) × (ts ≡ spanned (Punct c Joint) s ∷ vs) × ReadsMarks (d ∷ cs) ss vs us
ReadsMarks _ _ ts us = ⊥
