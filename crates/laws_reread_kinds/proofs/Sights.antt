-- What is no identifier: a keyword.
use Rattle.std.proofs.Common.{◌≡◌, ℕ, List, refl, sym, ap, ◌∙◌}
use Rattle.std.specs.Prelude.{Bool, true, false, not}
use Rattle.std.proofs.lemmas.Slice.Eq.{bytes_eq-Decides}
use Rattle.syn_grammar.specs.Words.{is_ident}
use Rattle.rust_leaf.specs.Keywords.{same_text, is_reserved}

reserved_not : (w cs : List ℕ) (b : Bool) → same_text w cs ≡ b → is_reserved w ≡ true → is_ident cs ≡ true → b ≡ false
reserved_not w cs false e h i = refl
reserved_not w cs true e h i =
    let f : w ≡ cs = (bytes_eq-Decides w cs).0 e in
    let g : not (is_reserved cs) ≡ false = ap (λ v. not (is_reserved v)) (sym f) ∙ ap not h in
    let j : true ≡ false = sym i ∙ g in
    cc j

-- no reserved word is an identifier
pub ident_not : (w cs : List ℕ) → is_reserved w ≡ true → is_ident cs ≡ true → same_text w cs ≡ false
ident_not w cs h i = reserved_not w cs (same_text w cs) refl h i
