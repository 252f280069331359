-- Tokens that are those of trees, as the shape of an entry and as what makes a stream have it.
use Rattle.std.specs.Prelude.{◌≡◌, Bool, not, ◌&&◌, List, [], ◌∷◌, refl}
use Rattle.std.proofs.Common.{ap}
use Rattle.rust_leaf.specs.Mark.{is_mark}
use Rattle.rust_leaf.specs.Minus.{starts_with_minus}
use Rattle.proc_macro2.specs.Groups.{same_delimiter}
use Rattle.proc_macro2.specs.Token.{Token, Opens, Closes, Ident, Literal, Punct}
use Rattle.proc_macro2.specs.declared.delimiter.Delimiter.{Delimiter}
use Rattle.node_shapes.specs.Streams as shapes
use Rattle.syn_tokens.specs.Nests as nests

same_rest : (ds : List Delimiter) (ts : List Token) → nests.stand ds ts ≡ shapes.stand ds ts
same_rest ds (Opens d ∷ ts) = same_rest (d ∷ ds) ts
same_rest [] (Closes d ∷ ts) = refl
same_rest (e ∷ ds) (Closes d ∷ ts) = ap (λ b. same_delimiter e d && b) (same_rest ds ts)
same_rest ds (Ident cs ∷ ts) = same_rest ds ts
same_rest ds (Literal cs ∷ ts) = ap (λ b. not (starts_with_minus cs) && b) (same_rest ds ts)
same_rest ds (Punct c spacing ∷ ts) = ap (λ b. is_mark c && b) (same_rest ds ts)
same_rest [] [] = refl
same_rest (d ∷ ds) [] = refl

pub same_trees : (ts : List Token) → nests.are_trees ts ≡ shapes.are_trees ts
same_trees ts = same_rest [] ts
