-- The first tokens of something that is written, at most three.
use Rattle.std.specs.Prelude.{List, [], ◌∷◌, codes}
use Rattle.std.specs.Fmt.{decimal}
use Rattle.rust_leaf.specs.Leaf.{ident_text, literal_text}
use Rattle.proc_macro2.specs.Token.{Token, Opens, Closes, Ident, Literal, Punct}
use Rattle.writer_built.specs.declared.head.Head.{Head}
use Rattle.writer_built.specs.declared.head.Head.TheVariants as heads
use Rattle.writer_built.specs.declared.seen.Seen.{Seen}
use Rattle.writer_built.specs.declared.seen.Seen.TheVariants as seen

-- the token that is seen
abbrev pub seen_token : Seen → Token
seen_token (seen.Ident i) = Ident (ident_text i.now)
seen_token (seen.Literal l) = Literal (literal_text l.now)
seen_token (seen.Mark c spacing) = Punct c spacing
seen_token (seen.Open d) = Opens d
seen_token (seen.Close d) = Closes d
seen_token seen.Underscore = Ident (codes "_")
seen_token (seen.Index n) = Literal (decimal n)

abbrev pub head_tokens : Head → List Token
head_tokens heads.Empty = []
head_tokens (heads.One a) = seen_token a ∷ []
head_tokens (heads.Two a b) = seen_token a ∷ seen_token b ∷ []
head_tokens (heads.Three a b c) = seen_token a ∷ seen_token b ∷ seen_token c ∷ []
