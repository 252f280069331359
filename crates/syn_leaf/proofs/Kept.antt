-- What was read is printed as the tokens that it was read from.
use Rattle.std.proofs.Common.{◌≡◌, ℕ, List, [], ◌∷◌, ◌++◌, ap, ◌∙◌, sym}
use Rattle.std.specs.Prelude.{false, drop, if◌then◌else◌}
use Rattle.rust_map.specs.declared.span.Span.{Span}
use Rattle.rust_leaf.specs.Leaf.{literal_span, literal_text}
use Rattle.rust_leaf.specs.Minus.{minus, starts_with_minus}
use Rattle.proc_macro2.specs.Flat.{spanned}
use Rattle.proc_macro2.specs.Token.{Spanned, Literal, Punct, Alone}
use Rattle.syn_kinds.specs.Values.{marks_tokens}
use Rattle.syn_parse.specs.Marks.{ReadsMarks}
use Rattle.syn_leaf.specs.Alike.{unspaced}
use Rattle.syn_leaf.specs.Lits.{lit_text, lit_token, lit_tokens}
use Rattle.syn_leaf.specs.declared.lit.Lit.{Lit}
use Rattle.syn_leaf.specs.declared.lit.Lit.TheVariants as lit

pub kept_marks : (cs : List ℕ) (ss : List Span) (ts us : List Spanned) → ReadsMarks cs ss ts us
    → unspaced ts ≡ unspaced (marks_tokens cs ss ++ us)
kept_marks [] ss ts us r = absurd r
kept_marks (c ∷ []) [] ts us r = absurd r
kept_marks (c ∷ []) (s ∷ []) ts us (spacing, e) = ap unspaced e
kept_marks (c ∷ []) (s ∷ t ∷ ss) ts us r = absurd r
kept_marks (c ∷ d ∷ cs) [] ts us r = absurd r
kept_marks (c ∷ d ∷ cs) (s ∷ ss) ts us (vs, e, r) =
    ap unspaced e ∙ ap (λ x. spanned (Punct c Alone) s ∷ x) (kept_marks (d ∷ cs) ss vs us r)

pub kept_lit : (x : Lit) (ts us : List Spanned) → starts_with_minus (lit_text x) ≡ false → ts ≡ lit_token x ∷ us
    → ts ≡ ([] ++ lit_tokens x) ++ us
kept_lit (lit.Str l) ts us m e = e
kept_lit (lit.ByteStr l) ts us m e = e
kept_lit (lit.CStr l) ts us m e = e
kept_lit (lit.Byte l) ts us m e = e
kept_lit (lit.Char l) ts us m e = e
kept_lit (lit.Int l) ts us m e = e
kept_lit (lit.Float l) ts us m e = e
kept_lit (lit.Bool l) ts us m e = e
kept_lit (lit.Verbatim l) ts us m e =
    e ∙ sym (ap (λ v. (if v then spanned (Punct minus Alone) (literal_span l)
    ∷ spanned (Literal (drop 1 (literal_text l))) (literal_span l) ∷ []
    else spanned (Literal (literal_text l)) (literal_span l) ∷ []) ++ us) m)
