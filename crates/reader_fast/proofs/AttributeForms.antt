-- An outer attribute, as each run reads it.
use Rattle.std.proofs.Common.{◌≡◌, ℕ, zero, suc, List, [], ◌∷◌, refl, sym, ap, subst, ◌∙◌, arith}
use Rattle.std.specs.Prelude.{true, codes}
use Rattle.proc_macro2.specs.Token.{Token, Ident, Literal, Opens, Punct}
use Rattle.proc_macro2.specs.declared.delimiter.Delimiter.{Delimiter}
use Rattle.proc_macro2.specs.declared.delimiter.Delimiter.TheVariants as D
use Rattle.rust_leaf.specs.declared.punct.Spacing.{Spacing}
use Rattle.syn_grammar.specs.Gram.{is_balanced, raw, ref}
use Rattle.syn_grammar.specs.Kind.{Delimited, InModule, Meta, OuterAttribute, Path, Plain}
use Rattle.syn_grammar.specs.Run.{interp, mark_at, raw_at, run}
use Rattle.syn_grammar.specs.Table.{table}
use Rattle.syn_grammar.specs.Tree.{Tree, First, Nil, Second}
use Rattle.syn_grammar.specs.Words.{is_name, is_path_keyword}
use Rattle.rust_leaf.specs.Keywords.{is_reserved}
use Rattle.reader_fast.specs.Attributes.{IsBehindPath, IsEntered, IsKept, IsOpened, attribute_of, delimited, meta_of}
use Rattle.reader_fast.specs.Attributes.{value_of}
use Rattle.reader_fast.specs.Names.{IsNamed}
use Rattle.reader_fast.specs.Read.{IsReadIn}
use Rattle.reader_fast.proofs.GroupForms.{opened}
use Rattle.reader_fast.proofs.LoneForms.{alone, at_end}
use Rattle.reader_fast.proofs.Same.{as_read}
use Rattle.reader_fast.proofs.Steps.{named}
use Rattle.reader_fast.proofs.Words.{no_name}

-- a group whose tokens are kept
a_group : (d : Delimiter) (vs xs us : List Token) → IsKept d → IsEntered d (Opens d ∷ vs) xs us
    → is_balanced xs ≡ true → IsReadIn 1 Delimited (Opens d ∷ vs) (delimited d xs) us
unfolding table raw_at
a_group d vs xs us k g b zero l = absurd (omega arith)
a_group D.Parenthesis vs xs us k g b (suc n) l = rw (g (interp (run n) raw), b) refl
a_group D.Brace vs xs us k g b (suc n) l = rw (g (interp (run n) raw), b) refl
a_group D.Bracket vs xs us k g b (suc n) l = rw (g (interp (run n) raw), b) refl
a_group D.None vs xs us k g b (suc n) l = absurd k

-- what stands behind the path: a group, or nothing, or a value
behind_group : (d : Delimiter) (vs : List Token) (x : Tree) → IsKept d → IsReadIn 1 Delimited (Opens d ∷ vs) x []
    → IsBehindPath (Opens d ∷ vs) (First x)
behind_group D.Parenthesis vs x k r n l = rw (r n (omega arith)) refl
behind_group D.Brace vs x k r n l = rw (r n (omega arith)) refl
behind_group D.Bracket vs x k r n l = rw (r n (omega arith)) refl
behind_group D.None vs x k r n l = absurd k

pub group_behind : (d : Delimiter) (ts xs : List Token) (x y : Tree) → IsKept d → IsOpened d ts
    → IsEntered d ts xs [] → is_balanced xs ≡ true → x ≡ delimited d xs → y ≡ First x → IsBehindPath ts y
group_behind d ts xs x y k o g b p q =
    opened (λ ts. IsEntered d ts xs [] → IsBehindPath ts y) d go ts o g
  where
    go : (vs : List Token) → IsEntered d (Opens d ∷ vs) xs [] → IsBehindPath (Opens d ∷ vs) y
    go vs g =
        let P : Tree → Type 0 = λ x. IsBehindPath (Opens d ∷ vs) x in
        subst P (sym (q ∙ ap First p)) (behind_group d vs (delimited d xs) k (a_group d vs xs [] k g b))

bare : IsBehindPath [] (Second (Second Nil))
bare n l = refl

pub bare_at : (ts : List Token) (x : Tree) → ts ≡ [] → x ≡ Second (Second Nil) → IsBehindPath ts x
bare_at ts x a q =
    let P : List Token → Type 0 = λ ts. IsBehindPath ts x in
    subst P (sym a) (subst (IsBehindPath []) (sym q) bare)

a_value : (spacing : Spacing) (cs : List ℕ) → IsBehindPath (Punct 61 spacing ∷ Literal cs ∷ []) (value_of spacing cs)
unfolding mark_at
a_value spacing cs n l = rw (alone Plain cs [] (at_end Plain) n l) refl

pub value_behind : (spacing : Spacing) (cs : List ℕ) (ts us : List Token) (x : Tree)
    → ts ≡ Punct 61 spacing ∷ us → us ≡ Literal cs ∷ [] → x ≡ value_of spacing cs → IsBehindPath ts x
value_behind spacing cs ts us x a b q =
    let v : ts ≡ Punct 61 spacing ∷ Literal cs ∷ [] = a ∙ ap (λ us. Punct 61 spacing ∷ us) b in
    let P : List Token → Type 0 = λ ts. IsBehindPath ts x in
    subst P (sym v) (subst (IsBehindPath (Punct 61 spacing ∷ Literal cs ∷ [])) (sym q) (a_value spacing cs))

-- the whole attribute
pub meta_read : (ts us : List Token) (p x y : Tree) → IsNamed ts → IsReadIn 5 (Path InModule) ts p us
    → IsBehindPath us x
    → y ≡ meta_of p x → IsReadIn 9 Meta ts y []
unfolding table is_name is_path_keyword is_reserved
meta_read ts us p x y h r b q =
    as_read 9 Meta ts ts [] (meta_of p x) y refl q
    (named (λ ts. IsReadIn 5 (Path InModule) ts p us → IsReadIn 9 Meta ts (meta_of p x) []) go ts h r)
  where
    go : (cs : List ℕ) (vs : List Token) → is_name cs ≡ true → IsReadIn 5 (Path InModule) (Ident cs ∷ vs) p us
        → IsReadIn 9 Meta (Ident cs ∷ vs) (meta_of p x) []
    go cs vs i r zero l = absurd (omega arith)
    go cs vs i r (suc n) l = rw (no_name (codes "unsafe") cs refl i, r n (omega arith), b n (omega arith)) refl

attribute : (spacing : Spacing) (us xs vs : List Token) (x : Tree) → IsEntered D.Bracket us xs vs
    → IsReadIn 9 Meta xs x [] → IsReadIn 10 OuterAttribute (Punct 35 spacing ∷ us) (attribute_of spacing x) vs
unfolding table mark_at
attribute spacing us xs vs x g r zero l = absurd (omega arith)
attribute spacing us xs vs x g r (suc n) l = rw (g (interp (run n) (ref Meta)), r n (omega arith)) refl

pub attribute_at : (spacing : Spacing) (ts us xs vs : List Token) (x y : Tree) → ts ≡ Punct 35 spacing ∷ us
    → IsEntered D.Bracket us xs vs → IsReadIn 9 Meta xs x [] → y ≡ attribute_of spacing x
    → IsReadIn 10 OuterAttribute ts y vs
attribute_at spacing ts us xs vs x y a g r q =
    as_read 10 OuterAttribute ts (Punct 35 spacing ∷ us) vs (attribute_of spacing x) y a q
    (attribute spacing us xs vs x g r)
