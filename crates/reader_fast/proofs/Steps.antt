-- Paths of names alone, as each run reads them.
use Rattle.std.proofs.Common.{◌≡◌, ℕ, zero, suc, ◌-◌, ◌<◌, List, [], ◌∷◌, refl, sym, ap, subst, ◌∙◌, arith}
use Rattle.std.specs.Prelude.{true, None, Some, codes}
use Rattle.proc_macro2.specs.Token.{Token, Opens, Closes, Ident, Literal, Punct}
use Rattle.rust_leaf.specs.declared.punct.Spacing.{Spacing}
use Rattle.rust_leaf.specs.declared.punct.Spacing.TheVariants.{Joint}
use Rattle.syn_grammar.specs.Kind.{AnyPath, AtType, AType, InExpression, InModule, InType, Path, Plus, Segments, Style}
use Rattle.syn_grammar.specs.Look.{as_far}
use Rattle.syn_grammar.specs.Paths.{arguments_stand}
use Rattle.syn_grammar.specs.Run.{kind, mark_at, run, word_at}
use Rattle.syn_grammar.specs.Say.{marks}
use Rattle.syn_grammar.specs.Table.{table}
use Rattle.syn_grammar.specs.Tree.{Tree}
use Rattle.syn_grammar.specs.Words.{is_name, is_path_keyword}
use Rattle.rust_leaf.specs.Keywords.{is_reserved}
use Rattle.reader_fast.specs.Names.{IsFurther, IsLast, IsName, IsNamed, IsPassed, IsPathEnd, another_name}
use Rattle.reader_fast.specs.Names.{further_segments, last_segment}
use Rattle.reader_fast.specs.Names.{path_of, type_of, unqualified}
use Rattle.reader_fast.specs.Read.{IsReadIn}
use Rattle.reader_fast.specs.declared.names.Name.{Name}
use Rattle.reader_fast.specs.declared.names.Name.TheVariants as names
use Rattle.reader_fast.proofs.Words.{is_some_name, no_name, no_path_keyword}

-- what is so of a name and what follows it is so where a name stands first
pub named : (P : List Token → Type 0) → ((cs : List ℕ) (ts : List Token) → is_name cs ≡ true → P (Ident cs ∷ ts))
    → (ts : List Token) → IsNamed ts → P ts
named P f [] h = absurd h
named P f (Opens d ∷ ts) h = absurd h
named P f (Closes d ∷ ts) h = absurd h
named P f (Ident cs ∷ ts) h = f cs ts h
named P f (Literal cs ∷ ts) h = absurd h
named P f (Punct c spacing ∷ ts) h = absurd h

-- the last name
pub last : (s : Style) (n : Name) (cs : List ℕ) (ts : List Token) → IsName n cs → IsPathEnd s ts
    → IsReadIn 1 (Segments s) (Ident cs ∷ ts) (last_segment s n cs) ts
unfolding table word_at
last s n cs ts h e zero l = absurd (omega arith)
last s names.Plain cs ts h e (suc n) l = rw (no_path_keyword cs h, h, e.0, e.1, e.2) refl
last s names.Keyword cs ts h e (suc n) l = rw (h, e.1) refl

-- another name, and others behind it
no_arguments : (s : Style) (spacing : Spacing) (cs : List ℕ) (ts : List Token)
    → arguments_stand s (Punct 58 Joint ∷ Punct 58 spacing ∷ Ident cs ∷ ts) ≡ None
no_arguments InModule spacing cs ts = refl
no_arguments InExpression spacing cs ts = refl
no_arguments InType spacing cs ts = refl
no_arguments AtType spacing cs ts = refl

pub further : (s : Style) (n : Name) (cs : List ℕ) (spacing : Spacing) (ts us : List Token) (x : Tree) (calls : ℕ)
    → IsName n cs → IsNamed ts → IsReadIn calls (Segments s) ts x us
    → IsReadIn (suc calls) (Segments s) (Ident cs ∷ Punct 58 Joint ∷ Punct 58 spacing ∷ ts)
    (further_segments s n cs spacing x) us
unfolding table word_at mark_at
further s n cs spacing ts us x calls h g r zero l = absurd (omega arith)
further s names.Plain cs spacing ts us x calls h g r (suc n) l =
    rw (
      no_path_keyword cs h,
      h,
      named (λ ts. arguments_stand s (Punct 58 Joint ∷ Punct 58 spacing ∷ ts) ≡ None)
          (λ ds vs i. no_arguments s spacing ds vs) ts g,
      r n (omega arith),
    ) refl
further s names.Keyword cs spacing ts us x calls h g r (suc n) l = rw (h, r n (omega arith)) refl

-- how far names alone go
no_other : (n : ℕ) (ts : List Token) → marks "::" ts ≡ None → as_far n another_name ts ≡ Some ts
no_other zero ts h = refl
no_other (suc n) ts h = rw h refl

last_passed : (s : Style) (cs : List ℕ) (ts : List Token) → IsPathEnd s ts → IsPassed (Ident cs ∷ ts) ts
last_passed s cs ts e n l = no_other n ts e.1

further_passed : (cs : List ℕ) (spacing : Spacing) (ts us : List Token) → IsNamed ts → IsPassed ts us
    → IsPassed (Ident cs ∷ Punct 58 Joint ∷ Punct 58 spacing ∷ ts) us
further_passed cs spacing ts us h =
    named (λ ts. IsPassed ts us → IsPassed (Ident cs ∷ Punct 58 Joint ∷ Punct 58 spacing ∷ ts) us) go ts h
  where
    go : (ds : List ℕ) (vs : List Token) → is_name ds ≡ true → IsPassed (Ident ds ∷ vs) us
        → IsPassed (Ident cs ∷ Punct 58 Joint ∷ Punct 58 spacing ∷ Ident ds ∷ vs) us
    go ds vs i p zero l = absurd (omega arith)
    go ds vs i p (suc n) l = rw (i, p n (omega arith)) refl

-- a path without :: in front
pub a_path : (s : Style) (ts us : List Token) (x : Tree) (calls : ℕ) → IsNamed ts → IsReadIn calls (Segments s) ts x us
    → IsReadIn (suc calls) (Path s) ts (path_of s x) us
unfolding table
a_path s ts us x calls h =
    named (λ ts. IsReadIn calls (Segments s) ts x us → IsReadIn (suc calls) (Path s) ts (path_of s x) us) go ts h
  where
    go : (cs : List ℕ) (vs : List Token) → is_name cs ≡ true → IsReadIn calls (Segments s) (Ident cs ∷ vs) x us
        → IsReadIn (suc calls) (Path s) (Ident cs ∷ vs) (path_of s x) us
    go cs vs i r zero l = absurd (omega arith)
    go cs vs i r (suc n) l = rw (r n (omega arith)) refl

pub any_path : (s : Style) (ts us : List Token) (x : Tree) (calls : ℕ) → IsNamed ts → IsReadIn calls (Path s) ts x us
    → IsReadIn (suc calls) (AnyPath s) ts (unqualified s x) us
unfolding table
any_path s ts us x calls h =
    named (λ ts. IsReadIn calls (Path s) ts x us → IsReadIn (suc calls) (AnyPath s) ts (unqualified s x) us) go ts h
  where
    go : (cs : List ℕ) (vs : List Token) → is_name cs ≡ true → IsReadIn calls (Path s) (Ident cs ∷ vs) x us
        → IsReadIn (suc calls) (AnyPath s) (Ident cs ∷ vs) (unqualified s x) us
    go cs vs i r zero l = absurd (omega arith)
    go cs vs i r (suc n) l = rw (r n (omega arith)) refl

-- a type that is a path
pub a_type : (p : Plus) (ts us : List Token) (x : Tree) (calls : ℕ) → IsNamed ts
    → IsReadIn calls (AnyPath AtType) ts x us → IsReadIn (suc calls) (AType p) ts (type_of p x) us
unfolding table is_name is_path_keyword is_reserved
a_type p ts us x calls h =
    named (λ ts. IsReadIn calls (AnyPath AtType) ts x us → IsReadIn (suc calls) (AType p) ts (type_of p x) us) go ts h
  where
    go : (cs : List ℕ) (vs : List Token) → is_name cs ≡ true
        → IsReadIn calls (AnyPath AtType) (Ident cs ∷ vs) x us
        → IsReadIn (suc calls) (AType p) (Ident cs ∷ vs) (type_of p x) us
    go cs vs i r zero l = absurd (omega arith)
    go cs vs i r (suc n) l =
        rw (
          no_name (codes "_") cs refl i,
          no_name (codes "dyn") cs refl i,
          no_name (codes "impl") cs refl i,
          no_name (codes "for") cs refl i,
          no_name (codes "unsafe") cs refl i,
          no_name (codes "extern") cs refl i,
          no_name (codes "fn") cs refl i,
          r n (omega arith),
        ) refl

-- the same, of the tokens that code has looked at
pub last_at : (s : Style) (n : Name) (cs : List ℕ) (ts us : List Token) (most : ℕ) → 0 < most
    → IsLast s ts n cs us → IsReadIn most (Segments s) ts (last_segment s n cs) us
last_at s n cs ts us most m b fuel l =
    ap (run fuel (kind (Segments s))) b.first ∙ last s n cs us b.name b.end fuel (omega (arith, m))

pub further_at : (s : Style) (n : Name) (cs : List ℕ) (ts us vs : List Token) (spacing : Spacing) (x : Tree) (most : ℕ)
    → 0 < most → IsFurther ts n cs spacing us → IsNamed us → IsReadIn (most - 1) (Segments s) us x vs
    → IsReadIn most (Segments s) ts (further_segments s n cs spacing x) vs
further_at s n cs ts us vs spacing x most m b i r fuel l =
    ap (run fuel (kind (Segments s))) b.first
    ∙ further s n cs spacing us vs x (most - 1) b.name i r fuel (omega (arith, m))

pub named_at : (n : Name) (cs : List ℕ) (ts us : List Token) → ts ≡ Ident cs ∷ us → IsName n cs → IsNamed ts
named_at n cs ts us a h = subst IsNamed (sym a) (is_some_name n cs h)

pub last_passed_at : (s : Style) (n : Name) (cs : List ℕ) (ts us : List Token) → IsLast s ts n cs us → IsPassed ts us
last_passed_at s n cs ts us b =
    let P : List Token → Type 0 = λ ts. IsPassed ts us in
    subst P (sym b.first) (last_passed s cs us b.end)

pub further_passed_at : (n : Name) (cs : List ℕ) (ts us vs : List Token) (spacing : Spacing)
    → IsFurther ts n cs spacing us → IsNamed us → IsPassed us vs → IsPassed ts vs
further_passed_at n cs ts us vs spacing b i h =
    let P : List Token → Type 0 = λ ts. IsPassed ts vs in
    subst P (sym b.first) (further_passed cs spacing us vs i h)
