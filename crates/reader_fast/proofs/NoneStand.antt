-- Parts that may be absent where none stands, and pub alone, as each run reads them.
use Rattle.std.proofs.Common.{◌≡◌, ℕ, zero, suc, List, [], ◌∷◌, refl, sym, ◌∙◌, arith}
use Rattle.std.specs.Prelude.{Bool, true, false, not, ◌==◌, None, codes}
use Rattle.proc_macro2.specs.Token.{Token, Ident, Punct}
use Rattle.rust_leaf.specs.declared.punct.Spacing.{Spacing}
use Rattle.syn_grammar.specs.Kind.{BoundsColon, Generics, ImplGenerics, InnerAttributes, LifetimeColon}
use Rattle.syn_grammar.specs.Kind.{OuterAttributes, Plus, ReturnType, Visibility, Where}
use Rattle.syn_grammar.specs.Look.{past_marks}
use Rattle.syn_grammar.specs.Run.{word_at}
use Rattle.syn_grammar.specs.Say.{at, marks, parenthesis}
use Rattle.syn_grammar.specs.Table.{table}
use Rattle.syn_grammar.specs.Tree.{End, Node, Tree}
use Rattle.rust_leaf.specs.Keywords.{same_text}
use Rattle.reader_tokens.proofs.Marks.{none_marked, other_mark}
use Rattle.reader_tokens.specs.Marks.{no_mark}
use Rattle.reader_fast.specs.Absent.{IsToldBy, LacksMark, nothing, public}
use Rattle.reader_fast.specs.Read.{IsReadIn}
use Rattle.reader_fast.proofs.Same.{as_read}

pub no_outer : (ts : List Token) → marks "#" ts ≡ None
    → IsReadIn 2 OuterAttributes ts (Node OuterAttributes End) ts
unfolding table
no_outer ts h zero l = absurd (omega arith)
no_outer ts h (suc zero) l = absurd (omega arith)
no_outer ts h (suc (suc n)) l = rw h refl

pub no_inner : (ts : List Token) → marks "#" ts ≡ None
    → IsReadIn 2 InnerAttributes ts (Node InnerAttributes End) ts
unfolding table
no_inner ts h zero l = absurd (omega arith)
no_inner ts h (suc zero) l = absurd (omega arith)
no_inner ts h (suc (suc n)) l = rw h refl

-- no such mark stands first
pub lacks_any : (c : ℕ) (ts : List Token) → no_mark ts → LacksMark c ts
lacks_any c ts h cs = none_marked c cs ts h

pub lacks_other : (c d : ℕ) (spacing : Spacing) (ts us : List Token) (b : Bool) → ts ≡ Punct d spacing ∷ us
    → b ≡ not (d == c) → b ≡ true → LacksMark c ts
lacks_other c d spacing ts us b e f g cs = go (d == c) refl (sym f ∙ g)
  where
    go : (x : Bool) → (d == c) ≡ x → not x ≡ true → past_marks c cs ts ≡ None
    go true p q = absurd (cc q)
    go false p q = sym (other_mark c d cs spacing ts us false e (sym p) refl)

-- where the mark by which it is known doesn't stand first
pub no_generics : IsToldBy Generics 60
unfolding table
no_generics ts h zero l = absurd (omega arith)
no_generics ts h (suc n) l = rw (h []) refl

pub no_impl_generics : IsToldBy ImplGenerics 60
unfolding table
no_impl_generics ts h zero l = absurd (omega arith)
no_impl_generics ts h (suc n) l = rw (h []) refl

pub no_lifetime_colon : IsToldBy LifetimeColon 58
unfolding table
no_lifetime_colon ts h zero l = absurd (omega arith)
no_lifetime_colon ts h (suc n) l = rw (h []) refl

pub no_bounds_colon : IsToldBy BoundsColon 58
unfolding table
no_bounds_colon ts h zero l = absurd (omega arith)
no_bounds_colon ts h (suc n) l = rw (h []) refl

pub no_return_type : (p : Plus) → IsToldBy (ReturnType p) 45
unfolding table
no_return_type p ts h zero l = absurd (omega arith)
no_return_type p ts h (suc n) l = rw (h (62 ∷ [])) refl

pub no_where : (ts : List Token) → at "where" ts ≡ None → IsReadIn 1 Where ts (nothing Where) ts
unfolding table
no_where ts h zero l = absurd (omega arith)
no_where ts h (suc n) l = rw h refl

pub no_visibility : (ts : List Token) → at "pub" ts ≡ None → IsReadIn 1 Visibility ts (nothing Visibility) ts
unfolding table
no_visibility ts h zero l = absurd (omega arith)
no_visibility ts h (suc n) l = rw h refl

-- pub, behind which no parenthesis opens
a_pub : (cs : List ℕ) (ts : List Token) → same_text (codes "pub") cs ≡ true → parenthesis ts ≡ None
    → IsReadIn 1 Visibility (Ident cs ∷ ts) (public cs) ts
unfolding table word_at
a_pub cs ts h e zero l = absurd (omega arith)
a_pub cs ts h e (suc n) l = rw (h, e) refl

pub pub_at : (cs : List ℕ) (ts us : List Token) (x : Tree) → ts ≡ Ident cs ∷ us → same_text (codes "pub") cs ≡ true
    → parenthesis us ≡ None → x ≡ public cs → IsReadIn 1 Visibility ts x us
pub_at cs ts us x a h e q = as_read 1 Visibility ts (Ident cs ∷ us) us (public cs) x a q (a_pub cs us h e)
