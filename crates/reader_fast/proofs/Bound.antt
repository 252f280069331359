-- A name that a pattern binds, as each run reads it.
use Rattle.std.proofs.Common.{◌≡◌, ℕ, zero, suc, ◌≤◌, List, ◌∷◌, refl, ap, arith}
use Rattle.std.specs.Prelude.{Bool, true, false, cond, None, Some, codes}
use Rattle.proc_macro2.specs.Token.{Token, Ident}
use Rattle.syn_grammar.specs.Gram.{Gram}
use Rattle.syn_grammar.specs.Kind.{IdentPattern, OnePattern, Pattern, SeveralPatterns}
use Rattle.syn_grammar.specs.Gram.{ref}
use Rattle.syn_grammar.specs.Look.{behind, first_seen, seen, sees}
use Rattle.syn_grammar.specs.Patterns.{vert}
use Rattle.syn_grammar.specs.Run.{Got, loop, run, word_at}
use Rattle.syn_grammar.specs.Say.{◌▸◌, marks, sign}
use Rattle.syn_grammar.specs.Table.{table}
use Rattle.syn_grammar.specs.Tree.{Tree, End, First, Nil, Node, Pair, Second}
use Rattle.syn_grammar.specs.Words.{is_ident}
use Rattle.rust_leaf.specs.Keywords.{is_reserved, same_text}
use Rattle.reader_fast.specs.Bindings.{IsBindingEnd, alternative, bound, only_alternative, only_pattern}
use Rattle.reader_fast.specs.Read.{IsReadIn}
use Rattle.reader_fast.proofs.Same.{as_read}
use Rattle.reader_fast.proofs.Words.{another}

-- the name, alternative by alternative
no_ref : (cs : List ℕ) → is_ident cs ≡ true → same_text (codes "ref") cs ≡ false
unfolding is_reserved
no_ref cs h = another is_ident (codes "ref") cs refl h

no_mut : (cs : List ℕ) → is_ident cs ≡ true → same_text (codes "mut") cs ≡ false
unfolding is_reserved
no_mut cs h = another is_ident (codes "mut") cs refl h

ident : (cs : List ℕ) (ts : List Token) → is_ident cs ≡ true → IsBindingEnd ts
    → IsReadIn 1 IdentPattern (Ident cs ∷ ts) (bound cs) ts
unfolding table word_at
ident cs ts h e zero l = absurd (omega arith)
ident cs ts h e (suc n) l =
    rw (no_ref cs h, no_mut cs h, h, e.bang, e.at) refl

one : (cs : List ℕ) (ts : List Token) (x : Tree) (calls : ℕ) → is_ident cs ≡ true → IsBindingEnd ts
    → IsReadIn calls IdentPattern (Ident cs ∷ ts) x ts
    → IsReadIn (suc calls) OnePattern (Ident cs ∷ ts) (Node OnePattern (First x)) ts
unfolding table
one cs ts x calls h e r zero l = absurd (omega arith)
one cs ts x calls h e r (suc n) l =
    rw (
      no_ref cs h,
      no_mut cs h,
      h,
      e.colons,
      e.parenthesis,
      e.brace,
      e.dots,
      r n (omega arith),
    ) refl

-- no further alternative
none_vert : (b : Bool) (ts : List Token) → marks "|" ts ≡ None → behind (cond b None (Some ts)) (marks "|") ≡ None
none_vert true ts h = refl
none_vert false ts h = h

no_vert : (ts : List Token) → marks "|" ts ≡ None → sees vert ts ≡ false
no_vert ts h = ap seen (none_vert (seen (first_seen (marks "||" ts) (marks "|=" ts))) ts h)

ended : (t : List Token → Bool) (g : Gram) (ts : List Token) (n : ℕ) → 1 ≤ n → t ts ≡ false
    → run n (loop t g) ts ≡ Got End ts
ended t g ts zero l h = absurd (omega arith)
ended t g ts (suc n) l h = rw h refl

several : (ts us : List Token) (x : Tree) (calls : ℕ) → marks "|" us ≡ None
    → IsReadIn (suc calls) OnePattern ts x us
    → IsReadIn (suc (suc calls)) SeveralPatterns ts (Node SeveralPatterns (Pair x End)) us
unfolding table
several ts us x calls v r zero l = absurd (omega arith)
several ts us x calls v r (suc n) l =
    rw (r n (omega arith), ended (sees vert) (sign "|" ▸ ref OnePattern) us n (omega arith) (no_vert us v)) refl

whole : (cs : List ℕ) (ts us : List Token) (x : Tree) (calls : ℕ) → marks "|" us ≡ None
    → IsReadIn (suc calls) OnePattern (Ident cs ∷ ts) x us
    → IsReadIn (suc (suc calls)) Pattern (Ident cs ∷ ts) (Node Pattern (Pair (Second Nil) (Pair x End))) us
unfolding table
whole cs ts us x calls v r zero l = absurd (omega arith)
whole cs ts us x calls v r (suc n) l =
    rw (r n (omega arith), ended (sees vert) (sign "|" ▸ ref OnePattern) us n (omega arith) (no_vert us v)) refl

-- the same, of the tokens that code has looked at
pub ident_at : (cs : List ℕ) (ts us : List Token) (x : Tree) → ts ≡ Ident cs ∷ us → is_ident cs ≡ true
    → IsBindingEnd us → x ≡ bound cs → IsReadIn 1 IdentPattern ts x us
ident_at cs ts us x a h e q = as_read 1 IdentPattern ts (Ident cs ∷ us) us (bound cs) x a q (ident cs us h e)

one_known : (cs : List ℕ) (us : List Token) → is_ident cs ≡ true → IsBindingEnd us
    → IsReadIn 2 OnePattern (Ident cs ∷ us) (alternative cs) us
one_known cs us h e = one cs us (bound cs) 1 h e (ident cs us h e)

pub one_at : (cs : List ℕ) (ts us : List Token) (x : Tree) → ts ≡ Ident cs ∷ us → is_ident cs ≡ true
    → IsBindingEnd us → x ≡ alternative cs → IsReadIn 2 OnePattern ts x us
one_at cs ts us x a h e q = as_read 2 OnePattern ts (Ident cs ∷ us) us (alternative cs) x a q (one_known cs us h e)

pub several_at : (cs : List ℕ) (ts us : List Token) (x : Tree) → ts ≡ Ident cs ∷ us → is_ident cs ≡ true
    → IsBindingEnd us → marks "|" us ≡ None → x ≡ only_alternative cs → IsReadIn 3 SeveralPatterns ts x us
several_at cs ts us x a h e v q =
    as_read 3 SeveralPatterns ts (Ident cs ∷ us) us (only_alternative cs) x a q
    (several (Ident cs ∷ us) us (alternative cs) 1 v (one_known cs us h e))

pub whole_at : (cs : List ℕ) (ts us : List Token) (x : Tree) → ts ≡ Ident cs ∷ us → is_ident cs ≡ true
    → IsBindingEnd us → marks "|" us ≡ None → x ≡ only_pattern cs → IsReadIn 3 Pattern ts x us
whole_at cs ts us x a h e v q =
    as_read 3 Pattern ts (Ident cs ∷ us) us (only_pattern cs) x a q
    (whole cs us us (alternative cs) 1 v (one_known cs us h e))
