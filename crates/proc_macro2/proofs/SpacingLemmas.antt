-- Well spaced tokens that are joined or put in a group.
use Rattle.std.proofs.Common.{◌≡◌, ◌≢◌, ℕ, List, [], ◌∷◌, ◌++◌, true, false, IsTrue, cond, Bool, ◌==◌, refl}
use Rattle.std.proofs.lemmas.Bool.{and_parts, ne_eqb}
use Rattle.proc_macro2.specs.Token.{Delimiter, Token, Opens, Closes, Ident, Literal, Punct, Alone, Joint}
use Rattle.proc_macro2.specs.Spacing.{IsWellSpaced, follows_mark, may_stand, is_visible, quote}
use Rattle.proc_macro2.specs.Stands.{all_stand}

-- the last of the tokens may stand before any others
last_stands : (t : Token) (ts : List Token) → IsTrue (may_stand t []) → IsTrue (may_stand t ts)
last_stands (Opens d) ts h = h
last_stands (Closes d) ts h = h
last_stands (Ident cs) ts h = h
last_stands (Literal cs) ts h = h
last_stands (Punct c Alone) ts h = h
last_stands (Punct c Joint) ts h = absurd (never (c == quote) h)
  where
    never : (b : Bool) → cond b false false ≡ true → ⊥
    never true e = cc
    never false e = cc

-- a token sees the first of those behind it alone
first_seen : (t u : Token) (xs ys : List Token) → IsTrue (may_stand t (u ∷ xs)) → IsTrue (may_stand t (u ∷ ys))
first_seen (Opens d) u xs ys h = h
first_seen (Closes d) u xs ys h = h
first_seen (Ident cs) u xs ys h = h
first_seen (Literal cs) u xs ys h = h
first_seen (Punct c Alone) u xs ys h = h
first_seen (Punct c Joint) (Opens d) xs ys h = h
first_seen (Punct c Joint) (Closes d) xs ys h = h
first_seen (Punct c Joint) (Ident cs) xs ys h = h
first_seen (Punct c Joint) (Literal cs) xs ys h = h
first_seen (Punct c Joint) (Punct d spacing) xs ys h = h

pub spaced_append : (ts us : List Token) → IsWellSpaced ts → IsWellSpaced us → IsWellSpaced (ts ++ us)
spaced_append [] us h k = k
spaced_append (t ∷ []) us h k = (last_stands t us h.0, k)
spaced_append (t ∷ u ∷ ts) us h k = (first_seen t u ts (ts ++ us) h.0, spaced_append (u ∷ ts) us h.1 k)

-- tokens before a joint mark, which stands before others
pub spaced_behind : (ts us : List Token) (c : ℕ) → IsTrue (all_stand ts (Punct c Joint ∷ [])) → c ≢ quote
    → IsWellSpaced us → IsTrue (follows_mark c us) → IsWellSpaced (ts ++ Punct c Joint ∷ us)
spaced_behind [] us c h n k f = (rw (ne_eqb c quote n) f, k)
spaced_behind (t ∷ []) us c h n k f = (
  first_seen t (Punct c Joint) [] us (and_parts (may_stand t (Punct c Joint ∷ [])) true h).0,
  spaced_behind [] us c refl n k f,
)
spaced_behind (t ∷ u ∷ ts) us c h n k f =
    let (first, others) = and_parts (may_stand t (u ∷ ts ++ Punct c Joint ∷ []))
    (all_stand (u ∷ ts) (Punct c Joint ∷ [])) h in (
      first_seen t u (ts ++ Punct c Joint ∷ []) (ts ++ Punct c Joint ∷ us) first,
      spaced_behind (u ∷ ts) us c others n k f,
    )

pub spaced_group : (d : Delimiter) (ts : List Token) → is_visible d ≡ true → IsWellSpaced ts
    → IsWellSpaced (Opens d ∷ ts ++ Closes d ∷ [])
spaced_group d ts v h = (v, spaced_append ts (Closes d ∷ []) h (v, tt))
