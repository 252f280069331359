-- The first tokens of what stands one behind the other.
use Rattle.std.proofs.Common.{◌≡◌, List, [], ◌∷◌, ◌++◌, refl, ap, ◌∙◌}
use Rattle.proc_macro2.specs.Token.{Token}
use Rattle.writer_built.specs.declared.head.Head.{Head}
use Rattle.writer_built.specs.declared.head.Head.TheVariants as heads
use Rattle.writer_built.specs.Begins.{front3}
use Rattle.writer_built.specs.Heads.{head_tokens}

front_behind : (ts us : List Token) → front3 (ts ++ front3 us) ≡ front3 (ts ++ us)
front_behind [] [] = refl
front_behind [] (a ∷ []) = refl
front_behind [] (a ∷ b ∷ []) = refl
front_behind [] (a ∷ b ∷ c ∷ us) = refl
front_behind (a ∷ []) [] = refl
front_behind (a ∷ []) (b ∷ []) = refl
front_behind (a ∷ []) (b ∷ c ∷ []) = refl
front_behind (a ∷ []) (b ∷ c ∷ d ∷ us) = refl
front_behind (a ∷ b ∷ []) [] = refl
front_behind (a ∷ b ∷ []) (c ∷ []) = refl
front_behind (a ∷ b ∷ []) (c ∷ d ∷ []) = refl
front_behind (a ∷ b ∷ []) (c ∷ d ∷ e ∷ us) = refl
front_behind (a ∷ b ∷ c ∷ ts) us = refl

front_before : (ts us : List Token) → front3 (front3 ts ++ us) ≡ front3 (ts ++ us)
front_before [] us = refl
front_before (a ∷ []) us = refl
front_before (a ∷ b ∷ []) us = refl
front_before (a ∷ b ∷ c ∷ ts) us = refl

pub fronts_join : (gs hs is ts us : List Token) → gs ≡ front3 (hs ++ is) → hs ≡ front3 ts → is ≡ front3 us
    → gs ≡ front3 (ts ++ us)
fronts_join gs hs is ts us d e f =
    d ∙ ap (λ xs. front3 (xs ++ is)) e ∙ front_before ts is ∙ ap (λ xs. front3 (ts ++ xs)) f ∙ front_behind ts us

-- behind one, and in between
one_behind : (t : Token) (us : List Token) → front3 (t ∷ front3 us) ≡ front3 (t ∷ us)
one_behind t us = front_behind (t ∷ []) us

one_before : (t : Token) (ts us : List Token) → front3 (t ∷ (front3 ts ++ us)) ≡ front3 (t ∷ (ts ++ us))
one_before t [] us = refl
one_before t (a ∷ []) us = refl
one_before t (a ∷ b ∷ []) us = refl
one_before t (a ∷ b ∷ c ∷ ts) us = refl

pub one_closed : (t : Token) (gs hs us : List Token) → gs ≡ front3 (t ∷ hs) → hs ≡ front3 us → gs ≡ front3 (t ∷ us)
one_closed t gs hs us d e = d ∙ ap (λ xs. front3 (t ∷ xs)) e ∙ one_behind t us

pub fronts_enclosed : (t : Token) (gs hs ts us : List Token) → gs ≡ front3 (t ∷ (hs ++ us)) → hs ≡ front3 ts
    → gs ≡ front3 (t ∷ (ts ++ us))
fronts_enclosed t gs hs ts us d e = d ∙ ap (λ xs. front3 (t ∷ (xs ++ us))) e ∙ one_before t ts us

-- the first of first ones
pub front_head : (h : Head) → head_tokens h ≡ front3 (head_tokens h)
front_head heads.Empty = refl
front_head (heads.One a) = refl
front_head (heads.Two a b) = refl
front_head (heads.Three a b c) = refl
