-- Entries that begin with a tree's tokens.
use Rattle.std.proofs.Common.{◌≡◌, ℕ, List, [], ◌∷◌, ◌++◌, refl, sym, ap, ◌∙◌, length, take, drop, arith, suc}
use Rattle.std.proofs.lemmas.List.{take-map, drop-map, take_at, drop_at}
use Rattle.std.proofs.lemmas.List.{take-append-drop, map-append, append_cancel_left, length-append, length-map}
use Rattle.proc_macro2.specs.Token.{Token}
use Rattle.syn_buffer.specs.Entries.{entry_token}
use Rattle.syn_buffer.specs.declared.entry.Entry.{Entry}
use Rattle.syn_placed.specs.Stands.{tokens}

pub taken : (ts : List Token) (n : ℕ) (es : List Entry) (rest : List Token) → n ≡ length ts
    → tokens es ≡ ts ++ rest → tokens (take n es) ≡ ts
taken ts n es rest e h = sym (take-map entry_token n es) ∙ ap (take n) h ∙ take_at ts rest n (sym e)

pub left : (ts : List Token) (n : ℕ) (es : List Entry) (rest : List Token) → n ≡ length ts
    → tokens es ≡ ts ++ rest → tokens (drop n es) ≡ rest
left ts n es rest e h = sym (drop-map entry_token n es) ∙ ap (drop n) h ∙ drop_at ts rest n (sym e)

-- what stands behind so many tokens
pub behind_same : (front behind es : List Entry) (ts rest : List Token) → front ++ behind ≡ es
    → tokens front ≡ ts → tokens es ≡ ts ++ rest → tokens behind ≡ rest
behind_same front behind es ts rest is spelled h =
    append_cancel_left ts (tokens behind) rest
    (ap (λ us. us ++ tokens behind) (sym spelled) ∙ sym (map-append entry_token front behind) ∙ ap tokens is ∙ h)

-- entries of one token
one_left : (es : List Entry) → tokens es ≡ [] → es ≡ []
one_left [] h = refl
one_left (e ∷ es) h = cc

pub one_entry : (es : List Entry) (t : Token) → tokens es ≡ t ∷ [] → (e : Entry) × (es ≡ e ∷ [])
one_entry [] t h = cc
one_entry (e ∷ es) t h = let i : tokens es ≡ [] = cc in (e, ap (λ us. e ∷ us) (one_left es i))

-- the tokens between two
within_is : (n : ℕ) (e : Entry) (es : List Entry) (t u : Token) (ts : List Token) → n ≡ length ts
    → tokens (e ∷ es) ≡ t ∷ (ts ++ u ∷ []) → tokens (take n es) ≡ ts
within_is n e es t u ts m h = let i : tokens es ≡ ts ++ u ∷ [] = cc in taken ts n es (u ∷ []) m i

around_is : (n : ℕ) (e : Entry) (es : List Entry) (t u : Token) (ts : List Token) → n ≡ length ts
    → tokens (e ∷ es) ≡ t ∷ (ts ++ u ∷ []) → (last : Entry) × (e ∷ (take n es ++ last ∷ []) ≡ e ∷ es)
around_is n e es t u ts m h =
    let i : tokens es ≡ ts ++ u ∷ [] = cc in
    let one = one_entry (drop n es) u (left ts n es (u ∷ []) m i) in
    (one.0, ap (λ us. e ∷ us) (ap (λ us. take n es ++ us) (sym one.1) ∙ take-append-drop n es))

pub enclosed_length : (es : List Entry) (t u : Token) (ts : List Token) → tokens es ≡ t ∷ (ts ++ u ∷ [])
    → length es ≡ suc (suc (length ts))
enclosed_length es t u ts h =
    sym (length-map es entry_token) ∙ ap length h ∙ ap suc (length-append ts (u ∷ []) ∙ omega arith)

pub enclosed : (n : ℕ) (es : List Entry) (t u : Token) (ts : List Token) → n ≡ length ts
    → tokens es ≡ t ∷ (ts ++ u ∷ []) → tokens (take n (drop 1 es)) ≡ ts
enclosed n [] t u ts m h = cc
enclosed n (e ∷ es) t u ts m h = within_is n e es t u ts m h

pub enclosed_all : (n : ℕ) (es : List Entry) (t u : Token) (ts : List Token) → n ≡ length ts
    → tokens es ≡ t ∷ (ts ++ u ∷ [])
    → (first : Entry) × ((last : Entry) × (first ∷ (take n (drop 1 es) ++ last ∷ []) ≡ es))
enclosed_all n [] t u ts m h = cc
enclosed_all n (e ∷ es) t u ts m h = (e, around_is n e es t u ts m h)
