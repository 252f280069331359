-- Prints of lists.
use Rattle.std.proofs.Common.{◌≡◌, ℕ, ◌+◌, ◌<◌, ◌≤◌, List, [], ◌∷◌, length, get_or, drop, refl, sym, ap, ◌∙◌, subst}
use Rattle.std.proofs.lemmas.List.{drop_all, drop_more}
use Rattle.std.proofs.lemmas.Result.{on_ok_weaker}
use Rattle.std.specs.Prelude.{Option, Some, Result, OnOk}
use Rattle.proc_macro2.specs.Token.{Spanned}
use Rattle.syn_error.specs.Tokens.{Puts}
use Rattle.syn_lists.specs.Put.{Put, PutsList, PutsPair, put_list}

-- What a print of the list from that place on makes of the tokens that stand there, a print of all of it makes of the
-- first ones.
module _ {T P : Type 0} (value : T → Puts) (separator : P → Puts) (vs : List T) (ps : List P) (first : List Spanned)
  where
    abbrev GoesOn : ℕ → List Spanned → Type 0
    GoesOn index tokens = (all : List Spanned) → PutsList value separator (drop index vs) (drop index ps) tokens all
        → PutsList value separator vs ps first all

    -- a value and its separator have been put
    pub put_both : (index : ℕ) (v : T) (p : P) (old between new : List Spanned) → index < length vs → index < length ps
        → v ≡ get_or vs index v → p ≡ get_or ps index p → value v old between → separator p between new
        → GoesOn index old → GoesOn (index + 1) new
    put_both index v p old between new below within is_v is_p put_v put_p goes =
        λ all h. goes all
        (subst (λ (ws : List T). PutsList value separator ws (drop index ps) old all) (sym (drop_more vs index v below))
        (subst (λ (qs : List P). PutsList value separator (get_or vs index v ∷ drop (index + 1) vs) qs old all)
        (sym (drop_more ps index p within)) (
          between,
          new,
          subst (λ (w : T). value w old between) is_v put_v,
          subst (λ (q : P). separator q between new) is_p put_p,
          h,
        )))

    -- the last value has been put, which no separator follows
    pub put_last : (index : ℕ) (v : T) (old new : List Spanned) → index < length vs → length ps ≤ index
        → v ≡ get_or vs index v → value v old new → GoesOn index old → PutsList value separator vs ps first new
    put_last index v old new below past is_v put_v goes =
        goes new
        (subst (λ (ws : List T). PutsList value separator ws (drop index ps) old new) (sym (drop_more vs index v below))
        (subst (λ (qs : List P). PutsList value separator (get_or vs index v ∷ drop (index + 1) vs) qs old new)
        (sym (drop_all index ps past)) (subst (λ (w : T). value w old new) is_v put_v)))

    -- all have been put
    pub put_done : (index : ℕ) (new : List Spanned) → length vs ≤ index → GoesOn index new
        → PutsList value separator vs ps first new
    put_done index new past goes =
        goes new (subst (λ (ws : List T). PutsList value separator ws (drop index ps) new new)
        (sym (drop_all index vs past)) refl)

-- a value has been put, and its separator behind it
pub put_pair : {T P X E : Type 0} (value : T → Puts) (separator : P → Puts) (pair : T × Option P) (v : T) (p : P)
    (old between new : List Spanned) (r : Result X E) → pair ≡ (v, Some p) → value v old between
    → OnOk r (separator p between new) → OnOk r (PutsPair value separator pair old new)
put_pair {T = T} {P = P} value separator pair v p old between new r is put_v =
    on_ok_weaker r (λ put_p. subst (λ (x : T × Option P). PutsPair value separator x old new) (sym is)
    (between, put_v, put_p))

-- where each value and each separator makes one thing of the tokens, so does a list of them
pub put_once : {T P : Type 0} (value : T → Put) (separator : P → Put) (vs : List T) (ps : List P)
    (old new : List Spanned) → PutsList (λ v ts us. us ≡ value v ts) (λ p ts us. us ≡ separator p ts) vs ps old new
    → new ≡ put_list value separator vs ps old
put_once value separator [] ps old new h = h
put_once value separator (v ∷ vs) [] old new h = h
put_once value separator (v ∷ vs) (p ∷ ps) old new (between, behind, put_v, put_p, h) =
    put_once value separator vs ps behind new h
    ∙ ap (λ ts. put_list value separator vs ps ts) (put_p ∙ ap (λ ts. separator p ts) put_v)
