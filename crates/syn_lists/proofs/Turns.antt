-- Values and separators that are read in turn.
use Rattle.std.proofs.Common.{◌≡◌, ◌⊎◌, List, [], ◌∷◌, ◌++◌, refl, sym, subst, inl, inr, Result, Ok, Err}
use Rattle.std.proofs.lemmas.Result.{IfErr-weaker, IfOk-weaker}
use Rattle.std.specs.Borrow.{MutBor}
use Rattle.std.specs.Prelude.{Bool, true, false, IfErr, IfOk}
use Rattle.proc_macro2.specs.Token.{Token, Spanned, plain}
use Rattle.syn_error.specs.Faults.{IsSyntax}
use Rattle.syn_error.specs.declared.fault.ParseFault.{ParseFault}
use Rattle.syn_input.specs.Input.{rest}
use Rattle.syn_lists.specs.ReadLists.{Reading}
use Rattle.syn_input.specs.declared.input.ParseBuffer.{ParseBuffer}
use Rattle.syn_lists.specs.Lists.{separators, values}
use Rattle.syn_lists.specs.declared.punctuated.Punctuated.{Punctuated}
use Rattle.syn_lists.specs.ReadMany.{IsEnded, ReadsBy, ReadsMany, ReadsTurns, RefusesBy, StopsAt, StopsMany}

module _ {T P : Type 0} (value : Reading T) (separator : Reading P) (ended follows : List Token → Bool) where
  abbrev Turns : List Spanned → List T → List P → List Spanned → Type 0
  Turns ts vs ps us = ReadsTurns value separator ended follows ts vs ps us

  -- one turn more
  pub turns_more : (ts : List Spanned) (vs : List T) (ps : List P) (us xs left : List Spanned) (v : T) (p : P)
      → Turns ts vs ps us → ended (plain us) ≡ false → value us v xs → follows (plain xs) ≡ true
      → separator xs p left → Turns ts (vs ++ v ∷ []) (ps ++ p ∷ []) left
  turns_more ts [] [] us xs left v p (same, none) e a f b = (
    xs,
    left,
    subst (λ w. ended (plain w) ≡ false) (sym same) e,
    subst (λ w. value w v xs) (sym same) a,
    f,
    b,
    (refl, refl),
  )
  turns_more ts [] (q ∷ ps) us xs left v p (same, none) e a f b = absurd (cc)
  turns_more ts (w ∷ vs) [] us xs left v p h e a f b = absurd h
  turns_more ts (w ∷ vs) (q ∷ ps) us xs left v p (ys, zs, g, c, k, d, h) e a f b =
      (ys, zs, g, c, k, d, turns_more zs vs ps us xs left v p h e a f b)

  -- the same, of lists to which they were added
  pub turns_next : (ts : List Spanned) (vs ws : List T) (ps qs : List P) (us xs left : List Spanned) (v : T) (p : P)
      → ws ≡ vs ++ v ∷ [] → qs ≡ ps ++ p ∷ [] → Turns ts vs ps us → ended (plain us) ≡ false → value us v xs
      → follows (plain xs) ≡ true → separator xs p left → Turns ts ws qs left
  turns_next ts vs ws ps qs us xs left v p i j h e a f b =
      subst (λ ys. Turns ts ys qs left) (sym i)
      (subst (λ zs. Turns ts (vs ++ v ∷ []) zs left) (sym j) (turns_more ts vs ps us xs left v p h e a f b))

  -- the list ends in a value that no separator follows
  pub ends_in_value : (ts : List Spanned) (ws vs : List T) (ps qs : List P) (us behind : List Spanned) (v : T)
      → Turns ts ws ps us → qs ≡ ps → vs ≡ ws ++ v ∷ [] → ended (plain us) ≡ false → value us v behind
      → follows (plain behind) ≡ false → ReadsMany value separator ended follows ts vs qs behind
  ends_in_value ts ws vs ps qs us behind v h i j e a f =
      (ws, us, subst (λ rs. Turns ts ws rs us) (sym i) h, inr (v, j, e, a, f))

-- what a function has read, and what it has refused
module _ {T : Type 0} (runs : MutBor ParseBuffer → Result T ParseFault → MutBor ParseBuffer → Type 0) where
  pub read_by : (i e : MutBor ParseBuffer) (v : T) → runs i (Ok v) e → ReadsBy runs (rest i.now) v (rest e.now)
  read_by i e v h = (i, e, refl, refl, h)

  pub refused_by : (i e : MutBor ParseBuffer) (f : ParseFault) → IsSyntax f → runs i (Err f) e
      → RefusesBy runs (rest i.now)
  refused_by i e f s h = (i, e, f, refl, s, h)

-- what is read by one meaning of a value is read by a weaker one
module _ {T P : Type 0} (V W : Reading T) (separator : Reading P) (ended follows : List Token → Bool)
    (weaker : (ts : List Spanned) (v : T) (us : List Spanned) → V ts v us → W ts v us) where
  turns_weaker : (ts : List Spanned) (vs : List T) (ps : List P) (us : List Spanned)
      → ReadsTurns V separator ended follows ts vs ps us → ReadsTurns W separator ended follows ts vs ps us
  turns_weaker ts [] ps us h = h
  turns_weaker ts (v ∷ vs) [] us h = absurd h
  turns_weaker ts (v ∷ vs) (p ∷ ps) us (ys, zs, e, a, k, d, h) =
      (ys, zs, e, weaker ts v ys a, k, d, turns_weaker zs vs ps us h)

  ended_weaker : (us : List Spanned) (ws vs : List T) (behind : List Spanned)
      → IsEnded V separator ended follows us ws vs behind → IsEnded W separator ended follows us ws vs behind
  ended_weaker us ws vs behind (inl h) = inl h
  ended_weaker us ws vs behind (inr (v, e, g, a, k)) = inr (v, e, g, weaker us v behind a, k)

  many_weaker : (ts : List Spanned) (vs : List T) (ps : List P) (behind : List Spanned)
      → ReadsMany V separator ended follows ts vs ps behind → ReadsMany W separator ended follows ts vs ps behind
  many_weaker ts vs ps behind (ws, us, h, e) = (ws, us, turns_weaker ts ws ps us h, ended_weaker us ws vs behind e)

  module _ (refused refused' no_separator : List Spanned → Type 0)
      (refuses : (ts : List Spanned) → refused ts → refused' ts) where
    at_weaker : (us : List Spanned) → StopsAt V separator ended follows refused no_separator us
        → StopsAt W separator ended follows refused' no_separator us
    at_weaker us (e, inl n) = (e, inl (refuses us n))
    at_weaker us (e, inr (v, xs, a, k, n)) = (e, inr (v, xs, weaker us v xs a, k, n))

    or_weaker : (us : List Spanned) (many : Type 0) → StopsAt V separator ended follows refused no_separator us ⊎ many
        → StopsAt W separator ended follows refused' no_separator us ⊎ many
    or_weaker us many (inl s) = inl (at_weaker us s)
    or_weaker us many (inr h) = inr h

    stops_weaker : (ts : List Spanned) → StopsMany V separator ended follows refused no_separator ts
        → StopsMany W separator ended follows refused' no_separator ts
    stops_weaker ts (vs, ps, us, h, s) = (vs, ps, us, turns_weaker ts vs ps us h, or_weaker us _ s)

module _ {T P : Type 0} {V : Reading T} (W : Reading T) (separator : Reading P) (ended follows : List Token → Bool)
    (ts : List Spanned) (result : Result (Punctuated T P) ParseFault) where
  -- the same of what a call answers
  pub read_weaker : (behind : List Spanned)
      → IfOk result (λ list. ReadsMany V separator ended follows ts (values list) (separators list) behind)
      → ((us : List Spanned) (v : T) (xs : List Spanned) → V us v xs → W us v xs)
      → IfOk result (λ list. ReadsMany W separator ended follows ts (values list) (separators list) behind)
  read_weaker behind h f =
      IfOk-weaker result _ _
      (λ list g. many_weaker V W separator ended follows f ts (values list) (separators list) behind g) h

  pub stop_weaker : {refused : List Spanned → Type 0} (refused' no_separator : List Spanned → Type 0)
      → IfErr result (λ e. IsSyntax e → StopsMany V separator ended follows refused no_separator ts)
      → ((us : List Spanned) (v : T) (xs : List Spanned) → V us v xs → W us v xs)
      → ((us : List Spanned) → refused us → refused' us)
      → IfErr result (λ e. IsSyntax e → StopsMany W separator ended follows refused' no_separator ts)
  stop_weaker {refused = refused} refused' no_separator h f n =
      IfErr-weaker result _ _
      (λ e g s. stops_weaker V W separator ended follows f refused refused' no_separator n ts (g s)) h
