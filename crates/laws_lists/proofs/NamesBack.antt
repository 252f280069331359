-- Lists of names that are printed, and what they are read back as.
use Rattle.std.proofs.Common.{◌≡◌, ◌<◌, ℕ, List, [], ◌∷◌, ◌++◌, length, refl, sym, ap, ◌∙◌, subst}
use Rattle.std.proofs.Common.{arith, inl, inr, false, suc, ◌⊎◌, map}
use Rattle.std.proofs.lemmas.List.{append-nil, append_assoc}
use Rattle.std.specs.List.{All}
use Rattle.rust_map.specs.declared.span.Span.{Span}
use Rattle.rust_leaf.specs.Leaf.{ident_text}
use Rattle.rust_leaf.specs.declared.ident.Ident.{Ident}
use Rattle.proc_macro2.specs.Token.{Spanned}
use Rattle.syn_kinds.specs.Table.{marks}
use Rattle.rust_leaf.specs.Keywords.{is_reserved}
use Rattle.syn_kinds.specs.Values.{marks_tokens}
use Rattle.syn_kinds.proofs.Marks.{marks_count}
use Rattle.syn_lists.specs.Lists.{IsSeparated}
use Rattle.syn_lists.specs.Put.{put_list}
use Rattle.syn_buffer.specs.Leaves.{ident_token}
use Rattle.syn_peek.proofs.Shorter.{marks_shorter}
use Rattle.syn_peek.specs.Marks.{ReadsMarks}
use Rattle.syn_lists.specs.ReadLists.{EndsInValue, ReadsPairs}
use Rattle.laws_lists.specs.ReadBack.{AreNames, ArePlaces, IsReadFrom, printed, put_marks, put_name}
use Rattle.laws_lists.specs.ReadBack.{reads_marks, reads_name}
use Rattle.laws_lists.proofs.MarksBack.{marks_one, marks_read, past_first}

pub all_first : {X : Type 0} (P : X → Type 0) (x : X) (xs : List X) → All P (x ∷ xs) → P x
all_first P x xs h = h 0 x (omega arith)

pub all_rest : {X : Type 0} (P : X → Type 0) (x : X) (xs : List X) → All P (x ∷ xs) → All P xs
all_rest P x xs h = λ k d l. h (suc k) d (omega (arith, l))

abbrev first_token : Spanned → List Spanned → Spanned
first_token d [] = d
first_token d (t ∷ ts) = t

module _ (kind width : ℕ) where
  abbrev cs : List ℕ
  cs = marks kind width

  -- the tokens, from the front
  abbrev pub flat : List Ident → List (List Span) → List Spanned
  flat [] ps = []
  flat (v ∷ vs) [] = ident_token v ∷ []
  flat (v ∷ vs) (p ∷ ps) = ident_token v ∷ (marks_tokens cs p ++ flat vs ps)

  pub put_flat : (vs : List Ident) (ps : List (List Span)) (ts : List Spanned)
      → put_list put_name (put_marks kind width) vs ps ts ≡ ts ++ flat vs ps
  put_flat [] ps ts = sym (append-nil ts)
  put_flat (v ∷ vs) [] ts = refl
  put_flat (v ∷ vs) (p ∷ ps) ts =
      put_flat vs ps ((ts ++ (ident_token v ∷ [])) ++ marks_tokens cs p)
      ∙ append_assoc (ts ++ (ident_token v ∷ [])) (marks_tokens cs p) (flat vs ps)
      ∙ append_assoc ts (ident_token v ∷ []) (marks_tokens cs p ++ flat vs ps)

  abbrev Pairs : List Spanned → List Ident → List (List Span) → List Spanned → Type 0
  Pairs ts vs ps us = ReadsPairs reads_name (reads_marks kind width) ts vs ps us

  abbrev Ends : List Spanned → List Ident → List (List Span) → List Spanned → Type 0
  Ends ts vs ps us = EndsInValue reads_name (reads_marks kind width) ts vs ps us

  -- they are read as the list
  name_more : (v : Ident) (p : List Span) (vs : List Ident) (ps : List (List Span)) → is_reserved (ident_text v) ≡ false
      → ReadsMarks cs p (marks_tokens cs p ++ flat vs ps) (flat vs ps)
      → Pairs (flat vs ps) vs ps [] ⊎ Ends (flat vs ps) vs ps []
      → Pairs (flat (v ∷ vs) (p ∷ ps)) (v ∷ vs) (p ∷ ps) [] ⊎ Ends (flat (v ∷ vs) (p ∷ ps)) (v ∷ vs) (p ∷ ps) []
  name_more v p vs ps n b (inl h) = inl (marks_tokens cs p ++ flat vs ps, flat vs ps, (refl, n), b, h)
  name_more v p vs ps n b (inr (ws, w, us, e, h, q)) =
      inr (v ∷ ws, w, us, ap (λ xs. v ∷ xs) e, (marks_tokens cs p ++ flat vs ps, flat vs ps, (refl, n), b, h), q)

  flat_read : (vs : List Ident) (ps : List (List Span)) → 0 < width → AreNames vs → ArePlaces kind width ps
      → IsSeparated vs ps → Pairs (flat vs ps) vs ps [] ⊎ Ends (flat vs ps) vs ps []
  flat_read [] [] l a b s = inl (refl, refl)
  flat_read [] (p ∷ ps) l a b s = absurd (omega (arith, s.0))
  flat_read (v ∷ []) [] l a b s =
      let n = all_first (λ i. is_reserved (ident_text i) ≡ false) v [] a in
      inr ([], v, ident_token v ∷ [], refl, (refl, refl), (refl, n))
  flat_read (v ∷ w ∷ vs) [] l a b s = absurd (omega (arith, s.1))
  flat_read (v ∷ vs) (p ∷ ps) l a b s =
      let n = all_first (λ i. is_reserved (ident_text i) ≡ false) v vs a in
      let m = all_first (λ x. length x ≡ width) p ps b in
      name_more v p vs ps n
      (marks_read cs p (flat vs ps) (omega (arith, l, marks_count kind width)) (m ∙ sym (marks_count kind width)))
      (flat_read vs ps l (all_rest (λ i. is_reserved (ident_text i) ≡ false) v vs a)
      (all_rest (λ x. length x ≡ width) p ps b) (omega (arith, s.0), omega (arith, s.1)))

  -- what is left behind the marks of one is shorter
  marks_some : (p : List Span) (xs : List Spanned) → 0 < width → length p ≡ width → marks_tokens cs p ++ xs ≡ [] → ⊥
  marks_some p xs l m e =
      let h = marks_shorter cs p (marks_tokens cs p ++ xs) xs
      (marks_read cs p xs (omega (arith, l, marks_count kind width)) (m ∙ sym (marks_count kind width))) in
      omega (arith, h, ap (λ (x : List Spanned). length x) e)

  pub none_behind : (q : List Span) (us more : List Spanned) → us ≡ [] → ReadsMarks cs q us more → ⊥
  none_behind q us more e b =
      let h = marks_shorter cs q us more b in omega (arith, h, ap (λ (x : List Spanned). length x) e)

  -- and as no other
  abbrev Same : List Ident → List (List Span) → List Ident → List (List Span) → Type 0
  Same vs ps ws qs = (map ident_token ws ≡ map ident_token vs) × (qs ≡ ps)

  same_more : (v w : Ident) (p q : List Span) (vs ws : List Ident) (ps qs : List (List Span))
      → ident_token w ≡ ident_token v → q ≡ p → Same vs ps ws qs → Same (v ∷ vs) (p ∷ ps) (w ∷ ws) (q ∷ qs)
  same_more v w p q vs ws ps qs t e s = (
    ap (λ x. x ∷ map ident_token ws) t ∙ ap (λ x. ident_token v ∷ x) s.0,
    ap (λ x. x ∷ qs) e ∙ ap (λ x. p ∷ x) s.1,
  )

  -- one turn of what is read is one of the list
  pub turn : (v w : Ident) (p q : List Span) (xs us more : List Spanned) → length p ≡ width
      → ident_token v ∷ (marks_tokens cs p ++ xs) ≡ ident_token w ∷ us → ReadsMarks cs q us more
      → (ident_token w ≡ ident_token v) × (q ≡ p) × (more ≡ xs)
  turn v w p q xs us more m e b =
      let i : us ≡ marks_tokens cs p ++ xs = sym (ap past_first e) in
      let both = marks_one cs p q xs more (m ∙ sym (marks_count kind width))
      (subst (λ y. ReadsMarks cs q y more) i b) in
      (sym (ap (first_token (ident_token v)) e), both.0, both.1)

  pairs_once : (vs : List Ident) (ps : List (List Span)) (ws : List Ident) (qs : List (List Span))
      → ArePlaces kind width ps → IsSeparated vs ps → Pairs (flat vs ps) ws qs [] → Same vs ps ws qs
  pairs_once [] [] [] qs a s (e, n) = (refl, n)
  pairs_once [] (p ∷ ps) ws qs a s h = absurd (omega (arith, s.0))
  pairs_once (v ∷ vs) [] [] qs a s (e, n) = absurd (cc)
  pairs_once (v ∷ vs) (p ∷ ps) [] qs a s (e, n) = absurd (cc)
  pairs_once [] [] (w ∷ ws) [] a s h = absurd h
  pairs_once (v ∷ vs) ps (w ∷ ws) [] a s h = absurd h
  pairs_once [] [] (w ∷ ws) (q ∷ qs) a s (us, more, (e, n), b, h) = absurd (cc)
  pairs_once (v ∷ vs) [] (w ∷ ws) (q ∷ qs) a s (us, more, (e, n), b, h) =
      absurd (none_behind q us more (sym (ap past_first e)) b)
  pairs_once (v ∷ vs) (p ∷ ps) (w ∷ ws) (q ∷ qs) a s (us, more, (e, n), b, h) =
      let t = turn v w p q (flat vs ps) us more (all_first (λ x. length x ≡ width) p ps a) e b in
      same_more v w p q vs ws ps qs t.0 t.1 (pairs_once vs ps ws qs (all_rest (λ x. length x ≡ width) p ps a)
      (omega (arith, s.0), omega (arith, s.1)) (subst (λ y. Pairs y ws qs []) t.2 h))

  ends_once : (vs : List Ident) (ps : List (List Span)) (ws : List Ident) (qs : List (List Span)) (w : Ident)
      (us : List Spanned) → 0 < width → ArePlaces kind width ps → IsSeparated vs ps → Pairs (flat vs ps) ws qs us
      → us ≡ ident_token w ∷ [] → Same vs ps (ws ++ w ∷ []) qs
  ends_once [] [] [] qs w us l a s (e, n) f = absurd (cc)
  ends_once [] (p ∷ ps) ws qs w us l a s h f = absurd (omega (arith, s.0))
  ends_once (v ∷ []) [] [] qs w us l a s (e, n) f = (sym (e ∙ f), n)
  ends_once (v ∷ x ∷ vs) [] ws qs w us l a s h f = absurd (omega (arith, s.1))
  ends_once (v ∷ vs) (p ∷ ps) [] qs w us l a s (e, n) f =
      absurd (marks_some p (flat vs ps) l (all_first (λ x. length x ≡ width) p ps a) (ap past_first (e ∙ f)))
  ends_once [] [] (y ∷ ws) [] w us l a s h f = absurd h
  ends_once (v ∷ []) [] (y ∷ ws) [] w us l a s h f = absurd h
  ends_once (v ∷ vs) (p ∷ ps) (y ∷ ws) [] w us l a s h f = absurd h
  ends_once [] [] (y ∷ ws) (q ∷ qs) w us l a s (xs, more, (e, n), b, h) f = absurd (cc)
  ends_once (v ∷ []) [] (y ∷ ws) (q ∷ qs) w us l a s (xs, more, (e, n), b, h) f =
      absurd (none_behind q xs more (sym (ap past_first e)) b)
  ends_once (v ∷ vs) (p ∷ ps) (y ∷ ws) (q ∷ qs) w us l a s (xs, more, (e, n), b, h) f =
      let t = turn v y p q (flat vs ps) xs more (all_first (λ x. length x ≡ width) p ps a) e b in
      same_more v y p q vs (ws ++ w ∷ []) ps qs t.0 t.1
      (ends_once vs ps ws qs w us l (all_rest (λ x. length x ≡ width) p ps a)
      (omega (arith, s.0), omega (arith, s.1)) (subst (λ z. Pairs z ws qs us) t.2 h) f)

  flat_once : (vs ws : List Ident) (ps qs : List (List Span)) → 0 < width → ArePlaces kind width ps → IsSeparated vs ps
      → Pairs (flat vs ps) ws qs [] ⊎ Ends (flat vs ps) ws qs [] → Same vs ps ws qs
  flat_once vs ws ps qs l a s (inl h) = pairs_once vs ps ws qs a s h
  flat_once vs ws ps qs l a s (inr (front, w, us, e, h, (f, n))) =
      subst (λ x. Same vs ps x qs) (sym e) (ends_once vs ps front qs w us l a s h f)

  pub printed_read : (vs : List Ident) (ps : List (List Span)) → 0 < width → AreNames vs → ArePlaces kind width ps
      → IsSeparated vs ps → IsReadFrom kind width (printed kind width vs ps) vs ps
  printed_read vs ps l n a s =
      subst (λ ts. Pairs ts vs ps [] ⊎ Ends ts vs ps []) (sym (put_flat vs ps [])) (flat_read vs ps l n a s)

  pub printed_once : (vs ws : List Ident) (ps qs : List (List Span)) → 0 < width → ArePlaces kind width ps
      → IsSeparated vs ps → IsReadFrom kind width (printed kind width vs ps) ws qs
      → (map ident_token ws ≡ map ident_token vs) × (qs ≡ ps)
  printed_once vs ws ps qs l a s h =
      flat_once vs ws ps qs l a s (subst (λ ts. Pairs ts ws qs [] ⊎ Ends ts ws qs []) (put_flat vs ps []) h)
