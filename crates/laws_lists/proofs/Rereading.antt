-- Punctuations as values, by where their marks stand.
use Rattle.std.proofs.Common.{◌≡◌, ◌<◌, ℕ, List, [], ◌∷◌, ◌++◌, length, map, refl, sym, ap, ◌∙◌, subst, inl, inr}
use Rattle.std.proofs.Common.{suc, ◌≤◌, ◌+◌}
use Rattle.rust_map.specs.declared.span.Span.{Span}
use Rattle.rust_leaf.specs.declared.ident.Ident.{Ident}
use Rattle.proc_macro2.specs.Token.{Punct, Spanned}
use Rattle.proc_macro2.specs.Flat.{spanned}
use Rattle.syn_kinds.specs.Table.{marks}
use Rattle.syn_kinds.specs.Values.{marks_tokens, spacing_before}
use Rattle.syn_lists.specs.Lists.{IsSeparated}
use Rattle.syn_lists.specs.Put.{PutsList, put_list}
use Rattle.syn_lists.proofs.Puts.{put_once}
use Rattle.syn_buffer.specs.Leaves.{ident_token}
use Rattle.syn_buffer.specs.Seen.{seen}
use Rattle.syn_lists.specs.ReadLists.{ReadsList, ReadsPairs, StopsList}
use Rattle.laws_lists.specs.ReadBack.{AreNames, ArePlaces, IsReadFrom, IsRefused, printed, put_marks, put_name}
use Rattle.laws_lists.specs.ReadBack.{no_marks, no_name, reads_marks, reads_name}
use Rattle.laws_lists.proofs.NamesBack.{flat, printed_once, put_flat}
use Rattle.laws_lists.proofs.NamesTaken.{never_refused}

-- all that is printed is seen
seen_marks : (cs : List ℕ) (ss : List Span) (xs : List Spanned)
    → seen (marks_tokens cs ss ++ xs) ≡ marks_tokens cs ss ++ seen xs
seen_marks [] ss xs = refl
seen_marks (c ∷ cs) [] xs = refl
seen_marks (c ∷ cs) (s ∷ ss) xs =
    ap (λ y. spanned (Punct c (spacing_before cs)) s ∷ y) (seen_marks cs ss xs)

module _ {P : Type 0} (places : P → List Span) (kind width : ℕ) where
  seen_flat : (vs : List Ident) (ps : List (List Span)) → seen (flat kind width vs ps) ≡ flat kind width vs ps
  seen_flat [] ps = refl
  seen_flat (v ∷ vs) [] = refl
  seen_flat (v ∷ vs) (p ∷ ps) =
      ap (λ y. ident_token v ∷ y)
      (seen_marks (marks kind width) p (flat kind width vs ps)
      ∙ ap (λ y. marks_tokens (marks kind width) p ++ y) (seen_flat vs ps))

  seen_printed : (vs : List Ident) (ps : List (List Span)) → seen (printed kind width vs ps) ≡ printed kind width vs ps
  seen_printed vs ps = ap seen (put_flat kind width vs ps []) ∙ seen_flat vs ps ∙ sym (put_flat kind width vs ps [])

  put_places : (vs : List Ident) (ps : List P) (ts : List Spanned)
      → put_list put_name (λ p. put_marks kind width (places p)) vs ps ts
      ≡ put_list put_name (put_marks kind width) vs (map places ps) ts
  put_places [] ps ts = refl
  put_places (v ∷ vs) [] ts = refl
  put_places (v ∷ vs) (p ∷ ps) ts = put_places vs ps (put_marks kind width (places p) (put_name v ts))

  abbrev OfValues : List Spanned → List Ident → List P → List Spanned → Type 0
  OfValues ts vs ps us = ReadsPairs reads_name (λ xs p ys. reads_marks kind width xs (places p) ys) ts vs ps us

  pairs_places : (ts : List Spanned) (vs : List Ident) (ps : List P) (us : List Spanned) → OfValues ts vs ps us
      → ReadsPairs reads_name (reads_marks kind width) ts vs (map places ps) us
  pairs_places ts [] ps us (e, n) = (e, ap (map places) n)
  pairs_places ts (v ∷ vs) [] us h = absurd h
  pairs_places ts (v ∷ vs) (p ∷ ps) us (xs, ys, a, b, h) = (xs, ys, a, b, pairs_places ys vs ps us h)

  read_places : (ts : List Spanned) (vs : List Ident) (ps : List P)
      → ReadsList reads_name (λ xs p ys. reads_marks kind width xs (places p) ys) ts vs ps []
      → IsReadFrom kind width ts vs (map places ps)
  read_places ts vs ps (inl h) = inl (pairs_places ts vs ps [] h)
  read_places ts vs ps (inr (ws, w, us, e, h, q)) = inr (ws, w, us, e, pairs_places ts ws ps us h, q)

  length_places : (ps : List P) → length (map places ps) ≡ length ps
  length_places [] = refl
  length_places (p ∷ ps) = ap (λ n. suc n) (length_places ps)

  -- these tokens are printed for the list
  abbrev Prints : List Ident → List P → List Spanned → Type 0
  Prints vs ps ts = PutsList (λ v old new. new ≡ put_name v old)
      (λ p old new. new ≡ put_marks kind width (places p) old) vs ps [] ts

  seen_put : (vs : List Ident) (ps : List P) (ts : List Spanned) → Prints vs ps ts
      → seen ts ≡ printed kind width vs (map places ps)
  seen_put vs ps ts h =
      ap seen (put_once put_name (λ p. put_marks kind width (places p)) vs ps [] ts h ∙ put_places vs ps [])
      ∙ seen_printed vs (map places ps)

  even_places : (vs : List Ident) (ps : List P) → IsSeparated vs ps → IsSeparated vs (map places ps)
  even_places vs ps s = subst (λ n. (n ≤ length vs) × (length vs ≤ n + 1)) (sym (length_places ps)) s

  -- what is read of a printed list is that list
  pub reread : (vs ws : List Ident) (ps qs : List P) → 0 < width → ArePlaces kind width (map places ps)
      → IsSeparated vs ps
      → ((ts : List Spanned) × Prints vs ps ts
      × ReadsList reads_name (λ xs p ys. reads_marks kind width xs (places p) ys) (seen ts) ws qs [])
      → (map ident_token ws ≡ map ident_token vs) × (map places qs ≡ map places ps)
  reread vs ws ps qs l a s (ts, is, h) =
      printed_once kind width vs ws (map places ps) (map places qs) l a (even_places vs ps s)
      (subst (λ us. IsReadFrom kind width us ws (map places qs)) (seen_put vs ps ts is) (read_places _ ws qs h))

  stops_places : (ts : List Spanned)
      → StopsList reads_name (λ xs p ys. reads_marks kind width xs (places p) ys) no_name (no_marks kind width) ts
      → IsRefused kind width ts
  stops_places ts (vs, ps, us, h, s) = (vs, map places ps, us, pairs_places ts vs ps us h, s)

  -- and it is not refused
  pub not_refused : (vs : List Ident) (ps : List P) → AreNames vs → ArePlaces kind width (map places ps)
      → IsSeparated vs ps
      → ((ts : List Spanned) × Prints vs ps ts
      × StopsList reads_name (λ xs p ys. reads_marks kind width xs (places p) ys) no_name (no_marks kind width)
      (seen ts)) → ⊥
  not_refused vs ps n a s (ts, is, h) =
      never_refused kind width vs (map places ps) n a (even_places vs ps s)
      (subst (λ us. IsRefused kind width us) (seen_put vs ps ts is) (stops_places _ h))
