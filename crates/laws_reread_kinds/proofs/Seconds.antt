-- Where a second token decides: what stands behind an identifier that a type begins with, as the tests of its entries
-- saw it.
use Rattle.std.proofs.Common.{◌≡◌, ℕ, List, [], ◌∷◌, ◌++◌, refl, sym, ap, ◌∙◌, subst, append_assoc, ⊎_elim, inl, inr}
use Rattle.std.specs.Prelude.{Bool, true, false, ◌⊎◌, cond, codes, Option, Some, None, ◌==◌}
use Rattle.std.proofs.lemmas.Bool.{eqb-true}
use Rattle.proc_macro2.specs.Token.{Token, Ident, Punct}
use Rattle.proc_macro2.specs.declared.delimiter.Delimiter.{Delimiter}
use Rattle.proc_macro2.specs.declared.delimiter.Delimiter.TheVariants.{Parenthesis, Bracket}
use Rattle.rust_leaf.specs.declared.punct.Spacing.TheVariants.{Alone as Apart, Joint}
use Rattle.rust_leaf.specs.declared.punct.Spacing.{Spacing}
use Rattle.syn_grammar.specs.Words.{is_ident, is_path_keyword}
use Rattle.rust_leaf.specs.Keywords.{same_text, is_reserved}
use Rattle.syn_grammar.specs.Kind.{InferType, AtType, Plus, WithPlus, Path, Segments, AnyPath, AType}
use Rattle.syn_grammar.specs.Tree.{Tree, AWord, AMark, Nil, Pair, First, Second, Node, marks as signs, flat}
use Rattle.syn_grammar.specs.Gram.{Gram, ref}
use Rattle.syn_grammar.specs.Look.{Look, seen, behind, first_seen, sees, ◌then◌, ◌or◌, an_ident, opens, past_marks}
use Rattle.syn_grammar.specs.Look.{a_word}
use Rattle.syn_grammar.specs.Look.{no, the_word}
use Rattle.syn_grammar.specs.Say.{keyword, ◌▸◌, when◌read◌else◌, optional, at, sign, marks, ident, parenthesis}
use Rattle.syn_grammar.specs.Paths.{arguments_stand}
use Rattle.syn_grammar.specs.Types.{colon, type_entry}
use Rattle.syn_grammar.specs.Ranks.{skips}
use Rattle.syn_grammar.specs.Table.{table}
use Rattle.syn_grammar.specs.Derives.{Derives}
use Rattle.syn_grammar.specs.Kept.{held, kept}
use Rattle.syn_grammar.specs.Tidy.{is_ident_type, is_lone_path, is_lone_segment}
use Rattle.syn_grammar.specs.Part.{choice}
use Rattle.laws_reread_kinds.specs.After.{behind as kind_behind}
use Rattle.laws_reread_kinds.specs.Sees.{Lacks, LacksAll}
use Rattle.laws_reread_kinds.proofs.Starts.{starts}
use Rattle.laws_reread_kinds.proofs.Classes.{TheWord, AnyWord, the_words, of_all, among_left, among_right}
use Rattle.laws_reread_kinds.proofs.Sights.{ident_not}
use Rattle.laws_reread_kinds.proofs.Keywords.{reserved_self, reserved_super, reserved_crate, reserved_underscore}
use Rattle.laws_reread_kinds.proofs.Keywords.{reserved_dyn, reserved_impl, reserved_for, reserved_unsafe}
use Rattle.laws_reread_kinds.proofs.Keywords.{reserved_extern}
use Rattle.laws_reread_kinds.proofs.Keywords.{reserved_fn}
use Rattle.laws_reread_kinds.proofs.Fits.{Fits}
use Rattle.laws_reread_kinds.proofs.Readies.{Ready}
use Rattle.laws_reread_kinds.proofs.Fine.{At, words_are}
use Rattle.laws_reread_kinds.proofs.Parts.{Found, found_alt, found_mark, found_ref, found_seq, found_text}
use Rattle.laws_reread_kinds.proofs.Parts.{found_word}

-- where no such word stands, none stands before anything
pub past_none : (p : List ℕ → Bool) (l : Look) (ts : List Token) → Lacks (a_word p) ts → Lacks (a_word p then l) ts
past_none p l ts e = go (a_word p ts) e
  where
    go : (o : Option (List Token)) → seen o ≡ false → seen (behind o l) ≡ false
    go None e = refl
    go (Some us) e = cc

pub mark_is_none : (p : List ℕ → Bool) (c : ℕ) (cs : List ℕ) (ts : List Token) → sees (past_marks c cs) ts ≡ true
    → Lacks (a_word p) ts
mark_is_none p c [] (Ident ds ∷ ts) e = cc
mark_is_none p c (x ∷ xs) (Ident ds ∷ ts) e = cc
mark_is_none p c cs _ e = refl

pub group_is_none : (p : List ℕ → Bool) (d : Delimiter) (ts : List Token) → sees (opens d) ts ≡ true → Lacks
    (a_word p) ts
group_is_none p d (Ident ds ∷ ts) e = cc
group_is_none p d _ e = refl

pub word_is_none : (w : List ℕ) (ts : List Token) → is_reserved w ≡ true → sees (the_word w) ts ≡ true → Lacks
    an_ident ts
word_is_none w (Ident cs ∷ us) r e = go (is_ident cs) refl
  where
    go : (b : Bool) → is_ident cs ≡ b → seen (cond b (Some us) None) ≡ false
    go false i = refl
    go true i =
        let f : false ≡ true = sym (ap (λ b. seen (cond b (Some us) None)) (ident_not w cs r i)) ∙ e in
        cc f
word_is_none w _ r e = refl

pub either_seen : (o p : Option (List Token)) → seen (first_seen o p) ≡ true → (seen o ≡ true) ⊎ (seen p ≡ true)
either_seen (Some us) p e = inl refl
either_seen None p e = inr e

-- behind a word
pub past_word : (p : List ℕ → Bool) (l : Look) (cs : List ℕ) (ts : List Token) → Lacks l ts
    → Lacks (a_word p then l) (Ident cs ∷ ts)
past_word p l cs ts a = go (p cs)
  where
    go : (b : Bool) → seen (behind (cond b (Some ts) None) l) ≡ false
    go true = a
    go false = refl

abbrev pub keywords : List (List ℕ)
keywords = codes "self" ∷ codes "super" ∷ codes "crate" ∷ []

keyword_is_none : (cs : List ℕ) (us : List Token) → is_path_keyword cs ≡ true → Lacks an_ident (Ident cs ∷ us)
unfolding is_path_keyword
keyword_is_none cs us e =
    of_all (λ ts. Lacks an_ident ts) (the_words keywords) (Ident cs ∷ us)
    (λ us. simp reserved_self refl, (λ us. simp reserved_super refl, (λ us. simp reserved_crate refl, tt)))
    (words_are keywords cs us e)

-- a look that sees none of it
module _ (l : Look) (colons : (ts : List Token) → sees (marks "::") ts ≡ true → Lacks l ts)
    (angle : (ts : List Token) → sees (arguments_stand AtType) ts ≡ true → Lacks l ts)
    (group : (ts : List Token) → sees parenthesis ts ≡ true → Lacks l ts) where
  lone_next : (cs : List ℕ) (s : List Token) → (is_ident cs ≡ true → Lacks l s) → Lacks (an_ident then l) (Ident cs ∷ s)
  lone_next cs s h = go (is_ident cs) refl
    where
      go : (b : Bool) → is_ident cs ≡ b → seen (behind (cond b (Some s) None) l) ≡ false
      go true i = h i
      go false i = refl

  segments_next : (x : Tree) (s : List Token) → Derives x (table (Segments AtType)) s
      → (is_lone_segment (kept (Node (Segments AtType) x)) ≡ true → Lacks l s) → Lacks (an_ident then l) (flat x ++ s)
  unfolding table held
  segments_next (First (Pair (AWord cs) y)) s d h =
      past_none is_ident l (Ident cs ∷ flat y ++ s) (keyword_is_none cs (flat y ++ s) d.1.0)
  segments_next (First (Pair _ y)) s d h = absurd d.1.0
  segments_next (First _) s d h = absurd d.1
  segments_next (Second (Pair (AWord cs) (First y))) s d h =
      past_word is_ident l cs (flat y ++ s) (angle (flat y ++ s) d.1.1.0)
  segments_next (Second (Pair (AWord cs) (Second (First y)))) s d h =
      past_word is_ident l cs (flat y ++ s) (colons (flat y ++ s) d.1.1.1.0)
  segments_next (Second (Pair (AWord cs) (Second (Second (First y))))) s d h =
      past_word is_ident l cs (flat y ++ s) (group (flat y ++ s) d.1.1.1.1.0)
  segments_next (Second (Pair (AWord cs) (Second (Second (Second Nil))))) s d h = lone_next cs s h
  segments_next (Second (Pair (AWord cs) (Second (Second (Second _))))) s d h = absurd d.1.1.1.1.1
  segments_next (Second (Pair (AWord cs) (Second (Second _)))) s d h = absurd d.1.1.1.1
  segments_next (Second (Pair (AWord cs) (Second _))) s d h = absurd d.1.1.1
  segments_next (Second (Pair (AWord cs) _)) s d h = absurd d.1.1
  segments_next (Second (Pair _ y)) s d h = absurd d.1.0
  segments_next (Second _) s d h = absurd d.1
  segments_next _ s d h = absurd d

  path_next : (x : Tree) (s : List Token) → Derives x (table (Path AtType)) s
      → (is_lone_path (kept (Node (AnyPath AtType) (Second (Node (Path AtType) x)))) ≡ true → Lacks l s)
      → Lacks (an_ident then l) (flat x ++ s)
  unfolding table held
  path_next (Pair (First m) y) s d h =
      subst (λ us. Lacks (an_ident then l) us) (sym (append_assoc (flat m) (flat y) s))
      (past_none is_ident l (flat m ++ (flat y ++ s))
      (mark_is_none is_ident 58 (58 ∷ []) (flat m ++ (flat y ++ s)) d.0.0))
  path_next (Pair (Second Nil) (Node k y)) s d h =
      segments_next y s (subst (λ j. Derives y (table j) s) d.1.0 d.1.1)
      (λ e. h (subst (λ j. is_lone_segment (kept (Node j y)) ≡ true) (sym d.1.0) e))
  path_next (Pair (Second Nil) _) s d h = absurd d.1
  path_next (Pair (Second _) y) s d h = absurd d.0.1
  path_next (Pair _ y) s d h = absurd d.0
  path_next _ s d h = absurd d

  any_next : (x : Tree) (s : List Token) → Derives x (table (AnyPath AtType)) s
      → (is_lone_path (kept (Node (AnyPath AtType) x)) ≡ true → Lacks l s) → Lacks (an_ident then l) (flat x ++ s)
  unfolding table held
  any_next (First x) s d h = past_none is_ident l (flat x ++ s) (mark_is_none is_ident 60 [] (flat x ++ s) d.0)
  any_next (Second (Node k y)) s d h =
      path_next y s (subst (λ j. Derives y (table j) s) d.1.0 d.1.1)
      (λ e. h (subst (λ j. is_lone_path (kept (Node (AnyPath AtType) (Second (Node j y)))) ≡ true) (sym d.1.0) e))
  any_next (Second _) s d h = absurd d.1
  any_next _ s d h = absurd d

  -- for, unsafe, extern or fn
  pointer_next : (ts : List Token) → sees (at "for" or at "unsafe" or at "extern" or at "fn") ts ≡ true
      → Lacks an_ident ts
  pointer_next ts e =
      ⊎_elim (word_is_none (codes "for") ts reserved_for)
      (λ f. ⊎_elim (word_is_none (codes "unsafe") ts reserved_unsafe)
      (λ g. ⊎_elim (word_is_none (codes "extern") ts reserved_extern) (word_is_none (codes "fn") ts reserved_fn)
      (either_seen ((at "extern") ts) ((at "fn") ts) g))
      (either_seen ((at "unsafe") ts) ((at "extern" or at "fn") ts) f))
      (either_seen ((at "for") ts) ((at "unsafe" or at "extern" or at "fn") ts) e)

  entry_next : (p : Plus) (x : Tree) (s : List Token) → Derives x (type_entry p) s
      → (is_lone_path (choice (kept x)) ≡ true → Lacks l s) → Lacks (an_ident then l) (flat x ++ s)
  entry_next p (First x) s d h =
      past_none is_ident l (flat x ++ s) (group_is_none is_ident Parenthesis (flat x ++ s) d.0)
  entry_next p (Second (First x)) s d h =
      past_none is_ident l (flat x ++ s) (mark_is_none is_ident 33 [] (flat x ++ s) d.1.0)
  entry_next p (Second (Second (First x))) s d h =
      past_none is_ident l (flat x ++ s) (mark_is_none is_ident 38 [] (flat x ++ s) d.1.1.0)
  entry_next p (Second (Second (Second (First x)))) s d h =
      past_none is_ident l (flat x ++ s) (mark_is_none is_ident 42 [] (flat x ++ s) d.1.1.1.0)
  entry_next p (Second (Second (Second (Second (First x))))) s d h =
      past_none is_ident l (flat x ++ s) (group_is_none is_ident Bracket (flat x ++ s) d.1.1.1.1.0)
  entry_next p (Second (Second (Second (Second (Second (First x)))))) s d h =
      past_none is_ident l (flat x ++ s) (word_is_none (codes "_") (flat x ++ s) reserved_underscore d.1.1.1.1.1.0)
  entry_next p (Second (Second (Second (Second (Second (Second (First x))))))) s d h =
      past_none is_ident l (flat x ++ s) (word_is_none (codes "dyn") (flat x ++ s) reserved_dyn d.1.1.1.1.1.1.0)
  entry_next p (Second (Second (Second (Second (Second (Second (Second (First x)))))))) s d h =
      past_none is_ident l (flat x ++ s) (word_is_none (codes "impl") (flat x ++ s) reserved_impl d.1.1.1.1.1.1.1.0)
  entry_next p (Second (Second (Second (Second (Second (Second (Second (Second (First x))))))))) s d h =
      past_none is_ident l (flat x ++ s) (pointer_next (flat x ++ s) d.1.1.1.1.1.1.1.1.0)
  entry_next p (Second (Second (Second (Second (Second (Second (Second (Second (Second (Node k y)))))))))) s d h =
      any_next y s (subst (λ j. Derives y (table j) s) d.1.1.1.1.1.1.1.1.1.0 d.1.1.1.1.1.1.1.1.1.1)
      (λ e. h (subst (λ j. is_lone_path (kept (Node j y)) ≡ true) (sym d.1.1.1.1.1.1.1.1.1.0) e))
  entry_next p (Second (Second (Second (Second (Second (Second (Second (Second (Second _))))))))) s d h =
      absurd d.1.1.1.1.1.1.1.1.1
  entry_next p (Second (Second (Second (Second (Second (Second (Second (Second _)))))))) s d h =
      absurd d.1.1.1.1.1.1.1.1
  entry_next p (Second (Second (Second (Second (Second (Second (Second _))))))) s d h = absurd d.1.1.1.1.1.1.1
  entry_next p (Second (Second (Second (Second (Second (Second _)))))) s d h = absurd d.1.1.1.1.1.1
  entry_next p (Second (Second (Second (Second (Second _))))) s d h = absurd d.1.1.1.1.1
  entry_next p (Second (Second (Second (Second _)))) s d h = absurd d.1.1.1.1
  entry_next p (Second (Second (Second _))) s d h = absurd d.1.1.1
  entry_next p (Second (Second _)) s d h = absurd d.1.1
  entry_next p (Second _) s d h = absurd d.1
  entry_next p _ s d h = absurd d

  -- of a type that isn't one Ident, whatever stands behind it
  pub long_next : (x : Tree) (s : List Token) → Derives x (ref (AType WithPlus)) s
      → (is_ident_type (kept x) ≡ true → Lacks l s) → Lacks (an_ident then l) (flat x ++ s)
  unfolding table held
  long_next (Node k y) s d h =
      entry_next WithPlus y s (subst (λ j. Derives y (table j) s) d.0 d.1)
      (λ e. h (subst (λ j. is_ident_type (kept (Node j y)) ≡ true) (sym d.0) e))
  long_next _ s d h = absurd d

  pub type_next : (x : Tree) (s : List Token) → Derives x (ref (AType WithPlus)) s → Lacks l s
      → Lacks (an_ident then l) (flat x ++ s)
  type_next x s d a = long_next x s d (λ e. a)

-- no = stands there
pub mark_other : (c d : ℕ) (cs : List ℕ) (ts : List Token) → (c == d) ≡ false → sees (past_marks c cs) ts ≡ true
    → sees (past_marks d []) ts ≡ false
mark_other c d [] (Punct e spacing ∷ ts) n h = other (e == c) refl h
  where
    other : (b : Bool) → (e == c) ≡ b → seen (cond b (Some ts) None) ≡ true
        → seen (cond (e == d) (Some ts) None) ≡ false
    other true i h = ap (λ b. seen (cond b (Some ts) None)) (ap (λ v. v == d) (eqb-true e c i) ∙ n)
    other false i h = cc h
mark_other c d (x ∷ xs) (Punct e Joint ∷ ts) n h = other (e == c) refl h
  where
    other : (b : Bool) → (e == c) ≡ b → seen (cond b (past_marks x xs ts) None) ≡ true
        → seen (cond (e == d) (Some ts) None) ≡ false
    other true i h = ap (λ b. seen (cond b (Some ts) None)) (ap (λ v. v == d) (eqb-true e c i) ∙ n)
    other false i h = cc h
mark_other c d (x ∷ xs) (Punct e Apart ∷ ts) n h = cc h
mark_other c d cs _ n h = refl

no_equals_parens : (ts : List Token) → sees parenthesis ts ≡ true → Lacks (marks "=") ts
no_equals_parens (Punct e spacing ∷ ts) h = cc h
no_equals_parens _ h = refl

pub front_seen : (o : Option (List Token)) (l : Look) → seen (behind o l) ≡ true → seen o ≡ true
front_seen (Some us) l e = refl
front_seen None l e = cc

pub none_seen : (o : Option (List Token)) (l : Look) (ts : List Token)
    → seen (behind (cond (seen o) None (Some ts)) l) ≡ true → sees l ts ≡ true
none_seen (Some us) l ts e = cc
none_seen None l ts e = e

no_equals_angle : (ts : List Token) → sees (arguments_stand AtType) ts ≡ true → Lacks (marks "=") ts
no_equals_angle ts e =
    ⊎_elim (λ f. mark_other 58 61 (58 ∷ []) ts refl (front_seen ((marks "::") ts) (marks "<") f))
    (λ f. mark_other 60 61 [] ts refl (none_seen ((marks "<=") ts) (marks "<") ts f))
    (either_seen ((marks "::" then marks "<") ts) ((no (marks "<=") then marks "<") ts) e)

-- Ident = Type, or a type
abbrev pub bound_or_type : Gram
bound_or_type =
    when an_ident then marks "=" read ident ▸ sign "=" ▸ ref (AType WithPlus)
    else ref (AType WithPlus)

equals_seen : (x : Tree) (s : List Token) → Fits x (ident ▸ sign "=" ▸ ref (AType WithPlus))
    → sees (an_ident then marks "=") (flat x ++ s) ≡ true
equals_seen (Pair (AWord cs) (Pair (AMark c es spacing) y)) s f =
    subst (λ e. sees (an_ident then marks "=") (Ident cs ∷ (signs e es spacing ++ flat y) ++ s) ≡ true) (sym f.1.0.0)
    (subst (λ ks. sees (an_ident then marks "=") (Ident cs ∷ (signs 61 ks spacing ++ flat y) ++ s) ≡ true)
    (sym f.1.0.1) (simp f.0 refl))
equals_seen (Pair (AWord cs) (Pair _ y)) s f = absurd f.1.0
equals_seen (Pair (AWord cs) _) s f = absurd f.1
equals_seen (Pair _ y) s f = absurd f.0
equals_seen _ s f = absurd f

pub found_bound : Found bound_or_type (marks "=" ∷ kind_behind (AType WithPlus))
    (AnyWord is_ident ∷ starts (AType WithPlus))
unfolding skips
found_bound = record { fine = record { by = go } }
  where
    go : (x : Tree) (s : List Token) → Fits x bound_or_type → Ready x
        → LacksAll (marks "=" ∷ kind_behind (AType WithPlus)) s
        → Derives x bound_or_type s × At (AnyWord is_ident ∷ starts (AType WithPlus)) x s
    go (First x) s d w a =
        let (t, i) = (found_seq (found_word is_ident) (found_seq found_mark (found_ref (AType WithPlus) refl) tt)
        tt).fine.by x s d.1 w a.1 in
        ((equals_seen x s d.1, t), among_left (AnyWord is_ident ∷ []) (starts (AType WithPlus)) (flat x ++ s) i)
    go (Second x) s d w a =
        let (t, i) = (found_ref (AType WithPlus) refl).fine.by x s d.1 w a.1 in (
          (
            type_next (marks "=") (λ ts h. mark_other 58 61 (58 ∷ []) ts refl h) no_equals_angle no_equals_parens x s t
                a.0,
            t,
          ),
          among_right (AnyWord is_ident ∷ []) (starts (AType WithPlus)) (flat x ++ s) i,
        )
    go _ s d w a = absurd d

-- no : that begins no :: stands there
no_colon : (ts : List Token) → Lacks (marks ":") ts → Lacks colon ts
no_colon ts e = go (seen ((marks "::") ts))
  where
    go : (b : Bool) → seen (behind (cond b None (Some ts)) (marks ":")) ≡ false
    go true = refl
    go false = e

pub no_colon_colons : (ts : List Token) → sees (marks "::") ts ≡ true → Lacks colon ts
no_colon_colons ts e = ap (λ b. seen (behind (cond b None (Some ts)) (marks ":"))) e

pub no_colon_angle : (ts : List Token) → sees (arguments_stand AtType) ts ≡ true → Lacks colon ts
no_colon_angle ts e =
    ⊎_elim (λ f. no_colon_colons ts (front_seen ((marks "::") ts) (marks "<") f))
    (λ f. no_colon ts (mark_other 60 58 [] ts refl (none_seen ((marks "<=") ts) (marks "<") ts f)))
    (either_seen ((marks "::" then marks "<") ts) ((no (marks "<=") then marks "<") ts) e)

no_colon_parens : (ts : List Token) → sees parenthesis ts ≡ true → Lacks colon ts
no_colon_parens (Punct e spacing ∷ ts) h = cc h
no_colon_parens _ h = refl

abbrev pub is_underscore : List ℕ → Bool
is_underscore cs = same_text (codes "_") cs

infer_next : (x : Tree) (s : List Token) → Derives x (table InferType) s → Lacks colon s
    → Lacks (at "_" then colon) (flat x ++ s)
unfolding table
infer_next (AWord cs) s d a = past_word is_underscore colon cs s a
infer_next _ s d a = absurd d

-- behind a type _, and where another type stands
underscore_next : (x : Tree) (s : List Token) → Derives x (type_entry WithPlus) s → Lacks colon s
    → Lacks (at "_" then colon) (flat x ++ s)
unfolding table
underscore_next (First x) s d a =
    past_none is_underscore colon (flat x ++ s) (group_is_none is_underscore Parenthesis (flat x ++ s) d.0)
underscore_next (Second (First x)) s d a =
    past_none is_underscore colon (flat x ++ s) (mark_is_none is_underscore 33 [] (flat x ++ s) d.1.0)
underscore_next (Second (Second (First x))) s d a =
    past_none is_underscore colon (flat x ++ s) (mark_is_none is_underscore 38 [] (flat x ++ s) d.1.1.0)
underscore_next (Second (Second (Second (First x)))) s d a =
    past_none is_underscore colon (flat x ++ s) (mark_is_none is_underscore 42 [] (flat x ++ s) d.1.1.1.0)
underscore_next (Second (Second (Second (Second (First x))))) s d a =
    past_none is_underscore colon (flat x ++ s) (group_is_none is_underscore Bracket (flat x ++ s) d.1.1.1.1.0)
underscore_next (Second (Second (Second (Second (Second (First (Node k x))))))) s d a =
    infer_next x s (subst (λ j. Derives x (table j) s) d.1.1.1.1.1.1.0 d.1.1.1.1.1.1.1) a
underscore_next (Second (Second (Second (Second (Second (First x)))))) s d a = absurd d.1.1.1.1.1.1
underscore_next (Second (Second (Second (Second (Second (Second x)))))) s d a =
    past_none is_underscore colon (flat x ++ s) d.1.1.1.1.1.0
underscore_next (Second (Second (Second (Second (Second _))))) s d a = absurd d.1.1.1.1.1
underscore_next (Second (Second (Second (Second _)))) s d a = absurd d.1.1.1.1
underscore_next (Second (Second (Second _))) s d a = absurd d.1.1.1
underscore_next (Second (Second _)) s d a = absurd d.1.1
underscore_next (Second _) s d a = absurd d.1
underscore_next _ s d a = absurd d

-- (Ident or _) :, and a type
abbrev pub a_name_stands : Look
a_name_stands = (an_ident or at "_") then colon

abbrev pub a_name_read : Gram
a_name_read = (when at "_" read keyword "_" else ident) ▸ sign ":"

either_lacks : (o p : Option (List Token)) (l : Look) → seen (behind o l) ≡ false → seen (behind p l) ≡ false
    → seen (behind (first_seen o p) l) ≡ false
either_lacks (Some us) p l e f = e
either_lacks None p l e f = f

unnamed_type : (x : Tree) (s : List Token) → Derives x (ref (AType WithPlus)) s → Lacks colon s
    → Lacks a_name_stands (flat x ++ s)
unfolding table
unnamed_type (Node k y) s d a =
    either_lacks (an_ident (flat y ++ s)) ((at "_") (flat y ++ s)) colon
    (type_next colon no_colon_colons no_colon_angle no_colon_parens (Node k y) s d a)
    (underscore_next y s (subst (λ j. Derives y (table j) s) d.0 d.1) a)
unnamed_type _ s d a = absurd d

underscore_seen : (cs : List ℕ) (ts : List Token) → same_text (codes "_") cs ≡ true
    → sees a_name_stands (Ident cs ∷ Punct 58 Apart ∷ ts) ≡ true
underscore_seen cs ts f = go (is_ident cs)
  where
    go : (b : Bool) → seen (behind (first_seen (cond b (Some (Punct 58 Apart ∷ ts)) None)
        (cond (same_text (codes "_") cs) (Some (Punct 58 Apart ∷ ts)) None)) colon) ≡ true
    go true = refl
    go false = simp f refl

-- a word that is followed by a :
colon_at : (cs : List ℕ) (c : ℕ) (es : List ℕ) (spacing : Spacing) (ts : List Token) → c ≡ 58 → es ≡ []
    → Apart ≡ spacing → sees a_name_stands (Ident cs ∷ Punct 58 Apart ∷ ts) ≡ true
    → sees a_name_stands (Ident cs ∷ signs c es spacing ++ ts) ≡ true
colon_at cs c es spacing ts e f g h =
    subst (λ d. sees a_name_stands (Ident cs ∷ signs d es spacing ++ ts) ≡ true) (sym e)
    (subst (λ ks. sees a_name_stands (Ident cs ∷ signs 58 ks spacing ++ ts) ≡ true) (sym f)
    (subst (λ j. sees a_name_stands (Ident cs ∷ signs 58 [] j ++ ts) ≡ true) g h))

name_seen : (x : Tree) (ts : List Token) → Fits x a_name_read → sees a_name_stands (flat x ++ ts) ≡ true
name_seen (Pair (First (AWord cs)) (AMark c es spacing)) ts f =
    colon_at cs c es spacing ts f.1.0 f.1.1 f.1.2 (underscore_seen cs ts f.0.1)
name_seen (Pair (Second (AWord cs)) (AMark c es spacing)) ts f =
    colon_at cs c es spacing ts f.1.0 f.1.1 f.1.2 (simp f.0.1 refl)
name_seen (Pair (First (AWord cs)) _) ts f = absurd f.1
name_seen (Pair (First _) y) ts f = absurd f.0.1
name_seen (Pair (Second (AWord cs)) _) ts f = absurd f.1
name_seen (Pair (Second _) y) ts f = absurd f.0.1
name_seen (Pair _ y) ts f = absurd f.0
name_seen _ ts f = absurd f

abbrev pub named_type : Gram
named_type = optional a_name_stands a_name_read ▸ ref (AType WithPlus)

found_name_read : Found a_name_read [] (TheWord (codes "_") ∷ AnyWord is_ident ∷ [])
found_name_read =
    found_seq (found_alt (at "_") (found_text "_") (found_word is_ident) (λ us. refl, tt)
    (λ cs h us. simp (ident_not (codes "_") cs reserved_underscore h) refl, tt)) found_mark tt

pub found_named_type : Found named_type (colon ∷ kind_behind (AType WithPlus))
    (TheWord (codes "_") ∷ AnyWord is_ident ∷ starts (AType WithPlus))
unfolding skips
found_named_type = record { fine = record { by = go } }
  where
    go : (x : Tree) (s : List Token) → Fits x named_type → Ready x
        → LacksAll (colon ∷ kind_behind (AType WithPlus)) s
        → Derives x named_type s × At (TheWord (codes "_") ∷ AnyWord is_ident ∷ starts (AType WithPlus)) x s
    go (Pair (First x) y) s d w a =
        let (t, i) = (found_seq found_name_read (found_ref (AType WithPlus) refl) tt).fine.by (Pair x y) s
        (d.0.1, d.1) w a.1 in (
          ((name_seen x (flat y ++ s) d.0.1, t.0), t.1),
          among_left (TheWord (codes "_") ∷ AnyWord is_ident ∷ []) (starts (AType WithPlus))
              ((flat x ++ flat y) ++ s) i,
        )
    go (Pair (Second Nil) y) s d w a =
        let (t, i) = (found_ref (AType WithPlus) refl).fine.by y s d.1 w.1 a.1 in (
          ((unnamed_type y s t a.0, tt), t),
          among_right (TheWord (codes "_") ∷ AnyWord is_ident ∷ []) (starts (AType WithPlus)) (flat y ++ s) i,
        )
    go (Pair (Second _) y) s d w a = absurd d.0.1
    go (Pair _ y) s d w a = absurd d.0
    go _ s d w a = absurd d
