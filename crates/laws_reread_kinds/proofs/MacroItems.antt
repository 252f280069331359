-- Macros among items: their path begins with :: or a word that no mark stands behind where it begins another item.
use Rattle.std.proofs.Common.{◌≡◌, ℕ, List, [], ◌∷◌, ◌++◌, refl, sym, ap, ◌∙◌, subst, append_assoc, ⊎_elim, inl}
use Rattle.std.proofs.Common.{inr}
use Rattle.std.specs.Prelude.{Bool, true, false, ◌&&◌, ◌||◌, not, cond, codes, Option, Some, None}
use Rattle.std.proofs.lemmas.Bool.{false≢true}
use Prim.Native.String.{String}
use Rattle.proc_macro2.specs.Token.{Token, Ident, Punct}
use Rattle.proc_macro2.specs.declared.delimiter.Delimiter.TheVariants.{Parenthesis}
use Rattle.rust_leaf.specs.declared.punct.Spacing.{Spacing}
use Rattle.syn_grammar.specs.Kind.{Kind, InFile, InForeign, InModule, InTrait, ItemMacro, Path}
use Rattle.syn_grammar.specs.Kind.{Place as ItemPlace, Plain, Position, Segments}
use Rattle.syn_grammar.specs.Tree.{Tree, AMark, AWord, First, Nil, Node, Pair, Second, marks as signs, flat}
use Rattle.syn_grammar.specs.Words.{is_ident, is_string}
use Rattle.rust_leaf.specs.Keywords.{is_reserved, same_text}
use Rattle.syn_grammar.specs.Gram.{Gram}
use Rattle.syn_grammar.specs.Look.{Look, a_group, a_quoted, an_ident, behind, first_seen, maybe, no, seen, sees, ◌or◌}
use Rattle.syn_grammar.specs.Look.{◌then◌}
use Rattle.syn_grammar.specs.Say.{at, marks, optional, sign}
use Rattle.syn_grammar.specs.Items.{restricted_trait_stands, signature_stands, trait_stands}
use Rattle.syn_grammar.specs.Lists.{macro_stands}
use Rattle.syn_grammar.specs.Ranks.{skips}
use Rattle.syn_grammar.specs.Table.{table}
use Rattle.syn_grammar.specs.Derives.{Derives}
use Rattle.syn_grammar.specs.Kept.{held, kept}
use Rattle.syn_grammar.specs.Normal.{normal_in, passed}
use Rattle.laws_items.proofs.Places.{Place, none_then}
use Rattle.laws_reread_kinds.specs.Sees.{Lacks, LacksAll}
use Rattle.laws_reread_kinds.proofs.Begins.{Begins}
use Rattle.laws_reread_kinds.proofs.Choices.{both_true, first_of, none_of}
use Rattle.laws_reread_kinds.proofs.Classes.{AnyFront, AnyWord, Class, IsAmong, IsAt, Sign, TheWord, Then}
use Rattle.laws_reread_kinds.proofs.Fits.{Fits}
use Rattle.laws_reread_kinds.proofs.MacroPaths.{has_own_word, has_plain_path, is_own_word}
use Rattle.laws_reread_kinds.proofs.MacroPaths.{is_plain_path, may_be_default}
use Rattle.laws_reread_kinds.proofs.Parts.{told_at, unseen_all}
use Rattle.laws_reread_kinds.proofs.Sights.{ident_not}

-- a mark stands first
abbrev pub is_marked : List Token → Bool
is_marked (Punct c spacing ∷ ts) = true
is_marked _ = false

-- a word that begins the path of one, and what stands behind it: a mark, and ! behind default
abbrev pub macro_word : ItemPlace → List ℕ → List Token → Bool
macro_word p cs us = is_ident cs && (is_marked us && is_own_word p cs (sees (marks "!") us))

abbrev pub key_classes : List Class
key_classes = TheWord (codes "self") ∷ TheWord (codes "super") ∷ TheWord (codes "crate") ∷ Sign 58 (58 ∷ []) ∷ []

abbrev pub macro_classes : ItemPlace → List Class
macro_classes p = AnyFront (macro_word p) ∷ key_classes

-- what is known of such a word
abbrev pub IsFront : ItemPlace → List ℕ → List Token → Type 0
IsFront p cs us =
    (is_ident cs ≡ true) × (is_marked us ≡ true) × (is_own_word p cs (sees (marks "!") us) ≡ true)

pub front_is : (p : ItemPlace) (cs : List ℕ) (us : List Token) → macro_word p cs us ≡ true → IsFront p cs us
front_is p cs us e =
    let a = both_true (is_ident cs) (is_marked us && is_own_word p cs (sees (marks "!") us)) e in
    let b = both_true (is_marked us) (is_own_word p cs (sees (marks "!") us)) a.1 in
    (a.0, b.0, b.1)

is_front : (p : ItemPlace) (cs : List ℕ) (us : List Token) → IsFront p cs us → macro_word p cs us ≡ true
is_front p cs us h =
    ap (λ b. b && (is_marked us && is_own_word p cs (sees (marks "!") us))) h.0
    ∙ ap (λ b. b && is_own_word p cs (sees (marks "!") us)) h.1 ∙ h.2

-- what is looked for before a macro
abbrev form_looks : List Look
form_looks =
    signature_stands InFile ∷ (at "extern" then at "crate") ∷ at "extern" ∷ at "use" ∷ at "static"
    ∷ (at "const" then trait_stands) ∷ (at "const" then maybe (at "unsafe") then at "impl") ∷ at "const"
    ∷ (at "unsafe" then at "extern") ∷ (at "unsafe" then at "mod") ∷ (at "unsafe" then at "impl") ∷ at "unsafe"
    ∷ at "mod" ∷ at "type" ∷ at "struct" ∷ at "enum" ∷ (at "union" then an_ident) ∷ restricted_trait_stands
    ∷ (at "trait" or (at "auto" then at "trait")) ∷ (at "impl" or (at "default" then no (marks "!"))) ∷ at "macro"
    ∷ []

abbrev pub abi_fn : Look
abi_fn = maybe (at "extern" then maybe (a_quoted is_string)) then at "fn"

abbrev pub safe_fn : Look
safe_fn = maybe (at "unsafe") then abi_fn

abbrev pub async_fn : Look
async_fn = maybe (at "async") then safe_fn

pub maybe_none : (a l : Look) (ts : List Token) → Lacks a ts → Lacks l ts → Lacks (maybe a then l) ts
maybe_none a l ts e f = go (a ts) e
  where
    go : (o : Option (List Token)) → seen o ≡ false → seen (behind (first_seen o (Some ts)) l) ≡ false
    go None e = f
    go (Some us) e = cc e

pub a_word_lacked : (b : Bool) (us : List Token) → b ≡ false → seen (cond b (Some us) None) ≡ false
a_word_lacked b us e = ap (λ c. seen (cond c (Some us) None)) e

-- what is looked for before it in every place
abbrev pub place_looks : List Look
place_looks = signature_stands InFile ∷ at "const" ∷ at "type" ∷ []

ident_lacks : (cs : List ℕ) (us : List Token) → is_ident cs ≡ true → LacksAll place_looks (Ident cs ∷ us)
unfolding is_reserved
ident_lacks cs us e = (no_signature, (at_no "const" refl, (at_no "type" refl, tt)))
  where
    ts : List Token
    ts = Ident cs ∷ us

    at_no : (w : String) → is_reserved (codes w) ≡ true → Lacks (at w) ts
    at_no w r = a_word_lacked (same_text (codes w) cs) us (ident_not (codes w) cs r e)

    no_signature : Lacks (signature_stands InFile) ts
    no_signature = maybe_none (at "const") async_fn ts (at_no "const" refl)
        (maybe_none (at "async") safe_fn ts (at_no "async" refl)
        (maybe_none (at "unsafe") abi_fn ts (at_no "unsafe" refl)
        (maybe_none (at "extern" then maybe (a_quoted is_string)) (at "fn") ts
        (none_then (at "extern") (maybe (a_quoted is_string)) ts (at_no "extern" refl)) (at_no "fn" refl))))

-- behind a word that may be there
behind_lacked : (b : Bool) (l : Look) (us : List Token) → Lacks l us
    → seen (behind (cond b (Some us) None) l) ≡ false
behind_lacked true l us n = n
behind_lacked false l us n = refl

no_ident : (us : List Token) → is_marked us ≡ true → Lacks an_ident us
no_ident (Ident cs ∷ us) h = absurd (false≢true h)
no_ident _ h = refl

no_trait : (us : List Token) → is_marked us ≡ true → Lacks (at "trait") us
no_trait (Ident cs ∷ us) h = absurd (false≢true h)
no_trait _ h = refl

-- behind default stands ! , where it stands
default_bang : (p : ItemPlace) (cs : List ℕ) (b : Bool) → is_own_word p cs b ≡ true
    → (not (same_text (codes "default") cs) || may_be_default p b) ≡ true
default_bang p cs b e =
    (both_true (not (same_text (codes "Self") cs)) (not (same_text (codes "default") cs) || may_be_default p b) e).1

pub default_lacked : (p : ItemPlace) → ((b : Bool) → may_be_default p b ≡ true → b ≡ true) → (cs : List ℕ)
    (us : List Token) → is_own_word p cs (sees (marks "!") us) ≡ true
    → Lacks (at "default" then no (marks "!")) (Ident cs ∷ us)
default_lacked p n cs us e = go (same_text (codes "default") cs) (default_bang p cs (sees (marks "!") us) e)
  where
    go : (b : Bool) → (not b || may_be_default p (sees (marks "!") us)) ≡ true
        → seen (behind (cond b (Some us) None) (no (marks "!"))) ≡ false
    go false f = refl
    go true f = ap (λ c. seen (cond c None (Some us))) (n (sees (marks "!") us) f)

word_lacks : (cs : List ℕ) (us : List Token) → macro_word InFile cs us ≡ true → LacksAll form_looks (Ident cs ∷ us)
unfolding is_reserved
word_lacks cs us e = (
  (ident_lacks cs us h.0).0,
  (
    (none_then (at "extern") (at "crate") ts (at_no "extern" refl)),
    (
      (at_no "extern" refl),
      (
        (at_no "use" refl),
        (
          (at_no "static" refl),
          (
            (none_then (at "const") (trait_stands) ts (at_no "const" refl)),
            (
              (none_then (at "const") (maybe (at "unsafe") then at "impl") ts (at_no "const" refl)),
              (
                (at_no "const" refl),
                (
                  (none_then (at "unsafe") (at "extern") ts (at_no "unsafe" refl)),
                  (
                    (none_then (at "unsafe") (at "mod") ts (at_no "unsafe" refl)),
                    (
                      (none_then (at "unsafe") (at "impl") ts (at_no "unsafe" refl)),
                      (
                        (at_no "unsafe" refl),
                        (
                          (at_no "mod" refl),
                          (
                            (at_no "type" refl),
                            (
                              (at_no "struct" refl),
                              (
                                (at_no "enum" refl),
                                (
                                  (unseen "union" an_ident (no_ident us h.1)),
                                  (
                                    (none_then (at "impl") (a_group Parenthesis then
                                        (at "const" or at "unsafe" or at "auto" or at "trait")) ts
                                        (at_no "impl" refl)),
                                    (
                                      (none_of _ _ (at_no "trait" refl) (unseen "auto" (at "trait") (no_trait us h.1))),
                                      (
                                        (none_of _ _ (at_no "impl" refl) (default_lacked InFile (λ b f. f) cs us h.2)),
                                        ((at_no "macro" refl), tt),
                                      ),
                                    ),
                                  ),
                                ),
                              ),
                            ),
                          ),
                        ),
                      ),
                    ),
                  ),
                ),
              ),
            ),
          ),
        ),
      ),
    ),
  ),
)
  where
    ts : List Token
    ts = Ident cs ∷ us

    h : IsFront InFile cs us
    h = front_is InFile cs us e

    unseen : (w : String) (l : Look) → Lacks l us → Lacks (at w then l) ts
    unseen w l n = behind_lacked (same_text (codes w) cs) l us n

    at_no : (w : String) → is_reserved (codes w) ≡ true → Lacks (at w) ts
    at_no w r = a_word_lacked (same_text (codes w) cs) us (ident_not (codes w) cs r h.0)

keys_lack : (ts : List Token) → IsAmong key_classes ts → LacksAll form_looks ts
keys_lack ts i =
    unseen_all form_looks key_classes ts (
      (λ us. refl, (λ us. refl, (λ us. refl, (λ us. refl, tt)))),
      (
        (
          λ us. refl,
          (λ us. refl, (λ us. refl, (λ us. refl, tt))),
        ),
        (
          (λ us. refl, (λ us. refl, (λ us. refl, (λ us. refl, tt)))),
          (
            (λ us. refl, (λ us. refl, (λ us. refl, (λ us. refl, tt)))),
            (
              (λ us. refl, (λ us. refl, (λ us. refl, (λ us. refl, tt)))),
              (
                (λ us. refl, (λ us. refl, (λ us. refl, (λ us. refl, tt)))),
                (
                  (λ us. refl, (λ us. refl, (λ us. refl, (λ us. refl, tt)))),
                  (
                    (λ us. refl, (λ us. refl, (λ us. refl, (λ us. refl, tt)))),
                    (
                      (λ us. refl, (λ us. refl, (λ us. refl, (λ us. refl, tt)))),
                      (
                        (λ us. refl, (λ us. refl, (λ us. refl, (λ us. refl, tt)))),
                        (
                          (λ us. refl, (λ us. refl, (λ us. refl, (λ us. refl, tt)))),
                          (
                            (λ us. refl, (λ us. refl, (λ us. refl, (λ us. refl, tt)))),
                            (
                              (λ us. refl, (λ us. refl, (λ us. refl, (λ us. refl, tt)))),
                              (
                                (λ us. refl, (λ us. refl, (λ us. refl, (λ us. refl, tt)))),
                                (
                                  (λ us. refl, (λ us. refl, (λ us. refl, (λ us. refl, tt)))),
                                  (
                                    (λ us. refl, (λ us. refl, (λ us. refl, (λ us. refl, tt)))),
                                    (
                                      (λ us. refl, (λ us. refl, (λ us. refl, (λ us. refl, tt)))),
                                      (
                                        (λ us. refl, (λ us. refl, (λ us. refl, (λ us. refl, tt)))),
                                        (
                                          (λ us. refl, (λ us. refl, (λ us. refl, (λ us. refl, tt)))),
                                          (
                                            (λ us. refl, (λ us. refl, (λ us. refl, (λ us. refl, tt)))),
                                            ((λ us. refl, (λ us. refl, (λ us. refl, (λ us. refl, tt)))), tt),
                                          ),
                                        ),
                                      ),
                                    ),
                                  ),
                                ),
                              ),
                            ),
                          ),
                        ),
                      ),
                    ),
                  ),
                ),
              ),
            ),
          ),
        ),
      ),
    ) i

pub macro_lacks : (ts : List Token) → IsAmong (macro_classes InFile) ts → LacksAll form_looks ts
macro_lacks ts i =
    ⊎_elim (λ h. subst (LacksAll form_looks) (sym h.3) (word_lacks h.0 h.1 h.2)) (λ h. keys_lack ts h) i

pub place_lacks : (p : ItemPlace) (ts : List Token) → IsAmong (macro_classes p) ts → LacksAll place_looks ts
place_lacks p ts i =
    ⊎_elim (λ h. subst (LacksAll place_looks) (sym h.3) (ident_lacks h.0 h.1 (front_is p h.0 h.1 h.2).0))
    (λ h. let l = keys_lack ts h in (l.0, (l.1.1.1.1.1.1.1.0, (l.1.1.1.1.1.1.1.1.1.1.1.1.1.0, tt)))) i

pub macro_seen : (p : ItemPlace) (ts : List Token) → IsAmong (macro_classes p) ts → sees macro_stands ts ≡ true
unfolding is_reserved
macro_seen p ts i =
    told_at macro_stands true (macro_classes p) ts (
      λ cs us h. first_of _ _ (ap (λ b. seen (cond b (Some us) None)) (front_is p cs us h).0),
      (λ us. refl, (λ us. refl, (λ us. refl, (λ us. refl, tt)))),
    ) i

pub place_macro : (y : Tree) (r : List Token) → Derives y (table (ItemMacro InFile)) r
    → IsAmong (macro_classes InFile) (flat y ++ r) → Place (ItemMacro InFile) y r
place_macro y r d i =
    let l = macro_lacks (flat y ++ r) i in (
      Second (Second (Second (Second (Second (Second (Second (Second
          (Second (Second (Second (Second (Second (Second (Second (Second
          (Second (Second (Second (Second (Second (First (Node (ItemMacro InFile) y)))))))))))))))))))))),
      refl,
      (
        l.0,
        (
          l.1.0,
          (
            l.1.1.0,
            (
              l.1.1.1.0,
              (
                l.1.1.1.1.0,
                (
                  l.1.1.1.1.1.0,
                  (
                    l.1.1.1.1.1.1.0,
                    (
                      l.1.1.1.1.1.1.1.0,
                      (
                        l.1.1.1.1.1.1.1.1.0,
                        (
                          l.1.1.1.1.1.1.1.1.1.0,
                          (
                            l.1.1.1.1.1.1.1.1.1.1.0,
                            (
                              l.1.1.1.1.1.1.1.1.1.1.1.0,
                              (
                                l.1.1.1.1.1.1.1.1.1.1.1.1.0,
                                (
                                  l.1.1.1.1.1.1.1.1.1.1.1.1.1.0,
                                  (
                                    l.1.1.1.1.1.1.1.1.1.1.1.1.1.1.0,
                                    (
                                      l.1.1.1.1.1.1.1.1.1.1.1.1.1.1.1.0,
                                      (
                                        l.1.1.1.1.1.1.1.1.1.1.1.1.1.1.1.1.0,
                                        (
                                          l.1.1.1.1.1.1.1.1.1.1.1.1.1.1.1.1.1.0,
                                          (
                                            l.1.1.1.1.1.1.1.1.1.1.1.1.1.1.1.1.1.1.0,
                                            (
                                              l.1.1.1.1.1.1.1.1.1.1.1.1.1.1.1.1.1.1.1.0,
                                              (
                                                l.1.1.1.1.1.1.1.1.1.1.1.1.1.1.1.1.1.1.1.1.0,
                                                (
                                                  macro_seen InFile (flat y ++ r) i,
                                                  (refl, d),
                                                ),
                                              ),
                                            ),
                                          ),
                                        ),
                                      ),
                                    ),
                                  ),
                                ),
                              ),
                            ),
                          ),
                        ),
                      ),
                    ),
                  ),
                ),
              ),
            ),
          ),
        ),
      ),
    )

-- what its tokens begin with
abbrev next : List Token → List Token
next (t ∷ ts) = ts
next [] = []

abbrev text_of : List Token → List ℕ
text_of (Ident cs ∷ ts) = cs
text_of _ = []

abbrev is_word : List Token → Bool
is_word (Ident cs ∷ ts) = true
is_word _ = false

no_word : (c : ℕ) (cs : List ℕ) (spacing : Spacing) (us : List Token) → is_word (signs c cs spacing ++ us) ≡ false
no_word c [] spacing us = refl
no_word c (d ∷ ds) spacing us = refl

sign_seen : (m : Tree) (r : List Token) → Derives m (sign "!") r → sees (marks "!") (flat m ++ r) ≡ true
sign_seen (AMark c cs spacing) r d =
    subst (λ e. sees (marks "!") (signs e cs spacing ++ r) ≡ true) (sym d.0)
    (subst (λ es. sees (marks "!") (signs 33 es spacing ++ r) ≡ true) (sym d.1) refl)
sign_seen _ r d = absurd d

bang_marked : (ts : List Token) → sees (marks "!") ts ≡ true → is_marked ts ≡ true
bang_marked (Punct c spacing ∷ ts) e = refl
bang_marked _ e = cc e

colons_marked : (ts : List Token) → sees (marks "::") ts ≡ true → is_marked ts ≡ true
colons_marked (Punct c spacing ∷ ts) e = refl
colons_marked _ e = cc e

more_marked : (y : Tree) (g : Gram) (r : List Token) → Derives y (optional (marks "::") g) r → is_marked r ≡ true
    → is_marked (flat y ++ r) ≡ true
more_marked (First y) g r d h = colons_marked (flat y ++ r) d.0
more_marked (Second Nil) g r d h = h
more_marked (Second _) g r d h = absurd d.1
more_marked _ g r d h = absurd d

-- more is said of a path whose first word is all of it
may_more : (p : ItemPlace) (b : Bool) → may_be_default p false ≡ true → may_be_default p b ≡ true
may_more InForeign b e = e
may_more p b e = absurd (false≢true e)

own_more : (p : ItemPlace) (cs : List ℕ) (b : Bool) → is_own_word p cs false ≡ true → is_own_word p cs b ≡ true
own_more p cs b e =
    let h = both_true (not (same_text (codes "Self") cs))
    (not (same_text (codes "default") cs) || may_be_default p false) e in
    ap (λ c. c && (not (same_text (codes "default") cs) || may_be_default p b)) h.0
    ∙ go (not (same_text (codes "default") cs)) h.1
  where
    go : (c : Bool) → (c || may_be_default p false) ≡ true → (c || may_be_default p b) ≡ true
    go true f = refl
    go false f = may_more p b f

-- Behind the first word stands a mark; and what is known of the path is known of what stands there.
abbrev IsBehind : ItemPlace → List ℕ → List Token → Type 0
IsBehind p cs us = (is_marked us ≡ true) × (is_own_word p cs (sees (marks "!") us) ≡ true)

behind_is : (p : ItemPlace) (ds cs : List ℕ) (vs us : List Token) → Ident ds ∷ vs ≡ Ident cs ∷ us → IsBehind p ds vs
    → IsBehind p cs us
behind_is p ds cs vs us e h =
    subst (λ ws. IsBehind p cs ws) (ap next e) (subst (λ es. IsBehind p es vs) (ap text_of e) h)

segments_behind : (p : ItemPlace) (w : Tree) (r : List Token) (cs : List ℕ) (us : List Token)
    → Derives w (table (Segments InModule)) r → flat w ++ r ≡ Ident cs ∷ us → sees (marks "!") r ≡ true
    → has_own_word p w ≡ true → IsBehind p cs us
unfolding table
segments_behind p (First (Pair (AWord ds) y)) r cs us d e b h =
    behind_is p ds cs (flat y ++ r) us e
    (more_marked y _ r d.1.1 (bang_marked r b), own_more p ds (sees (marks "!") (flat y ++ r)) h)
segments_behind p (First (Pair _ y)) r cs us d e b h = absurd d.1.0
segments_behind p (First _) r cs us d e b h = absurd d.1
segments_behind p (Second (Pair (AWord ds) (First y))) r cs us d e b h = absurd (false≢true d.1.1.0)
segments_behind p (Second (Pair (AWord ds) (Second (First y)))) r cs us d e b h =
    behind_is p ds cs (flat y ++ r) us e
    (colons_marked (flat y ++ r) d.1.1.1.0, own_more p ds (sees (marks "!") (flat y ++ r)) h)
segments_behind p (Second (Pair (AWord ds) (Second (Second (First y))))) r cs us d e b h = absurd
    (false≢true d.1.1.1.1.0)
segments_behind p (Second (Pair (AWord ds) (Second (Second (Second Nil))))) r cs us d e b h =
    behind_is p ds cs r us e (bang_marked r b, ap (is_own_word p ds) b ∙ h)
segments_behind p (Second (Pair (AWord ds) (Second (Second (Second _))))) r cs us d e b h = absurd d.1.1.1.1.1
segments_behind p (Second (Pair (AWord ds) (Second (Second _)))) r cs us d e b h = absurd d.1.1.1.1
segments_behind p (Second (Pair (AWord ds) (Second _))) r cs us d e b h = absurd d.1.1.1
segments_behind p (Second (Pair (AWord ds) _)) r cs us d e b h = absurd d.1.1
segments_behind p (Second (Pair _ y)) r cs us d e b h = absurd d.1.0
segments_behind p (Second _) r cs us d e b h = absurd d.1
segments_behind p _ r cs us d e b h = absurd d

path_behind : (p : ItemPlace) (x : Tree) (r : List Token) (cs : List ℕ) (us : List Token)
    → Derives x (table (Path InModule)) r → flat x ++ r ≡ Ident cs ∷ us → sees (marks "!") r ≡ true
    → is_plain_path p x ≡ true → IsBehind p cs us
unfolding table
path_behind p (Pair (First (AMark c ds spacing)) y) r cs us d e b h =
    absurd (false≢true (sym (no_word c ds spacing (flat y ++ r))
    ∙ ap is_word (sym (append_assoc (signs c ds spacing) (flat y) r) ∙ e)))
path_behind p (Pair (First _) y) r cs us d e b h = absurd d.0.1
path_behind p (Pair (Second Nil) (Node l w)) r cs us d e b h =
    segments_behind p w r cs us (subst (λ j. Derives w (table j) r) d.1.0 d.1.1) e b h
path_behind p (Pair (Second Nil) _) r cs us d e b h = absurd d.1
path_behind p (Pair (Second _) y) r cs us d e b h = absurd d.0.1
path_behind p (Pair _ y) r cs us d e b h = absurd d.0
path_behind p _ r cs us d e b h = absurd d

macro_behind : (p : ItemPlace) (y : Tree) (s : List Token) (cs : List ℕ) (us : List Token)
    → Derives y (table (ItemMacro p)) s → flat y ++ s ≡ Ident cs ∷ us → has_plain_path p y ≡ true → IsBehind p cs us
unfolding table
macro_behind p (Pair (Node k x) (Pair m z)) s cs us d e h =
    path_behind p x (flat (Pair m z) ++ s) cs us
    (subst (λ j. Derives x (table j) (flat (Pair m z) ++ s)) d.0.0 d.0.1)
    (sym (append_assoc (flat x) (flat (Pair m z)) s) ∙ e)
    (ap (sees (marks "!")) (append_assoc (flat m) (flat z) s) ∙ sign_seen m (flat z ++ s) d.1.0) h
macro_behind p (Pair (Node k x) _) s cs us d e h = absurd d.1
macro_behind p (Pair _ z) s cs us d e h = absurd d.0
macro_behind p _ s cs us d e h = absurd d

-- of all that a macro's tokens begin with
pub macro_front : (p : ItemPlace) (y : Tree) (s : List Token) → Derives y (table (ItemMacro p)) s
    → Begins (ItemMacro InFile) (Node (ItemMacro InFile) y) s → has_plain_path p y ≡ true
    → IsAmong (macro_classes p) (flat y ++ s)
unfolding skips
macro_front p y s d i h =
    ⊎_elim (colons (TheWord (codes "self"))) (⊎_elim (colons (TheWord (codes "super")))
    (⊎_elim (colons (TheWord (codes "crate"))) (⊎_elim (colons (AnyWord is_ident))
    (⊎_elim (colons (TheWord (codes "Self")))
    (⊎_elim (λ j. inr (inl j)) (⊎_elim (λ j. inr (inr (inl j))) (⊎_elim (λ j. inr (inr (inr (inl j))))
    (⊎_elim (λ j. inl (word j.0 j.1 j.2 j.3))
    (⊎_elim (λ j. absurd (false≢true (macro_behind p y s (codes "Self") j.0 d j.1 h).1))
    (λ j. absurd j)))))))))) i
  where
    colons : (c : Class) → IsAt (Then 58 (58 ∷ []) c) (flat y ++ s) → IsAmong (macro_classes p) (flat y ++ s)
    colons c j = inr (inr (inr (inr (inl (j.0, j.1)))))

    word : (cs : List ℕ) (us : List Token) → is_ident cs ≡ true → flat y ++ s ≡ Ident cs ∷ us
        → IsAt (AnyFront (macro_word p)) (flat y ++ s)
    word cs us e f =
        let b = macro_behind p y s cs us d f h in
        (cs, us, is_front p cs us (e, b.0, b.1), f)

-- normal form keeps its path's first word
word_kept : (p : ItemPlace) (w : Tree) (r : List Token) (q : Position) → Derives w (table (Segments InModule)) r
    → has_own_word p (normal_in q (kept w)) ≡ has_own_word p w
unfolding table
word_kept p (First (Pair (AWord cs) y)) r q d = refl
word_kept p (First (Pair _ y)) r q d = absurd d.1.0
word_kept p (First _) r q d = absurd d.1
word_kept p (Second (Pair (AWord cs) (First y))) r q d = refl
word_kept p (Second (Pair (AWord cs) (Second (First y)))) r q d = refl
word_kept p (Second (Pair (AWord cs) (Second (Second y)))) r q d = refl
word_kept p (Second (Pair (AWord cs) (Second _))) r q d = absurd d.1.1.1
word_kept p (Second (Pair (AWord cs) _)) r q d = absurd d.1.1
word_kept p (Second (Pair _ y)) r q d = absurd d.1.0
word_kept p (Second _) r q d = absurd d.1
word_kept p _ r q d = absurd d

word_fits : (p : ItemPlace) (w : Tree) → Fits w (table (Segments InModule)) → has_own_word p (kept w) ≡ has_own_word p w
unfolding table
word_fits p (First (Pair (AWord cs) y)) f = refl
word_fits p (First (Pair _ y)) f = absurd f.1.0
word_fits p (First _) f = absurd f.1
word_fits p (Second (Pair (AWord cs) (First y))) f = refl
word_fits p (Second (Pair (AWord cs) (Second (First y)))) f = refl
word_fits p (Second (Pair (AWord cs) (Second (Second y)))) f = refl
word_fits p (Second (Pair (AWord cs) (Second _))) f = absurd f.1.1.1
word_fits p (Second (Pair (AWord cs) _)) f = absurd f.1.1
word_fits p (Second (Pair _ y)) f = absurd f.1.0
word_fits p (Second _) f = absurd f.1
word_fits p _ f = absurd f

path_kept : (p : ItemPlace) (x : Tree) (r : List Token) (q : Position) → Derives x (table (Path InModule)) r
    → is_plain_path p (normal_in q (kept x)) ≡ is_plain_path p x
unfolding table held passed
path_kept p (Pair (First c) y) r q d = refl
path_kept p (Pair (Second Nil) (Node l w)) r q d =
    subst (λ j. is_plain_path p (normal_in q (kept (Pair (Second Nil) (Node j w)))) ≡ has_own_word p w)
    (sym d.1.0) (word_kept p w r Plain (subst (λ j. Derives w (table j) r) d.1.0 d.1.1))
path_kept p (Pair (Second Nil) _) r q d = absurd d.1
path_kept p (Pair (Second _) y) r q d = absurd d.0.1
path_kept p (Pair _ y) r q d = absurd d.0
path_kept p _ r q d = absurd d

path_fits : (p : ItemPlace) (x : Tree) → Fits x (table (Path InModule)) → is_plain_path p (kept x) ≡ is_plain_path p x
unfolding table held
path_fits p (Pair (First c) y) f = refl
path_fits p (Pair (Second Nil) (Node l w)) f =
    subst (λ j. is_plain_path p (kept (Pair (Second Nil) (Node j w))) ≡ has_own_word p w)
    (sym f.1.0) (word_fits p w (subst (λ j. Fits w (table j)) f.1.0 f.1.3))
path_fits p (Pair (Second Nil) _) f = absurd f.1
path_fits p (Pair (Second _) y) f = absurd f.0.1
path_fits p (Pair _ y) f = absurd f.0
path_fits p _ f = absurd f

pub plain_same : (p : ItemPlace) (y v : Tree) (r : List Token) → Derives y (table (ItemMacro p)) r
    → Fits v (table (ItemMacro p)) → kept v ≡ normal_in Plain (kept y) → has_plain_path p v ≡ has_plain_path p y
unfolding table held passed
plain_same p (Pair (Node k x) z) (Pair (Node l w) u) r d f e =
    sym (fitting l f.0.0) ∙ ap (has_plain_path p) e ∙ reading k d.0.0
  where
    fitting : (j : Kind) → j ≡ Path InModule → has_plain_path p (kept (Pair (Node j w) u)) ≡ is_plain_path p w
    fitting j h =
        subst (λ i. has_plain_path p (kept (Pair (Node i w) u)) ≡ is_plain_path p w) (sym h)
        (path_fits p w (subst (λ i. Fits w (table i)) f.0.0 f.0.3))

    reading : (j : Kind) → j ≡ Path InModule
        → has_plain_path p (normal_in Plain (kept (Pair (Node j x) z))) ≡ is_plain_path p x
    reading j h =
        subst (λ i. has_plain_path p (normal_in Plain (kept (Pair (Node i x) z))) ≡ is_plain_path p x) (sym h)
        (path_kept p x (flat z ++ r) Plain (subst (λ i. Derives x (table i) (flat z ++ r)) d.0.0 d.0.1))
plain_same p (Pair (Node k x) z) (Pair _ u) r d f e = absurd f.0
plain_same p (Pair (Node k x) z) _ r d f e = absurd f
plain_same p (Pair _ z) v r d f e = absurd d.0
plain_same p _ v r d f e = absurd d

-- in a trait none begins with default
pub no_default : (cs : List ℕ) (us : List Token) → macro_word InTrait cs us ≡ true
    → Lacks (at "default") (Ident cs ∷ us)
no_default cs us e =
    go (same_text (codes "default") cs) (default_bang InTrait cs (sees (marks "!") us) (front_is InTrait cs us e).2)
  where
    go : (b : Bool) → (not b || false) ≡ true → seen (cond b (Some us) None) ≡ false
    go false f = refl
    go true f = cc f

-- as they are listed
abbrev pub listed_classes : List Class
listed_classes = AnyWord is_ident ∷ key_classes

pub macro_listed : (p : ItemPlace) (ts : List Token) → IsAmong (macro_classes p) ts → IsAmong listed_classes ts
macro_listed p ts i = ⊎_elim (λ h. inl (h.0, h.1, (front_is p h.0 h.1 h.2).0, h.3)) (λ h. inr h) i

pub with_listed : (p : ItemPlace) (cs : List Class) (ts : List Token) → IsAmong (cs ++ macro_classes p) ts
    → IsAmong (cs ++ listed_classes) ts
with_listed p [] ts i = macro_listed p ts i
with_listed p (c ∷ cs) ts i = ⊎_elim (λ j. inl j) (λ j. inr (with_listed p cs ts j)) i
