-- Items of one kind, read by themselves and among others: an item's form stands where its first words call for it.
use Rattle.std.proofs.Common.{◌≡◌, ℕ, List, [], ◌∷◌, ◌++◌, refl, sym, ap, ◌∙◌, subst, append_assoc}
use Rattle.std.specs.Prelude.{Bool, true, false, cond, codes, Option, Some, None}
use Prim.Native.String.{String}
use Rattle.std.proofs.lemmas.Slice.Eq.{bytes_eq-Decides}
use Rattle.proc_macro2.specs.Token.{Token, Ident, Literal}
use Rattle.syn_grammar.specs.Kind.{Kind, InFile, AStruct, AnEnum, AUnion, AStatic, AConst, AnExternCrate}
use Rattle.syn_grammar.specs.Kind.{AForeignModule, AUse, AModule, ATrait, AFunction, ATypeAlias}
use Rattle.rust_leaf.specs.Keywords.{same_text}
use Rattle.syn_grammar.specs.Table.{table}
use Rattle.syn_grammar.specs.Tree.{Tree, AWord, ALiteral, AMark, Nil, Pair, First, Second, Group, Called, Node, flat}
use Rattle.syn_grammar.specs.Part.{choice}
use Rattle.syn_grammar.specs.Lists.{item_form}
use Rattle.syn_grammar.specs.Derives.{Derives}
use Rattle.rust_leaf.specs.declared.punct.Spacing.{Spacing}
use Rattle.syn_grammar.specs.Kind.{Generics, Abi, Signature}
use Rattle.syn_grammar.specs.Words.{is_ident, is_string}
use Rattle.rust_leaf.specs.Keywords.{is_reserved}
use Rattle.syn_grammar.specs.Tree.{AMark, Verbatim, marks}
use Rattle.syn_grammar.specs.Look.{Look, seen, sees, behind, first_seen, ◌then◌}
use Rattle.syn_grammar.specs.Look.{maybe, a_word, a_quoted}
use Rattle.syn_grammar.specs.Gram.{AsRaw}
use Rattle.syn_grammar.specs.Types.{kept_if}
use Rattle.syn_grammar.specs.Items.{is_trait, trait_stands, signature_stands}
use Rattle.syn_grammar.specs.Say.{at, keyword}
use Rattle.syn_grammar.specs.Gram.{alt, called, literal, word, nothing, ref}
use Rattle.syn_grammar.specs.Name.{Part, the_safety, the_auto}
use Rattle.proc_macro2.specs.declared.delimiter.Delimiter.{Delimiter}

-- a form of a kind stands among the alternatives of an item
abbrev pub Place : Kind → Tree → List Token → Type 0
Place k x r = (y : Tree) × (choice y ≡ Node k x) × Derives y item_form r

-- so many alternatives stand before it
abbrev pub two_more : Tree → Tree
two_more x = Second (Second x)

abbrev pub four : Tree → Tree
four x = two_more (two_more x)

abbrev pub eight : Tree → Tree
eight x = four (four x)

pub word_is : (w : String) (cs : List ℕ) → same_text (codes w) cs ≡ true → codes w ≡ cs
word_is w cs e = (bytes_eq-Decides (codes w) cs).0 e

pub place_use : (x : Tree) (r : List Token) → Derives x (table AUse) r → Place AUse x r
unfolding table
place_use (Pair (AWord cs) z) r d =
    subst (λ ds. Derives (Pair (AWord ds) z) (table AUse) r → Place AUse (Pair (AWord ds) z) r)
    (word_is "use" cs d.0) (λ e. (
      two_more (Second (First (Node AUse (Pair (AWord (codes "use")) z)))),
      refl,
      (refl, (refl, (refl, (refl, (refl, e))))),
    )) d
place_use (Pair _ z) r d = absurd d.0
place_use _ r d = absurd d

pub place_static : (x : Tree) (r : List Token) → Derives x (table AStatic) r → Place AStatic x r
unfolding table
place_static (Pair (AWord cs) z) r d =
    subst (λ ds. Derives (Pair (AWord ds) z) (table AStatic) r → Place AStatic (Pair (AWord ds) z) r)
    (word_is "static" cs d.0) (λ e. (
      four (First (Node AStatic (Pair (AWord (codes "static")) z))),
      refl,
      (refl, (refl, (refl, (refl, (refl, (refl, e)))))),
    )) d
place_static (Pair _ z) r d = absurd d.0
place_static _ r d = absurd d

pub place_alias : (x : Tree) (r : List Token) → Derives x (table (ATypeAlias InFile)) r → Place (ATypeAlias InFile) x r
unfolding table
place_alias (Pair (AWord cs) z) r d =
    subst (λ ds. Derives (Pair (AWord ds) z) (table (ATypeAlias InFile)) r → Place (ATypeAlias InFile) (Pair (AWord
    ds) z) r)
    (word_is "type" cs d.0) (λ e. (
      eight (four (Second (First (Node (ATypeAlias InFile) (Pair (AWord (codes "type"))
          z))))),
      refl,
      (
        refl,
        (
          refl,
          (
            refl,
            (
              refl,
              (
                refl,
                (
                  refl,
                  (
                    refl,
                    (
                      refl,
                      (
                        refl,
                        (
                          refl,
                          (
                            refl,
                            (
                              refl,
                              (
                                refl,
                                (
                                  refl,
                                  (
                                    refl,
                                    e,
                                  ),
                                ),
                              ),
                            ),
                          ),
                        ),
                      ),
                    ),
                  ),
                ),
              ),
            ),
          ),
        ),
      ),
    )) d
place_alias (Pair _ z) r d = absurd d.0
place_alias _ r d = absurd d

pub place_struct : (x : Tree) (r : List Token) → Derives x (table AStruct) r → Place AStruct x r
unfolding table
place_struct (Pair (AWord cs) z) r d =
    subst (λ ds. Derives (Pair (AWord ds) z) (table AStruct) r → Place AStruct (Pair (AWord ds) z) r)
    (word_is "struct" cs d.0) (λ e. (
      eight (four (two_more (First (Node AStruct (Pair (AWord (codes "struct"))
          z))))),
      refl,
      (
        refl,
        (
          refl,
          (
            refl,
            (
              refl,
              (
                refl,
                (
                  refl,
                  (
                    refl,
                    (
                      refl,
                      (
                        refl,
                        (
                          refl,
                          (
                            refl,
                            (
                              refl,
                              (
                                refl,
                                (
                                  refl,
                                  (
                                    refl,
                                    (
                                      refl,
                                      e,
                                    ),
                                  ),
                                ),
                              ),
                            ),
                          ),
                        ),
                      ),
                    ),
                  ),
                ),
              ),
            ),
          ),
        ),
      ),
    )) d
place_struct (Pair _ z) r d = absurd d.0
place_struct _ r d = absurd d

pub place_enum : (x : Tree) (r : List Token) → Derives x (table AnEnum) r → Place AnEnum x r
unfolding table
place_enum (Pair (AWord cs) z) r d =
    subst (λ ds. Derives (Pair (AWord ds) z) (table AnEnum) r → Place AnEnum (Pair (AWord ds) z) r)
    (word_is "enum" cs d.0) (λ e. (
      eight (four (two_more (Second (First (Node AnEnum (Pair (AWord (codes "enum"))
          z)))))),
      refl,
      (
        refl,
        (
          refl,
          (
            refl,
            (
              refl,
              (
                refl,
                (
                  refl,
                  (
                    refl,
                    (
                      refl,
                      (
                        refl,
                        (
                          refl,
                          (
                            refl,
                            (
                              refl,
                              (
                                refl,
                                (
                                  refl,
                                  (
                                    refl,
                                    (
                                      refl,
                                      (refl, e),
                                    ),
                                  ),
                                ),
                              ),
                            ),
                          ),
                        ),
                      ),
                    ),
                  ),
                ),
              ),
            ),
          ),
        ),
      ),
    )) d
place_enum (Pair _ z) r d = absurd d.0
place_enum _ r d = absurd d

-- a keyword by its name that may be missing
pub data Opt (n : Part) (w : String) : Tree → Type 0 where
  there : Opt n w (First (Called n (AWord (codes w))))
  missing : Opt n w (Second Nil)

pub opt_of : (n : Part) (w : String) (t : List Token → Bool) (x : Tree) (r : List Token)
    → Derives x (alt t (called n (keyword w)) nothing) r → Opt n w x
opt_of n w t (First (Called m (AWord cs))) r d =
    subst (λ k. Opt n w (First (Called k (AWord cs)))) (sym d.1.0)
    (subst (λ bs. Opt n w (First (Called n (AWord bs)))) (word_is w cs d.1.1) there)
opt_of n w t (First (Called m _)) r d = absurd d.1.1
opt_of n w t (First _) r d = absurd d.1
opt_of n w t (Second Nil) r d = missing
opt_of n w t (Second _) r d = absurd d.1
opt_of n w t _ r d = absurd d

-- what holds at words holds at their texts
two : (A : List ℕ → List ℕ → Type 0) (v w : String) (cs ds : List ℕ) → codes v ≡ cs → codes w ≡ ds
    → A (codes v) (codes w) → A cs ds
two A v w cs ds e f a = subst (λ bs. A bs ds) e (subst (λ bs. A (codes v) bs) f a)

pub place_crate : (x : Tree) (r : List Token) → Derives x (table AnExternCrate) r → Place AnExternCrate x r
unfolding table
place_crate (Pair (AWord cs) (Pair (AWord ds) z)) r d =
    two (λ vs bs. Derives (Pair (AWord vs) (Pair (AWord bs) z)) (table AnExternCrate) r
    → Place AnExternCrate (Pair (AWord vs) (Pair (AWord bs) z)) r) "extern" "crate" cs ds
    (word_is "extern" cs d.0) (word_is "crate" ds d.1.0) (λ e. (
      Second (First (Node AnExternCrate (Pair (AWord (codes
          "extern")) (Pair (AWord (codes "crate")) z)))),
      refl,
      (refl, (refl, (refl, e))),
    )) d
place_crate (Pair (AWord cs) (Pair _ z)) r d = absurd d.1.0
place_crate (Pair (AWord cs) _) r d = absurd d.1
place_crate (Pair _ z) r d = absurd d.0
place_crate _ r d = absurd d

module_at : (s : Tree) (z : Tree) (r : List Token) → Opt the_safety "unsafe" s
    → Derives (Pair s (Pair (AWord (codes "mod")) z)) (table AModule) r
    → Place AModule (Pair s (Pair (AWord (codes "mod")) z)) r
module_at s z r there d = (
  eight (Second (First (Node AModule (Pair (First (Called the_safety (AWord (codes
      "unsafe")))) (Pair (AWord (codes "mod")) z))))),
  refl,
  (refl, (refl, (refl, (refl, (refl, (refl, (refl, (refl, (refl, (refl, (refl, d))))))))))),
)
module_at s z r missing d = (
  eight (four (First (Node AModule (Pair (Second Nil) (Pair (AWord (codes "mod")) z))))),
  refl,
  (refl, (refl, (refl, (refl, (refl, (refl, (refl, (refl, (refl, (refl, (refl, (refl, (refl, (refl, d)))))))))))))),
)

pub place_module : (x : Tree) (r : List Token) → Derives x (table AModule) r → Place AModule x r
unfolding table
place_module (Pair s (Pair (AWord ds) z)) r d =
    subst (λ bs. Derives (Pair s (Pair (AWord bs) z)) (table AModule) r
    → Place AModule (Pair s (Pair (AWord bs) z)) r)
    (word_is "mod" ds d.1.0) (λ e. module_at s z r (opt_of the_safety "unsafe" _ s _ d.0) e) d
place_module (Pair s (Pair _ z)) r d = absurd d.1.0
place_module (Pair s _) r d = absurd d.1
place_module _ r d = absurd d

seen_if : (b : Bool) (ts : List Token) → b ≡ true → seen (cond b (Some ts) None) ≡ true
seen_if true ts e = refl
seen_if false ts e = cc

pub place_union : (x : Tree) (r : List Token) → Derives x (table AUnion) r → Place AUnion x r
unfolding table
place_union (Pair (AWord cs) (Pair (Called n (AWord is)) z)) r d =
    subst (λ bs. Derives (Pair (AWord bs) (Pair (Called n (AWord is)) z)) (table AUnion) r
    → Place AUnion (Pair (AWord bs) (Pair (Called n (AWord is)) z)) r)
    (word_is "union" cs d.0) (λ e. (
      eight (eight (First (Node AUnion (Pair (AWord (codes "union")) (Pair (Called n
          (AWord is)) z))))),
      refl,
      (
        refl,
        (
          refl,
          (
            refl,
            (
              refl,
              (
                refl,
                (
                  refl,
                  (
                    refl,
                    (
                      refl,
                      (
                        refl,
                        (
                          refl,
                          (
                            refl,
                            (
                              refl,
                              (
                                refl,
                                (
                                  refl,
                                  (
                                    refl,
                                    (
                                      refl,
                                      (seen_if (is_ident is) _ e.1.0.1, (refl, e)),
                                    ),
                                  ),
                                ),
                              ),
                            ),
                          ),
                        ),
                      ),
                    ),
                  ),
                ),
              ),
            ),
          ),
        ),
      ),
    )) d
place_union (Pair (AWord cs) (Pair (Called n _) z)) r d = absurd d.1.0.1
place_union (Pair (AWord cs) (Pair _ z)) r d = absurd d.1.0
place_union (Pair (AWord cs) _) r d = absurd d.1
place_union (Pair _ z) r d = absurd d.0
place_union _ r d = absurd d

pub kept_raw : (b : Bool) → kept_if b ≡ AsRaw → ⊥
kept_raw true e = cc
kept_raw false e = cc

trait_at : (s a z : Tree) (r : List Token) → Opt the_safety "unsafe" s → Opt the_auto "auto" a
    → Derives (First (Pair s (Pair a (Pair (AWord (codes "trait")) z)))) (table ATrait) r
    → Place ATrait (First (Pair s (Pair a (Pair (AWord (codes "trait")) z)))) r
trait_at s a z r there there d = (
  eight (two_more (Second (First (Node ATrait (First (Pair (First (Called the_safety
      (AWord (codes "unsafe")))) (Pair (First (Called the_auto (AWord (codes "auto")))) (Pair (AWord (codes "trait"))
      z)))))))),
  refl,
  (refl, (refl, (refl, (refl, (refl, (refl, (refl, (refl, (refl, (refl, (refl, (refl, (refl, d))))))))))))),
)
trait_at s a z r there missing d = (
  eight (two_more (Second (First (Node ATrait (First (Pair (First (Called
      the_safety (AWord (codes "unsafe")))) (Pair (Second Nil) (Pair (AWord (codes "trait")) z)))))))),
  refl,
  (refl, (refl, (refl, (refl, (refl, (refl, (refl, (refl, (refl, (refl, (refl, (refl, (refl, d))))))))))))),
)
trait_at s a z r missing there d = (
  eight (eight (two_more (First (Node ATrait (First (Pair (Second Nil) (Pair (First
      (Called the_auto (AWord (codes "auto")))) (Pair (AWord (codes "trait")) z)))))))),
  refl,
  (
    refl,
    (
      refl,
      (
        refl,
        (
          refl,
          (
            refl,
            (
              refl,
              (
                refl,
                (
                  refl,
                  (
                    refl,
                    (
                      refl,
                      (
                        refl,
                        (
                          refl,
                          (
                            refl,
                            (
                              refl,
                              (
                                refl,
                                (
                                  refl,
                                  (refl, (refl, (refl, (refl, d)))),
                                ),
                              ),
                            ),
                          ),
                        ),
                      ),
                    ),
                  ),
                ),
              ),
            ),
          ),
        ),
      ),
    ),
  ),
)
trait_at s a z r missing missing d = (
  eight (eight (two_more (First (Node ATrait (First (Pair (Second Nil) (Pair
      (Second Nil) (Pair (AWord (codes "trait")) z)))))))),
  refl,
  (
    refl,
    (
      refl,
      (
        refl,
        (
          refl,
          (
            refl,
            (
              refl,
              (
                refl,
                (
                  refl,
                  (
                    refl,
                    (
                      refl,
                      (
                        refl,
                        (
                          refl,
                          (
                            refl,
                            (
                              refl,
                              (
                                refl,
                                (
                                  refl,
                                  (refl, (refl, (refl, (refl, d)))),
                                ),
                              ),
                            ),
                          ),
                        ),
                      ),
                    ),
                  ),
                ),
              ),
            ),
          ),
        ),
      ),
    ),
  ),
)

pub place_trait : (x : Tree) (r : List Token) → Derives x (table ATrait) r → Place ATrait x r
unfolding table
place_trait (First (Pair s (Pair a (Pair (AWord es) z)))) r d =
    subst (λ bs. Derives (First (Pair s (Pair a (Pair (AWord bs) z)))) (table ATrait) r
    → Place ATrait (First (Pair s (Pair a (Pair (AWord bs) z)))) r)
    (word_is "trait" es d.1.1.1.0)
    (λ e. trait_at s a z r (opt_of the_safety "unsafe" _ s _ d.1.0) (opt_of the_auto "auto" _ a _ d.1.1.0) e) d
place_trait (First (Pair s (Pair a (Pair _ z)))) r d = absurd d.1.1.1.0
place_trait (First (Pair s (Pair a _))) r d = absurd d.1.1.1
place_trait (First (Pair s _)) r d = absurd d.1.1
place_trait (First _) r d = absurd d.1
place_trait (Verbatim x) r d = absurd (kept_raw (is_trait x) d.0)
place_trait _ r d = absurd d

abbrev texts : String → List ℕ → Bool
texts w cs = same_text (codes w) cs

-- words that aren't there
maybe_word : (p : List ℕ → Bool) (is : List ℕ) (ts : List Token) (m : Look) → p is ≡ false
    → sees (maybe (a_word p) then m) (Ident is ∷ ts) ≡ sees m (Ident is ∷ ts)
maybe_word p is ts m e = ap (λ b. seen (behind (first_seen (cond b (Some ts) None) (Some (Ident is ∷ ts))) m)) e

maybe_led : (p : List ℕ → Bool) (is : List ℕ) (ts : List Token) (l m : Look) → p is ≡ false
    → sees (maybe (a_word p then l) then m) (Ident is ∷ ts) ≡ sees m (Ident is ∷ ts)
maybe_led p is ts l m e =
    ap (λ b. seen (behind (first_seen (behind (cond b (Some ts) None) l) (Some (Ident is ∷ ts))) m)) e

no_word : (p : List ℕ → Bool) (is : List ℕ) (ts : List Token) → p is ≡ false → sees (a_word p) (Ident is ∷ ts) ≡ false
no_word p is ts e = ap (λ b. seen (cond b (Some ts) None)) e

not_word : (p : List ℕ → Bool) (w : String) → p (codes w) ≡ false → (cs : List ℕ) → p cs ≡ true
    → same_text (codes w) cs ≡ false
not_word p w e cs h = go (same_text (codes w) cs) refl
  where
    go : (b : Bool) → same_text (codes w) cs ≡ b → b ≡ false
    go false f = refl
    go true f = sym h ∙ ap p (sym ((bytes_eq-Decides (codes w) cs).0 f)) ∙ e

record NoForm (cs : List ℕ) : Type 0 where
  no_async : same_text (codes "async") cs ≡ false
  no_unsafe : same_text (codes "unsafe") cs ≡ false
  no_extern : same_text (codes "extern") cs ≡ false
  no_fn : same_text (codes "fn") cs ≡ false
  no_trait : same_text (codes "trait") cs ≡ false
  no_impl : same_text (codes "impl") cs ≡ false

ident_no : (cs : List ℕ) → is_ident cs ≡ true → NoForm cs
unfolding is_reserved
ident_no cs h = record {
  no_async = not_word is_ident "async" refl cs h;
  no_unsafe = not_word is_ident "unsafe" refl cs h;
  no_extern = not_word is_ident "extern" refl cs h;
  no_fn = not_word is_ident "fn" refl cs h;
  no_trait = not_word is_ident "trait" refl cs h;
  no_impl = not_word is_ident "impl" refl cs h;
}

underscore_no : (cs : List ℕ) → same_text (codes "_") cs ≡ true → NoForm cs
underscore_no cs h = subst NoForm (word_is "_" cs h) (record {
  no_async = refl;
  no_unsafe = refl;
  no_extern = refl;
  no_fn = refl;
  no_trait = refl;
  no_impl = refl;
})

-- behind a constant's name a < or a : stands
marked : (p : List ℕ → Bool) (g : Tree) (c : ℕ) (cs : List ℕ) (i : Spacing) (z : Tree) (s r : List Token)
    → Derives g (table Generics) s → sees (a_word p) ((flat g ++ (marks c cs i ++ flat z)) ++ r) ≡ false
unfolding table
marked p (First (Pair (AMark e [] j) y)) c cs i z s r d = refl
marked p (First (Pair (AMark e (f ∷ fs) j) y)) c cs i z s r d = refl
marked p (First (Pair _ y)) c cs i z s r d = absurd d.1.0
marked p (First _) c cs i z s r d = absurd d.1
marked p (Second Nil) c [] i z s r d = refl
marked p (Second Nil) c (f ∷ fs) i z s r d = refl
marked p (Second _) c cs i z s r d = absurd d.1
marked p _ c cs i z s r d = absurd d

const_trait : (is : List ℕ) (ts : List Token) → NoForm is → sees (at "trait") ts ≡ false
    → sees (at "const" then trait_stands) (Ident (codes "const") ∷ Ident is ∷ ts) ≡ false
const_trait is ts n h = maybe_word (texts "unsafe") is ts (maybe (at "auto") then at "trait") n.no_unsafe
    ∙ go (same_text (codes "auto") is)
  where
    go : (b : Bool) → seen (behind (first_seen (cond b (Some ts) None) (Some (Ident is ∷ ts))) (at "trait")) ≡ false
    go true = h
    go false = no_word (texts "trait") is ts n.no_trait

const_function : (is : List ℕ) (ts : List Token) → NoForm is
    → sees (signature_stands InFile) (Ident (codes "const") ∷ Ident is ∷ ts) ≡ false
const_function is ts n =
    maybe_word (texts "async") is ts
    (maybe (at "unsafe") then maybe (at "extern" then maybe (a_quoted is_string)) then at "fn") n.no_async
    ∙ maybe_word (texts "unsafe") is ts (maybe (at "extern" then maybe (a_quoted is_string)) then at "fn") n.no_unsafe
    ∙ maybe_led (texts "extern") is ts (maybe (a_quoted is_string)) (at "fn") n.no_extern
    ∙ no_word (texts "fn") is ts n.no_fn

const_impl : (is : List ℕ) (ts : List Token) → NoForm is
    → sees (at "const" then maybe (at "unsafe") then at "impl") (Ident (codes "const") ∷ Ident is ∷ ts) ≡ false
const_impl is ts n = maybe_word (texts "unsafe") is ts (at "impl") n.no_unsafe ∙ no_word (texts "impl") is ts n.no_impl

constant_at : (x : Tree) (is : List ℕ) (ts r : List Token) → flat x ++ r ≡ Ident (codes "const") ∷ Ident is ∷ ts
    → NoForm is → sees (at "trait") ts ≡ false → Derives x (table AConst) r → Place AConst x r
constant_at x is ts r e n h d = (
  four (two_more (Second (First (Node AConst x)))),
  refl,
  (
    ap (sees (signature_stands InFile)) e ∙ const_function is ts n,
    (
      ap (sees (at "extern" then at "crate")) e,
      (
        ap (sees (at "extern")) e,
        (
          ap (sees (at "use")) e,
          (
            ap (sees (at "static")) e,
            (
              ap (sees (at "const" then trait_stands)) e ∙ const_trait is ts n h,
              (
                ap (sees (at "const" then maybe (at "unsafe") then at "impl")) e ∙ const_impl is ts n,
                (ap (sees (at "const")) e, (refl, d)),
              ),
            ),
          ),
        ),
      ),
    ),
  ),
)

-- a constant's name
record Named (x : Tree) : Type 0 where
  chars : List ℕ
  tokens : flat x ≡ Ident chars ∷ []
  none : NoForm chars

named_of : (t : List Token → Bool) (x : Tree) (r : List Token) → Derives x (alt t (keyword "_") (word is_ident)) r
    → Named x
named_of t (First (AWord cs)) r d = record { chars = cs; tokens = refl; none = underscore_no cs d.1 }
named_of t (Second (AWord cs)) r d = record { chars = cs; tokens = refl; none = ident_no cs d.1 }
named_of t (First _) r d = absurd d.1
named_of t (Second _) r d = absurd d.1
named_of t _ r d = absurd d

pub place_const : (x : Tree) (r : List Token) → Derives x (table AConst) r → Place AConst x r
unfolding table
place_const (Pair (AWord ws) (Pair (Called n y) (Pair (Called m (Node k g)) (Pair (AMark c cs i) z)))) r d =
    let q = named_of _ y _ d.1.0.1 in
    let us : List Token = flat g ++ (marks c cs i ++ flat z) in
    constant_at (Pair (AWord ws) (Pair (Called n y) (Pair (Called m (Node k g)) (Pair (AMark c cs i) z)))) q.chars
    (us ++ r) r
    (ap (λ ts. Ident ws ∷ (ts ++ us) ++ r) q.tokens
    ∙ ap (λ vs. Ident vs ∷ Ident q.chars ∷ us ++ r) (sym (word_is "const" ws d.0)))
    q.none (marked (texts "trait") g c cs i z ((marks c cs i ++ flat z) ++ r) r
    (subst (λ j. Derives g (table j) ((marks c cs i ++ flat z) ++ r)) d.1.1.0.1.0 d.1.1.0.1.1)) d
place_const (Pair (AWord ws) (Pair (Called n y) (Pair (Called m (Node k g)) (Pair _ z)))) r d = absurd d.1.1.1.0
place_const (Pair (AWord ws) (Pair (Called n y) (Pair (Called m (Node k g)) _))) r d = absurd d.1.1.1
place_const (Pair (AWord ws) (Pair (Called n y) (Pair (Called m _) z))) r d = absurd d.1.1.0.1
place_const (Pair (AWord ws) (Pair (Called n y) (Pair _ z))) r d = absurd d.1.1.0
place_const (Pair (AWord ws) (Pair (Called n y) _)) r d = absurd d.1.1
place_const (Pair (AWord ws) (Pair _ y)) r d = absurd d.1.0
place_const (Pair (AWord ws) _) r d = absurd d.1
place_const (Pair _ y) r d = absurd d.0
place_const _ r d = absurd d

-- a look that isn't there is passed
none_passed : (l m : Look) (ts : List Token) → sees l ts ≡ false → sees (maybe l then m) ts ≡ sees m ts
none_passed l m ts e = go (l ts) e
  where
    go : (o : Option (List Token)) → seen o ≡ false → seen (behind (first_seen o (Some ts)) m) ≡ sees m ts
    go None f = refl
    go (Some us) f = cc

none_led : (l k m : Look) (ts : List Token) → sees l ts ≡ false → sees (maybe (l then k) then m) ts ≡ sees m ts
none_led l k m ts e = go (l ts) e
  where
    go : (o : Option (List Token)) → seen o ≡ false → seen (behind (first_seen (behind o k) (Some ts)) m) ≡ sees m ts
    go None f = refl
    go (Some us) f = cc

pub none_then : (l m : Look) (ts : List Token) → sees l ts ≡ false → sees (l then m) ts ≡ false
none_then l m ts e = go (l ts) e
  where
    go : (o : Option (List Token)) → seen o ≡ false → seen (behind o m) ≡ false
    go None f = refl
    go (Some us) f = cc

-- an extern block
fn_quoted : (q : List ℕ) (ts : List Token) → sees (at "fn") ts ≡ false
    → sees (maybe (at "extern" then maybe (a_quoted is_string)) then at "fn")
    (Ident (codes "extern") ∷ Literal q ∷ ts) ≡ false
fn_quoted q ts h = go (is_string q)
  where
    go : (b : Bool)
        → seen (behind (first_seen (first_seen (cond b (Some ts) None) (Some (Literal q ∷ ts)))
        (Some (Ident (codes "extern") ∷ Literal q ∷ ts))) (at "fn")) ≡ false
    go true = h
    go false = refl

block_at : (x : Tree) (ts r : List Token) → flat x ++ r ≡ Ident (codes "extern") ∷ ts
    → sees (maybe (at "extern" then maybe (a_quoted is_string)) then at "fn") (Ident (codes "extern") ∷ ts) ≡ false
    → sees (at "crate") ts ≡ false → Derives x (table AForeignModule) r → Place AForeignModule x r
block_at x ts r e f c d = (
  two_more (First (Node AForeignModule x)),
  refl,
  (
    ap (sees (signature_stands InFile)) e ∙ f,
    (
      ap (sees (at "extern" then at "crate")) e ∙ c,
      (ap (sees (at "extern")) e, (refl, d)),
    ),
  ),
)

unsafe_block_at : (x : Tree) (ts r : List Token) → flat x ++ r ≡ Ident (codes "unsafe") ∷ Ident (codes "extern") ∷ ts
    → sees (maybe (at "extern" then maybe (a_quoted is_string)) then at "fn") (Ident (codes "extern") ∷ ts) ≡ false
    → Derives x (table AForeignModule) r → Place AForeignModule x r
unsafe_block_at x ts r e f d = (
  eight (First (Node AForeignModule x)),
  refl,
  (
    ap (sees (signature_stands InFile)) e ∙ f,
    (
      ap (sees (at "extern" then at "crate")) e,
      (
        ap (sees (at "extern")) e,
        (
          ap (sees (at "use")) e,
          (
            ap (sees (at "static")) e,
            (
              ap (sees (at "const" then trait_stands)) e,
              (
                ap (sees (at "const" then maybe (at "unsafe") then at "impl")) e,
                (
                  ap (sees (at "const")) e,
                  (ap (sees (at "unsafe" then at "extern")) e, (refl, d)),
                ),
              ),
            ),
          ),
        ),
      ),
    ),
  ),
)

-- its name, and what stands behind that
record Abied (a : Tree) (d : Delimiter) (z : Tree) (r : List Token) : Type 0 where
  others : List Token
  tokens : (flat a ++ flat (Group d z)) ++ r ≡ Ident (codes "extern") ∷ others
  no_fn : sees (maybe (at "extern" then maybe (a_quoted is_string)) then at "fn")
      (Ident (codes "extern") ∷ others) ≡ false
  no_crate : sees (at "crate") others ≡ false

abied : (a : Tree) (d : Delimiter) (z : Tree) (s r : List Token) → Derives a (table Abi) s → Abied a d z r
unfolding table
abied (Pair (AWord cs) (First (ALiteral q))) d z s r e = record {
  others = Literal q ∷ flat (Group d z) ++ r;
  tokens = ap (λ us. Ident us ∷ Literal q ∷ flat (Group d z) ++ r) (sym (word_is "extern" cs e.0));
  no_fn = fn_quoted q (flat (Group d z) ++ r) refl;
  no_crate = refl;
}
abied (Pair (AWord cs) (Second Nil)) d z s r e = record {
  others = flat (Group d z) ++ r;
  tokens = ap (λ us. Ident us ∷ flat (Group d z) ++ r) (sym (word_is "extern" cs e.0));
  no_fn = refl;
  no_crate = refl;
}
abied (Pair (AWord cs) (First _)) d z s r e = absurd e.1.1
abied (Pair (AWord cs) (Second _)) d z s r e = absurd e.1.1
abied (Pair (AWord cs) _) d z s r e = absurd e.1
abied (Pair _ y) d z s r e = absurd e.0
abied _ d z s r e = absurd e

block_of : (s : Tree) (k : Kind) (a : Tree) (b : Delimiter) (z : Tree) (r : List Token) → Opt the_safety "unsafe" s
    → Abied a b z r → Derives (Pair s (Pair (Node k a) (Group b z))) (table AForeignModule) r
    → Place AForeignModule (Pair s (Pair (Node k a) (Group b z))) r
block_of s k a b z r there q d =
    unsafe_block_at (Pair (First (Called the_safety (AWord (codes "unsafe")))) (Pair (Node k a) (Group b z))) q.others r
    (ap (λ ts. Ident (codes "unsafe") ∷ ts) q.tokens) q.no_fn d
block_of s k a b z r missing q d =
    block_at (Pair (Second Nil) (Pair (Node k a) (Group b z))) q.others r q.tokens q.no_fn q.no_crate d

pub place_block : (x : Tree) (r : List Token) → Derives x (table AForeignModule) r → Place AForeignModule x r
unfolding table
place_block (Pair s (Pair (Node k a) (Group b z))) r d =
    block_of s k a b z r (opt_of the_safety "unsafe" _ s _ d.0)
    (abied a b z (flat (Group b z) ++ r) r
    (subst (λ j. Derives a (table j) (flat (Group b z) ++ r)) d.1.0.0 d.1.0.1)) d
place_block (Pair s (Pair (Node k a) _)) r d = absurd d.1.1
place_block (Pair s (Pair _ z)) r d = absurd d.1.0
place_block (Pair s _) r d = absurd d.1
place_block _ r d = absurd d

-- a function: each word that may stand in front is passed where it stands
passed_word : (w : String) (c : Tree) (ts : List Token) (m : Look)
    → Derives c (alt (sees (at w)) (keyword w) nothing) ts → sees (maybe (at w) then m) (flat c ++ ts) ≡ sees m ts
passed_word w (First (AWord cs)) ts m d =
    ap (λ b. seen (behind (first_seen (cond b (Some ts) None) (Some (Ident cs ∷ ts))) m)) d.1
passed_word w (First _) ts m d = absurd d.1
passed_word w (Second Nil) ts m d = none_passed (at w) m ts d.0
passed_word w (Second _) ts m d = absurd d.1
passed_word w _ ts m d = absurd d

passed_named : (n : Part) (w : String) (c : Tree) (ts : List Token) (m : Look)
    → Derives c (alt (sees (at w)) (called n (keyword w)) nothing) ts
    → sees (maybe (at w) then m) (flat c ++ ts) ≡ sees m ts
passed_named n w (First (Called k (AWord cs))) ts m d =
    ap (λ b. seen (behind (first_seen (cond b (Some ts) None) (Some (Ident cs ∷ ts))) m)) d.1.1
passed_named n w (First (Called k _)) ts m d = absurd d.1.1
passed_named n w (First _) ts m d = absurd d.1
passed_named n w (Second Nil) ts m d = none_passed (at w) m ts d.0
passed_named n w (Second _) ts m d = absurd d.1
passed_named n w _ ts m d = absurd d

-- and the name of a calling convention
passed_quoted : (y : Tree) (ts : List Token) (m : Look) (o : Option (List Token))
    → Derives y (alt (sees (a_quoted is_string)) (literal is_string) nothing) ts
    → seen (behind (first_seen (maybe (a_quoted is_string) (flat y ++ ts)) o) m) ≡ sees m ts
passed_quoted (First (ALiteral q)) ts m o d =
    ap (λ b. seen (behind (first_seen (first_seen (cond b (Some ts) None) (Some (Literal q ∷ ts))) o) m)) d.1
passed_quoted (First _) ts m o d = absurd d.1
passed_quoted (Second Nil) ts m o d = go (a_quoted is_string ts) d.0
  where
    go : (u : Option (List Token)) → seen u ≡ false
        → seen (behind (first_seen (first_seen u (Some ts)) o) m) ≡ sees m ts
    go None e = refl
    go (Some us) e = cc
passed_quoted (Second _) ts m o d = absurd d.1
passed_quoted _ ts m o d = absurd d

passed_abi : (a : Tree) (ts : List Token) (m : Look) → Derives a (table Abi) ts
    → sees (maybe (at "extern" then maybe (a_quoted is_string)) then m) (flat a ++ ts) ≡ sees m ts
unfolding table
passed_abi (Pair (AWord cs) y) ts m d =
    ap (λ b. seen (behind (first_seen (behind (cond b (Some (flat y ++ ts)) None) (maybe (a_quoted is_string)))
    (Some (Ident cs ∷ flat y ++ ts))) m)) d.0
    ∙ passed_quoted y ts m (Some (Ident cs ∷ flat y ++ ts)) d.1
passed_abi (Pair _ y) ts m d = absurd d.0
passed_abi _ ts m d = absurd d

passed_extern : (c : Tree) (ts : List Token) (m : Look) → Derives c (alt (sees (at "extern")) (ref Abi) nothing) ts
    → sees (maybe (at "extern" then maybe (a_quoted is_string)) then m) (flat c ++ ts) ≡ sees m ts
passed_extern (First (Node k a)) ts m d = passed_abi a ts m (subst (λ j. Derives a (table j) ts) d.1.0 d.1.1)
passed_extern (First _) ts m d = absurd d.1
passed_extern (Second Nil) ts m d = none_led (at "extern") (maybe (a_quoted is_string)) m ts d.0
passed_extern (Second _) ts m d = absurd d.1
passed_extern _ ts m d = absurd d

signed : (x : Tree) (ts : List Token) → Derives x (table (Signature InFile)) ts
    → sees (signature_stands InFile) (flat x ++ ts) ≡ true
unfolding table
signed (Pair c (Pair a (Pair s (Pair e (Pair (AWord cs) z))))) ts d =
    ap (sees (signature_stands InFile)) (append_assoc (flat c) _ ts)
    ∙ passed_word "const" c _ _ d.0
    ∙ ap (sees (maybe (at "async") then maybe (at "unsafe")
    then maybe (at "extern" then maybe (a_quoted is_string)) then at "fn")) (append_assoc (flat a) _ ts)
    ∙ passed_word "async" a _ _ d.1.0
    ∙ ap (sees (maybe (at "unsafe") then maybe (at "extern" then maybe (a_quoted is_string)) then at "fn"))
    (append_assoc (flat s) _ ts)
    ∙ passed_named the_safety "unsafe" s _ _ d.1.1.0
    ∙ ap (sees (maybe (at "extern" then maybe (a_quoted is_string)) then at "fn")) (append_assoc (flat e) _ ts)
    ∙ passed_extern e _ _ d.1.1.1.0
    ∙ seen_if (same_text (codes "fn") cs) _ d.1.1.1.1.0
signed (Pair c (Pair a (Pair s (Pair e (Pair _ z))))) ts d = absurd d.1.1.1.1.0
signed (Pair c (Pair a (Pair s (Pair e _)))) ts d = absurd d.1.1.1.1
signed (Pair c (Pair a (Pair s _))) ts d = absurd d.1.1.1
signed (Pair c (Pair a _)) ts d = absurd d.1.1
signed (Pair c _) ts d = absurd d.1
signed _ ts d = absurd d

pub place_function : (x : Tree) (r : List Token) → Derives x (table (AFunction InFile)) r → Place (AFunction InFile) x r
unfolding table
place_function (Pair (Node k s) y) r d = (
  First (Node (AFunction InFile) (Pair (Node k s) y)),
  refl,
  (
    ap (sees (signature_stands InFile)) (append_assoc (flat s) (flat y) r)
        ∙ signed s (flat y ++ r) (subst (λ j. Derives s (table j) (flat y ++ r)) d.0.0 d.0.1),
    (refl, d),
  ),
)
place_function (Pair _ y) r d = absurd d.0
place_function _ r d = absurd d
