-- With which tokens an own part begins, as it was read and in normal form: a relation of both that the first leaf
-- decides.
use Rattle.std.proofs.Common.{◌≡◌, ℕ, List, [], ◌∷◌, ◌++◌, refl, sym, subst, append_assoc}
use Rattle.std.specs.Prelude.{Bool, true}
use Rattle.proc_macro2.specs.Token.{Token, Opens, Ident, Literal, Punct}
use Rattle.proc_macro2.specs.declared.delimiter.Delimiter.{Delimiter}
use Rattle.rust_leaf.specs.declared.punct.Spacing.{Spacing}
use Rattle.rust_leaf.specs.declared.punct.Spacing.TheVariants.{Alone as Apart, Joint}
use Rattle.syn_grammar.specs.Kind.{Kind, Position}
use Rattle.syn_grammar.specs.Name.{Part}
use Rattle.syn_grammar.specs.Tree.{Tree, AWord, ALiteral, AMark, ALifetime, Nil, Pair, First, Second, Group, Called}
use Rattle.syn_grammar.specs.Tree.{Node, marks, flat}
use Rattle.syn_grammar.specs.Gram.{Gram, word, literal, mark, lifetime, nothing, never, seq, alt, group, called, ref}
use Rattle.syn_grammar.specs.Table.{table}
use Rattle.syn_grammar.specs.Derives.{Derives}
use Rattle.syn_grammar.specs.Kept.{kept}
use Rattle.syn_grammar.specs.Normal.{place_of, normal_in}

-- nothing is read as nothing
pub is_nil : (w : Tree) (r : List Token) → Derives w nothing r → w ≡ Nil
is_nil Nil r d = refl
is_nil _ r d = elim d [ ]

-- a relation between the tokens that were read and those of the normal form, which what stands behind them leaves
module _ (R : List Token → List Token → Type 0) (more : (ts us zs : List Token) → R ts us → R ts (us ++ zs)) where
  pub record Leads (g : Gram) : Type 0 where
    pub at : (q : Position) (y : Tree) (r : List Token) → Derives y g r → R (flat y ++ r) (flat (normal_in q (kept y)))

  pub front_leads : (x z : Tree) (r : List Token) (us vs : List Token) → R (flat x ++ (flat z ++ r)) us
      → R ((flat x ++ flat z) ++ r) (us ++ vs)
  front_leads x z r us vs h = more _ us vs (subst (λ ts. R ts us) (sym (append_assoc (flat x) (flat z) r)) h)

  pub seq_leads : {a b : Gram} → Leads a → Leads (seq a b)
  seq_leads {a} {b} h = record { at = go }
    where
      go : (q : Position) (y : Tree) (r : List Token) → Derives y (seq a b) r
          → R (flat y ++ r) (flat (normal_in q (kept y)))
      go q (Pair x z) r d = front_leads x z r _ _ (h.at q x (flat z ++ r) d.0)
      go q _ r d = elim d [ ]

  pub alt_leads : {t : List Token → Bool} {a b : Gram} → Leads a → Leads b → Leads (alt t a b)
  alt_leads {t} {a} {b} h i = record { at = go }
    where
      go : (q : Position) (y : Tree) (r : List Token) → Derives y (alt t a b) r
          → R (flat y ++ r) (flat (normal_in q (kept y)))
      go q (First x) r d = h.at q x r d.1
      go q (Second x) r d = i.at q x r d.1
      go q _ r d = elim d [ ]

  pub never_leads : Leads never
  never_leads = record { at = go }
    where
      go : (q : Position) (y : Tree) (r : List Token) → Derives y never r
          → R (flat y ++ r) (flat (normal_in q (kept y)))
      go q Nil r d = elim d [ ]
      go q _ r d = elim d [ ]

  -- what may be missing, and what stands behind it
  pub opt_leads : {t : List Token → Bool} {a b : Gram} → Leads a → Leads b → Leads (seq (alt t a nothing) b)
  opt_leads {t} {a} {b} h i = record { at = go }
    where
      go : (q : Position) (y : Tree) (r : List Token) → Derives y (seq (alt t a nothing) b) r
          → R (flat y ++ r) (flat (normal_in q (kept y)))
      go q (Pair (First x) z) r d = front_leads x z r _ _ (h.at q x (flat z ++ r) d.0.1)
      go q (Pair (Second w) z) r d =
          subst (λ v. R (flat (Pair (Second v) z) ++ r) (flat (normal_in q (kept (Pair (Second v) z)))))
          (sym (is_nil w _ d.0.1)) (i.at q z r d.1)
      go q (Pair _ z) r d = elim d.0 [ ]
      go q _ r d = elim d [ ]

  pub called_leads : {n : Part} {a : Gram} → Leads a → Leads (called n a)
  called_leads {n} {a} h = record { at = go }
    where
      go : (q : Position) (y : Tree) (r : List Token) → Derives y (called n a) r
          → R (flat y ++ r) (flat (normal_in q (kept y)))
      go q (Called m x) r d = h.at (place_of m) x r d.1
      go q _ r d = elim d [ ]

  pub ref_leads : {k : Kind}
      → ((q : Position) (x : Tree) (r : List Token) → Derives x (table k) r
      → R (flat x ++ r) (flat (normal_in q (kept (Node k x))))) → Leads (ref k)
  ref_leads {k} h = record { at = go }
    where
      go : (q : Position) (y : Tree) (r : List Token) → Derives y (ref k) r
          → R (flat y ++ r) (flat (normal_in q (kept y)))
      go q (Node j x) r d =
          subst (λ i. R (flat x ++ r) (flat (normal_in q (kept (Node i x))))) (sym d.0)
          (h q x r (subst (λ i. Derives x (table i) r) d.0 d.1))
      go q _ r d = elim d [ ]

  pub word_leads : {p : List ℕ → Bool}
      → ((cs : List ℕ) (r : List Token) → p cs ≡ true → R (Ident cs ∷ r) (Ident cs ∷ [])) → Leads (word p)
  word_leads {p} h = record { at = go }
    where
      go : (q : Position) (y : Tree) (r : List Token) → Derives y (word p) r
          → R (flat y ++ r) (flat (normal_in q (kept y)))
      go q (AWord cs) r d = h cs r d
      go q _ r d = elim d [ ]

  pub literal_leads : {p : List ℕ → Bool}
      → ((cs : List ℕ) (r : List Token) → p cs ≡ true → R (Literal cs ∷ r) (Literal cs ∷ [])) → Leads (literal p)
  literal_leads {p} h = record { at = go }
    where
      go : (q : Position) (y : Tree) (r : List Token) → Derives y (literal p) r
          → R (flat y ++ r) (flat (normal_in q (kept y)))
      go q (ALiteral cs) r d = h cs r d
      go q _ r d = elim d [ ]

  pub lifetime_leads : ((cs : List ℕ) (r : List Token)
      → R (Punct 39 Joint ∷ Ident cs ∷ r) (Punct 39 Joint ∷ Ident cs ∷ [])) → Leads lifetime
  lifetime_leads h = record { at = go }
    where
      go : (q : Position) (y : Tree) (r : List Token) → Derives y lifetime r
          → R (flat y ++ r) (flat (normal_in q (kept y)))
      go q (ALifetime cs) r d = h cs r
      go q _ r d = elim d [ ]

  pub mark_leads : {c : ℕ} {cs : List ℕ} → ((i : Spacing) (r : List Token) → R (marks c cs i ++ r) (marks c cs Apart))
      → Leads (mark c cs)
  mark_leads {c} {cs} h = record { at = go }
    where
      go : (q : Position) (y : Tree) (r : List Token) → Derives y (mark c cs) r
          → R (flat y ++ r) (flat (normal_in q (kept y)))
      go q (AMark b bs i) r d =
          subst (λ n. R (marks n bs i ++ r) (marks n bs Apart)) (sym d.0)
          (subst (λ ns. R (marks c ns i ++ r) (marks c ns Apart)) (sym d.1) (h i r))
      go q _ r d = elim d [ ]

  pub group_leads : {e : Delimiter} {g : Gram} → ((r s : List Token) → R (Opens e ∷ r) (Opens e ∷ s))
      → Leads (group e g)
  group_leads {e} {g} h = record { at = go }
    where
      go : (q : Position) (y : Tree) (r : List Token) → Derives y (group e g) r
          → R (flat y ++ r) (flat (normal_in q (kept y)))
      go q (Group d x) r f = subst (λ b. R (flat (Group b x) ++ r) (flat (normal_in q (kept (Group b x))))) (sym f.0)
          (h _ _)
      go q _ r d = elim d [ ]
