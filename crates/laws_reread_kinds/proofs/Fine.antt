-- Entries whose trees are read back before what may follow them: put together as the entries are.
use Rattle.std.proofs.Common.{◌≡◌, ℕ, List, [], ◌∷◌, ◌++◌, refl, sym, ap, ◌∙◌, subst, append_assoc, inl, inr}
use Rattle.std.specs.Prelude.{Bool, true, false, ◌⊎◌, codes, ◌||◌}
use Rattle.std.proofs.lemmas.List.{append-nil}
use Rattle.std.proofs.lemmas.Slice.Eq.{bytes_eq-Decides}
use Rattle.proc_macro2.specs.Token.{Token, Opens, Closes, Ident, Punct}
use Rattle.proc_macro2.specs.declared.delimiter.Delimiter.{Delimiter}
use Rattle.rust_leaf.specs.declared.punct.Spacing.TheVariants.{Alone as Apart}
use Rattle.syn_grammar.specs.Kind.{Kind}
use Rattle.syn_grammar.specs.Name.{Part}
use Rattle.syn_grammar.specs.Words.{is_ident, is_plain_name}
use Rattle.rust_leaf.specs.Keywords.{same_text, is_among}
use Rattle.syn_grammar.specs.Say.{name}
use Rattle.syn_grammar.specs.Tree.{Tree, AWord, ALiteral, AMark, ALifetime, Raw, Nil, Pair, First, Second, End}
use Rattle.syn_grammar.specs.Tree.{Final, More, Group, Dropped, Called, Verbatim, Node, marks, flat}
use Rattle.syn_grammar.specs.Gram.{Gram, word, literal, mark, lifetime, raw, nothing, seq, alt, many, group, judged}
use Rattle.syn_grammar.specs.Gram.{dropped, called, ref, Verdict}
use Rattle.syn_grammar.specs.Look.{Look, sees, past_marks}
use Rattle.syn_grammar.specs.Types.{kept_if}
use Rattle.syn_grammar.specs.Table.{table}
use Rattle.syn_grammar.specs.Derives.{Derives}
use Rattle.laws_items.proofs.Places.{kept_raw}
use Rattle.laws_reread_kinds.specs.After.{After}
use Rattle.laws_reread_kinds.proofs.Begins.{Begins}
use Rattle.laws_reread_kinds.proofs.Fits.{Fits, CanSay, raw_reads}
use Rattle.laws_reread_kinds.proofs.Readies.{Ready, Step}
use Rattle.laws_reread_kinds.proofs.Classes.{Class, Sign, TheWord, AnyWord, Quoted, Tick, Opening, IsAmong, the_words}
use Rattle.laws_reread_kinds.specs.Sees.{LacksAll}

-- what may stand behind a tree, and what is known of it there
abbrev pub Edge : Type 1
Edge = Tree → List Token → Type 0

-- Each tree that fits the entry, and whose parts are read back, is read back before all that A holds of; and F holds
-- of it there.
pub record Fine (g : Gram) (A : Edge) (F : Edge) : Type 0 where
  pub by : (x : Tree) (s : List Token) → Fits x g → Ready x → A x s → Derives x g s × F x s

pub fine_step : (k : Kind) → Fine (table k) (After k) (Begins k) → Step k
fine_step k f x s d n w a = f.by x s d w a

-- all may follow
abbrev pub Any : Edge
Any x s = Unit {0}

-- these may not be seen behind it
abbrev pub Without : List Look → Edge
Without ls x s = LacksAll ls s

-- nothing may follow
abbrev pub Ended : Edge
Ended x s = s ≡ []

-- it begins with one of these; or it has no tokens
abbrev pub At : List Class → Edge
At cs x s = IsAmong cs (flat x ++ s)

abbrev pub AtOrNone : List Class → Edge
AtOrNone cs x s = (flat x ≡ []) ⊎ IsAmong cs (flat x ++ s)

-- leaves

pub fine_word : {p : List ℕ → Bool} → Fine (word p) Any (At (AnyWord p ∷ []))
fine_word {p} = record { by = go }
  where
    go : (x : Tree) (s : List Token) → Fits x (word p) → Ready x → Any x s
        → Derives x (word p) s × At (AnyWord p ∷ []) x s
    go (AWord cs) s d w a = (d, inl (cs, s, d, refl))
    go _ s d w a = absurd d

-- the word of a text
pub fine_text : (text : List ℕ) → Fine (word (λ cs. same_text text cs)) Any (At (TheWord text ∷ []))
fine_text text = record { by = go }
  where
    go : (x : Tree) (s : List Token) → Fits x (word (λ cs. same_text text cs)) → Ready x → Any x s
        → Derives x (word (λ cs. same_text text cs)) s × At (TheWord text ∷ []) x s
    go (AWord cs) s d w a =
        let e : text ≡ cs = (bytes_eq-Decides text cs).0 d in
        (d, inl (s, ap (λ k. Ident k ∷ s) (sym e)))
    go _ s d w a = absurd d

-- a word of these
one_is : (w : List ℕ) (ws : List (List ℕ)) (cs : List ℕ) (us : List Token) (b : Bool) → same_text w cs ≡ b
    → (b || is_among ws cs) ≡ true → (is_among ws cs ≡ true → IsAmong (the_words ws) (Ident cs ∷ us))
    → IsAmong (the_words (w ∷ ws)) (Ident cs ∷ us)
one_is w ws cs us true e h k = inl (us, ap (λ v. Ident v ∷ us) (sym ((bytes_eq-Decides w cs).0 e)))
one_is w ws cs us false e h k = inr (k h)

pub words_are : (ws : List (List ℕ)) (cs : List ℕ) (us : List Token) → is_among ws cs ≡ true
    → IsAmong (the_words ws) (Ident cs ∷ us)
words_are [] cs us h = cc
words_are (w ∷ ws) cs us h = one_is w ws cs us (same_text w cs) refl h (λ e. words_are ws cs us e)

pub fine_words : (ws : List (List ℕ)) → Fine (word (λ cs. is_among ws cs)) Any (At (the_words ws))
fine_words ws = record { by = go }
  where
    go : (x : Tree) (s : List Token) → Fits x (word (λ cs. is_among ws cs)) → Ready x → Any x s
        → Derives x (word (λ cs. is_among ws cs)) s × At (the_words ws) x s
    go (AWord cs) s d w a = (d, words_are ws cs s d)
    go _ s d w a = absurd d

-- a path's name that takes arguments
plain_is : (cs : List ℕ) (us : List Token) (b : Bool) → is_ident cs ≡ b → (b || same_text (codes "Self") cs) ≡ true
    → IsAmong (AnyWord is_ident ∷ TheWord (codes "Self") ∷ []) (Ident cs ∷ us)
plain_is cs us true e h = inl (cs, us, e, refl)
plain_is cs us false e h = inr (inl (us, ap (λ v. Ident v ∷ us) (sym ((bytes_eq-Decides (codes "Self") cs).0 h))))

pub fine_name : Fine name Any (At (AnyWord is_ident ∷ TheWord (codes "Self") ∷ []))
unfolding is_plain_name
fine_name = record { by = go }
  where
    go : (x : Tree) (s : List Token) → Fits x name → Ready x → Any x s
        → Derives x name s × At (AnyWord is_ident ∷ TheWord (codes "Self") ∷ []) x s
    go (AWord cs) s d w a = (d, plain_is cs s (is_ident cs) refl d)
    go _ s d w a = absurd d

pub fine_literal : {p : List ℕ → Bool} → Fine (literal p) Any (At (Quoted p ∷ []))
fine_literal {p} = record { by = go }
  where
    go : (x : Tree) (s : List Token) → Fits x (literal p) → Ready x → Any x s
        → Derives x (literal p) s × At (Quoted p ∷ []) x s
    go (ALiteral cs) s d w a = (d, inl (cs, s, d, refl))
    go _ s d w a = absurd d

pub fine_mark : {c : ℕ} {cs : List ℕ} → Fine (mark c cs) Any (At (Sign c cs ∷ []))
fine_mark {c} {cs} = record { by = go }
  where
    go : (x : Tree) (s : List Token) → Fits x (mark c cs) → Ready x → Any x s
        → Derives x (mark c cs) s × At (Sign c cs ∷ []) x s
    go (AMark e es spacing) s d w a = (
      (d.0, d.1),
      inl (
        s,
        ap (λ k. marks k es spacing ++ s) d.0 ∙ ap (λ ks. marks c ks spacing ++ s) d.1 ∙ ap
            (λ j. marks c cs j ++ s) (sym d.2),
      ),
    )
    go _ s d w a = absurd d

pub fine_lifetime : Fine lifetime Any (At (Tick ∷ []))
fine_lifetime = record { by = go }
  where
    go : (x : Tree) (s : List Token) → Fits x lifetime → Ready x → Any x s → Derives x lifetime s × At (Tick ∷ []) x s
    go (ALifetime cs) s d w a = (tt, inl (cs, s, refl))
    go (AWord cs) s d w a = absurd d
    go _ s d w a = absurd d

pub fine_raw : Fine raw Ended Any
fine_raw = record { by = go }
  where
    go : (x : Tree) (s : List Token) → Fits x raw → Ready x → Ended x s → Derives x raw s × Any x s
    go (Raw ts) s d w a = ((d, a), tt)
    go _ s d w a = absurd d

pub fine_nothing : {A : Edge} → Fine nothing A (λ x s. flat x ≡ [])
fine_nothing {A} = record { by = go }
  where
    go : (x : Tree) (s : List Token) → Fits x nothing → Ready x → A x s → Derives x nothing s × (flat x ≡ [])
    go Nil s d w a = (tt, refl)
    go _ s d w a = absurd d

pub fine_ref : {k : Kind} → Fine (ref k) (After k) (Begins k)
fine_ref {k} = record { by = go }
  where
    go : (x : Tree) (s : List Token) → Fits x (ref k) → Ready x → After k x s → Derives x (ref k) s × Begins k x s
    go (Node l x) s d w a =
        let (t, f) = w s (subst (λ i. After i (Node l x) s) (sym d.0) a) in
        ((d.0, t.1), subst (λ i. Begins i (Node l x) s) d.0 f)
    go _ s d w a = absurd d

-- A weaker condition on what follows, and less that is known.
pub fine_weaker : {g : Gram} {A F : Edge} (B G : Edge) → Fine g A F → ((x : Tree) (s : List Token) → B x s → A x s)
    → ((x : Tree) (s : List Token) → F x s → B x s → G x s) → Fine g B G
fine_weaker B G f h i = record { by = λ x s d w b. let (t, e) = f.by x s d w (h x s b) in (t, i x s e b) }

-- the front may be followed by what the back begins with
pub fine_seq : {a b : Gram} {A B F G : Edge} (C H : Edge) → Fine a A F → Fine b B G
    → ((x y : Tree) (s : List Token) → C (Pair x y) s → B y s)
    → ((x y : Tree) (s : List Token) → G y s → C (Pair x y) s → A x (flat y ++ s))
    → ((x y : Tree) (s : List Token) → F x (flat y ++ s) → G y s → C (Pair x y) s → H (Pair x y) s) → Fine (seq a b) C H
fine_seq {a} {b} {A} {B} {F} {G} C H f g behind follows begins = record { by = go }
  where
    go : (x : Tree) (s : List Token) → Fits x (seq a b) → Ready x → C x s → Derives x (seq a b) s × H x s
    go (Pair x y) s d w h =
        let (t, i) = g.by y s d.1 w.1 (behind x y s h) in
        let (u, j) = f.by x (flat y ++ s) d.0 w.0 (follows x y s i h) in
        ((u, t), begins x y s j i h)
    go _ s d w h = absurd d

-- what the test says of what each alternative begins with
pub fine_alt : {t : List Token → Bool} {a b : Gram} {A B F G : Edge} (C H : Edge) → Fine a A F → Fine b B G
    → ((x : Tree) (s : List Token) → C (First x) s → A x s) → ((x : Tree) (s : List Token) → C (Second x) s → B x s)
    → ((x : Tree) (s : List Token) → CanSay t true → F x s → C (First x) s → (t (flat x ++ s) ≡ true) × H (First x) s)
    → ((x : Tree) (s : List Token) → CanSay t false → G x s → C (Second x) s
    → (t (flat x ++ s) ≡ false) × H (Second x) s) → Fine (alt t a b) C H
fine_alt {t} {a} {b} {A} {B} {F} {G} C H f g behind_one behind_other one other = record { by = go }
  where
    go : (x : Tree) (s : List Token) → Fits x (alt t a b) → Ready x → C x s → Derives x (alt t a b) s × H x s
    go (First x) s d w h =
        let (u, i) = f.by x s d.1 w (behind_one x s h) in
        let k = one x s d.0 i h in
        ((k.0, u), k.1)
    go (Second x) s d w h =
        let (u, i) = g.by x s d.1 w (behind_other x s h) in
        let k = other x s d.0 i h in
        ((k.0, u), k.1)
    go _ s d w h = absurd d

pub fine_group : {d : Delimiter} {g : Gram} {F : Edge} → Fine g Ended F → Fine (group d g) Any (At (Opening d ∷ []))
fine_group {d} {g} {F} f = record { by = go }
  where
    go : (x : Tree) (s : List Token) → Fits x (group d g) → Ready x → Any x s
        → Derives x (group d g) s × At (Opening d ∷ []) x s
    go (Group e x) s h w a =
        let (t, i) = f.by x [] h.1 w refl in
        ((h.0, t), inl ((flat x ++ Closes e ∷ []) ++ s, ap (λ k. Opens k ∷ (flat x ++ Closes e ∷ []) ++ s) h.0))
    go _ s h w a = absurd h

pub fine_called : {n : Part} {g : Gram} {A F : Edge} → Fine g (λ x s. A (Called n x) s) (λ x s. F (Called n x) s)
    → Fine (called n g) A F
fine_called {n} {g} {A} {F} f = record { by = go }
  where
    go : (x : Tree) (s : List Token) → Fits x (called n g) → Ready x → A x s → Derives x (called n g) s × F x s
    go (Called m x) s d w a =
        let e : Called m x ≡ Called n x = ap (λ k. Called k x) d.0 in
        let (t, i) = f.by x s d.1 w (subst (λ y. A y s) e a) in
        ((d.0, t), subst (λ y. F y s) (sym e) i)
    go _ s d w a = absurd d

pub fine_dropped : {g : Gram} {A F : Edge} → Fine g (λ x s. A (Dropped x) s) F → Fine (dropped g) A (λ x s. flat x ≡ [])
fine_dropped {g} {A} {F} f = record { by = go }
  where
    go : (x : Tree) (s : List Token) → Fits x (dropped g) → Ready x → A x s → Derives x (dropped g) s × (flat x ≡ [])
    go (Dropped x) s d w a = ((f.by x s d.1 w a).0, d.0)
    go _ s d w a = absurd d

-- where F holds of what is raw too
pub fine_raw_or : {v : Tree → Verdict} {g : Gram} {A F : Edge} → Fine g (λ x s. A (First x) s) (λ x s. F (First x) s)
    → ((x : Tree) (s : List Token) → Derives (Verbatim x) (judged v g) s → F (Verbatim x) s) → Fine (judged v g) A F
fine_raw_or {v} {g} {A} {F} f h = record { by = go }
  where
    go : (x : Tree) (s : List Token) → Fits x (judged v g) → Ready x → A x s → Derives x (judged v g) s × F x s
    go (First x) s d w a = let (t, i) = f.by x s d.1 w a in ((d.0, t), i)
    go (Verbatim x) s d w a = let t = raw_reads v x g s d in (t, h x s t)
    go _ s d w a = absurd d

pub fine_judged : {g : Gram} {A F : Edge} (p : Tree → Bool)
    → Fine g (λ x s. A (First x) s) (λ x s. F (First x) s)
    → Fine (judged (λ x. kept_if (p x)) g) A F
fine_judged {g} {A} {F} p f = fine_raw_or {A = A} {F = F} f (λ x s d. absurd (kept_raw (p x) d.0))

-- lists: behind each element may stand its separator, or what follows the list
pub fine_many : {e : List Token → Bool} {c : ℕ} {g : Gram} {A F : Edge} (B H : Edge) → Fine g A F
    → ((x : Tree) (s : List Token) → F x s → e (flat x ++ s) ≡ false)
    → ((x : Tree) (ts : List Token) → A x (Punct c Apart ∷ ts))
    → ((x z : Tree) (s : List Token) → B z s → (e s ≡ true) × (sees (past_marks c []) s ≡ false) × A x s)
    → ((x y z : Tree) (s : List Token) → B z s → B y s) → ((z : Tree) (s : List Token) → B z s → flat z ≡ [] → H z s)
    → ((x z : Tree) (ys s : List Token) → flat z ≡ flat x ++ ys → F x (ys ++ s) → H z s) → Fine (many e c g) B H
fine_many {e} {c} {g} {A} {F} B H f begins separated ends same none some = record { by = go }
  where
    go : (x : Tree) (s : List Token) → Fits x (many e c g) → Ready x → B x s → Derives x (many e c g) s × H x s
    go End s d w b = ((ends End End s b).0, none End s b refl)
    go (Final x) s d w b =
        let h = ends x (Final x) s b in
        let (t, i) = f.by x s d w h.2 in
        ((begins x s i, t, h.1), some x (Final x) [] s (sym (append-nil (flat x))) i)
    go (More x m spacing y) s d w b =
        let u = (go y s d.3 w.1 (same x y (More x m spacing y) s b)).0 in
        let p : Punct c Apart ≡ Punct m spacing = ap (λ n. Punct n Apart) (sym d.0) ∙ ap (Punct m) d.1 in
        let a : A x (Punct m spacing ∷ flat y ++ s) =
        subst (λ q. A x (q ∷ flat y ++ s)) p (separated x (flat y ++ s)) in
        let (t, i) = f.by x (Punct m spacing ∷ flat y ++ s) d.2 w.0 a in (
          (
            ap e (append_assoc (flat x) (Punct m spacing ∷ flat y) s) ∙ begins x (Punct m spacing ∷ flat y ++ s) i,
            d.0,
            t,
            u,
          ),
          some x (More x m spacing y) (Punct m spacing ∷ flat y) s refl i,
        )
    go _ s d w b = absurd d
