-- Texts may be joined, or there is a first one that may not stand where it does.
use Rattle.std.proofs.Common.{◌≡◌, ℕ, zero, suc, List, [], ◌∷◌, ◌++◌, length, refl, sym, ap, ◌∙◌, subst, ⊎_elim}
use Rattle.std.proofs.Common.{inl, inr}
use Rattle.std.proofs.lemmas.Bool.{cases_Bool}
use Rattle.std.specs.Prelude.{Bool, true, false, Option, Some, None, ◌⊎◌}
use Rattle.rust_lex.specs.Chars.{begins}
use Rattle.rust_lex.specs.FileCover.{is_front_mark}
use Rattle.proc_macro2.proofs.Files.{no_file_forest, one_file_fault}
use Rattle.syn_grammar.specs.Tree.{Tree}
use Rattle.laws_programs.specs.Joined.{AreAlike, AreJoinable, IsFirstFault, IsLater, IsWrong, MustBeFirst, NoFile}
use Rattle.laws_programs.specs.Joined.{NoForest, Wrong, attributes_of}
use Rattle.laws_programs.specs.Program.{IsProgram, Program}
use Rattle.laws_programs.proofs.Programs.{lexical_fault, one_program, program_or_fault, syntax_fault}

-- a text may stand behind another, or it may not
pub later_or_not : (text : List ℕ) (p : Program) → IsLater text p ⊎ (IsLater text p → ⊥)
later_or_not text p =
    ⊎_elim
    (λ y. inr (λ l. let wrong : true ≡ false = sym y ∙ l.no_mark in cc))
    (λ n. by_shebang n p.shebang refl (attributes_of p.tree) refl)
    (cases_Bool (begins is_front_mark text))
  where
    by_shebang : begins is_front_mark text ≡ false → (s : Option (List ℕ)) → p.shebang ≡ s → (xs : List Tree)
        → attributes_of p.tree ≡ xs → IsLater text p ⊎ (IsLater text p → ⊥)
    by_shebang n None e [] f = inl (record { no_mark = n; no_shebang = e; no_attributes = f })
    by_shebang n None e (x ∷ xs) f = inr (λ l. let wrong : x ∷ xs ≡ [] = sym f ∙ l.no_attributes in cc)
    by_shebang n (Some line) e xs f = inr (λ l. let wrong : Some line ≡ None = sym e ∙ l.no_shebang in cc)

-- a text that has a program may stand where it does, or it may not
abbrev Stands : Bool → List ℕ → Program → Type 0
Stands later text p = later ≡ true → IsLater text p

stands_or_not : (later : Bool) (text : List ℕ) (p : Program)
    → Stands later text p ⊎ ((later ≡ true) × (IsLater text p → ⊥))
stands_or_not false text p = inl (λ e. cc)
stands_or_not true text p = ⊎_elim (λ l. inl (λ e. l)) (λ n. inr (refl, n)) (later_or_not text p)

abbrev pub Decided : Bool → List (List ℕ) → Type 0
Decided later texts =
    ((ps : List Program) × AreJoinable later texts ps) ⊎ ((n : ℕ) × (w : Wrong) × IsFirstFault later texts n w)

behind_one : (later : Bool) (t : List ℕ) (ts : List (List ℕ)) (p : Program) → IsProgram t p → Stands later t p
    → Decided true ts → Decided later (t ∷ ts)
behind_one later t ts p i l d =
    ⊎_elim (λ (ps, h). inl (p ∷ ps, (i, l, h))) (λ (n, w, f). inr (suc n, w, (p, i, l, f))) d

pub decided : (later : Bool) (texts : List (List ℕ)) → Decided later texts
decided later [] = inl ([], tt)
decided later (t ∷ ts) =
    ⊎_elim
    (λ (p, i).
    ⊎_elim
    (λ l. behind_one later t ts p i l (decided true ts))
    (λ (e, n). inr (zero, MustBeFirst, (e, p, i, n)))
    (stands_or_not later t p))
    (λ o.
    ⊎_elim (λ (place, f). inr (zero, NoForest place, f)) (λ (place, f). inr (zero, NoFile place, f)) o)
    (program_or_fault t)

-- never both, and one at most
not_wrong : (later : Bool) (t : List ℕ) (p : Program) (w : Wrong) → IsProgram t p → Stands later t p
    → IsWrong later t w → ⊥
not_wrong later t p (NoForest place) i l f = lexical_fault t place p f i
not_wrong later t p (NoFile place) i l f = syntax_fault t place p f i
not_wrong later t p MustBeFirst i l (e, q, j, n) = n (subst (IsLater t) (one_program t p q i j) (l e))

pub never_both : (later : Bool) (texts : List (List ℕ)) (ps : List Program) (n : ℕ) (w : Wrong)
    → AreJoinable later texts ps → IsFirstFault later texts n w → ⊥
never_both later [] ps n w h f = absurd f
never_both later (t ∷ ts) [] n w h f = absurd h
never_both later (t ∷ ts) (p ∷ ps) zero w h f = not_wrong later t p w h.0 h.1 f
never_both later (t ∷ ts) (p ∷ ps) (suc n) w h f = never_both true ts ps n w h.2 f.3

pub one_first : (later : Bool) (texts : List (List ℕ)) (m n : ℕ) (v w : Wrong) → IsFirstFault later texts m v
    → IsFirstFault later texts n w → m ≡ n
one_first later [] m n v w f g = absurd f
one_first later (t ∷ ts) zero zero v w f g = refl
one_first later (t ∷ ts) (suc m) (suc n) v w f g = ap suc (one_first true ts m n v w f.3 g.3)
one_first later (t ∷ ts) zero (suc n) v w f g = absurd (not_wrong later t g.0 v g.1 g.2 f)
one_first later (t ∷ ts) (suc m) zero v w f g = absurd (not_wrong later t f.0 w f.1 f.2 g)

-- what is wrong with the first is one
alike : (later : Bool) (t : List ℕ) (v w : Wrong) → IsWrong later t v → IsWrong later t w → AreAlike v w
alike later t (NoForest p) (NoForest q) f g = one_file_fault t p q f g
alike later t (NoForest p) (NoFile q) f g = no_file_forest 0 t p g.shebang g.tokens f g.forest
alike later t (NoForest p) MustBeFirst f (e, q, j, n) = lexical_fault t p q f j
alike later t (NoFile p) (NoForest q) f g = no_file_forest 0 t q f.shebang f.tokens g f.forest
alike later t (NoFile p) (NoFile q) f g = tt
alike later t (NoFile p) MustBeFirst f (e, q, j, n) = syntax_fault t p q f j
alike later t MustBeFirst (NoForest q) (e, p, i, n) g = lexical_fault t q p g i
alike later t MustBeFirst (NoFile q) (e, p, i, n) g = syntax_fault t q p g i
alike later t MustBeFirst MustBeFirst f g = tt

pub alike_first : (later : Bool) (texts : List (List ℕ)) (m n : ℕ) (v w : Wrong) → IsFirstFault later texts m v
    → IsFirstFault later texts n w → AreAlike v w
alike_first later [] m n v w f g = absurd f
alike_first later (t ∷ ts) zero zero v w f g = alike later t v w f g
alike_first later (t ∷ ts) (suc m) (suc n) v w f g = alike_first true ts m n v w f.3 g.3
alike_first later (t ∷ ts) zero (suc n) v w f g = absurd (not_wrong later t g.0 v g.1 g.2 f)
alike_first later (t ∷ ts) (suc m) zero v w f g = absurd (not_wrong later t f.0 w f.1 f.2 g)

-- behind texts that may be joined
abbrev some_before : List (List ℕ) → Bool → Bool
some_before [] later = later
some_before (t ∷ ts) later = true

pub first_behind : (later : Bool) (before : List (List ℕ)) (ps : List Program) (text : List ℕ)
    (others : List (List ℕ)) (w : Wrong) → AreJoinable later before ps → IsWrong (some_before before later) text w
    → IsFirstFault later (before ++ text ∷ others) (length before) w
first_behind later [] ps text others w h f = f
first_behind later (t ∷ ts) [] text others w h f = absurd h
first_behind later (t ∷ ts) (p ∷ ps) text others w h f =
    (p, h.0, h.1, first_behind true ts ps text others w h.2 (still ts f))
  where
    still : (ts : List (List ℕ)) → IsWrong true text w → IsWrong (some_before ts true) text w
    still [] f = f
    still (t ∷ ts) f = f

-- one more that may be joined
pub one_more : (later : Bool) (before : List (List ℕ)) (ps : List Program) (text : List ℕ) (p : Program)
    → AreJoinable later before ps → IsProgram text p → Stands (some_before before later) text p
    → AreJoinable later (before ++ text ∷ []) (ps ++ p ∷ [])
one_more later [] [] text p h i l = (i, l, tt)
one_more later [] (q ∷ qs) text p h i l = absurd h
one_more later (t ∷ ts) [] text p h i l = absurd h
one_more later (t ∷ ts) (q ∷ qs) text p h i l =
    (h.0, h.1, one_more true ts qs text p h.2 i (still ts l))
  where
    still : (ts : List (List ℕ)) → Stands true text p → Stands (some_before ts true) text p
    still [] l = l
    still (t ∷ ts) l = l
