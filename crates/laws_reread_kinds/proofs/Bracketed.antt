-- The type behind impl: where it begins with <, that begins no generics; and the same of what was read.
use Rattle.std.proofs.Common.{◌≡◌, ℕ, List, [], ◌∷◌, ◌++◌, refl, sym, ap, ◌∙◌, subst, append_assoc, ⊎_elim}
use Rattle.std.specs.Prelude.{Bool, true, false, codes, cond, Option, Some, None, ◌==◌}
use Rattle.std.proofs.lemmas.Bool.{false≢true}
use Rattle.proc_macro2.specs.Token.{Token, Ident, Opens, Punct}
use Rattle.proc_macro2.specs.declared.delimiter.Delimiter.{Delimiter}
use Rattle.proc_macro2.specs.declared.delimiter.Delimiter.TheVariants.{Parenthesis, Bracket}
use Rattle.rust_leaf.specs.declared.punct.Spacing.{Spacing}
use Rattle.rust_leaf.specs.declared.punct.Spacing.TheVariants.{Joint}
use Rattle.syn_grammar.specs.Kind.{Kind, AnyPath, AType, AtType, NeverType, Path, Plain, Plus, QualifiedPath, Segments}
use Rattle.syn_grammar.specs.Kind.{Style, WithPlus}
use Rattle.syn_grammar.specs.Words.{is_ident, is_path_keyword}
use Rattle.syn_grammar.specs.Tree.{Tree, AMark, AWord, Nil, Pair, First, Second, Back, Node, marks as signs, flat}
use Rattle.syn_grammar.specs.Gram.{Gram, alt, judged, ref}
use Rattle.syn_grammar.specs.Look.{Look, a_lifetime, a_word, an_ident, behind as past, first_seen, no, opens}
use Rattle.syn_grammar.specs.Look.{past_marks, seen, sees, the_word, ◌or◌, ◌then◌}
use Rattle.syn_grammar.specs.Say.{at, brace, marks, parenthesis}
use Rattle.syn_grammar.specs.Part.{choice}
use Rattle.syn_grammar.specs.Paths.{arguments_stand}
use Rattle.syn_grammar.specs.Types.{colon, type_entry}
use Rattle.syn_grammar.specs.Generics.{impl_generics_stand, param_stands}
use Rattle.syn_grammar.specs.Table.{table}
use Rattle.syn_grammar.specs.Derives.{Derives}
use Rattle.syn_grammar.specs.Kept.{held, kept}
use Rattle.syn_grammar.specs.Tidy.{begins_bracketed, is_bracketed, is_ident_type, is_lone_path, is_lone_segment}
use Rattle.syn_grammar.specs.Normal.{passed, normal_in}
use Rattle.syn_grammar.specs.Verdicts.{is_path}
use Rattle.laws_reread_kinds.specs.Sees.{Lacks, LacksAll}
use Rattle.laws_reread_kinds.proofs.Choices.{none_of, other_word}
use Rattle.laws_reread_kinds.proofs.Classes.{of_all, the_words}
use Rattle.laws_reread_kinds.proofs.Fine.{words_are}
use Rattle.laws_reread_kinds.proofs.Fits.{is_never}
use Rattle.laws_reread_kinds.proofs.Keywords.{reserved_const}
use Rattle.laws_reread_kinds.proofs.Alternatives.{name_not}
use Rattle.laws_reread_kinds.proofs.Seconds.{either_seen, front_seen, keywords, long_next, mark_is_none, mark_other}
use Rattle.laws_reread_kinds.proofs.Seconds.{no_colon_angle, no_colon_colons, none_seen}
use Rattle.laws_reread_kinds.proofs.ImplParams.{behind_name, ident_seen, inside_stands}

-- what tells a parameter by its first token, and isn't what a type begins with
abbrev pub openers : List Look
openers = marks ">" ∷ marks "#" ∷ at "const" ∷ a_lifetime ∷ []

no_tick : (c : ℕ) (cs : List ℕ) (ts : List Token) → (c == 39) ≡ false → sees (past_marks c cs) ts ≡ true
    → Lacks a_lifetime ts
no_tick c cs ts n e = go ts (mark_other c 39 cs ts n e)
  where
    go : (ts : List Token) → sees (past_marks 39 []) ts ≡ false → Lacks a_lifetime ts
    go (Punct d Joint ∷ Ident ds ∷ us) h = other (d == 39) h
      where
        other : (b : Bool) → seen (cond b (Some (Ident ds ∷ us)) None) ≡ false → seen (cond b (Some us) None) ≡ false
        other true h = cc
        other false h = refl
    go _ h = refl

mark_opens : (c : ℕ) (cs : List ℕ) (ts : List Token) → (c == 62) ≡ false → (c == 35) ≡ false → (c == 39) ≡ false
    → sees (past_marks c cs) ts ≡ true → LacksAll openers ts
mark_opens c cs ts m n o e = (
  mark_other c 62 cs ts m e,
  (mark_other c 35 cs ts n e, (mark_is_none _ c cs ts e, (no_tick c cs ts o e, tt))),
)

group_opens : (d : Delimiter) (ts : List Token) → sees (opens d) ts ≡ true → LacksAll openers ts
group_opens d (Opens e ∷ ts) h = (refl, (refl, (refl, (refl, tt))))
group_opens d _ h = cc

word_opens : (w : List ℕ) (ts : List Token) → sees (the_word w) ts ≡ true → Lacks (at "const") ts
    → LacksAll openers ts
word_opens w (Ident cs ∷ us) e h = (refl, (refl, (h, (refl, tt))))
word_opens w _ e h = cc

pointer_opens : (ts : List Token) → sees (at "for" or at "unsafe" or at "extern" or at "fn") ts ≡ true
    → LacksAll openers ts
pointer_opens ts e =
    ⊎_elim (λ f. word_opens (codes "for") ts f (other_word (codes "const") (codes "for") ts refl f))
    (λ g. ⊎_elim (λ f. word_opens (codes "unsafe") ts f (other_word (codes "const") (codes "unsafe") ts refl f))
    (λ h. ⊎_elim (λ f. word_opens (codes "extern") ts f (other_word (codes "const") (codes "extern") ts refl f))
    (λ f. word_opens (codes "fn") ts f (other_word (codes "const") (codes "fn") ts refl f))
    (either_seen ((at "extern") ts) ((at "fn") ts) h))
    (either_seen ((at "unsafe") ts) ((at "extern" or at "fn") ts) g))
    (either_seen ((at "for") ts) ((at "unsafe" or at "extern" or at "fn") ts) e)

path_word : (cs : List ℕ) (us : List Token) → is_path_keyword cs ≡ true → LacksAll openers (Ident cs ∷ us)
unfolding is_path_keyword
path_word cs us e = (
  refl,
  (
    refl,
    (
      of_all (λ ts. Lacks (at "const") ts) (the_words keywords) (Ident cs ∷ us)
          (λ us. refl, (λ us. refl, (λ us. refl, tt))) (words_are keywords cs us e),
      (refl, tt),
    ),
  ),
)

segments_open : (x : Tree) (s : List Token) → Derives x (table (Segments AtType)) s → LacksAll openers (flat x ++ s)
unfolding table
segments_open (First (Pair (AWord cs) y)) s d = path_word cs (flat y ++ s) d.1.0
segments_open (First (Pair _ y)) s d = absurd d.1.0
segments_open (First _) s d = absurd d.1
segments_open (Second (Pair (AWord cs) y)) s d = (
  refl,
  (
    refl,
    (
      ap (λ b. seen (cond b (Some (flat y ++ s)) None)) (name_not (codes "const") cs reserved_const refl d.1.0),
      (refl, tt),
    ),
  ),
)
segments_open (Second (Pair _ y)) s d = absurd d.1.0
segments_open (Second _) s d = absurd d.1
segments_open _ s d = absurd d

path_opens : (x : Tree) (s : List Token) → Derives x (table (Path AtType)) s → LacksAll openers (flat x ++ s)
unfolding table
path_opens (Pair (First m) y) s d =
    subst (LacksAll openers) (sym (append_assoc (flat m) (flat y) s))
    (mark_opens 58 (58 ∷ []) (flat m ++ (flat y ++ s)) refl refl refl d.0.0)
path_opens (Pair (Second Nil) (Node k y)) s d = segments_open y s (subst (λ j. Derives y (table j) s) d.1.0 d.1.1)
path_opens (Pair (Second Nil) _) s d = absurd d.1
path_opens (Pair (Second _) y) s d = absurd d.0.1
path_opens (Pair _ y) s d = absurd d.0
path_opens _ s d = absurd d

any_opens : (x : Tree) (s : List Token) → Derives x (table (AnyPath AtType)) s → LacksAll openers (flat x ++ s)
unfolding table
any_opens (First x) s d = mark_opens 60 [] (flat x ++ s) refl refl refl d.0
any_opens (Second (Node k y)) s d = path_opens y s (subst (λ j. Derives y (table j) s) d.1.0 d.1.1)
any_opens (Second _) s d = absurd d.1
any_opens _ s d = absurd d

entry_opens : (p : Plus) (x : Tree) (s : List Token) → Derives x (type_entry p) s → LacksAll openers (flat x ++ s)
entry_opens p (First x) s d = group_opens Parenthesis (flat x ++ s) d.0
entry_opens p (Second (First x)) s d = mark_opens 33 [] (flat x ++ s) refl refl refl d.1.0
entry_opens p (Second (Second (First x))) s d = mark_opens 38 [] (flat x ++ s) refl refl refl d.1.1.0
entry_opens p (Second (Second (Second (First x)))) s d = mark_opens 42 [] (flat x ++ s) refl refl refl d.1.1.1.0
entry_opens p (Second (Second (Second (Second (First x))))) s d = group_opens Bracket (flat x ++ s) d.1.1.1.1.0
entry_opens p (Second (Second (Second (Second (Second (First x)))))) s d = word_opens (codes "_") (flat x ++ s)
    d.1.1.1.1.1.0 (other_word (codes "const") (codes "_") (flat x ++ s) refl d.1.1.1.1.1.0)
entry_opens p (Second (Second (Second (Second (Second (Second (First x))))))) s d = word_opens (codes "dyn")
    (flat x ++ s) d.1.1.1.1.1.1.0 (other_word (codes "const") (codes "dyn") (flat x ++ s) refl d.1.1.1.1.1.1.0)
entry_opens p (Second (Second (Second (Second (Second (Second (Second (First x)))))))) s d = word_opens
    (codes "impl") (flat x ++ s) d.1.1.1.1.1.1.1.0
    (other_word (codes "const") (codes "impl") (flat x ++ s) refl d.1.1.1.1.1.1.1.0)
entry_opens p (Second (Second (Second (Second (Second (Second (Second (Second (First x))))))))) s d = pointer_opens
    (flat x ++ s) d.1.1.1.1.1.1.1.1.0
entry_opens p (Second (Second (Second (Second (Second (Second (Second (Second (Second (Node k y)))))))))) s d =
    any_opens y s (subst (λ j. Derives y (table j) s) d.1.1.1.1.1.1.1.1.1.0 d.1.1.1.1.1.1.1.1.1.1)
entry_opens p (Second (Second (Second (Second (Second (Second (Second (Second (Second _))))))))) s d = absurd
    d.1.1.1.1.1.1.1.1.1
entry_opens p (Second (Second (Second (Second (Second (Second (Second (Second _)))))))) s d = absurd d.1.1.1.1.1.1.1.1
entry_opens p (Second (Second (Second (Second (Second (Second (Second _))))))) s d = absurd d.1.1.1.1.1.1.1
entry_opens p (Second (Second (Second (Second (Second (Second _)))))) s d = absurd d.1.1.1.1.1.1
entry_opens p (Second (Second (Second (Second (Second _))))) s d = absurd d.1.1.1.1.1
entry_opens p (Second (Second (Second (Second _)))) s d = absurd d.1.1.1.1
entry_opens p (Second (Second (Second _))) s d = absurd d.1.1.1
entry_opens p (Second (Second _)) s d = absurd d.1.1
entry_opens p (Second _) s d = absurd d.1
entry_opens p _ s d = absurd d

type_opens : (x : Tree) (s : List Token) → Derives x (ref (AType WithPlus)) s → LacksAll openers (flat x ++ s)
unfolding table
type_opens (Node k y) s d = entry_opens WithPlus y s (subst (λ j. Derives y (table j) s) d.0 d.1)
type_opens _ s d = absurd d

-- behind the name of a parameter stands nothing that goes on with a type
colons_behind : (ts : List Token) → sees (marks "::") ts ≡ true → Lacks behind_name ts
colons_behind ts e =
    none_of ((marks ">") ts) ((marks "," or marks "=" or colon) ts) (mark_other 58 62 (58 ∷ []) ts refl e)
    (none_of ((marks ",") ts) ((marks "=" or colon) ts) (mark_other 58 44 (58 ∷ []) ts refl e)
    (none_of ((marks "=") ts) (colon ts) (mark_other 58 61 (58 ∷ []) ts refl e) (no_colon_colons ts e)))

angle_only : (ts : List Token) → sees (marks "<") ts ≡ true → Lacks colon ts → Lacks behind_name ts
angle_only ts e f =
    none_of ((marks ">") ts) ((marks "," or marks "=" or colon) ts) (mark_other 60 62 [] ts refl e)
    (none_of ((marks ",") ts) ((marks "=" or colon) ts) (mark_other 60 44 [] ts refl e)
    (none_of ((marks "=") ts) (colon ts) (mark_other 60 61 [] ts refl e) f))

angle_behind : (ts : List Token) → sees (arguments_stand AtType) ts ≡ true → Lacks behind_name ts
angle_behind ts e =
    ⊎_elim (λ f. colons_behind ts (front_seen ((marks "::") ts) (marks "<") f))
    (λ f. angle_only ts (none_seen ((marks "<=") ts) (marks "<") ts f) (no_colon_angle ts e))
    (either_seen ((marks "::" then marks "<") ts) ((no (marks "<=") then marks "<") ts) e)

group_behind : (ts : List Token) → sees parenthesis ts ≡ true → Lacks behind_name ts
group_behind (Opens d ∷ ts) h = refl
group_behind _ h = cc

word_behind : (p : List ℕ → Bool) (ts : List Token) → sees (a_word p) ts ≡ true → Lacks behind_name ts
word_behind p (Ident cs ∷ ts) h = refl
word_behind p _ h = cc

-- so a type is no parameter, unless it is one Ident
tick_none : (o p : Option (List Token)) (l : Look) → seen o ≡ false → seen (past p l) ≡ false
    → seen (past (first_seen o p) l) ≡ false
tick_none None p l e f = f
tick_none (Some us) p l e f = cc

type_inside : (x : Tree) (s : List Token) → Derives x (ref (AType WithPlus)) s
    → (is_ident_type (kept x) ≡ true → Lacks behind_name s) → Lacks inside_stands (flat x ++ s)
type_inside x s d h =
    let ts : List Token = flat x ++ s in
    let o : LacksAll openers ts = type_opens x s d in
    none_of ((marks ">") ts) (param_stands ts) o.0
    (none_of ((marks "#") ts) ((at "const" or ((a_lifetime or an_ident) then behind_name)) ts) o.1.0
    (none_of ((at "const") ts) (((a_lifetime or an_ident) then behind_name) ts) o.1.1.0
    (tick_none (a_lifetime ts) (an_ident ts) behind_name o.1.1.1.0
    (long_next behind_name colons_behind angle_behind group_behind x s d h))))

-- where no < stands, no generics do
pub angle_none : (ts : List Token) → Lacks (marks "<") ts → Lacks impl_generics_stand ts
angle_none ts e = go ((marks "<") ts) e
  where
    go : (o : Option (List Token)) → seen o ≡ false → seen (past o inside_stands) ≡ false
    go None e = refl
    go (Some us) e = cc

group_generics : (d : Delimiter) (ts : List Token) → sees (opens d) ts ≡ true → Lacks impl_generics_stand ts
group_generics d (Opens e ∷ ts) h = refl
group_generics d _ h = cc

word_generics : (p : List ℕ → Bool) (ts : List Token) → sees (a_word p) ts ≡ true → Lacks impl_generics_stand ts
word_generics p (Ident cs ∷ ts) h = refl
word_generics p _ h = cc

pointer_generics : (ts : List Token) → sees (at "for" or at "unsafe" or at "extern" or at "fn") ts ≡ true
    → Lacks impl_generics_stand ts
pointer_generics (Ident cs ∷ ts) e = refl
pointer_generics _ e = cc

opened : (c : ℕ) (cs : List ℕ) (i : Spacing) (ts : List Token) → c ≡ 60 → cs ≡ [] → Lacks inside_stands ts
    → Lacks impl_generics_stand (signs c cs i ++ ts)
opened c cs i ts e f h =
    subst (λ d. Lacks impl_generics_stand (signs d cs i ++ ts)) (sym e)
    (subst (λ ds. Lacks impl_generics_stand (signs 60 ds i ++ ts)) (sym f) h)

abbrev pub in_angles : Tree → Tree
in_angles x = Node (AnyPath AtType) (First (Node (QualifiedPath AtType) x))

not_bracketed : (b : Bool) (ts : List Token) → b ≡ false → b ≡ true → Lacks behind_name ts
not_bracketed true ts e f = cc
not_bracketed false ts e f = cc

qualified : (x : Tree) (s : List Token) → Derives x (table (QualifiedPath AtType)) s
    → is_bracketed (kept (in_angles x)) ≡ false → Lacks impl_generics_stand (flat x ++ s)
unfolding table held
qualified (Pair (AMark c cs i) (Pair y (Pair (First a) r))) s d e =
    subst (Lacks impl_generics_stand)
    (sym (append_assoc (signs c cs i) (flat y ++ (flat a ++ flat r)) s
    ∙ ap (λ us. signs c cs i ++ us) (append_assoc (flat y) (flat a ++ flat r) s)))
    (opened c cs i (flat y ++ ((flat a ++ flat r) ++ s)) d.0.0 d.0.1
    (type_inside y ((flat a ++ flat r) ++ s) d.1.0
    (λ k. subst (Lacks behind_name) (sym (append_assoc (flat a) (flat r) s))
    (word_behind _ (flat a ++ (flat r ++ s)) d.1.1.0.0))))
qualified (Pair (AMark c cs i) (Pair y (Pair (Second Nil) r))) s d e =
    subst (Lacks impl_generics_stand)
    (sym (append_assoc (signs c cs i) (flat y ++ flat r) s
    ∙ ap (λ us. signs c cs i ++ us) (append_assoc (flat y) (flat r) s)))
    (opened c cs i (flat y ++ (flat r ++ s)) d.0.0 d.0.1
    (type_inside y (flat r ++ s) d.1.0 (λ k. not_bracketed (is_ident_type (kept y)) (flat r ++ s) e k)))
qualified (Pair (AMark c cs i) (Pair y (Pair (Second _) r))) s d e = absurd d.1.1.0.1
qualified (Pair (AMark c cs i) (Pair y (Pair _ r))) s d e = absurd d.1.1.0
qualified (Pair (AMark c cs i) (Pair y _)) s d e = absurd d.1.1
qualified (Pair (AMark c cs i) _) s d e = absurd d.1
qualified (Pair _ y) s d e = absurd d.0
qualified _ s d e = absurd d

any_generics : (x : Tree) (s : List Token) → Derives x (table (AnyPath AtType)) s
    → is_bracketed (kept (Node (AnyPath AtType) x)) ≡ false → Lacks impl_generics_stand (flat x ++ s)
unfolding table held
any_generics (First (Node k y)) s d e =
    qualified y s (subst (λ j. Derives y (table j) s) d.1.0 d.1.1)
    (subst (λ j. is_bracketed (kept (Node (AnyPath AtType) (First (Node j y)))) ≡ false) d.1.0 e)
any_generics (First _) s d e = absurd d.1
any_generics (Second x) s d e = angle_none (flat x ++ s) d.0
any_generics _ s d e = absurd d

entry_generics : (p : Plus) (x : Tree) (s : List Token) → Derives x (type_entry p) s
    → is_bracketed (choice (kept x)) ≡ false → Lacks impl_generics_stand (flat x ++ s)
entry_generics p (First x) s d e = group_generics Parenthesis (flat x ++ s) d.0
entry_generics p (Second (First x)) s d e = angle_none (flat x ++ s) (mark_other 33 60 [] (flat x ++ s) refl d.1.0)
entry_generics p (Second (Second (First x))) s d e = angle_none (flat x ++ s)
    (mark_other 38 60 [] (flat x ++ s) refl d.1.1.0)
entry_generics p (Second (Second (Second (First x)))) s d e = angle_none (flat x ++ s)
    (mark_other 42 60 [] (flat x ++ s) refl d.1.1.1.0)
entry_generics p (Second (Second (Second (Second (First x))))) s d e = group_generics Bracket (flat x ++ s) d.1.1.1.1.0
entry_generics p (Second (Second (Second (Second (Second (First x)))))) s d e = word_generics _ (flat x ++ s)
    d.1.1.1.1.1.0
entry_generics p (Second (Second (Second (Second (Second (Second (First x))))))) s d e = word_generics _
    (flat x ++ s) d.1.1.1.1.1.1.0
entry_generics p (Second (Second (Second (Second (Second (Second (Second (First x)))))))) s d e = word_generics _
    (flat x ++ s) d.1.1.1.1.1.1.1.0
entry_generics p (Second (Second (Second (Second (Second (Second (Second (Second (First x))))))))) s d e =
    pointer_generics (flat x ++ s) d.1.1.1.1.1.1.1.1.0
entry_generics p (Second (Second (Second (Second (Second (Second (Second (Second (Second (Node k y)))))))))) s d e =
    any_generics y s (subst (λ j. Derives y (table j) s) d.1.1.1.1.1.1.1.1.1.0 d.1.1.1.1.1.1.1.1.1.1)
    (subst (λ j. is_bracketed (kept (Node j y)) ≡ false) d.1.1.1.1.1.1.1.1.1.0 e)
entry_generics p (Second (Second (Second (Second (Second (Second (Second (Second (Second _))))))))) s d e = absurd
    d.1.1.1.1.1.1.1.1.1
entry_generics p (Second (Second (Second (Second (Second (Second (Second (Second _)))))))) s d e = absurd
    d.1.1.1.1.1.1.1.1
entry_generics p (Second (Second (Second (Second (Second (Second (Second _))))))) s d e = absurd d.1.1.1.1.1.1.1
entry_generics p (Second (Second (Second (Second (Second (Second _)))))) s d e = absurd d.1.1.1.1.1.1
entry_generics p (Second (Second (Second (Second (Second _))))) s d e = absurd d.1.1.1.1.1
entry_generics p (Second (Second (Second (Second _)))) s d e = absurd d.1.1.1.1
entry_generics p (Second (Second (Second _))) s d e = absurd d.1.1.1
entry_generics p (Second (Second _)) s d e = absurd d.1.1
entry_generics p (Second _) s d e = absurd d.1
entry_generics p _ s d e = absurd d

-- a type that begins with no < Ident > begins no generics
pub type_generics : (x : Tree) (s : List Token) → Derives x (ref (AType WithPlus)) s → begins_bracketed (kept x) ≡ false
    → Lacks impl_generics_stand (flat x ++ s)
unfolding table held
type_generics (Node k y) s d e =
    entry_generics WithPlus y s (subst (λ j. Derives y (table j) s) d.0 d.1)
    (subst (λ j. begins_bracketed (kept (Node j y)) ≡ false) d.0 e)
type_generics _ s d e = absurd d

-- What was read: a type that is one Ident, and one that begins with < Ident >.
abbrev pub IsIdent : Tree → Type 0
IsIdent x = (cs : List ℕ) × (is_ident cs ≡ true) × (flat x ≡ Ident cs ∷ [])

ident_segment : (x : Tree) (k : Style) (s : List Token) → Derives x (table (Segments k)) s
    → is_lone_segment (normal_in Plain (kept (Node (Segments k) x))) ≡ true → IsIdent x
unfolding table held passed
ident_segment (First x) k s d e = absurd (false≢true e)
ident_segment (Second (Pair (AWord cs) (First x))) k s d e = absurd (false≢true e)
ident_segment (Second (Pair (AWord cs) (Second (First x)))) k s d e = absurd (false≢true e)
ident_segment (Second (Pair (AWord cs) (Second (Second (First x))))) k s d e = absurd (false≢true e)
ident_segment (Second (Pair (AWord cs) (Second (Second (Second Nil))))) k s d e = (cs, e, refl)
ident_segment (Second (Pair (AWord cs) (Second (Second (Second _))))) k s d e = absurd d.1.1.1.1.1
ident_segment (Second (Pair (AWord cs) (Second (Second _)))) k s d e = absurd d.1.1.1.1
ident_segment (Second (Pair (AWord cs) (Second _))) k s d e = absurd d.1.1.1
ident_segment (Second (Pair (AWord cs) _)) k s d e = absurd d.1.1
ident_segment (Second (Pair _ y)) k s d e = absurd d.1.0
ident_segment (Second _) k s d e = absurd d.1
ident_segment _ k s d e = absurd d

ident_path : (x : Tree) (k j : Style) (s : List Token) → Derives x (table (Path k)) s
    → is_lone_path (normal_in Plain (kept (Node (AnyPath j) (Second (Node (Path k) x))))) ≡ true → IsIdent x
unfolding table held passed
ident_path (Pair (First m) y) k j s d e = absurd (false≢true e)
ident_path (Pair (Second Nil) (Node l y)) k j s d e =
    ident_segment y k s (subst (λ i. Derives y (table i) s) d.1.0 d.1.1)
    (subst (λ i. is_lone_segment (normal_in Plain (kept (Node i y))) ≡ true) d.1.0 e)
ident_path (Pair (Second Nil) _) k j s d e = absurd d.1
ident_path (Pair (Second _) y) k j s d e = absurd d.0.1
ident_path (Pair _ y) k j s d e = absurd d.0
ident_path _ k j s d e = absurd d

ident_any : (x : Tree) (k : Style) (s : List Token) → Derives x (table (AnyPath k)) s
    → is_lone_path (normal_in Plain (kept (Node (AnyPath k) x))) ≡ true → IsIdent x
unfolding table held passed
ident_any (First x) k s d e = absurd (false≢true e)
ident_any (Second (Node l y)) k s d e =
    ident_path y k k s (subst (λ i. Derives y (table i) s) d.1.0 d.1.1)
    (subst (λ i. is_lone_path (normal_in Plain (kept (Node (AnyPath k) (Second (Node i y))))) ≡ true) d.1.0 e)
ident_any (Second _) k s d e = absurd d.1
ident_any _ k s d e = absurd d

ident_node : (k : Kind) (x : Tree) (s : List Token) → Derives x (table k) s
    → is_lone_path (normal_in Plain (kept (Node k x))) ≡ true → IsIdent x
unfolding held passed
ident_node (AnyPath k) x s d e = ident_any x k s d e
ident_node _ x s d e = absurd (false≢true e)

ident_read : (x : Tree) (g : Gram) (s : List Token) → Derives x g s
    → is_lone_path (choice (normal_in Plain (kept x))) ≡ true → IsIdent x
ident_read (First x) (alt t a b) s d e = ident_read x a s d.1 e
ident_read (First x) (judged v g) s d e = ident_read x g s d.1 e
ident_read (Second x) (alt t a b) s d e = ident_read x b s d.1 e
ident_read (Node k x) (ref l) s d e = ident_node k x s d.1 e
ident_read (First x) _ s d e = absurd d
ident_read (Second x) _ s d e = absurd d
ident_read (Node k x) _ s d e = absurd d
ident_read (Back l k y) _ s d e = absurd d
ident_read _ _ s d e = absurd (false≢true e)

one_ident : (c e : ℕ) (cs es ds : List ℕ) (i k : Spacing) (x r : Tree) (s : List Token) → c ≡ 60 → cs ≡ [] → e ≡ 62
    → es ≡ [] → flat x ≡ Ident ds ∷ [] → is_ident ds ≡ true
    → sees impl_generics_stand ((signs c cs i ++ (flat x ++ (signs e es k ++ flat r))) ++ s) ≡ true
one_ident c e cs es ds i k x r s a b f g h n =
    subst (λ d. sees impl_generics_stand ((signs d cs i ++ (flat x ++ (signs e es k ++ flat r))) ++ s) ≡ true) (sym a)
    (subst (λ ks. sees impl_generics_stand ((signs 60 ks i ++ (flat x ++ (signs e es k ++ flat r))) ++ s) ≡ true)
    (sym b)
    (subst (λ d. sees impl_generics_stand ((signs 60 [] i ++ (flat x ++ (signs d es k ++ flat r))) ++ s) ≡ true) (sym f)
    (subst (λ ks. sees impl_generics_stand ((signs 60 [] i ++ (flat x ++ (signs 62 ks k ++ flat r))) ++ s) ≡ true)
    (sym g)
    (subst (λ us. sees impl_generics_stand ((signs 60 [] i ++ (us ++ (signs 62 [] k ++ flat r))) ++ s) ≡ true) (sym h)
    (ident_seen ds (Punct 62 k ∷ flat r ++ s) n refl)))))

bracketed_path : (x : Tree) (k j : Style) (s : List Token) → Derives x (table (QualifiedPath k)) s
    → is_bracketed (normal_in Plain (kept (Node (AnyPath j) (First (Node (QualifiedPath k) x))))) ≡ true
    → sees impl_generics_stand (flat x ++ s) ≡ true
unfolding table held passed
bracketed_path (Pair (AMark c cs i) (Pair (Node l z) (Pair (Second Nil) (Pair (AMark m ms n) r)))) k j s d e =
    let (ds, h, f) = ident_read z (table l) ((signs m ms n ++ flat r) ++ s) d.1.0.1
    (subst (λ a. is_ident_type (normal_in Plain (kept (Node a z))) ≡ true) d.1.0.0 e) in
    one_ident c m cs ms ds i n z r s d.0.0 d.0.1 d.1.1.1.0.0 d.1.1.1.0.1 f h
bracketed_path (Pair (AMark c cs i) (Pair (Node l z) (Pair (Second Nil) (Pair _ r)))) k j s d e = absurd d.1.1.1.0
bracketed_path (Pair (AMark c cs i) (Pair (Node l z) (Pair (Second Nil) _))) k j s d e = absurd d.1.1.1
bracketed_path (Pair (AMark c cs i) (Pair (Node l z) (Pair (Second _) r))) k j s d e = absurd d.1.1.0.1
bracketed_path (Pair (AMark c cs i) (Pair (Node l z) (Pair (First a) r))) k j s d e = absurd (false≢true e)
bracketed_path (Pair (AMark c cs i) (Pair (Node l z) (Pair _ r))) k j s d e = absurd d.1.1.0
bracketed_path (Pair (AMark c cs i) (Pair (Node l z) _)) k j s d e = absurd d.1.1
bracketed_path (Pair (AMark c cs i) (Pair _ y)) k j s d e = absurd d.1.0
bracketed_path (Pair (AMark c cs i) _) k j s d e = absurd d.1
bracketed_path (Pair _ y) k j s d e = absurd d.0
bracketed_path _ k j s d e = absurd d

bracketed_any : (x : Tree) (k : Style) (s : List Token) → Derives x (table (AnyPath k)) s
    → is_bracketed (normal_in Plain (kept (Node (AnyPath k) x))) ≡ true
    → sees impl_generics_stand (flat x ++ s) ≡ true
unfolding table held passed
bracketed_any (First (Node l y)) k s d e =
    bracketed_path y k k s (subst (λ i. Derives y (table i) s) d.1.0 d.1.1)
    (subst (λ i. is_bracketed (normal_in Plain (kept (Node (AnyPath k) (First (Node i y))))) ≡ true) d.1.0 e)
bracketed_any (First _) k s d e = absurd d.1
bracketed_any (Second x) k s d e = absurd (false≢true e)
bracketed_any _ k s d e = absurd d

bracketed_node : (k : Kind) (x : Tree) (s : List Token) → Derives x (table k) s
    → is_bracketed (normal_in Plain (kept (Node k x))) ≡ true → sees impl_generics_stand (flat x ++ s) ≡ true
unfolding held passed
bracketed_node (AnyPath k) x s d e = bracketed_any x k s d e
bracketed_node _ x s d e = absurd (false≢true e)

pub bracketed_read : (x : Tree) (g : Gram) (s : List Token) → Derives x g s
    → is_bracketed (choice (normal_in Plain (kept x))) ≡ true → sees impl_generics_stand (flat x ++ s) ≡ true
bracketed_read (First x) (alt t a b) s d e = bracketed_read x a s d.1 e
bracketed_read (First x) (judged v g) s d e = bracketed_read x g s d.1 e
bracketed_read (Second x) (alt t a b) s d e = bracketed_read x b s d.1 e
bracketed_read (Node k x) (ref l) s d e = bracketed_node k x s d.1 e
bracketed_read (First x) _ s d e = absurd d
bracketed_read (Second x) _ s d e = absurd d
bracketed_read (Node k x) _ s d e = absurd d
bracketed_read (Back l k y) _ s d e = absurd d
bracketed_read _ _ s d e = absurd (false≢true e)

-- a path that isn't qualified doesn't
pub path_open : (x : Tree) → is_path (choice x) ≡ true → is_bracketed (choice (normal_in Plain (kept x))) ≡ false
unfolding held passed
path_open (First x) e = path_open x e
path_open (Second x) e = path_open x e
path_open (Node (AnyPath s) (Second x)) e = refl
path_open _ e = absurd (false≢true e)

-- and a ! before which no polarity was seen stands before braces
never_node : (k : Kind) (x : Tree) (s : List Token) → Derives x (table k) s
    → is_never (normal_in Plain (kept (Node k x))) ≡ true → Lacks (marks "!" then no brace) (flat x ++ s)
    → sees brace s ≡ true
unfolding table held passed
never_node NeverType (AMark c cs i) s d e h = bang c cs i d.0 d.1 h
  where
    not_no : (b : Bool) → seen (cond b None (Some s)) ≡ false → b ≡ true
    not_no true e = refl
    not_no false e = cc

    bang : (c : ℕ) (cs : List ℕ) (i : Spacing) → c ≡ 33 → cs ≡ []
        → Lacks (marks "!" then no brace) (signs c cs i ++ s) → sees brace s ≡ true
    bang c cs i e f h =
        not_no (seen (brace s))
        (subst (λ ks. Lacks (marks "!" then no brace) (signs 33 ks i ++ s)) f
        (subst (λ k. Lacks (marks "!" then no brace) (signs k cs i ++ s)) e h))
never_node NeverType _ s d e h = absurd d
never_node _ x s d e h = absurd (false≢true e)

pub never_read : (x : Tree) (g : Gram) (s : List Token) → Derives x g s
    → is_never (choice (normal_in Plain (kept x))) ≡ true → Lacks (marks "!" then no brace) (flat x ++ s)
    → sees brace s ≡ true
never_read (First x) (alt t a b) s d e h = never_read x a s d.1 e h
never_read (First x) (judged v g) s d e h = never_read x g s d.1 e h
never_read (Second x) (alt t a b) s d e h = never_read x b s d.1 e h
never_read (Node k x) (ref l) s d e h = never_node k x s d.1 e h
never_read (First x) _ s d e h = absurd d
never_read (Second x) _ s d e h = absurd d
never_read (Node k x) _ s d e h = absurd d
never_read (Back l k y) _ s d e h = absurd d
never_read _ _ s d e h = absurd (false≢true e)
