-- The step and the law of a type, whose where clause stands before its definition or behind it.
use Rattle.std.proofs.Common.{◌≡◌, ℕ, List, [], ◌∷◌, ◌++◌, refl, sym, ap, ◌∙◌, subst, append_assoc, inl, inr}
use Rattle.std.specs.Prelude.{Bool, true, false, ◌||◌, not, codes, cond}
use Rattle.proc_macro2.specs.Token.{Token}
use Rattle.rust_leaf.specs.declared.punct.Spacing.{Spacing}
use Rattle.syn_grammar.specs.Kind.{Plain, ATypeAlias, AType, AtType, BoundsColon, Generics, InFile}
use Rattle.syn_grammar.specs.Kind.{InForeign, Where, WithPlus}
use Rattle.syn_grammar.specs.Name.{Part, same_part, the_value, the_where}
use Rattle.syn_grammar.specs.Words.{is_ident, is_name, is_path_keyword}
use Rattle.syn_grammar.specs.Tree.{Tree, AMark, Nil, Pair, First, Second, Called, Node, marks as signs, flat}
use Rattle.syn_grammar.specs.Part.{changed}
use Rattle.syn_grammar.specs.Gram.{Gram, ref}
use Rattle.syn_grammar.specs.Look.{a_lifetime, a_word, no, sees}
use Rattle.syn_grammar.specs.Say.{◌∶◌, ◌▸◌, at, marks, sign}
use Rattle.syn_grammar.specs.Paths.{arguments_stand, parentheses_stand}
use Rattle.syn_grammar.specs.Types.{bound_stands}
use Rattle.syn_grammar.specs.Generics.{where_ends}
use Rattle.syn_grammar.specs.Items.{definition, type_alias, type_end}
use Rattle.syn_grammar.specs.Ranks.{skips}
use Rattle.syn_grammar.specs.Table.{table}
use Rattle.syn_grammar.specs.Derives.{Derives}
use Rattle.syn_grammar.specs.Kept.{held, is_there, kept}
use Rattle.syn_grammar.specs.Tidy.{is_absent, moved}
use Rattle.syn_grammar.specs.Normal.{passed, place_of, normal_in}
use Rattle.laws_reread_kinds.proofs.Choices.{or_same}
use Rattle.laws_reread_kinds.specs.Covered.{has_step}
use Rattle.laws_reread_kinds.specs.Sees.{Lacks, LacksAll}
use Rattle.laws_reread_kinds.proofs.Classes.{AnyWord, Class, IsAmong, Sign, TheWord, ◌&◌, of_all}
use Rattle.laws_reread_kinds.proofs.Starts.{starts}
use Rattle.laws_reread_kinds.proofs.Keywords.{reserved_where}
use Rattle.laws_reread_kinds.proofs.Fits.{Fits, IsMeant, back, has_own_place, has_own_where}
use Rattle.laws_reread_kinds.proofs.Readies.{Ready, Step}
use Rattle.laws_reread_kinds.proofs.Fine.{At, Edge, Fine, fine_weaker}
use Rattle.laws_reread_kinds.proofs.Parts.{Found, Maybe, fine_ahead, found_called, found_mark, found_optional}
use Rattle.laws_reread_kinds.proofs.Parts.{found_ref, found_seq, found_text, found_word, maybe_ahead, maybe_both}
use Rattle.laws_reread_kinds.proofs.Parts.{maybe_called, maybe_ref, maybe_seq, meant_step, weaken_maybe}
use Rattle.laws_reread_kinds.proofs.Printed.{KindLaw, Printed, simple_law}
use Rattle.laws_reread_kinds.proofs.KindLaws.{chosen_fits}
use Rattle.laws_reread_kinds.proofs.Seconds.{mark_is_none}
use Rattle.laws_reread_kinds.proofs.Tidied.{as_it_is, changed_printed, chosen, meant_law}

abbrev pub a_where : Gram
a_where = the_where ∶ ref Where

-- a where clause that is there, or isn't
where_in : (c : Tree) (us : List Token) (n : Part) → Derives c (table Where) us → is_absent (Called n (Node Where c)) ≡
    false
    → sees (at "where") (flat c ++ us) ≡ true
unfolding table
where_in (First c) us n d e = d.0
where_in (Second c) us n d e = cc e
where_in _ us n d e = absurd d

where_seen : (w : Tree) (us : List Token) → Derives w a_where us → is_absent w ≡ false
    → sees (at "where") (flat w ++ us) ≡ true
where_seen (Called n (Node k c)) us d e =
    where_in c us n (subst (λ j. Derives c (table j) us) d.1.0 d.1.1)
    (subst (λ j. is_absent (Called n (Node j c)) ≡ false) d.1.0 e)
where_seen (Called n _) us d e = absurd d.1
where_seen _ us d e = absurd d

absent_in : (c : Tree) (n : Part) → Fits c (table Where) → is_absent (Called n (Node Where c)) ≡ true → flat c ≡ []
unfolding table
absent_in (First c) n f e = cc e
absent_in (Second Nil) n f e = refl
absent_in (Second _) n f e = absurd f.1
absent_in _ n f e = absurd f

pub absent_flat : (w : Tree) → Fits w a_where → is_absent w ≡ true → flat w ≡ []
absent_flat (Called n (Node k c)) f e =
    absent_in c n (subst (λ j. Fits c (table j)) f.1.0 f.1.3)
    (subst (λ j. is_absent (Called n (Node j c)) ≡ true) f.1.0 e)
absent_flat (Called n _) f e = absurd f.1
absent_flat _ f e = absurd f

sign_no_word : (p : List ℕ → Bool) (c : ℕ) (cs : List ℕ) (spacing : Spacing) (ts : List Token)
    → Lacks (a_word p) (signs c cs spacing ++ ts)
sign_no_word p c [] spacing ts = refl
sign_no_word p c (x ∷ xs) spacing ts = refl

-- behind the definition none stands before it
unplaced : (z e : Tree) (s : List Token) → Derives z (definition ▸ a_where) (flat e ++ s)
    → Fits z (definition ▸ a_where) → Derives e (sign ";") s → has_own_place (Second z) ≡ true
    → Lacks (at "where") (flat z ++ (flat e ++ s))
unplaced (Pair (First d) w) e s h f g m =
    subst (Lacks (at "where")) (sym (append_assoc (flat d) (flat w) (flat e ++ s)))
    (mark_is_none _ 61 [] (flat d ++ (flat w ++ (flat e ++ s))) h.0.0)
unplaced (Pair (Second Nil) w) (AMark c cs spacing) s h f g m =
    subst (λ us. Lacks (at "where") (us ++ (signs c cs spacing ++ s))) (sym (absent_flat w f.1 m))
    (sign_no_word _ c cs spacing s)
unplaced (Pair (Second Nil) w) _ s h f g m = absurd g
unplaced (Pair (Second _) w) e s h f g m = absurd h.0.1
unplaced (Pair _ w) e s h f g m = absurd h.0
unplaced _ e s h f g m = absurd h

placed : (z e : Tree) (s : List Token) → Derives z (a_where ▸ definition) (flat e ++ s)
    → has_own_place (First z) ≡ true → sees (at "where") (flat z ++ (flat e ++ s)) ≡ true
placed (Pair w d) e s h m =
    ap (sees (at "where")) (append_assoc (flat w) (flat d) (flat e ++ s))
    ∙ where_seen w (flat d ++ (flat e ++ s)) h.0 (not_absent (is_absent w) m)
  where
    not_absent : (b : Bool) → not b ≡ true → b ≡ false
    not_absent false e = refl
    not_absent true e = cc
placed _ e s h m = absurd h

-- the definition and the where clause, in either order
abbrev pub end_classes : List Class
end_classes = TheWord (codes "where") ∷ Sign 61 [] ∷ Sign 59 [] ∷ []

maybe_definition : Maybe definition
    (marks "=" ∷ marks "::" ∷ arguments_stand AtType ∷ parentheses_stand AtType ∷ marks "->" ∷ bound_stands
    ∷ marks "+" ∷ []) (Sign 61 [] ∷ [])
unfolding skips
maybe_definition =
    (found_optional (marks "=") (found_seq found_mark (found_called (found_ref (AType WithPlus) refl)) tt)
    (λ us. refl, tt))

found_first : Found ((a_where ▸ definition) ▸ sign ";") [] end_classes
unfolding skips
found_first = (maybe_seq (maybe_both (maybe_called (maybe_ref Where refl)) (weaken_maybe
    (marks "=" ∷ marks "::" ∷ arguments_stand AtType ∷ parentheses_stand AtType ∷ marks "->" ∷ bound_stands ∷ marks "+"
    ∷ at "where" ∷ no where_ends ∷ marks "," ∷ a_lifetime ∷ []) maybe_definition
    (λ s a. (a.0, (a.1.0, (a.1.1.0, (a.1.1.1.0, (a.1.1.1.1.0, (a.1.1.1.1.1.0, (a.1.1.1.1.1.1.0, tt))))))))) (search)
    (λ s a. (
      a.1.1.1.1.1.1.1.0,
      (
        a.1.1.1.1.1.1.1.1.0,
        (
          a.1.1.1.1.1.1.1.1.1.0,
          (
            a.1.1.1.1.1.1.1.1.1.1.0,
            (
              a.1.1.1.1.1.1.0,
              (a.1.1.1.1.1.0, (a.1.0, (a.1.1.0, (a.1.1.1.0, (a.1.1.1.1.0, tt))))),
            ),
          ),
        ),
      ),
    ))) found_mark (search))

found_second : Found ((definition ▸ a_where) ▸ sign ";") []
    (Sign 61 [] ∷ TheWord (codes "where") ∷ Sign 59 [] ∷ [])
unfolding skips is_name is_path_keyword
found_second = (maybe_seq (maybe_both maybe_definition
    (weaken_maybe ((at "where") ∷ (no where_ends) ∷ (marks ",") ∷ a_lifetime ∷ (marks "+") ∷ bound_stands ∷
    (marks "::") ∷ (arguments_stand AtType) ∷ (parentheses_stand AtType) ∷ (marks "->") ∷ (marks "=") ∷ [])
    (maybe_called (maybe_ref Where refl))
    (λ s a. (
      a.0,
      (
        a.1.0,
        (
          a.1.1.0,
          (
            a.1.1.1.0,
            (
              a.1.1.1.1.0,
              (
                a.1.1.1.1.1.0,
                (a.1.1.1.1.1.1.0, (a.1.1.1.1.1.1.1.0, (a.1.1.1.1.1.1.1.1.0, (a.1.1.1.1.1.1.1.1.1.0, tt)))),
              ),
            ),
          ),
        ),
      ),
    ))) (
      (λ us. refl, tt),
      (
        (λ us. refl, tt),
        (
          (λ us. refl, tt),
          (
            (λ us. refl, tt),
            (
              (λ us. refl, tt),
              (((λ us. simp (reserved_where) refl) & tt), ((λ us. refl, tt), tt)),
            ),
          ),
        ),
      ),
    )
    (λ s a. (
      a.1.1.1.1.1.1.1.1.1.1.0,
      (
        a.1.1.1.1.1.1.0,
        (
          a.1.1.1.1.1.1.1.0,
          (a.1.1.1.1.1.1.1.1.0, (a.1.1.1.1.1.1.1.1.1.0, (a.1.1.1.1.1.0, (a.1.1.1.1.0, tt)))),
        ),
      ),
    ))) found_mark (search))

abbrev pub alias_end : Gram
alias_end = the_value ∶ type_end InFile ▸ sign ";"

abbrev pub EndEdge : Edge
EndEdge y s = has_own_where y ≡ true

fine_end : Fine alias_end EndEdge (At end_classes)
fine_end = record { by = go }
  where
    go : (x : Tree) (s : List Token) → Fits x alias_end → Ready x → EndEdge x s
        → Derives x alias_end s × At end_classes x s
    go (Pair (Called n (First z)) e) s f w m =
        let (d, i) = found_first.fine.by (Pair z e) s (f.0.1.1, f.1) w tt in
        (((f.0.0, (placed z e s d.0 m, d.0)), d.1), i)
    go (Pair (Called n (Second z)) e) s f w m =
        let (d, i) = found_second.fine.by (Pair z e) s (f.0.1.1, f.1) w tt in (
          ((f.0.0, (unplaced z e s d.0 f.0.1.1 d.1 m, d.0)), d.1),
          of_all (IsAmong end_classes) (Sign 61 [] ∷ TheWord (codes "where") ∷ Sign 59 [] ∷ [])
              ((flat z ++ flat e) ++ s)
              (λ us. inr (inl (us, refl)), (λ us. inl (us, refl), (λ us. inr (inr (inl (us, refl))), tt))) i,
        )
    go (Pair (Called n _) e) s f w m = absurd f.0.1
    go (Pair _ e) s f w m = absurd f.0
    go _ s f w m = absurd f

fine_alias : Fine (type_alias InFile) (λ x s. has_own_where (back (back (back (back x)))) ≡ true)
    (At (TheWord (codes "type") ∷ []))
unfolding skips is_name is_path_keyword
fine_alias =
    fine_ahead (λ x s. has_own_where (back (back (back (back x)))) ≡ true) (AnyWord is_ident ∷ []) (found_text "type")
    (fine_ahead (λ x s. has_own_where (back (back (back x))) ≡ true) (Sign 60 [] ∷ Sign 58 [] ∷ end_classes)
    (found_called (found_word is_ident))
    (maybe_ahead (λ x s. has_own_where (back (back x)) ≡ true) (Sign 58 [] ∷ end_classes)
    (maybe_called (maybe_ref Generics refl))
    (maybe_ahead (λ x s. has_own_where (back x) ≡ true) end_classes
    (maybe_called (maybe_ref BoundsColon refl)) fine_end (
      (search),
      (
        ((λ us. simp (reserved_where) refl) & (λ us. refl) & (λ us. refl) & tt),
        (
          (search),
          (
            (search),
            (
              (search),
              ((search), ((search), tt)),
            ),
          ),
        ),
      ),
    ) (λ x y s c. c)) ((search), tt) (λ x y s c. c)) tt (λ x y s c. c)) tt
    (λ x y s c. c)

pub step_type_in_file : Step (ATypeAlias InFile)
unfolding table skips
step_type_in_file =
    meant_step (ATypeAlias InFile) refl refl
    (fine_weaker (λ x s. LacksAll [] s × IsMeant (ATypeAlias InFile) x) (At (starts (ATypeAlias InFile))) fine_alias
    (λ x s c. c.1) (λ x s i c. i))

pub step_type_in_foreign : Step (ATypeAlias InForeign)
unfolding table skips
step_type_in_foreign =
    meant_step (ATypeAlias InForeign) refl refl
    (fine_weaker (λ x s. LacksAll [] s × IsMeant (ATypeAlias InForeign) x) (At (starts (ATypeAlias InForeign)))
    fine_alias (λ x s c. c.1) (λ x s i c. i))

-- what is printed has its where clause in its place
absent_kept : (c : Tree) (n : Part) → Fits c (table Where)
    → is_absent (Called n (Node Where (kept c))) ≡ is_absent (Called n (Node Where c))
unfolding table
absent_kept (First c) n f = refl
absent_kept (Second c) n f = refl
absent_kept _ n f = absurd f

pub absent_fits : (w : Tree) → Fits w a_where → is_absent (kept w) ≡ is_absent w
unfolding held
absent_fits (Called n (Node k c)) f =
    subst (λ j. is_absent (kept (Called n (Node j c))) ≡ is_absent (Called n (Node j c))) (sym f.1.0)
    (absent_kept c n (subst (λ j. Fits c (table j)) f.1.0 f.1.3))
absent_fits (Called n _) f = absurd f.1
absent_fits _ f = absurd f

place_fits : (v : Tree) → Fits v (type_end InFile) → has_own_place (kept v) ≡ has_own_place v
place_fits (First (Pair w d)) f = ap not (absent_fits w f.1.0)
place_fits (First _) f = absurd f.1
place_fits (Second (Pair d w)) f =
    or_same (is_there (kept d)) (is_absent (kept w)) (is_there d) (is_absent w) (chosen_fits d definition f.1.0)
    (absent_fits w f.1.1)
place_fits (Second _) f = absurd f.1
place_fits _ f = absurd f

alias_fits : (w : Tree) → Fits w (type_alias InFile)
    → has_own_where (back (back (back (back (kept w))))) ≡ has_own_where (back (back (back (back w))))
alias_fits (Pair a (Pair n (Pair g (Pair b (Pair (Called m v) e))))) f = place_fits v f.1.1.1.1.0.1
alias_fits (Pair a (Pair n (Pair g (Pair b (Pair _ e))))) f = absurd f.1.1.1.1.0
alias_fits (Pair a (Pair n (Pair g (Pair b _)))) f = absurd f.1.1.1.1
alias_fits (Pair a (Pair n (Pair g _))) f = absurd f.1.1.1
alias_fits (Pair a (Pair n _)) f = absurd f.1.1
alias_fits (Pair a _) f = absurd f.1
alias_fits _ f = absurd f

moved_place : (w d : Tree) → has_own_place (moved (First (Pair w d))) ≡ true
moved_place w d = go (is_absent w) refl
  where
    or_true : (a b : Bool) → b ≡ true → (a || b) ≡ true
    or_true true b e = refl
    or_true false b e = e

    go : (b : Bool) → is_absent w ≡ b → has_own_place (cond b (Second (Pair d w)) (First (Pair w d))) ≡ true
    go true e = or_true (is_there d) (is_absent w) e
    go false e = ap not e

absent_normal : (c : Tree) (n : Part) (us : List Token) → Derives c (table Where) us → sees (at "where") (flat c ++ us)
    ≡ false
    → is_absent (normal_in Plain (Called n (Node Where (kept c)))) ≡ true
unfolding table passed
absent_normal (First c) n us d e = let f : true ≡ false = sym d.0 ∙ e in cc f
absent_normal (Second Nil) n us d e = refl
absent_normal (Second _) n us d e = absurd d.1
absent_normal _ n us d e = absurd d

pub absent_read : (w : Tree) (us : List Token) → Derives w a_where us → sees (at "where") (flat w ++ us) ≡ false
    → is_absent (normal_in Plain (kept w)) ≡ true
unfolding held
absent_read (Called n (Node k c)) us d e =
    subst (λ j. is_absent (normal_in Plain (kept (Called n (Node j c)))) ≡ true) (sym d.1.0)
    (absent_normal c n us (subst (λ j. Derives c (table j) us) d.1.0 d.1.1) e)
absent_read (Called n _) us d e = absurd d.1
absent_read _ us d e = absurd d

place_read : (v : Tree) (r : List Token) → Derives v (type_end InFile) r
    → has_own_place (moved (normal_in Plain (kept v))) ≡ true
place_read (First (Pair w d)) r h = moved_place (normal_in Plain (kept w)) (normal_in Plain (kept d))
place_read (First _) r h = absurd h.1
place_read (Second (Pair (First d) w)) r h = refl
place_read (Second (Pair (Second Nil) w)) r h = absent_read w r h.1.1 h.0
place_read (Second (Pair (Second _) w)) r h = absurd h.1.0.1
place_read (Second (Pair _ w)) r h = absurd h.1.0
place_read (Second _) r h = absurd h.1
place_read _ r h = absurd h

abbrev pub changed_place : Part → Tree → Tree
changed_place m v =
    cond (same_part m the_value) (moved (normal_in (place_of m) (kept v))) (normal_in (place_of m) (kept v))

alias_read : (x : Tree) (r : List Token) → Derives x (type_alias InFile) r
    → has_own_where (back (back (back (back (changed the_value moved (normal_in Plain (kept x))))))) ≡ true
unfolding same_part place_of
alias_read (Pair a (Pair n (Pair g (Pair b (Pair (Called m v) e))))) r d =
    ap (λ j. has_own_place (changed_place j v)) d.1.1.1.1.0.0 ∙ place_read v (flat e ++ r) d.1.1.1.1.0.1
alias_read (Pair a (Pair n (Pair g (Pair b (Pair _ e))))) r d = absurd d.1.1.1.1.0
alias_read (Pair a (Pair n (Pair g (Pair b _)))) r d = absurd d.1.1.1.1
alias_read (Pair a (Pair n (Pair g _))) r d = absurd d.1.1.1
alias_read (Pair a (Pair n _)) r d = absurd d.1.1
alias_read (Pair a _) r d = absurd d.1
alias_read _ r d = absurd d

alias_meant : (x w : Tree) (r : List Token) → Derives x (type_alias InFile) r → Fits w (type_alias InFile)
    → kept w ≡ changed the_value moved (normal_in Plain (kept x))
    → has_own_where (back (back (back (back w)))) ≡ true
alias_meant x w r d f e =
    sym (alias_fits w f) ∙ ap (λ z. has_own_where (back (back (back (back z))))) e ∙ alias_read x r d

-- Of a where clause that stands behind the definition.
place_printed : (w : Tree) → Fits w (type_end InFile) → Printed (type_end InFile) (moved (kept w))
place_printed (First (Pair w d)) f =
    chosen (type_end InFile) (is_absent (kept w)) (Second (Pair (kept d) (kept w))) (First (Pair (kept w) (kept d)))
    (record { tree = Second (Pair d w); fits = (([], refl), (f.1.1, f.1.0)); kept_is = refl })
    (as_it_is (type_end InFile) (First (Pair w d)) f)
place_printed (First _) f = absurd f.1
place_printed (Second z) f = as_it_is (type_end InFile) (Second z) f
place_printed _ f = absurd f

alias_printed : (w : Tree) → Fits w (type_alias InFile) → Printed (type_alias InFile) (changed the_value moved (kept w))
unfolding same_part
alias_printed w f =
    changed_printed the_value moved w (type_alias InFile)
    (tt, (as_it_is _, (as_it_is _, (as_it_is _, (place_printed, tt))))) f

pub law_type_in_file : KindLaw (ATypeAlias InFile)
unfolding has_step held passed place_of table
law_type_in_file =
    meant_law (ATypeAlias InFile) refl (λ q x w r d f e. alias_meant x w r d f e) (λ x. refl) (λ q. refl)
    (λ q l. simple_law Plain (type_alias InFile) refl) alias_printed

pub law_type_in_foreign : KindLaw (ATypeAlias InForeign)
unfolding has_step held passed place_of table
law_type_in_foreign =
    meant_law (ATypeAlias InForeign) refl (λ q x w r d f e. alias_meant x w r d f e) (λ x. refl) (λ q. refl)
    (λ q l. simple_law Plain (type_alias InFile) refl) alias_printed
