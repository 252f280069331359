-- The steps and the laws of a path's names in an expression, and of one by itself, where arguments stand behind ::
-- alone.
use Rattle.std.proofs.Common.{◌≡◌, ℕ, List, [], ◌∷◌, ◌++◌, refl, sym, ap, ◌∙◌, subst, append_assoc, ⊎_elim}
use Rattle.std.specs.Prelude.{Bool, true, false, codes, Option, Some, None}
use Rattle.proc_macro2.specs.Token.{Token}
use Rattle.rust_leaf.specs.declared.punct.Spacing.{Spacing}
use Rattle.syn_grammar.specs.Kind.{Position, Plain, Arguments, AtType, InExpression, ParenthesizedArguments, Segment}
use Rattle.syn_grammar.specs.Kind.{Segments}
use Rattle.syn_grammar.specs.Name.{Part, the_arguments}
use Rattle.syn_grammar.specs.Words.{is_ident, is_name, is_path_keyword, is_plain_name}
use Rattle.syn_grammar.specs.Tree.{Tree, AMark, Nil, Pair, First, Second, Node, marks as signs, flat}
use Rattle.syn_grammar.specs.Part.{changed}
use Rattle.syn_grammar.specs.Gram.{Gram, ref, word}
use Rattle.syn_grammar.specs.Look.{behind as past, seen, sees, a_word}
use Rattle.syn_grammar.specs.Say.{◌▸◌, marks, name, optional, sign, when◌read◌else◌}
use Rattle.syn_grammar.specs.Paths.{arguments_stand, more_segments, parentheses_stand, turbofish}
use Rattle.syn_grammar.specs.Ranks.{skips}
use Rattle.syn_grammar.specs.Table.{table}
use Rattle.syn_grammar.specs.Tidy.{is_lifetime_argument, lifetimes_first, tidy}
use Rattle.syn_grammar.specs.Derives.{Derives}
use Rattle.syn_grammar.specs.Kept.{forget, held, is_there, kept}
use Rattle.syn_grammar.specs.Normal.{passed, place_of, normal_in}
use Rattle.laws_reread_kinds.specs.Covered.{front, has_step, inner, is_taken}
use Rattle.laws_reread_kinds.specs.Sees.{LacksAll}
use Rattle.laws_reread_kinds.proofs.Classes.{AnyWord, Class, TheWord, Then, ◌&◌, among_left, among_right}
use Rattle.laws_reread_kinds.proofs.Starts.{starts}
use Rattle.laws_reread_kinds.proofs.Sights.{ident_not}
use Rattle.laws_reread_kinds.proofs.Keywords.{reserved_crate, reserved_self, reserved_super}
use Rattle.laws_reread_kinds.proofs.Fits.{Fits, IsMeant, has_own_turbofish, has_turbofish, is_turbofish}
use Rattle.laws_reread_kinds.proofs.Readies.{Ready, Step}
use Rattle.laws_reread_kinds.proofs.Fine.{Any, At, Edge, Fine, fine_alt, fine_seq}
use Rattle.laws_reread_kinds.proofs.Parts.{Found, Maybe, at_front, found_before, found_name, found_optional, found_ref}
use Rattle.laws_reread_kinds.proofs.Parts.{found_then, found_words, maybe_alt, maybe_none, maybe_unseen, meant_step}
use Rattle.laws_reread_kinds.proofs.Parts.{told_at, weaken_maybe}
use Rattle.laws_reread_kinds.proofs.Printed.{KindLaw, IsPlaced, Printed, simple_law}
use Rattle.laws_reread_kinds.proofs.KindLaws.{chosen_fits, chosen_read, there_normal}

-- :: and <
colons_at : (c d : ℕ) (cs ds : List ℕ) (i j : Spacing) (ts : List Token) → c ≡ 58 → cs ≡ 58 ∷ [] → d ≡ 60 → ds ≡ []
    → sees turbofish (signs c cs i ++ (signs d ds j ++ ts)) ≡ true
colons_at c d cs ds i j ts e f g h =
    subst (λ a. sees turbofish (signs a cs i ++ (signs d ds j ++ ts)) ≡ true) (sym e)
    (subst (λ ks. sees turbofish (signs 58 ks i ++ (signs d ds j ++ ts)) ≡ true) (sym f)
    (subst (λ b. sees turbofish (signs 58 (58 ∷ []) i ++ (signs b ds j ++ ts)) ≡ true) (sym g)
    (subst (λ bs. sees turbofish (signs 58 (58 ∷ []) i ++ (signs 60 bs j ++ ts)) ≡ true) (sym h) refl)))

arguments_in : (x : Tree) (s : List Token) → Derives x (table Arguments) s → is_there (front x) ≡ true
    → sees turbofish (flat x ++ s) ≡ true
unfolding table
arguments_in (Pair (First (AMark c cs i)) (Pair (AMark d ds j) y)) s h e =
    subst (λ us. sees turbofish us ≡ true)
    (sym (append_assoc (signs c cs i) (signs d ds j ++ flat y) s
    ∙ ap (λ us. signs c cs i ++ us) (append_assoc (signs d ds j) (flat y) s)))
    (colons_at c d cs ds i j (flat y ++ s) h.0.1.0 h.0.1.1 h.1.0.0 h.1.0.1)
arguments_in (Pair (First (AMark c cs i)) (Pair _ y)) s h e = absurd h.1.0
arguments_in (Pair (First (AMark c cs i)) _) s h e = absurd h.1
arguments_in (Pair (First _) y) s h e = absurd h.0.1
arguments_in (Pair (Second o) y) s h e = cc
arguments_in (Pair _ y) s h e = absurd h.0
arguments_in _ s h e = absurd h

pub arguments_seen : (x : Tree) (s : List Token) → Derives x (ref Arguments) s → is_there (front (inner x)) ≡ true
    → sees turbofish (flat x ++ s) ≡ true
arguments_seen (Node k x) s d e = arguments_in x s (subst (λ j. Derives x (table j) s) d.0 d.1) e
arguments_seen _ s d e = absurd d

-- arguments, and further names
abbrev pub argued : Gram
argued = ref Arguments ▸ more_segments InExpression

found_argued : Found argued (marks "::" ∷ marks "::" ∷ arguments_stand InExpression ∷ []) (starts Arguments)
unfolding skips is_path_keyword is_plain_name is_name
found_argued = (found_before (found_ref Arguments refl)
    (found_optional (marks "::") (found_then (found_ref (Segments InExpression) refl)) (search)) tt (λ s a. tt))

abbrev pub SegmentEdge : Edge
SegmentEdge x s = LacksAll (marks "::" ∷ arguments_stand InExpression ∷ []) s

fine_argued : Fine argued (λ x s. SegmentEdge x s × (is_there (front (inner (front x))) ≡ true))
    (λ x s. sees turbofish (flat x ++ s) ≡ true)
fine_argued = record { by = go }
  where
    go : (x : Tree) (s : List Token) → Fits x argued → Ready x
        → SegmentEdge x s × (is_there (front (inner (front x))) ≡ true)
        → Derives x argued s × (sees turbofish (flat x ++ s) ≡ true)
    go (Pair a z) s f w e =
        let (d, i) = found_argued.fine.by (Pair a z) s f w (e.0.0, e.0) in (
          d,
          subst (λ us. sees turbofish us ≡ true) (sym (append_assoc (flat a) (flat z) s))
              (arguments_seen a (flat z ++ s) d.0 e.1),
        )
    go _ s f w e = absurd f

-- or names alone
abbrev pub unargued : Gram
unargued =
    when marks "::" read sign "::" ▸ ref (Segments InExpression)
    else optional (parentheses_stand InExpression) (ref ParenthesizedArguments)

abbrev pub colon_classes : List Class
colon_classes = Then 58 (58 ∷ []) (TheWord (codes "self")) ∷ Then 58 (58 ∷ []) (TheWord (codes "super")) ∷ Then 58
    (58 ∷ []) (TheWord (codes "crate")) ∷ Then 58 (58 ∷ []) (AnyWord is_ident) ∷ Then 58 (58 ∷ [])
    (TheWord (codes "Self")) ∷ []

maybe_unargued : Maybe unargued (marks "::" ∷ marks "::" ∷ arguments_stand InExpression ∷ []) colon_classes
unfolding skips is_path_keyword is_plain_name is_name
maybe_unargued = (maybe_alt (marks "::") (found_then (found_ref (Segments InExpression) refl))
    (weaken_maybe ((marks "::") ∷ (arguments_stand InExpression) ∷ [])
    (maybe_unseen (parentheses_stand InExpression) (λ ts. refl) maybe_none) (λ s a. tt)) (search) tt)

abbrev pub is_argued : Tree → Bool
is_argued (First x) = is_there (front (inner (front x)))
is_argued _ = true

abbrev pub TailEdge : Edge
TailEdge x s = SegmentEdge x s × (is_argued x ≡ true)

fine_tail : Fine (when arguments_stand InExpression read argued else unargued) TailEdge Any
unfolding is_path_keyword is_plain_name is_name
fine_tail =
    fine_alt TailEdge Any fine_argued maybe_unargued.fine (λ x s c. c) (λ x s c. (c.0.0, c.0))
    (λ x s e i c. (i, tt))
    (λ x s e i c. (
      ⊎_elim (λ n. ap (λ us. sees turbofish (us ++ s)) n ∙ c.0.1.0)
          (λ j. told_at turbofish false colon_classes (flat x ++ s) (search) j) i,
      tt,
    ))

abbrev pub named : Gram
named = name ▸ (when arguments_stand InExpression read argued else unargued)

abbrev pub names : List Class
names = AnyWord is_ident ∷ TheWord (codes "Self") ∷ []

fine_named : Fine named (λ x s. SegmentEdge x s × (has_turbofish (Second x) ≡ true)) (At names)
fine_named =
    fine_seq (λ x s. SegmentEdge x s × (has_turbofish (Second x) ≡ true)) (At names) found_name.fine fine_tail
    (λ x y s c. c) (λ x y s i c. tt) (λ x y s j i c. at_front names x y s j)

abbrev pub keywords : List Class
keywords = TheWord (codes "self") ∷ TheWord (codes "super") ∷ TheWord (codes "crate") ∷ []

found_keyword : Found (word is_path_keyword ▸ more_segments InExpression)
    (marks "::" ∷ marks "::" ∷ arguments_stand InExpression ∷ []) keywords
unfolding skips is_path_keyword is_plain_name is_name
found_keyword = (found_before (found_words (codes "self" ∷ codes "super" ∷ codes "crate" ∷ []))
    (found_optional (marks "::") (found_then (found_ref (Segments InExpression) refl)) (search)) tt (λ s a. tt))

-- a keyword of paths, or a name
fine_names : {a b : Gram} {A B : Edge} (C : Edge) → Fine a A (At keywords) → Fine b B (At names)
    → ((x : Tree) (s : List Token) → C (First x) s → A x s) → ((x : Tree) (s : List Token) → C (Second x) s → B x s)
    → Fine (when a_word is_path_keyword read a else b) C (At (keywords ++ names))
unfolding is_path_keyword
fine_names {a} {b} {A} {B} C f g h k =
    fine_alt C (At (keywords ++ names)) f g h k
    (λ x s e i c. (
      told_at (a_word is_path_keyword) true keywords (flat x ++ s) (search) i,
      among_left keywords names (flat x ++ s) i,
    ))
    (λ x s e i c. (
      told_at (a_word is_path_keyword) false names (flat x ++ s)
          ((λ cs h us. simp (
            ident_not (codes "self") cs reserved_self h,
            ident_not (codes "super") cs reserved_super
                h,
            ident_not (codes "crate") cs reserved_crate h,
          ) refl) & (λ us. refl) & tt) i,
      among_right keywords names (flat x ++ s) i,
    ))

pub step_segments_in_expression : Step (Segments InExpression)
unfolding table skips is_path_keyword is_plain_name is_name
step_segments_in_expression =
    meant_step (Segments InExpression) refl refl
    (fine_names (λ x s. SegmentEdge x s × IsMeant (Segments InExpression) x) found_keyword.fine fine_named
    (λ x s c. (c.0.0, c.0)) (λ x s c. c))

-- one segment by itself
abbrev pub LoneEdge : Edge
LoneEdge x s = LacksAll (arguments_stand InExpression ∷ []) s × (is_turbofish x ≡ true)

fine_lone_arguments : Fine (ref Arguments) (λ x s. LoneEdge (First x) s) (λ x s. sees turbofish (flat x ++ s) ≡ true)
unfolding skips
fine_lone_arguments = record {
  by = λ x s f w c.
      let (d, i) = (found_ref Arguments refl).fine.by x s f w tt in
      (d, arguments_seen x s d c.1);
}

fine_lone_tail : Fine (when arguments_stand InExpression read ref Arguments
    else optional (parentheses_stand InExpression) (ref ParenthesizedArguments)) LoneEdge Any
fine_lone_tail =
    fine_alt LoneEdge Any fine_lone_arguments
    (maybe_unseen (parentheses_stand InExpression) (λ ts. refl) maybe_none).fine (λ x s c. c) (λ x s c. tt)
    (λ x s e i c. (i, tt))
    (λ x s e i c. (
      ⊎_elim (λ n. ap (λ us. sees turbofish (us ++ s)) n ∙ c.0.0) (λ j. absurd j) i,
      tt,
    ))

abbrev pub NamedEdge : Edge
NamedEdge x s = LacksAll (arguments_stand InExpression ∷ []) s × (has_own_turbofish (Second x) ≡ true)

fine_lone_name : Fine (name ▸ (when arguments_stand InExpression read ref Arguments
    else optional (parentheses_stand InExpression) (ref ParenthesizedArguments))) NamedEdge (At names)
fine_lone_name =
    fine_seq NamedEdge (At names) found_name.fine fine_lone_tail (λ x y s c. c) (λ x y s i c. tt)
    (λ x y s j i c. at_front names x y s j)

pub step_segment_in_expression : Step (Segment InExpression)
unfolding table skips is_path_keyword is_plain_name is_name
step_segment_in_expression =
    meant_step (Segment InExpression) refl refl
    (fine_names (λ x s. LacksAll (arguments_stand InExpression ∷ []) s × IsMeant (Segment InExpression) x)
    (found_words (codes "self" ∷ codes "super" ∷ codes "crate" ∷ [])).fine fine_lone_name (λ x s c. tt) (λ x s c. c))

-- the same of what was read and of what is printed
pub changed_there : (n : Part) (f : Tree → Tree) (x : Tree) → is_there (changed n f x) ≡ is_there x
changed_there n f (First x) = refl
changed_there n f _ = refl

front_fits : (x : Tree) → Fits x (table Arguments) → is_there (front (kept x)) ≡ is_there (front x)
unfolding table
front_fits (Pair o y) f = chosen_fits o _ f.0
front_fits _ f = absurd f

front_read : (x : Tree) (r : List Token) → Derives x (table Arguments) r
    → is_there (front (tidy Arguments (normal_in Plain (kept x)))) ≡ is_there (front x)
unfolding table
front_read (Pair o y) r d =
    changed_there the_arguments (lifetimes_first is_lifetime_argument) (normal_in Plain (kept o))
    ∙ there_normal Plain (kept o) ∙ chosen_read o _ (flat y ++ r) d.0
front_read _ r d = absurd d

pub argued_fits : (x : Tree) → Fits x (ref Arguments) → is_there (front (inner (kept x))) ≡ is_there (front (inner x))
argued_fits (Node k x) f =
    ap (λ j. is_there (front (forget j (kept x)))) f.0
    ∙ front_fits x (subst (λ j. Fits x (table j)) f.0 f.3)
argued_fits _ f = absurd f

pub argued_read : (x : Tree) (r : List Token) → Derives x (ref Arguments) r
    → is_there (front (inner (normal_in Plain (kept x)))) ≡ is_there (front (inner x))
unfolding held passed
argued_read (Node k x) r d =
    ap (λ j. is_there (front (tidy (held j) (normal_in (passed (held j) Plain) (forget j (kept x)))))) d.0
    ∙ front_read x r (subst (λ j. Derives x (table j) r) d.0 d.1)
argued_read _ r d = absurd d

-- where < stands there is no ::
no_colons : (ts : List Token) → sees (marks "::") ts ≡ false → sees turbofish ts ≡ false
no_colons ts e = go ((marks "::") ts) e
  where
    go : (o : Option (List Token)) → seen o ≡ false → seen (past o (marks "<")) ≡ false
    go None e = refl
    go (Some us) e = cc

angle_only : (x : Tree) (r : List Token) → Derives x (table Arguments) r → sees turbofish (flat x ++ r) ≡ true
    → is_there (front x) ≡ true
unfolding table
angle_only (Pair (First o) y) r d e = refl
angle_only (Pair (Second Nil) y) r d e =
    let f : true ≡ false = sym e ∙ no_colons (flat y ++ r) d.0.0 in
    cc f
angle_only (Pair (Second _) y) r d e = absurd d.0.1
angle_only (Pair _ y) r d e = absurd d.0
angle_only _ r d e = absurd d

turbofish_meant : (x : Tree) (r : List Token) → Derives x (ref Arguments) r → sees turbofish (flat x ++ r) ≡ true
    → is_there (front (inner x)) ≡ true
turbofish_meant (Node k x) r d e = angle_only x r (subst (λ j. Derives x (table j) r) d.0 d.1) e
turbofish_meant _ r d e = absurd d

turbofish_fits : (w : Tree) → Fits w (table (Segments InExpression)) → has_turbofish (kept w) ≡ has_turbofish w
unfolding table
turbofish_fits (Second (Pair n (First (Pair a z)))) f = argued_fits a f.1.1.1.0
turbofish_fits (Second (Pair n (First _))) f = absurd f.1.1.1
turbofish_fits (Second (Pair n (Second x))) f = refl
turbofish_fits (Second (Pair n _)) f = absurd f.1.1
turbofish_fits (Second _) f = absurd f.1
turbofish_fits (First x) f = refl
turbofish_fits _ f = absurd f

turbofish_read : (x : Tree) (r : List Token) → Derives x (table (Segments InExpression)) r
    → has_turbofish (normal_in Plain (kept x)) ≡ true
unfolding table
turbofish_read (Second (Pair n (First (Pair a z)))) r d =
    let e = d.1.1.1.0 in
    argued_read a (flat z ++ r) e
    ∙ turbofish_meant a (flat z ++ r) e
    (subst (λ us. sees turbofish us ≡ true) (append_assoc (flat a) (flat z) r) d.1.1.0)
turbofish_read (Second (Pair n (First _))) r d = absurd d.1.1.1
turbofish_read (Second (Pair n (Second x))) r d = refl
turbofish_read (Second (Pair n _)) r d = absurd d.1.1
turbofish_read (Second _) r d = absurd d.1
turbofish_read (First x) r d = refl
turbofish_read _ r d = absurd d

pub law_segments_in_expression : KindLaw (Segments InExpression)
unfolding has_step held passed place_of table
law_segments_in_expression =
    record { entry = λ q l. simple_law Plain (table (Segments InExpression)) refl; node = go }
  where
    go : (q : Position) → IsPlaced q (Segments InExpression) → (x : Tree) (r : List Token)
        → is_taken (Segments InExpression) x ≡ true → Derives x (table (Segments InExpression)) r
        → Printed (table (Segments InExpression)) (normal_in (passed (Segments InExpression) q) (kept x))
        → Printed (ref (Segments InExpression)) (normal_in q (Node (held (Segments InExpression)) (kept x)))
    go q l x r m d i =
        let b : has_turbofish i.tree ≡ true =
        sym (turbofish_fits i.tree i.fits) ∙ ap has_turbofish i.kept_is ∙ turbofish_read x r d in
        record {
          tree = Node (Segments InExpression) i.tree;
          fits = (refl, refl, refl, i.fits, b);
          kept_is = ap (Node (Segments AtType)) i.kept_is;
        }

-- and of one segment by itself
lone_fits : (w : Tree) → Fits w (table (Segment InExpression)) → has_own_turbofish (kept w) ≡ has_own_turbofish w
unfolding table
lone_fits (Second (Pair n (First a))) f = argued_fits a f.1.1.1
lone_fits (Second (Pair n (Second x))) f = refl
lone_fits (Second (Pair n _)) f = absurd f.1.1
lone_fits (Second _) f = absurd f.1
lone_fits (First x) f = refl
lone_fits _ f = absurd f

lone_read : (x : Tree) (r : List Token) → Derives x (table (Segment InExpression)) r
    → has_own_turbofish (normal_in Plain (kept x)) ≡ true
unfolding table
lone_read (Second (Pair n (First a))) r d = argued_read a r d.1.1.1 ∙ turbofish_meant a r d.1.1.1 d.1.1.0
lone_read (Second (Pair n (Second x))) r d = refl
lone_read (Second (Pair n _)) r d = absurd d.1.1
lone_read (Second _) r d = absurd d.1
lone_read (First x) r d = refl
lone_read _ r d = absurd d

pub law_segment_in_expression : KindLaw (Segment InExpression)
unfolding has_step held passed place_of table
law_segment_in_expression =
    record { entry = λ q l. simple_law Plain (table (Segment InExpression)) refl; node = go }
  where
    go : (q : Position) → IsPlaced q (Segment InExpression) → (x : Tree) (r : List Token)
        → is_taken (Segment InExpression) x ≡ true → Derives x (table (Segment InExpression)) r
        → Printed (table (Segment InExpression)) (normal_in (passed (Segment InExpression) q) (kept x))
        → Printed (ref (Segment InExpression)) (normal_in q (Node (held (Segment InExpression)) (kept x)))
    go q l x r m d i =
        let b : has_own_turbofish i.tree ≡ true =
        sym (lone_fits i.tree i.fits) ∙ ap has_own_turbofish i.kept_is ∙ lone_read x r d in
        record {
          tree = Node (Segment InExpression) i.tree;
          fits = (refl, refl, refl, i.fits, b);
          kept_is = ap (Node (Segment AtType)) i.kept_is;
        }
