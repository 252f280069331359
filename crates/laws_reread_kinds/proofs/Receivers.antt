-- The step and the law of a function's parameter: a receiver, or a pattern that begins as none does, and its type.
use Rattle.std.proofs.Common.{◌≡◌, ℕ, List, [], ◌∷◌, ◌++◌, refl, sym, ap, ◌∙◌, subst, append_assoc, ⊎_elim}
use Rattle.std.specs.Prelude.{Bool, true, false, not, codes, cond, Some, None}
use Rattle.std.proofs.lemmas.Slice.Eq.{bytes_eq-Decides}
use Rattle.std.proofs.lemmas.Bool.{false≢true}
use Rattle.proc_macro2.specs.Token.{Token, Ident, Punct}
use Rattle.rust_leaf.specs.declared.punct.Spacing.{Spacing}
use Rattle.rust_leaf.specs.declared.punct.Spacing.TheVariants.{Joint}
use Rattle.syn_grammar.specs.Kind.{Kind, Position, Plain, AnyPath, AType, AtType, InExpression}
use Rattle.syn_grammar.specs.Kind.{OnePattern, OuterAttributes}
use Rattle.syn_grammar.specs.Kind.{Parameter, Path, PathPattern, Receiver, ReferencePattern, Segments, WithPlus}
use Rattle.syn_grammar.specs.Name.{Part, the_dots, the_pattern, the_receiver, the_type, the_unnamed}
use Rattle.rust_leaf.specs.Keywords.{same_text}
use Rattle.syn_grammar.specs.Tree.{Tree, ALifetime, AMark, AWord, Nil, Pair, First, Second, Called, Node, Back}
use Rattle.syn_grammar.specs.Tree.{marks as signs, flat}
use Rattle.syn_grammar.specs.Part.{choice}
use Rattle.syn_grammar.specs.Gram.{Gram, alt, called, judged, lifetime, ref}
use Rattle.syn_grammar.specs.Look.{Look, a_lifetime, an_ident, behind as past}
use Rattle.syn_grammar.specs.Look.{maybe, no, seen, sees, ◌then◌}
use Rattle.syn_grammar.specs.Say.{◌∶◌, ◌▸◌, at, keyword, marks, optional, sign}
use Rattle.syn_grammar.specs.Say.{when◌read◌else◌}
use Rattle.syn_grammar.specs.Paths.{arguments_stand, parentheses_stand}
use Rattle.syn_grammar.specs.Types.{bound_stands as type_bound_stands}
use Rattle.syn_grammar.specs.Items.{receiver_stands}
use Rattle.syn_grammar.specs.Ranks.{skips}
use Rattle.syn_grammar.specs.Table.{table}
use Rattle.syn_grammar.specs.Derives.{Derives}
use Rattle.syn_grammar.specs.Kept.{held, kept, lone_colon, named, wild}
use Rattle.syn_grammar.specs.Normal.{passed, place_of, normal_in}
use Rattle.laws_reread_kinds.proofs.Choices.{is_false}
use Rattle.laws_reread_kinds.specs.After.{behind}
use Rattle.laws_reread_kinds.specs.Covered.{has_step, inner, is_taken}
use Rattle.laws_reread_kinds.specs.Sees.{Lacks, LacksAll}
use Rattle.laws_reread_kinds.proofs.Classes.{Class, Sign, among_left, among_right}
use Rattle.laws_reread_kinds.proofs.Starts.{starts}
use Rattle.laws_reread_kinds.proofs.Readies.{Ready, Step}
use Rattle.laws_reread_kinds.proofs.Fine.{At, Edge, Fine, fine_seq}
use Rattle.laws_reread_kinds.proofs.Parts.{Found, at_back, at_front, found_alt, found_called, found_mark, found_ref}
use Rattle.laws_reread_kinds.proofs.Parts.{found_seq, maybe_ref, meant_step, told_at, unseen_all, weaken}
use Rattle.laws_reread_kinds.proofs.Printed.{KindLaw, IsPlaced, Printed, simple_law}
use Rattle.laws_reread_kinds.proofs.Fits.{Fits, has_own_name, is_named, is_self, is_self_alone, is_self_any}
use Rattle.laws_reread_kinds.proofs.Fits.{is_self_names, is_self_path, IsMeant}
use Rattle.laws_reread_kinds.proofs.Alternatives.{under_fits, under_read}
use Rattle.laws_reread_kinds.proofs.Selves.{self_then, pattern_self, self_at, moved_past, unreferred, either_none}
use Rattle.laws_reread_kinds.proofs.Selves.{referred, receiver_lacks, pattern_unangled, self_stands, own_stands}
use Rattle.laws_reread_kinds.proofs.Selves.{Unmarked}

-- a receiver
self_seen : (cs : List ℕ) (us : List Token) → same_text (codes "self") cs ≡ true → Lacks (marks "::") us
    → sees own_stands (Ident cs ∷ us) ≡ true
self_seen cs us e a =
    subst (λ ds. sees own_stands (Ident ds ∷ us) ≡ true) ((bytes_eq-Decides (codes "self") cs).0 e)
    (ap (λ c. seen (cond c None (Some us))) a)

own_seen : (m : Tree) (cs : List ℕ) (us : List Token) → Fits m (optional (at "mut") (keyword "mut"))
    → same_text (codes "self") cs ≡ true → Lacks (marks "::") us → sees own_stands (flat m ++ Ident cs ∷ us) ≡ true
own_seen (First (AWord ds)) cs us f e a =
    moved_past ds (Ident cs ∷ us) f.1
    ∙ self_then (same_text (codes "self") cs) us a ∙ e
own_seen (First _) cs us f e a = absurd f.1
own_seen (Second Nil) cs us f e a = self_seen cs us e a
own_seen (Second _) cs us f e a = absurd f.1
own_seen _ cs us f e a = absurd f

own_word : (m : Tree) (cs : List ℕ) (us : List Token) → Fits m (optional (at "mut") (keyword "mut"))
    → Lacks a_lifetime (flat m ++ Ident cs ∷ us) × Unmarked 38 (flat m ++ Ident cs ∷ us)
own_word (First (AWord ds)) cs us f = (refl, refl)
own_word (First _) cs us f = absurd f.1
own_word (Second Nil) cs us f = (refl, refl)
own_word (Second _) cs us f = absurd f.1
own_word _ cs us f = absurd f

-- with the lifetime behind its &
lifetime_past : (spacing : Spacing) (ds : List ℕ) (us : List Token)
    → sees receiver_stands (Punct 38 spacing ∷ Punct 39 Joint ∷ Ident ds ∷ us) ≡ sees own_stands us
lifetime_past spacing ds us =
    ap (λ o. seen (past o (no (marks "::")))) (either_none ((maybe (at "mut") then at "self") us))

and_at : (c : ℕ) (cs : List ℕ) (spacing : Spacing) (us : List Token) (b : Bool) → c ≡ 38 → cs ≡ []
    → sees receiver_stands (Punct 38 spacing ∷ us) ≡ b → sees receiver_stands (signs c cs spacing ++ us) ≡ b
and_at c cs spacing us b e f h =
    subst (λ d. sees receiver_stands (signs d cs spacing ++ us) ≡ b) (sym e)
    (subst (λ ds. sees receiver_stands (signs 38 ds spacing ++ us) ≡ b) (sym f) h)

abbrev pub own_self : Gram
own_self = optional (at "mut") (keyword "mut") ▸ keyword "self"

lifetime_seen : (spacing : Spacing) (l : Tree) (y : Tree) (s : List Token)
    → Fits l (optional a_lifetime lifetime) → Fits y own_self → Lacks (marks "::") s
    → sees receiver_stands (Punct 38 spacing ∷ flat l ++ (flat y ++ s)) ≡ true
lifetime_seen spacing (First (ALifetime ds)) (Pair m (AWord cs)) s f g a =
    lifetime_past spacing ds ((flat m ++ Ident cs ∷ []) ++ s)
    ∙ ap (sees own_stands) (append_assoc (flat m) (Ident cs ∷ []) s) ∙ own_seen m cs s g.0 g.1 a
lifetime_seen spacing (Second Nil) (Pair m (AWord cs)) s f g a =
    ap (λ us. sees receiver_stands (Punct 38 spacing ∷ us)) (append_assoc (flat m) (Ident cs ∷ []) s)
    ∙ referred spacing (flat m ++ Ident cs ∷ s) (own_word m cs s g.0).0
    ∙ own_seen m cs s g.0 g.1 a
lifetime_seen spacing (First (ALifetime ds)) (Pair m _) s f g a = absurd g.1
lifetime_seen spacing (First (ALifetime ds)) _ s f g a = absurd g
lifetime_seen spacing (Second Nil) (Pair m _) s f g a = absurd g.1
lifetime_seen spacing (Second Nil) _ s f g a = absurd g
lifetime_seen spacing (First _) y s f g a = absurd f.1
lifetime_seen spacing (Second _) y s f g a = absurd f.1
lifetime_seen spacing _ y s f g a = absurd f

colon_behind : (o : Tree) (s : List Token) → Fits o (optional (marks ":") (sign ":" ▸ ref (AType WithPlus)))
    → Lacks (marks "::") s → Lacks (marks "::") (flat o ++ s)
colon_behind (First (Pair (AMark c cs spacing) t)) s f a =
    subst (Lacks (marks "::")) (sym (append_assoc (signs c cs spacing) (flat t) s))
    (subst (λ d. Lacks (marks "::") (signs d cs spacing ++ (flat t ++ s))) (sym f.1.0.0)
    (subst (λ ds. Lacks (marks "::") (signs 58 ds spacing ++ (flat t ++ s))) (sym f.1.0.1)
    (subst (λ j. Lacks (marks "::") (signs 58 [] j ++ (flat t ++ s))) f.1.0.2 refl)))
colon_behind (First (Pair _ t)) s f a = absurd f.1.0
colon_behind (First _) s f a = absurd f.1
colon_behind (Second Nil) s f a = a
colon_behind (Second _) s f a = absurd f.1
colon_behind _ s f a = absurd f

receiver_fits : (x : Tree) (s : List Token) → Fits x (table Receiver) → Lacks (marks "::") s
    → sees receiver_stands (flat x ++ s) ≡ true
unfolding table
receiver_fits (First (Pair (AMark c cs spacing) (Pair l y))) s f a =
    ap (sees receiver_stands) (append_assoc (signs c cs spacing) (flat l ++ flat y) s)
    ∙ and_at c cs spacing ((flat l ++ flat y) ++ s) true f.1.0.0 f.1.0.1
    (ap (λ us. sees receiver_stands (Punct 38 spacing ∷ us)) (append_assoc (flat l) (flat y) s)
    ∙ lifetime_seen spacing l y s f.1.1.0 f.1.1.1 a)
receiver_fits (First (Pair (AMark c cs spacing) _)) s f a = absurd f.1.1
receiver_fits (First (Pair _ y)) s f a = absurd f.1.0
receiver_fits (First _) s f a = absurd f.1
receiver_fits (Second (Pair m (Pair (AWord cs) o))) s f a =
    ap (sees receiver_stands) (append_assoc (flat m) (Ident cs ∷ flat o) s)
    ∙ unreferred (flat m ++ (Ident cs ∷ (flat o ++ s))) (own_word m cs (flat o ++ s) f.1.0).1
    ∙ own_seen m cs (flat o ++ s) f.1.0 f.1.1.0 (colon_behind o s f.1.1.1 a)
receiver_fits (Second (Pair m (Pair _ o))) s f a = absurd f.1.1.0
receiver_fits (Second (Pair m _)) s f a = absurd f.1.1
receiver_fits (Second _) s f a = absurd f.1
receiver_fits _ s f a = absurd f

receiver_seen : (x : Tree) (s : List Token) → Fits x (called the_receiver (ref Receiver)) → Lacks (marks "::") s
    → sees receiver_stands (flat x ++ s) ≡ true
receiver_seen (Called n (Node k x)) s f a = receiver_fits x s (subst (λ j. Fits x (table j)) f.1.0 f.1.3) a
receiver_seen (Called n _) s f a = absurd f.1
receiver_seen _ s f a = absurd f

-- the step
abbrev pub typed_end : Gram
typed_end = sign ":" ▸ (when marks "..." read the_dots ∶ sign "..." else the_type ∶ ref (AType WithPlus))

abbrev pub patterned : Gram
patterned = the_pattern ∶ ref OnePattern ▸ typed_end

abbrev pub from_type : Gram
from_type = when an_ident then marks "<" read the_unnamed ∶ ref (AType WithPlus) else patterned

abbrev pub from_dots : Gram
from_dots = when marks "..." read the_dots ∶ sign "..." else from_type

abbrev pub bare_parameter : Gram
bare_parameter = when receiver_stands read the_receiver ∶ ref Receiver else from_dots

abbrev pub type_looks : List Look
type_looks = marks "::" ∷ arguments_stand AtType ∷ parentheses_stand AtType ∷ marks "->" ∷ type_bound_stands ∷ marks "+"
    ∷ []

found_end : Found typed_end type_looks (Sign 58 [] ∷ [])
unfolding skips
found_end = (found_seq found_mark
    (found_alt (marks "...") (weaken type_looks (found_called found_mark) (λ s a. tt))
    (found_called (found_ref (AType WithPlus) refl)) (λ us. refl, tt) (search)) tt)

found_patterned : Found patterned type_looks (starts OnePattern)
unfolding skips
found_patterned = (found_seq (found_called (found_ref OnePattern refl)) found_end (
  (λ us. refl, tt),
  (
    (λ us. refl, tt),
    (
      (λ us. refl, tt),
      (
        (λ us. refl, tt),
        (
          (λ us. refl, tt),
          ((λ us. refl, tt), ((λ us. refl, tt), ((λ us. refl, tt), ((λ us. refl, tt), tt)))),
        ),
      ),
    ),
  ),
))

covers_type : (s : List Token) → LacksAll (behind Parameter) s → LacksAll type_looks s
covers_type s a = (a.0, (a.1.0, (a.1.1.0, (a.1.1.1.1.0, (a.1.1.1.1.1.0, (a.1.1.1.1.1.1.0, tt))))))

covers_receiver : (s : List Token) → LacksAll (behind Parameter) s → LacksAll (behind Receiver) s
covers_receiver s a = (
  a.1.1.1.0,
  (a.0, (a.1.0, (a.1.1.0, (a.1.1.1.1.0, (a.1.1.1.1.1.0, (a.1.1.1.1.1.1.0, tt)))))),
)

abbrev pub NameEdge : Edge
NameEdge x s = LacksAll (behind Parameter) s × (has_own_name (Pair Nil (Second (Second (Second x)))) ≡ true)

abbrev pub NoOther : Edge
NoOther x s =
    At (starts OnePattern) x s × Lacks receiver_stands (flat x ++ s) × Lacks (an_ident then marks "<") (flat x ++ s)

fine_patterned : Fine patterned NameEdge NoOther
fine_patterned = record { by = go }
  where
    go : (x : Tree) (s : List Token) → Fits x patterned → Ready x → NameEdge x s → Derives x patterned s × NoOther x s
    go (Pair (Called n p) y) s f w c =
        let (d, i) = found_patterned.fine.by (Pair (Called n p) y) s f w (covers_type s c.0) in
        let (e, j) = found_end.fine.by y s f.1 w.1 (covers_type s c.0) in
        let a : Unmarked 60 (flat y ++ s) = told_at (marks "<") false (Sign 58 [] ∷ []) (flat y ++ s) (λ us. refl, tt) j
        in
        let h = append_assoc (flat p) (flat y) s in (
          d,
          (
            i,
            subst (Lacks receiver_stands) (sym h)
                (receiver_lacks p (flat y ++ s) d.0.1 (is_false (is_self (choice (inner p))) c.1)),
            subst (Lacks (an_ident then marks "<")) (sym h) (pattern_unangled p (flat y ++ s) d.0.1 a),
          ),
        )
    go (Pair _ y) s f w c = absurd f.0
    go _ s f w c = absurd f

abbrev pub dots_classes : List Class
dots_classes = Sign 46 (46 ∷ 46 ∷ []) ∷ []

abbrev pub bare_classes : List Class
bare_classes = starts Receiver ++ (dots_classes ++ (starts (AType WithPlus) ++ starts OnePattern))

abbrev pub MeantEdge : Edge
MeantEdge y s =
    LacksAll (behind Parameter) s × ((is_named (Pair Nil y) ≡ true) × (has_own_name (Pair Nil y) ≡ true))

fine_bare : Fine bare_parameter MeantEdge (At bare_classes)
unfolding skips
fine_bare = record { by = go }
  where
    go : (x : Tree) (s : List Token) → Fits x bare_parameter → Ready x → MeantEdge x s
        → Derives x bare_parameter s × At bare_classes x s
    go (First x) s f w c =
        let (d, i) = (found_called {n = the_receiver} (found_ref Receiver refl)).fine.by x s f.1 w
        (covers_receiver s c.0) in (
          (receiver_seen x s f.1 c.0.0, d),
          among_left (starts Receiver) (dots_classes ++ (starts (AType WithPlus) ++ starts OnePattern)) (flat x ++ s) i,
        )
    go (Second (First x)) s f w c =
        let (d, i) = (found_called {n = the_dots} (found_mark {c = 46} {cs = 46 ∷ 46 ∷ []})).fine.by x s f.1.1 w tt in (
          (
            told_at receiver_stands false dots_classes (flat x ++ s) (λ us. refl, tt) i,
            (told_at (marks "...") true dots_classes (flat x ++ s) (λ us. refl, tt) i, d),
          ),
          among_right (starts Receiver) (dots_classes ++ (starts (AType WithPlus) ++ starts OnePattern)) (flat x ++ s)
              (among_left dots_classes (starts (AType WithPlus) ++ starts OnePattern) (flat x ++ s) i),
        )
    go (Second (Second (First x))) s f w c = let e : false ≡ true = c.1.0 in cc e
    go (Second (Second (Second x))) s f w c =
        let (d, i) = fine_patterned.by x s f.1.1.1 w (c.0, c.1.1) in (
          (i.1, (told_at (marks "...") false (starts OnePattern) (flat x ++ s) (search) i.0, (i.2, d))),
          among_right (starts Receiver) (dots_classes ++ (starts (AType WithPlus) ++ starts OnePattern)) (flat x ++ s)
              (among_right dots_classes (starts (AType WithPlus) ++ starts OnePattern) (flat x ++ s)
              (among_right (starts (AType WithPlus)) (starts OnePattern) (flat x ++ s) i.0)),
        )
    go (Second (Second _)) s f w c = absurd f.1.1
    go (Second _) s f w c = absurd f.1
    go _ s f w c = absurd f

meant_bare : (o y : Tree) → IsMeant Parameter (Pair o y)
    → (is_named (Pair Nil y) ≡ true) × (has_own_name (Pair Nil y) ≡ true)
meant_bare o (Second (Second (First t))) m = m
meant_bare o (Second (Second (Second (Pair (Called n p) z)))) m = m
meant_bare o _ m = (refl, refl)

pub step_parameter : Step Parameter
unfolding table skips
step_parameter =
    meant_step Parameter refl refl
    (fine_seq (λ x s. LacksAll (behind Parameter) s × IsMeant Parameter x) (At (starts Parameter))
    (maybe_ref OuterAttributes refl).fine fine_bare (λ x y s c. (c.0, meant_bare x y c.1))
    (λ x y s i c. unseen_all (marks "#" ∷ []) bare_classes (flat y ++ s) ((search), tt) i)
    (λ x y s j i c. ⊎_elim
    (λ e. at_back (starts Parameter) x y s e (among_right (starts OuterAttributes) bare_classes (flat y ++ s) i))
    (λ k. at_front (starts Parameter) x y s
    (among_left (starts OuterAttributes) bare_classes (flat x ++ (flat y ++ s)) k)) j))

-- whether a pattern is self is the same of what was read and of what is printed
names_fits : (y : Tree) → Fits y (table (Segments InExpression)) → is_self_names (kept y) ≡ is_self_names y
unfolding table held passed
names_fits (First (Pair (AWord cs) (First m))) f = refl
names_fits (First (Pair (AWord cs) (Second m))) f = refl
names_fits (First (Pair (AWord cs) _)) f = absurd f.1.1
names_fits (First (Pair _ m)) f = absurd f.1.0
names_fits (First _) f = absurd f.1
names_fits (Second x) f = refl
names_fits _ f = absurd f

names_read : (y : Tree) (r : List Token) → Derives y (table (Segments InExpression)) r
    → is_self_names (normal_in Plain (kept y)) ≡ is_self_names y
unfolding table held passed
names_read (First (Pair (AWord cs) (First m))) r d = refl
names_read (First (Pair (AWord cs) (Second m))) r d = refl
names_read (First (Pair (AWord cs) _)) r d = absurd d.1.1
names_read (First (Pair _ m)) r d = absurd d.1.0
names_read (First _) r d = absurd d.1
names_read (Second x) r d = refl
names_read _ r d = absurd d

path_fits : (y : Tree) → Fits y (table (Path InExpression)) → is_self_path (kept y) ≡ is_self_path y
unfolding table held passed
path_fits (Pair (First m) y) f = refl
path_fits (Pair (Second z) y) f =
    under_fits (Segments InExpression) (λ z. refl) (λ z. refl) refl is_self_names names_fits y f.1
path_fits (Pair _ y) f = absurd f.0
path_fits _ f = absurd f

path_read : (y : Tree) (r : List Token) → Derives y (table (Path InExpression)) r
    → is_self_path (normal_in Plain (kept y)) ≡ is_self_path y
unfolding table held passed
path_read (Pair (First m) y) r d = refl
path_read (Pair (Second z) y) r d =
    under_read (Segments InExpression) (λ z. refl) (λ z. refl) refl is_self_names names_read y r d.1
path_read (Pair _ y) r d = absurd d.0
path_read _ r d = absurd d

any_fits : (y : Tree) → Fits y (table (AnyPath InExpression)) → is_self_any (kept y) ≡ is_self_any y
unfolding table held passed
any_fits (First x) f = refl
any_fits (Second y) f = under_fits (Path InExpression) (λ z. refl) (λ z. refl) refl is_self_path path_fits y f.1
any_fits _ f = absurd f

any_read : (y : Tree) (r : List Token) → Derives y (table (AnyPath InExpression)) r
    → is_self_any (normal_in Plain (kept y)) ≡ is_self_any y
unfolding table held passed
any_read (First x) r d = refl
any_read (Second y) r d = under_read (Path InExpression) (λ z. refl) (λ z. refl) refl is_self_path path_read y r d.1
any_read _ r d = absurd d

pattern_fits : (y : Tree) → Fits y (table PathPattern)
    → is_self_alone (Node PathPattern (kept y)) ≡ is_self_alone (Node PathPattern y)
unfolding table held passed
pattern_fits (Pair p e) f = under_fits (AnyPath InExpression) (λ z. refl) (λ z. refl) refl is_self_any any_fits p f.0
pattern_fits _ f = absurd f

pattern_read : (y : Tree) (r : List Token) → Derives y (table PathPattern) r
    → is_self_alone (Node PathPattern (normal_in Plain (kept y))) ≡ is_self_alone (Node PathPattern y)
unfolding table held passed
pattern_read (Pair p e) r d =
    under_read (AnyPath InExpression) (λ z. refl) (λ z. refl) refl is_self_any any_read p (flat e ++ r) d.0
pattern_read _ r d = absurd d

alone_fits : (x : Tree) (g : Gram) → Fits x g → is_self_alone (choice (kept x)) ≡ is_self_alone (choice x)
unfolding held
alone_fits (First x) (alt t a b) f = alone_fits x a f.1
alone_fits (First x) (judged v g) f = alone_fits x g f.1
alone_fits (Second x) (alt t a b) f = alone_fits x b f.1
alone_fits (First x) _ f = absurd f
alone_fits (Second x) _ f = absurd f
alone_fits (Node PathPattern y) (ref k) f = pattern_fits y f.3
alone_fits (Node PathPattern y) _ f = absurd f
alone_fits (Back l k y) _ f = absurd f
alone_fits _ _ f = refl

alone_read : (x : Tree) (g : Gram) (r : List Token) → Derives x g r
    → is_self_alone (choice (normal_in Plain (kept x))) ≡ is_self_alone (choice x)
unfolding held passed
alone_read (First x) (alt t a b) r d = alone_read x a r d.1
alone_read (First x) (judged v g) r d = alone_read x g r d.1
alone_read (Second x) (alt t a b) r d = alone_read x b r d.1
alone_read (First x) _ r d = absurd d
alone_read (Second x) _ r d = absurd d
alone_read (Node PathPattern y) (ref k) r d = pattern_read y r d.1
alone_read (Node PathPattern y) _ r d = absurd d
alone_read (Back l k y) _ r d = absurd d
alone_read _ _ r d = refl

abbrev pub alone_in : Tree → Bool
alone_in y = is_self_alone (choice y)

abbrev pub self_of : Tree → Bool
self_of y = is_self (choice y)

node_fits : (k : Kind) (x : Tree) → Fits x (table k) → is_self (kept (Node k x)) ≡ is_self (Node k x)
unfolding held passed table
node_fits PathPattern y f = pattern_fits y f
node_fits ReferencePattern (Pair u (Pair m p)) f =
    under_fits OnePattern (λ z. refl) (λ z. refl) refl alone_in (λ y g. alone_fits y (table OnePattern) g) p f.1.1
node_fits ReferencePattern (Pair u _) f = absurd f.1
node_fits ReferencePattern _ f = absurd f
node_fits _ y f = refl

self_fits : (x : Tree) (g : Gram) → Fits x g → self_of (kept x) ≡ self_of x
self_fits (First x) (alt t a b) f = self_fits x a f.1
self_fits (First x) (judged v g) f = self_fits x g f.1
self_fits (Second x) (alt t a b) f = self_fits x b f.1
self_fits (First x) _ f = absurd f
self_fits (Second x) _ f = absurd f
self_fits (Node k y) (ref l) f = node_fits k y f.3
self_fits (Node k y) _ f = absurd f
self_fits (Back l k y) _ f = absurd f
self_fits _ _ f = refl

node_read : (k : Kind) (x : Tree) (r : List Token) → Derives x (table k) r
    → is_self (normal_in Plain (kept (Node k x))) ≡ is_self (Node k x)
unfolding held passed table
node_read PathPattern y r d = pattern_read y r d
node_read ReferencePattern (Pair u (Pair m p)) r d =
    under_read OnePattern (λ z. refl) (λ z. refl) refl alone_in (λ y r e. alone_read y (table OnePattern) r e) p r d.1.1
node_read ReferencePattern (Pair u _) r d = absurd d.1
node_read ReferencePattern _ r d = absurd d
node_read _ y r d = refl

self_read : (x : Tree) (g : Gram) (r : List Token) → Derives x g r → self_of (normal_in Plain (kept x)) ≡ self_of x
self_read (First x) (alt t a b) r d = self_read x a r d.1
self_read (First x) (judged v g) r d = self_read x g r d.1
self_read (Second x) (alt t a b) r d = self_read x b r d.1
self_read (First x) _ r d = absurd d
self_read (Second x) _ r d = absurd d
self_read (Node k y) (ref l) r d = node_read k y r d.1
self_read (Node k y) _ r d = absurd d
self_read (Back l k y) _ r d = absurd d
self_read _ _ r d = refl

own_fits : (w : Tree) → Fits w (table Parameter) → has_own_name (kept w) ≡ has_own_name w
unfolding table held passed
own_fits (Pair o (First x)) f = refl
own_fits (Pair o (Second (First x))) f = refl
own_fits (Pair o (Second (Second (First x)))) f = refl
own_fits (Pair o (Second (Second (Second (Pair (Called n p) y))))) f =
    ap not (under_fits OnePattern (λ z. refl) (λ z. refl) refl self_of (λ y g. self_fits y (table OnePattern) g) p
    f.1.1.1.1.0.1)
own_fits (Pair o (Second (Second (Second (Pair _ y))))) f = absurd f.1.1.1.1.0
own_fits (Pair o (Second (Second (Second _)))) f = absurd f.1.1.1.1
own_fits (Pair o (Second (Second _))) f = absurd f.1.1.1
own_fits (Pair o (Second _)) f = absurd f.1.1
own_fits (Pair o _) f = absurd f.1
own_fits _ f = absurd f

own_read : (x : Tree) (r : List Token) → Derives x (table Parameter) r
    → has_own_name (normal_in Plain (kept x)) ≡ has_own_name x
unfolding table place_of held passed
own_read (Pair o (First x)) r d = refl
own_read (Pair o (Second (First x))) r d = refl
own_read (Pair o (Second (Second (First x)))) r d = refl
own_read (Pair o (Second (Second (Second (Pair (Called n p) y))))) r d =
    ap (λ q. not (self_of (inner (normal_in q (kept p))))) (place_called n d.1.1.1.1.0.0)
    ∙ ap not (under_read OnePattern (λ z. refl) (λ z. refl) refl self_of (λ y r e. self_read y (table OnePattern) r e)
    p (flat y ++ r) d.1.1.1.1.0.1)
  where
    place_called : (n : Part) → n ≡ the_pattern → place_of n ≡ Plain
    place_called n e = ap place_of e
own_read (Pair o (Second (Second (Second (Pair _ y))))) r d = absurd d.1.1.1.1.0
own_read (Pair o (Second (Second (Second _)))) r d = absurd d.1.1.1.1
own_read (Pair o (Second (Second _))) r d = absurd d.1.1.1
own_read (Pair o (Second _)) r d = absurd d.1.1
own_read (Pair o _) r d = absurd d.1
own_read _ r d = absurd d

-- and where no receiver was seen none stands
self_received : (ts : List Token) → sees self_stands ts ≡ true
    → (sees own_stands ts ≡ true) × (sees receiver_stands ts ≡ true) × Lacks a_lifetime ts
self_received (Ident cs ∷ us) e = go (same_text (codes "self") cs) refl e
  where
    go : (b : Bool) → same_text (codes "self") cs ≡ b → seen (past (cond b (Some us) None) (no (marks "::"))) ≡ true
        → (sees own_stands (Ident cs ∷ us) ≡ true) × (sees receiver_stands (Ident cs ∷ us) ≡ true)
        × Lacks a_lifetime (Ident cs ∷ us)
    go true i h =
        let j : codes "self" ≡ cs = (bytes_eq-Decides (codes "self") cs).0 i in (
          subst (λ ds. sees own_stands (Ident ds ∷ us) ≡ true) j h,
          subst (λ ds. sees receiver_stands (Ident ds ∷ us) ≡ true) j h,
          refl,
        )
    go false i h = cc h
self_received _ e = cc e

behind_received : (spacing : Spacing) (y : Tree) (s : List Token)
    → Derives y (optional (at "mut") (keyword "mut") ▸ ref OnePattern) s
    → is_self (Node ReferencePattern (Pair Nil y)) ≡ true
    → sees receiver_stands (Punct 38 spacing ∷ flat y ++ s) ≡ true
behind_received spacing (Pair (First (AWord cs)) p) s d e =
    referred spacing (Ident cs ∷ flat p ++ s) refl ∙ moved_past cs (flat p ++ s) d.0.1 ∙ self_at p s d.1 ∙ e
behind_received spacing (Pair (First _) p) s d e = absurd d.0.1
behind_received spacing (Pair (Second Nil) p) s d e =
    let h = self_received (flat p ++ s) (self_at p s d.1 ∙ e) in
    referred spacing (flat p ++ s) h.2 ∙ h.0
behind_received spacing (Pair (Second _) p) s d e = absurd d.0.1
behind_received spacing (Pair _ p) s d e = absurd d.0
behind_received spacing _ s d e = absurd d

node_received : (k : Kind) (x : Tree) (s : List Token) → Derives x (table k) s → is_self (Node k x) ≡ true
    → sees receiver_stands (flat x ++ s) ≡ true
unfolding table
node_received PathPattern y s d e = (self_received (flat y ++ s) (pattern_self y s d ∙ e)).1
node_received ReferencePattern (Pair (AMark c cs spacing) y) s d e =
    ap (sees receiver_stands) (append_assoc (signs c cs spacing) (flat y) s)
    ∙ and_at c cs spacing (flat y ++ s) true d.0.0 d.0.1 (behind_received spacing y s d.1 e)
node_received ReferencePattern (Pair _ y) s d e = absurd d.0
node_received ReferencePattern _ s d e = absurd d
node_received _ y s d e = absurd (false≢true e)

received : (x : Tree) (g : Gram) (s : List Token) → Derives x g s → self_of x ≡ true
    → sees receiver_stands (flat x ++ s) ≡ true
received (First x) (alt t a b) s d e = received x a s d.1 e
received (First x) (judged v g) s d e = received x g s d.1 e
received (Second x) (alt t a b) s d e = received x b s d.1 e
received (First x) _ s d e = absurd d
received (Second x) _ s d e = absurd d
received (Node k y) (ref l) s d e = node_received k y s d.1 e
received (Node k y) _ s d e = absurd d
received _ _ s d e = absurd (false≢true e)

own_meant : (x : Tree) (r : List Token) → Derives x (table Parameter) r → has_own_name x ≡ true
unfolding table
own_meant (Pair o (Second (Second (Second (Pair (Called n (Node k p)) y))))) r d = go (self_of p) refl
  where
    go : (b : Bool) → self_of p ≡ b → not b ≡ true
    go false h = refl
    go true h =
        let f : true ≡ false =
        sym (received p (table k) (flat y ++ r) d.1.1.1.1.0.1.1 h)
        ∙ ap (sees receiver_stands) (sym (append_assoc (flat p) (flat y) r)) ∙ d.1.0 in
        cc f
own_meant (Pair o (Second (Second (Second (Pair (Called n _) y))))) r d = absurd d.1.1.1.1.0.1
own_meant (Pair o (First x)) r d = refl
own_meant (Pair o (Second (First x))) r d = refl
own_meant (Pair o (Second (Second (First x)))) r d = refl
own_meant (Pair o (Second (Second (Second (Pair _ y))))) r d = absurd d.1.1.1.1.0
own_meant (Pair o (Second (Second (Second _)))) r d = absurd d.1.1.1.1
own_meant (Pair o (Second (Second _))) r d = absurd d.1.1.1
own_meant (Pair o (Second _)) r d = absurd d.1.1
own_meant (Pair o _) r d = absurd d.1
own_meant _ r d = absurd d

-- what is held: a type alone has the pattern _
pub record Named (w : Tree) : Type 0 where
  pub tree : Tree
  pub fits : Fits tree (table Parameter)
  pub is_with_name : is_named tree ≡ true
  pub own : has_own_name tree ≡ true
  pub printed : named (kept tree) ≡ kept tree
  pub kept_is : named (kept tree) ≡ named (kept w)

wild_fits : Fits wild (ref OnePattern)
unfolding has_step table held
wild_fits = (refl, refl, refl, (([], refl), ((Ident (codes "_") ∷ [], refl), (refl, refl, refl, refl, tt))), refl)

named_alone : (o t : Tree) (n : Part) → n ≡ the_unnamed → Fits (Pair o (Second (Second (First (Called n t)))))
    (table Parameter) → Named (Pair o (Second (Second (First (Called n t)))))
unfolding table held
named_alone o t n e f =
    record {
      tree = Pair o (Second (Second (Second (Pair (Called the_pattern wild)
          (Pair lone_colon (Second (Called the_type t)))))));
      fits = (
        f.0,
        (
          f.1.0,
          (
            f.1.1.0,
            (
              ([], refl),
              ((refl, wild_fits), ((refl, refl, refl), (([], refl), (refl, f.1.1.1.1.1)))),
            ),
          ),
        ),
      );
      is_with_name = refl;
      own = refl;
      printed = refl;
      kept_is = ap (λ m. named (Pair (kept o) (Second (Second (First (Called m (kept t))))))) (sym e);
    }

named_fits : (w : Tree) → Fits w (table Parameter) → has_own_name w ≡ true → Named w
unfolding table
named_fits (Pair o (Second (Second (First (Called n t))))) f m = named_alone o t n f.1.1.1.1.0 f
named_fits (Pair o (Second (Second (First _)))) f m = absurd f.1.1.1.1
named_fits (Pair o (First x)) f m =
    record { tree = Pair o (First x); fits = f; is_with_name = refl; own = m; printed = refl; kept_is = refl }
named_fits (Pair o (Second (First x))) f m =
    record { tree = Pair o (Second (First x)); fits = f; is_with_name = refl; own = m; printed = refl; kept_is = refl }
named_fits (Pair o (Second (Second (Second x)))) f m =
    record {
      tree = Pair o (Second (Second (Second x)));
      fits = f;
      is_with_name = refl;
      own = m;
      printed = refl;
      kept_is = refl;
    }
named_fits (Pair o (Second (Second _))) f m = absurd f.1.1.1
named_fits (Pair o (Second _)) f m = absurd f.1.1
named_fits (Pair o _) f m = absurd f.1
named_fits _ f m = absurd f

named_normal : (v : Tree) → named (normal_in Plain v) ≡ normal_in Plain (named v)
unfolding passed place_of
named_normal (Pair a (Second (Second (First (Called the_unnamed t))))) = refl
named_normal _ = refl

pub law_parameter : KindLaw Parameter
unfolding has_step held passed place_of table
law_parameter = record { entry = λ q l. simple_law Plain (table Parameter) refl; node = go }
  where
    go : (q : Position) → IsPlaced q Parameter → (x : Tree) (r : List Token) → is_taken Parameter x ≡ true
        → Derives x (table Parameter) r
        → Printed (table Parameter) (normal_in (passed Parameter q) (kept x))
        → Printed (ref Parameter) (normal_in q (Node (held Parameter) (named (kept x))))
    go q l x r m d i =
        let b : has_own_name i.tree ≡ true =
        sym (own_fits i.tree i.fits) ∙ ap has_own_name i.kept_is ∙ own_read x r d ∙ own_meant x r d in
        let j = named_fits i.tree i.fits b in
        record {
          tree = Node Parameter j.tree;
          fits = (refl, refl, ap flat j.printed, j.fits, (j.is_with_name, j.own));
          kept_is = ap (Node Parameter) (j.kept_is ∙ ap named i.kept_is ∙ named_normal (kept x));
        }
