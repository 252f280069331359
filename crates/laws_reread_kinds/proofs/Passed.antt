-- What stands behind attributes: a look passes them.
use Rattle.std.proofs.Common.{◌≡◌, ℕ, zero, suc, ◌+◌, List, [], ◌∷◌, ◌++◌, refl, sym, ap, ◌∙◌, subst}
use Rattle.std.proofs.Common.{append_assoc, arith}
use Rattle.std.specs.Prelude.{Bool, false, length, Option, Some, None}
use Rattle.std.proofs.lemmas.List.{length-append}
use Rattle.proc_macro2.specs.Token.{Token, Opens, Closes}
use Rattle.proc_macro2.specs.declared.delimiter.Delimiter.{Delimiter}
use Rattle.proc_macro2.specs.declared.delimiter.Delimiter.TheVariants.{Bracket}
use Rattle.rust_leaf.specs.declared.punct.Spacing.{Spacing}
use Rattle.syn_grammar.specs.Kind.{OuterAttribute, OuterAttributes}
use Rattle.syn_grammar.specs.Tree.{Tree, AMark, End, Again, Group, Node, Pair, marks as signs, flat}
use Rattle.syn_grammar.specs.Gram.{Gram, ref}
use Rattle.syn_grammar.specs.Look.{Look, seen, behind, sees, ◌then◌, a_group, as_far, all_attributes}
use Rattle.syn_grammar.specs.Look.{first_seen}
use Rattle.syn_grammar.specs.Say.{marks}
use Rattle.syn_grammar.specs.Table.{table}
use Rattle.syn_grammar.specs.Derives.{Derives}
use Rattle.laws_items.proofs.Passed.{group_passed}

-- an attribute
abbrev pub an_attribute : Look
an_attribute = marks "#" then a_group Bracket

hash_passed : (c : ℕ) (cs : List ℕ) (spacing : Spacing) (ts : List Token) → c ≡ 35 → cs ≡ []
    → (marks "#") (signs c cs spacing ++ ts) ≡ Some ts
hash_passed c cs spacing ts e f =
    subst (λ d. (marks "#") (signs d cs spacing ++ ts) ≡ Some ts) (sym e)
    (subst (λ ds. (marks "#") (signs 35 ds spacing ++ ts) ≡ Some ts) (sym f) refl)

bracket_passed : (e : Delimiter) (x : Tree) (g : Gram) (s : List Token) → e ≡ Bracket → Derives x g []
    → a_group Bracket (Opens e ∷ (flat x ++ Closes e ∷ []) ++ s) ≡ Some s
bracket_passed e x g s h d =
    subst (λ j. a_group Bracket (Opens j ∷ (flat x ++ Closes j ∷ []) ++ s) ≡ Some s) (sym h)
    (group_passed Bracket x g s d)

attribute_in : (x : Tree) (s : List Token) → Derives x (table OuterAttribute) s → an_attribute (flat x ++ s) ≡ Some s
unfolding table
attribute_in (Pair (AMark c cs spacing) (Group e x)) s d =
    ap an_attribute (append_assoc (signs c cs spacing) (flat (Group e x)) s)
    ∙ ap (λ o. behind o (a_group Bracket)) (hash_passed c cs spacing (flat (Group e x) ++ s) d.0.0 d.0.1)
    ∙ bracket_passed e x _ s d.1.0 d.1.1
attribute_in (Pair (AMark c cs spacing) _) s d = absurd d.1
attribute_in (Pair _ y) s d = absurd d.0
attribute_in _ s d = absurd d

attribute_passed : (x : Tree) (s : List Token) → Derives x (ref OuterAttribute) s → an_attribute (flat x ++ s) ≡ Some s
attribute_passed (Node k x) s d = attribute_in x s (subst (λ j. Derives x (table j) s) d.0 d.1)
attribute_passed _ s d = absurd d

-- and attributes, as far as they go
abbrev pub turns : Tree → ℕ
turns (Again x y) = suc (turns y)
turns _ = 0

none_first : (o : Option (List Token)) (l : Look) (ts : List Token) → seen o ≡ false
    → first_seen (behind o l) (Some ts) ≡ Some ts
none_first None l ts e = refl
none_first (Some us) l ts e = cc

lacks_attribute : (ts : List Token) → sees (marks "#") ts ≡ false → sees an_attribute ts ≡ false
lacks_attribute ts e = go ((marks "#") ts) e
  where
    go : (o : Option (List Token)) → seen o ≡ false → seen (behind o (a_group Bracket)) ≡ false
    go None e = refl
    go (Some us) e = cc

far_none : (n : ℕ) (ts : List Token) → sees (marks "#") ts ≡ false → as_far n an_attribute ts ≡ Some ts
far_none zero ts e = refl
far_none (suc n) ts e = go (an_attribute ts) (lacks_attribute ts e)
  where
    go : (o : Option (List Token)) → seen o ≡ false → first_seen (behind o (as_far n an_attribute)) (Some ts) ≡ Some ts
    go o e = none_first o (as_far n an_attribute) ts e

far : (x : Tree) (s : List Token) (n m : ℕ) → Derives x (table OuterAttributes) s → m ≡ turns x + n
    → as_far m an_attribute (flat x ++ s) ≡ Some s
unfolding table
far End s n m d e = far_none m s d
far (Again x y) s n zero d e = absurd (omega (arith, e))
far (Again x y) s n (suc m) d e =
    ap (as_far (suc m) an_attribute) (append_assoc (flat x) (flat y) s)
    ∙ ap (λ o. first_seen (behind o (as_far m an_attribute)) (Some (flat x ++ (flat y ++ s))))
    (attribute_passed x (flat y ++ s) d.1)
    ∙ ap (λ o. first_seen o (Some (flat x ++ (flat y ++ s)))) (far y s n m d.2 (omega (arith, e)))
far _ s n m d e = absurd d

marks_some : (c : ℕ) (cs : List ℕ) (spacing : Spacing) → (m : ℕ) × (length (signs c cs spacing) ≡ suc m)
marks_some c [] spacing = (0, refl)
marks_some c (d ∷ ds) spacing = (length (signs d ds spacing), refl)

some_in : (x : Tree) (s : List Token) → Derives x (table OuterAttribute) s → (m : ℕ) × (length (flat x) ≡ suc m)
unfolding table
some_in (Pair (AMark c cs spacing) y) s d =
    let (m, e) = marks_some c cs spacing in
    let f = length-append (signs c cs spacing) (flat y) in
    (m + length (flat y), omega (arith, e, f))
some_in (Pair _ y) s d = absurd d.0
some_in _ s d = absurd d

some_tokens : (x : Tree) (s : List Token) → Derives x (ref OuterAttribute) s → (m : ℕ) × (length (flat x) ≡ suc m)
some_tokens (Node k x) s d = some_in x s (subst (λ j. Derives x (table j) s) d.0 d.1)
some_tokens _ s d = absurd d

-- there are as many tokens
enough : (x : Tree) (s : List Token) → Derives x (table OuterAttributes) s
    → (n : ℕ) × (length (flat x ++ s) ≡ turns x + n)
unfolding table
enough End s d = (length s, omega arith)
enough (Again x y) s d =
    let (m, e) = some_tokens x (flat y ++ s) d.1 in
    let (n, f) = enough y s d.2 in
    let g : length ((flat x ++ flat y) ++ s) ≡ length (flat x) + length (flat y ++ s) =
    ap length (append_assoc (flat x) (flat y) s) ∙ length-append (flat x) (flat y ++ s) in
    (m + n, g ∙ omega (arith, e, f))
enough _ s d = absurd d

passed_in : (x : Tree) (s : List Token) → Derives x (table OuterAttributes) s → all_attributes (flat x ++ s) ≡ Some s
passed_in x s d =
    let (n, e) = enough x s d in
    far x s n (length (flat x ++ s)) d e

pub attributes_passed : (x : Tree) (s : List Token) → Derives x (ref OuterAttributes) s
    → all_attributes (flat x ++ s) ≡ Some s
attributes_passed (Node k x) s d = passed_in x s (subst (λ j. Derives x (table j) s) d.0 d.1)
attributes_passed _ s d = absurd d

-- what is seen behind them
pub behind_attributes : (o y : Tree) (l : Look) (s : List Token) (b : Bool)
    → Derives o (ref OuterAttributes) (flat y ++ s) → sees l (flat y ++ s) ≡ b
    → sees (all_attributes then l) ((flat o ++ flat y) ++ s) ≡ b
behind_attributes o y l s b d e =
    ap (sees (all_attributes then l)) (append_assoc (flat o) (flat y) s)
    ∙ ap (λ p. seen (behind p l)) (attributes_passed o (flat y ++ s) d) ∙ e
