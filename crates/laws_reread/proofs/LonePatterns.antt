-- A path pattern of one identifier alone is read only before .. : else the identifier is read as a pattern that names.
use Rattle.std.proofs.Common.{◌≡◌, ℕ, List, [], ◌∷◌, ◌++◌, refl, sym, ◌∙◌, subst}
use Rattle.std.specs.Prelude.{Bool, true, false, cond, Option, Some, None}
use Rattle.std.proofs.lemmas.Bool.{false≢true}
use Rattle.proc_macro2.specs.Token.{Token, Ident}
use Rattle.syn_grammar.specs.Kind.{Kind, AnyPath, IdentPattern, InExpression, LiteralPattern, OnePattern, Path}
use Rattle.syn_grammar.specs.Kind.{PathPattern, RangeToPattern, ReferencePattern, RestPattern, Segments, SlicePattern}
use Rattle.syn_grammar.specs.Kind.{TuplePattern, WildPattern}
use Rattle.syn_grammar.specs.Words.{is_ident}
use Rattle.syn_grammar.specs.Tree.{Tree, AWord, Nil, Pair, First, Second, Node, flat}
use Rattle.syn_grammar.specs.Part.{choice}
use Rattle.syn_grammar.specs.Gram.{ref}
use Rattle.syn_grammar.specs.Look.{Look, ◌or◌, no, seen, sees, behind, first_seen}
use Rattle.syn_grammar.specs.Say.{at, brace, marks, parenthesis}
use Rattle.syn_grammar.specs.Patterns.{binding}
use Rattle.syn_grammar.specs.Tidy.{is_lone_path, is_lone_segment}
use Rattle.syn_grammar.specs.Table.{table}
use Rattle.syn_grammar.specs.Derives.{Derives}
use Rattle.laws_reread_expressions.proofs.Bools.{or_parts}
use Rattle.laws_reread_kinds.specs.Covered.{is_lone, lone_pattern}
use Rattle.laws_reread_kinds.proofs.Alternatives.{is_lone_plain}
use Rattle.laws_reread_kinds.proofs.Choices.{both_true}

-- a name alone, before such a rest
record Name (x : Tree) (r : List Token) : Type 0 where
  text : List ℕ
  is : flat x ≡ Ident text ∷ []
  passes : is_ident text ≡ true
  ends : sees (marks "::") r ≡ false

names_read : (z : Tree) (r : List Token) → Derives z (table (Segments InExpression)) r
    → is_lone_segment (Node (Segments InExpression) z) ≡ true → Name z r
unfolding table
names_read (Second (Pair (AWord cs) (Second (Second (Second Nil))))) r d e =
    record { text = cs; is = refl; passes = e; ends = d.1.1.1.0 }
names_read (Second (Pair (AWord cs) (Second (Second (Second _))))) r d e = absurd d.1.1.1.1.1
names_read _ r d e = absurd (false≢true e)

path_read : (x : Tree) (r : List Token) → Derives x (table (Path InExpression)) r
    → is_lone_plain (Node (Path InExpression) x) ≡ true → Name x r
unfolding table
path_read (Pair (Second Nil) (Node k z)) r d e =
    let n = names_read z r (subst (λ l. Derives z (table l) r) d.1.0 d.1.1)
    (subst (λ l. is_lone_segment (Node l z) ≡ true) d.1.0 e) in
    record { text = n.text; is = n.is; passes = n.passes; ends = n.ends }
path_read (Pair (Second Nil) _) r d e = absurd d.1
path_read (Pair (Second _) y) r d e = absurd d.0.1
path_read _ r d e = absurd (false≢true e)

any_read : (x : Tree) (r : List Token) → Derives x (table (AnyPath InExpression)) r
    → is_lone_path (Node (AnyPath InExpression) x) ≡ true → Name x r
unfolding table
any_read (Second (Node k x)) r d e =
    let n = path_read x r (subst (λ l. Derives x (table l) r) d.1.0 d.1.1)
    (subst (λ l. is_lone_plain (Node l x) ≡ true) d.1.0 e) in
    record { text = n.text; is = n.is; passes = n.passes; ends = n.ends }
any_read (Second _) r d e = absurd d.1
any_read _ r d e = absurd (false≢true e)

-- what is behind it
seen_there : (b : Bool) (r : List Token) → seen (cond b None (Some r)) ≡ false → b ≡ true
seen_there true r e = refl
seen_there false r e = absurd (false≢true (sym e))

seen_next : (o p : Option (List Token)) → seen o ≡ false → seen (first_seen o p) ≡ true → seen p ≡ true
seen_next None p e f = f
seen_next (Some ts) p e f = absurd (false≢true (sym e))

abbrev name_ends : Look
name_ends = marks "::" or parenthesis or brace or marks ".."

abbrev name_stands : Look
name_stands = at "ref" or at "mut" or binding

dots_behind : (cs : List ℕ) (r : List Token) → is_ident cs ≡ true → sees name_stands (Ident cs ∷ r) ≡ false
    → sees (marks "::") r ≡ false → sees parenthesis r ≡ false → sees brace r ≡ false → sees (marks "..") r ≡ true
dots_behind cs r i e f g h =
    let m = or_parts (at "ref" (Ident cs ∷ r)) ((at "mut" or binding) (Ident cs ∷ r)) e in
    let b = or_parts (at "mut" (Ident cs ∷ r)) (binding (Ident cs ∷ r)) m.1 in
    seen_next (brace r) (marks ".." r) h
    (seen_next (parenthesis r) ((brace or marks "..") r) g
    (seen_next (marks "::" r) ((parenthesis or brace or marks "..") r) f
    (seen_there (sees name_ends r) r
    (subst (λ c. seen (behind (cond c (Some r) None) (no name_ends)) ≡ false) i b.1))))

pattern_read : (y : Tree) (r : List Token) → Derives y (table PathPattern) r → lone_pattern y ≡ true
    → sees name_stands (flat y ++ r) ≡ false → sees (marks "..") r ≡ true
unfolding table
pattern_read (Pair (Node k x) (Second (Second (Second Nil)))) r d e t =
    let n = any_read x r (subst (λ l. Derives x (table l) r) d.0.0 d.0.1)
    (subst (λ l. is_lone_path (Node l x) ≡ true) d.0.0 (both_true (is_lone_path (Node k x)) true e).0) in
    dots_behind n.text r n.passes (subst (λ us. sees name_stands ((us ++ []) ++ r) ≡ false) n.is t)
    n.ends d.1.0 d.1.1.0
pattern_read (Pair (Node k x) (Second (Second (Second _)))) r d e t = absurd d.1.1.1.1
pattern_read (Pair (Node k x) _) r d e t = absurd (false≢true (both_true (is_lone_path (Node k x)) false e).1)
pattern_read (Pair _ y) r d e t = absurd d.0
pattern_read _ r d e t = absurd d

-- of one alternative: the others are no paths
abbrev is_path_pattern : Kind → Bool
is_path_pattern PathPattern = true
is_path_pattern k = false

lone_kind : (k : Kind) (y : Tree) → is_lone (Node k y) ≡ true → is_path_pattern k ≡ true
lone_kind PathPattern y e = refl
lone_kind _ y e = absurd (false≢true e)

not_lone : (l : Kind) (x : Tree) (r : List Token) → is_path_pattern l ≡ false → Derives x (ref l) r
    → is_lone (choice x) ≡ true → ⊥
not_lone l (Node k y) r h d e =
    false≢true (sym h ∙ subst (λ j. is_path_pattern j ≡ true) d.0 (lone_kind k y e))
not_lone l _ r h d e = d

lone_read : (x : Tree) (r : List Token) → Derives x (ref PathPattern) r → is_lone (choice x) ≡ true
    → sees name_stands (flat x ++ r) ≡ false → sees (marks "..") r ≡ true
lone_read (Node k y) r d e t =
    pattern_read y r (subst (λ l. Derives y (table l) r) d.0 d.1) (subst (λ l. is_lone (Node l y) ≡ true) d.0 e) t
lone_read _ r d e t = absurd d

pub lone_before : (x : Tree) (r : List Token) → Derives x (table OnePattern) r → is_lone (choice x) ≡ true
    → sees (marks "..") r ≡ true
unfolding table
lone_before (First x) r d e = absurd (not_lone IdentPattern x r refl d.1 e)
lone_before (Second (First x)) r d e = absurd (not_lone WildPattern x r refl d.1.1 e)
lone_before (Second (Second (First x))) r d e = absurd (not_lone RangeToPattern x r refl d.1.1.1 e)
lone_before (Second (Second (Second (First x)))) r d e = absurd (not_lone RestPattern x r refl d.1.1.1.1 e)
lone_before (Second (Second (Second (Second (First x))))) r d e =
    absurd (not_lone TuplePattern x r refl d.1.1.1.1.1 e)
lone_before (Second (Second (Second (Second (Second (First x)))))) r d e =
    absurd (not_lone SlicePattern x r refl d.1.1.1.1.1.1 e)
lone_before (Second (Second (Second (Second (Second (Second (First x))))))) r d e =
    absurd (not_lone ReferencePattern x r refl d.1.1.1.1.1.1.1 e)
lone_before (Second (Second (Second (Second (Second (Second (Second (First x)))))))) r d e =
    absurd (not_lone LiteralPattern x r refl d.1.1.1.1.1.1.1.1 e)
lone_before (Second (Second (Second (Second (Second (Second (Second (Second x)))))))) r d e =
    lone_read x r d.1.1.1.1.1.1.1.1 e d.0
lone_before (Second (Second (Second (Second (Second (Second (Second _))))))) r d e = absurd d.1.1.1.1.1.1.1
lone_before (Second (Second (Second (Second (Second (Second _)))))) r d e = absurd d.1.1.1.1.1.1
lone_before (Second (Second (Second (Second (Second _))))) r d e = absurd d.1.1.1.1.1
lone_before (Second (Second (Second (Second _)))) r d e = absurd d.1.1.1.1
lone_before (Second (Second (Second _))) r d e = absurd d.1.1.1
lone_before (Second (Second _)) r d e = absurd d.1.1
lone_before (Second _) r d e = absurd d.1
lone_before _ r d e = absurd d
