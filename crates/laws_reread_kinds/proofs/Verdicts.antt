-- A verdict on what was read is the verdict on what is printed for it.
use Rattle.std.proofs.Common.{◌≡◌, List, ◌∷◌, ◌++◌, refl, sym, ap, ◌∙◌, subst}
use Rattle.std.specs.Prelude.{Bool, true, false, ◌||◌, cond, Option, Some, None}
use Prim.Native.String.{String}
use Rattle.proc_macro2.specs.Token.{Token, Punct}
use Rattle.syn_grammar.specs.Kind.{Position, Plain, Bound}
use Rattle.syn_grammar.specs.Name.{Part, same_part, the_path}
use Rattle.syn_grammar.specs.Tree.{Tree, ALifetime, Pair, First, Second, End, Final, More, Group, Called, Node, flat}
use Rattle.syn_grammar.specs.Part.{is_some, or_else, found, has, some}
use Rattle.syn_grammar.specs.Gram.{Gram, ref}
use Rattle.syn_grammar.specs.Look.{a_lifetime}
use Rattle.syn_grammar.specs.Say.{◌▸◌, when◌read◌else◌, refused, keyword}
use Rattle.syn_grammar.specs.Types.{is_path_bound, kept_if, bounds}
use Rattle.syn_grammar.specs.Table.{table}
use Rattle.syn_grammar.specs.Derives.{Derives}
use Rattle.syn_grammar.specs.Kept.{held, kept}
use Rattle.syn_grammar.specs.Normal.{passed, place_of, normal_in}
use Rattle.laws_reread_kinds.proofs.Fits.{Fits, has_path_bound}
use Rattle.laws_reread_kinds.specs.Sees.{Lacks}
use Rattle.laws_reread_kinds.proofs.Printed.{VerdictLaw}

-- normal form has the parts that were there
pub some_either : (o p q r : Option Tree) → is_some o ≡ is_some q → is_some p ≡ is_some r
    → is_some (or_else o p) ≡ is_some (or_else q r)
some_either None p None r e f = f
some_either (Some x) p (Some y) r e f = refl
some_either None p (Some y) r e f = cc
some_either (Some x) p None r e f = cc

pub some_called : (b : Bool) (x y : Tree) → is_some (cond b (Some x) None) ≡ is_some (cond b (Some y) None)
some_called true x y = refl
some_called false x y = refl

pub has_normal : (n : Part) (q : Position) (x : Tree) → has n (normal_in q x) ≡ has n x
has_normal n q (Called m x) = some_called (same_part m n) (normal_in (place_of m) x) x
has_normal n q (Pair x y) =
    some_either (found n (normal_in q x)) (found n (normal_in q y)) (found n x) (found n y) (has_normal n q x)
    (has_normal n q y)
has_normal n q (First x) = has_normal n q x
has_normal n q (Second x) = has_normal n q x
has_normal n q (Group d x) = has_normal n q x
has_normal n q _ = refl

-- a bound is a path
bound_normal : (q : Position) (x : Tree) → is_path_bound (normal_in q x) ≡ is_path_bound x
bound_normal q (Node Bound x) = has_normal the_path (passed Bound q) x
bound_normal q _ = refl

bound_kept : (x : Tree) (r : List Token) → Derives x (ref Bound) r → is_path_bound (kept x) ≡ is_path_bound x
unfolding held table
bound_kept (Node Bound (First (ALifetime cs))) r d = refl
bound_kept (Node Bound (First _)) r d = absurd d.1.1
bound_kept (Node Bound (Second (Called n x))) r d = some_called (same_part n the_path) (kept x) x
bound_kept (Node Bound (Second _)) r d = absurd d.1.1
bound_kept (Node Bound _) r d = absurd d.1
bound_kept (Node k x) r d = refl
bound_kept _ r d = absurd d

bound_fits : (w : Tree) → Fits w (ref Bound) → is_path_bound (kept w) ≡ is_path_bound w
unfolding held table
bound_fits (Node Bound (First (ALifetime cs))) f = refl
bound_fits (Node Bound (First _)) f = absurd f.3.1
bound_fits (Node Bound (Second (Called n x))) f = some_called (same_part n the_path) (kept x) x
bound_fits (Node Bound (Second _)) f = absurd f.3.1
bound_fits (Node Bound _) f = absurd f.3
bound_fits (Node k x) f = refl
bound_fits _ f = absurd f

-- one of them is
some_normal : (q : Position) (x : Tree) → some is_path_bound (normal_in q x) ≡ some is_path_bound x
some_normal q (More x c spacing y) =
    ap (λ b. b || some is_path_bound (normal_in q y)) (bound_normal q x)
    ∙ ap (λ b. is_path_bound x || b) (some_normal q y)
some_normal q (Final x) = bound_normal q x
some_normal q _ = refl

some_kept : (x : Tree) (r : List Token) → Derives x bounds r → some is_path_bound (kept x) ≡ some is_path_bound x
some_kept (More x c spacing y) r d =
    ap (λ b. b || some is_path_bound (kept y)) (bound_kept x (Punct c spacing ∷ flat y ++ r) d.2)
    ∙ ap (λ b. is_path_bound x || b) (some_kept y r d.3)
some_kept (Final x) r d = bound_kept x r d.1
some_kept End r d = refl
some_kept _ r d = absurd d

some_fits : (w : Tree) → Fits w bounds → some is_path_bound (kept w) ≡ some is_path_bound w
some_fits (More x c spacing y) f =
    ap (λ b. b || some is_path_bound (kept y)) (bound_fits x f.2) ∙ ap (λ b. is_path_bound x || b) (some_fits y f.3)
some_fits (Final x) f = bound_fits x f
some_fits End f = refl
some_fits _ f = absurd f

pub some_verdict : (q : Position) → VerdictLaw q (λ x. kept_if (some is_path_bound x)) bounds
some_verdict q x w r c d f e h =
    ap kept_if (sym (some_fits w f) ∙ ap (some is_path_bound) e ∙ some_normal q (kept x) ∙ some_kept x r d) ∙ h

-- The one bound of dyn and impl without plus: no lifetime was seen, so it is a path.
abbrev pub one_bound : String → Gram
one_bound word = keyword word ▸ (when a_lifetime read refused else ref Bound)

none_derived : (x : Tree) (r : List Token) → Derives x refused r → ⊥
none_derived (Pair x y) r d = d
none_derived _ r d = d

path_in : (x : Tree) (r : List Token) → Derives x (table Bound) r → Lacks a_lifetime (flat x ++ r)
    → is_path_bound (Node Bound x) ≡ true
unfolding table same_part
path_in (First (ALifetime cs)) r d e = let f : true ≡ false = e in cc f
path_in (First _) r d e = absurd d.1
path_in (Second (Called n x)) r d e =
    subst (λ m. is_some (cond (same_part m the_path) (Some x) None) ≡ true) (sym d.1.0) refl
path_in (Second _) r d e = absurd d.1
path_in _ r d e = absurd d

path_read : (x : Tree) (r : List Token) → Derives x (ref Bound) r → Lacks a_lifetime (flat x ++ r)
    → is_path_bound x ≡ true
path_read (Node k x) r d e =
    subst (λ j. is_path_bound (Node j x) ≡ true) (sym d.0)
    (path_in x r (subst (λ j. Derives x (table j) r) d.0 d.1) e)
path_read _ r d e = absurd d

path_kept : (word : String) (x : Tree) (r : List Token) → Derives x (one_bound word) r → has_path_bound (kept x) ≡ true
path_kept word (Pair a (Second b)) r d = bound_kept b r d.1.1 ∙ path_read b r d.1.1 d.1.0
path_kept word (Pair a (First b)) r d = absurd (none_derived b r d.1.1)
path_kept word (Pair a _) r d = absurd d.1
path_kept word _ r d = absurd d

path_normal : (v : Tree) → has_path_bound (normal_in Plain v) ≡ has_path_bound v
path_normal (Pair w (Second b)) = bound_normal Plain b
path_normal _ = refl

path_fits : (word : String) (w : Tree) → Fits w (one_bound word) → has_path_bound (kept w) ≡ has_path_bound w
path_fits word (Pair a (Second b)) f = bound_fits b f.1.1
path_fits word (Pair a (First b)) f = refl
path_fits word (Pair a _) f = absurd f.1
path_fits word _ f = absurd f

pub path_meant : (word : String) (x w : Tree) (r : List Token) → Derives x (one_bound word) r → Fits w (one_bound word)
    → kept w ≡ normal_in Plain (kept x) → has_path_bound w ≡ true
path_meant word x w r d f e =
    sym (path_fits word w f) ∙ ap has_path_bound e ∙ path_normal (kept x) ∙ path_kept word x r d

-- and where it is a path, no lifetime stands there
not_lifetime : (x : Tree) (s : List Token) → Derives x (table Bound) s → is_path_bound (Node Bound x) ≡ true
    → Lacks a_lifetime (flat x ++ s)
unfolding table
not_lifetime (First (ALifetime cs)) s d n = let f : false ≡ true = n in cc f
not_lifetime (First _) s d n = absurd d.1
not_lifetime (Second x) s d n = d.0
not_lifetime _ s d n = absurd d

pub no_lifetime : (x : Tree) (s : List Token) → Derives x (ref Bound) s → is_path_bound x ≡ true
    → Lacks a_lifetime (flat x ++ s)
no_lifetime (Node k x) s d n =
    not_lifetime x s (subst (λ j. Derives x (table j) s) d.0 d.1) (subst (λ j. is_path_bound (Node j x) ≡ true) d.0 n)
no_lifetime _ s d n = absurd d
