-- Generic parameters, told apart by what stands behind their attributes.
use Rattle.std.proofs.Common.{◌≡◌, List, ◌++◌, refl, subst}
use Rattle.std.specs.Prelude.{true, false, codes}
use Rattle.proc_macro2.specs.Token.{Token}
use Rattle.syn_grammar.specs.Kind.{ConstParam, LifetimeParam, TypeParam}
use Rattle.syn_grammar.specs.Name.{the_lifetime}
use Rattle.syn_grammar.specs.Tree.{Tree, AWord, ALifetime, Pair, First, Second, Called, Node, flat}
use Rattle.syn_grammar.specs.Gram.{Gram, called, ref}
use Rattle.syn_grammar.specs.Look.{sees, ◌then◌, a_lifetime, all_attributes}
use Rattle.syn_grammar.specs.Say.{at, when◌read◌else◌}
use Rattle.syn_grammar.specs.Table.{table}
use Rattle.syn_grammar.specs.Derives.{Derives}
use Rattle.laws_reread_kinds.proofs.Passed.{behind_attributes}
use Rattle.laws_reread_kinds.proofs.Sights.{ident_not}
use Rattle.laws_reread_kinds.proofs.Keywords.{reserved_const}

lifetime_in : (x : Tree) (s : List Token) → Derives x (table LifetimeParam) s
    → sees (all_attributes then a_lifetime) (flat x ++ s) ≡ true
unfolding table
lifetime_in (Pair o (Pair (ALifetime cs) y)) s d =
    behind_attributes o (Pair (ALifetime cs) y) a_lifetime s true d.0 refl
lifetime_in (Pair o (Pair _ y)) s d = absurd d.1.0
lifetime_in (Pair o _) s d = absurd d.1
lifetime_in _ s d = absurd d

const_in : (x : Tree) (s : List Token) → Derives x (table ConstParam) s
    → (sees (all_attributes then a_lifetime) (flat x ++ s) ≡ false) ×
    (sees (all_attributes then at "const") (flat x ++ s) ≡ true)
unfolding table
const_in (Pair o (Pair (AWord cs) y)) s d = (
  behind_attributes o (Pair (AWord cs) y) a_lifetime s false d.0 refl,
  behind_attributes o (Pair (AWord cs) y) (at "const") s true d.0 (simp d.1.0 refl),
)
const_in (Pair o (Pair _ y)) s d = absurd d.1.0
const_in (Pair o _) s d = absurd d.1
const_in _ s d = absurd d

type_in : (x : Tree) (s : List Token) → Derives x (table TypeParam) s
    → (sees (all_attributes then a_lifetime) (flat x ++ s) ≡ false) ×
    (sees (all_attributes then at "const") (flat x ++ s) ≡ false)
unfolding table
type_in (Pair o (Pair (AWord cs) y)) s d = (
  behind_attributes o (Pair (AWord cs) y) a_lifetime s false d.0 refl,
  behind_attributes o (Pair (AWord cs) y) (at "const") s false d.0
      (simp (ident_not (codes "const") cs reserved_const d.1.0) refl),
)
type_in (Pair o (Pair _ y)) s d = absurd d.1.0
type_in (Pair o _) s d = absurd d.1
type_in _ s d = absurd d

-- of the kinds
pub lifetime_param_seen : (x : Tree) (s : List Token) → Derives x (called the_lifetime (ref LifetimeParam)) s
    → sees (all_attributes then a_lifetime) (flat x ++ s) ≡ true
lifetime_param_seen (Called n (Node k x)) s d =
    lifetime_in x s (subst (λ j. Derives x (table j) s) d.1.0 d.1.1)
lifetime_param_seen (Called n _) s d = absurd d.1
lifetime_param_seen _ s d = absurd d

pub const_param_seen : (x : Tree) (s : List Token) → Derives x (ref ConstParam) s
    → (sees (all_attributes then a_lifetime) (flat x ++ s) ≡ false) ×
    (sees (all_attributes then at "const") (flat x ++ s) ≡ true)
const_param_seen (Node k x) s d = const_in x s (subst (λ j. Derives x (table j) s) d.0 d.1)
const_param_seen _ s d = absurd d

pub type_param_seen : (x : Tree) (s : List Token) → Derives x (ref TypeParam) s
    → (sees (all_attributes then a_lifetime) (flat x ++ s) ≡ false) ×
    (sees (all_attributes then at "const") (flat x ++ s) ≡ false)
type_param_seen (Node k x) s d = type_in x s (subst (λ j. Derives x (table j) s) d.0 d.1)
type_param_seen _ s d = absurd d

abbrev pub others : Gram
others = when all_attributes then at "const" read ref ConstParam else ref TypeParam

pub no_lifetime_seen : (x : Tree) (s : List Token) → Derives x others s
    → sees (all_attributes then a_lifetime) (flat x ++ s) ≡ false
no_lifetime_seen (First x) s d = (const_param_seen x s d.1).0
no_lifetime_seen (Second x) s d = (type_param_seen x s d.1).0
no_lifetime_seen _ s d = absurd d
