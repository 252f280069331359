-- Lists that code reads, and lists that the written grammar reads.
use Rattle.std.specs.Prelude.{◌≡◌, ◌≤◌, ℕ, suc, Bool, true, false, List, [], ◌∷◌, Option, Some, None}
use Rattle.proc_macro2.specs.Token.{Token, Spanned, plain}
use Rattle.rust_leaf.specs.Leaf.{ident_text}
use Rattle.rust_leaf.specs.declared.ident.Ident.{Ident}
use Rattle.rust_leaf.specs.declared.punct.Spacing.TheVariants.{Alone as Apart}
use Rattle.syn_grammar.specs.Fuel.{height, nullable, turns_take}
use Rattle.syn_grammar.specs.Gram.{Gram, mark}
use Rattle.syn_grammar.specs.Keeps.{keeps}
use Rattle.syn_grammar.specs.Look.{past_marks, sees}
use Rattle.syn_grammar.specs.Ranks.{top}
use Rattle.syn_grammar.specs.Run.{Out, Got, Refused}
use Rattle.syn_grammar.specs.Tree.{Tree, AMark, AWord, End, Final, More}
use Rattle.syn_lists.specs.ReadLists.{Reading}
use Rattle.syn_lists.specs.Pairs.{pairs}

-- the tree of values with the separators behind them: the last one may have none
abbrev pub pairs_tree : {T P : Type 0} → (T → Tree) → ℕ → List (T × Option P) → Tree
pairs_tree view c [] = End
pairs_tree view c ((v, Some p) ∷ xs) = More (view v) c Apart (pairs_tree view c xs)
pairs_tree view c ((v, None) ∷ xs) = Final (view v)

-- the tree of a list is read there, and these tokens are left behind it
abbrev pub GivesList : {T P : Type 0} → (T → Tree) → ℕ → List T → List P → List Spanned → Out → Type 0
GivesList view c vs ps behind run = run ≡ Got (pairs_tree view c (pairs vs ps)) (plain behind)

-- the tree of a name
abbrev pub name_tree : Ident → Tree
name_tree i = AWord (ident_text i)

-- An entry can stand in a list: it takes tokens, and so does each turn in it, and it calls no deeper than the table's
-- entries do.
abbrev pub IsListable : Gram → Type 0
IsListable g = (nullable g ≡ false) × (turns_take g ≡ true) × (suc (height g) ≤ top)

-- What code reads is what an entry reads, with that tree, and it reads nothing where the entry is refused.
pub record IsEntry {T : Type 0} (g : Gram) (view : T → Tree) (value : Reading T) (no_value : List Spanned → Type 0)
    : Type 0 where
  pub found : (ts : List Spanned) (v : T) (us : List Spanned) → value ts v us
      → keeps g (plain ts) ≡ Got (view v) (plain us)
  pub none : (ts : List Spanned) → no_value ts → keeps g (plain ts) ≡ Refused

-- a separator that is those marks, and the test that it stands there
pub record IsSeparator {P : Type 0} (c : ℕ) (cs : List ℕ) (separator : Reading P) (no_separator : List Spanned → Type 0)
    (stands : List Token → Bool) : Type 0 where
  pub entry : IsEntry (mark c cs) (λ p. AMark c cs Apart) separator no_separator
  pub seen : (ts : List Token) → stands ts ≡ sees (past_marks c cs) ts
