-- Looks that pass a group, or all that closes what is open, stand in the same place whatever follows.
use Rattle.std.proofs.Common.{◌≡◌, ℕ, zero, suc, List, [], ◌∷◌, ◌++◌, refl, sym, ap, ◌∙◌, append_assoc}
use Rattle.std.specs.Prelude.{cond, Option, Some, None}
use Rattle.proc_macro2.specs.Token.{Token, Opens, Closes, Ident, Literal, Punct}
use Rattle.proc_macro2.specs.declared.delimiter.Delimiter.{Delimiter}
use Rattle.syn_grammar.specs.Tree.{Tree, flat}
use Rattle.syn_grammar.specs.Gram.{Gram}
use Rattle.syn_grammar.specs.Look.{behind, past_closing, a_group}
use Rattle.syn_grammar.specs.Run.{Split, Unclosed, Inside, onto, split}
use Rattle.syn_grammar.specs.Derives.{Derives}
use Rattle.syn_grammar.proofs.Splits.{neutral, split_at, delimiter_same}

abbrev pub rest_of : Split → Option (List Token)
rest_of Unclosed = None
rest_of (Inside ts d r) = Some r

pub rest_onto : (us : List Token) (s : Split) → rest_of s ≡ rest_of (onto us s)
rest_onto us Unclosed = refl
rest_onto us (Inside ts d r) = refl

-- it stands where the group that was split ends
pub past_split : (n : ℕ) (ts : List Token) → past_closing n ts ≡ rest_of (split n ts)
unfolding split
past_split n (Opens d ∷ ts) = past_split (suc n) ts ∙ rest_onto (Opens d ∷ []) (split (suc n) ts)
past_split n (Ident cs ∷ ts) = past_split n ts ∙ rest_onto (Ident cs ∷ []) (split n ts)
past_split n (Literal cs ∷ ts) = past_split n ts ∙ rest_onto (Literal cs ∷ []) (split n ts)
past_split n (Punct c spacing ∷ ts) = past_split n ts ∙ rest_onto (Punct c spacing ∷ []) (split n ts)
past_split zero (Closes d ∷ ts) = refl
past_split (suc n) (Closes d ∷ ts) = past_split n ts ∙ rest_onto (Closes d ∷ []) (split n ts)
past_split zero [] = refl
past_split (suc n) [] = refl

pub group_passed : (e : Delimiter) (x : Tree) (g : Gram) (s : List Token) → Derives x g []
    → a_group e (Opens e ∷ (flat x ++ Closes e ∷ []) ++ s) ≡ Some s
group_passed e x g s d =
    ap (λ b. behind (cond b (Some ((flat x ++ Closes e ∷ []) ++ s)) None) (past_closing 0)) (delimiter_same e)
    ∙ ap (past_closing 0) (append_assoc (flat x) (Closes e ∷ []) s)
    ∙ past_split 0 (flat x ++ Closes e ∷ s)
    ∙ ap rest_of (split_at x g [] d e s)

-- the tokens of a tree are passed whole
pub tree_passed : (x : Tree) (g : Gram) (r : List Token) → Derives x g r → (n : ℕ) (ts : List Token)
    → past_closing n (flat x ++ ts) ≡ past_closing n ts
tree_passed x g r d n ts =
    past_split n (flat x ++ ts) ∙ ap rest_of ((neutral x g r d).by n ts) ∙ sym (rest_onto (flat x) (split n ts))
    ∙ sym (past_split n ts)
