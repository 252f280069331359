-- What is held of an expression that is a statement begins no item there, and is no macro in braces: its tests saw it.
use Rattle.std.proofs.Common.{◌≡◌, List, [], ◌++◌, refl, sym, ap, ◌∙◌, subst, append_assoc}
use Rattle.std.specs.Prelude.{Bool, true, false, not}
use Rattle.proc_macro2.specs.Token.{Token}
use Rattle.syn_grammar.specs.Kind.{Expression, InStatement, OuterAttributes}
use Rattle.syn_grammar.specs.Tree.{Tree, Again, End, Node, Pair, Whole, flat}
use Rattle.syn_grammar.specs.Gram.{Gram, ref, star}
use Rattle.syn_grammar.specs.Look.{◌then◌, all_attributes, sees}
use Rattle.syn_grammar.specs.Say.{marks}
use Rattle.syn_grammar.specs.Statements.{item_stands, macro_statement_stands}
use Rattle.syn_grammar.specs.Table.{table}
use Rattle.syn_grammar.specs.Derives.{Derives}
use Rattle.syn_grammar.specs.Kept.{held, kept}
use Rattle.syn_grammar.specs.Normal.{formed, normal_in, passed, stands_behind}
use Rattle.syn_grammar.specs.Forms.{is_brace_macro}
use Rattle.laws_reread_kinds.specs.Covered.{is_plain_expression, is_plain_start}
use Rattle.laws_reread_kinds.proofs.Choices.{both_same}
use Rattle.laws_reread_kinds.proofs.Passed.{behind_attributes}
use Rattle.laws_reread.proofs.ToldBraces.{unbraced}
use Rattle.laws_reread.proofs.ToldStarts.{begins_told}

-- behind attributes begins none
none_more : (z : Tree) (t : List Token → Bool) (g : Gram) (r : List Token) → Derives z (star t g) r → t r ≡ false
none_more End t g r d = d
none_more (Again x y) t g r d = none_more y t g r d.2
none_more _ t g r d = absurd d

no_hash : (a : Tree) (r : List Token) → Derives a (ref OuterAttributes) r → sees (marks "#") r ≡ false
unfolding table
no_hash (Node k z) r d = none_more z (sees (marks "#")) _ r (subst (λ j. Derives z (table j) r) d.0 d.1)
no_hash _ r d = absurd d

expression_in : (x : Tree) (q : List Token) → Derives x (table (Expression InStatement)) q
    → sees macro_statement_stands (flat x ++ q) ≡ false → sees item_stands (flat x ++ q) ≡ false
    → sees (marks "#") (flat x ++ q) ≡ false
    → is_plain_expression (normal_in InStatement (kept (Node (Expression InStatement) x))) ≡ true
unfolding table held passed stands_behind
expression_in (Whole x) q d f i h =
    let z : Tree = formed InStatement [] (kept x) in
    both_same (is_plain_start (flat z)) (not (is_brace_macro z)) true true
    (begins_told x q d.1 h i) (ap not (unbraced x q d.1 d.0.1 f h))
expression_in _ q d f i h = absurd d

expression_told : (e : Tree) (q : List Token) → Derives e (ref (Expression InStatement)) q
    → sees macro_statement_stands (flat e ++ q) ≡ false → sees item_stands (flat e ++ q) ≡ false
    → sees (marks "#") (flat e ++ q) ≡ false
    → is_plain_expression (normal_in InStatement (kept e)) ≡ true
expression_told (Node k x) q d f i h =
    subst (λ j. is_plain_expression (normal_in InStatement (kept (Node j x))) ≡ true) (sym d.0)
    (expression_in x q (subst (λ j. Derives x (table j) q) d.0 d.1) f i h)
expression_told _ q d f i h = absurd d

-- behind the attributes of its statement
pub plain_told : (a e s : Tree) (r : List Token) → Derives a (ref OuterAttributes) ((flat e ++ flat s) ++ r)
    → Derives e (ref (Expression InStatement)) (flat s ++ r)
    → sees (all_attributes then macro_statement_stands) ((flat a ++ (flat e ++ flat s)) ++ r) ≡ false
    → sees (all_attributes then item_stands) ((flat a ++ (flat e ++ flat s)) ++ r) ≡ false
    → is_plain_expression (normal_in InStatement (kept e)) ≡ true
plain_told a e s r da d f i =
    let o : (flat e ++ flat s) ++ r ≡ flat e ++ (flat s ++ r) = append_assoc (flat e) (flat s) r in
    expression_told e (flat s ++ r) d
    (sym (ap (sees macro_statement_stands) o)
    ∙ sym (behind_attributes a (Pair e s) macro_statement_stands r _ da refl) ∙ f)
    (sym (ap (sees item_stands) o) ∙ sym (behind_attributes a (Pair e s) item_stands r _ da refl) ∙ i)
    (sym (ap (sees (marks "#")) o) ∙ no_hash a ((flat e ++ flat s) ++ r) da)
