use Rattle.std.specs.Prelude.{[], ◌++◌, ◌∷◌, ◌≡◌, cond, List, map, refl, Some}
use Rattle.std.proofs.Common.{ap, rules, ◌∙◌}
use Rattle.std.proofs.lemmas.List.{map-append}
use denote.Bor.{Bor}
use Rattle.proc_macro2.specs.Token.{Opens}
use Rattle.proc_macro2.specs.declared.delimiter.Delimiter.TheVariants.{Parenthesis}
use Rattle.syn_grammar.specs.Tree.{Tree}
use Rattle.writer_print.specs.Pieces.{piece_token}
use Rattle.reader_table.specs.Kinds.{kind_of}
use Rattle.writer_read.specs.Chains.{behind_lefts, next_of, passed_laid}
use Rattle.writer_read.proofs.Chains.{next_below, step_in}
use Rattle.writer_read.proofs.chain.step.Goals as goal

pub returns-clause-put : goal.returns-clause-put
returns-clause-put c =
    let x : Tree = c.args.place.now.tree.now in
    let l : Tree = c.in-Some.left.now in
    let xs : List Tree = map (λ (y : Bor Tree). y.now) c.args.forms.now.items in
    let left : Some (kind_of c.in-Some.kind, l) ≡ next_of c.args.lefts x = search rules in
    let pushed : map (λ (y : Bor Tree). y.now) c.push.new.self.items ≡ xs ++ x ∷ [] =
    ap (map (λ (y : Bor Tree). y.now)) c.in_ok-push.ensures.items
    ∙ map-append (λ (y : Bor Tree). y.now) c.args.forms.now.items (c.args.place.now.tree ∷ []) in
    ap (λ ys. map piece_token c.put_if.new.out.items ++ (passed_laid c.args.lefts l ++ behind_lefts ys)) pushed
    ∙ step_in c.args.lefts (map piece_token c.args.out.now.items) (map piece_token c.put_if.new.out.items)
    (map piece_token c.args.out.now.items ++ (passed_laid c.args.lefts x ++ behind_lefts xs)) (kind_of c.in-Some.kind) l
    x xs left
    (c.in_ok-put_if.ensures.put
    ∙ ap (λ b. map piece_token c.args.out.now.items ++ cond b (Opens Parenthesis ∷ []) []) c.goes_in.ensures) refl

pub returns-clause-inside : goal.returns-clause-inside
returns-clause-inside c e =
    let x : Tree = c.args.place.now.tree.now in
    let left : Some (kind_of c.in-Some.kind, c.in-Some.left.now) ≡ next_of c.args.lefts x = search rules in
    next_below c.args.lefts x (kind_of c.in-Some.kind) c.in-Some.left.now left
