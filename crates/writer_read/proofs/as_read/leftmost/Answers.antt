use Rattle.std.specs.Prelude.{[], ◌∷◌, ◌++◌, ◌≡◌, List, Some, map}
use Rattle.std.proofs.Common.{ap, arith, rules, ◌∙◌}
use Rattle.std.proofs.lemmas.List.{map-append}
use denote.Bor.{Bor}
use denote.Param.Weighed.{most, most-append}
use Rattle.proc_macro2.specs.Token.{Token}
use Rattle.syn_grammar.specs.Tree.{Tree, flat}
use Rattle.reader_table.specs.Kinds.{kind_of}
use Rattle.reader_tree.specs.declared.tree.Tree.TheDeep.{size-Tree}
use Rattle.writer_read.specs.Chains.{behind_lefts_read, left_of}
use Rattle.writer_read.proofs.Chains.{left_below}
use Rattle.writer_read.proofs.Flat.{left_in}
use Rattle.writer_read.proofs.as_read.leftmost.Goals as goal

pub loop-left-preserved : goal.loop-left-preserved
loop-left-preserved c =
    let x : Tree = c.loop-left.place.tree.now in
    let l : Tree = c.in-Some.left.now in
    let xs : List Tree = map (λ (y : Bor Tree). y.now) c.loop-left.forms.items in
    let all : List Token = flat c.args.tree.now ++ behind_lefts_read
    (map (λ (y : Bor Tree). y.now) c.args.forms.now.items) in
    let left : Some (kind_of c.in-Some.field-0-0, l) ≡ left_of x = search rules in
    let pushed : map (λ (y : Bor Tree). y.now) c.push.new.self.items ≡ xs ++ x ∷ [] =
    ap (map (λ (y : Bor Tree). y.now)) c.in_ok-push.ensures.items
    ∙ map-append (λ (y : Bor Tree). y.now) c.loop-left.forms.items (c.loop-left.place.tree ∷ []) in
    let more = ap (most (λ (y : Bor Tree). size-Tree y.now)) c.in_ok-push.ensures.items
    ∙ most-append (λ (y : Bor Tree). size-Tree y.now) c.loop-left.forms.items (c.loop-left.place.tree ∷ []) in
    let below = left_below x (kind_of c.in-Some.field-0-0) l left in
    record {
      read = ap (λ ys. flat l ++ behind_lefts_read ys) pushed
          ∙ left_in x (kind_of c.in-Some.field-0-0) l xs all left c.loop-left.invariant.read;
      inside = omega (arith, below, c.loop-left.invariant.inside);
      outside = omega (arith, more, c.loop-left.invariant.inside, c.loop-left.invariant.outside);
    }
