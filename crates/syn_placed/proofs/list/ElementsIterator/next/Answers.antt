use Rattle.std.proofs.Common.{◌≡◌, List, ◌∷◌, ap, sym, arith, length, ◌∙◌}
use Rattle.std.specs.Prelude.{option_map}
use Rattle.proc_macro2.specs.Token.{Punct}
use Rattle.reader_table.specs.Ops.{separator_of}
use Rattle.reader_tree.specs.Forms.{elements, ending}
use Rattle.reader_tree.specs.declared.tree.Element.{Element}
use Rattle.syn_grammar.specs.Tree.{flat}
use Rattle.syn_placed.proofs.Lists.{got, listed_more}
use Rattle.syn_placed.proofs.list.ElementsIterator.next.Goals as goal

pub returns-clause-steps : goal.returns-clause-steps
returns-clause-steps c =
    let self = c.args.self.now in
    let first = c.in-Some.first.now in
    let others = c.in-Some.before.now in
    let last = ending (λ b. b.now) self.last in
    let mark = separator_of self.separator in
    let is : self.before.now ≡ first ∷ others = grind (arith, c.in-Some.ensures.cases) in
    let rest = Punct mark first.spacing ∷ flat (elements mark others last) in
    let spelled = self.is_spelled ∙ ap (λ (es : List Element). flat (elements mark es last)) is in
    let behind = c.cut.ensures.behind rest spelled in
    let here = got c.cut.result.1.now c.split_at-2.result.1.now c.index-behind-0.result
    (Punct mark first.spacing) (flat (elements mark others last)) behind c.index-behind-0.is
    c.split_at-2.ensures.back in
    listed_more first others self.before.now (option_map (λ b. b.now) self.last) self.entries.now
    c.cut.result.0.entries.now c.split_at-2.result.1.now c.cut.result.0.tree.now c.index-behind-0.result
    is c.cut.ensures.tree c.cut.ensures.its (sym c.cut.ensures.left ∙ here)

pub returns-clause-goes : goal.returns-clause-goes
returns-clause-goes c = record {
  on = λ _. (tt, tt, omega (arith, ap length (returns-clause-steps c)));
  keeps = tt;
  rests = λ _. tt;
}
