use Rattle.std.proofs.Common.{rules, arith, ap, sym, subst, ◌∙◌, List}
use Rattle.reader_table.specs.Parts.{part_of}
use Rattle.reader_tree.specs.Forms.{tree_of}
use Rattle.syn_buffer.specs.declared.entry.Entry.{Entry}
use Rattle.syn_grammar.specs.Tree as t
use Rattle.syn_placed.specs.Before.{before}
use Rattle.syn_placed.specs.Stands.{IsPast, StandsBehind}
use Rattle.reader_tree.proofs.Flat.{flat_seconds}
use Rattle.syn_grammar.specs.Tree.{flat}
use Rattle.syn_placed.proofs.Sizes.{first_below, second_below}
use Rattle.syn_placed.proofs.Sought as so
use Rattle.syn_placed.proofs.part.+find.Goals as goal

pub find-requires-in-Err : goal.find-requires-in-Err
find-requires-in-Err u c =
    let two = c.in-Pair.two.now in
    let is = sym c.tree.view_is ∙ ap tree_of c.in-Pair.is in (
      search rules,
      so.begins_back c.args.tree.now two.front two.back c.args.entries.now c.in-Err.behind.now is c.requires
          c.in-Err.ensures.stands,
    )

pub find-requires-in-First : goal.find-requires-in-First
find-requires-in-First u c =
    let is = sym c.tree.view_is ∙ ap tree_of c.in-First.is in
    let below = first_below c.in-First.field-0 c.args.tree.now c.in-First.inner.now is in (
      omega (arith, c.decreases, below),
      so.begins_same c.args.tree.now c.in-First.inner.now c.args.entries.now
          (ap flat is ∙ flat_seconds c.in-First.field-0 (t.First c.in-First.inner.now)) c.requires,
    )

pub find-requires-in-Second : goal.find-requires-in-Second
find-requires-in-Second u c =
    let is = sym c.tree.view_is ∙ ap tree_of c.in-Second.is in
    let below = second_below c.in-Second.field-0 c.args.tree.now c.in-Second.inner.now is in (
      omega (arith, c.decreases, below),
      so.begins_same c.args.tree.now c.in-Second.inner.now c.args.entries.now
          (ap flat is ∙ flat_seconds c.in-Second.field-0 c.in-Second.inner.now) c.requires,
    )

pub behind_first-requires-in-Err-find : goal.behind_first-requires-in-Err-find
behind_first-requires-in-Err-find u c =
    let is = sym c.tree.view_is ∙ ap tree_of c.in-Group.is in
    let past = subst (λ (es : List Entry). IsPast c.in-Group.group.now.inside es c.in-Err-find.behind.now)
    c.behind_first.ensures c.in-Err-find.ensures.stands in
    so.shut_inside c.args.tree.now c.in-Group.group.now.inside c.in-Group.field-0 c.args.entries.now
    c.in-Err-find.behind.now is c.requires past

pub returns-in-Err-clause-stands : goal.returns-in-Err-clause-stands
returns-in-Err-clause-stands u c =
    let two = c.in-Pair.two.now in
    let is = sym c.tree.view_is ∙ ap tree_of c.in-Pair.is in
    so.sought_back (λ p. p.entries.now) (λ l. l.now) c.find-in-Err.result (part_of c.args.part) c.args.tree.now
    two.front two.back c.args.entries.now c.in-Err.behind.now is c.in-Err.ensures.found c.in-Err.ensures.stands
    c.find-in-Err.ensures.stands

pub returns-in-First-clause-stands : goal.returns-in-First-clause-stands
returns-in-First-clause-stands u c =
    let is = sym c.tree.view_is ∙ ap tree_of c.in-First.is in
    let n = part_of c.args.part in
    let inner = c.in-First.inner.now in
    so.sought_same (λ p. p.entries.now) (λ l. l.now) c.find-in-First.result n c.args.tree.now inner c.args.entries.now
    (ap flat is ∙ flat_seconds c.in-First.field-0 (t.First inner))
    (ap (before n) is ∙ so.before_seconds n c.in-First.field-0 (t.First inner)) c.find-in-First.ensures.stands

pub returns-in-Second-clause-stands : goal.returns-in-Second-clause-stands
returns-in-Second-clause-stands u c =
    let is = sym c.tree.view_is ∙ ap tree_of c.in-Second.is in
    let n = part_of c.args.part in
    let inner = c.in-Second.inner.now in
    so.sought_same (λ p. p.entries.now) (λ l. l.now) c.find-in-Second.result n c.args.tree.now inner c.args.entries.now
    (ap flat is ∙ flat_seconds c.in-Second.field-0 inner)
    (ap (before n) is ∙ so.before_seconds n c.in-Second.field-0 inner) c.find-in-Second.ensures.stands

pub returns-in-Ok-find-clause-stands : goal.returns-in-Ok-find-clause-stands
returns-in-Ok-find-clause-stands u c =
    let is = sym c.tree.view_is ∙ ap tree_of c.in-Group.is in
    let n = part_of c.args.part in
    let inside = c.in-Group.group.now.inside in
    let its = c.in-Ok-find.placed.entries.now in
    let stands = subst (λ (es : List Entry). StandsBehind (before n inside) its es) c.behind_first.ensures
    c.in-Ok-find.ensures.stands in
    so.stands_inside n c.args.tree.now inside c.in-Group.field-0 its c.args.entries.now is c.requires stands

pub returns-in-Err-find-clause-stands : goal.returns-in-Err-find-clause-stands
returns-in-Err-find-clause-stands u c =
    let is = sym c.tree.view_is ∙ ap tree_of c.in-Group.is in
    let inside = c.in-Group.group.now.inside in
    let mid = c.in-Err-find.behind.now in
    let past = subst (λ (es : List Entry). IsPast inside es mid) c.behind_first.ensures c.in-Err-find.ensures.stands in
    subst (λ (es : List Entry). IsPast c.args.tree.now c.args.entries.now es) (sym c.behind_first-in-Err-find.ensures)
    (so.past_inside c.args.tree.now inside c.in-Group.field-0 c.args.entries.now mid is c.requires past)
