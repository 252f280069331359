-- The trees that the types of blocks are.
use Rattle.syn_part.specs.Leaves.{lifetime_tree, list_tree, mark_tree, optional_tree, turns_tree, word_tree}
use Rattle.syn_part.specs.Sub.{marked_tree, worded_tree}
use Rattle.syn_expr.specs.declared.blocks.Arms.{Arms}
use Rattle.syn_expr.specs.declared.blocks.Block.{Block}
use Rattle.syn_expr.specs.declared.blocks.Body.{Body}
use Rattle.syn_expr.specs.declared.blocks.ClosureParam.{ClosureParam}
use Rattle.syn_expr.specs.declared.blocks.ExprArray.{ExprArray}
use Rattle.syn_expr.specs.declared.blocks.ExprAsync.{ExprAsync}
use Rattle.syn_expr.specs.declared.blocks.ExprBlock.{ExprBlock}
use Rattle.syn_expr.specs.declared.blocks.ExprForLoop.{ExprForLoop}
use Rattle.syn_expr.specs.declared.blocks.ExprIf.{ExprIf}
use Rattle.syn_expr.specs.declared.blocks.ExprLoop.{ExprLoop}
use Rattle.syn_expr.specs.declared.blocks.ExprMacro.{ExprMacro}
use Rattle.syn_expr.specs.declared.blocks.ExprMatch.{ExprMatch}
use Rattle.syn_expr.specs.declared.blocks.ExprParenthesized.{ExprParenthesized}
use Rattle.syn_expr.specs.declared.blocks.ExprPath.{ExprPath}
use Rattle.syn_expr.specs.declared.blocks.ExprRepeat.{ExprRepeat}
use Rattle.syn_expr.specs.declared.blocks.ExprUnsafe.{ExprUnsafe}
use Rattle.syn_expr.specs.declared.blocks.ExprWhile.{ExprWhile}
use Rattle.syn_expr.specs.declared.blocks.File.{File}
use Rattle.syn_expr.specs.declared.blocks.Label.{Label}
use Rattle.syn_expr.specs.declared.blocks.Labelled.{Labelled}
use Rattle.syn_grammar.specs.Kind as k
use Rattle.syn_grammar.specs.Name as n
use Rattle.syn_grammar.specs.Tree as t
use Rattle.syn_grammar.specs.Tree.{Tree}

-- a file: the attributes within it, and its items; neither a line #!.. nor a section at its head stands in a tree
abbrev pub file : File → Tree
file x = t.Node k.AFile (t.Pair x.attrs.now x.items.now)

-- a block: { .. }
abbrev pub block : Block → Tree
block x = t.Node k.Block (t.Group x.brace_token.delimiter x.stmts.now)

-- a block that may have attributes within: { #![a] .. }
abbrev pub body : Body → Tree
body x = t.Node k.Body (t.Group x.brace_token.delimiter (t.Pair x.attrs.now x.stmts.now))

-- a label: 'a:
abbrev pub label : Label → Tree
label x = t.Node k.Label (t.Pair (lifetime_tree x.name) (mark_tree x.colon_token))

-- a parameter of a closure, with its attributes: a: T, or without a type
abbrev pub closure_param : ClosureParam → Tree
closure_param x = t.Node k.ClosureParam (t.Pair x.attrs.now (t.Pair x.pat.now (optional_tree marked_tree x.ty)))

-- the arms of a match, one behind the other
abbrev pub arms : Arms → Tree
arms x = t.Node k.Arms (turns_tree x.arms)

-- a label that stands, as a part
abbrev pub labelled_tree : Labelled → Tree
labelled_tree x = t.Called n.the_label x.label.now

-- a block, with a label or without: 'a: { .. }
abbrev pub expr_block : ExprBlock → Tree
expr_block x = t.Alone k.ExprBlock (t.Pair (optional_tree labelled_tree x.label) x.block.now)

-- an unsafe block: unsafe { .. }
abbrev pub expr_unsafe : ExprUnsafe → Tree
expr_unsafe x = t.Alone k.ExprUnsafe (t.Pair (word_tree x.unsafe_token) x.block.now)

-- an async block: async move { .. }, or without move
abbrev pub expr_async : ExprAsync → Tree
expr_async x = t.Alone k.ExprAsync (t.Pair (word_tree x.async_token) (t.Pair
    (optional_tree word_tree x.capture) x.block.now))

-- a loop, with a label or without: 'a: loop { .. }
abbrev pub expr_loop : ExprLoop → Tree
expr_loop x = t.Alone k.ExprLoop (t.Pair (optional_tree labelled_tree x.label) (t.Pair
    (word_tree x.loop_token) x.body.now))

-- a loop with a condition, with a label or without: 'a: while b { .. }
abbrev pub expr_while : ExprWhile → Tree
expr_while x = t.Alone k.ExprWhile (t.Pair (optional_tree labelled_tree x.label) (t.Pair (word_tree x.while_token)
    (t.Pair (t.Called n.the_condition x.cond.now) x.body.now)))

-- a loop over values, with a label or without: 'a: for b in c { .. }
abbrev pub expr_for_loop : ExprForLoop → Tree
expr_for_loop x = t.Alone k.ExprForLoop (t.Pair (optional_tree labelled_tree x.label) (t.Pair (word_tree x.for_token)
    (t.Pair x.pat.now (t.Pair (word_tree x.in_token) (t.Pair (t.Called n.the_condition x.expr.now) x.body.now)))))

-- a choice by patterns, with attributes and arms in its braces: match a { .. }
abbrev pub expr_match : ExprMatch → Tree
expr_match x = t.Alone k.ExprMatch (t.Pair (word_tree x.match_token) (t.Pair (t.Called n.the_condition x.expr.now)
    (t.Group x.brace_token.delimiter (t.Pair x.attrs.now x.arms.now))))

-- a choice by a condition, with an else or without: if a { .. } else { .. }
abbrev pub expr_if : ExprIf → Tree
expr_if x = t.Alone k.ExprIf (t.Pair (word_tree x.if_token) (t.Pair (t.Called n.the_condition x.cond.now)
    (t.Pair x.then_branch.now (optional_tree worded_tree x.else_branch))))

-- a tuple, or an expression in parentheses: any list of expressions in them
abbrev pub expr_parenthesized : ExprParenthesized → Tree
expr_parenthesized x = t.Alone k.ExprParen (t.Group x.paren_token.delimiter (list_tree x.elems))

-- an array: [a, b]
abbrev pub expr_array : ExprArray → Tree
expr_array x = t.Alone k.ExprArray (t.Group x.bracket_token.delimiter (list_tree x.elems))

-- an array of one value so many times: [a; b]
abbrev pub expr_repeat : ExprRepeat → Tree
expr_repeat x = t.Alone k.ExprRepeat (t.Group x.bracket_token.delimiter (t.Pair x.expr.now (t.Pair
    (mark_tree x.semi_token) x.len.now)))

-- a macro: a!(b)
abbrev pub expr_macro : ExprMacro → Tree
expr_macro x = t.Alone k.ExprMacro x.mac.now

-- a path, perhaps a qualified one: a::b
abbrev pub expr_path : ExprPath → Tree
expr_path x = t.Alone k.ExprPath x.path.now
