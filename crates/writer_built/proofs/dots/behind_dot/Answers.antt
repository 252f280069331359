use Rattle.std.specs.Prelude.{◌≡◌, ◌++◌, Some, true}
use Rattle.std.proofs.lemmas.Result.{IfOk-weaker}
use Rattle.rust_leaf.specs.Leaf.{literal_text}
use Rattle.laws_binding.specs.Written.{other}
use Rattle.syn_grammar.specs.Kind.{Kind, Plain}
use Rattle.syn_grammar.specs.Name.{the_name}
use Rattle.syn_grammar.specs.Part.{has}
use Rattle.syn_grammar.specs.Tree.{Tree}
use Rattle.syn_grammar.specs.Words.{indices}
use Rattle.reader_table.specs.Kinds.{kind_of}
use Rattle.writer_rules.specs.Said.{fields, front_fields, said}
use Rattle.writer_rules.specs.Way.{dotted_of, is_dotted}
use Rattle.writer_read.specs.Formed.{IsFormed}
use Rattle.writer_built.specs.Behind.{is_numbered, last_named}
use Rattle.writer_built.specs.Facts.{last_of}
use Rattle.writer_built.specs.Found.{IsBehind, IsFound}
use Rattle.writer_built.specs.Heads.{head_tokens}
use Rattle.writer_built.specs.Kept.{own_tokens}
use Rattle.writer_built.proofs.Parts.{dot_formed, else_behind, number_behind}
use Rattle.writer_built.proofs.dots.behind_dot.Goals as goal

-- it ends in a number
pub returns-in-Some-clause-same : goal.returns-in-Some-clause-same
returns-in-Some-clause-same c =
    let k : Kind = kind_of c.args.kind in
    let d : Tree = c.args.parts.dot.now in
    let x : Tree = c.args.parts.numbers.now in
    let z : Tree = c.args.parts.behind.now in
    let cs = literal_text c.in-Some.literal.now in
    IfOk-weaker c.by_number.result (λ b. IsFound (front_fields x ++ fields (indices cs)) true other b)
    (λ b. (y : Tree) → is_dotted k ≡ true → Some (d, x, z) ≡ dotted_of y → c.args.named ≡ has the_name y
    → IsFormed Plain y → IsBehind k y b)
    (λ b is y dot parts named formed. number_behind k d x z y cs (own_tokens b.own) (head_tokens b.first)
    (last_of b.last) dot parts c.in-Some.ensures is.0 is.1 is.2)
    c.by_number.ensures.same

-- it ends in none
pub returns-in-None-clause-same : goal.returns-in-None-clause-same
returns-in-None-clause-same c =
    let k : Kind = kind_of c.args.kind in
    let d : Tree = c.args.parts.dot.now in
    let x : Tree = c.args.parts.numbers.now in
    let z : Tree = c.args.parts.behind.now in
    IfOk-weaker c.by_other.result
    (λ b. IsFormed Plain d → IsFormed Plain z
    → IsFound (front_fields x ++ (said Plain d ++ said Plain z)) (is_numbered x) (last_named k c.args.named) b)
    (λ b. (y : Tree) → is_dotted k ≡ true → Some (d, x, z) ≡ dotted_of y → c.args.named ≡ has the_name y
    → IsFormed Plain y → IsBehind k y b)
    (λ b found y dot parts named formed.
    let f = dot_formed d x z y parts formed in
    let is = found f.0 f.1 in
    else_behind k d x z y (own_tokens b.own) (head_tokens b.first) c.args.named (last_of b.last) dot parts
    c.in-None.ensures is.0 is.1 is.2 named)
    c.by_other.ensures.same
