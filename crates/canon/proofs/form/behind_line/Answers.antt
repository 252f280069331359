use Rattle.std.proofs.Common.{◌++◌, ◌∷◌, [], ◌∙◌, ap, ℕ, List, rules}
use Rattle.std.specs.Str.{chars}
use Rattle.rust_leaf.proofs.Pushed.{char_pushed, first_pushed, word_pushed}
use Rattle.canon.proofs.form.behind_line.Goals as goal

-- the line was pushed, then the line feed, then the text
pub returns : goal.returns
returns c =
    word_pushed c.push.new.self c.push_str-2.new.self c.args.text.now c.in_ok-push_str-2.ensures.bytes
    ∙ ap (λ (cs : List ℕ). cs ++ chars c.args.text.now)
    (char_pushed c.push_str.new.self c.push.new.self 10 (search rules) c.in_ok-push.ensures.bytes
    ∙ ap (λ (cs : List ℕ). cs ++ 10 ∷ [])
    (first_pushed c.new-whole.result c.push_str.new.self c.args.line.now c.new-whole.ensures.bytes
    c.in_ok-push_str.ensures.bytes))
