use Rattle.std.proofs.Common.{◌≡◌, ◌∙◌, ◌∷◌, ◌++◌, [], ap, map}
use Rattle.std.proofs.lemmas.Result.{IfOk-weaker}
use Rattle.rust_leaf.specs.Leaf.{punct_char, punct_spacing}
use Rattle.syn_buffer.specs.Entries.{entry_token}
use Rattle.syn_buffer.specs.declared.entry.Entry.TheVariants as entries
use Rattle.syn_grammar.specs.Normal.{apart}
use Rattle.writer_normal.proofs.Apartness.{apart_made, apart_other}
use Rattle.writer_normal.proofs.apart.apart.Goals as goal

pub returns-in_default-last : goal.returns-in_default-last
returns-in_default-last c =
    apart_other c.args.entries.now c.in-Some.before.now c.in-Some.last.now c.in-Some.ensures.cases.0
    c.in_default-last.not-Punct

pub returns : goal.returns
returns c =
    let put = c.in_ok-push.ensures.items ∙ ap (λ ys. ys ++ entries.Punct c.in_ok-mark.mark ∷ [])
    (c.in_ok-extend_from_slice.ensures.items ∙ ap (λ zs. zs ++ c.in-Some.before.now) c.new-all.ensures.items) in
    IfOk-weaker c.put_all.result (λ xs. xs.now ≡ c.push.new.self.items)
    (λ xs. map entry_token xs.now ≡ apart (map entry_token c.args.entries.now))
    (λ xs e. ap (map entry_token) e
    ∙ apart_made c.args.entries.now c.in-Some.before.now c.push.new.self.items c.in-Some.last.now c.in-Punct.punct
    c.in_ok-mark.mark c.in-Some.ensures.cases.0 c.in-Punct.is (ap punct_char c.in_ok-mark.ensures
    ∙ c.alone.ensures.mark)
    (ap punct_spacing c.in_ok-mark.ensures ∙ c.alone.ensures.apart) put)
    c.put_all.ensures
