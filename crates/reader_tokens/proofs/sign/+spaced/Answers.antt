use Rattle.std.proofs.Common.{rules, ◌==◌, ◌∷◌, ◌≡◌, true}
use Rattle.reader_tokens.specs.Tokens.{tokens}
use Rattle.proc_macro2.specs.Token as token
use Rattle.rust_leaf.specs.Leaf.{punct_char, punct_spacing}
use Rattle.reader_tokens.proofs.Spaced.{last_spaced}
use Rattle.reader_tokens.proofs.sign.+spaced.Goals as goal

pub returns-in-None-clause-some : goal.returns-in-None-clause-some
returns-in-None-clause-some t c =
    let d = punct_char c.in-Some.punct.now in
    let s = punct_spacing c.in-Some.punct.now in
    let e : tokens c.args.at.now ≡ token.Punct d s ∷ tokens c.in-Some.rest.now = search rules in
    let f : c.is_mark.result ≡ (d == c.args.first) = search rules in
    let g : c.is_mark.result ≡ true = search rules in
    last_spaced c.args.first d c.args.others.now s c.spacing-spacing.result (tokens c.args.at.now)
    (tokens c.in-Some.rest.now) c.is_mark.result c.in-None.ensures.cases e f g c.spacing-spacing.ensures
