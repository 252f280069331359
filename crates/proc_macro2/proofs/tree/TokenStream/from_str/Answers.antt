use Rattle.std.proofs.Common.{◌≡◌, ℕ, subst}
use Rattle.std.specs.Prelude.{Some}
use Rattle.std.specs.Str.{chars}
use Rattle.rust_map.specs.Sources.{next_spot, spot}
use Rattle.rust_map.specs.declared.span.Span.{Span}
use Rattle.proc_macro2.specs.Forest.{IsForest}
use Rattle.proc_macro2.proofs.Lies.{given_held}
use Rattle.proc_macro2.proofs.tree.TokenStream.from_str.Goals as goal

pub returns-clause-held : goal.returns-clause-held
returns-clause-held c =
    given_held c.args.map.now c.insert.new.self (chars c.args.src.now) c.in_ok-stream.stream
    (subst (λ (s : Span). spot c.insert.new.self s ≡ Some (next_spot c.args.map.now (chars c.args.src.now)))
    c.in_ok-insert.ensures.span c.in_ok-insert.ensures.spot)
    c.in_ok-insert.ensures.inserted
    (subst (λ (n : ℕ). IsForest n (chars c.args.src.now) c.in_ok-stream.stream) c.in-Some.ensures.start
    c.in_ok-stream.ensures.parsed)
