use Rattle.std.proofs.Common.{◌≡◌, ℕ, subst}
use Rattle.std.specs.Prelude.{Some, option_map}
use Rattle.std.specs.Str.{chars}
use Rattle.rust_map.specs.Sources.{next_spot, spot}
use Rattle.rust_map.specs.declared.span.Span.{Span}
use Rattle.proc_macro2.specs.FileForest.{IsFileForest}
use Rattle.proc_macro2.proofs.Lies.{given_file_held}
use Rattle.proc_macro2.proofs.tree.TokenStream.from_file.Goals as goal

pub returns-in_ok-insert-in-Ok-clause-held : goal.returns-in_ok-insert-in-Ok-clause-held
returns-in_ok-insert-in-Ok-clause-held c =
    given_file_held c.args.map.now c.insert.new.self (chars c.args.src.now) _ c.in-Ok.file.1
    (subst (λ (s : Span). spot c.insert.new.self s ≡ Some (next_spot c.args.map.now (chars c.args.src.now)))
    c.in_ok-insert-in-Ok.ensures.span c.in_ok-insert-in-Ok.ensures.spot)
    c.in_ok-insert-in-Ok.ensures.inserted
    (subst
    (λ (n : ℕ).
    IsFileForest n (chars c.args.src.now) (option_map (λ line. chars line.now) c.in-Ok.file.0) c.in-Ok.file.1)
    c.in-Some.ensures.start c.in-Ok.ensures.parsed)
