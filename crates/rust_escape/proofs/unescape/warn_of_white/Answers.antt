use Rattle.std.proofs.Common.{sym, refl, ◌∙◌}
use Rattle.rust_escape.proofs.Telling.{white_here}
use Rattle.rust_escape.proofs.unescape.warn_of_white.Goals as goal

pub returns-then-is_white-clause-told : goal.returns-then-is_white-clause-told
returns-then-is_white-clause-told g c =
    rw (
      white_here c.args.text.now c.args.start c.args.end c.char_at-c.result.0 c.char_at-c.result.1
          c.char_at-c.ensures.rest c.requires.end c.char_at-c.ensures.behind.place
          (sym c.is_white.ensures ∙ c.if-is_white.true),
      ← c.told.ensures,
    )
    (_, c.callback.ensures, refl)
