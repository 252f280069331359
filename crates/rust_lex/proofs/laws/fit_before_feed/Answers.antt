use Rattle.rust_lex.proofs.Feeds.{fit_before_feed}
use Rattle.rust_lex.proofs.laws.fit_before_feed.Goals as goal

pub returns : goal.returns
returns c = fit_before_feed
