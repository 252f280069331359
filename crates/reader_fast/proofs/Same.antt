-- One tree is as good as another that is the same, and so are tokens.
use Rattle.std.proofs.Common.{◌≡◌, ℕ, List, sym, ap, ◌∙◌}
use Rattle.proc_macro2.specs.Token.{Token}
use Rattle.syn_grammar.specs.Kind.{Kind}
use Rattle.syn_grammar.specs.Run.{Got, kind, run}
use Rattle.syn_grammar.specs.Tree.{Tree}
use Rattle.reader_fast.specs.Read.{IsReadIn}

pub as_read : (calls : ℕ) (k : Kind) (ts vs us : List Token) (x y : Tree) → ts ≡ vs → y ≡ x
    → IsReadIn calls k vs x us → IsReadIn calls k ts y us
as_read calls k ts vs us x y a q r fuel l = ap (run fuel (kind k)) a ∙ r fuel l ∙ ap (λ x. Got x us) (sym q)
