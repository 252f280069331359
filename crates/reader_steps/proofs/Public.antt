-- What is read with enough fuel is what the grammar has.
use Rattle.std.proofs.Common.{◌≡◌, ℕ, suc, ◌+◌, ◌*◌, List, length, map, sym, ap, subst, ◌∙◌, arith}
use Rattle.std.proofs.lemmas.List.{length-map}
use Rattle.proc_macro2.specs.Token.{Token}
use Rattle.syn_buffer.specs.Entries.{entry_token}
use Rattle.syn_buffer.specs.declared.entry.Entry.{Entry}
use Rattle.syn_grammar.specs.Kind.{Kind}
use Rattle.syn_grammar.specs.Ranks.{top}
use Rattle.syn_grammar.specs.Read.{IsDerived, NoneRead}
use Rattle.syn_grammar.specs.Run.{Late, Refused, Got, kind, reads, run}
use Rattle.syn_grammar.specs.Tree.{Tree}
use Rattle.syn_grammar.proofs.Theorems.{all, found, over}
use Rattle.syn_grammar.proofs.Whole.{IsOver}
use Rattle.reader_steps.specs.Answers.{tokens}

enough : (k : Kind) (es : List Entry) (n : ℕ) → n ≡ length es * 10 + 10
    → run n (kind k) (tokens es) ≡ reads (kind k) (tokens es)
unfolding reads top
enough k es n e =
    let same : n ≡ suc (length (tokens es) * 10 + 9) = omega (arith, length-map es entry_token, e) in
    ap (λ n. run n (kind k) (tokens es)) same

pub derived : (k : Kind) (es us : List Entry) (x : Tree) (n : ℕ) → n ≡ length es * 10 + 10
    → run n (kind k) (tokens es) ≡ Got x (tokens us) → IsDerived k (tokens es) x (tokens us)
derived k es us x n e r = found k (tokens es) x (tokens us) (sym (enough k es n e) ∙ r)

pub none : (k : Kind) (es : List Entry) (n : ℕ) → n ≡ length es * 10 + 10
    → run n (kind k) (tokens es) ≡ Refused → NoneRead k (tokens es)
none k es n e r x rest d h =
    let f : Refused ≡ Got x rest = sym r ∙ enough k es n e ∙ all k (tokens es) x rest (d, h) in cc f

pub ended : (k : Kind) (es : List Entry) (n : ℕ) → n ≡ length es * 10 + 10
    → run n (kind k) (tokens es) ≡ Late → ⊥
ended k es n e r = subst IsOver (sym (enough k es n e) ∙ r) (over k (tokens es))
