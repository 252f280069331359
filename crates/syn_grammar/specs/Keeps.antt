-- A run of the grammar that makes what a syntax tree holds of what is read: what readers in code are compared with,
-- and a tool of their proofs. What is read, the grammar says.
use Rattle.std.specs.Prelude.{ℕ, cond, List, ◌∷◌}
use Rattle.proc_macro2.specs.Token.{Token, Opens}
use Rattle.proc_macro2.specs.declared.delimiter.Delimiter.{Delimiter}
use Rattle.proc_macro2.specs.Groups.{same_delimiter}
use Rattle.syn_grammar.specs.Tree.{Tree, Nil, Pair, First, Second, Called, Node, Whole}
use Rattle.syn_grammar.specs.Gram.{Gram, word, literal, mark, lifetime, raw, nothing, never, seq, alt, star, many}
use Rattle.syn_grammar.specs.Gram.{group, judged, dropped, called, ref, operand}
use Rattle.syn_grammar.specs.Kind.{Kind}
use Rattle.syn_grammar.specs.Kept.{kept, held, forget}
use Rattle.syn_grammar.specs.Run.{Out, Refused, Got, ◌>>=◌, wrap, Call, kind, loop, list, tower, word_at, literal_at}
use Rattle.syn_grammar.specs.Run.{mark_at, lifetime_at, raw_at, Split, Unclosed, Inside, split, whole, interp, reads}

-- what is kept of what is read
abbrev pub kepts : Call → List Token → Out
kepts c ts = wrap kept (reads c ts)

-- a punctuation, with its last mark alone
unfoldable pub mark_kept : ℕ → List ℕ → List Token → Out
mark_kept c cs ts = wrap kept (mark_at c cs ts)

-- the group that stands first, if one of that kind does
abbrev pub checked : Delimiter → Split → Split
checked d Unclosed = Unclosed
checked d (Inside ts e rest) = cond (same_delimiter e d) (Inside ts d rest) Unclosed

unfoldable pub opened : Delimiter → List Token → Split
opened d (Opens e ∷ ts) = cond (same_delimiter e d) (checked d (split 0 ts)) Unclosed
opened d _ = Unclosed

-- its inside is read to its end
unfoldable pub ended : Delimiter → List Token → Out → Out
ended d rest o = whole d rest o

unfoldable pub in_group : Delimiter → (List Token → Out) → Split → Out
in_group d f Unclosed = Refused
in_group d f (Inside ts e rest) = ended d rest (f ts)

-- what is kept of a node that was read as a kind
abbrev pub node : Kind → Tree → Tree
node k x = Node (held k) (forget k x)

-- what is kept of what an entry reads, part by part
abbrev pub keeps : Gram → List Token → Out
keeps (word p) ts = word_at p ts
keeps (literal p) ts = literal_at p ts
keeps (mark c cs) ts = mark_kept c cs ts
keeps lifetime ts = lifetime_at ts
keeps raw ts = raw_at ts
keeps nothing ts = Got Nil ts
keeps never ts = Refused
keeps (seq a b) ts = keeps a ts >>= λ x us. keeps b us >>= λ y vs. Got (Pair x y) vs
keeps (alt t a b) ts = cond (t ts) (wrap First (keeps a ts)) (wrap Second (keeps b ts))
keeps (star t g) ts = kepts (loop t g) ts
keeps (many e c g) ts = kepts (list e c g) ts
keeps (group d g) ts = in_group d (keeps g) (opened d ts)
keeps (judged v g) ts = wrap kept (interp reads (judged v g) ts)
keeps (dropped g) ts = interp reads g ts >>= λ x us. Got Nil us
keeps (called n g) ts = wrap (Called n) (keeps g ts)
keeps (ref k) ts = kepts (kind k) ts
keeps (operand p n) ts = wrap Whole (kepts (tower p n) ts)
