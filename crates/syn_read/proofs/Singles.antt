-- From the one tree that was read to all that might have been.
use Rattle.std.proofs.Common.{◌≡◌, ◌∙◌, List, [], subst, sym}
use Rattle.std.proofs.lemmas.List.{append-nil}
use Rattle.proc_macro2.specs.Token.{Token}
use Rattle.rust_map.specs.declared.span.Span.{Span}
use Rattle.syn_error.specs.Faults.{IsSyntax}
use Rattle.syn_error.specs.declared.fault.ParseFault.{ParseFault}
use Rattle.syn_error.specs.declared.fault.ParseFault.TheVariants as fault
use Rattle.syn_grammar.proofs.Theorems.{one}
use Rattle.syn_grammar.specs.Derives.{Derives}
use Rattle.syn_grammar.specs.Gram.{ref}
use Rattle.syn_grammar.specs.Kind.{Kind}
use Rattle.syn_grammar.specs.Read.{IsDerived, NoneRead}
use Rattle.syn_grammar.specs.Tree.{Tree, flat}
use Rattle.syn_read.specs.Parsed.{IsAll, IsNone}
use Rattle.syn_read.specs.Single.{IsNoneMeant, NoneMeant, StandsAt}

-- a tree of the kind is not meant
abbrev pub IsNotMeant : Kind → (Tree → Type 0) → Tree → Type 0
IsNotMeant k p tree = (rest : List Token) → Derives tree (ref k) rest → p tree → ⊥

-- nothing was read, and so nothing that is meant
pub none_read : (k : Kind) (p : Tree → Type 0) (ts : List Token) → NoneRead k ts → NoneMeant k p ts
none_read k p ts n tree rest d h = n tree rest d.0 d.1

pub none_all : (k : Kind) (p : Tree → Type 0) (ts : List Token) → IsNone k ts → IsNoneMeant k p ts
none_all k p ts n tree d h = n tree d

-- what was read is not meant, and nothing else is read there
pub other_read : (k : Kind) (p : Tree → Type 0) (ts : List Token) (tree : Tree) (rest : List Token)
    → IsDerived k ts tree rest → IsNotMeant k p tree → NoneMeant k p ts
other_read k p ts tree rest d n other left e h =
    n rest d.0 (subst p (sym (one (ref k) tree other rest left d.0 e.0 (d.1 ∙ sym e.1)).0) h)

-- the same, by what a reader knows of it: the kind it asked for, the tokens it began with, and the tree where it stands
pub other_found : (k j : Kind) (p : Tree → Type 0) (ts us : List Token) (x y : Tree) (rest : List Token) → j ≡ k
    → us ≡ ts → y ≡ x → IsDerived j us x rest → IsNotMeant k p y → NoneMeant k p ts
other_found k j p ts us x y rest e f h d n =
    other_read k p ts x rest (subst (λ i. IsDerived i ts x rest) e (subst (λ vs. IsDerived j vs x rest) f d))
    (subst (λ z. IsNotMeant k p z) h n)

pub other_all : (k : Kind) (p : Tree → Type 0) (ts : List Token) (tree : Tree) → IsAll k ts tree
    → IsNotMeant k p tree → IsNoneMeant k p ts
other_all k p ts tree d n other e h =
    n [] d.0 (subst p (sym (one (ref k) tree other [] [] d.0 e.0 (append-nil (flat tree) ∙ d.1
    ∙ sym (append-nil (flat other) ∙ e.1))).0) h)

pub other_whole : (k j : Kind) (p : Tree → Type 0) (ts : List Token) (x y : Tree) → j ≡ k → y ≡ x → IsAll j ts x
    → IsNotMeant k p y → IsNoneMeant k p ts
other_whole k j p ts x y e h d n =
    other_all k p ts x (subst (λ i. IsAll i ts x) e d) (subst (λ z. IsNotMeant k p z) h n)

-- where a tree is read, it is no fault of syntax that none is
pub placed : (k : Kind) (ts : List Token) (tree : Tree) (rest : List Token) (span : Span) (e : ParseFault)
    → (IsSyntax e → NoneRead k ts) → IsDerived k ts tree rest → StandsAt span e
placed k ts tree rest span (fault.Syntax x) n d = absurd (n tt tree rest d.0 d.1)
placed k ts tree rest span fault.Memory n d = tt
