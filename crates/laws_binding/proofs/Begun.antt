-- An expression in normal form begins as it did when it was read.
use Rattle.std.proofs.Common.{◌≡◌, ℕ, List, [], ◌∷◌, ◌++◌, refl, sym, ap, ◌∙◌}
use Rattle.std.specs.Prelude.{Bool, true, false, ◌&&◌, Option, Some, cond, codes}
use Rattle.proc_macro2.specs.Token.{Token, Opens, Ident, Literal, Punct}
use Rattle.proc_macro2.specs.declared.delimiter.Delimiter.{Delimiter}
use Rattle.rust_leaf.specs.declared.punct.Spacing.{Spacing}
use Rattle.rust_leaf.specs.declared.punct.Spacing.TheVariants.{Alone as Apart, Joint}
use Rattle.syn_grammar.specs.Kind.{Kind, Position, Plain, Style, InModule, InExpression, Path, Segments}
use Rattle.syn_grammar.specs.Kind.{QualifiedPath, AnyPath, AMacro, OuterAttribute, BoundLifetimes, Label, Body}
use Rattle.syn_grammar.specs.Kind.{ExprLit, ExprPath, ExprMacro, ExprParen, ExprArray, ExprRepeat, ExprGroup}
use Rattle.syn_grammar.specs.Kind.{ExprInfer, ExprBlock, ExprUnsafe, ExprAsync, ExprConst, ExprTryBlock, ExprIf}
use Rattle.syn_grammar.specs.Kind.{ExprMatch, ExprLoop, ExprWhile, ExprForLoop, ExprContinue, ExprTypedClosure}
use Rattle.syn_grammar.specs.Kind.{ExprAttributed, ExprUnary, ExprRawAddr, ExprReference, ExprLet, ExprBreak}
use Rattle.syn_grammar.specs.Kind.{ExprReturn, ExprYield, ExprClosure, ExprRange, ExprRangeClosed}
use Rattle.syn_grammar.specs.Words.{is_path_keyword, is_plain_name, is_bool}
use Rattle.rust_leaf.specs.Keywords.{same_text, is_reserved}
use Rattle.syn_grammar.specs.Name.{Part}
use Rattle.syn_grammar.specs.Gram.{Gram, word, literal, mark, group, called, ref}
use Rattle.syn_grammar.specs.Table.{table}
use Rattle.syn_grammar.specs.Tree.{Tree, flat}
use Rattle.syn_grammar.specs.Derives.{Derives}
use Rattle.syn_grammar.specs.Kept.{kept, held}
use Rattle.syn_grammar.specs.Normal.{passed, normal}
use Rattle.syn_grammar.specs.Look.{seen}
use Rattle.syn_grammar.proofs.Whole.{and_true}
use Rattle.syn_grammar.specs.Forms.{Case, form, first_form, fronts, front}
use Rattle.std.proofs.lemmas.Slice.Eq.{bytes_eq-Decides}
use Rattle.std.proofs.lemmas.Bool.{false≢true}
use Rattle.laws_binding.proofs.Leads as Leads

-- Both begin with one leaf, with which an expression can begin; the last mark of a punctuation may be spaced otherwise.
pub data Begun : List Token → List Token → Type 0 where
  a_word : {r s : List Token} (cs : List ℕ) → same_text (codes "as") cs ≡ false → Begun (Ident cs ∷ r) (Ident cs ∷ s)
  a_literal : {r s : List Token} (cs : List ℕ) → Begun (Literal cs ∷ r) (Literal cs ∷ s)
  an_opening : {r s : List Token} (d : Delimiter) → Begun (Opens d ∷ r) (Opens d ∷ s)
  a_lifetime : {r s : List Token} (cs : List ℕ) → Begun (Punct 39 Joint ∷ Ident cs ∷ r) (Punct 39 Joint ∷ Ident cs ∷ s)
  a_bang : {r s : List Token} (i : Spacing) → Begun (Punct 33 i ∷ r) (Punct 33 Apart ∷ s)
  a_hash : {r s : List Token} (i : Spacing) → Begun (Punct 35 i ∷ r) (Punct 35 Apart ∷ s)
  an_and : {r s : List Token} (i : Spacing) → Begun (Punct 38 i ∷ r) (Punct 38 Apart ∷ s)
  a_star : {r s : List Token} (i : Spacing) → Begun (Punct 42 i ∷ r) (Punct 42 Apart ∷ s)
  a_minus : {r s : List Token} (i : Spacing) → Begun (Punct 45 i ∷ r) (Punct 45 Apart ∷ s)
  a_less : {r s : List Token} (i : Spacing) → Begun (Punct 60 i ∷ r) (Punct 60 Apart ∷ s)
  a_bar : {r s : List Token} (i : Spacing) → Begun (Punct 124 i ∷ r) (Punct 124 Apart ∷ s)
  dots : {r s : List Token} (i j : Spacing) → Begun (Punct 46 Joint ∷ Punct 46 i ∷ r) (Punct 46 Joint ∷ Punct 46 j ∷ s)
  colons : {r s : List Token} (i j : Spacing)
      → Begun (Punct 58 Joint ∷ Punct 58 i ∷ r) (Punct 58 Joint ∷ Punct 58 j ∷ s)

-- what stands behind is not looked at
pub more : (ts us zs : List Token) → Begun ts us → Begun ts (us ++ zs)
more _ _ zs (a_word cs e) = a_word cs e
more _ _ zs (a_literal cs) = a_literal cs
more _ _ zs (an_opening d) = an_opening d
more _ _ zs (a_lifetime cs) = a_lifetime cs
more _ _ zs (a_bang i) = a_bang i
more _ _ zs (a_hash i) = a_hash i
more _ _ zs (an_and i) = an_and i
more _ _ zs (a_star i) = a_star i
more _ _ zs (a_minus i) = a_minus i
more _ _ zs (a_less i) = a_less i
more _ _ zs (a_bar i) = a_bar i
more _ _ zs (dots i j) = dots i j
more _ _ zs (colons i j) = colons i j

abbrev Begins : Gram → Type 0
Begins g = Leads.Leads Begun more g

-- no word of an expression is `as`
not_as : (p : List ℕ → Bool) → p (codes "as") ≡ false → (cs : List ℕ) → p cs ≡ true → same_text (codes "as") cs ≡ false
not_as p e cs h = go (same_text (codes "as") cs) refl
  where
    go : (b : Bool) → same_text (codes "as") cs ≡ b → b ≡ false
    go false f = refl
    go true f = sym h ∙ ap p (sym ((bytes_eq-Decides (codes "as") cs).0 f)) ∙ e

words : (p : List ℕ → Bool) → p (codes "as") ≡ false → Begins (word p)
words p e = Leads.word_leads Begun more (λ cs r h. a_word cs (not_as p e cs h))

literals : {p : List ℕ → Bool} → Begins (literal p)
literals = Leads.literal_leads Begun more (λ cs r h. a_literal cs)

groups : {d : Delimiter} {g : Gram} → Begins (group d g)
groups {d} = Leads.group_leads Begun more (λ r s. an_opening d)

stars : Begins (mark 42 [])
stars = Leads.mark_leads Begun more (λ i r. a_star i)

bangs : Begins (mark 33 [])
bangs = Leads.mark_leads Begun more (λ i r. a_bang i)

minuses : Begins (mark 45 [])
minuses = Leads.mark_leads Begun more (λ i r. a_minus i)

ands : Begins (mark 38 [])
ands = Leads.mark_leads Begun more (λ i r. an_and i)

bars : Begins (mark 124 [])
bars = Leads.mark_leads Begun more (λ i r. a_bar i)

segments : (s : Style) → Begins (ref (Segments s))
unfolding table held passed is_path_keyword is_plain_name is_reserved
segments s = Leads.ref_leads Begun more (λ q x r d. entry.at Plain x r d)
  where
    entry : Begins (table (Segments s))
    entry = Leads.alt_leads Begun more (Leads.seq_leads Begun more (words is_path_keyword refl))
        (Leads.seq_leads Begun more (words is_plain_name refl))

path : (s : Style) → Begins (ref (Path s))
unfolding table held passed
path s = Leads.ref_leads Begun more (λ q x r d. entry.at Plain x r d)
  where
    entry : Begins (table (Path s))
    entry = Leads.opt_leads Begun more (Leads.mark_leads Begun more (λ i r. colons i Apart)) (segments s)

qualified_path : (s : Style) → Begins (ref (QualifiedPath s))
unfolding table held passed
qualified_path s = Leads.ref_leads Begun more (λ q x r d. entry.at Plain x r d)
  where
    entry : Begins (table (QualifiedPath s))
    entry = Leads.seq_leads Begun more (Leads.mark_leads Begun more (λ i r. a_less i))

any_path : Begins (ref (AnyPath InExpression))
unfolding table held passed
any_path = Leads.ref_leads Begun more (λ q x r d. entry.at Plain x r d)
  where
    entry : Begins (table (AnyPath InExpression))
    entry = Leads.alt_leads Begun more (qualified_path InExpression) (path InExpression)

macro_path : Begins (ref AMacro)
unfolding table held passed
macro_path = Leads.ref_leads Begun more (λ q x r d. entry.at Plain x r d)
  where
    entry : Begins (table AMacro)
    entry = Leads.seq_leads Begun more (path InModule)

outer_attribute : Begins (ref OuterAttribute)
unfolding table held passed
outer_attribute = Leads.ref_leads Begun more (λ q x r d. entry.at Plain x r d)
  where
    entry : Begins (table OuterAttribute)
    entry = Leads.seq_leads Begun more (Leads.mark_leads Begun more (λ i r. a_hash i))

label : {n : Part} → Begins (called n (ref Label))
unfolding table held passed
label = Leads.called_leads Begun more (Leads.ref_leads Begun more (λ q x r d. entry.at Plain x r d))
  where
    entry : Begins (table Label)
    entry = Leads.seq_leads Begun more (Leads.lifetime_leads Begun more (λ cs r. a_lifetime cs))

body : Begins (ref Body)
unfolding table held passed
body = Leads.ref_leads Begun more (λ q x r d. entry.at Plain x r d)
  where
    entry : Begins (table Body)
    entry = groups

bound_lifetimes : Begins (ref BoundLifetimes)
unfolding table held passed
bound_lifetimes = Leads.ref_leads Begun more (λ q x r d. entry.at Plain x r d)
  where
    entry : Begins (table BoundLifetimes)
    entry = Leads.seq_leads Begun more (words _ refl)

closure : Begins (table ExprClosure)
unfolding table
closure =
    Leads.opt_leads Begun more bound_lifetimes
    (Leads.opt_leads Begun more (words _ refl)
    (Leads.opt_leads Begun more (words _ refl)
    (Leads.opt_leads Begun more (words _ refl)
    (Leads.opt_leads Begun more (words _ refl) (Leads.seq_leads Begun more bars)))))

-- the forms that begin an expression
abbrev pub is_front : Kind → Bool
is_front ExprAttributed = true
is_front ExprLit = true
is_front ExprBlock = true
is_front ExprLoop = true
is_front ExprWhile = true
is_front ExprTypedClosure = true
is_front ExprClosure = true
is_front ExprForLoop = true
is_front ExprParen = true
is_front ExprRepeat = true
is_front ExprArray = true
is_front ExprGroup = true
is_front ExprInfer = true
is_front ExprUnsafe = true
is_front ExprAsync = true
is_front ExprConst = true
is_front ExprTryBlock = true
is_front ExprIf = true
is_front ExprMatch = true
is_front ExprContinue = true
is_front ExprBreak = true
is_front ExprReturn = true
is_front ExprYield = true
is_front ExprLet = true
is_front ExprRawAddr = true
is_front ExprReference = true
is_front ExprUnary = true
is_front ExprRangeClosed = true
is_front ExprRange = true
is_front ExprMacro = true
is_front ExprPath = true
is_front _ = false

pub front_begins : (k : Kind) → is_front k ≡ true → Begins (table k)
unfolding table is_bool
front_begins ExprAttributed e = Leads.seq_leads Begun more outer_attribute
front_begins ExprLit e = Leads.alt_leads Begun more literals (words is_bool refl)
front_begins ExprBlock e = Leads.opt_leads Begun more label body
front_begins ExprLoop e = Leads.opt_leads Begun more label (Leads.seq_leads Begun more (words _ refl))
front_begins ExprWhile e = Leads.opt_leads Begun more label (Leads.seq_leads Begun more (words _ refl))
front_begins ExprTypedClosure e = Leads.seq_leads Begun more closure
front_begins ExprClosure e = closure
front_begins ExprForLoop e = Leads.opt_leads Begun more label (Leads.seq_leads Begun more (words _ refl))
front_begins ExprParen e = groups
front_begins ExprRepeat e = groups
front_begins ExprArray e = groups
front_begins ExprGroup e = groups
front_begins ExprInfer e = words _ refl
front_begins ExprUnsafe e = Leads.seq_leads Begun more (words _ refl)
front_begins ExprAsync e = Leads.seq_leads Begun more (words _ refl)
front_begins ExprConst e = Leads.seq_leads Begun more (words _ refl)
front_begins ExprTryBlock e = Leads.seq_leads Begun more (words _ refl)
front_begins ExprIf e = Leads.seq_leads Begun more (words _ refl)
front_begins ExprMatch e = Leads.seq_leads Begun more (words _ refl)
front_begins ExprContinue e = Leads.seq_leads Begun more (words _ refl)
front_begins ExprBreak e = Leads.seq_leads Begun more (words _ refl)
front_begins ExprReturn e = words _ refl
front_begins ExprYield e = words _ refl
front_begins ExprLet e = Leads.seq_leads Begun more (words _ refl)
front_begins ExprRawAddr e = Leads.seq_leads Begun more ands
front_begins ExprReference e = Leads.seq_leads Begun more ands
front_begins ExprUnary e =
    Leads.alt_leads Begun more stars
    (Leads.alt_leads Begun more bangs (Leads.alt_leads Begun more minuses (Leads.never_leads Begun more)))
front_begins ExprRangeClosed e = Leads.mark_leads Begun more (λ i r. dots Joint Joint)
front_begins ExprRange e = Leads.mark_leads Begun more (λ i r. dots i Apart)
front_begins ExprMacro e = macro_path
front_begins ExprPath e = any_path
front_begins _ e = absurd (false≢true e)

-- each of a list of cases has a kind that passes
abbrev pub all_pass : (Kind → Bool) → List Case → Bool
all_pass p [] = true
all_pass p (form k l ∷ cases) = p k && all_pass p cases

some_passes : (p : Kind → Bool) (j k : Kind) → p j ≡ true → Some j ≡ Some k → p k ≡ true
some_passes p j k h e = cc

one_passes : (p : Kind → Bool) (j k : Kind) (b : Bool) (o : Option Kind) → p j ≡ true → (o ≡ Some k → p k ≡ true)
    → cond b (Some j) o ≡ Some k → p k ≡ true
one_passes p j k true o h i e = some_passes p j k h e
one_passes p j k false o h i e = i e

pub first_passes : (p : Kind → Bool) (cases : List Case) (ts : List Token) (k : Kind) → all_pass p cases ≡ true
    → first_form cases ts ≡ Some k → p k ≡ true
first_passes p [] ts k h e = cc
first_passes p (form j l ∷ cases) ts k h e =
    let a = and_true _ _ h in one_passes p j k (seen (l ts)) (first_form cases ts) a.0 (first_passes p cases ts k a.1) e

-- an own part in front begins as it did
pub begun : (p : Position) (k : Kind) (y : Tree) (r s : List Token) → front p s ≡ Some k → Derives y (table k) r
    → Begun (flat y ++ r) (flat (normal (kept y)))
unfolding front
begun p k y r s e d = (front_begins k (first_passes is_front (fronts p) s k refl e)).at Plain y r d
