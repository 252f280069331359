-- What ends in a stop is read before whatever follows it with its last mark set apart, too: no look goes behind the
-- stop, none sees how a semicolon is spaced, and no verdict does.
use Rattle.std.proofs.Common.{◌≡◌, ℕ, List, [], ◌∷◌, ◌++◌, refl, sym, ap, ◌∙◌, subst}
use Rattle.proc_macro2.specs.Token.{Token, Opens, Closes, Ident, Literal, Punct}
use Rattle.rust_leaf.specs.declared.punct.Spacing.{Spacing}
use Rattle.rust_leaf.specs.declared.punct.Spacing.TheVariants.{Alone as Apart, Joint}
use Rattle.std.specs.Prelude.{true, false}
use Rattle.syn_grammar.specs.Kind.{Kind, AnItem, AForeignItem, ATraitItem, AnImplItem}
use Rattle.syn_grammar.specs.Tree.{Tree, AMark, Raw, Pair, First, Second, Group, Called, Verbatim, Node, marks, flat}
use Rattle.syn_grammar.specs.Gram.{Gram, word, literal, mark, lifetime, raw, nothing, seq, alt, star, many, group}
use Rattle.syn_grammar.specs.Gram.{judged, dropped, called, ref, operand}
use Rattle.syn_grammar.specs.Table.{table}
use Rattle.syn_grammar.specs.Derives.{Derives}
use Rattle.syn_grammar.specs.Read.{IsRead}
use Rattle.syn_grammar.specs.Kept.{held, kept}
use Rattle.syn_grammar.specs.Normal.{apart}
use Rattle.laws_items.specs.Apart.{set_apart}
use Rattle.laws_items.specs.Begins.{is_any_item}
use Rattle.laws_items.proofs.Alike.{semicolon}
use Rattle.laws_items.proofs.Steady.{no_kind}
use Rattle.laws_items.proofs.Ended.{is_ended, Ended, ended_table}
use Rattle.laws_items.proofs.Stays.{Same, ahead, joined, shift, tested, end_group}

-- there is a token
abbrev IsThere : List Token → Type 0
IsThere ts = (t : Token) × (us : List Token) × (ts ≡ t ∷ us)

-- the last of tokens is the last of those behind others
there_behind : (xs ys : List Token) → IsThere ys → IsThere (xs ++ ys)
there_behind [] ys i = i
there_behind (x ∷ xs) ys i = (x, xs ++ ys, refl)

apart_rest : (t : Token) (ts : List Token) → IsThere ts → apart (t ∷ ts) ≡ t ∷ apart ts
apart_rest t [] i = cc i.2
apart_rest (Punct c spacing) (u ∷ ts) i = refl
apart_rest (Opens d) (u ∷ ts) i = refl
apart_rest (Closes d) (u ∷ ts) i = refl
apart_rest (Ident cs) (u ∷ ts) i = refl
apart_rest (Literal cs) (u ∷ ts) i = refl

apart_behind : (xs ys : List Token) → IsThere ys → apart (xs ++ ys) ≡ xs ++ apart ys
apart_behind [] ys i = refl
apart_behind (x ∷ xs) ys i =
    apart_rest x (xs ++ ys) (there_behind xs ys i) ∙ ap (λ ts. x ∷ ts) (apart_behind xs ys i)

-- of a punctuation
marks_there : (c : ℕ) (cs : List ℕ) (spacing : Spacing) → IsThere (marks c cs spacing)
marks_there c [] spacing = (Punct c spacing, [], refl)
marks_there c (d ∷ ds) spacing = (Punct c Joint, marks d ds spacing, refl)

marks_apart : (c : ℕ) (cs : List ℕ) (spacing : Spacing) → marks c cs Apart ≡ apart (marks c cs spacing)
marks_apart c [] spacing = refl
marks_apart c (d ∷ ds) spacing =
    ap (λ ts. Punct c Joint ∷ ts) (marks_apart d ds spacing)
    ∙ sym (apart_rest (Punct c Joint) (marks d ds spacing) (marks_there d ds spacing))

-- it is read so, these are its tokens, and up to its stop they are as they were
record IsMoved (x : Tree) (g : Gram) (r s : List Token) : Type 0 where
  there : IsThere (flat x)
  spelled : flat (set_apart x) ≡ apart (flat x)
  alike : Same (flat x ++ r) (flat (set_apart x) ++ s)
  derived : Derives (set_apart x) g s

end_mark : (c : ℕ) (cs : List ℕ) (spacing : Spacing) (r s : List Token) → c ≡ 59 → cs ≡ []
    → Same (marks c cs spacing ++ r) (marks c cs Apart ++ s)
end_mark c cs spacing r s e f =
    subst (λ n. Same (marks n cs spacing ++ r) (marks n cs Apart ++ s)) (sym e)
    (subst (λ ns. Same (marks 59 ns spacing ++ r) (marks 59 ns Apart ++ s)) (sym f) (0, semicolon spacing Apart))

moved : (x : Tree) (g : Gram) (r s : List Token) → Ended g → Derives x g r → IsMoved x g r s
moved (AMark c cs spacing) (mark f fs) r s i d = record {
  there = marks_there c cs spacing;
  spelled = marks_apart c cs spacing;
  alike = end_mark c cs spacing r s (d.0 ∙ i.0) (d.1 ∙ i.1);
  derived = d;
}
moved (Pair x y) (seq f g) r s i d =
    let k = moved y g r s i.1 d.1 in
    record {
      there = there_behind (flat x) (flat y) k.there;
      spelled = ap (λ ts. flat x ++ ts) k.spelled ∙ sym (apart_behind (flat x) (flat y) k.there);
      alike = joined (flat x) (flat y) (flat (set_apart y)) r s
          (ahead x f (flat y ++ r) (flat y ++ r) (flat (set_apart y) ++ s) d.0 k.alike);
      derived = (shift x f (flat y ++ r) (flat (set_apart y) ++ s) i.0 k.alike d.0, k.derived);
    }
moved (First x) (alt t f g) r s i d =
    let k = moved x f r s i.1 d.1 in
    record {
      there = k.there;
      spelled = k.spelled;
      alike = k.alike;
      derived = (tested t i.0 (flat x ++ r) (flat (set_apart x) ++ s) true k.alike d.0, k.derived);
    }
moved (Second x) (alt t f g) r s i d =
    let k = moved x g r s i.2 d.1 in
    record {
      there = k.there;
      spelled = k.spelled;
      alike = k.alike;
      derived = (tested t i.0 (flat x ++ r) (flat (set_apart x) ++ s) false k.alike d.0, k.derived);
    }
moved (Group f x) (group o g) r s i d = record {
  there = (Opens f, flat x ++ Closes f ∷ [], refl);
  spelled = sym (apart_behind (Opens f ∷ flat x) (Closes f ∷ []) (Closes f, [], refl));
  alike = end_group f (flat x ++ Closes f ∷ []) r s (d.0 ∙ i);
  derived = d;
}
moved (First x) (judged v g) r s i d =
    let k = moved x g r s i.1 d.1 in
    record { there = k.there; spelled = k.spelled; alike = k.alike; derived = (i.0 x ∙ d.0, k.derived) }
moved (Verbatim x) (judged v g) r s i d =
    let k = moved x g r s i.1 d.1 in
    record { there = k.there; spelled = k.spelled; alike = k.alike; derived = (i.0 x ∙ d.0, k.derived) }
moved (Called n x) (called m g) r s i d =
    let k = moved x g r s i d.1 in
    record { there = k.there; spelled = k.spelled; alike = k.alike; derived = (d.0, k.derived) }
moved (Node k x) (ref l) r s i d =
    let j = moved x (table k) r s (ended_table k (ap is_ended d.0 ∙ i)) d.1 in
    record { there = j.there; spelled = j.spelled; alike = j.alike; derived = (d.0, j.derived) }
moved _ (word p) r s i d = absurd i
moved _ (literal p) r s i d = absurd i
moved _ lifetime r s i d = absurd i
moved _ raw r s i d = absurd i
moved _ nothing r s i d = absurd i
moved _ (star t g) r s i d = absurd i
moved _ (many t c g) r s i d = absurd i
moved _ (dropped g) r s i d = absurd i
moved _ (operand p n) r s i d = absurd i
moved _ _ r s i d = absurd d

-- items, raw or not
item_ended : (k : Kind) → is_any_item k ≡ true → Ended (ref k)
item_ended AnItem i = refl
item_ended AForeignItem i = refl
item_ended ATraitItem i = refl
item_ended AnImplItem i = refl
item_ended _ i = no_kind i

pub item_apart : (k : Kind) (x : Tree) (r s : List Token) → is_any_item k ≡ true → Derives x (ref k) r
    → Derives (set_apart x) (ref k) s × (flat (set_apart x) ≡ apart (flat x))
item_apart k x r s i d = let m = moved x (ref k) r s (item_ended k i) d in (m.derived, m.spelled)

-- raw ones are kept as their tokens
raw_kept : (k : Kind) (x : Tree) → is_any_item k ≡ true → kept (Node k (Verbatim x)) ≡ Node k (Raw (flat x))
unfolding held
raw_kept AnItem x i = refl
raw_kept AForeignItem x i = refl
raw_kept ATraitItem x i = refl
raw_kept AnImplItem x i = refl
raw_kept _ x i = no_kind i

pub raw_apart : (k : Kind) (x : Tree) (r s : List Token) → is_any_item k ≡ true
    → Derives (Node k (Verbatim x)) (ref k) r
    → IsRead k (apart (flat x) ++ s) (Node k (Raw (apart (flat x)))) s
raw_apart k x r s i d =
    let m = item_apart k (Node k (Verbatim x)) r s i d in
    record {
      tree = Node k (Verbatim (set_apart x));
      derived = m.0;
      spelled = ap (λ ts. ts ++ s) m.1;
      kept_is = raw_kept k (set_apart x) i ∙ ap (λ ts. Node k (Raw ts)) m.1;
    }
