-- Before the name of an item stands no opening delimiter: what an entry puts before a name ends in a word or a mark,
-- and no group begins with a name.
use Rattle.std.proofs.Common.{◌≡◌, ℕ, ◌+◌, List, [], ◌∷◌, ◌++◌, length, refl, sym, ap, ◌∙◌, subst, append_assoc}
use Rattle.std.proofs.Common.{length-append, arith, inl, inr, ⊎_elim}
use Rattle.std.proofs.lemmas.Bool.{true≢false}
use Rattle.std.proofs.lemmas.List.{append-nil}
use Rattle.std.specs.Prelude.{Bool, true, false, not, ◌&&◌, ◌||◌, ◌⊎◌, cond}
use Rattle.rust_leaf.specs.declared.punct.Spacing.{Spacing}
use Rattle.proc_macro2.specs.Token.{Token, Opens, Closes, Ident, Literal, Punct}
use Rattle.syn_grammar.specs.Kind.{Kind, AFile, AnItem, Items, AStruct, AnEnum, AUnion, AStatic, AConst, AnExternCrate}
use Rattle.syn_grammar.specs.Kind.{AModule, ATrait, AFunction, ATypeAlias, ItemMacro, Signature, InFile, InForeign}
use Rattle.syn_grammar.specs.Kind.{InTrait, InImpl}
use Rattle.syn_grammar.specs.Name.{the_name, same_part}
use Rattle.syn_grammar.specs.Tree.{Tree, AWord, ALiteral, AMark, ALifetime, Raw, Nil, Pair, First, Second, End, Again}
use Rattle.syn_grammar.specs.Tree.{Final, More, Group, Dropped, Called, Verbatim, Node, Whole, flat}
use Rattle.syn_grammar.specs.Tree.{marks}
use Rattle.syn_grammar.specs.Names.{Name, Lister, Nothing, Others, Names, lister, named, names_behind, names}
use Rattle.syn_grammar.specs.Gram.{Gram, word, literal, mark, lifetime, raw, nothing, seq, alt, star, many, group}
use Rattle.syn_grammar.specs.Gram.{judged, dropped, called, ref, operand}
use Rattle.syn_grammar.specs.Table.{table}
use Rattle.syn_grammar.specs.Derives.{Derives}

-- the last token opens a group
abbrev pub ends_open : List Token → Bool
ends_open [] = false
ends_open (Opens d ∷ []) = true
ends_open (t ∷ ts) = ends_open ts

abbrev pub is_none : List Token → Bool
is_none [] = true
is_none (t ∷ ts) = false

none_behind : (ts us : List Token) → is_none us ≡ false → is_none (ts ++ us) ≡ false
none_behind [] us e = e
none_behind (t ∷ ts) us e = refl

none_front : (ts us : List Token) → is_none ts ≡ false → is_none (ts ++ us) ≡ false
none_front [] us e = cc e
none_front (t ∷ ts) us e = refl

ends_cons : (t : Token) (us : List Token) → is_none us ≡ false → ends_open (t ∷ us) ≡ ends_open us
ends_cons t [] e = cc e
ends_cons (Opens d) (u ∷ us) e = refl
ends_cons (Closes d) (u ∷ us) e = refl
ends_cons (Ident cs) (u ∷ us) e = refl
ends_cons (Literal cs) (u ∷ us) e = refl
ends_cons (Punct c spacing) (u ∷ us) e = refl

pub ends_behind : (ts us : List Token) → is_none us ≡ false → ends_open (ts ++ us) ≡ ends_open us
ends_behind [] us e = refl
ends_behind (t ∷ ts) us e = ends_cons t (ts ++ us) (none_behind ts us e) ∙ ends_behind ts us e

ends_both : (ts us : List Token) → ends_open ts ≡ false → ends_open us ≡ false → ends_open (ts ++ us) ≡ false
ends_both ts [] e f = ap ends_open (append-nil ts) ∙ e
ends_both ts (u ∷ us) e f = ends_behind ts (u ∷ us) refl ∙ f

-- It has a token.
abbrev solid : Gram → Bool
solid (word p) = true
solid (literal p) = true
solid (mark c cs) = true
solid lifetime = true
solid (group d g) = true
solid (seq g h) = solid g || solid h
solid (alt t g h) = solid g && solid h
solid (called n g) = solid g
solid (judged v g) = solid g
solid g = false

-- It may begin with a name.
abbrev leads : Gram → Bool
leads (called n g) = same_part n the_name || leads g
leads (seq g h) = leads g || (not (solid g) && leads h)
leads (alt t g h) = leads g || leads h
leads (judged v g) = leads g
leads (star t g) = leads g
leads g = false

-- Its last token opens no group.
abbrev shut : Gram → Bool
shut (word p) = true
shut (literal p) = true
shut (mark c cs) = true
shut lifetime = true
shut nothing = true
shut (group d g) = true
shut (seq g h) = shut g && shut h
shut (alt t g h) = shut g && shut h
shut (called n g) = shut g
shut (judged v g) = shut g
shut g = false

-- No name in it stands directly behind an opening delimiter.
abbrev safe : Gram → Bool
safe (called n g) = same_part n the_name || safe g
safe (seq g h) = safe g && (safe h && (not (leads h) || shut g))
safe (alt t g h) = safe g && safe h
safe (judged v g) = safe g
safe (star t g) = safe g && not (leads g)
safe (group d g) = safe g && not (leads g)
safe g = true

both : (a b : Bool) → (a && b) ≡ true → (a ≡ true) × (b ≡ true)
both true b e = (refl, e)
both false b e = cc e

neither : (a b : Bool) → (a || b) ≡ false → (a ≡ false) × (b ≡ false)
neither true b e = cc e
neither false b e = (refl, e)

not_so : (b : Bool) → not b ≡ true → b ≡ false
not_so true e = cc e
not_so false e = refl

-- of trees
marks_solid : (c : ℕ) (cs : List ℕ) (spacing : Spacing) → is_none (marks c cs spacing) ≡ false
marks_solid c [] spacing = refl
marks_solid c (d ∷ ds) spacing = refl

marks_shut : (c : ℕ) (cs : List ℕ) (spacing : Spacing) → ends_open (marks c cs spacing) ≡ false
marks_shut c [] spacing = refl
marks_shut c (d ∷ ds) spacing = marks_shut d ds spacing

some_both : (ts us : List Token) (a b : Bool) → (a ≡ true → is_none ts ≡ false) → (b ≡ true → is_none us ≡ false)
    → (a || b) ≡ true → is_none (ts ++ us) ≡ false
some_both ts us true b f g e = none_front ts us (f refl)
some_both ts us false b f g e = none_behind ts us (g e)

is_solid : (x : Tree) (g : Gram) (r : List Token) → Derives x g r → solid g ≡ true → is_none (flat x) ≡ false
is_solid (AWord cs) g r d e = refl
is_solid (ALiteral cs) g r d e = refl
is_solid (AMark c cs spacing) g r d e = marks_solid c cs spacing
is_solid (ALifetime cs) g r d e = refl
is_solid (Group o x) g r d e = refl
is_solid (Pair x y) (seq g h) r d e =
    some_both (flat x) (flat y) (solid g) (solid h) (λ i. is_solid x g (flat y ++ r) d.0 i)
    (λ i. is_solid y h r d.1 i) e
is_solid (First x) (alt t g h) r d e = is_solid x g r d.1 (both (solid g) (solid h) e).0
is_solid (Second x) (alt t g h) r d e = is_solid x h r d.1 (both (solid g) (solid h) e).1
is_solid (Called n x) (called m g) r d e = is_solid x g r d.1 e
is_solid (First x) (judged v g) r d e = is_solid x g r d.1 e
is_solid (Verbatim x) (judged v g) r d e = is_solid x g r d.1 e
is_solid _ nothing r d e = absurd (true≢false (sym e))
is_solid _ (star t g) r d e = absurd (true≢false (sym e))
is_solid _ (many t c g) r d e = absurd (true≢false (sym e))
is_solid _ raw r d e = absurd (true≢false (sym e))
is_solid _ (dropped g) r d e = absurd (true≢false (sym e))
is_solid _ (ref k) r d e = absurd (true≢false (sym e))
is_solid _ (operand p n) r d e = absurd (true≢false (sym e))
is_solid _ _ r d e = absurd d

is_shut : (x : Tree) (g : Gram) (r : List Token) → Derives x g r → shut g ≡ true → ends_open (flat x) ≡ false
is_shut (AWord cs) g r d e = refl
is_shut (ALiteral cs) g r d e = refl
is_shut (AMark c cs spacing) g r d e = marks_shut c cs spacing
is_shut (ALifetime cs) g r d e = refl
is_shut Nil g r d e = refl
is_shut (Group o x) g r d e = ends_behind (Opens o ∷ flat x) (Closes o ∷ []) refl
is_shut (Pair x y) (seq g h) r d e =
    let b = both (shut g) (shut h) e in
    ends_both (flat x) (flat y) (is_shut x g (flat y ++ r) d.0 b.0) (is_shut y h r d.1 b.1)
is_shut (First x) (alt t g h) r d e = is_shut x g r d.1 (both (shut g) (shut h) e).0
is_shut (Second x) (alt t g h) r d e = is_shut x h r d.1 (both (shut g) (shut h) e).1
is_shut (Called n x) (called m g) r d e = is_shut x g r d.1 e
is_shut (First x) (judged v g) r d e = is_shut x g r d.1 e
is_shut (Verbatim x) (judged v g) r d e = is_shut x g r d.1 e
is_shut _ (star t g) r d e = absurd (true≢false (sym e))
is_shut _ (many t c g) r d e = absurd (true≢false (sym e))
is_shut _ raw r d e = absurd (true≢false (sym e))
is_shut _ (dropped g) r d e = absurd (true≢false (sym e))
is_shut _ (ref k) r d e = absurd (true≢false (sym e))
is_shut _ (operand p n) r d e = absurd (true≢false (sym e))
is_shut _ _ r d e = absurd d

-- A name among tokens, of which the first is that behind n others: no opening delimiter stands before it, and, unless
-- it may come first, some token does.
pub record Clear (tokens : List Token) (n : ℕ) (first : Bool) (name : Name) : Type 0 where
  pub before : List Token
  pub behind : List Token
  pub split : tokens ≡ before ++ Ident name.text ∷ behind
  pub place : name.index ≡ n + length before
  pub clear : ends_open before ≡ false
  pub later : first ≡ false → is_none before ≡ false

abbrev pub AllClear : List Token → ℕ → Bool → List Name → Type 0
AllClear tokens n first [] = Unit {0}
AllClear tokens n first (m ∷ ms) = Clear tokens n first m × AllClear tokens n first ms

clear_front : (ts us : List Token) (n : ℕ) (a b : Bool) (m : Name) → (b ≡ false → a ≡ false) → Clear ts n a m
    → Clear (ts ++ us) n b m
clear_front ts us n a b m f s = record {
  before = s.before;
  behind = s.behind ++ us;
  split = ap (λ v. v ++ us) s.split ∙ append_assoc s.before (Ident m.text ∷ s.behind) us;
  place = s.place;
  clear = s.clear;
  later = λ e. s.later (f e);
}

all_front : (ts us : List Token) (n : ℕ) (a b : Bool) (ms : List Name) → (b ≡ false → a ≡ false) → AllClear ts n a ms
    → AllClear (ts ++ us) n b ms
all_front ts us n a b [] f s = tt
all_front ts us n a b (m ∷ ms) f s = (clear_front ts us n a b m f s.0, all_front ts us n a b ms f s.1)

-- behind other tokens
record Before (ts : List Token) (a b : Bool) : Type 0 where
  shuts : a ≡ true → ends_open ts ≡ false
  some : b ≡ false → (a ≡ false) ⊎ (is_none ts ≡ false)

clear_behind : (ts us : List Token) (n : ℕ) (a b : Bool) (m : Name) → Before ts a b → Clear us (n + length ts) a m
    → Clear (ts ++ us) n b m
clear_behind ts us n a b m f s = record {
  before = ts ++ s.before;
  behind = s.behind;
  split = ap (λ v. ts ++ v) s.split ∙ sym (append_assoc ts s.before (Ident m.text ∷ s.behind));
  place = omega (arith, s.place, length-append ts s.before);
  clear = go a refl;
  later = λ e. ⊎_elim (λ i. none_behind ts s.before (s.later i)) (λ i. none_front ts s.before i) (f.some e);
}
  where
    go : (c : Bool) → a ≡ c → ends_open (ts ++ s.before) ≡ false
    go true i = ends_both ts s.before (f.shuts i) s.clear
    go false i = ends_behind ts s.before (s.later i) ∙ s.clear

all_behind : (ts us : List Token) (n : ℕ) (a b : Bool) (ms : List Name) → Before ts a b
    → AllClear us (n + length ts) a ms → AllClear (ts ++ us) n b ms
all_behind ts us n a b [] f s = tt
all_behind ts us n a b (m ∷ ms) f s = (clear_behind ts us n a b m f s.0, all_behind ts us n a b ms f s.1)

all_both : (ts : List Token) (n : ℕ) (b : Bool) (ms os : List Name) → AllClear ts n b ms → AllClear ts n b os
    → AllClear ts n b (ms ++ os)
all_both ts n b [] os s o = o
all_both ts n b (m ∷ ms) os s o = (s.0, all_both ts n b ms os s.1 o)

all_weaker : (ts : List Token) (n : ℕ) (a b : Bool) (ms : List Name) → (b ≡ false → a ≡ false) → AllClear ts n a ms
    → AllClear ts n b ms
all_weaker ts n a b ms f s = subst (λ us. AllClear us n b ms) (append-nil ts) (all_front ts [] n a b ms f s)

-- what lists none
named_none : (n : ℕ) (x : Tree) → named Nothing n x ≡ []
named_none n (First x) = named_none n x
named_none n (Second x) = named_none n x
named_none n _ = refl

cond_none : (b : Bool) (ms os : List Name) → ms ≡ [] → os ≡ [] → cond b ms os ≡ []
cond_none true ms os e f = e
cond_none false ms os e f = f

append_none : (ms os : List Name) → ms ≡ [] → os ≡ [] → ms ++ os ≡ []
append_none ms os e f = ap (λ ns. ns ++ os) e ∙ f

names_none : (n : ℕ) (x : Tree) → names_behind Nothing n x ≡ []
names_none n (Called m x) = cond_none (same_part m the_name) _ _ (named_none n x) (names_none n x)
names_none n (Node k x) = names_none n x
names_none n (Pair x y) = append_none _ _ (names_none n x) (names_none (n + length (flat x)) y)
names_none n (First x) = names_none n x
names_none n (Second x) = names_none n x
names_none n (Again x y) = append_none _ _ (names_none n x) (names_none (n + length (flat x)) y)
names_none n (Group d x) = names_none (n + 1) x
names_none n _ = refl

-- a name itself
named_clear : (l : Lister) (n : ℕ) (x : Tree) → AllClear (flat x) n true (named l n x)
named_clear (Names k) n (AWord cs) =
    (record { before = []; behind = []; split = refl; place = omega arith; clear = refl; later = λ e. cc e }, tt)
named_clear Nothing n (AWord cs) = tt
named_clear Others n (AWord cs) = tt
named_clear (Names k) n (First x) = named_clear (Names k) n x
named_clear Nothing n (First x) = named_clear Nothing n x
named_clear Others n (First x) = named_clear Others n x
named_clear (Names k) n (Second x) = named_clear (Names k) n x
named_clear Nothing n (Second x) = named_clear Nothing n x
named_clear Others n (Second x) = named_clear Others n x
named_clear (Names k) n _ = tt
named_clear Nothing n _ = tt
named_clear Others n _ = tt

-- the kinds that list names are safe, and none begins with one
record Safe (k : Kind) : Type 0 where
  safe : safe (table k) ≡ true
  later : leads (table k) ≡ false

listing : (l : Lister) (k : Kind) (x : Tree) → (lister l k x ≡ Nothing) ⊎ Safe k
unfolding table same_part
listing Nothing k x = inl refl
listing l AFile x = inr record { safe = refl; later = refl }
listing l Items x = inr record { safe = refl; later = refl }
listing l AnItem x = inr record { safe = refl; later = refl }
listing l AStruct x = inr record { safe = refl; later = refl }
listing l AnEnum x = inr record { safe = refl; later = refl }
listing l AUnion x = inr record { safe = refl; later = refl }
listing l AStatic x = inr record { safe = refl; later = refl }
listing l AConst x = inr record { safe = refl; later = refl }
listing l AnExternCrate x = inr record { safe = refl; later = refl }
listing l AModule x = inr record { safe = refl; later = refl }
listing l ATrait x = inr record { safe = refl; later = refl }
listing l (AFunction InFile) x = inr record { safe = refl; later = refl }
listing l (AFunction InForeign) x = inr record { safe = refl; later = refl }
listing l (AFunction InTrait) x = inr record { safe = refl; later = refl }
listing l (AFunction InImpl) x = inr record { safe = refl; later = refl }
listing l (Signature InFile) x = inr record { safe = refl; later = refl }
listing l (Signature InForeign) x = inr record { safe = refl; later = refl }
listing l (Signature InTrait) x = inr record { safe = refl; later = refl }
listing l (Signature InImpl) x = inr record { safe = refl; later = refl }
listing l (ATypeAlias InFile) x = inr record { safe = refl; later = refl }
listing l (ATypeAlias InForeign) x = inr record { safe = refl; later = refl }
listing l (ATypeAlias InTrait) x = inr record { safe = refl; later = refl }
listing l (ATypeAlias InImpl) x = inr record { safe = refl; later = refl }
listing l (ItemMacro InFile) x = inr record { safe = refl; later = refl }
listing l (ItemMacro InForeign) x = inr record { safe = refl; later = refl }
listing l (ItemMacro InTrait) x = inr record { safe = refl; later = refl }
listing l (ItemMacro InImpl) x = inr record { safe = refl; later = refl }
listing Others _ x = inl refl
listing (Names n) _ x = inl refl

-- in the parts of a sequence
before_back : (x : Tree) (g h : Gram) (r : List Token) → Derives x g r → (not (leads h) || shut g) ≡ true
    → Before (flat x) (leads h) (leads g || (not (solid g) && leads h))
before_back x g h r d e = record {
  shuts = λ i. is_shut x g r d (go (leads h) (shut g) i e);
  some = λ i. some (solid g) refl (neither (leads g) (not (solid g) && leads h) i).1;
}
  where
    go : (a b : Bool) → a ≡ true → (not a || b) ≡ true → b ≡ true
    go true b i e = e
    go false b i e = cc i

    some : (b : Bool) → solid g ≡ b → (not b && leads h) ≡ false
        → (leads h ≡ false) ⊎ (is_none (flat x) ≡ false)
    some true i e = inr (is_solid x g r d i)
    some false i e = inl e

name_or : (b : Bool) (x : Tree) (g : Gram) (l : Lister) (n : ℕ)
    → (safe g ≡ true → AllClear (flat x) n (leads g) (names_behind l n x)) → (b || safe g) ≡ true
    → AllClear (flat x) n (b || leads g) (cond b (named l n x) (names_behind l n x))
name_or true x g l n f e = named_clear l n x
name_or false x g l n f e = f e

none_or : (x : Tree) (l : Lister) (n : ℕ) (k : Kind)
    → (safe (table k) ≡ true → AllClear (flat x) n (leads (table k)) (names_behind (lister l k x) n x))
    → (lister l k x ≡ Nothing) ⊎ Safe k → AllClear (flat x) n false (names_behind (lister l k x) n x)
none_or x l n k f (inl e) =
    subst (λ ms. AllClear (flat x) n false ms) (sym (ap (λ i. names_behind i n x) e ∙ names_none n x)) tt
none_or x l n k f (inr s) =
    subst (λ b. AllClear (flat x) n b (names_behind (lister l k x) n x)) s.later (f s.safe)

clear_in : (x : Tree) (g : Gram) (l : Lister) (n : ℕ) (r : List Token) → Derives x g r → safe g ≡ true
    → AllClear (flat x) n (leads g) (names_behind l n x)
clear_in (Called m x) (called k g) l n r d s =
    subst (λ i. AllClear (flat x) n (same_part i the_name || leads g)
    (cond (same_part m the_name) (named l n x) (names_behind l n x))) d.0
    (name_or (same_part m the_name) x g l n (λ e. clear_in x g l n r d.1 e)
    (subst (λ i. (same_part i the_name || safe g) ≡ true) (sym d.0) s))
clear_in (Node k x) (ref j) l n r d s =
    none_or x l n k (λ f. clear_in x (table k) (lister l k x) n r d.1 f) (listing l k x)
clear_in (Pair x y) (seq g h) l n r d s =
    let a = both (safe g) (safe h && (not (leads h) || shut g)) s in
    let b = both (safe h) (not (leads h) || shut g) a.1 in
    all_both (flat x ++ flat y) n (leads g || (not (solid g) && leads h)) (names_behind l n x)
    (names_behind l (n + length (flat x)) y)
    (all_front (flat x) (flat y) n (leads g) (leads g || (not (solid g) && leads h)) (names_behind l n x)
    (λ i. (neither (leads g) (not (solid g) && leads h) i).0) (clear_in x g l n (flat y ++ r) d.0 a.0))
    (all_behind (flat x) (flat y) n (leads h) (leads g || (not (solid g) && leads h))
    (names_behind l (n + length (flat x)) y) (before_back x g h (flat y ++ r) d.0 b.1)
    (clear_in y h l (n + length (flat x)) r d.1 b.0))
clear_in (First x) (alt t g h) l n r d s =
    all_weaker (flat x) n (leads g) (leads g || leads h) (names_behind l n x) (λ i. (neither (leads g) (leads h) i).0)
    (clear_in x g l n r d.1 (both (safe g) (safe h) s).0)
clear_in (Second x) (alt t g h) l n r d s =
    all_weaker (flat x) n (leads h) (leads g || leads h) (names_behind l n x) (λ i. (neither (leads g) (leads h) i).1)
    (clear_in x h l n r d.1 (both (safe g) (safe h) s).1)
clear_in (First x) (judged v g) l n r d s = clear_in x g l n r d.1 s
clear_in (Again x y) (star t g) l n r d s =
    let a = both (safe g) (not (leads g)) s in
    let e = not_so (leads g) a.1 in
    all_both (flat x ++ flat y) n (leads g) (names_behind l n x) (names_behind l (n + length (flat x)) y)
    (all_front (flat x) (flat y) n (leads g) (leads g) (names_behind l n x) (λ i. i)
    (clear_in x g l n (flat y ++ r) d.1 a.0))
    (all_behind (flat x) (flat y) n (leads g) (leads g) (names_behind l (n + length (flat x)) y)
    record { shuts = λ i. absurd (true≢false (sym i ∙ e)); some = λ i. inl i }
    (clear_in y (star t g) l (n + length (flat x)) r d.2 s))
clear_in (Group o x) (group c g) l n r d s =
    let a = both (safe g) (not (leads g)) s in
    let e = not_so (leads g) a.1 in
    all_front (Opens o ∷ flat x) (Closes o ∷ []) n false false (names_behind l (n + 1) x) (λ i. i)
    (all_behind (Opens o ∷ []) (flat x) n (leads g) false (names_behind l (n + 1) x)
    record { shuts = λ i. absurd (true≢false (sym i ∙ e)); some = λ i. inl e }
    (clear_in x g l (n + 1) [] d.1 a.0))
clear_in (AWord cs) g l n r d s = tt
clear_in (ALiteral cs) g l n r d s = tt
clear_in (AMark c cs spacing) g l n r d s = tt
clear_in (ALifetime cs) g l n r d s = tt
clear_in (Raw ts) g l n r d s = tt
clear_in Nil g l n r d s = tt
clear_in End g l n r d s = tt
clear_in (Final x) g l n r d s = tt
clear_in (More x c spacing y) g l n r d s = tt
clear_in (Dropped x) g l n r d s = tt
clear_in (Verbatim x) g l n r d s = tt
clear_in (Whole x) g l n r d s = tt
clear_in _ _ l n r d s = absurd d

pub all_clear : (x : Tree) (r : List Token) → Derives x (ref AFile) r → AllClear (flat x) 0 false (names x)
all_clear x r d = clear_in x (ref AFile) Others 0 r d refl
