-- What stands first of a tree stays first, but for the spacing of a mark: of items, and of the own parts of
-- expressions.
use Rattle.std.proofs.Common.{◌≡◌, ℕ, List, [], ◌∷◌, ◌++◌, refl, sym, ap, ◌∙◌, subst, append_assoc}
use Rattle.std.specs.Prelude.{Bool, true, false, ◌&&◌, ◌||◌, not, cond}
use Rattle.std.proofs.lemmas.Bool.{false≢true}
use Rattle.proc_macro2.specs.Token.{Token, Opens, Closes, Ident, Literal, Punct}
use Rattle.rust_leaf.specs.declared.punct.Spacing.{Spacing}
use Rattle.rust_leaf.specs.declared.punct.Spacing.TheVariants.{Alone as Apart}
use Rattle.syn_grammar.specs.Kind.{Kind, Position, Plain, InFile, InForeign, InTrait, InImpl}
use Rattle.syn_grammar.specs.Kind.{Path, Segments, QualifiedPath, AnyPath, AMacro, DynType, ImplType}
use Rattle.syn_grammar.specs.Kind.{BoundLifetimes, Abi, OuterAttributes, OuterAttribute, Meta, Member, Index, Generics}
use Rattle.syn_grammar.specs.Kind.{GenericParams, LifetimeColon, BoundsColon, ConstParam, Where, Arguments, AnArgument}
use Rattle.syn_grammar.specs.Kind.{ExprLit, ExprPath, ExprMacro, ExprParen, ExprArray, ExprRepeat, ExprGroup, ExprInfer}
use Rattle.syn_grammar.specs.Kind.{ExprBlock, ExprUnsafe, ExprAsync, ExprConst, ExprTryBlock, ExprIf, ExprMatch}
use Rattle.syn_grammar.specs.Kind.{ExprLoop, ExprWhile, ExprForLoop, ExprContinue, ExprTypedClosure, ExprAttributed}
use Rattle.syn_grammar.specs.Kind.{ExprUnary, ExprRawAddr, ExprReference, ExprLet, ExprBreak, ExprReturn, ExprYield}
use Rattle.syn_grammar.specs.Kind.{ExprClosure, ExprRange, ExprRangeClosed, Arm, Label, Block, Body, Visibility}
use Rattle.syn_grammar.specs.Kind.{AStruct, AnEnum, AUnion, AStatic, AConst, AnExternCrate, AForeignModule, AUse}
use Rattle.syn_grammar.specs.Kind.{AModule}
use Rattle.syn_grammar.specs.Kind.{ATrait, AConstTrait, ARestrictedTrait, AnImpl, AMacroDefinition, Parameter}
use Rattle.syn_grammar.specs.Kind.{Signature}
use Rattle.syn_grammar.specs.Kind.{AFunction, ATypeAlias, ItemMacro, AnItem, AForeignItem, ATraitItem, AnImplItem}
use Rattle.syn_grammar.specs.Kind.{AStatement, ALet}
use Rattle.syn_grammar.specs.Name.{Part, same_part, the_generics, the_value}
use Rattle.syn_grammar.specs.Tree.{Tree, AWord, ALiteral, AMark, ALifetime, Raw, Nil, Pair, First, Second, End, Again}
use Rattle.syn_grammar.specs.Tree.{Final, More, Group, Dropped, Called, Verbatim, Node, Whole, marks, flat}
use Rattle.syn_grammar.specs.Part.{changed}
use Rattle.syn_grammar.specs.Gram.{Gram, word, literal, mark, lifetime, raw, nothing, never, seq, alt, star, many}
use Rattle.syn_grammar.specs.Gram.{group}
use Rattle.syn_grammar.specs.Gram.{judged, dropped, called, ref, operand, AsRaw}
use Rattle.syn_grammar.specs.Types.{kept_if}
use Rattle.syn_grammar.specs.Table.{table}
use Rattle.syn_grammar.specs.Derives.{Derives}
use Rattle.syn_grammar.specs.Kept.{held, forget, kept}
use Rattle.syn_grammar.specs.Tidy.{moved, keeps_generics, without_generics, tidy}
use Rattle.syn_grammar.specs.Normal.{place_of, passed, apart, apart_raw, apart_alternative, apart_item, apart_if}
use Rattle.syn_grammar.specs.Normal.{is_enclosed, normal_in}
use Rattle.syn_grammar.proofs.Whole.{and_true}
use Rattle.laws_items.specs.Begins.{first_of}

-- kinds that take a token, and whose first stays what it was
abbrev pub strong : Kind → Bool
strong (Path s) = true
strong (Segments s) = true
strong (QualifiedPath s) = true
strong (AnyPath s) = true
strong AMacro = true
strong BoundLifetimes = true
strong Abi = true
strong OuterAttribute = true
strong ExprLit = true
strong ExprPath = true
strong ExprMacro = true
strong ExprParen = true
strong ExprArray = true
strong ExprRepeat = true
strong ExprGroup = true
strong ExprInfer = true
strong ExprBlock = true
strong ExprUnsafe = true
strong ExprAsync = true
strong ExprConst = true
strong ExprTryBlock = true
strong ExprIf = true
strong ExprMatch = true
strong ExprLoop = true
strong ExprWhile = true
strong ExprForLoop = true
strong ExprContinue = true
strong ExprTypedClosure = true
strong ExprAttributed = true
strong ExprUnary = true
strong ExprRawAddr = true
strong ExprReference = true
strong ExprLet = true
strong ExprBreak = true
strong ExprReturn = true
strong ExprYield = true
strong ExprClosure = true
strong ExprRange = true
strong ExprRangeClosed = true
strong Label = true
strong Block = true
strong Body = true
strong AStruct = true
strong AnEnum = true
strong AUnion = true
strong AStatic = true
strong AConst = true
strong AnExternCrate = true
strong AForeignModule = true
strong AUse = true
strong AModule = true
strong ATrait = true
strong AConstTrait = true
strong ARestrictedTrait = true
strong AMacroDefinition = true
strong (Signature p) = true
strong (AFunction p) = true
strong (ItemMacro p) = true
strong AnItem = true
strong AForeignItem = true
strong ATraitItem = true
strong AnImplItem = true
strong ALet = true
strong _ = false

-- kinds that begin with a word, whose parts behind it normal form moves
abbrev pub worded : Kind → Bool
worded (ATypeAlias p) = true
worded AnImpl = true
worded _ = false

-- kinds that may take no token, and whose first stays what it was
abbrev pub weak : Kind → Bool
weak OuterAttributes = true
weak Visibility = true
weak _ = false

-- What an entry reads begins as it did; where wanted, it takes a token.
abbrev pub lead : Bool → Gram → Bool
lead b (word p) = true
lead b (literal p) = true
lead b (mark c cs) = true
lead b lifetime = true
lead b nothing = not b
lead b never = true
lead b (seq g h) = lead true g || (lead false g && lead b h)
lead b (alt t g h) = lead b g && lead b h
lead b (star t g) = not b && lead false g
lead b (group d g) = true
lead b (judged v g) = lead b g
lead b (called n g) = lead b g
lead b (ref k) = (strong k || worded k) || (not b && weak k)
lead b _ = false

pub strong_lead : (k : Kind) → strong k ≡ true → lead true (table k) ≡ true
unfolding table
strong_lead (Path s) e = refl
strong_lead (Segments s) e = refl
strong_lead (QualifiedPath s) e = refl
strong_lead (AnyPath s) e = refl
strong_lead AMacro e = refl
strong_lead BoundLifetimes e = refl
strong_lead Abi e = refl
strong_lead OuterAttribute e = refl
strong_lead ExprLit e = refl
strong_lead ExprPath e = refl
strong_lead ExprMacro e = refl
strong_lead ExprParen e = refl
strong_lead ExprArray e = refl
strong_lead ExprRepeat e = refl
strong_lead ExprGroup e = refl
strong_lead ExprInfer e = refl
strong_lead ExprBlock e = refl
strong_lead ExprUnsafe e = refl
strong_lead ExprAsync e = refl
strong_lead ExprConst e = refl
strong_lead ExprTryBlock e = refl
strong_lead ExprIf e = refl
strong_lead ExprMatch e = refl
strong_lead ExprLoop e = refl
strong_lead ExprWhile e = refl
strong_lead ExprForLoop e = refl
strong_lead ExprContinue e = refl
strong_lead ExprTypedClosure e = refl
strong_lead ExprAttributed e = refl
strong_lead ExprUnary e = refl
strong_lead ExprRawAddr e = refl
strong_lead ExprReference e = refl
strong_lead ExprLet e = refl
strong_lead ExprBreak e = refl
strong_lead ExprReturn e = refl
strong_lead ExprYield e = refl
strong_lead ExprClosure e = refl
strong_lead ExprRange e = refl
strong_lead ExprRangeClosed e = refl
strong_lead Label e = refl
strong_lead Block e = refl
strong_lead Body e = refl
strong_lead AStruct e = refl
strong_lead AnEnum e = refl
strong_lead AUnion e = refl
strong_lead AStatic e = refl
strong_lead AConst e = refl
strong_lead AnExternCrate e = refl
strong_lead AForeignModule e = refl
strong_lead AUse e = refl
strong_lead AModule e = refl
strong_lead ATrait e = refl
strong_lead AConstTrait e = refl
strong_lead ARestrictedTrait e = refl
strong_lead AMacroDefinition e = refl
strong_lead (Signature InFile) e = refl
strong_lead (Signature InForeign) e = refl
strong_lead (Signature InTrait) e = refl
strong_lead (Signature InImpl) e = refl
strong_lead (AFunction p) e = refl
strong_lead (ItemMacro p) e = refl
strong_lead AnItem e = refl
strong_lead AForeignItem e = refl
strong_lead ATraitItem e = refl
strong_lead AnImplItem e = refl
strong_lead ALet e = refl
strong_lead _ e = absurd (false≢true e)

weak_lead : (k : Kind) → weak k ≡ true → lead false (table k) ≡ true
unfolding table
weak_lead OuterAttributes e = refl
weak_lead Visibility e = refl
weak_lead _ e = absurd (false≢true e)

-- of these kinds all is kept, and normal form changes no part of their own
stays_kept : (k : Kind) (x : Tree) → strong k || weak k ≡ true → forget k x ≡ x
stays_kept Parameter x e = absurd (false≢true e)
stays_kept (DynType p) x e = absurd (false≢true e)
stays_kept (ImplType p) x e = absurd (false≢true e)
stays_kept Meta x e = absurd (false≢true e)
stays_kept AStatement x e = absurd (false≢true e)
stays_kept Member x e = absurd (false≢true e)
stays_kept Index x e = absurd (false≢true e)
stays_kept AnArgument x e = absurd (false≢true e)
stays_kept ConstParam x e = absurd (false≢true e)
stays_kept Arm x e = absurd (false≢true e)
stays_kept _ x e = refl

stays_tidy : (k : Kind) (x : Tree) → strong k || weak k ≡ true → tidy (held k) x ≡ x
unfolding held
stays_tidy Where x e = absurd (false≢true e)
stays_tidy Generics x e = absurd (false≢true e)
stays_tidy BoundsColon x e = absurd (false≢true e)
stays_tidy LifetimeColon x e = absurd (false≢true e)
stays_tidy GenericParams x e = absurd (false≢true e)
stays_tidy Arguments x e = absurd (false≢true e)
stays_tidy (ATypeAlias p) x e = absurd (false≢true e)
stays_tidy AnImpl x e = absurd (false≢true e)
stays_tidy _ x e = refl

-- the first of a tree's tokens, before some others, is that of what is kept of it, and of its normal form
abbrev pub Same : List Token → Tree → List Token → Type 0
Same us x v =
    (first_of us ≡ first_of (flat (kept x) ++ v))
    × ((q : Position) → first_of us ≡ first_of (flat (normal_in q (kept x)) ++ v))

abbrev pub Leads : Tree → Gram → Type 0
Leads x g = (b : Bool) → lead b g ≡ true → (u v : List Token) → (b ≡ false → first_of u ≡ first_of v)
    → Same (flat x ++ u) x v

first_mark : (c : ℕ) (cs : List ℕ) (spacing : Spacing) (u v : List Token)
    → first_of (marks c cs spacing ++ u) ≡ first_of (marks c cs Apart ++ v)
first_mark c [] spacing u v = refl
first_mark c (d ∷ ds) spacing u v = refl

pub not_true : (b : Bool) → not b ≡ true → b ≡ false
not_true true e = cc
not_true false e = refl

either_true : (a b : Bool) → a || b ≡ true → (a ≡ true → b ≡ true) → b ≡ true
either_true true b e f = f refl
either_true false b e f = e

-- a mark that is set apart stands first as it did
pub first_apart : (ts v : List Token) → first_of (apart ts ++ v) ≡ first_of (ts ++ v)
first_apart [] v = refl
first_apart (Punct c spacing ∷ []) v = refl
first_apart (Punct c spacing ∷ t ∷ ts) v = refl
first_apart (Opens d ∷ ts) v = refl
first_apart (Closes d ∷ ts) v = refl
first_apart (Ident cs ∷ ts) v = refl
first_apart (Literal cs ∷ ts) v = refl

first_raw : (x : Tree) (v : List Token) → first_of (flat (apart_raw x) ++ v) ≡ first_of (flat x ++ v)
first_raw (Node AnItem (Raw ts)) v = first_apart ts v
first_raw x v = refl

first_alternative : (x : Tree) (v : List Token)
    → first_of (flat (apart_alternative x) ++ v) ≡ first_of (flat x ++ v)
first_alternative (First x) v = first_raw x v
first_alternative (Second x) v = first_alternative x v
first_alternative x v = refl

first_item : (x : Tree) (v : List Token) → first_of (flat (apart_item x) ++ v) ≡ first_of (flat x ++ v)
first_item (Second (Node AStatement x)) v = first_alternative x v
first_item x v = refl

pub first_turn : (b : Bool) (x : Tree) (v : List Token) → first_of (flat (apart_if b x) ++ v) ≡ first_of (flat x ++ v)
first_turn true x v = first_item x v
first_turn false x v = refl

-- no token, and then what follows
none_first : (b : Bool) (u v : List Token) → not b ≡ true → (b ≡ false → first_of u ≡ first_of v)
    → first_of u ≡ first_of v
none_first b u v l f = f (not_true b l)

both_first : (xs ys us zs ws vs : List Token) → first_of (xs ++ (ys ++ us)) ≡ first_of (zs ++ (ws ++ vs))
    → first_of ((xs ++ ys) ++ us) ≡ first_of ((zs ++ ws) ++ vs)
both_first xs ys us zs ws vs e =
    ap first_of (append_assoc xs ys us) ∙ e ∙ ap first_of (sym (append_assoc zs ws vs))

pair_leads : (x y : Tree) (g h : Gram) → Leads x g → Leads y h → Leads (Pair x y) (seq g h)
pair_leads x y g h a c b l u v f = go (lead true g) refl l
  where
    go : (i : Bool) → lead true g ≡ i → i || (lead false g && lead b h) ≡ true
        → Same (flat (Pair x y) ++ u) (Pair x y) v
    go true e m = (
      both_first (flat x) (flat y) u (flat (kept x)) (flat (kept y)) v
          (a true e (flat y ++ u) (flat (kept y) ++ v) (λ i. cc)).0,
      λ q. both_first (flat x) (flat y) u (flat (normal_in q (kept x))) (flat (normal_in q (kept y))) v
          ((a true e (flat y ++ u) (flat (normal_in q (kept y)) ++ v) (λ i. cc)).1 q),
    )
    go false e m =
        let n = and_true (lead false g) (lead b h) m in
        let o = c b n.1 u v f in (
          both_first (flat x) (flat y) u (flat (kept x)) (flat (kept y)) v
              (a false n.0 (flat y ++ u) (flat (kept y) ++ v) (λ i. o.0)).0,
          λ q. both_first (flat x) (flat y) u (flat (normal_in q (kept x))) (flat (normal_in q (kept y))) v
              ((a false n.0 (flat y ++ u) (flat (normal_in q (kept y)) ++ v) (λ i. o.1 q)).1 q),
        )

again_leads : (x y : Tree) (t : List Token → Bool) (g : Gram) → Leads x g → Leads y (star t g)
    → Leads (Again x y) (star t g)
again_leads x y t g a c b l u v f =
    let n = and_true (not b) (lead false g) l in
    let o = c b l u v f in (
      both_first (flat x) (flat y) u (flat (kept x)) (flat (kept y)) v
          (a false n.1 (flat y ++ u) (flat (kept y) ++ v) (λ i. o.0)).0,
      λ q.
          let z : Tree = normal_in q (kept x) in
          let e : Bool = is_enclosed (kept y) (normal_in q (kept y)) in
          let w : List Token = flat (normal_in q (kept y)) ++ v in
          both_first (flat x) (flat y) u (flat (apart_if e z)) (flat (normal_in q (kept y))) v
          ((a false n.1 (flat y ++ u) w (λ i. o.1 q)).1 q ∙ sym (first_turn e z w)),
    )

-- what was read as raw begins as it did
raw_leads : (x : Tree) (g : Gram) → Leads x g → (b : Bool) → lead b g ≡ true → (u v : List Token)
    → (b ≡ false → first_of u ≡ first_of v) → first_of (flat x ++ u) ≡ first_of (flat x ++ v)
raw_leads x g a b l u v f = (a b l u v f).0 ∙ sym (a b l v v (λ i. refl)).0

-- kinds that begin with a word
abbrev AsChanged : Part → (Tree → Tree) → Tree → Type 0
AsChanged n f x = (u v : List Token) → first_of (flat x ++ u)
    ≡ first_of (flat (changed n f (normal_in Plain (kept x))) ++ v)

abbrev AsNormal : Tree → Type 0
AsNormal x = (u v : List Token) → first_of (flat x ++ u) ≡ first_of (flat (normal_in Plain (kept x)) ++ v)

abbrev AsKept : Tree → Type 0
AsKept x = (u v : List Token) → first_of (flat x ++ u) ≡ first_of (flat (kept x) ++ v)

abbrev Worded : Part → (Tree → Tree) → Tree → Type 0
Worded n f x = AsKept x × AsNormal x × AsChanged n f x

worded_pair : (n : Part) (f : Tree → Tree) (x y : Tree) (p : List ℕ → Bool) (r : List Token) → Derives x (word p) r
    → Worded n f (Pair x y)
worded_pair n f (AWord cs) y p r d = (λ u v. refl, λ u v. refl, λ u v. refl)
worded_pair n f _ y p r d = absurd d

-- a word that may be missing, and one behind it
worded_optional : (n : Part) (f : Tree → Tree) → ((cs : List ℕ) → f (AWord cs) ≡ AWord cs) → (x y : Tree) (m : Part)
    (t : List Token → Bool) (p : List ℕ → Bool) (r : List Token) → Derives x (alt t (called m (word p)) nothing) r
    → Worded n f y → Worded n f (Pair x y)
worded_optional n f e (First (Called l (AWord cs))) y m t p r d h = (
  λ u v. refl,
  λ u v. refl,
  λ u v. go (same_part l n) (f (AWord cs)) (e cs) v,
)
  where
    go : (b : Bool) (x : Tree) → x ≡ AWord cs → (v : List Token)
        → Ident cs ∷ [] ≡ first_of ((flat (cond b x (AWord cs)) ++ flat (changed n f (normal_in Plain (kept y)))) ++ v)
    go true x i v =
        subst (λ z. Ident cs ∷ [] ≡ first_of ((flat z ++ flat (changed n f (normal_in Plain (kept y)))) ++ v))
        (sym i) refl
    go false x i v = refl
worded_optional n f e (Second Nil) y m t p r d h = h
worded_optional n f e (First (Called l _)) y m t p r d h = absurd d.1.1
worded_optional n f e (First _) y m t p r d h = absurd d.1
worded_optional n f e (Second _) y m t p r d h = absurd d.1
worded_optional n f e _ y m t p r d h = absurd d

module _ (n : Part) (f : Tree → Tree) (e : (cs : List ℕ) → f (AWord cs) ≡ AWord cs) where
  word_then : (x : Tree) (p : List ℕ → Bool) (h : Gram) (r : List Token) → Derives x (seq (word p) h) r → Worded n f x
  word_then (Pair x y) p h r d = worded_pair n f x y p (flat y ++ r) d.0
  word_then _ p h r d = absurd d

  maybe_then : (x : Tree) (m : Part) (t : List Token → Bool) (p : List ℕ → Bool) (h : Gram) (r : List Token)
      → Derives x (seq (alt t (called m (word p)) nothing) h) r → ((y : Tree) → Derives y h r → Worded n f y)
      → Worded n f x
  maybe_then (Pair x y) m t p h r d k = worded_optional n f e x y m t p (flat y ++ r) d.0 (k y d.1)
  maybe_then _ m t p h r d k = absurd d

abbrev NodeSame : Kind → Tree → Type 0
NodeSame k x = (u v : List Token) → Same (flat x ++ u) (Node k x) v

cond_first : (b : Bool) (x y : Tree) (us v : List Token) → first_of us ≡ first_of (flat x ++ v)
    → first_of us ≡ first_of (flat y ++ v) → first_of us ≡ first_of (flat (cond b x y) ++ v)
cond_first true x y us v e f = e
cond_first false x y us v e f = f

pub kept_or_refused : (b : Bool) → kept_if b ≡ AsRaw → ⊥
kept_or_refused true e = cc
kept_or_refused false e = cc

worded_node : (k : Kind) (x : Tree) (r : List Token) → worded k ≡ true → Derives x (table k) r → NodeSame k x
unfolding table held passed
worded_node (ATypeAlias p) x r e d =
    let h = word_then the_value moved (λ cs. refl) x _ _ r d in
    λ u v. (h.0 u v, λ q. h.2 u v)
worded_node AnImpl (First x) r e d =
    let h = maybe_then the_generics without_generics (λ cs. refl) x _ _ _ _ r d.1
    (λ y i. maybe_then the_generics without_generics (λ cs. refl) y _ _ _ _ r i
    (λ z j. maybe_then the_generics without_generics (λ cs. refl) z _ _ _ _ r j
    (λ w m. word_then the_generics without_generics (λ cs. refl) w _ _ r m))) in
    λ u v. (
      h.0 u v,
      λ q. cond_first (keeps_generics (First (normal_in Plain (kept x)))) (First (normal_in Plain (kept x)))
          (First (changed the_generics without_generics (normal_in Plain (kept x)))) (flat x ++ u) v (h.1 u v)
          (h.2 u v),
    )
worded_node AnImpl (Verbatim x) r e d = absurd (kept_or_refused _ d.0)
worded_node AnImpl _ r e d = absurd d
worded_node _ x r e d = absurd (false≢true e)

stay_node : (k : Kind) (x : Tree) → strong k || weak k ≡ true → (us v : List Token) → Same us x v
    → Same us (Node k x) v
stay_node k x e us v s = (
  s.0 ∙ ap (λ z. first_of (flat z ++ v)) (sym (stays_kept k (kept x) e)),
  λ q. s.1 (passed (held k) q)
      ∙ ap (λ z. first_of (flat z ++ v)) (sym (stays_tidy k (normal_in (passed (held k) q) (kept x)) e))
      ∙ ap (λ z. first_of (flat (tidy (held k) (normal_in (passed (held k) q) z)) ++ v))
      (sym (stays_kept k (kept x) e)),
)

node_leads : (k : Kind) (x : Tree) (r : List Token) → Derives x (table k) r → Leads x (table k)
    → Leads (Node k x) (ref k)
node_leads k x r d h b l u v f = go (strong k) (worded k) refl refl l
  where
    go : (i j : Bool) → strong k ≡ i → worded k ≡ j → (i || j) || (not b && weak k) ≡ true
        → Same (flat x ++ u) (Node k x) v
    go true j e w m = stay_node k x (ap (λ c. c || weak k) e) (flat x ++ u) v
        (h true (strong_lead k e) u v (λ i. absurd (false≢true (sym i))))
    go false true e w m = worded_node k x r w d u v
    go false false e w m =
        let n = and_true (not b) (weak k) m in
        stay_node k x (ap (λ c. c || weak k) e ∙ n.1) (flat x ++ u) v (h false (weak_lead k n.1) u v
        (λ i. f (not_true b n.0)))

pub leads : (x : Tree) (g : Gram) (r : List Token) → Derives x g r → Leads x g
leads (AWord cs) (word p) r d b l u v f = (refl, λ q. refl)
leads (ALiteral cs) (literal p) r d b l u v f = (refl, λ q. refl)
leads (AMark c cs spacing) (mark n ns) r d b l u v f =
    (first_mark c cs spacing u v, λ q. first_mark c cs spacing u v)
leads (ALifetime cs) lifetime r d b l u v f = (refl, λ q. refl)
leads (Raw ts) raw r d b l u v f = absurd (false≢true l)
leads Nil nothing r d b l u v f = (none_first b u v l f, λ q. none_first b u v l f)
leads (Pair x y) (seq g h) r d b l u v f =
    pair_leads x y g h (leads x g (flat y ++ r) d.0) (leads y h r d.1) b l u v f
leads (First x) (alt t g h) r d b l u v f = leads x g r d.1 b (and_true (lead b g) (lead b h) l).0 u v f
leads (Second x) (alt t g h) r d b l u v f = leads x h r d.1 b (and_true (lead b g) (lead b h) l).1 u v f
leads End (star t g) r d b l u v f =
    let n = and_true (not b) (lead false g) l in
    (none_first b u v n.0 f, λ q. none_first b u v n.0 f)
leads (Again x y) (star t g) r d b l u v f =
    again_leads x y t g (leads x g (flat y ++ r) d.1) (leads y (star t g) r d.2) b l u v f
leads (Group e x) (group o g) r d b l u v f = (refl, λ q. refl)
leads (First x) (judged w g) r d b l u v f = leads x g r d.1 b l u v f
leads (Verbatim x) (judged w g) r d b l u v f =
    let h = raw_leads x g (leads x g r d.1) b l u v f in
    (h, λ q. h)
leads (Called n x) (called m g) r d b l u v f =
    let h = leads x g r d.1 b l u v f in
    (h.0, λ q. h.1 (place_of n))
leads (Node k x) (ref j) r d b l u v f =
    subst (λ i. Leads (Node k x) (ref i)) d.0 (node_leads k x r d.1 (leads x (table k) r d.1)) b l u v f
leads End (many e c g) r d b l u v f = absurd (false≢true l)
leads (Final x) (many e c g) r d b l u v f = absurd (false≢true l)
leads (More x m spacing y) (many e c g) r d b l u v f = absurd (false≢true l)
leads (Dropped x) (dropped g) r d b l u v f = absurd (false≢true l)
leads (Whole x) (operand p n) r d b l u v f = absurd (false≢true l)
leads _ _ r d b l u v f = absurd d
