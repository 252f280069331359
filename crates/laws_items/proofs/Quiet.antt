-- What is kept of a derived tree is quiet: each raw item stands in a row, and may stand before what follows it there.
-- So its normal form is well spaced.
use Rattle.std.proofs.Common.{◌≡◌, List, [], ◌∷◌, ◌++◌, refl, sym, ap, ◌∙◌, subst, append_assoc, inl, inr}
use Rattle.std.specs.Prelude.{◌⊎◌, Bool, true, false, ◌&&◌, not, ◌==◌, cond, Some, None}
use Rattle.std.proofs.lemmas.List.{append-nil}
use Rattle.proc_macro2.specs.Token.{Token, Opens, Closes, Ident, Literal, Punct}
use Rattle.proc_macro2.specs.declared.delimiter.Delimiter.TheVariants.{Parenthesis}
use Rattle.proc_macro2.specs.Groups.{same_delimiter}
use Rattle.proc_macro2.specs.Spacing.{quote, IsWellSpaced}
use Rattle.syn_grammar.specs.Kind.{Kind, Position, Plain, AnItem, AForeignItem, ATraitItem, AnImplItem, Items}
use Rattle.syn_grammar.specs.Kind.{ForeignItems, TraitItems, ImplItems, Statements, AStatement, OneStatement}
use Rattle.syn_grammar.specs.Tree.{Tree, AWord, ALiteral, AMark, ALifetime, Raw, Nil, Pair, First, Second, End, Again}
use Rattle.syn_grammar.specs.Tree.{Final, More, Group, Dropped, Called, Verbatim, Node, Whole, Alone, Front, Back}
use Rattle.syn_grammar.specs.Tree.{Infix, flat}
use Rattle.syn_grammar.specs.Gram.{Gram, Verdict, Keep, AsRaw, word, literal, mark, lifetime, raw, nothing, seq, alt}
use Rattle.syn_grammar.specs.Gram.{star, many, group, judged, dropped, called, ref, operand}
use Rattle.syn_grammar.specs.Look.{lacks, the_end, seen, sees}
use Rattle.syn_grammar.specs.Say.{when◌read◌else◌, marks, sign, parenthesis}
use Rattle.syn_grammar.specs.Statements.{statement}
use Rattle.syn_grammar.specs.Table.{table}
use Rattle.syn_grammar.specs.Forms.{inside, fronts, front, backs, back}
use Rattle.syn_grammar.specs.Derives.{Derives, Bound}
use Rattle.syn_grammar.specs.Calm.{calm_marks, calm_entry, MayPrecede}
use Rattle.syn_grammar.specs.Kept.{as_statement, dotted, held, forget, kept}
use Rattle.syn_grammar.specs.Tidy.{tidy}
use Rattle.syn_grammar.specs.Normal.{apart, apart_if, is_enclosed, passed, normal_in, normal}
use Rattle.syn_grammar.proofs.Whole.{and_true}
use Rattle.syn_grammar.proofs.Marks.{all_calm}
use Rattle.syn_grammar.proofs.Every.{AnyText, is_item, is_row, in_node, every_forget, every_dotted, every_normal}
use Rattle.syn_grammar.proofs.Spaced.{loose, cut, spaced_behind, Printed, CalmMark, apart_same}
use Rattle.laws_items.specs.Begins.{first_of, is_element}
use Rattle.laws_items.proofs.Fronts.{not_true, first_turn, kept_or_refused, lead, leads}
use Rattle.laws_items.proofs.Statements.{Starts, TurnStarts, same_turn, turn_starts, node_case, first_passes}
use Rattle.laws_items.proofs.Spacing.{alike, unquoted, apart_precedes, Loose, LooseTurn, StandingTurn, Quiet}
use Rattle.laws_items.proofs.Spacing.{QuietTurns, Still, precedes, unenclosed}
use Rattle.laws_items.proofs.Tame.{Tame, tame, all_tame}
use Rattle.laws_items.proofs.Ends.{unquoted_tree}

never : {A : Type 0} → false ≡ true → A
never e = let f : ⊥ = cc e in absurd f

-- items, each by its place
abbrev is_member : Kind → Bool
is_member AnItem = true
is_member AForeignItem = true
is_member ATraitItem = true
is_member AnImplItem = true
is_member _ = false

member_lead : (j : Kind) → is_member j ≡ true → lead true (ref j) ≡ true
member_lead AnItem e = refl
member_lead AForeignItem e = refl
member_lead ATraitItem e = refl
member_lead AnImplItem e = refl
member_lead _ e = never e

member_tidy : (j : Kind) (x : Tree) → is_member j ≡ true → tidy j x ≡ x
member_tidy AnItem x e = refl
member_tidy AForeignItem x e = refl
member_tidy ATraitItem x e = refl
member_tidy AnImplItem x e = refl
member_tidy _ x e = never e

quiet_item : (x : Tree) → Quiet x → Quiet (Node AnItem x)
quiet_item (Raw ts) h = h
quiet_item (Verbatim x) h = h
quiet_item x h = h

quiet_member : (j : Kind) (x : Tree) → is_member j ≡ true → Quiet x → Quiet (Node j x)
quiet_member AnItem x e h = quiet_item x h
quiet_member AForeignItem x e h = h
quiet_member ATraitItem x e h = h
quiet_member AnImplItem x e h = h
quiet_member _ x e h = never e

-- what is judged, and by what
abbrev within : Gram → Gram
within (judged v g) = g
within g = g

abbrev verdict_of : Gram → Tree → Verdict
verdict_of (judged v g) = v
verdict_of g = λ x. Keep

-- of an entry that is judged: quiet, or kept raw
abbrev QuietOrRaw : Tree → Type 0
QuietOrRaw z = Quiet (kept z) ⊎ (kept z ≡ Raw (flat z))

member_quiet : (k : Kind) (z : Tree) → is_member k ≡ true → Quiet (kept z) → Quiet (kept (Node k z))
unfolding held
member_quiet AnItem z i h = quiet_item (kept z) h
member_quiet AForeignItem z i h = h
member_quiet ATraitItem z i h = h
member_quiet AnImplItem z i h = h
member_quiet _ z i h = never i

member_same : (k : Kind) (x : Tree) → is_member k ≡ true → Node (held k) (forget k x) ≡ Node k x
unfolding held
member_same AnItem x i = refl
member_same AForeignItem x i = refl
member_same ATraitItem x i = refl
member_same AnImplItem x i = refl
member_same _ x i = never i

member_kept : (k : Kind) (z : Tree) → is_member k ≡ true → QuietOrRaw z
    → Quiet (kept (Node k z)) ⊎ (kept (Node k z) ≡ Node k (Raw (flat z)))
member_kept k z i (inl h) = inl (member_quiet k z i h)
member_kept k z i (inr e) = inr (member_same k (kept z) i ∙ ap (λ x. Node k x) e)

member_case : (k : Kind) (z : Tree) (r : List Token) → is_member k ≡ true → Derives z (table k) r
    → ((v : Tree → Verdict) (g : Gram) → Tame g → calm_entry g ≡ true → Derives z (judged v g) r → QuietOrRaw z)
    → QuietOrRaw z
unfolding table
member_case AnItem z r i d f =
    f (verdict_of (table AnItem)) (within (table AnItem)) (tame (within (table AnItem)) refl) refl d
member_case AForeignItem z r i d f =
    f (verdict_of (table AForeignItem)) (within (table AForeignItem)) (tame (within (table AForeignItem)) refl) refl d
member_case ATraitItem z r i d f =
    f (verdict_of (table ATraitItem)) (within (table ATraitItem)) (tame (within (table ATraitItem)) refl) refl d
member_case AnImplItem z r i d f =
    f (verdict_of (table AnImplItem)) (within (table AnImplItem)) (tame (within (table AnImplItem)) refl) refl d
member_case _ z r i d f = never i

-- rows of items
abbrev TurnSame : List Token → Tree → Type 0
TurnSame us z =
    ((v : List Token) → first_of us ≡ first_of (flat z ++ v))
    × ((p : Position) (v : List Token) → first_of us ≡ first_of (flat (normal_in p z) ++ v))

again_same : (us : List Token) (a b : Tree) → TurnSame us a → TurnSame us (Again a b)
again_same us a b h = (
  λ v. h.0 (flat b ++ v) ∙ ap first_of (sym (append_assoc (flat a) (flat b) v)),
  λ p v.
      let e : Bool = is_enclosed b (normal_in p b) in
      let w : List Token = flat (normal_in p b) in
      h.1 p (w ++ v) ∙ sym (first_turn e (normal_in p a) (w ++ v))
      ∙ ap first_of (sym (append_assoc (flat (apart_if e (normal_in p a))) w v)),
)

raw_member : (j : Kind) (ts : List Token) (p : Position) (b : Bool) → is_member j ≡ true
    → flat (apart_if b (normal_in p (Node j (Raw ts)))) ≡ ts
raw_member j ts p true i = ap flat (member_tidy j (Raw ts) i)
raw_member j ts p false i = ap flat (member_tidy j (Raw ts) i)

member_loose : (j : Kind) (ts us : List Token) (y : Tree) → is_member j ≡ true → IsWellSpaced (ts ++ us)
    → TurnSame us y → Loose (Node j (Raw ts)) y
member_loose j ts us y i w h = (
  λ s v. alike ts us (flat y ++ s) w (h.0 s) v,
  λ p s v. subst (λ xs. IsWellSpaced (xs ++ (flat (normal_in p y) ++ s)))
      (sym (raw_member j ts p (is_enclosed y (normal_in p y)) i))
      (alike ts us (flat (normal_in p y) ++ s) w (h.1 p s) v),
)

end_of : (r : List Token) → lacks the_end r ≡ false → r ≡ []
end_of [] e = refl
end_of (t ∷ ts) e = cc

last_loose : (ts r : List Token) → lacks the_end r ≡ false → IsWellSpaced (ts ++ r) → MayPrecede ts
last_loose ts r e w = loose ts (subst (λ q. IsWellSpaced (ts ++ q)) (end_of r e) w)

member_turn : (j : Kind) (x y : Tree) (r : List Token) → is_member j ≡ true
    → Derives y (star (lacks the_end) (ref j)) r → IsWellSpaced (flat x ++ (flat y ++ r))
    → Quiet (kept x) ⊎ (kept x ≡ Node j (Raw (flat x))) → LooseTurn (kept x) (kept y) (Quiet (kept x))
member_turn j x y r i d w (inl h) = inl h
member_turn j x End r i d w (inr e) =
    inl (subst Quiet (sym e) (quiet_member j (Raw (flat x)) i (last_loose (flat x) r d w)))
member_turn j x (Again a b) r i d w (inr e) =
    let us : List Token = flat b ++ r in
    let h : TurnSame (flat a ++ us) (kept a) = (
      λ v. (leads a (ref j) us d.1 true (member_lead j i) us v (λ n. cc)).0,
      λ p v. (leads a (ref j) us d.1 true (member_lead j i) us v (λ n. cc)).1 p,
    ) in
    inr (subst (λ z. Loose z (Again (kept a) (kept b))) (sym e)
    (member_loose j (flat x) (flat a ++ us) (Again (kept a) (kept b)) i
    (subst (λ us. IsWellSpaced (flat x ++ us)) (append_assoc (flat a) (flat b) r) w)
    (again_same (flat a ++ us) (kept a) (kept b) h)))
member_turn j x _ r i d w (inr e) = absurd d

-- rows of statements
abbrev turn_entry : Gram
turn_entry = when marks ";" read sign ";" else ref AStatement

abbrev LooseForm : Tree → List Token → Type 0
LooseForm z ts = (z ≡ First (Node AnItem (Raw ts))) ⊎ (z ≡ Second (Second (Second (First (Node AnItem (Raw ts))))))

abbrev LooseStatement : Tree → List Token → Type 0
LooseStatement x ts =
    (x ≡ Second (Node AStatement (First (Node AnItem (Raw ts)))))
    ⊎ (x ≡ Second (Node AStatement (Second (Second (Second (First (Node AnItem (Raw ts))))))))

quiet_forget : (k : Kind) (x : Tree) → Quiet x → Quiet (forget k x)
quiet_forget k x h =
    every_forget true LooseTurn Printed AnyText AnyText CalmMark MayPrecede MayPrecede tt (λ cs. tt) (refl, refl)
    (refl, refl) k x h

quiet_dotted : (l : Tree) (k : Kind) (y : Tree) → Quiet l → Quiet y → Quiet (dotted l k y)
quiet_dotted l k y h i =
    every_dotted true LooseTurn Printed AnyText AnyText CalmMark MayPrecede MayPrecede tt (λ cs. tt) (refl, refl)
    (refl, refl) l k y h i

as_turn : (k : Kind) (z : Tree) → k ≡ AStatement → Quiet (kept z) ⊎ LooseForm (kept z) (flat z)
    → Quiet (kept (Second (Node k z))) ⊎ LooseStatement (kept (Second (Node k z))) (flat z)
unfolding held
as_turn k z e h =
    subst (λ i. Quiet (kept (Second (Node i z))) ⊎ LooseStatement (kept (Second (Node i z))) (flat z)) (sym e) (go h)
  where
    go : Quiet (kept z) ⊎ LooseForm (kept z) (flat z) → Quiet (kept (Second (Node AStatement z)))
        ⊎ LooseStatement (kept (Second (Node AStatement z))) (flat z)
    go (inl h) = inl (quiet_forget AStatement (kept z) h)
    go (inr (inl e)) = inr (inl (ap (λ q. Second (Node AStatement (as_statement q))) e))
    go (inr (inr e)) = inr (inr (ap (λ q. Second (Node AStatement (as_statement q))) e))

abbrev sees_paren : List Token → Bool
sees_paren ts = sees parenthesis ts

sees_first : (ts : List Token) → sees_paren ts ≡ sees_paren (first_of ts)
sees_first [] = refl
sees_first (Opens d ∷ ts) = go (same_delimiter d Parenthesis) ts
  where
    go : (b : Bool) (ts : List Token) → seen (cond b (Some ts) None) ≡ seen (cond b (Some []) None)
    go true ts = refl
    go false ts = refl
sees_first (Closes d ∷ ts) = refl
sees_first (Ident cs ∷ ts) = refl
sees_first (Literal cs ∷ ts) = refl
sees_first (Punct c spacing ∷ ts) = refl

again_starts : (us : List Token) (a b : Tree) → TurnStarts us a → TurnStarts us (Again a b)
again_starts us a b h = (
  λ v. h.0 (flat b ++ v) ∙ ap first_of (sym (append_assoc (flat a) (flat b) v)),
  λ p v.
      let e : Bool = is_enclosed b (normal_in p b) in
      let w : List Token = flat (normal_in p b) in
      subst (Starts us) (sym (append_assoc (flat (apart_if e (normal_in p a))) w v))
      (go (flat (normal_in p a) ++ (w ++ v)) (flat (apart_if e (normal_in p a)) ++ (w ++ v))
      (first_turn e (normal_in p a) (w ++ v)) (h.1 p (w ++ v))),
)
  where
    go : (vs ws : List Token) → first_of ws ≡ first_of vs → Starts us vs → Starts us ws
    go vs ws e (inl i) = inl (i ∙ sym e)
    go vs ws e (inr i) = inr (sees_first ws ∙ ap sees_paren e ∙ sym (sees_first vs) ∙ i)

turn_begins : (x : Tree) (r u : List Token) → Derives x turn_entry r → TurnStarts (flat x ++ u) (kept x)
turn_begins (First x) r u d = same_turn x (sign ";") r u refl d.1
turn_begins (Second x) r u d = turn_starts x r u d.1
turn_begins _ r u d = absurd d

shape_loose : (x : Tree) (ts us : List Token) (y : Tree) → flat x ≡ ts
    → ((p : Position) (b : Bool) → flat (apart_if b (normal_in p x)) ≡ cond b (apart ts) ts) → unquoted ts ≡ true
    → IsWellSpaced (ts ++ us) → TurnStarts us y → Loose x y
shape_loose x ts us y f g q w h = (
  λ s v. subst (λ xs. IsWellSpaced (xs ++ (flat y ++ s))) (sym f) (alike ts us (flat y ++ s) w (h.0 s) v),
  λ p s v.
      subst (λ xs. IsWellSpaced (xs ++ (flat (normal_in p y) ++ s))) (sym (g p (is_enclosed y (normal_in p y))))
      (go p s v (is_enclosed y (normal_in p y)) refl),
)
  where
    go : (p : Position) (s : List Token) → IsWellSpaced (flat (normal_in p y) ++ s) → (b : Bool)
        → is_enclosed y (normal_in p y) ≡ b → IsWellSpaced (cond b (apart ts) ts ++ (flat (normal_in p y) ++ s))
    go p s v true e = apart_precedes ts us q w (flat (normal_in p y) ++ s) v
    go p s v false e = alike ts us (flat (normal_in p y) ++ s) w (unenclosed us y p s h e) v

first_shape : (ts : List Token) (p : Position) (b : Bool)
    → flat (apart_if b (normal_in p (Second (Node AStatement (First (Node AnItem (Raw ts))))))) ≡ cond b (apart ts) ts
first_shape ts p true = refl
first_shape ts p false = refl

fourth_shape : (ts : List Token) (p : Position) (b : Bool)
    → flat (apart_if b (normal_in p
    (Second (Node AStatement (Second (Second (Second (First (Node AnItem (Raw ts)))))))))) ≡ cond b (apart ts) ts
fourth_shape ts p true = refl
fourth_shape ts p false = refl

statement_loose : (x : Tree) (ts us : List Token) (y : Tree) → LooseStatement x ts → unquoted ts ≡ true
    → IsWellSpaced (ts ++ us) → TurnStarts us y → Loose x y
statement_loose x ts us y (inl e) q w h =
    subst (λ z. Loose z y) (sym e) (shape_loose (Second (Node AStatement (First (Node AnItem (Raw ts))))) ts us y
    refl (first_shape ts) q w h)
statement_loose x ts us y (inr e) q w h =
    subst (λ z. Loose z y) (sym e) (shape_loose (Second (Node AStatement (Second (Second
    (Second (First (Node AnItem (Raw ts)))))))) ts us y refl (fourth_shape ts) q w h)

loose_quiet : (x : Tree) (ts : List Token) → LooseStatement x ts → MayPrecede ts → Quiet x
loose_quiet x ts (inl e) m = subst Quiet (sym e) m
loose_quiet x ts (inr e) m = subst Quiet (sym e) m

statement_turn : (x y : Tree) (r : List Token) → Derives x turn_entry (flat y ++ r)
    → Derives y (star (lacks the_end) turn_entry) r
    → IsWellSpaced (flat x ++ (flat y ++ r)) → Quiet (kept x) ⊎ LooseStatement (kept x) (flat x)
    → LooseTurn (kept x) (kept y) (Quiet (kept x))
statement_turn x y r c d w (inl h) = inl h
statement_turn x End r c d w (inr e) = inl (loose_quiet (kept x) (flat x) e (last_loose (flat x) r d w))
statement_turn x (Again a b) r c d w (inr e) =
    let us : List Token = flat b ++ r in
    let v = subst (λ us. IsWellSpaced (flat x ++ us)) (append_assoc (flat a) (flat b) r) w in
    inr (statement_loose (kept x) (flat x) (flat a ++ us) (Again (kept a) (kept b)) e
    (unquoted_tree x turn_entry ((flat a ++ flat b) ++ r) refl c w) v
    (again_starts (flat a ++ us) (kept a) (kept b) (turn_begins a us us d.1)))
statement_turn x _ r c d w (inr e) = absurd d

-- kinds that are no elements
element_item : (k : Kind) → is_element k ≡ false → is_item (held k) ≡ false
unfolding held
element_item AnItem e = never (sym e)
element_item _ e = refl

held_row : (k : Kind) → is_row k ≡ false → is_row (held k) && true ≡ false
unfolding held
held_row Items e = cc
held_row ForeignItems e = cc
held_row TraitItems e = cc
held_row ImplItems e = cc
held_row Statements e = cc
held_row _ e = refl

row_kept : (k : Kind) (x : Tree) (r : List Token) → is_row k ≡ true → Derives x (table k) r
    → ((j : Kind) → is_member j ≡ true → Derives x (star (lacks the_end) (ref j)) r → QuietTurns (kept x))
    → ((v : Tree → Verdict) → ((y : Tree) → v y ≡ AsRaw → ⊥) → Derives x (judged v (star (lacks the_end) turn_entry)) r
    → QuietTurns (kept x)) → Quiet (kept (Node k x))
unfolding table held
row_kept Items x r e d f g = f AnItem refl d
row_kept ForeignItems x r e d f g = f AForeignItem refl d
row_kept TraitItems x r e d f g = f ATraitItem refl d
row_kept ImplItems x r e d f g = f AnImplItem refl d
row_kept Statements x r e d f g = g (verdict_of (table Statements)) (λ y i. kept_or_refused _ i) d
row_kept _ x r e d f g = never e

node_kept : (k : Kind) (x : Tree) (r : List Token) (b : Bool) → is_row k ≡ b → is_element k ≡ false
    → Derives x (table k) r → (Tame (table k) → Quiet (kept x))
    → ((j : Kind) → is_member j ≡ true → Derives x (star (lacks the_end) (ref j)) r → QuietTurns (kept x))
    → ((v : Tree → Verdict) → ((y : Tree) → v y ≡ AsRaw → ⊥) → Derives x (judged v (star (lacks the_end) turn_entry)) r
    → QuietTurns (kept x)) → Quiet (kept (Node k x))
node_kept k x r false i e d h f g =
    in_node true LooseTurn Printed AnyText AnyText CalmMark MayPrecede MayPrecede (held k) (forget k (kept x))
    (element_item k e) (held_row k i) (quiet_forget k (kept x) (h (all_tame k e i)))
node_kept k x r true i e d h f g = row_kept k x r i d f g

-- an entry's choices
abbrev left_of : Gram → Gram
left_of (alt t g h) = g
left_of g = g

abbrev right_of : Gram → Gram
right_of (alt t g h) = h
right_of g = g

-- the own part of a form
abbrev is_plain : Kind → Bool
is_plain k = not (is_element k) && not (is_row k)

plain_tame : (k : Kind) → is_plain k ≡ true → Tame (table k)
plain_tame k e =
    let h = and_true (not (is_element k)) (not (is_row k)) e in
    all_tame k (not_true (is_element k) h.0) (not_true (is_row k) h.1)

front_tame : (p : Position) (ts : List Token) (k : Kind) → front p ts ≡ Some k → Tame (table k)
unfolding front
front_tame p ts k e = plain_tame k (first_passes is_plain (fronts p) ts k refl e)

back_tame : (p : Position) (ts : List Token) (k : Kind) → back p ts ≡ Some k → Tame (table k)
unfolding back
back_tame p ts k e = plain_tame k (first_passes is_plain (backs p) ts k refl e)

as_entry : (x : Tree) (r : List Token) → Derives x (table AStatement) r → Derives x statement r
unfolding table
as_entry x r d = d

-- of a statement, whose item is quiet or kept raw
first_form : (x : Tree) (ts : List Token) → Quiet x ⊎ (x ≡ Node AnItem (Raw ts))
    → Quiet (First x) ⊎ LooseForm (First x) ts
first_form x ts (inl h) = inl h
first_form x ts (inr e) = inr (inl (ap First e))

fourth_form : (x : Tree) (ts : List Token) → Quiet x ⊎ (x ≡ Node AnItem (Raw ts))
    → Quiet (Second (Second (Second (First x)))) ⊎ LooseForm (Second (Second (Second (First x)))) ts
fourth_form x ts (inl h) = inl h
fourth_form x ts (inr e) = inr (inr (ap (λ z. Second (Second (Second (First z)))) e))

mutual
  quiet_kept : (x : Tree) (g : Gram) (r : List Token) → Tame g → calm_entry g ≡ true → Derives x g r
      → IsWellSpaced (flat x ++ r) → Quiet (kept x)
  quiet_kept (AWord cs) (word p) r m c d w = tt
  quiet_kept (ALiteral cs) (literal p) r m c d w = tt
  quiet_kept (AMark a others spacing) (mark n ns) r m c d w =
      (ap (λ k. calm_marks k others) d.0 ∙ ap (calm_marks n) d.1 ∙ c, refl)
  quiet_kept (ALifetime cs) lifetime r m c d w = tt
  quiet_kept (Raw ts) raw r m c d w = loose ts (subst (λ q. IsWellSpaced (ts ++ q)) d.1 w)
  quiet_kept Nil nothing r m c d w = tt
  quiet_kept (Pair x y) (seq a b) r m c d w =
      let h = and_true _ _ c in
      let v = subst IsWellSpaced (append_assoc (flat x) (flat y) r) w in (
        quiet_kept x a (flat y ++ r) m.0 h.0 d.0 v,
        quiet_kept y b r m.1 h.1 d.1 (spaced_behind (flat x) (flat y ++ r) v),
      )
  quiet_kept (First x) (alt t a b) r m c d w = quiet_kept x a r m.0 (and_true _ _ c).0 d.1 w
  quiet_kept (Second x) (alt t a b) r m c d w = quiet_kept x b r m.1 (and_true _ _ c).1 d.1 w
  quiet_kept End (star t g) r m c d w = tt
  quiet_kept (Again x y) (star t g) r m c d w =
      let v = subst IsWellSpaced (append_assoc (flat x) (flat y) r) w in (
        quiet_kept x g (flat y ++ r) m c d.1 v,
        quiet_kept y (star t g) r m c d.2 (spaced_behind (flat x) (flat y ++ r) v),
      )
  quiet_kept End (many f n g) r m c d w = tt
  quiet_kept (Final x) (many f n g) r m c d w = quiet_kept x g r m (and_true _ _ c).1 d.1 w
  quiet_kept (More x a spacing y) (many f n g) r m c d w =
      let h = and_true _ _ c in
      let v = subst IsWellSpaced (append_assoc (flat x) (Punct a spacing ∷ flat y) r) w in (
        quiet_kept x g (Punct a spacing ∷ flat y ++ r) m h.1 d.2 v,
        (ap (λ k. not (k == quote)) d.1 ∙ h.0, refl),
        quiet_kept y (many f n g) r m c d.3 (spaced_behind (flat x) (Punct a spacing ∷ flat y ++ r) v).1,
      )
  quiet_kept (Group f x) (group o g) r m c d w =
      let v = subst IsWellSpaced (append_assoc (flat x) (Closes f ∷ []) r) w.1 in
      (w.0, quiet_kept x g [] m c d.1 (cut (flat x) f r v))
  quiet_kept (First x) (judged v g) r m c d w = quiet_kept x g r m.1 c d.1 w
  quiet_kept (Verbatim x) (judged v g) r m c d w = absurd (m.0 x d.0)
  quiet_kept (Dropped x) (dropped g) r m c d w = tt
  quiet_kept (Called n x) (called l g) r m c d w = quiet_kept x g r m c d.1 w
  quiet_kept (Node k x) (ref l) r m c d w =
      node_kept k x r (is_row k) refl (subst (λ i. is_element i ≡ false) (sym d.0) m) d.1
      (λ n. quiet_kept x (table k) r n (all_calm k) d.1 w) (λ j i e. members_kept j i x r e w)
      (λ v n e. judged_kept x v n r e w)
  quiet_kept (Whole x) (operand p n) r m c d w = quiet_bound x p r d.1 w
  quiet_kept _ _ r m c d w = absurd d

  quiet_bound : (x : Tree) (p : Position) (r : List Token) → Bound p x r → IsWellSpaced (flat x ++ r) → Quiet (kept x)
  quiet_bound (Alone k y) p r d w = quiet_kept y (table k) r (front_tame p _ k d.0) (all_calm k) d.1 w
  quiet_bound (Front k y x) p r d w =
      let v = subst IsWellSpaced (append_assoc (flat y) (flat x) r) w in (
        quiet_kept y (table k) (flat x ++ r) (front_tame p _ k d.0) (all_calm k) d.1 v,
        quiet_bound x (inside p k) r d.4 (spaced_behind (flat y) (flat x ++ r) v),
      )
  quiet_bound (Back l k y) p r d w =
      let v = subst IsWellSpaced (append_assoc (flat l) (flat y) r) w in
      quiet_dotted (kept l) k (kept y) (quiet_bound l p (flat y ++ r) d.4 v)
      (quiet_kept y (table k) r (back_tame p _ k d.0) (all_calm k) d.1 (spaced_behind (flat l) (flat y ++ r) v))
  quiet_bound (Infix l k y z) p r d w =
      let v = subst IsWellSpaced
      (append_assoc (flat l) (flat y ++ flat z) r ∙ ap (λ u. flat l ++ u) (append_assoc (flat y) (flat z) r)) w in
      let u = spaced_behind (flat l) (flat y ++ (flat z ++ r)) v in (
        quiet_bound l p (flat y ++ (flat z ++ r)) d.4 v,
        quiet_kept y (table k) (flat z ++ r) (back_tame p _ k d.0) (all_calm k) d.1 u,
        quiet_bound z (inside p k) r d.6 (spaced_behind (flat y) (flat z ++ r) u),
      )
  quiet_bound _ p r d w = absurd d

  members_kept : (j : Kind) → is_member j ≡ true → (y : Tree) (r : List Token)
      → Derives y (star (lacks the_end) (ref j)) r → IsWellSpaced (flat y ++ r) → QuietTurns (kept y)
  members_kept j i End r d w = tt
  members_kept j i (Again x y) r d w =
      let v = subst IsWellSpaced (append_assoc (flat x) (flat y) r) w in (
        member_turn j x y r i d.2 v (element_kept j i x (flat y ++ r) d.1 v),
        members_kept j i y r d.2 (spaced_behind (flat x) (flat y ++ r) v),
      )
  members_kept j i _ r d w = absurd d

  element_kept : (j : Kind) → is_member j ≡ true → (x : Tree) (r : List Token) → Derives x (ref j) r
      → IsWellSpaced (flat x ++ r) → Quiet (kept x) ⊎ (kept x ≡ Node j (Raw (flat x)))
  element_kept j i (Node k z) r d w =
      let n = subst (λ l. is_member l ≡ true) (sym d.0) i in
      subst (λ l. Quiet (kept (Node k z)) ⊎ (kept (Node k z) ≡ Node l (Raw (flat z)))) d.0
      (member_kept k z n (member_case k z r n d.1 (λ v g m c e. form_kept z v g r m c e w)))
  element_kept j i _ r d w = absurd d

  form_kept : (z : Tree) (v : Tree → Verdict) (g : Gram) (r : List Token) → Tame g → calm_entry g ≡ true
      → Derives z (judged v g) r → IsWellSpaced (flat z ++ r) → QuietOrRaw z
  form_kept (First x) v g r m c d w = inl (quiet_kept x g r m c d.1 w)
  form_kept (Verbatim x) v g r m c d w = inr refl
  form_kept _ v g r m c d w = absurd d

  judged_kept : (x : Tree) (v : Tree → Verdict) → ((y : Tree) → v y ≡ AsRaw → ⊥) → (r : List Token)
      → Derives x (judged v (star (lacks the_end) turn_entry)) r → IsWellSpaced (flat x ++ r) → QuietTurns (kept x)
  judged_kept (First x) v n r d w = statements_kept x r d.1 w
  judged_kept (Verbatim x) v n r d w = absurd (n x d.0)
  judged_kept _ v n r d w = absurd d

  statements_kept : (y : Tree) (r : List Token) → Derives y (star (lacks the_end) turn_entry) r
      → IsWellSpaced (flat y ++ r) → QuietTurns (kept y)
  statements_kept End r d w = tt
  statements_kept (Again x y) r d w =
      let v = subst IsWellSpaced (append_assoc (flat x) (flat y) r) w in (
        statement_turn x y r d.1 d.2 v (turn_kept x (flat y ++ r) d.1 v),
        statements_kept y r d.2 (spaced_behind (flat x) (flat y ++ r) v),
      )
  statements_kept _ r d w = absurd d

  turn_kept : (x : Tree) (r : List Token) → Derives x turn_entry r → IsWellSpaced (flat x ++ r)
      → Quiet (kept x) ⊎ LooseStatement (kept x) (flat x)
  turn_kept (First x) r d w = inl (quiet_kept x (sign ";") r tt refl d.1 w)
  turn_kept (Second (Node k z)) r d w =
      as_turn k z d.1.0 (statement_kept z r (as_entry z r (subst (λ l. Derives z (table l) r) d.1.0 d.1.1)) w)
  turn_kept (Second _) r d w = absurd d.1
  turn_kept _ r d w = absurd d

  statement_kept : (z : Tree) (r : List Token) → Derives z statement r → IsWellSpaced (flat z ++ r)
      → Quiet (kept z) ⊎ LooseForm (kept z) (flat z)
  statement_kept (First x) r d w = first_form (kept x) (flat x) (element_kept AnItem refl x r d.1 w)
  statement_kept (Second (First x)) r d w =
      let g : Gram = left_of (right_of statement) in
      inl (quiet_kept x g r (tame g refl) refl d.1.1 w)
  statement_kept (Second (Second (First x))) r d w =
      let g : Gram = left_of (right_of (right_of statement)) in
      inl (quiet_kept x g r (tame g refl) refl d.1.1.1 w)
  statement_kept (Second (Second (Second (First x)))) r d w =
      fourth_form (kept x) (flat x) (element_kept AnItem refl x r d.1.1.1.1 w)
  statement_kept (Second (Second (Second (Second x)))) r d w =
      let g : Gram = right_of (right_of (right_of (right_of statement))) in
      inl (quiet_kept x g r (tame g refl) refl d.1.1.1.1 w)
  statement_kept (Second (Second (Second _))) r d w = absurd d.1.1.1
  statement_kept (Second (Second _)) r d w = absurd d.1.1
  statement_kept (Second _) r d w = absurd d.1
  statement_kept _ r d w = absurd d

-- normal form
still_normal : (p : Position) (x : Tree) → Quiet x → Still (normal_in p x)
still_normal p x h =
    every_normal true LooseTurn StandingTurn Printed AnyText AnyText CalmMark MayPrecede MayPrecede (refl, refl)
    (λ c cs i m. (m.0, refl)) refl (λ ts m. subst MayPrecede (sym (apart_same ts (m [] tt))) m) turned stayed p x h
  where
    turned : (p : Position) (x y : Tree)
        → (Quiet x → Still (apart_if (is_enclosed y (normal_in p y)) (normal_in p x))) → LooseTurn x y (Quiet x)
        → StandingTurn (apart_if (is_enclosed y (normal_in p y)) (normal_in p x)) (normal_in p y)
        (Still (apart_if (is_enclosed y (normal_in p y)) (normal_in p x)))
    turned p x y f (inl m) = inl (f m)
    turned p x y f (inr m) = inr (m.1 p)

    stayed : (x y : Tree) → (Quiet x → Still x) → LooseTurn x y (Quiet x) → StandingTurn x y (Still x)
    stayed x y f (inl m) = inl (f m)
    stayed x y f (inr m) = inr m.0

quiet_precedes : (x : Tree) → Quiet x → MayPrecede (flat (normal x))
quiet_precedes x h = precedes (normal x) (still_normal Plain x h)

pub anywhere : (k : Kind) (x : Tree) (r s : List Token) → is_element k ≡ false → Derives x (ref k) r
    → IsWellSpaced (flat x ++ r) → IsWellSpaced s → IsWellSpaced (flat (normal (kept x)) ++ s)
anywhere k x r s e d w v = quiet_precedes (kept x) (quiet_kept x (ref k) r e refl d w) s v

-- an element by itself, before what begins as did what stood behind it
abbrev AsBefore : List Token → List Token → Tree → Type 0
AsBefore r s x = first_of r ≡ first_of s → IsWellSpaced s → IsWellSpaced (flat (normal (kept x)) ++ s)

member_before : (j : Kind) (x : Tree) (r s : List Token) → is_member j ≡ true → Derives x (ref j) r
    → IsWellSpaced (flat x ++ r) → AsBefore r s x
member_before j x r s i d w e v = go (element_kept j i x r d w)
  where
    go : Quiet (kept x) ⊎ (kept x ≡ Node j (Raw (flat x))) → IsWellSpaced (flat (normal (kept x)) ++ s)
    go (inl h) = quiet_precedes (kept x) h s v
    go (inr f) =
        subst (λ z. IsWellSpaced (flat (normal z) ++ s)) (sym f)
        (subst (λ z. IsWellSpaced (flat z ++ s)) (sym (member_tidy j (Raw (flat x)) i)) (alike (flat x) r s w e v))

form_before : (x : Tree) (r s : List Token) → Derives x (table AStatement) r → IsWellSpaced (flat x ++ r)
    → AsBefore r s (Node AStatement x)
unfolding held passed
form_before x r s d w e v = go (statement_kept x r (as_entry x r d) w)
  where
    go : Quiet (kept x) ⊎ LooseForm (kept x) (flat x) → IsWellSpaced (flat (normal (kept (Node AStatement x))) ++ s)
    go (inl h) = quiet_precedes (kept (Node AStatement x)) (quiet_forget AStatement (kept x) h) s v
    go (inr (inl f)) =
        subst (λ z. IsWellSpaced (flat (normal (Node AStatement (as_statement z))) ++ s)) (sym f)
        (alike (flat x) r s w e v)
    go (inr (inr f)) =
        subst (λ z. IsWellSpaced (flat (normal (Node AStatement (as_statement z))) ++ s)) (sym f)
        (alike (flat x) r s w e v)

statement_before : (x : Tree) (r s : List Token) → Derives x (ref AStatement) r → IsWellSpaced (flat x ++ r)
    → AsBefore r s x
statement_before x r s d =
    node_case (λ y. IsWellSpaced (flat y ++ r) → AsBefore r s y) x AStatement r d (λ y c w. form_before y r s c w)

one_before : (x : Tree) (r s : List Token) → Derives x (table OneStatement) r → IsWellSpaced (flat x ++ r)
    → AsBefore r s (Node OneStatement x)
unfolding table held passed
one_before (First x) r s d w e v = statement_before x r s d.1 w e v
one_before (Verbatim x) r s d w e v = absurd (kept_or_refused _ d.0)
one_before _ r s d w e v = absurd d

pub before : (k : Kind) (x : Tree) (r s : List Token) → Derives x (ref k) r → IsWellSpaced (flat x ++ r)
    → first_of r ≡ first_of s → IsWellSpaced s → IsWellSpaced (flat (normal (kept x)) ++ s)
before AnItem x r s d w e v = member_before AnItem x r s refl d w e v
before AForeignItem x r s d w e v = member_before AForeignItem x r s refl d w e v
before ATraitItem x r s d w e v = member_before ATraitItem x r s refl d w e v
before AnImplItem x r s d w e v = member_before AnImplItem x r s refl d w e v
before AStatement x r s d w e v = statement_before x r s d w e v
before OneStatement x r s d w e v =
    node_case (λ y. IsWellSpaced (flat y ++ r) → AsBefore r s y) x OneStatement r d
    (λ y c w. one_before y r s c w) w e v
before k x r s d w e v = anywhere k x r s refl d w v

pub whole : (k : Kind) (x : Tree) → Derives x (ref k) [] → IsWellSpaced (flat x)
    → IsWellSpaced (flat (normal (kept x)))
whole k x d w =
    subst IsWellSpaced (append-nil (flat (normal (kept x))))
    (before k x [] [] d (subst IsWellSpaced (sym (append-nil (flat x))) w) refl tt)
