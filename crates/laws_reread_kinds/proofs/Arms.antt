-- Arms, and lists of them: their steps and their laws. One without a comma ends by its body, or it is the last: its
-- tree says which, and what is held of it doesn't.
use Rattle.std.proofs.Common.{◌≡◌, ℕ, List, [], ◌∷◌, ◌++◌, refl, sym, ap, ◌∙◌, subst}
use Rattle.std.proofs.Common.{inl, inr}
use Rattle.std.specs.Prelude.{Bool, true, false, ◌&&◌, codes, cond, not}
use Rattle.std.proofs.lemmas.Bool.{false≢true}
use Rattle.proc_macro2.specs.Token.{Token, Opens, Closes, Ident}
use Rattle.rust_leaf.specs.declared.punct.Spacing.{Spacing}
use Rattle.syn_grammar.specs.Kind.{Kind, Arm, Arms, Expression, InArm, OuterAttributes, Pattern, Plain, Position}
use Rattle.syn_grammar.specs.Name.{Part, same_part, the_body, the_comma}
use Rattle.syn_grammar.specs.Words.{is_bool, is_name, is_path_keyword}
use Rattle.syn_grammar.specs.Tree.{Tree, AMark, AWord, Again, Called, End, First, Group, Nil, Node, Pair, Second}
use Rattle.syn_grammar.specs.Tree.{Verbatim, Whole, flat}
use Rattle.syn_grammar.specs.Part.{changed}
use Rattle.syn_grammar.specs.Gram.{Gram, Keep, nothing, ref, star}
use Rattle.syn_grammar.specs.Look.{lacks, no, sees, the_end, ◌then◌}
use Rattle.syn_grammar.specs.Say.{at, keyword, marks, optional, sign, when◌read◌else◌, ◌∶◌, ◌▸◌}
use Rattle.syn_grammar.specs.Types.{kept_if}
use Rattle.syn_grammar.specs.Tidy.{is_none}
use Rattle.syn_grammar.specs.Expressions.{ends_well, is_arm}
use Rattle.syn_grammar.specs.Forms.{is_block_like}
use Rattle.syn_grammar.specs.Ranks.{skips}
use Rattle.syn_grammar.specs.Table.{table}
use Rattle.syn_grammar.specs.Derives.{Derives}
use Rattle.syn_grammar.specs.Kept.{held, kept, not_last}
use Rattle.syn_grammar.specs.Normal.{apart_if, formed, is_enclosed, normal, normal_in, passed, place_of, stands_behind}
use Rattle.laws_items.proofs.Places.{kept_raw}
use Rattle.laws_reread_kinds.specs.After.{EndsArm, FollowsArm, After, behind}
use Rattle.laws_reread_kinds.specs.Covered.{has_step, is_taken}
use Rattle.laws_reread_kinds.specs.Sees.{LacksAll}
use Rattle.laws_reread_kinds.proofs.Choices.{both_true, is_false}
use Rattle.laws_reread_kinds.proofs.Classes.{Class, IsAmong, Sign, TheWord, ◌&◌}
use Rattle.laws_reread_kinds.proofs.Begins.{Begins}
use Rattle.laws_reread_kinds.proofs.Ends.{block_kept, block_read}
use Rattle.laws_reread_kinds.proofs.FieldValues.{end_is}
use Rattle.laws_reread_kinds.proofs.Fine.{At, AtOrNone, Edge, Fine, fine_ref}
use Rattle.laws_reread_kinds.proofs.Fits.{Fits, FitsForms, has_comma, have_commas, is_comma}
use Rattle.laws_reread_kinds.proofs.Keywords.{reserved_else, reserved_if}
use Rattle.laws_reread_kinds.proofs.Parts.{Maybe, Told, at_front, fine_ahead, found_mark, found_optional, found_ref}
use Rattle.laws_reread_kinds.proofs.Parts.{found_seq, found_text, maybe_ahead, maybe_ref, told_at, unseen_all}
use Rattle.laws_reread_kinds.proofs.Printed.{IsPlaced, KindLaw, Printed, VerdictLaw, kept_entry, simple_law, unmoved_if}
use Rattle.laws_reread_kinds.proofs.Readies.{Ready, Step}
use Rattle.laws_reread_kinds.proofs.Sights.{ident_not}
use Rattle.laws_reread_kinds.proofs.Starts.{pattern_starts, starts}
use Rattle.laws_reread_kinds.proofs.Lets.{kept_true}
use Rattle.laws_reread_kinds.proofs.StatementLists.{turn_of, turns_behind}
use Rattle.laws_reread_kinds.proofs.Tidied.{held_law}
use Rattle.laws_reread_kinds.proofs.Turns.{node_stays}

-- an arm, from its end on
abbrev arm_comma : Gram
arm_comma = when the_end read nothing else optional (marks ",") (sign ",")

abbrev arm_body : Gram
arm_body = the_body ∶ ref (Expression InArm) ▸ the_comma ∶ arm_comma

abbrev arm_guard : Gram
arm_guard = optional (at "if") (keyword "if" ▸ ref (Expression Plain))

abbrev arm_form : Gram
arm_form = ref OuterAttributes ▸ ref Pattern ▸ arm_guard ▸ sign "=>" ▸ arm_body

-- what may follow it
abbrev BodyEdge : Edge
BodyEdge (Pair (Called n e) (Called m c)) s = EndsArm e c s
BodyEdge x s = s ≡ []

abbrev Behind : Edge → Edge
Behind E (Pair x y) s = E y s
Behind E x s = s ≡ []

abbrev ArmEdge : Edge
ArmEdge x s = Behind (Behind (Behind (Behind BodyEdge))) x s

arm_edge : (x : Tree) (s : List Token) → Fits x arm_form → FollowsArm (First x) s → ArmEdge x s
arm_edge (Pair o (Pair p (Pair g (Pair a (Pair (Called n e) (Called m c)))))) s f h = h
arm_edge (Pair o (Pair p (Pair g (Pair a (Pair (Called n e) _))))) s f h = absurd f.1.1.1.1.1
arm_edge (Pair o (Pair p (Pair g (Pair a (Pair _ y))))) s f h = absurd f.1.1.1.1.0
arm_edge (Pair o (Pair p (Pair g (Pair a _)))) s f h = absurd f.1.1.1.1
arm_edge (Pair o (Pair p (Pair g _))) s f h = absurd f.1.1.1
arm_edge (Pair o (Pair p _)) s f h = absurd f.1.1
arm_edge (Pair o _) s f h = absurd f.1
arm_edge _ s f h = absurd f

-- its body and its comma are read
abbrev a_comma : List Class
a_comma = Sign 44 [] ∷ []

body_read : (e : Tree) (s : List Token) → Fits e (ref (Expression InArm)) → Ready e → After (Expression InArm) e s
    → Derives e (ref (Expression InArm)) s × IsAmong (starts (Expression InArm)) (flat e ++ s)
unfolding skips
body_read e s f w a = (fine_ref {k = Expression InArm}).by e s f w a

fine_body : Fine arm_body BodyEdge (At (starts (Expression InArm)))
fine_body = record { by = go }
  where
    go : (x : Tree) (s : List Token) → Fits x arm_body → Ready x → BodyEdge x s
        → Derives x arm_body s × At (starts (Expression InArm)) x s
    go (Pair (Called n e) (Called m (First Nil))) s f w h =
        let a : After (Expression InArm) e s = inl (subst (LacksAll (behind (Expression InArm))) (sym h) (refl, tt)) in
        let (d, i) = body_read e s f.0.1 w.0 a in (
          ((f.0.0, d), (f.1.0, (ap (sees the_end) h, tt))),
          at_front (starts (Expression InArm)) e Nil s i,
        )
    go (Pair (Called n e) (Called m (First _))) s f w h = absurd f.1.1.1
    go (Pair (Called n e) (Called m (Second (First z)))) s f w h =
        let us : List Token = flat z ++ s in
        let (dz, iz) = (found_mark {c = 44} {cs = []}).fine.by z s f.1.1.1.1 w.1 tt in
        let (d, i) = body_read e us f.0.1 w.0
        (inl (unseen_all (behind (Expression InArm)) a_comma us ((λ us. refl, tt), tt) iz)) in (
          (
            (f.0.0, d),
            (
              f.1.0,
              (
                told_at the_end false a_comma us (λ us. refl, tt) iz,
                (told_at (marks ",") true a_comma us (λ us. refl, tt) iz, dz),
              ),
            ),
          ),
          at_front (starts (Expression InArm)) e z s i,
        )
    go (Pair (Called n e) (Called m (Second (Second Nil)))) s f w h =
        let (d, i) = body_read e s f.0.1 w.0 (inr h.0) in
        (((f.0.0, d), (f.1.0, (h.1.0, (h.1.1.0, tt)))), at_front (starts (Expression InArm)) e Nil s i)
    go (Pair (Called n e) (Called m (Second (Second _)))) s f w h = absurd f.1.1.1.1
    go (Pair (Called n e) (Called m (Second _))) s f w h = absurd f.1.1.1
    go (Pair (Called n e) (Called m _)) s f w h = absurd f.1.1
    go (Pair (Called n e) _) s f w h = absurd f.1
    go (Pair _ y) s f w h = absurd f.0
    go _ s f w h = absurd f

-- what stands before them
found_guard : Maybe arm_guard (at "if" ∷ behind (Expression Plain)) (TheWord (codes "if") ∷ [])
unfolding skips
found_guard =
    found_optional (at "if") (found_seq (found_text "if") (found_ref (Expression Plain) refl) tt) (λ us. refl, tt)

fine_arm : Fine arm_form ArmEdge (At (starts Arm))
unfolding skips is_bool is_name is_path_keyword
fine_arm =
    maybe_ahead ArmEdge pattern_starts (maybe_ref OuterAttributes refl)
    (fine_ahead (Behind (Behind (Behind BodyEdge))) (TheWord (codes "if") ∷ Sign 61 (62 ∷ []) ∷ [])
    (found_ref Pattern refl)
    (maybe_ahead (Behind (Behind BodyEdge)) (Sign 61 (62 ∷ []) ∷ []) found_guard
    (fine_ahead (Behind BodyEdge) (starts (Expression InArm)) (found_mark {c = 61} {cs = 62 ∷ []}) fine_body tt
    (λ x y s c. c)) (((λ us. refl), tt), (((λ us. refl), tt), tt)) (λ x y s c. c)) (
      (search),
      (
        (search),
        (
          (search),
          (
            (search),
            (
              (search),
              (
                (search),
                (
                  (search),
                  ((search), ((search), (((λ us. simp (reserved_if) refl) & (λ us. refl) & tt), tt))),
                ),
              ),
            ),
          ),
        ),
      ),
    ) (λ x y s c. c)) ((search), tt) (λ x y s c. c)

pub step_arm : Step Arm
unfolding table skips
step_arm (First x) s f n w a =
    let (d, i) = fine_arm.by x s f.1 w (arm_edge x s f.1 a) in
    ((f.0, d), i)
step_arm _ s f n w a = absurd f

-- an arm by its parts
abbrev in_arm : Tree → Tree
in_arm x = Node (Expression InArm) (Whole x)

abbrev an_arm : Tree → Tree → Tree → Tree → Tree → Tree → Tree
an_arm o p g a x c = Pair o (Pair p (Pair g (Pair a (Pair (Called the_body (in_arm x)) (Called the_comma c)))))

-- Its comma and its body are what the rule asks of it, whatever comma it has.
abbrev Asks : (Tree → Tree) → Tree → Type 0
Asks arm x = (c : Tree) → is_arm (arm c) ≡ ends_well c (in_arm x)

abbrev IsGuard : Tree → Type 0
IsGuard (First (Pair (AWord cs) (Node k x))) = Unit {0}
IsGuard (Second Nil) = Unit {0}
IsGuard _ = ⊥

asks : (i j : Kind) (o p g x : Tree) (b : ℕ) (bs : List ℕ) (spacing : Spacing) → IsGuard g
    → Asks (an_arm (Node i o) (Node j p) g (AMark b bs spacing) x) x
unfolding same_part
asks i j o p (First (Pair (AWord cs) (Node k y))) x b bs spacing h c = refl
asks i j o p (Second Nil) x b bs spacing h c = refl
asks i j o p _ x b bs spacing h c = absurd h

parts_are : (o p g a x y c : Tree) (n m : Part) (k : Kind) → n ≡ the_body → k ≡ Expression InArm → y ≡ Whole x
    → m ≡ the_comma
    → Pair o (Pair p (Pair g (Pair a (Pair (Called n (Node k y)) (Called m c))))) ≡ an_arm o p g a x c
parts_are o p g a x y c n m k e f h i =
    ap (λ j. Pair o (Pair p (Pair g (Pair a (Pair (Called j (Node k y)) (Called m c)))))) e
    ∙ ap (λ j. Pair o (Pair p (Pair g (Pair a (Pair (Called the_body (Node j y)) (Called m c)))))) f
    ∙ ap (λ z. Pair o (Pair p (Pair g (Pair a (Pair (Called the_body (Node (Expression InArm) z)) (Called m c)))))) h
    ∙ ap (λ j. Pair o (Pair p (Pair g (Pair a (Pair (Called the_body (in_arm x)) (Called j c)))))) i

-- as it is printed
guard_fits : (g : Tree) → Fits g arm_guard → IsGuard g
guard_fits (First (Pair (AWord cs) (Node k x))) f = tt
guard_fits (First (Pair (AWord cs) _)) f = absurd f.1.1
guard_fits (First (Pair _ y)) f = absurd f.1.0
guard_fits (First _) f = absurd f.1
guard_fits (Second Nil) f = tt
guard_fits (Second _) f = absurd f.1
guard_fits _ f = absurd f

form_fits : (y : Tree) → Fits y (table (Expression InArm)) → (x : Tree) × (y ≡ Whole x)
unfolding table
form_fits (Whole x) f = (x, refl)
form_fits _ f = absurd f

each_fits : (P : Tree → Type 0)
    → ((o p g a x c : Tree) → Asks (an_arm o p g a x) x → Fits (an_arm o p g a x c) arm_form → P (an_arm o p g a x c))
    → (y : Tree) → Fits y arm_form → P y
each_fits P h
    (Pair (Node i o) (Pair (Node j p) (Pair g (Pair (AMark b bs e) (Pair (Called n (Node k y)) (Called m c)))))) f =
    let q = f.1.1.1.1 in
    let v = form_fits y (subst (λ l. Fits y (table l)) q.0.1.0 q.0.1.3) in
    let u = parts_are (Node i o) (Node j p) g (AMark b bs e) v.0 y c n m k q.0.0 q.0.1.0 v.1 q.1.0 in
    subst P (sym u)
    (h (Node i o) (Node j p) g (AMark b bs e) v.0 c (asks i j o p g v.0 b bs e (guard_fits g f.1.1.0))
    (subst (λ z. Fits z arm_form) u f))
each_fits P h
    (Pair (Node i o) (Pair (Node j p) (Pair g (Pair (AMark b bs e) (Pair (Called n (Node k y)) _))))) f =
    absurd f.1.1.1.1.1
each_fits P h (Pair (Node i o) (Pair (Node j p) (Pair g (Pair (AMark b bs e) (Pair (Called n _) c))))) f =
    absurd f.1.1.1.1.0.1
each_fits P h (Pair (Node i o) (Pair (Node j p) (Pair g (Pair (AMark b bs e) (Pair _ c))))) f =
    absurd f.1.1.1.1.0
each_fits P h (Pair (Node i o) (Pair (Node j p) (Pair g (Pair (AMark b bs e) _)))) f = absurd f.1.1.1.1
each_fits P h (Pair (Node i o) (Pair (Node j p) (Pair g (Pair _ y)))) f = absurd f.1.1.1.0
each_fits P h (Pair (Node i o) (Pair (Node j p) (Pair g _))) f = absurd f.1.1.1
each_fits P h (Pair (Node i o) (Pair (Node j p) _)) f = absurd f.1.1
each_fits P h (Pair (Node i o) (Pair _ y)) f = absurd f.1.0
each_fits P h (Pair (Node i o) _) f = absurd f.1
each_fits P h (Pair _ y) f = absurd f.0
each_fits P h _ f = absurd f

-- as it was read
guard_read : (g : Tree) (r : List Token) → Derives g arm_guard r → IsGuard g
guard_read (First (Pair (AWord cs) (Node k x))) r d = tt
guard_read (First (Pair (AWord cs) _)) r d = absurd d.1.1
guard_read (First (Pair _ y)) r d = absurd d.1.0
guard_read (First _) r d = absurd d.1
guard_read (Second Nil) r d = tt
guard_read (Second _) r d = absurd d.1
guard_read _ r d = absurd d

form_read : (y : Tree) (r : List Token) → Derives y (table (Expression InArm)) r → (x : Tree) × (y ≡ Whole x)
unfolding table
form_read (Whole x) r d = (x, refl)
form_read _ r d = absurd d

each_read : (P : Tree → Type 0) (r : List Token)
    → ((o p g a x c : Tree) → Asks (an_arm o p g a x) x → Derives c arm_comma r → P (an_arm o p g a x c))
    → (y : Tree) → Derives y arm_form r → P y
each_read P r h
    (Pair (Node i o) (Pair (Node j p) (Pair g (Pair (AMark b bs e) (Pair (Called n (Node k y)) (Called m c)))))) d =
    let q = d.1.1.1.1 in
    let v = form_read y (flat c ++ r) (subst (λ l. Derives y (table l) (flat c ++ r)) q.0.1.0 q.0.1.1) in
    let u = parts_are (Node i o) (Node j p) g (AMark b bs e) v.0 y c n m k q.0.0 q.0.1.0 v.1 q.1.0 in
    subst P (sym u)
    (h (Node i o) (Node j p) g (AMark b bs e) v.0 c
    (asks i j o p g v.0 b bs e (guard_read g _ d.1.1.0)) q.1.1)
each_read P r h
    (Pair (Node i o) (Pair (Node j p) (Pair g (Pair (AMark b bs e) (Pair (Called n (Node k y)) _))))) d =
    absurd d.1.1.1.1.1
each_read P r h (Pair (Node i o) (Pair (Node j p) (Pair g (Pair (AMark b bs e) (Pair (Called n _) c))))) d =
    absurd d.1.1.1.1.0.1
each_read P r h (Pair (Node i o) (Pair (Node j p) (Pair g (Pair (AMark b bs e) (Pair _ c))))) d =
    absurd d.1.1.1.1.0
each_read P r h (Pair (Node i o) (Pair (Node j p) (Pair g (Pair (AMark b bs e) _)))) d = absurd d.1.1.1.1
each_read P r h (Pair (Node i o) (Pair (Node j p) (Pair g (Pair _ y)))) d = absurd d.1.1.1.0
each_read P r h (Pair (Node i o) (Pair (Node j p) (Pair g _))) d = absurd d.1.1.1
each_read P r h (Pair (Node i o) (Pair (Node j p) _)) d = absurd d.1.1
each_read P r h (Pair (Node i o) (Pair _ y)) d = absurd d.1.0
each_read P r h (Pair (Node i o) _) d = absurd d.1
each_read P r h (Pair _ y) d = absurd d.0
each_read P r h _ d = absurd d

-- A body that ends an arm is printed as one that does.
abbrev form_in : Tree → Tree
form_in (Pair o (Pair p (Pair g (Pair a (Pair (Called n (Node k (Whole x))) c))))) = x
form_in x = x

abbrev comma_in : Tree → Tree
comma_in (Pair o (Pair p (Pair g (Pair a (Pair b (Called n c)))))) = c
comma_in x = x

abbrev is_missing : Tree → Bool
is_missing (Second (Second z)) = true
is_missing x = false

body_ends : (y z : Tree) → FitsForms z → kept z ≡ formed InArm [] (kept y) → is_block_like y ≡ true
    → is_block_like z ≡ true
body_ends y z f e h = sym (block_kept z f) ∙ ap is_block_like e ∙ block_read InArm refl y h

same_end : (y b z c : Tree) (r : List Token) → Derives b arm_comma r → Fits c arm_comma → FitsForms z
    → kept z ≡ formed InArm [] (kept y) → kept c ≡ normal (kept b) → ends_well b (in_arm y) ≡ true
    → ends_well c (in_arm z) ≡ true
same_end y b z (First t) r d f g e i h = refl
same_end y b z (Second (First t)) r d f g e i h = refl
same_end y (Second (Second u)) z (Second (Second t)) r d f g e i h = body_ends y z g e h
same_end y (Second (First u)) z (Second (Second t)) r d f g e i h = absurd (false≢true (sym (ap is_missing i)))
same_end y (Second _) z (Second (Second t)) r d f g e i h = absurd d.1
same_end y (First u) z (Second (Second t)) r d f g e i h = absurd (false≢true (sym (ap is_missing i)))
same_end y _ z (Second (Second t)) r d f g e i h = absurd d
same_end y b z (Second _) r d f g e i h = absurd f.1
same_end y b z _ r d f g e i h = absurd f

form_of_arm : (x : Tree) → Fits (in_arm x) (ref (Expression InArm)) → FitsForms x
unfolding table
form_of_arm x f = f.3.2

arm_verdict : VerdictLaw Plain (λ x. kept_if (is_arm x)) arm_form
unfolding held passed place_of stands_behind
arm_verdict x w r c d f e v =
    each_read (λ x. kept w ≡ normal (kept x) → kept_if (is_arm x) ≡ Keep → kept_if (is_arm w) ≡ Keep) r
    (λ o p g a y b i t. each_fits
    (λ w. kept w ≡ normal (kept (an_arm o p g a y b)) → kept_if (is_arm (an_arm o p g a y b)) ≡ Keep
    → kept_if (is_arm w) ≡ Keep)
    (λ q s h m z u j k e v. ap kept_if (j u
    ∙ same_end y b z u r t k.1.1.1.1.1.1 (form_of_arm z k.1.1.1.1.0.1) (ap form_in e) (ap comma_in e)
    (sym (i b) ∙ kept_true (is_arm (an_arm o p g a y b)) v))) w f) x d e v

-- what is held of it
not_last_normal : (q : Position) (x : Tree) → not_last (normal_in q x) ≡ normal_in q (not_last x)
not_last_normal q (First x) = refl
not_last_normal q _ = refl

if_normal : (b : Bool) (q : Position) (x : Tree)
    → cond b (not_last (normal_in q x)) (normal_in q x) ≡ normal_in q (cond b (not_last x) x)
if_normal true q x = not_last_normal q x
if_normal false q x = refl

comma_normal : (q : Position) (x : Tree)
    → changed the_comma not_last (normal_in q x) ≡ normal_in q (changed the_comma not_last x)
comma_normal q (Called n x) = ap (Called n) (if_normal (same_part n the_comma) (place_of n) x)
comma_normal q (Pair x y) =
    ap (λ z. Pair z (changed the_comma not_last (normal_in q y))) (comma_normal q x)
    ∙ ap (Pair (normal_in q (changed the_comma not_last x))) (comma_normal q y)
comma_normal q (First x) = ap First (comma_normal q x)
comma_normal q (Second x) = ap Second (comma_normal q x)
comma_normal q (Group d x) = ap (Group d) (comma_normal q x)
comma_normal q _ = refl

if_flat : (b : Bool) (x : Tree) → flat (cond b (not_last x) x) ≡ flat x
if_flat true (First x) = refl
if_flat true _ = refl
if_flat false x = refl

comma_flat : (x : Tree) → flat (changed the_comma not_last x) ≡ flat x
comma_flat (Called n x) = if_flat (same_part n the_comma) x
comma_flat (Pair x y) =
    ap (λ us. us ++ flat (changed the_comma not_last y)) (comma_flat x) ∙ ap (λ us. flat x ++ us) (comma_flat y)
comma_flat (First x) = comma_flat x
comma_flat (Second x) = comma_flat x
comma_flat (Group d x) = ap (λ us. Opens d ∷ us ++ Closes d ∷ []) (comma_flat x)
comma_flat _ = refl

pub law_arm : KindLaw Arm
unfolding has_step held passed place_of table
law_arm =
    held_law Arm refl (λ x. tt) (λ q. refl) (λ q. refl) (λ x. refl) (comma_normal Plain)
    (kept_entry is_arm arm_verdict (simple_law Plain arm_form refl))
    (λ w f. record { tree = w; fits = f; printed = comma_flat (kept w); kept_is = refl })

-- An arm that says whether it is the last, of which the same is held.
record Placed (last : Bool) (w : Tree) : Type 0 where
  tree : Tree
  fits : Fits tree (ref Arm)
  kept_is : kept tree ≡ kept w
  placed : has_comma last tree ≡ true

abbrev as_held : Tree → Tree → Tree → Tree → Tree → Tree → Tree
as_held o p g a x c =
    Pair (changed the_comma not_last (kept o)) (Pair (changed the_comma not_last (kept p))
    (Pair (changed the_comma not_last (kept g)) (Pair (changed the_comma not_last (kept a))
    (Pair (Called the_body (kept (in_arm x))) (Called the_comma c)))))

with_comma : (last : Bool) (o p g a x b c : Tree) → Asks (an_arm o p g a x) x → Fits (an_arm o p g a x b) arm_form
    → Fits c arm_comma → ends_well c (in_arm x) ≡ true → not_last (kept c) ≡ not_last (kept b)
    → is_comma last c ≡ true → Placed last (Node Arm (First (an_arm o p g a x b)))
unfolding has_step held same_part table
with_comma last o p g a x b c i f h v e l =
    record {
      tree = Node Arm (First (an_arm o p g a x c));
      fits = (
        refl,
        refl,
        comma_flat (kept (First (an_arm o p g a x c))),
        (ap kept_if (i c ∙ v), (f.0, (f.1.0, (f.1.1.0, (f.1.1.1.0, (f.1.1.1.1.0, (refl, h))))))),
        tt,
      );
      kept_is = ap (λ z. Node Arm (First (as_held o p g a x z))) e;
      placed = l;
    }

-- one that is not the last and has no comma was read so
body_ended : (y b : Tree) (ts : List Token) → Derives b arm_comma ts → sees the_end ts ≡ false
    → is_missing (normal (not_last (kept b))) ≡ true → ends_well b (in_arm y) ≡ true → is_block_like y ≡ true
body_ended y (First Nil) ts d n e h = absurd (false≢true (sym n ∙ d.0))
body_ended y (First _) ts d n e h = absurd d.1
body_ended y (Second (First u)) ts d n e h = absurd (false≢true e)
body_ended y (Second (Second u)) ts d n e h = h
body_ended y (Second _) ts d n e h = absurd d.1
body_ended y _ ts d n e h = absurd d

-- a comma that says so
seen_end : Fits (First Nil) arm_comma
seen_end = (([], refl), tt)

unseen_end : Fits (Second (Second Nil)) arm_comma
unseen_end = ((Ident [] ∷ [], refl), (([], refl), tt))

place_arm : (last : Bool) (o p g a x c : Tree) → Asks (an_arm o p g a x) x → Fits (an_arm o p g a x c) arm_form
    → (last ≡ false → is_missing (not_last (kept c)) ≡ true → is_block_like x ≡ true)
    → Placed last (Node Arm (First (an_arm o p g a x c)))
place_arm true o p g a x (First Nil) i f h = with_comma true o p g a x _ (First Nil) i f seen_end refl refl refl
place_arm true o p g a x (Second (Second Nil)) i f h =
    with_comma true o p g a x _ (First Nil) i f seen_end refl refl refl
place_arm false o p g a x (First Nil) i f h =
    with_comma false o p g a x _ (Second (Second Nil)) i f unseen_end (h refl refl) refl refl
place_arm false o p g a x (Second (Second Nil)) i f h =
    with_comma false o p g a x _ (Second (Second Nil)) i f unseen_end (h refl refl) refl refl
place_arm last o p g a x (Second (First z)) i f h =
    with_comma last o p g a x _ (Second (First z)) i f f.1.1.1.1.1.1 refl refl refl
place_arm last o p g a x (First _) i f h = absurd f.1.1.1.1.1.1.1
place_arm last o p g a x (Second (Second _)) i f h = absurd f.1.1.1.1.1.1.1.1
place_arm last o p g a x (Second _) i f h = absurd f.1.1.1.1.1.1.1
place_arm last o p g a x _ i f h = absurd f.1.1.1.1.1.1

placed_arm : (last : Bool) (x w : Tree) (ts : List Token) → Derives x arm_form ts → Fits w arm_form
    → kept_if (is_arm x) ≡ Keep
    → changed the_comma not_last (kept w) ≡ normal (changed the_comma not_last (kept x))
    → (last ≡ false → sees the_end ts ≡ false) → Placed last (Node Arm (First w))
unfolding held passed place_of same_part stands_behind
placed_arm last x w ts d f v e n =
    each_read (λ x. kept_if (is_arm x) ≡ Keep
    → changed the_comma not_last (kept w) ≡ normal (changed the_comma not_last (kept x))
    → Placed last (Node Arm (First w))) ts
    (λ o p g a y b i t. each_fits
    (λ w. kept_if (is_arm (an_arm o p g a y b)) ≡ Keep
    → changed the_comma not_last (kept w) ≡ normal (changed the_comma not_last (kept (an_arm o p g a y b)))
    → Placed last (Node Arm (First w)))
    (λ q s h m z u j k v e. place_arm last q s h m z u j k
    (λ l c. body_ends y z (form_of_arm z k.1.1.1.1.0.1) (ap form_in e)
    (body_ended y b ts t (n l) (sym (ap (λ r. is_missing (comma_in r)) e) ∙ c)
    (sym (i b) ∙ kept_true (is_arm (an_arm o p g a y b)) v)))) w f) x d v e

-- arms that say so
record Arranged (w : Tree) : Type 0 where
  tree : Tree
  fits : Fits tree (star (lacks the_end) (ref Arm))
  kept_is : kept tree ≡ kept w
  placed : have_commas tree ≡ true
  same : is_none tree ≡ is_none w

abbrev held_in : Tree → Tree
held_in (Node k (First x)) = x
held_in x = x

turn_placed : (last : Bool) (x w : Tree) (ts : List Token) → Derives x (table Arm) ts → Fits w (table Arm)
    → kept (Node Arm w) ≡ normal (kept (Node Arm x)) → (last ≡ false → sees the_end ts ≡ false)
    → Placed last (Node Arm w)
unfolding held passed table
turn_placed last (First x) (First w) ts d f e n = placed_arm last x w ts d.1 f.1 d.0 (ap held_in e) n
turn_placed last (First x) _ ts d f e n = absurd f
turn_placed last (Verbatim x) w ts d f e n = absurd (kept_raw (is_arm x) d.0)
turn_placed last _ w ts d f e n = absurd d

a_turn : (last b : Bool) (t u : Tree) (ts : List Token) → Derives t (ref Arm) ts → Fits u (ref Arm)
    → kept u ≡ apart_if b (normal (kept t)) → (last ≡ false → sees the_end ts ≡ false) → Placed last u
a_turn last b (Node l x) (Node k w) ts d f e n =
    let h : kept (Node Arm w) ≡ normal (kept (Node Arm x)) =
    subst (λ j. kept (Node j w) ≡ normal (kept (Node Arm x))) f.0
    (subst (λ j. kept (Node k w) ≡ normal (kept (Node j x))) d.0
    (e ∙ unmoved_if b (normal (kept (Node l x))) refl)) in
    subst (λ j. Placed last (Node j w)) (sym f.0)
    (turn_placed last x w ts (subst (λ j. Derives x (table j) ts) d.0 d.1) (subst (λ j. Fits w (table j)) f.0 f.3) h n)
a_turn last b (Node l x) _ ts d f e n = absurd f
a_turn last b _ u ts d f e n = absurd d

-- behind one that is not the last stands another
not_end : (y v : Tree) (r : List Token) → Derives y (star (lacks the_end) (ref Arm)) r
    → Fits v (star (lacks the_end) (ref Arm)) → kept v ≡ normal (kept y) → is_none v ≡ false
    → sees the_end (flat y ++ r) ≡ false
not_end (Again x y) v r d f e n =
    is_false (sees the_end (flat x ++ flat y ++ r)) d.0
not_end End End r d f e n = absurd (false≢true (sym n))
not_end End (Again u v) r d f e n = absurd (false≢true (ap is_none e))
not_end End _ r d f e n = absurd f
not_end _ v r d f e n = absurd d

kept_turn : (t y u v : Tree) → kept (Again u v) ≡ normal (kept (Again t y))
    → kept u ≡ apart_if (is_enclosed (kept y) (normal (kept y))) (normal (kept t))
kept_turn t y u v e = ap turn_of e

arranged : (x w : Tree) (r : List Token) → Derives x (star (lacks the_end) (ref Arm)) r
    → Fits w (star (lacks the_end) (ref Arm)) → kept w ≡ normal (kept x) → Arranged w
arranged x End r d f e = record { tree = End; fits = tt; kept_is = refl; placed = refl; same = refl }
arranged (Again t y) (Again u v) r d f e =
    let i = kept_turn t y u v e in
    let one = a_turn (is_none v) _ t u (flat y ++ r) d.1 f.0 i (not_end y v r d.2 f.1 (ap turns_behind e)) in
    let more = arranged y v r d.2 f.1 (ap turns_behind e) in
    record {
      tree = Again one.tree more.tree;
      fits = (one.fits, more.fits);
      kept_is = ap (λ z. Again z (kept more.tree)) one.kept_is ∙ ap (Again (kept u)) more.kept_is;
      placed = ap (λ b. has_comma b one.tree && have_commas more.tree) more.same
          ∙ ap (λ b. b && have_commas more.tree) one.placed ∙ more.placed;
      same = refl;
    }
arranged (Again t y) _ r d f e = absurd f
arranged End (Again u v) r d f e = absurd (false≢true (ap is_none e))
arranged End _ r d f e = absurd f
arranged _ w r d f e = absurd d

pub law_arms : KindLaw Arms
unfolding has_step held passed table
law_arms = record { entry = λ q l. (node_stays Arm, tt); node = go }
  where
    go : (q : Position) → IsPlaced q Arms → (x : Tree) (r : List Token) → is_taken Arms x ≡ true
        → Derives x (table Arms) r → Printed (table Arms) (normal_in (passed Arms q) (kept x))
        → Printed (ref Arms) (normal_in q (Node (held Arms) (kept x)))
    go q l x r o d i =
        let j = arranged x i.tree r d i.fits i.kept_is in
        record {
          tree = Node Arms j.tree;
          fits = (refl, refl, refl, j.fits, j.placed);
          kept_is = ap (Node Arms) (j.kept_is ∙ i.kept_is);
        }

-- They are read: where one without a comma stands, another follows, or it is the last.
no_else : Told (at "else") false (starts Arm)
no_else =
    (λ us. refl) & (λ us. refl) & (λ us. refl) & (λ us. refl) &
    (λ cs h us. simp (ident_not (codes "else") cs reserved_else h) refl) & (λ us. refl) & (λ us. refl) &
    (λ cs h us. refl) & (λ us. refl) & (λ us. refl) & (λ us. refl) & (λ us. refl) & (λ us. refl) & (λ us. refl) &
    (λ cs h us. refl) & (λ us. refl) & (λ us. refl) & (λ us. refl) & (λ us. refl) & (λ cs h us. refl) &
    (λ us. refl) & (λ us. refl) & (λ cs h us. refl) & (λ us. refl) & (λ us. refl) & (λ us. refl) & (λ us. refl) &
    (λ us. refl) & (λ us. refl) & (λ cs h us. refl) & (λ us. refl) & (λ us. refl) & (λ us. refl) & (λ us. refl) &
    (λ cs h us. refl) & (λ us. refl) & (λ us. refl) & (λ us. refl) & (λ us. refl) & (λ us. refl) & (λ us. refl) &
    (λ cs h us. refl) & (λ us. refl) & (λ us. refl) & (λ us. refl) & (λ us. refl) & (λ us. refl) & (λ us. refl) &
    (λ cs h us. refl) & (λ us. refl) & (λ us. refl) & (λ us. refl) & (λ us. refl) &
    (λ cs h us. simp (ident_not (codes "else") cs reserved_else h) refl) & (λ us. refl) & tt

at_next : (ts : List Token) → IsAmong (starts Arm) ts
    → LacksAll ((no (marks "..") then marks ".") ∷ marks "?" ∷ at "else" ∷ []) ts
    × LacksAll (the_end ∷ marks "," ∷ []) ts
at_next ts i = (
  unseen_all ((no (marks "..") then marks ".") ∷ marks "?" ∷ at "else" ∷ []) (starts Arm) ts
      ((search), ((search), (no_else, tt))) i,
  unseen_all (the_end ∷ marks "," ∷ []) (starts Arm) ts ((search), ((search), tt)) i,
)

follows_arm : (x y : Tree) → Fits x (table Arm) → has_comma (is_none y) (Node Arm x) ≡ true
    → Fits y (star (lacks the_end) (ref Arm)) → (is_none y ≡ false → IsAmong (starts Arm) (flat y ++ []))
    → FollowsArm x (flat y ++ [])
unfolding table
follows_arm (First x) y f h t n =
    each_fits (λ z. has_comma (is_none y) (Node Arm (First z)) ≡ true → kept_if (is_arm z) ≡ Keep
    → FollowsArm (First z) (flat y ++ [])) go x f.1 h f.0
  where
    no_more : (y : Tree) → Fits y (star (lacks the_end) (ref Arm)) → is_none y ≡ true → flat y ++ [] ≡ []
    no_more End f e = refl
    no_more (Again u v) f e = absurd (false≢true e)
    no_more _ f e = absurd f

    go : (o p g a z c : Tree) → Asks (an_arm o p g a z) z → Fits (an_arm o p g a z c) arm_form
        → is_comma (is_none y) c ≡ true → kept_if (is_arm (an_arm o p g a z c)) ≡ Keep
        → EndsArm (in_arm z) c (flat y ++ [])
    go o p g a z (First u) i k h v = no_more y t h
    go o p g a z (Second (First u)) i k h v = tt
    go o p g a z (Second (Second u)) i k h v =
        let s = at_next (flat y ++ []) (n (is_false (is_none y) h)) in
        ((sym (i (Second (Second u))) ∙ kept_true (is_arm (an_arm o p g a z (Second (Second u)))) v, s.0), s.1)
    go o p g a z (Second _) i k h v = absurd k.1.1.1.1.1.1.1
    go o p g a z _ i k h v = absurd k.1.1.1.1.1.1
follows_arm _ y f h t n = absurd f

arm_read : (k : Kind) (x : Tree) (ts : List Token) → k ≡ Arm → Ready (Node k x) → FollowsArm x ts
    → Derives (Node k x) (ref Arm) ts × IsAmong (starts Arm) (flat x ++ ts)
unfolding skips
arm_read k x ts e w a =
    let (d, i) = w ts (subst (λ j. After j (Node j x) ts) (sym e) a) in
    (subst (λ j. Derives (Node k x) (ref j) ts) e d, subst (λ j. Begins j (Node j x) ts) e i)

arms_read : (x : Tree) → Fits x (star (lacks the_end) (ref Arm)) → Ready x → have_commas x ≡ true
    → Derives x (star (lacks the_end) (ref Arm)) [] × (is_none x ≡ false → IsAmong (starts Arm) (flat x ++ []))
arms_read End f w n = (refl, λ e. absurd (false≢true (sym e)))
arms_read (Again (Node k x) y) f w n =
    let b = both_true (has_comma (is_none y) (Node k x)) (have_commas y) n in
    let r = arms_read y f.1 w.1 b.1 in
    let g : FollowsArm x (flat y ++ []) =
    follows_arm x y (subst (λ j. Fits x (table j)) f.0.0 f.0.3) b.0 f.1 r.1 in
    let (d, i) = arm_read k x (flat y ++ []) f.0.0 w.0 g in
    let j = at_front (starts Arm) (Node k x) y [] i in
    ((ap not (told_at the_end false (starts Arm) (flat x ++ flat y ++ []) (search) j), d, r.0), λ e. j)
arms_read (Again _ y) f w n = absurd f.0
arms_read _ f w n = absurd f

pub step_arms : Step Arms
unfolding table skips
step_arms x s f n w a =
    let r = arms_read x f w n in
    subst (λ us. Derives x (table Arms) us × Begins Arms x us) (sym (end_is s a.0)) (r.0, begun x r.1)
  where
    begun : (x : Tree) → (is_none x ≡ false → IsAmong (starts Arm) (flat x ++ [])) → AtOrNone (starts Arm) x []
    begun End h = inl refl
    begun (Again y z) h = inr (h refl)
    begun _ h = inr (h refl)
