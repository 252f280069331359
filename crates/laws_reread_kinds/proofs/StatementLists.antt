-- Lists of statements: their law and their step. Behind an expression or a macro that has no ; stands none, since none
-- was read there; and it ends where the next statement begins, or nothing follows it.
use Rattle.std.proofs.Common.{[], ap, append_assoc, inl, inr, List, refl, subst, sym, ⊎_elim, ◌++◌, ◌∙◌, ◌∷◌, ◌≡◌}
use Rattle.std.specs.Prelude.{Bool, codes, cond, false, not, true, ◌&&◌, ◌⊎◌}
use Rattle.std.proofs.lemmas.Bool.{false≢true}
use Rattle.proc_macro2.specs.Token.{Token}
use Rattle.syn_grammar.specs.Kind.{AStatement, InStatement, Kind, Plain, Position, Statements}
use Rattle.syn_grammar.specs.Name.{the_attributes, the_expression}
use Rattle.syn_grammar.specs.Tree.{Again, Called, End, First, flat, Nil, Node, Pair, Second, Tree, Verbatim}
use Rattle.syn_grammar.specs.Part.{choice, each_turn_but_last}
use Rattle.syn_grammar.specs.Gram.{ref, star}
use Rattle.syn_grammar.specs.Look.{lacks, no, sees, the_end, ◌then◌}
use Rattle.syn_grammar.specs.Say.{at, marks}
use Rattle.syn_grammar.specs.Types.{kept_if}
use Rattle.syn_grammar.specs.Statements.{needs_semicolon}
use Rattle.syn_grammar.specs.Forms.{ends_there, form_of}
use Rattle.syn_grammar.specs.Ranks.{skips}
use Rattle.syn_grammar.specs.Table.{table}
use Rattle.syn_grammar.specs.Derives.{Derives}
use Rattle.syn_grammar.specs.Kept.{as_statement, expression_statement, given, held, is_macro, kept, left_in_front}
use Rattle.syn_grammar.specs.Kept.{own_part}
use Rattle.syn_grammar.specs.Normal.{apart_if, is_enclosed, normal, normal_in, passed, place_of}
use Rattle.laws_reread_kinds.specs.After.{After, EndsStatement, EndsThere, expression_of, is_open, whole}
use Rattle.laws_items.proofs.Places.{kept_raw}
use Rattle.laws_reread_kinds.specs.Covered.{all_covered, has_step, is_statement_form}
use Rattle.laws_reread_kinds.specs.Sees.{LacksAll}
use Rattle.laws_reread_kinds.proofs.Choices.{both_true, is_false}
use Rattle.laws_reread_kinds.proofs.Classes.{IsAmong, Sign, ◌&◌}
use Rattle.laws_reread_kinds.proofs.Begins.{Begins}
use Rattle.laws_reread_kinds.proofs.FieldValues.{end_is}
use Rattle.laws_reread_kinds.proofs.Fits.{are_ended, Fits, has_own_semicolons, is_lone_mark, is_open_turn, IsMeant}
use Rattle.laws_reread_kinds.proofs.Keywords.{reserved_else}
use Rattle.laws_reread_kinds.proofs.Readies.{Ready, Step}
use Rattle.laws_reread_kinds.proofs.Fine.{AtOrNone}
use Rattle.laws_reread_kinds.proofs.Parts.{at_front, found_mark, Told, told_at, unseen_all}
use Rattle.laws_reread_kinds.proofs.Printed.{kept_entry, KindLaw, VerdictLaw}
use Rattle.laws_reread_kinds.proofs.Sights.{ident_not}
use Rattle.laws_reread_kinds.proofs.Starts.{starts}
use Rattle.laws_reread_kinds.proofs.WholeItems.{taken_law}
use Rattle.laws_reread_kinds.proofs.Lets.{kept_true}
use Rattle.laws_reread_kinds.proofs.Statements.{a_turn, each_form, is_macro_statement, is_turn, needs_not}
use Rattle.laws_reread_kinds.proofs.Statements.{open_fits, open_held, open_needs, turn_needs, with_names}
use Rattle.laws_reread_kinds.proofs.RawTurns.{turn_printed}

-- of all of them
abbrev pub turn_of : Tree → Tree
turn_of (Again x y) = x
turn_of x = x

abbrev pub turns_behind : Tree → Tree
turns_behind (Again x y) = y
turns_behind x = x

abbrev Passes : Tree → Bool
Passes x = each_turn_but_last (λ y. not (needs_semicolon (choice y))) x

turns_pass : (q : Position) (x w : Tree) (r : List Token) → all_covered x ≡ true
    → Derives x (star (lacks the_end) a_turn) r → Fits w (star (lacks the_end) a_turn) → kept w ≡ normal_in q (kept x)
    → Passes x ≡ true → Passes w ≡ true
turns_pass q (Again t (Again y z)) (Again u (Again v w)) r c d f e n =
    let h = both_true (all_covered t) (all_covered (Again y z)) c in
    let i = both_true (not (needs_semicolon (choice t))) (Passes (Again y z)) n in
    ap (λ b. not b && Passes (Again v w))
    (turn_needs t u q _ (flat (Again y z) ++ r) h.0 (is_turn t _ d.1) f.0 (ap turn_of e)
    (is_false (needs_semicolon (choice t)) i.0))
    ∙ turns_pass q (Again y z) (Again v w) r h.1 d.2 f.1 (ap turns_behind e) i.1
turns_pass q (Again t (Again y z)) (Again u End) r c d f e n = refl
turns_pass q (Again t (Again y z)) (Again u _) r c d f e n = absurd f.1
turns_pass q (Again t (Again y z)) End r c d f e n = refl
turns_pass q (Again t (Again y z)) _ r c d f e n = absurd f
turns_pass q (Again t End) (Again u (Again v w)) r c d f e n = cc (ap turns_behind e)
turns_pass q (Again t End) (Again u End) r c d f e n = refl
turns_pass q (Again t End) (Again u _) r c d f e n = absurd f.1
turns_pass q (Again t End) End r c d f e n = refl
turns_pass q (Again t End) _ r c d f e n = absurd f
turns_pass q (Again t _) w r c d f e n = absurd d.2
turns_pass q End (Again u w) r c d f e n = cc e
turns_pass q End End r c d f e n = refl
turns_pass q End _ r c d f e n = absurd f
turns_pass q _ w r c d f e n = absurd d

turns_verdict : (q : Position) → VerdictLaw q (λ x. kept_if (Passes x)) (star (lacks the_end) a_turn)
turns_verdict q x w r c d f e h = ap kept_if (turns_pass q x w r c d f e (kept_true (Passes x) h))

-- Behind an expression without its ; stands no lone one: none was read there.
abbrev is_first : Tree → Bool
is_first (First x) = true
is_first x = false

closed_as_any : (a e z : Tree) → is_open (expression_statement a e (First z)) ≡ false
closed_as_any a e z = go (is_macro (form_of e))
  where
    go : (b : Bool) → is_open (cond (b && true) (Second (First (Pair a (Pair (own_part (form_of e)) (First z)))))
        (Second (Second
        (Second (Second (Pair (Called the_attributes (left_in_front a))
        (Pair (Called the_expression (given a e)) (First z)))))))) ≡ false
    go true = refl
    go false = refl

end_lacks : (z a e : Tree) (ts : List Token)
    → Derives (Second (Second (Second (Second (Pair a (Pair e z)))))) (table AStatement) ts
    → is_open (as_statement (kept (Second (Second (Second (Second (Pair a (Pair e z)))))))) ≡ true
    → sees (marks ";") ts ≡ false
unfolding table
end_lacks (First z) (Called n a) (Called m e) ts d o =
    absurd (false≢true (sym (closed_as_any (kept a) (kept e) (kept z))
    ∙ subst (λ j. is_open (as_statement (kept (with_names the_attributes a j e (First z)))) ≡ true) d.1.1.1.1.1.0.0
    (subst (λ j. is_open (as_statement (kept (with_names j a m e (First z)))) ≡ true) d.1.1.1.1.0.0 o)))
end_lacks (First z) (Called n a) _ ts d o = absurd d.1.1.1.1.1.0
end_lacks (First z) _ e ts d o = absurd d.1.1.1.1.0
end_lacks (Second Nil) a e ts d o = d.1.1.1.1.1.1.0
end_lacks (Second _) a e ts d o = absurd d.1.1.1.1.1.1.1
end_lacks _ a e ts d o = absurd d.1.1.1.1.1.1

open_lacks : (x : Tree) (ts : List Token) → Derives x (table AStatement) ts → is_open (as_statement (kept x)) ≡ true
    → sees (marks ";") ts ≡ false
unfolding table
open_lacks (Second (Second (Second (Second (Pair a (Pair e z)))))) ts d o = end_lacks z a e ts d o
open_lacks (Second (Second (Second (Second (Pair a _))))) ts d o = absurd d.1.1.1.1.1
open_lacks (Second (Second (Second (Second _)))) ts d o = absurd d.1.1.1.1
open_lacks (Second (Second (Second (First x)))) ts d o = absurd (false≢true o)
open_lacks (Second (Second (Second _))) ts d o = absurd d.1.1.1
open_lacks (Second (Second (First x))) ts d o = absurd (false≢true o)
open_lacks (Second (Second _)) ts d o = absurd d.1.1
open_lacks (Second (First (Pair a (Pair m (First z))))) ts d o = absurd (false≢true o)
open_lacks (Second (First (Pair a (Pair m (Second Nil))))) ts d o = d.1.1.1.1.0
open_lacks (Second (First (Pair a (Pair m (Second _))))) ts d o = absurd d.1.1.1.1.1
open_lacks (Second (First (Pair a (Pair m _)))) ts d o = absurd d.1.1.1.1
open_lacks (Second (First (Pair a _))) ts d o = absurd d.1.1.1
open_lacks (Second (First _)) ts d o = absurd d.1.1
open_lacks (Second _) ts d o = absurd d.1
open_lacks (First x) ts d o = absurd (false≢true o)
open_lacks _ ts d o = absurd d

turn_lacks : (t u : Tree) (q : Position) (b : Bool) (ts : List Token) → Derives t a_turn ts → Fits u a_turn
    → kept u ≡ apart_if b (normal_in q (kept t)) → is_open_turn u ≡ true → sees (marks ";") ts ≡ false
turn_lacks (Second (Node l x)) (Second (Node k w)) q b ts d f e o =
    open_lacks x ts (subst (λ j. Derives x (table j) ts) d.1.0 d.1.1) (open_held l k x w q b d.1.0 f e o)
turn_lacks (First x) (Second (Node k w)) q b ts d f e o =
    absurd (false≢true (ap is_turn e ∙ sym (ap is_turn (lone_as x b))))
  where
    is_turn : Tree → Bool
    is_turn (Second y) = false
    is_turn _ = true

    lone_as : (x : Tree) (b : Bool) → First (normal_in q (kept x)) ≡ apart_if b (First (normal_in q (kept x)))
    lone_as x true = refl
    lone_as x false = refl
turn_lacks (Second (Node l x)) (Second _) q b ts d f e o = absurd (false≢true o)
turn_lacks (Second (Node l x)) _ q b ts d f e o = absurd (false≢true o)
turn_lacks (Second _) u q b ts d f e o = absurd d.1
turn_lacks (First x) (Second _) q b ts d f e o = absurd (false≢true o)
turn_lacks (First x) _ q b ts d f e o = absurd (false≢true o)
turn_lacks _ u q b ts d f e o = absurd d

lone_seen : (y : Tree) (r : List Token) → Derives y (star (lacks the_end) a_turn) r → is_lone_mark y ≡ true
    → sees (marks ";") (flat y ++ r) ≡ true
lone_seen (Again (First x) y) r d e =
    subst (λ us. sees (marks ";") us ≡ true) (sym (append_assoc (flat x) (flat y) r)) d.1.0
lone_seen (Again _ y) r d e = absurd (false≢true e)
lone_seen _ r d e = absurd (false≢true e)

first_apart : (b : Bool) (x : Tree) → is_first (apart_if b (Second (Node AStatement x))) ≡ false
first_apart true x = refl
first_apart false x = refl

lone_back : (q : Position) (y w : Tree) (r : List Token) → Derives y (star (lacks the_end) a_turn) r
    → Fits w (star (lacks the_end) a_turn) → kept w ≡ normal_in q (kept y) → is_lone_mark w ≡ true
    → is_lone_mark y ≡ true
unfolding held passed
lone_back q (Again (First x) y) w r d f e h = refl
lone_back q (Again (Second (Node k x)) y) (Again (First v) w) r d f e h =
    absurd (false≢true (sym (first_apart b (normal (as_statement (kept x))))
    ∙ sym (ap is_first (subst (λ j. First (kept v) ≡ apart_if b (normal_in q (kept (Second (Node j x))))) d.1.1.0
    (ap turn_of e)))))
  where
    b : Bool
    b = is_enclosed (kept y) (normal_in q (kept y))
lone_back q (Again (Second (Node k x)) y) (Again _ v) r d f e h = absurd (false≢true h)
lone_back q (Again (Second (Node k x)) y) _ r d f e h = absurd (false≢true h)
lone_back q (Again (Second _) y) w r d f e h = absurd d.1.1
lone_back q (Again _ y) w r d f e h = absurd d.1
lone_back q End (Again v w) r d f e h = cc e
lone_back q End _ r d f e h = absurd (false≢true h)
lone_back q _ w r d f e h = absurd d

are_back : (q : Position) (x w : Tree) (r : List Token) → Derives x (star (lacks the_end) a_turn) r
    → Fits w (star (lacks the_end) a_turn) → kept w ≡ normal_in q (kept x) → are_ended w ≡ true
are_back q (Again t y) (Again u v) r d f e =
    ap (λ b. not b && are_ended v) (go (is_open_turn u) (is_lone_mark v) refl refl)
    ∙ are_back q y v r d.2 f.1 (ap turns_behind e)
  where
    go : (o l : Bool) → is_open_turn u ≡ o → is_lone_mark v ≡ l → (is_open_turn u && is_lone_mark v) ≡ false
    go true true i j =
        absurd (false≢true (sym (turn_lacks t u q (is_enclosed (kept y) (normal_in q (kept y))) (flat y ++ r) d.1 f.0
        (ap turn_of e) i)
        ∙ lone_seen y r d.2 (lone_back q y v r d.2 f.1 (ap turns_behind e) j)))
    go true false i j = ap (λ b. b && is_lone_mark v) i ∙ j
    go false l i j = ap (λ b. b && is_lone_mark v) i
are_back q (Again t y) End r d f e = refl
are_back q End End r d f e = refl
are_back q End (Again u v) r d f e = cc e
are_back q End _ r d f e = absurd f
are_back q (Again t y) _ r d f e = absurd f
are_back q _ w r d f e = absurd d

abbrev turns_in : Tree → Tree
turns_in (First x) = x
turns_in x = x

own_semicolons : (x w : Tree) (r : List Token) → Derives x (table Statements) r → Fits w (table Statements)
    → kept w ≡ normal_in Plain (kept x) → has_own_semicolons w ≡ true
unfolding table
own_semicolons (First x) (First w) r d f e = are_back Plain x w r d.1 f.1 (ap turns_in e)
own_semicolons (First x) _ r d f e = absurd f
own_semicolons (Verbatim x) w r d f e = absurd (kept_raw (Passes x) d.0)
own_semicolons _ w r d f e = absurd d

pub law_statements : KindLaw Statements
unfolding has_step held passed place_of table
law_statements =
    taken_law Statements refl (λ x w r d f e o. own_semicolons x w r d f e) (λ x. refl) (λ x. refl) (λ q. refl)
    (λ q. refl) (kept_entry Passes (turns_verdict Plain) (turn_printed, (tt, tt)))

-- what stands behind a turn
passes_behind : (t y : Tree) → Passes (Again t y) ≡ true → Passes y ≡ true
passes_behind t (Again v z) n = (both_true (not (needs_semicolon (choice t))) (Passes (Again v z)) n).1
passes_behind t _ n = refl

passes_here : (t v z : Tree) → Passes (Again t (Again v z)) ≡ true → needs_semicolon (choice t) ≡ false
passes_here t v z n =
    is_false (needs_semicolon (choice t)) (both_true (not (needs_semicolon (choice t))) (Passes (Again v z)) n).0

ended_here : (t y : Tree) → is_open_turn t ≡ true → are_ended (Again t y) ≡ true → is_lone_mark y ≡ false
ended_here t y o a =
    is_false (is_lone_mark y)
    (ap (λ b. not (b && is_lone_mark y)) (sym o)
    ∙ (both_true (not (is_open_turn t && is_lone_mark y)) (are_ended y) a).0)

-- a macro in braces ends there
pub macro_ends : (x : Tree) → Fits x (table AStatement) → is_statement_form x ≡ true → is_macro_statement x ≡ true
    → ends_there InStatement (whole (expression_of x)) ≡ true
macro_ends x f n = each_form (λ y. is_macro_statement y ≡ true → ends_there InStatement (whole (expression_of y))
    ≡ true)
    (λ k l o y s g h c. h) (λ k l o y c. absurd (false≢true c)) (λ y g i c. absurd (false≢true c))
    (λ y c. absurd (false≢true c)) (λ a y s i g h c. absurd (false≢true c)) x f n

pub ends_of : (x : Tree) (ts : List Token) → Fits x (table AStatement)
    → (is_open x ≡ false) ⊎ (EndsThere InStatement (expression_of x) ts × LacksAll (marks ";" ∷ []) ts)
    → EndsStatement x ts
unfolding table
ends_of (First x) ts f h = h
ends_of (Second x) ts f h = h
ends_of _ ts f h = absurd f

no_else : Told (at "else") false (starts AStatement)
no_else =
    (λ us h. h.5) & (λ us. refl) & (λ us. refl) & (λ us. refl) & (λ us. refl) & (λ us. refl) & (λ us. refl) &
    (λ us. refl) & (λ us. refl) & (λ us. refl) & (λ us. refl) & (λ us. refl) & (λ us. refl) & (λ us. refl) &
    (λ us. refl) & (λ us. refl) & (λ us. refl) & (λ us. refl) & (λ us. refl) & (λ us. refl) &
    (λ cs h us. simp (ident_not (codes "else") cs reserved_else h) refl) & (λ us. refl) & (λ us. refl) &
    (λ us. refl) & (λ us. refl) & (λ us. refl) & (λ cs h us. refl) & (λ cs us. refl) & (λ us. refl) & (λ us. refl) &
    (λ us. refl) & (λ us. refl) & (λ us. refl) & (λ us. refl) & (λ us. refl) & (λ us. refl) & (λ us. refl) &
    (λ us. refl) & (λ us. refl) & (λ us. refl) & (λ us. refl) & (λ us. refl) & (λ us. refl) & (λ us. refl) &
    (λ us. refl) & (λ us. refl) & (λ us. refl) & (λ us. refl) & (λ us. refl) & (λ us. refl) & (λ us. refl) &
    (λ us. refl) & (λ us. refl) & (λ us. refl) & (λ us. refl) & (λ us. refl) & (λ us. refl) & (λ us. refl) &
    (λ cs h us. simp (ident_not (codes "else") cs reserved_else h) refl) & (λ us. refl) & (λ us. refl) &
    (λ us. refl) & (λ us. refl) & (λ cs h us. refl) & (λ us. refl) & (λ us. refl) & (λ us. refl) & (λ us. refl) & tt

ended_at : (ts : List Token) → IsAmong (starts AStatement) ts
    → LacksAll ((no (marks "..") then marks ".") ∷ marks "?" ∷ at "else" ∷ []) ts × LacksAll (marks ";" ∷ []) ts
ended_at ts i = (
  unseen_all ((no (marks "..") then marks ".") ∷ marks "?" ∷ at "else" ∷ []) (starts AStatement) ts
      (((λ us h. h.3), (search)), (((λ us h. h.4), (search)), (no_else, tt))) i,
  unseen_all (marks ";" ∷ []) (starts AStatement) ts (((λ us h. h.1), (search)), tt) i,
)

open_ends : (x : Tree) (ts : List Token) → Fits x (table AStatement) → is_statement_form x ≡ true → is_open x ≡ true
    → needs_semicolon (Node AStatement x) ≡ false → IsAmong (starts AStatement) ts → EndsStatement x ts
open_ends x ts f n o h i = go (is_macro_statement x) refl
  where
    e : LacksAll ((no (marks "..") then marks ".") ∷ marks "?" ∷ at "else" ∷ []) ts × LacksAll (marks ";" ∷ []) ts
    e = ended_at ts i

    go : (b : Bool) → is_macro_statement x ≡ b → EndsStatement x ts
    go true c = ends_of x ts f (inr ((macro_ends x f n c, e.0), e.1))
    go false c =
        let p = open_fits x f n o c in
        let g : ends_there InStatement p.form ≡ true =
        needs_not (ends_there InStatement p.form)
        (sym (open_needs p.front p.form) ∙ ap (λ z. needs_semicolon (Node AStatement z)) (sym p.is) ∙ h) in
        ends_of x ts f (inr (subst (λ z. EndsThere InStatement (expression_of z) ts) (sym p.is) (g, e.0), e.1))

at_end : (x : Tree) (ts : List Token) → ts ≡ [] → After AStatement x ts
at_end x ts e = subst (After AStatement x) (sym e) (inl (refl, tt))

-- they are read
follows : (x y : Tree) → Fits x (table AStatement) → is_statement_form x ≡ true
    → are_ended (Again (Second (Node AStatement x)) y) ≡ true
    → Passes (Again (Second (Node AStatement x)) y) ≡ true → Fits y (star (lacks the_end) a_turn)
    → (is_lone_mark y ≡ false → AtOrNone (starts AStatement) y []) → After AStatement (Node AStatement x) (flat y ++ [])
follows x End f n a p g h = inl (refl, tt)
follows x (Again v z) f n a p g h = go (is_open x) refl
  where
    ts : List Token
    ts = flat (Again v z) ++ []

    go : (o : Bool) → is_open x ≡ o → After AStatement (Node AStatement x) ts
    go false o = inr (ends_of x ts f (inl o))
    go true o =
        ⊎_elim (λ e. at_end (Node AStatement x) ts (ap (λ us. us ++ []) e))
        (λ i. inr (open_ends x ts f n o (passes_here (Second (Node AStatement x)) v z p) i))
        (h (ended_here (Second (Node AStatement x)) (Again v z) o a))
follows x _ f n a p g h = absurd g

statement_read : (k : Kind) (x : Tree) (ts : List Token) → k ≡ AStatement → Ready (Node k x)
    → After AStatement (Node AStatement x) ts
    → Derives (Node k x) (ref AStatement) ts × IsAmong (starts AStatement) (flat x ++ ts)
unfolding skips
statement_read k x ts e w a =
    let (d, i) = w ts (subst (λ j. After j (Node j x) ts) (sym e) a) in
    (subst (λ j. Derives (Node k x) (ref j) ts) e d, subst (λ j. Begins j (Node j x) ts) e i)

statements_read : (x : Tree) → Fits x (star (lacks the_end) a_turn) → Ready x → are_ended x ≡ true → Passes x ≡ true
    → Derives x (star (lacks the_end) a_turn) [] × AtOrNone (Sign 59 [] ∷ starts AStatement) x []
    × (is_lone_mark x ≡ false → AtOrNone (starts AStatement) x [])
statements_read End f w a n = (refl, inl refl, λ e. inl refl)
statements_read (Again (First m) y) f w a n =
    let r = statements_read y f.1 w.1 (both_true true (are_ended y) a).1 (passes_behind (First m) y n) in
    let (d, i) = (found_mark {c = 59} {cs = []}).fine.by m (flat y ++ []) f.0.1 w.0 tt in
    let j = at_front (Sign 59 [] ∷ []) m y [] i in (
      (
        ap not (told_at the_end false (Sign 59 [] ∷ []) ((flat m ++ flat y) ++ []) ((λ us. refl), tt) j),
        (told_at (marks ";") true (Sign 59 [] ∷ []) (flat m ++ (flat y ++ [])) ((λ us. refl), tt) i, d),
        r.0,
      ),
      inr (⊎_elim (λ h. inl h) (λ h. absurd h) j),
      λ e. absurd (false≢true (sym e)),
    )
statements_read (Again (Second (Node k x)) y) f w a n =
    let r =
    statements_read y f.1 w.1
    (both_true (not (is_open_turn (Second (Node k x)) && is_lone_mark y)) (are_ended y) a).1
    (passes_behind (Second (Node k x)) y n) in
    let ts : List Token = flat y ++ [] in
    let g : After AStatement (Node AStatement x) ts =
    follows x y (subst (λ j. Fits x (table j)) f.0.1.0 f.0.1.3) (subst (λ j. IsMeant j x) f.0.1.0 f.0.1.4)
    (subst (λ j. are_ended (Again (Second (Node j x)) y) ≡ true) f.0.1.0 a)
    (subst (λ j. Passes (Again (Second (Node j x)) y) ≡ true) f.0.1.0 n) f.1 r.2 in
    let (d, i) = statement_read k x ts f.0.1.0 w.0 g in
    let j = at_front (starts AStatement) (Node k x) y [] i in (
      (
        ap not (told_at the_end false (starts AStatement) ((flat x ++ flat y) ++ []) ((λ us h. h.0), (search)) j),
        (told_at (marks ";") false (starts AStatement) (flat x ++ ts) ((λ us h. h.1), (search)) i, d),
        r.0,
      ),
      inr (inr j),
      λ e. inr j,
    )
statements_read (Again (Second _) y) f w a n = absurd f.0.1
statements_read (Again _ y) f w a n = absurd f.0
statements_read _ f w a n = absurd f

pub step_statements : Step Statements
unfolding table skips
step_statements (First x) s f n w a =
    let r = statements_read x f.1 w n (kept_true (Passes x) f.0) in
    subst (λ us. Derives (First x) (table Statements) us × Begins Statements (First x) us) (sym (end_is s a.0))
    ((f.0, r.0), r.1)
step_statements _ s f n w a = absurd f
