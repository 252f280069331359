-- What is read before <= and ends in no name that takes arguments is read before < too: the type of a cast.
use Rattle.std.proofs.Common.{◌≡◌, ℕ, List, [], ◌∷◌, ◌++◌, refl, sym, ap, ◌∙◌, subst, append_assoc, inl, inr}
use Rattle.std.proofs.lemmas.List.{append-nil}
use Rattle.std.specs.Prelude.{Bool, true, false, not, ◌&&◌, ◌||◌, ◌==◌, ◌⊎◌, cond, Option, Some, None, codes}
use Rattle.std.proofs.lemmas.Bool.{false≢true}
use Rattle.proc_macro2.specs.Token.{Token, Opens, Ident, Literal, Punct}
use Rattle.proc_macro2.specs.declared.delimiter.Delimiter.{Delimiter}
use Rattle.proc_macro2.specs.declared.delimiter.Delimiter.TheVariants.{Parenthesis, Brace, Bracket}
use Rattle.proc_macro2.specs.Groups.{same_delimiter}
use Rattle.rust_leaf.specs.declared.punct.Spacing.{Spacing}
use Rattle.rust_leaf.specs.declared.punct.Spacing.TheVariants.{Alone as Apart, Joint}
use Rattle.syn_grammar.specs.Kind.{Kind, Style, InType, AtType, WithPlus, WithoutPlus}
use Rattle.syn_grammar.specs.Kind.{Path, Segments, QualifiedPath, AnyPath, AType, DynType, ImplType, ReturnType}
use Rattle.syn_grammar.specs.Kind.{Arguments, AnArgument, ParenthesizedArguments, TupleType, NeverType, ReferenceType}
use Rattle.syn_grammar.specs.Kind.{PointerType, BracketType, InferType, FnPtrType, SomeBounds, Bound, TraitPath}
use Rattle.syn_grammar.specs.Kind.{BoundLifetimes, Lifetimes, Abi, OuterAttributes, OuterAttribute, LifetimeParam}
use Rattle.syn_grammar.specs.Kind.{LifetimeColon, Body, ExprCast}
use Rattle.syn_grammar.specs.Words.{any_text, is_bool, is_ident, is_name, is_path_keyword, is_plain_name, is_string}
use Rattle.rust_leaf.specs.Keywords.{same_text}
use Rattle.syn_grammar.specs.Tree.{Tree, AWord, ALiteral, AMark, ALifetime, Raw, Nil, Pair, First, Second, End, Again}
use Rattle.syn_grammar.specs.Tree.{Final, More, Group, Dropped, Called, Verbatim, Node, Whole, flat}
use Rattle.syn_grammar.specs.Gram.{Gram, word, literal, mark, lifetime, raw, nothing, seq, alt, star, many}
use Rattle.syn_grammar.specs.Gram.{group, judged, dropped, called, ref, operand}
use Rattle.syn_grammar.specs.Look.{Look, seen, sees, behind, first_seen, past_marks, opens, a_word, a_quoted}
use Rattle.syn_grammar.specs.Look.{a_lifetime, a_name, the_word, ◌then◌, ◌or◌, no}
use Rattle.syn_grammar.specs.Say.{◌▸◌, when◌read◌else◌, optional, at, sign, marks, parenthesis, bracket}
use Rattle.syn_grammar.specs.Paths.{arguments_stand, more_segments, parentheses_stand, turbofish}
use Rattle.syn_grammar.specs.Types.{bound_stands}
use Rattle.syn_grammar.specs.Expressions.{postfix_stands}
use Rattle.syn_grammar.specs.Table.{table}
use Rattle.syn_grammar.specs.Derives.{Derives}
use Rattle.syn_grammar.specs.Parens.{ends_in_name}

-- what is seen of two texts
pub if_same : (b : Bool) (o p : Option (List Token)) → seen o ≡ seen p → seen (cond b o None) ≡ seen (cond b p None)
if_same true o p e = e
if_same false o p e = refl

none_here : (b : Bool) (o : Option (List Token)) → b ≡ false → seen (cond b o None) ≡ false
none_here true o e = cc
none_here false o e = refl

first_same : (o p q r : Option (List Token)) → seen o ≡ seen q → seen p ≡ seen r
    → seen (first_seen o p) ≡ seen (first_seen q r)
first_same None p None r e f = f
first_same (Some ts) p (Some us) r e f = refl
first_same None p (Some us) r e f = cc
first_same (Some ts) p None r e f = cc

absent_same : (c d : Bool) (ts us : List Token) (l : Look) → c ≡ d → sees l ts ≡ sees l us
    → seen (behind (cond c None (Some ts)) l) ≡ seen (behind (cond d None (Some us)) l)
absent_same true true ts us l e f = refl
absent_same false false ts us l e f = f
absent_same true false ts us l e f = cc
absent_same false true ts us l e f = cc

then_same : (b : Bool) (o p : Option (List Token)) (l : Look) → seen (behind o l) ≡ seen (behind p l)
    → seen (behind (cond b o None) l) ≡ seen (behind (cond b p None) l)
then_same true o p l e = e
then_same false o p l e = refl

not_two : (c d : ℕ) (i : Spacing) (ts : List Token) → (60 == c) ≡ false
    → sees (past_marks c (d ∷ [])) (Punct 60 i ∷ ts) ≡ false
not_two c d Joint ts e = none_here (60 == c) (past_marks d [] ts) e
not_two c d Apart ts e = refl

not_lifetime : (i : Spacing) (ts : List Token) → sees a_lifetime (Punct 60 i ∷ ts) ≡ false
not_lifetime Joint (Ident cs ∷ ts) = refl
not_lifetime Joint _ = refl
not_lifetime Apart ts = refl

-- a name at the end
ends_next : (t u : Token) (ts : List Token) → ends_in_name (t ∷ u ∷ ts) ≡ ends_in_name (u ∷ ts)
ends_next (Ident cs) u ts = refl
ends_next _ u ts = refl

ends_behind : (us : List Token) (t : Token) (ts : List Token) → ends_in_name (us ++ t ∷ ts) ≡ ends_in_name (t ∷ ts)
ends_behind [] t ts = refl
ends_behind (u ∷ []) t ts = ends_next u t ts
ends_behind (u ∷ v ∷ us) t ts = ends_next u v (us ++ t ∷ ts) ∙ ends_behind (v ∷ us) t ts

no_name_behind : (us ts : List Token) → ends_in_name (us ++ ts) ≡ false → ends_in_name ts ≡ false
no_name_behind us [] e = refl
no_name_behind us (t ∷ ts) e = sym (ends_behind us t ts) ∙ e

either_name : (a b c : Bool) → (a || c) ≡ true → b ≡ false → (((a || b) || c) && not b) ≡ true
either_name true false c e f = refl
either_name false false true e f = refl
either_name false false false e f = cc
either_name a true c e f = cc

takes_arguments : (cs : List ℕ) → is_plain_name cs ≡ true → is_path_keyword cs ≡ false
    → ends_in_name (Ident cs ∷ []) ≡ true
unfolding is_plain_name is_name
takes_arguments cs e f = either_name (is_ident cs) (is_path_keyword cs) _ e f

if_lacks : (b : Bool) (ts : List Token) → seen (cond b (Some ts) None) ≡ false → b ≡ false
if_lacks true ts e = cc
if_lacks false ts e = refl

abbrev is_carried : Kind → Bool
is_carried (Path InType) = true
is_carried (Path AtType) = true
is_carried (QualifiedPath AtType) = true
is_carried (AnyPath AtType) = true
is_carried (AType p) = true
is_carried (DynType p) = true
is_carried (ImplType p) = true
is_carried (ReturnType WithoutPlus) = true
is_carried Arguments = true
is_carried AnArgument = true
is_carried ParenthesizedArguments = true
is_carried TupleType = true
is_carried NeverType = true
is_carried ReferenceType = true
is_carried PointerType = true
is_carried BracketType = true
is_carried InferType = true
is_carried FnPtrType = true
is_carried SomeBounds = true
is_carried Bound = true
is_carried TraitPath = true
is_carried BoundLifetimes = true
is_carried Lifetimes = true
is_carried Abi = true
is_carried OuterAttributes = true
is_carried OuterAttribute = true
is_carried LifetimeParam = true
is_carried LifetimeColon = true
is_carried Body = true
is_carried k = false

module _ (spacing : Spacing) (rest : List Token) where
  abbrev pub at_most : List Token
  at_most = Punct 60 Joint ∷ Punct 61 Apart ∷ []

  abbrev pub less : List Token
  less = Punct 60 spacing ∷ rest

  -- a test that tells them not apart
  abbrev IsSteady : (List Token → Bool) → Type 0
  IsSteady t = (ws : List Token) → t (ws ++ at_most) ≡ t (ws ++ less)

  a_steady_word : (p : List ℕ → Bool) → IsSteady (sees (a_word p))
  a_steady_word p [] = refl
  a_steady_word p (Ident cs ∷ ws) = if_same (p cs) (Some (ws ++ at_most)) (Some (ws ++ less)) refl
  a_steady_word p _ = refl

  text : (cs : List ℕ) → IsSteady (sees (the_word cs))
  text cs ws = a_steady_word (λ ds. same_text cs ds) ws

  quoted : (p : List ℕ → Bool) → IsSteady (sees (a_quoted p))
  quoted p [] = refl
  quoted p (Literal cs ∷ ws) = if_same (p cs) (Some (ws ++ at_most)) (Some (ws ++ less)) refl
  quoted p _ = refl

  opened : (d : Delimiter) → IsSteady (sees (opens d))
  opened d [] = refl
  opened d (Opens e ∷ ws) = if_same (same_delimiter e d) (Some (ws ++ at_most)) (Some (ws ++ less)) refl
  opened d _ = refl

  one : (c : ℕ) → IsSteady (sees (past_marks c []))
  one c [] = if_same (60 == c) (Some (Punct 61 Apart ∷ [])) (Some rest) refl
  one c (Punct d i ∷ ws) = if_same (d == c) (Some (ws ++ at_most)) (Some (ws ++ less)) refl
  one c _ = refl

  two_behind : (c d : ℕ) (t : Token) (ws : List Token)
      → sees (past_marks c (d ∷ [])) (t ∷ (ws ++ at_most)) ≡ sees (past_marks c (d ∷ [])) (t ∷ (ws ++ less))
  two_behind c d (Punct e Joint) ws =
      if_same (e == c) (past_marks d [] (ws ++ at_most)) (past_marks d [] (ws ++ less)) (one d ws)
  two_behind c d (Punct e Apart) ws = refl
  two_behind c d _ ws = refl

  two : (c d : ℕ) → (60 == c) ≡ false → IsSteady (sees (past_marks c (d ∷ [])))
  two c d e [] = not_two c d Joint (Punct 61 Apart ∷ []) e ∙ sym (not_two c d spacing rest e)
  two c d e (t ∷ ws) = two_behind c d t ws

  quote : IsSteady (sees a_lifetime)
  quote [] = sym (not_lifetime spacing rest)
  quote (Punct c Joint ∷ []) = refl
  quote (Punct c Joint ∷ Ident cs ∷ ws) = if_same (c == 39) (Some (ws ++ at_most)) (Some (ws ++ less)) refl
  quote (Punct c Joint ∷ _) = refl
  quote (Punct c Apart ∷ ws) = refl
  quote _ = refl

  either : (a b : Look) → IsSteady (sees a) → IsSteady (sees b) → IsSteady (sees (a or b))
  either a b e f ws =
      first_same (a (ws ++ at_most)) (b (ws ++ at_most)) (a (ws ++ less)) (b (ws ++ less)) (e ws) (f ws)

  absent : (a b : Look) → IsSteady (sees a) → IsSteady (sees b) → IsSteady (sees (no a then b))
  absent a b e f ws =
      absent_same (sees a (ws ++ at_most)) (sees a (ws ++ less)) (ws ++ at_most) (ws ++ less) b (e ws) (f ws)

  word_then : (p : List ℕ → Bool) (b : Look) → IsSteady (sees b) → IsSteady (sees (a_word p then b))
  word_then p b f [] = refl
  word_then p b f (Ident cs ∷ ws) = then_same (p cs) (Some (ws ++ at_most)) (Some (ws ++ less)) b (f ws)
  word_then p b f _ = refl

  turbofish_behind : (t : Token) (ws : List Token)
      → sees turbofish (t ∷ (ws ++ at_most)) ≡ sees turbofish (t ∷ (ws ++ less))
  turbofish_behind (Punct c Joint) [] = then_same (c == 58) None None (marks "<") refl
  turbofish_behind (Punct c Joint) (Punct d i ∷ ws) =
      then_same (c == 58) (cond (d == 58) (Some (ws ++ at_most)) None) (cond (d == 58) (Some (ws ++ less)) None)
      (marks "<") (then_same (d == 58) (Some (ws ++ at_most)) (Some (ws ++ less)) (marks "<") (one 60 ws))
  turbofish_behind (Punct c Joint) (t ∷ ws) = refl
  turbofish_behind _ ws = refl

  -- arguments stand there or not, if something stands before the <
  abbrev IsSteadyBehind : Look → Type 0
  IsSteadyBehind l = (t : Token) (ws : List Token) → sees l (t ∷ (ws ++ at_most)) ≡ sees l (t ∷ (ws ++ less))

  abbrev IsTyped : Style → Type 0
  IsTyped s = IsSteadyBehind (arguments_stand s) × IsSteady (sees (parentheses_stand s))

  arguments_behind : IsSteadyBehind (turbofish or (no (marks "<=") then marks "<"))
  arguments_behind t ws =
      first_same (turbofish (t ∷ (ws ++ at_most))) _ (turbofish (t ∷ (ws ++ less))) _ (turbofish_behind t ws)
      (absent_same (sees (marks "<=") (t ∷ (ws ++ at_most))) (sees (marks "<=") (t ∷ (ws ++ less)))
      (t ∷ (ws ++ at_most)) (t ∷ (ws ++ less)) (marks "<") (two_behind 60 61 t ws) (one 60 (t ∷ ws)))

  in_type : IsTyped InType
  in_type = (arguments_behind, λ ws. refl)

  at_type : IsTyped AtType
  at_type = (arguments_behind, opened Parenthesis)

  -- an entry whose tests are such
  abbrev IsCarried : Gram → Type 0
  IsCarried raw = ⊥
  IsCarried (seq a b) = IsCarried a × IsCarried b
  IsCarried (alt t a b) = IsSteady t × IsCarried a × IsCarried b
  IsCarried (star t g) = IsSteady t × IsCarried g
  IsCarried (many e c g) = IsSteady e × IsCarried g
  IsCarried (judged v g) = IsCarried g
  IsCarried (dropped g) = IsCarried g
  IsCarried (called n g) = IsCarried g
  IsCarried (ref k) = (is_carried k ≡ true) ⊎ ((s : Style) × (k ≡ Segments s) × IsTyped s)
  IsCarried (operand p n) = ⊥
  IsCarried g = Unit {0}

  colons : IsSteady (sees (marks "::"))
  colons = two 58 58 refl

  bounds : IsSteady (sees bound_stands)
  bounds =
      either a_lifetime (marks "?" or at "for" or marks "::" or a_name) quote
      (either (marks "?") (at "for" or marks "::" or a_name) (one 63)
      (either (at "for") (marks "::" or a_name) (text (codes "for"))
      (either (marks "::") a_name colons (a_steady_word is_name))))

  postfix : IsSteady (sees postfix_stands)
  postfix =
      either (no (marks "..") then marks ".") (marks "?" or parenthesis or bracket)
      (absent (marks "..") (marks ".") (two 46 46 refl) (one 46))
      (either (marks "?") (parenthesis or bracket) (one 63)
      (either parenthesis bracket (opened Parenthesis) (opened Bracket)))

  entry : (k : Kind) → is_carried k ≡ true → IsCarried (table k)
  unfolding table
  entry (Path InType) e = ((colons, tt, tt), inr (InType, refl, in_type))
  entry (Path AtType) e = ((colons, tt, tt), inr (AtType, refl, at_type))
  entry (QualifiedPath AtType) e =
      (tt, (inl refl, ((text (codes "as"), (tt, inl refl), tt), (tt, (tt, inr (AtType, refl, at_type))))))
  entry (AnyPath AtType) e = (one 60, inl refl, inl refl)
  entry (AType p) e = (
    opened Parenthesis,
    inl refl,
    (
      one 33,
      inl refl,
      (
        one 38,
        inl refl,
        (
          one 42,
          inl refl,
          (
            opened Bracket,
            inl refl,
            (
              text (codes "_"),
              inl refl,
              (
                text (codes "dyn"),
                inl refl,
                (
                  text (codes "impl"),
                  inl refl,
                  (
                    either (at "for") (at "unsafe" or at "extern" or at "fn") (text (codes "for"))
                        (either (at "unsafe") (at "extern" or at "fn") (text (codes "unsafe"))
                        (either (at "extern") (at "fn") (text (codes "extern")) (text (codes "fn")))),
                    inl refl,
                    inl refl,
                  ),
                ),
              ),
            ),
          ),
        ),
      ),
    ),
  )
  entry (DynType WithPlus) e = (tt, inl refl)
  entry (DynType WithoutPlus) e = (tt, (quote, tt, inl refl))
  entry (ImplType WithPlus) e = (tt, inl refl)
  entry (ImplType WithoutPlus) e = (tt, (quote, tt, inl refl))
  entry (ReturnType WithoutPlus) e = (two 45 62 refl, (tt, inl refl), tt)
  entry Arguments e = ((colons, tt, tt), (tt, ((one 62, inl refl), tt)))
  entry AnArgument e = (
    quote,
    tt,
    (
      either (a_quoted any_text) (a_word is_bool) (quoted any_text) (a_steady_word is_bool),
      (quoted any_text, tt, tt),
      (opened Brace, inl refl, (word_then is_ident (marks "=") (one 61), (tt, (tt, inl refl)), inl refl)),
    ),
  )
  entry ParenthesizedArguments e = (tt, (two 45 62 refl, (tt, inl refl), tt))
  entry TupleType e = tt
  entry NeverType e = tt
  entry ReferenceType e = (tt, ((quote, tt, tt), ((text (codes "mut"), tt, tt), inl refl)))
  entry PointerType e = (tt, ((text (codes "const"), tt, tt), inl refl))
  entry BracketType e = tt
  entry InferType e = tt
  entry FnPtrType e = (
    (text (codes "for"), inl refl, tt),
    ((text (codes "unsafe"), tt, tt), ((text (codes "extern"), inl refl, tt), (tt, (tt, inl refl)))),
  )
  entry SomeBounds e = (λ ws. ap not (bounds ws), inl refl)
  entry Bound e = (quote, tt, inl refl)
  entry TraitPath e = ((one 63, tt, (text (codes "for"), inl refl, tt)), inl refl)
  entry BoundLifetimes e = (tt, (tt, ((one 62, inl refl), tt)))
  entry Lifetimes e = (λ ws. ap not (quote ws), tt)
  entry Abi e = (tt, (quoted is_string, tt, tt))
  entry OuterAttributes e = (one 35, inl refl)
  entry OuterAttribute e = (tt, tt)
  entry LifetimeParam e = (inl refl, (tt, inl refl))
  entry LifetimeColon e = (one 58, (tt, inl refl), tt)
  entry Body e = tt
  entry _ e = absurd (false≢true e)

  -- a test at the tokens of a tree
  moved : (t : List Token → Bool) (us ws : List Token) (b : Bool) → IsSteady t → t (us ++ (ws ++ at_most)) ≡ b
      → t (us ++ (ws ++ less)) ≡ b
  moved t us ws b s e =
      ap t (sym (append_assoc us ws less)) ∙ sym (s (us ++ ws)) ∙ ap t (append_assoc us ws at_most) ∙ e

  -- behind a name that takes arguments something stands before the <
  abbrev IsSome : List Token → Type 0
  IsSome zs = (t : Token) × (us : List Token) × (zs ≡ t ∷ us)

  some_behind : (cs : List ℕ) (zs : List Token) → is_plain_name cs ≡ true → is_path_keyword cs ≡ false
      → ends_in_name (Ident cs ∷ zs) ≡ false → IsSome zs
  some_behind cs [] p k n =
      let f : true ≡ false = sym (takes_arguments cs p k) ∙ n in
      cc f
  some_behind cs (t ∷ us) p k n = (t, us, refl)

  moved_behind : (l : Look) (us ws : List Token) (b : Bool) → IsSteadyBehind l → IsSome (us ++ ws)
      → sees l (us ++ (ws ++ at_most)) ≡ b → sees l (us ++ (ws ++ less)) ≡ b
  moved_behind l us ws b i z e =
      ap (sees l) (sym (append_assoc us ws less)) ∙ ap (λ vs. sees l (vs ++ less)) z.2 ∙ sym (i z.0 z.1)
      ∙ ap (λ vs. sees l (vs ++ at_most)) (sym z.2) ∙ ap (sees l) (append_assoc us ws at_most) ∙ e

  abbrev without_arguments : Style → Gram
  without_arguments s =
      when marks "::" read sign "::" ▸ ref (Segments s)
      else optional (parentheses_stand s) (ref ParenthesizedArguments)

  abbrev behind_name : Style → Gram
  behind_name s = when arguments_stand s read ref Arguments ▸ more_segments s else without_arguments s

  joined : (x : Tree) (g : Gram) (us ws : List Token) → Derives x g (us ++ (ws ++ at_most))
      → Derives x g ((us ++ ws) ++ at_most)
  joined x g us ws d = subst (Derives x g) (sym (append_assoc us ws at_most)) d

  parted : (x : Tree) (g : Gram) (us ws : List Token) → Derives x g ((us ++ ws) ++ less)
      → Derives x g (us ++ (ws ++ less))
  parted x g us ws d = subst (Derives x g) (append_assoc us ws less) d

  mutual
    unfolding table

    carry : (x : Tree) (g : Gram) (ws : List Token) → IsCarried g → Derives x g (ws ++ at_most)
        → ends_in_name (flat x ++ ws) ≡ false → Derives x g (ws ++ less)
    carry (AWord cs) (word p) ws q d n = d
    carry (ALiteral cs) (literal p) ws q d n = d
    carry (AMark c cs i) (mark e es) ws q d n = d
    carry (ALifetime cs) lifetime ws q d n = tt
    carry (Raw ts) raw ws q d n = absurd q
    carry Nil nothing ws q d n = tt
    carry (Pair x y) (seq a b) ws q d n =
        let m : ends_in_name (flat x ++ (flat y ++ ws)) ≡ false =
        ap ends_in_name (sym (append_assoc (flat x) (flat y) ws)) ∙ n in (
          parted x a (flat y) ws (carry x a (flat y ++ ws) q.0 (joined x a (flat y) ws d.0) m),
          carry y b ws q.1 d.1 (no_name_behind (flat x) (flat y ++ ws) m),
        )
    carry (First x) (alt t a b) ws q d n = (moved t (flat x) ws true q.0 d.0, carry x a ws q.1 d.1 n)
    carry (Second x) (alt t a b) ws q d n = (moved t (flat x) ws false q.0 d.0, carry x b ws q.2 d.1 n)
    carry End (star t g) ws q d n = sym (q.0 ws) ∙ d
    carry (Again x y) (star t g) ws q d n =
        let m : ends_in_name (flat x ++ (flat y ++ ws)) ≡ false =
        ap ends_in_name (sym (append_assoc (flat x) (flat y) ws)) ∙ n in (
          moved t (flat x ++ flat y) ws true q.0 d.0,
          parted x g (flat y) ws (carry x g (flat y ++ ws) q.1 (joined x g (flat y) ws d.1) m),
          carry y (star t g) ws q d.2 (no_name_behind (flat x) (flat y ++ ws) m),
        )
    carry End (many e c g) ws q d n = sym (q.0 ws) ∙ d
    carry (Final x) (many e c g) ws q d n =
        (moved e (flat x) ws false q.0 d.0, carry x g ws q.1 d.1 n, sym (one c ws) ∙ d.2)
    carry (More x j i y) (many e c g) ws q d n =
        let m : ends_in_name (flat x ++ (Punct j i ∷ (flat y ++ ws))) ≡ false =
        ap ends_in_name (sym (append_assoc (flat x) (Punct j i ∷ flat y) ws)) ∙ n in (
          moved e (flat x ++ (Punct j i ∷ flat y)) ws false q.0 d.0,
          d.1,
          parted x g (Punct j i ∷ flat y) ws
              (carry x g (Punct j i ∷ (flat y ++ ws)) q.1 (joined x g (Punct j i ∷ flat y) ws d.2) m),
          carry y (many e c g) ws q d.3
              (no_name_behind (flat x ++ (Punct j i ∷ [])) (flat y ++ ws)
              (ap ends_in_name (append_assoc (flat x) (Punct j i ∷ []) (flat y ++ ws)) ∙ m)),
        )
    carry (Group e x) (group f g) ws q d n = d
    carry (First x) (judged v g) ws q d n = (d.0, carry x g ws q d.1 n)
    carry (Verbatim x) (judged v g) ws q d n = (d.0, carry x g ws q d.1 n)
    carry (Dropped x) (dropped g) ws q d n = carry x g ws q d n
    carry (Called m x) (called k g) ws q d n = (d.0, carry x g ws q d.1 n)
    carry (Node k x) (ref l) ws (inl q) d n =
        (d.0, carry x (table k) ws (entry k (ap is_carried d.0 ∙ q)) d.1 n)
    carry (Node k x) (ref l) ws (inr q) d n = (
      d.0,
      subst (λ j. Derives x (table j) (ws ++ less)) (sym (d.0 ∙ q.1))
          (segments q.0 q.2 x ws (subst (λ j. Derives x (table j) (ws ++ at_most)) (d.0 ∙ q.1) d.1) n),
    )
    carry (Whole x) (operand p m) ws q d n = absurd q
    carry _ _ ws q d n = absurd d

    segments : (s : Style) → IsTyped s → (x : Tree) (ws : List Token)
        → Derives x (table (Segments s)) (ws ++ at_most) → ends_in_name (flat x ++ ws) ≡ false
        → Derives x (table (Segments s)) (ws ++ less)
    segments s i (First x) ws d n = (
      moved (sees (a_word is_path_keyword)) (flat x) ws true (a_steady_word is_path_keyword) d.0,
      carry x (word is_path_keyword ▸ more_segments s) ws (tt, (colons, (tt, inr (s, refl, i)), tt)) d.1 n,
    )
    segments s i (Second (Pair (AWord cs) y)) ws d n = (
      moved (sees (a_word is_path_keyword)) (Ident cs ∷ flat y) ws false (a_steady_word is_path_keyword) d.0,
      (
        d.1.0,
        named s i y ws (some_behind cs (flat y ++ ws) d.1.0 (if_lacks (is_path_keyword cs) _ d.0) n) d.1.1
            (no_name_behind (Ident cs ∷ []) (flat y ++ ws) n),
      ),
    )
    segments s i (Second (Pair _ y)) ws d n = absurd d.1.0
    segments s i (Second _) ws d n = absurd d.1
    segments s i _ ws d n = absurd d

    named : (s : Style) → IsTyped s → (y : Tree) (ws : List Token) → IsSome (flat y ++ ws)
        → Derives y (behind_name s) (ws ++ at_most) → ends_in_name (flat y ++ ws) ≡ false
        → Derives y (behind_name s) (ws ++ less)
    named s i (First a) ws f d n = (
      moved_behind (arguments_stand s) (flat a) ws true i.0 f d.0,
      carry a (ref Arguments ▸ more_segments s) ws (inl refl, (colons, (tt, inr (s, refl, i)), tt)) d.1 n,
    )
    named s i (Second z) ws f d n = (
      moved_behind (arguments_stand s) (flat z) ws false i.0 f d.0,
      carry z (without_arguments s) ws (colons, (tt, inr (s, refl, i)), (i.1, inl refl, tt)) d.1 n,
    )
    named s i _ ws f d n = absurd d

  pub before_less : (y : Tree) → Derives y (table ExprCast) at_most → ends_in_name (flat y) ≡ false
      → Derives y (table ExprCast) less
  unfolding table
  before_less y d n =
      carry y (table ExprCast) [] (tt, (inl refl, (postfix, tt, tt))) d (ap ends_in_name (append-nil (flat y)) ∙ n)
