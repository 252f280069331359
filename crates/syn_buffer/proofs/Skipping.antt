-- What stands behind the first tree.
use Rattle.std.proofs.Common.{◌≡◌, ℕ, zero, suc, List, [], ◌∷◌, ◌++◌, length, refl, sym, ap, ◌∙◌, arith, append_assoc}
use Rattle.std.specs.Prelude.{Bool, true, false, cond, ◌<◌, ◌==◌, Option, Some, None}
use Rattle.std.proofs.lemmas.List.{map-append}
use Rattle.rust_map.specs.declared.span.Span.{Span}
use Rattle.proc_macro2.specs.declared.delimiter.Delimiter.{Delimiter}
use Rattle.proc_macro2.specs.Flat.{spanned}
use Rattle.rust_leaf.specs.declared.punct.Spacing.{Spacing}
use Rattle.rust_leaf.specs.declared.punct.Spacing.TheVariants.{Alone, Joint}
use Rattle.proc_macro2.specs.Groups.{groups_behind, groups_open, same_delimiter}
use Rattle.proc_macro2.specs.Token.{Token, Opens, Closes, Ident, Literal, Punct, Spanned, plain}
use Rattle.proc_macro2.proofs.GroupLemmas.{after, none_some, some_same}
use Rattle.rust_leaf.specs.Leaf.{punct_char, punct_spacing}
use Rattle.rust_leaf.specs.declared.ident.Ident as Idents
use Rattle.rust_leaf.specs.declared.literal.Literal as Literals
use Rattle.rust_leaf.specs.declared.punct.Punct as Puncts
use Rattle.syn_kinds.specs.Stands.{any_ident_stands, lifetime_stands}
use Rattle.syn_buffer.specs.Leaves.{ident_token, literal_token, punct_token}
use Rattle.syn_buffer.specs.Lifetimes.{ReadsLifetime}
use Rattle.rust_leaf.specs.Leaf.{ident_span}
use Rattle.rust_map.specs.Spans.{last_of}
use Rattle.syn_buffer.specs.Behind.{PassesTree, behind_group, behind_tree, tokens_end}
use Rattle.syn_buffer.specs.Groups.{Enters, IsGroup}
use Rattle.syn_buffer.specs.Position.{IsPast, Scope, Takes, ahead, left, rest}
use Rattle.syn_buffer.specs.declared.position.Cursor.{Cursor}

-- a token that is no mark of a group is passed at any depth
abbrev is_plain_token : Token → Bool
is_plain_token (Opens d) = false
is_plain_token (Closes d) = false
is_plain_token (Ident cs) = true
is_plain_token (Literal cs) = true
is_plain_token (Punct c spacing) = true

any_depth : (n : ℕ) (t : Token) (ts : List Token) → is_plain_token t ≡ true →
    behind_group n (t ∷ ts) ≡ behind_group n ts
any_depth zero (Opens d) ts h = cc
any_depth (suc n) (Opens d) ts h = cc
any_depth zero (Closes d) ts h = cc
any_depth (suc n) (Closes d) ts h = cc
any_depth zero (Ident cs) ts h = refl
any_depth (suc n) (Ident cs) ts h = refl
any_depth zero (Literal cs) ts h = refl
any_depth (suc n) (Literal cs) ts h = refl
any_depth zero (Punct c spacing) ts h = refl
any_depth (suc n) (Punct c spacing) ts h = refl

-- one token more: the groups that are open behind it are as many as are passed
one_more : (ds es : List Delimiter) (t : Token) (ts : List Token) → groups_behind ds t ≡ Some es →
    behind_group (length ds) (t ∷ ts) ≡ behind_group (length es) ts
one_more ds es (Opens d) ts e = ap (λ x. behind_group (length x) ts) (some_same e)
one_more [] es (Closes d) ts e = absurd (none_some e)
one_more (c ∷ ds) es (Closes d) ts e = closed (same_delimiter c d) e
  where
    closed : (b : Bool) → cond b (Some ds) None ≡ Some es → behind_group (length ds) ts ≡ behind_group (length es) ts
    closed true h = ap (λ x. behind_group (length x) ts) (some_same h)
    closed false h = absurd (none_some h)
one_more ds es (Ident cs) ts e =
    any_depth (length ds) (Ident cs) ts refl ∙ ap (λ x. behind_group (length x) ts) (some_same e)
one_more ds es (Literal cs) ts e =
    any_depth (length ds) (Literal cs) ts refl ∙ ap (λ x. behind_group (length x) ts) (some_same e)
one_more ds es (Punct c spacing) ts e =
    any_depth (length ds) (Punct c spacing) ts refl ∙ ap (λ x. behind_group (length x) ts) (some_same e)

-- tokens before which and behind which so many groups are open
behind_open : (ds es : List Delimiter) (ss : List Spanned) (ts : List Token) → groups_open ds ss ≡ Some es →
    behind_group (length ds) (plain ss ++ ts) ≡ behind_group (length es) ts
behind_open ds es [] ts e = ap (λ x. behind_group (length x) ts) (some_same e)
behind_open ds es (s ∷ ss) ts e = past (λ fs. behind_open fs es ss ts) (groups_behind ds s.token) refl e
  where
    past : ((fs : List Delimiter) → groups_open fs ss ≡ Some es →
        behind_group (length fs) (plain ss ++ ts) ≡ behind_group (length es) ts) →
        (o : Option (List Delimiter)) → groups_behind ds s.token ≡ o → after o ss ≡ Some es →
        behind_group (length ds) (s.token ∷ plain ss ++ ts) ≡ behind_group (length es) ts
    past more None p h = absurd (none_some h)
    past more (Some fs) p h = one_more ds fs s.token (plain ss ++ ts) p ∙ more fs h

-- a group
pub behind_is_group : (ts : List Spanned) (d : Delimiter) (span : Span) (inside behind : List Spanned) →
    IsGroup ts d span inside behind →
    behind_tree (plain ts) ≡ plain behind
behind_is_group ts d span inside behind g =
    ap (λ x. behind_tree (plain x)) g.reads
    ∙ ap (behind_group zero) (map-append (λ (s : Spanned). s.token) inside (spanned (Closes d) span ∷ behind))
    ∙ behind_open [] [] inside (Closes d ∷ plain behind) g.whole

pub behind_entered : (c : Cursor) (d : Delimiter) (span : Span) (inside after : Cursor) →
    Enters c d span inside after → left after ≡ behind_tree (left c)
behind_entered c d span inside after e = sym (behind_is_group (rest c) d span (rest inside) (rest after) e.group)

-- a lifetime
pub behind_lifetime : (a b : Cursor) (apostrophe : Span) (i : Idents.Ident) →
    ReadsLifetime (rest a) apostrophe i (rest b) → left b ≡ behind_tree (left a)
behind_lifetime a b apostrophe i r = sym (ap (λ (x : List Spanned). behind_tree (plain x)) r)

-- a joint mark and no identifier behind it
pub no_lifetime : (a b : Cursor) (p : Puncts.Punct) → rest a ≡ punct_token p ∷ rest b → punct_spacing p ≡ Joint →
    any_ident_stands (left b) ≡ false → lifetime_stands (left a) ≡ false
no_lifetime a b p reads joint none =
    ap (λ (x : List Spanned). lifetime_stands (plain x)) reads
    ∙ ap (λ s. lifetime_stands (Punct (punct_char p) s ∷ left b)) joint
    ∙ no_ident (left b) none
  where
    no_ident : (ts : List Token) → any_ident_stands ts ≡ false →
        lifetime_stands (Punct (punct_char p) Joint ∷ ts) ≡ false
    no_ident [] h = refl
    no_ident (Opens d ∷ ts) h = refl
    no_ident (Closes d ∷ ts) h = refl
    no_ident (Ident cs ∷ ts) h = cc
    no_ident (Literal cs ∷ ts) h = refl
    no_ident (Punct c s ∷ ts) h = refl

-- an identifier or a literal
pub behind_name : (a b : Cursor) (i : Idents.Ident) → rest a ≡ ident_token i ∷ rest b → left b ≡ behind_tree (left a)
behind_name a b i r = sym (ap (λ (x : List Spanned). behind_tree (plain x)) r)

pub behind_literal : (a b : Cursor) (l : Literals.Literal) → rest a ≡ literal_token l ∷ rest b →
    left b ≡ behind_tree (left a)
behind_literal a b l r = sym (ap (λ (x : List Spanned). behind_tree (plain x)) r)

-- a mark that begins no lifetime
either : (b : Bool) (ts : List Token) → cond b ts ts ≡ ts
either true ts = refl
either false ts = refl

past_mark : (c : ℕ) (spacing : Spacing) (ts : List Token) → lifetime_stands (Punct c spacing ∷ ts) ≡ false →
    behind_tree (Punct c spacing ∷ ts) ≡ ts
past_mark c Alone ts h = refl
past_mark c Joint [] h = either (c == 39) []
past_mark c Joint (Ident cs ∷ ts) h = ap (λ b. cond b ts (Ident cs ∷ ts)) h
past_mark c Joint (Opens d ∷ ts) h = either (c == 39) (Opens d ∷ ts)
past_mark c Joint (Closes d ∷ ts) h = either (c == 39) (Closes d ∷ ts)
past_mark c Joint (Literal cs ∷ ts) h = either (c == 39) (Literal cs ∷ ts)
past_mark c Joint (Punct d spacing ∷ ts) h = either (c == 39) (Punct d spacing ∷ ts)

pub behind_mark : (a b : Cursor) (p : Puncts.Punct) → rest a ≡ punct_token p ∷ rest b →
    lifetime_stands (left a) ≡ false → left b ≡ behind_tree (left a)
behind_mark a b p r h =
    let same : left a ≡ Punct (punct_char p) (punct_spacing p) ∷ left b = ap (λ (x : List Spanned). plain x) r in
    sym (ap behind_tree same ∙ past_mark (punct_char p) (punct_spacing p) (left b) (sym (ap lifetime_stands same) ∙ h))

-- what each of them is passed as, and where it ends
last_mark : (ts : List Spanned) (d : Delimiter) (s none : Span) →
    tokens_end none (ts ++ spanned (Closes d) s ∷ []) ≡ last_of s
last_mark [] d s none = refl
last_mark (t ∷ ts) d s none = last_mark ts d s _

pub passes_group : (c : Cursor) (d : Delimiter) (span : Span) (inside behind : Cursor) →
    Enters c d span inside behind → PassesTree c behind
passes_group c d span inside behind e =
    let same : behind.end ≡ c.end = ap (λ (s : Scope). s.end) e.past.same_list in
    let opening : Spanned = spanned (Opens d) span in
    let close : Spanned = spanned (Closes d) span in
    record {
      tree = opening ∷ rest inside ++ close ∷ [];
      reads = e.group.reads ∙ ap (λ x. opening ∷ x) (sym (append_assoc (rest inside) (close ∷ []) (rest behind)));
      behind = behind_entered c d span inside behind e;
      past = e.past;
      onward = omega (arith, e.ends, e.within, same);
      taken = e.passed ∙ sym (last_mark (rest inside) d span span);
    }

pub passes_lifetime : (a b : Cursor) (apostrophe : Span) (i : Idents.Ident) →
    ReadsLifetime (rest a) apostrophe i (rest b) → IsPast a b → ahead b < ahead a → b.before ≡ ident_span i →
    PassesTree a b
passes_lifetime a b apostrophe i r past onward taken = record {
  tree = spanned (Punct 39 Joint) apostrophe ∷ ident_token i ∷ [];
  reads = r;
  behind = behind_lifetime a b apostrophe i r;
  past = past;
  onward = onward;
  taken = taken;
}

pub passes_name : (a b : Cursor) (i : Idents.Ident) → Takes a (ident_token i) b → PassesTree a b
passes_name a b i t = record {
  tree = ident_token i ∷ [];
  reads = t.reads;
  behind = behind_name a b i t.reads;
  past = t.past;
  onward = t.onward;
  taken = t.taken;
}

pub passes_literal : (a b : Cursor) (l : Literals.Literal) → Takes a (literal_token l) b → PassesTree a b
passes_literal a b l t = record {
  tree = literal_token l ∷ [];
  reads = t.reads;
  behind = behind_literal a b l t.reads;
  past = t.past;
  onward = t.onward;
  taken = t.taken;
}

pub passes_mark : (a b : Cursor) (p : Puncts.Punct) → Takes a (punct_token p) b →
    lifetime_stands (left a) ≡ false → PassesTree a b
passes_mark a b p t h = record {
  tree = punct_token p ∷ [];
  reads = t.reads;
  behind = behind_mark a b p t.reads h;
  past = t.past;
  onward = t.onward;
  taken = t.taken;
}

pub ruleset passes_first = (passes_group, passes_lifetime, passes_mark, passes_name, passes_literal)
