-- Each name of a text's program stands in the text, where its token begins.
use Rattle.std.proofs.Common.{◌≡◌, ℕ, ◌+◌, arith, List, [], ◌∷◌, ◌++◌, length, map, refl, sym, ap, ◌∙◌, subst}
use Rattle.std.proofs.Common.{append_assoc, length-append}
use Rattle.std.proofs.lemmas.Option.{slice_get-map}
use Rattle.std.specs.Prelude.{false, Option, Some, None, slice_get}
use Rattle.std.specs.Option.{option_map}
use Rattle.rust_map.specs.Places.{place_of}
use Rattle.proc_macro2.specs.Token.{Ident, Spanned, plain}
use Rattle.proc_macro2.specs.Pieces.{edged, tokens_of}
use Rattle.proc_macro2.specs.FileForest.{IsFileForest}
use Rattle.proc_macro2.specs.Forest.{IsForest}
use Rattle.syn_grammar.specs.Names.{Name, names}
use Rattle.laws_programs.specs.Faults.{begins_at}
use Rattle.laws_programs.specs.Program.{IsProgram, Program}
use Rattle.laws_programs.specs.Stands.{NameStands, AllStandIn}
use Rattle.laws_programs.proofs.Ledges.{AllClear, Clear, all_clear}
use Rattle.laws_programs.proofs.Pieced.{found}

plain_edges : (ss : List Spanned) → plain (map edged ss) ≡ plain ss
plain_edges [] = refl
plain_edges (s ∷ ss) = ap (λ us. s.token ∷ us) (plain_edges ss)

-- a token by its index, from that of its edge
record Edged (ss : List Spanned) (n : ℕ) (t : Spanned) : Type 0 where
  token : Spanned
  there : slice_get ss n ≡ Some token
  is : edged token ≡ t

abbrev some_of : (t : Spanned) → Option Spanned → Spanned
some_of t None = t
some_of t (Some s) = s

edge_of : (ss : List Spanned) (n : ℕ) (t : Spanned) → slice_get (map edged ss) n ≡ Some t → Edged ss n t
edge_of ss n t e = go (slice_get ss n) refl (sym (slice_get-map edged ss n) ∙ e)
  where
    go : (o : Option Spanned) → slice_get ss n ≡ o → option_map edged o ≡ Some t → Edged ss n t
    go None i e = cc e
    go (Some s) i e = record { token = s; there = i; is = ap (some_of t) e }

-- so many characters precede a name: those of what stands in front of the file, and others
behind_none : (i n : ℕ) → i ≡ 0 + n → i ≡ n
behind_none i n e = omega (arith, e)

name_stands : (before text rest : List ℕ) (tokens : List Spanned) → text ≡ before ++ rest
    → IsForest (0 + length before) rest tokens → (m : Name) → Clear (plain tokens) 0 false m
    → NameStands text tokens m
name_stands before text rest tokens joined f m c =
    let base : ℕ = 0 + length before in
    let e : plain (tokens_of base f.pieces) ≡ c.before ++ Ident m.text ∷ c.behind =
    ap plain f.tokens_are ∙ plain_edges tokens ∙ c.split in
    let o = found base f.pieces c.before c.behind m.text e c.clear in
    let g = edge_of tokens (length c.before) o.token
    (ap (λ ss. slice_get ss (length c.before)) (sym f.tokens_are) ∙ o.there) in
    let starts : (edged g.token).span.start ≡ 0 + length before + length o.front =
    ap (λ t. t.span.start) g.is ∙ o.starts in
    let s : (edged g.token).span.start ≡ length (before ++ o.front) =
    omega (arith, starts, length-append before o.front) in record {
      place = place_of text (length (before ++ o.front));
      begins = ap (λ n. option_map (begins_at text) (slice_get tokens n))
          (behind_none m.index (length c.before) c.place)
          ∙ ap (option_map (begins_at text)) g.there ∙ ap (λ n. Some (place_of text n)) s;
      stands = record {
        front = before ++ o.front;
        rest = o.rest;
        split = joined ∙ ap (λ cs. before ++ cs) (f.cover.joined ∙ o.joined)
            ∙ sym (append_assoc before o.front (m.text ++ o.rest));
        there = refl;
      };
    }

all_stand : (before text rest : List ℕ) (tokens : List Spanned) → text ≡ before ++ rest
    → IsForest (0 + length before) rest tokens → (ms : List Name) → AllClear (plain tokens) 0 false ms
    → AllStandIn text tokens ms
all_stand before text rest tokens joined f [] c = tt
all_stand before text rest tokens joined f (m ∷ ms) c =
    (name_stands before text rest tokens joined f m c.0, all_stand before text rest tokens joined f ms c.1)

file_stands : (text : List ℕ) (s : Option (List ℕ)) (tokens : List Spanned) → IsFileForest 0 text s tokens
    → (ms : List Name) → AllClear (plain tokens) 0 false ms → AllStandIn text tokens ms
file_stands text None tokens (none, f) ms c = all_stand [] text text tokens refl f ms c
file_stands text (Some line) tokens f ms c =
    let before : List ℕ = f.shebang.mark ++ line in
    all_stand before text f.rest tokens
    (f.shebang.front.joined ∙ sym (append_assoc f.shebang.mark line f.rest))
    (subst (λ n. IsForest (0 + n) f.rest tokens) f.shebang.counted f.forest) ms c

pub names_stand : (text : List ℕ) (p : Program) → (i : IsProgram text p) → AllStandIn text i.tokens (names p.tree)
names_stand text p i =
    file_stands text p.shebang i.tokens i.forest (names p.tree)
    (subst (λ ts. AllClear ts 0 false (names p.tree)) i.file.spelled (all_clear p.tree [] i.file.derived))
