-- What was read has the shape of its entry, by the clauses of both.
use Rattle.std.specs.Prelude.{List, ◌++◌, ◌∷◌}
use Rattle.proc_macro2.specs.Token.{Token, Punct}
use Rattle.syn_grammar.specs.Kind.{Position}
use Rattle.syn_grammar.specs.Tree.{Tree, AWord, ALiteral, AMark, ALifetime, Raw, Nil, Pair, First, Second, End, Again}
use Rattle.syn_grammar.specs.Tree.{Final, More, Group, Dropped, Called, Verbatim, Node, Whole, Alone, Front, Back}
use Rattle.syn_grammar.specs.Tree.{Infix, flat}
use Rattle.syn_grammar.specs.Gram.{Gram, word, literal, mark, lifetime, raw, nothing, seq, alt, star, many, group}
use Rattle.syn_grammar.specs.Gram.{judged, dropped, called, ref, operand}
use Rattle.syn_grammar.specs.Table.{table}
use Rattle.syn_grammar.specs.Derives.{Derives, Bound}
use Rattle.syn_part.specs.Shape.{IsShaped, HasShapes}

mutual
  pub shaped : (x : Tree) (g : Gram) (rest : List Token) → Derives x g rest → IsShaped x g
  shaped (AWord cs) (word p) rest d = d
  shaped (ALiteral cs) (literal p) rest d = d
  shaped (AMark c cs spacing) (mark e es) rest d = d
  shaped (ALifetime cs) lifetime rest d = tt
  shaped (Raw ts) raw rest d = tt
  shaped Nil nothing rest d = tt
  shaped (Pair x y) (seq a b) rest d = (shaped x a (flat y ++ rest) d.0, shaped y b rest d.1)
  shaped (First x) (alt t a b) rest d = shaped x a rest d.1
  shaped (Second x) (alt t a b) rest d = shaped x b rest d.1
  shaped End (star t g) rest d = tt
  shaped (Again x y) (star t g) rest d = (shaped x g (flat y ++ rest) d.1, shaped y (star t g) rest d.2)
  shaped End (many e c g) rest d = tt
  shaped (Final x) (many e c g) rest d = shaped x g rest d.1
  shaped (More x m spacing y) (many e c g) rest d =
      (d.1, shaped x g (Punct m spacing ∷ flat y ++ rest) d.2, shaped y (many e c g) rest d.3)
  shaped (Group d x) (group e g) rest h = (h.0, shaped x g _ h.1)
  shaped (First x) (judged v g) rest d = shaped x g rest d.1
  shaped (Verbatim x) (judged v g) rest d = shaped x g rest d.1
  shaped (Dropped x) (dropped g) rest d = shaped x g rest d
  shaped (Called n x) (called m g) rest d = (d.0, shaped x g rest d.1)
  shaped (Node k x) (ref l) rest d = (d.0, shaped x (table k) rest d.1)
  shaped (Whole x) (operand p n) rest d = shapes p x rest d.1
  shaped _ _ rest d = absurd d

  pub shapes : (p : Position) (x : Tree) (rest : List Token) → Bound p x rest → HasShapes x
  shapes p (Alone k y) rest b = shaped y (table k) rest b.1
  shapes p (Front k y x) rest b = (shaped y (table k) (flat x ++ rest) b.1, shapes _ x rest b.4)
  shapes p (Back l k y) rest b = (shapes p l (flat y ++ rest) b.4, shaped y (table k) rest b.1)
  shapes p (Infix l k y r) rest b =
      (shapes p l (flat y ++ (flat r ++ rest)) b.4, shaped y (table k) (flat r ++ rest) b.1, shapes _ r rest b.6)
  shapes p _ rest b = absurd b
