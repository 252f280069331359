-- Entries that end in a stop: a semicolon, or a group in braces.
use Rattle.std.proofs.Common.{◌≡◌, [], refl}
use Rattle.std.specs.Prelude.{Bool, true, false}
use Rattle.proc_macro2.specs.declared.delimiter.Delimiter.TheVariants.{Brace}
use Rattle.syn_grammar.specs.Kind.{Kind}
use Rattle.syn_grammar.specs.Kind.{InFile, InForeign, InTrait, InImpl}
use Rattle.syn_grammar.specs.Kind.{Body, NamedFields, AStruct, AnEnum, AUnion, AStatic}
use Rattle.syn_grammar.specs.Kind.{AConst, AnExternCrate, AForeignModule, AUse}
use Rattle.syn_grammar.specs.Kind.{AModule, ATrait, AConstTrait, ARestrictedTrait, AnImpl, AMacroDefinition}
use Rattle.syn_grammar.specs.Kind.{AFunction, ATypeAlias, ItemMacro, AnItem, AForeignItem}
use Rattle.syn_grammar.specs.Kind.{ATraitItem, AnImplItem}
use Rattle.syn_grammar.specs.Words.{is_ident}
use Rattle.syn_grammar.specs.Gram.{Gram, mark, never, seq, alt, group, judged, called, ref}
use Rattle.syn_grammar.specs.Items.{trait_form}
use Rattle.syn_grammar.specs.Lists.{item_form}
use Rattle.syn_grammar.specs.Table.{table}
use Rattle.laws_items.proofs.Apart.{SaysSame, alias_same, polarity_same, trait_same, verdict_same}
use Rattle.laws_items.proofs.Alike.{IsSteady, blind_sure, sure_then}
use Rattle.laws_items.proofs.Alike.{sure_maybe, sure_no, steady_sees, sure_word}
use Rattle.laws_items.proofs.Alike.{blind_sign}
use Rattle.laws_items.proofs.Alike.{blind_opens}
use Rattle.laws_items.proofs.Steady.{no_kind, a_mark, the_text, by_mark, by_text, by_brace, by_parenthesis}
use Rattle.laws_items.proofs.Steady.{sure_safety, by_signature, by_macro, sure_trait, by_restricted_trait, by_texts}
use Rattle.laws_items.proofs.Steady.{by_trait, sure_default, by_impl, steady_restriction, steady_safety}
use Rattle.laws_items.proofs.Steady.{steady_type_end, steady_macro_name, Steady}

-- kinds that end in a stop
abbrev pub is_ended : Kind → Bool
is_ended Body = true
is_ended NamedFields = true
is_ended AStruct = true
is_ended AnEnum = true
is_ended AUnion = true
is_ended AStatic = true
is_ended AConst = true
is_ended AnExternCrate = true
is_ended AForeignModule = true
is_ended AUse = true
is_ended AModule = true
is_ended ATrait = true
is_ended AConstTrait = true
is_ended ARestrictedTrait = true
is_ended AnImpl = true
is_ended AMacroDefinition = true
is_ended (AFunction p) = true
is_ended (ATypeAlias p) = true
is_ended (ItemMacro p) = true
is_ended AnItem = true
is_ended AForeignItem = true
is_ended ATraitItem = true
is_ended AnImplItem = true
is_ended _ = false

-- the parts in front see nothing behind it, and no verdict sees how the stop is spaced
abbrev pub Ended : Gram → Type 0
Ended (mark c cs) = (c ≡ 59) × (cs ≡ [])
Ended never = Unit {0}
Ended (seq g h) = Steady g × Ended h
Ended (alt t g h) = IsSteady t × Ended g × Ended h
Ended (group d g) = d ≡ Brace
Ended (judged v g) = SaysSame v × Ended g
Ended (called n g) = Ended g
Ended (ref k) = is_ended k ≡ true
Ended _ = ⊥

-- entries that end in a stop
ended_trait : Ended trait_form
ended_trait = (
  (by_text "unsafe", tt, tt),
  (
    (by_text "auto", tt, tt),
    (
      tt,
      (
        tt,
        (
          refl,
          (
            by_mark "=" refl,
            (
              tt,
              (
                refl,
                (refl, (refl, refl)),
              ),
            ),
            (refl, (refl, refl)),
          ),
        ),
      ),
    ),
  ),
)

ended_form : Ended item_form
ended_form = (
  by_signature InFile,
  refl,
  (
    by_texts "extern" "crate",
    refl,
    (
      by_text "extern",
      refl,
      (
        by_text "use",
        refl,
        (
          by_text "static",
          refl,
          (
            steady_sees (blind_sure (sure_then (the_text "const") sure_trait)),
            refl,
            (
              steady_sees (blind_sure (sure_then (the_text "const") (sure_then (sure_maybe (the_text "unsafe"))
                  (the_text "impl")))),
              refl,
              (
                by_text "const",
                refl,
                (
                  by_texts "unsafe" "extern",
                  refl,
                  (
                    by_texts "unsafe" "mod",
                    refl,
                    (
                      by_texts "unsafe" "impl",
                      refl,
                      (
                        by_text "unsafe",
                        refl,
                        (
                          by_text "mod",
                          refl,
                          (
                            by_text "type",
                            refl,
                            (
                              by_text "struct",
                              refl,
                              (
                                by_text "enum",
                                refl,
                                (
                                  steady_sees (blind_sure
                                      (sure_then (the_text "union") (sure_word is_ident))),
                                  refl,
                                  (
                                    by_restricted_trait,
                                    refl,
                                    (
                                      by_trait,
                                      refl,
                                      (
                                        by_impl,
                                        refl,
                                        (by_text "macro", refl, (by_macro, refl, tt)),
                                      ),
                                    ),
                                  ),
                                ),
                              ),
                            ),
                          ),
                        ),
                      ),
                    ),
                  ),
                ),
              ),
            ),
          ),
        ),
      ),
    ),
  ),
)

pub ended_table : (k : Kind) → is_ended k ≡ true → Ended (table k)
unfolding table
ended_table Body e =
    refl
ended_table NamedFields e =
    refl
ended_table AStruct e =
    (tt, (tt, (refl, (by_parenthesis, (refl, (refl, (refl, refl))), (refl, (by_brace, refl, (refl, refl)))))))
ended_table AnEnum e =
    (tt, (tt, (refl, (refl, refl))))
ended_table AUnion e =
    (tt, (tt, (refl, (refl, refl))))
ended_table AStatic e = (
  tt,
  (
    (by_text "mut", tt, tt),
    (
      tt,
      (
        (by_mark ":" refl, (tt, refl), tt),
        (
          (by_mark "=" refl, (tt, refl), tt),
          (refl, refl),
        ),
      ),
    ),
  ),
)
ended_table AConst e =
    (tt, ((by_text "_", tt, tt), (refl, (tt, (refl, ((by_mark "=" refl, (tt, refl), tt), (refl, (refl, refl))))))))
ended_table AnExternCrate e =
    (tt, (tt, ((by_text "self", tt, tt), ((by_text "as", (tt, (by_text "_", tt, tt)), tt), (refl, refl)))))
ended_table AForeignModule e =
    ((by_text "unsafe", tt, tt), (refl, refl))
ended_table AUse e =
    (tt, (refl, (refl, refl)))
ended_table AModule e =
    ((by_text "unsafe", tt, tt), (tt, ((by_text "try", tt, tt), (steady_sees (blind_sign 59), (refl, refl), refl))))
ended_table ATrait e =
    (trait_same, ended_trait)
ended_table AConstTrait e =
    (tt, refl)
ended_table ARestrictedTrait e =
    (tt, (steady_restriction, ((by_text "const", tt, tt), (alias_same, ended_trait))))
ended_table AnImpl e = (
  polarity_same,
  (
    (by_text "default", tt, tt),
    (
      (by_text "const", tt, tt),
      (
        (by_text "unsafe", tt, tt),
        (
          tt,
          (
            refl,
            (
              (steady_sees (blind_sure (sure_then (a_mark "!" refl) (sure_no blind_opens))), tt, tt),
              (
                refl,
                ((by_text "for", (tt, refl), tt), (refl, refl)),
              ),
            ),
          ),
        ),
      ),
    ),
  ),
)
ended_table AMacroDefinition e =
    (tt, (tt, ((by_parenthesis, tt, tt), refl)))
ended_table (AFunction p) e =
    (refl, (by_brace, refl, (refl, refl)))
ended_table (ATypeAlias p) e =
    (tt, (tt, (refl, (refl, (steady_type_end p, (refl, refl))))))
ended_table (ItemMacro p) e =
    (refl, (tt, (steady_macro_name p, (by_brace, refl, ((by_parenthesis, tt, tt), (refl, refl))))))
ended_table AnItem e =
    (verdict_same InFile, (refl, (refl, ended_form)))
ended_table AForeignItem e = (
  verdict_same InForeign,
  (
    refl,
    (
      refl,
      (
        by_signature InForeign,
        refl,
        (
          steady_sees (blind_sure (sure_then (sure_safety InForeign)
              (the_text "static"))),
          (steady_safety InForeign, refl),
          (by_text "type", refl, (by_macro, refl, tt)),
        ),
      ),
    ),
  ),
)
ended_table ATraitItem e = (
  verdict_same InTrait,
  (
    refl,
    (
      refl,
      (
        (by_text "default", tt, tt),
        (
          by_signature InTrait,
          refl,
          (
            by_text "const",
            refl,
            (by_text "type", refl, (by_macro, refl, tt)),
          ),
        ),
      ),
    ),
  ),
)
ended_table AnImplItem e = (
  verdict_same InImpl,
  (
    refl,
    (
      refl,
      (
        (
          steady_sees (blind_sure sure_default),
          tt,
          tt,
        ),
        (
          by_signature InImpl,
          refl,
          (
            by_text "const",
            refl,
            (
              by_text "type",
              refl,
              (by_macro, refl, tt),
            ),
          ),
        ),
      ),
    ),
  ),
)
ended_table _ e =
    no_kind e
