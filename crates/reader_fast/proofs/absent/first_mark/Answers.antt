-- Each by its mark.
use Rattle.std.proofs.Common.{sym, subst}
use Rattle.reader_table.specs.Kinds.{kind_of, plus_of}
use Rattle.reader_table.specs.declared.kind.Kind.{Kind}
use Rattle.reader_fast.specs.Absent.{IsToldBy}
use Rattle.reader_fast.proofs.NoneStand.{no_bounds_colon, no_generics, no_impl_generics, no_lifetime_colon}
use Rattle.reader_fast.proofs.NoneStand.{no_return_type}
use Rattle.reader_fast.proofs.absent.first_mark.Goals as goal

pub returns-in-Generics : goal.returns-in-Generics
returns-in-Generics c =
    let P : Kind → Type 0 = λ k. IsToldBy (kind_of k) 60 in
    subst P (sym c.in-Generics.is) no_generics

pub returns-in-ImplGenerics : goal.returns-in-ImplGenerics
returns-in-ImplGenerics c =
    let P : Kind → Type 0 = λ k. IsToldBy (kind_of k) 60 in
    subst P (sym c.in-ImplGenerics.is) no_impl_generics

pub returns-in-LifetimeColon : goal.returns-in-LifetimeColon
returns-in-LifetimeColon c =
    let P : Kind → Type 0 = λ k. IsToldBy (kind_of k) 58 in
    subst P (sym c.in-LifetimeColon.is) no_lifetime_colon

pub returns-in-BoundsColon : goal.returns-in-BoundsColon
returns-in-BoundsColon c =
    let P : Kind → Type 0 = λ k. IsToldBy (kind_of k) 58 in
    subst P (sym c.in-BoundsColon.is) no_bounds_colon

pub returns-in-ReturnType : goal.returns-in-ReturnType
returns-in-ReturnType c =
    let P : Kind → Type 0 = λ k. IsToldBy (kind_of k) 45 in
    subst P (sym c.in-ReturnType.is) (no_return_type (plus_of c.in-ReturnType.field-0))
