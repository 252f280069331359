-- What stands so is one of the kinds that do.
use Rattle.std.specs.Prelude.{◌≡◌, true, refl}
use Rattle.reader_table.specs.Kinds.{kind_of}
use Rattle.reader_table.specs.declared.kind.Kind.{Kind}
use Rattle.reader_table.specs.declared.kind.Kind.TheVariants as kinds
use Rattle.node_shapes.specs.Forms.{stands_alone, stands_before, stands_behind, stands_between}

pub none_alone : (j : Kind)
    → (j ≡ kinds.ExprLit → ⊥) → (j ≡ kinds.ExprPath → ⊥) → (j ≡ kinds.ExprMacro → ⊥) →
    (j ≡ kinds.ExprParen → ⊥) → (j ≡ kinds.ExprArray → ⊥) → (j ≡ kinds.ExprRepeat → ⊥) →
    (j ≡ kinds.ExprGroup → ⊥) → (j ≡ kinds.ExprInfer → ⊥) → (j ≡ kinds.ExprBlock → ⊥) →
    (j ≡ kinds.ExprUnsafe → ⊥) → (j ≡ kinds.ExprAsync → ⊥) → (j ≡ kinds.ExprConst → ⊥) →
    (j ≡ kinds.ExprTryBlock → ⊥) → (j ≡ kinds.ExprIf → ⊥) → (j ≡ kinds.ExprMatch → ⊥) →
    (j ≡ kinds.ExprLoop → ⊥) → (j ≡ kinds.ExprWhile → ⊥) → (j ≡ kinds.ExprForLoop → ⊥) →
    (j ≡ kinds.ExprContinue → ⊥) → (j ≡ kinds.ExprTypedClosure → ⊥) → (j ≡ kinds.ExprBreak
    → ⊥) →
    (j ≡ kinds.ExprReturn → ⊥) → (j ≡ kinds.ExprYield → ⊥) → (j ≡ kinds.ExprRange → ⊥)
    → stands_alone (kind_of j) ≡ true → ⊥
none_alone kinds.ExprLit a b c d e f g i j l m n o p q r s t u v w x y z h = a refl
none_alone kinds.ExprPath a b c d e f g i j l m n o p q r s t u v w x y z h = b refl
none_alone kinds.ExprMacro a b c d e f g i j l m n o p q r s t u v w x y z h = c refl
none_alone kinds.ExprParen a b c d e f g i j l m n o p q r s t u v w x y z h = d refl
none_alone kinds.ExprArray a b c d e f g i j l m n o p q r s t u v w x y z h = e refl
none_alone kinds.ExprRepeat a b c d e f g i j l m n o p q r s t u v w x y z h = f refl
none_alone kinds.ExprGroup a b c d e f g i j l m n o p q r s t u v w x y z h = g refl
none_alone kinds.ExprInfer a b c d e f g i j l m n o p q r s t u v w x y z h = i refl
none_alone kinds.ExprBlock a b c d e f g i j l m n o p q r s t u v w x y z h = j refl
none_alone kinds.ExprUnsafe a b c d e f g i j l m n o p q r s t u v w x y z h = l refl
none_alone kinds.ExprAsync a b c d e f g i j l m n o p q r s t u v w x y z h = m refl
none_alone kinds.ExprConst a b c d e f g i j l m n o p q r s t u v w x y z h = n refl
none_alone kinds.ExprTryBlock a b c d e f g i j l m n o p q r s t u v w x y z h = o refl
none_alone kinds.ExprIf a b c d e f g i j l m n o p q r s t u v w x y z h = p refl
none_alone kinds.ExprMatch a b c d e f g i j l m n o p q r s t u v w x y z h = q refl
none_alone kinds.ExprLoop a b c d e f g i j l m n o p q r s t u v w x y z h = r refl
none_alone kinds.ExprWhile a b c d e f g i j l m n o p q r s t u v w x y z h = s refl
none_alone kinds.ExprForLoop a b c d e f g i j l m n o p q r s t u v w x y z h = t refl
none_alone kinds.ExprContinue a b c d e f g i j l m n o p q r s t u v w x y z h = u refl
none_alone kinds.ExprTypedClosure a b c d e f g i j l m n o p q r s t u v w x y z h = v refl
none_alone kinds.ExprBreak a b c d e f g i j l m n o p q r s t u v w x y z h = w refl
none_alone kinds.ExprReturn a b c d e f g i j l m n o p q r s t u v w x y z h = x refl
none_alone kinds.ExprYield a b c d e f g i j l m n o p q r s t u v w x y z h = y refl
none_alone kinds.ExprRange a b c d e f g i j l m n o p q r s t u v w x y z h = z refl
none_alone _ a b c d e f g i j l m n o p q r s t u v w x y z h = cc

pub none_before : (j : Kind)
    → (j ≡ kinds.ExprAttributed → ⊥) → (j ≡ kinds.ExprUnary → ⊥)
    → (j ≡ kinds.ExprRawAddr → ⊥) →
    (j ≡ kinds.ExprReference → ⊥) → (j ≡ kinds.ExprLet → ⊥) → (j ≡ kinds.ExprBreak → ⊥) →
    (j ≡ kinds.ExprReturn → ⊥) → (j ≡ kinds.ExprYield → ⊥) → (j ≡ kinds.ExprClosure → ⊥) →
    (j ≡ kinds.ExprRange → ⊥) → (j ≡ kinds.ExprRangeClosed → ⊥)
    → stands_before (kind_of j) ≡ true → ⊥
none_before kinds.ExprAttributed a b c d e f g i j l m h = a refl
none_before kinds.ExprUnary a b c d e f g i j l m h = b refl
none_before kinds.ExprRawAddr a b c d e f g i j l m h = c refl
none_before kinds.ExprReference a b c d e f g i j l m h = d refl
none_before kinds.ExprLet a b c d e f g i j l m h = e refl
none_before kinds.ExprBreak a b c d e f g i j l m h = f refl
none_before kinds.ExprReturn a b c d e f g i j l m h = g refl
none_before kinds.ExprYield a b c d e f g i j l m h = i refl
none_before kinds.ExprClosure a b c d e f g i j l m h = j refl
none_before kinds.ExprRange a b c d e f g i j l m h = l refl
none_before kinds.ExprRangeClosed a b c d e f g i j l m h = m refl
none_before _ a b c d e f g i j l m h = cc

pub none_behind : (j : Kind)
    → (j ≡ kinds.ExprStruct → ⊥) → (j ≡ kinds.ExprCall → ⊥) → (j ≡ kinds.ExprMethodCall
    → ⊥) →
    (j ≡ kinds.ExprField → ⊥) → (j ≡ kinds.ExprAwait → ⊥) → (j ≡ kinds.ExprIndex → ⊥) →
    (j ≡ kinds.ExprTry → ⊥) → (j ≡ kinds.ExprCast → ⊥) → (j ≡ kinds.ExprRange → ⊥)
    → stands_behind (kind_of j) ≡ true → ⊥
none_behind kinds.ExprStruct a b c d e f g i j h = a refl
none_behind kinds.ExprCall a b c d e f g i j h = b refl
none_behind kinds.ExprMethodCall a b c d e f g i j h = c refl
none_behind kinds.ExprField a b c d e f g i j h = d refl
none_behind kinds.ExprAwait a b c d e f g i j h = e refl
none_behind kinds.ExprIndex a b c d e f g i j h = f refl
none_behind kinds.ExprTry a b c d e f g i j h = g refl
none_behind kinds.ExprCast a b c d e f g i j h = i refl
none_behind kinds.ExprRange a b c d e f g i j h = j refl
none_behind _ a b c d e f g i j h = cc

pub none_between : (j : Kind)
    → (j ≡ kinds.ExprRange → ⊥) → (j ≡ kinds.ExprRangeClosed → ⊥)
    → (j ≡ kinds.ExprAssign → ⊥) →
    (j ≡ kinds.ExprOr → ⊥) → (j ≡ kinds.ExprAnd → ⊥) → (j ≡ kinds.ExprCompare → ⊥) →
    (j ≡ kinds.ExprBitOr → ⊥) → (j ≡ kinds.ExprBitXor → ⊥) → (j ≡ kinds.ExprBitAnd → ⊥) →
    (j ≡ kinds.ExprShift → ⊥) → (j ≡ kinds.ExprSum → ⊥) → (j ≡ kinds.ExprProduct → ⊥)
    → stands_between (kind_of j) ≡ true → ⊥
none_between kinds.ExprRange a b c d e f g i j l m n h = a refl
none_between kinds.ExprRangeClosed a b c d e f g i j l m n h = b refl
none_between kinds.ExprAssign a b c d e f g i j l m n h = c refl
none_between kinds.ExprOr a b c d e f g i j l m n h = d refl
none_between kinds.ExprAnd a b c d e f g i j l m n h = e refl
none_between kinds.ExprCompare a b c d e f g i j l m n h = f refl
none_between kinds.ExprBitOr a b c d e f g i j l m n h = g refl
none_between kinds.ExprBitXor a b c d e f g i j l m n h = i refl
none_between kinds.ExprBitAnd a b c d e f g i j l m n h = j refl
none_between kinds.ExprShift a b c d e f g i j l m n h = l refl
none_between kinds.ExprSum a b c d e f g i j l m n h = m refl
none_between kinds.ExprProduct a b c d e f g i j l m n h = n refl
none_between _ a b c d e f g i j l m n h = cc
