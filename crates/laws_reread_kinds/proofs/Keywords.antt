-- Words that are reserved, and some that aren't. Written by tools/steps.py.
use Rattle.std.specs.Prelude.{◌≡◌, refl, true, false, codes}
use Rattle.rust_leaf.specs.Keywords.{is_reserved}

pub free_of : is_reserved (codes "of") ≡ false
unfolding is_reserved
free_of = refl

pub reserved_as : is_reserved (codes "as") ≡ true
unfolding is_reserved
reserved_as = refl

pub reserved_big_self : is_reserved (codes "Self") ≡ true
unfolding is_reserved
reserved_big_self = refl

pub reserved_const : is_reserved (codes "const") ≡ true
unfolding is_reserved
reserved_const = refl

pub reserved_crate : is_reserved (codes "crate") ≡ true
unfolding is_reserved
reserved_crate = refl

pub reserved_dyn : is_reserved (codes "dyn") ≡ true
unfolding is_reserved
reserved_dyn = refl

pub reserved_else : is_reserved (codes "else") ≡ true
unfolding is_reserved
reserved_else = refl

pub reserved_extern : is_reserved (codes "extern") ≡ true
unfolding is_reserved
reserved_extern = refl

pub reserved_false : is_reserved (codes "false") ≡ true
unfolding is_reserved
reserved_false = refl

pub reserved_fn : is_reserved (codes "fn") ≡ true
unfolding is_reserved
reserved_fn = refl

pub reserved_for : is_reserved (codes "for") ≡ true
unfolding is_reserved
reserved_for = refl

pub reserved_impl : is_reserved (codes "impl") ≡ true
unfolding is_reserved
reserved_impl = refl

pub reserved_if : is_reserved (codes "if") ≡ true
unfolding is_reserved
reserved_if = refl

pub reserved_in : is_reserved (codes "in") ≡ true
unfolding is_reserved
reserved_in = refl

pub reserved_let : is_reserved (codes "let") ≡ true
unfolding is_reserved
reserved_let = refl

pub reserved_mut : is_reserved (codes "mut") ≡ true
unfolding is_reserved
reserved_mut = refl

pub reserved_pub : is_reserved (codes "pub") ≡ true
unfolding is_reserved
reserved_pub = refl

pub reserved_ref : is_reserved (codes "ref") ≡ true
unfolding is_reserved
reserved_ref = refl

pub reserved_self : is_reserved (codes "self") ≡ true
unfolding is_reserved
reserved_self = refl

pub reserved_super : is_reserved (codes "super") ≡ true
unfolding is_reserved
reserved_super = refl

pub reserved_true : is_reserved (codes "true") ≡ true
unfolding is_reserved
reserved_true = refl

pub reserved_try : is_reserved (codes "try") ≡ true
unfolding is_reserved
reserved_try = refl

pub reserved_underscore : is_reserved (codes "_") ≡ true
unfolding is_reserved
reserved_underscore = refl

pub reserved_unsafe : is_reserved (codes "unsafe") ≡ true
unfolding is_reserved
reserved_unsafe = refl

pub reserved_where : is_reserved (codes "where") ≡ true
unfolding is_reserved
reserved_where = refl
