-- The rules on extensions and joins.
use Rattle.std.specs.Prelude.{◌+◌, ◌==◌, ◌&&◌, nat_le, List, [], ◌∷◌, Some}
use Rattle.kat_value.specs.declared.op.Op.TheVariants.{Slice, Cat, Zext}
use Rattle.kat_value.specs.Widths.{is_width}
use Rattle.kat_term.specs.Equality.{term_eq}
use Rattle.kat_term.specs.Views.{one}
use Rattle.kat_rules.specs.Patterns.{Rule, only_if, on_two, on_bits, on_slice, on_zext, on_sext}
use Rattle.kat_rules.specs.Widths.{on_width}

-- zext to the own width is a
abbrev pub zext_to_own_width : Rule
zext_to_own_width vars t = on_zext t (λ w a. on_width vars a (λ v. only_if (v == w) a))

-- sext to the own width is a
abbrev pub sext_to_own_width : Rule
sext_to_own_width vars t = on_sext t (λ w a. on_width vars a (λ v. only_if (v == w) a))

-- zext(zext a) is one zext
abbrev pub zext_of_zext : Rule
zext_of_zext vars t = on_zext t (λ w z. on_zext z (λ u a. Some (one (Zext w) a)))

-- cat(0,a) is the zext of a
abbrev pub cat_of_zero : Rule
cat_of_zero vars t =
    on_two Cat t (λ l a. on_bits l (λ w n. on_width vars a (λ v.
    only_if ((n == 0) && is_width (w + v)) (one (Zext (w + v)) a))))

-- cat(slice(h,k+1,a), slice(k,l,a)) is slice(h,l,a)
abbrev pub cat_of_slices : Rule
cat_of_slices vars t =
    on_two Cat t (λ y z. on_slice y (λ hi middle a. on_slice z (λ top lo b.
    only_if ((middle == top + 1) && (nat_le middle hi && (nat_le lo top && term_eq a b)))
    (one (Slice hi lo) a))))

-- the rules on extensions and joins
abbrev pub join_rules : List Rule
join_rules =
    zext_to_own_width ∷ sext_to_own_width ∷ zext_of_zext ∷ cat_of_zero ∷ cat_of_slices ∷ []
