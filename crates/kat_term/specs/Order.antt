-- The order of terms: literals, variables, operations, constructors, records.
use Rattle.std.specs.Prelude.{ℕ, List, [], ◌∷◌, length, map, if◌then◌else◌}
use Rattle.std.specs.declared.cmp.Ordering.{Ordering}
use Rattle.std.specs.declared.cmp.Ordering.TheVariants.{Equal}
use Rattle.std.specs.Ordering.{nat_cmp, ordering_then}
use Rattle.kat_value.specs.declared.value.Value.{Value}
use Rattle.kat_value.specs.declared.value.Value.TheVariants.{Bool as Truth, Bits, Member}
use Rattle.kat_term.specs.declared.term.Term.{Term}
use Rattle.kat_term.specs.declared.term.Term.TheOpen.{Term-F, Var, Lit, Apply, Make, Rec}
use Rattle.kat_term.specs.declared.term.Term.TheViews.{out-Term}
use Rattle.kat_term.specs.declared.term.Term.TheFolds.{fold-Term}
use Rattle.kat_term.specs.Equality.{Key, key_of_op}

-- the number or position of a literal; false is before true
abbrev pub rank_of_literal : Value → ℕ
rank_of_literal (Truth b) = if b then 1 else 0
rank_of_literal (Bits w n) = n
rank_of_literal (Member of index) = index
rank_of_literal _ = 0

-- operations go by their number in the language's list, then by widths, bounds or positions
abbrev pub key_cmp : Key → Key → Ordering
key_cmp a b =
    ordering_then (nat_cmp a.place b.place)
    (ordering_then (nat_cmp a.high b.high) (nat_cmp a.low b.low))

-- lists of one length go by the first place where they differ
abbrev pub cmp_all : List (Term → Ordering) → List Term → Ordering
cmp_all [] ts = Equal
cmp_all (cmp ∷ cmps) [] = Equal
cmp_all (cmp ∷ cmps) (t ∷ ts) = ordering_then (cmp t) (cmp_all cmps ts)

-- a shorter list is first
abbrev pub cmp_lists : List (Term → Ordering) → List Term → Ordering
cmp_lists cmps ts = ordering_then (nat_cmp (length cmps) (length ts)) (cmp_all cmps ts)

-- the place of a kind of term in the order
abbrev pub place_of_kind : {A : Type 0} → Term-F A → ℕ
place_of_kind (Lit x) = 0
place_of_kind (Var i) = 1
place_of_kind (Apply op args) = 2
place_of_kind (Make of ctor inner) = 3
place_of_kind (Rec of fields) = 4

-- one layer of a term, with the comparison of each part, against one layer of another: by kind,
-- then literals by number or position, variables by number, operations by themselves and then by
-- arguments, constructors by position and then by payload, records by fields
abbrev pub cmp_layer : Term-F (Term → Ordering) → Term-F Term → Ordering
cmp_layer (Lit x) (Lit y) = nat_cmp (rank_of_literal x) (rank_of_literal y)
cmp_layer (Var i) (Var j) = nat_cmp i j
cmp_layer (Apply o cmps) (Apply p args) =
    ordering_then (key_cmp (key_of_op o) (key_of_op p)) (cmp_lists cmps args)
cmp_layer (Make t k cmp) (Make u l inner) = ordering_then (nat_cmp k l) (cmp inner)
cmp_layer (Rec t cmps) (Rec u fields) = cmp_lists cmps fields
cmp_layer x y = nat_cmp (place_of_kind x) (place_of_kind y)

-- how two terms stand in the order
abbrev pub term_cmp : Term → Term → Ordering
term_cmp = fold-Term (Term → Ordering) (λ layer t. cmp_layer layer (out-Term t))

-- how two lists of terms stand in it
abbrev pub terms_cmp : List Term → List Term → Ordering
terms_cmp xs ys = cmp_lists (map term_cmp xs) ys
