-- Expressions one behind the other: all of whose names have to be bound, or that are values; and
-- readings that end.
use Rattle.std.proofs.Common.{◌≡◌, ℕ, ◌+◌, ◌<◌, ◌≤◌, List, [], ◌∷◌, length, map, take, drop, get_or, min, Result, Ok, Err, sym, ap, subst, ◌∙◌}
use Rattle.std.specs.List.{drop-map, take-map}
use Rattle.std.proofs.lemmas.List.{drop_all, drop_min, take_min}
use Rattle.kat_ast.specs.declared.expr.Expr.{Expr}
use Rattle.kat_ast.specs.declared.assertion.Assertion.{Assertion}
use Rattle.kat_ast.specs.declared.type_name.Param.{Param}
use Rattle.kat_syntax.specs.Tables.{Name}
use Rattle.kat_syntax.specs.Modes.{Reading, Reader, and_read, leave, leave_all, read_all, read_args, read_names, read_value, read_values, reading_of, names_of, stop_of, used_in, names_of_parts}
use Rattle.kat_mode.specs.declared.stop.Stop.{Stop}
use Rattle.kat_mode.specs.declared.stop.Stop.TheVariants.{At, Memory}
use Rattle.kat_mode.specs.Reading.{Ends, Follows, StopsAt}
use Rattle.kat_mode.specs.Turning.{all_unbound}
use Rattle.kat_mode.proofs.Going.{IsLeft, nothing_left}
use Rattle.kat_mode.proofs.Names.{names_both, one_name, parts_both}
use Rattle.kat_mode.proofs.Turning.{begin_unbound}
use Rattle.kat_mode.proofs.Binding.{rest_is}

-- readers of what is left of a list
abbrev pub asked_from : List Expr → ℕ → Reader
asked_from exprs i = read_names (names_of_parts (map used_in (drop i exprs)))

abbrev pub values_from : List Expr → ℕ → Reader
values_from exprs i = read_values (map used_in (drop i exprs))

abbrev pub parts_from : (Name → ℕ) → List Assertion → ℕ → Reader
parts_from inputs parts i = read_all (map (reading_of inputs) (drop i parts))

abbrev pub left_from : List Param → ℕ → Reader
left_from params i = leave_all (names_of (drop i params))

module _ (exprs : List Expr) (i : ℕ) (expr : Expr) (within : i < length exprs)
    (is : expr ≡ get_or exprs i expr) where
  pub asked_splits : (u : List Name) →
      asked_from exprs i u ≡ and_read (read_names (used_in expr).names u) (asked_from exprs (i + 1))
  asked_splits u =
      ap (λ xs. read_names (names_of_parts (map used_in xs)) u) (rest_is exprs i expr within is)
      ∙ parts_both (used_in expr) (map used_in (drop (i + 1) exprs)) u

  pub values_split : (u : List Name) →
      values_from exprs i u ≡ and_read (read_value (used_in expr) u) (values_from exprs (i + 1))
  values_split u = ap (λ xs. read_values (map used_in xs) u) (rest_is exprs i expr within is)

pub parts_split : (inputs : Name → ℕ) (parts : List Assertion) (i : ℕ) (part : Assertion) →
    i < length parts → part ≡ get_or parts i part → (u : List Name) →
    parts_from inputs parts i u ≡ and_read (reading_of inputs part u)
    (parts_from inputs parts (i + 1))
parts_split inputs parts i part within is u =
    ap (λ xs. read_all (map (reading_of inputs) xs) u) (rest_is parts i part within is)

pub left_split : (params : List Param) (i : ℕ) (param : Param) → i < length params →
    param ≡ get_or params i param → (u : List Name) →
    left_from params i u ≡ and_read (leave param.name u) (left_from params (i + 1))
left_split params i param within is u =
    ap (λ ps. leave_all (names_of ps) u) (rest_is params i param within is)
    ∙ names_both (param.name ∷ []) (names_of (drop (i + 1) params)) u
    ∙ ap (λ r. and_read r (left_from params (i + 1))) (one_name param.name u)

-- nothing is left behind the last
pub nothing_asked : (exprs : List Expr) (i : ℕ) (old now : List Name) → length exprs ≤ i →
    IsLeft (asked_from exprs 0) (asked_from exprs i) old now →
    Follows (asked_from exprs 0) old now (Ok tt)
nothing_asked exprs i old now behind left =
    nothing_left (asked_from exprs 0) old now
    (subst
    (λ xs. IsLeft (asked_from exprs 0) (read_names (names_of_parts (map used_in xs))) old now)
    (drop_all i exprs behind) left)

pub nothing_valued : (exprs : List Expr) (i : ℕ) (old now : List Name) → length exprs ≤ i →
    IsLeft (values_from exprs 0) (values_from exprs i) old now →
    Follows (values_from exprs 0) old now (Ok tt)
nothing_valued exprs i old now behind left =
    nothing_left (values_from exprs 0) old now
    (subst (λ xs. IsLeft (values_from exprs 0) (read_values (map used_in xs)) old now)
    (drop_all i exprs behind) left)

pub no_parts : (inputs : Name → ℕ) (parts : List Assertion) (i : ℕ) (old now : List Name) →
    length parts ≤ i → IsLeft (parts_from inputs parts 0) (parts_from inputs parts i) old now →
    Follows (parts_from inputs parts 0) old now (Ok tt)
no_parts inputs parts i old now behind left =
    nothing_left (parts_from inputs parts 0) old now
    (subst
    (λ xs. IsLeft (parts_from inputs parts 0) (read_all (map (reading_of inputs) xs)) old now)
    (drop_all i parts behind) left)

pub none_left : (params : List Param) (i : ℕ) (old now : List Name) → length params ≤ i →
    IsLeft (left_from params 0) (left_from params i) old now →
    Follows (left_from params 0) old now (Ok tt)
none_left params i old now behind left =
    nothing_left (left_from params 0) old now
    (subst (λ ps. IsLeft (left_from params 0) (leave_all (names_of ps)) old now)
    (drop_all i params behind) left)

-- arguments, of which so many are inputs, cut where there are no more
pub args_cut : (n : ℕ) (exprs : List Expr) (u : List Name) → read_args n (map used_in exprs) u
    ≡ and_read (read_names (names_of_parts (map used_in (take (min n (length exprs)) exprs))) u)
    (read_values (map used_in (drop (min n (length exprs)) exprs)))
args_cut n exprs u =
    ap (λ us. and_read (read_names (names_of_parts us) u)
    (read_values (drop n (map used_in exprs))))
    (take-map used_in n exprs ∙ ap (map used_in) (sym (take_min n exprs)))
    ∙ ap (λ us. and_read
    (read_names (names_of_parts (map used_in (take (min n (length exprs)) exprs))) u)
    (read_values us))
    (drop-map used_in n exprs ∙ ap (map used_in) (sym (drop_min n exprs)))

stops_by : (reading : Reading) (old new : List Name) (result : Result (Unit {0}) Stop) →
    Ends old new result reading → StopsAt result (stop_of reading)
stops_by reading old new (Ok x) (u, read, here, on) = ap stop_of read
stops_by reading old new (Err (At x)) stops = ap stop_of stops
stops_by reading old new (Err Memory) stops = tt

-- a reading that begins with names unbound
pub from_names : (reader : Reader) (names new : List Name) (result : Result (Unit {0}) Stop) →
    Follows reader (all_unbound [] names) new result → StopsAt result (stop_of (reader names))
from_names reader names new result follows =
    stops_by (reader names) (all_unbound [] names) new result (follows names (begin_unbound names))
