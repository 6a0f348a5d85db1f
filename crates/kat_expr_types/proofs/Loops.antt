-- Arguments one after another: what is noted so far, and what is to come.
use Rattle.std.proofs.Common.{◌≡◌, ℕ, zero, suc, ◌+◌, ◌-◌, ◌<◌, ◌≤◌, Bool, List, [], ◌∷◌, ◌++◌, length, map, take, drop, get_or, slice_get, Option, None, Some, refl, sym, ap, subst, ◌∙◌, arith}
use Rattle.std.specs.Option.{option_flatten}
use Rattle.std.proofs.lemmas.List.{take_more, take_all, drop_all, drop-drop, map-append, length-map, length-take-le}
use Rattle.kat_value.specs.declared.op.Op.{Op}
use Rattle.kat_value.specs.declared.signature.Signature.{Signature}
use Rattle.kat_value.specs.declared.types.Ty.{Ty}
use Rattle.kat_value.specs.Signatures.{signature_of, takes, fixed_behind, fixed_by, type_given, widths_fit}
use Rattle.kat_value.specs.Words.{numbers_of_op}
use Rattle.kat_ast.specs.declared.expr.Expr.{Expr}
use Rattle.kat_ast.specs.declared.expr.Expr.TheOpen.{Apply}
use Rattle.kat_ast.specs.Expressions.{trees_of_expr, trees_of_exprs}
use Rattle.kat_syntax.specs.declared.type_rule.TypeRule.TheVariants.{TypeOther}
use Rattle.kat_syntax.specs.declared.type_rule.TypeRule.{TypeRule}
use Rattle.kat_syntax.specs.TypeRules.{Fault, least_with, unless}
use Rattle.kat_syntax.specs.Declares.{TypedName}
use Rattle.kat_syntax.specs.Around.{Around}
use Rattle.kat_syntax.specs.TypesWritten.{Scope}
use Rattle.kat_syntax.specs.TypingExpressions.{Standing, Known, known_types, wanting, op_arg_faults, parts_faults, arg_faults, given_faults, stated_width, width_rule, known_of_expr}
use Rattle.kat_expr_types.specs.declared.setting.Known.{Known as KnownHere}
use Rattle.kat_expr_types.specs.declared.args.ArgTypes.{ArgTypes}
use Rattle.kat_expr_types.specs.Judging.{Tells}
use Rattle.kat_expr_types.specs.Laws.{trees_of_parts}
use Rattle.kat_expr_types.specs.Operands.{Keeps, count_fault, wanted_types}
use Rattle.kat_expr_types.proofs.Noting.{rest_is, sum-cons, least_both, noted_both, trees_known, all_trees_known}
use Rattle.kat_expr_types.proofs.Layers.{layered}
use Rattle.kat_expr_types.proofs.Operands.{fixed_last, widths_first}

-- the arguments of an operation so far, and those that are left
pub record ArgsSoFar (known : Expr → Known) (s : Signature) (args : List Expr) (first i next : ℕ)
    (types : ArgTypes) (start now : Option Fault) : Type 0 where
  pub keeps : Keeps s (known_types (map known (take i args))) types
  pub place : next + trees_of_exprs (drop i args) ≡ first + trees_of_exprs args
  pub faults : least_with now (op_arg_faults s i types.fixed next (map known (drop i args)))
      ≡ least_with start (op_arg_faults s 0 None first (map known args))

-- arguments that a name gives parameters to, so far, and those that are left
pub record GivenSoFar (known : Expr → Known) (wanted : List (Option Ty)) (args : List Expr)
    (first i next : ℕ)
    (start now : Option Fault) : Type 0 where
  pub place : next + trees_of_exprs (drop i args) ≡ first + trees_of_exprs args
  pub faults : least_with now (arg_faults (drop i wanted) next (map known (drop i args)))
      ≡ least_with start (arg_faults wanted first (map known args))

-- the trees of what is left
trees_left : (args : List Expr) (i : ℕ) (arg : Expr) → i < length args → arg ≡ get_or args i arg →
    trees_of_exprs (drop i args) ≡ trees_of_expr arg + trees_of_exprs (drop (i + 1) args)
trees_left args i arg within is =
    ap trees_of_exprs (rest_is args i arg within is)
    ∙ sum-cons (trees_of_expr arg) (map trees_of_expr (drop (i + 1) args))

-- an argument that is left stands within the whole
pub arg_fits : (args : List Expr) (first i next : ℕ) (arg : Expr) → i < length args → arg
    ≡ get_or args i arg →
    next + trees_of_exprs (drop i args) ≡ first + trees_of_exprs args →
    next + trees_of_expr arg ≤ first + trees_of_exprs args
arg_fits args first i next arg within is place = omega (arith, trees_left args i arg within is)

-- behind the last argument
pub all_placed : (args : List Expr) (first i next : ℕ) → length args ≤ i →
    next + trees_of_exprs (drop i args) ≡ first + trees_of_exprs args → next
    ≡ first + trees_of_exprs args
all_placed args first i next behind place =
    let none : trees_of_exprs (drop i args) ≡ 0 = ap trees_of_exprs (drop_all i args behind) in
    omega arith

-- one argument of which a type is wanted, and those behind it
arg_one : (now : Option Fault) (wanted : List (Option Ty)) (at : ℕ) (k : Known)
    (rest : List Known) →
    least_with now (arg_faults wanted at (k ∷ rest))
    ≡ least_with (least_with (least_with now (k.faults at))
    (wanting (option_flatten (slice_get wanted 0)) at k.type))
    (arg_faults (drop 1 wanted) (at + k.trees) rest)
arg_one now [] at k rest = least_both now (k.faults at) (parts_faults (at + k.trees) rest)
arg_one now (type ∷ wanted) at k rest =
    let later : List Fault = arg_faults wanted (at + k.trees) rest in
    least_both now (k.faults at) (wanting type at k.type ++ later)
    ∙ least_both (least_with now (k.faults at)) (wanting type at k.type) later

get_drop : (wanted : List (Option Ty)) (i : ℕ) → slice_get (drop i wanted) 0 ≡ slice_get wanted i
get_drop [] i = ap (λ l. slice_get l 0) (drop_all i [] (omega arith))
get_drop (type ∷ wanted) zero = refl
get_drop (type ∷ wanted) (suc i) = get_drop wanted i

no_args : (wanted : List (Option Ty)) (at : ℕ) → arg_faults wanted at [] ≡ []
no_args [] at = refl
no_args (type ∷ wanted) at = refl

-- the faults of given arguments are those of their count and of each
pub given_is : (wanted : Option (List TypedName)) (at : ℕ) (args : List Known) →
    given_faults wanted at args
    ≡ count_fault wanted (length args) at ++ arg_faults (wanted_types wanted) (at + 3) args
given_is None at args = refl
given_is (Some params) at args = refl

module _ (around : Around) (standing : Standing) (scope : Scope) (args : List Expr)
    (first : ℕ) where
  abbrev known : Expr → Known
  known = known_of_expr around standing scope

  -- no argument yet
  pub none_yet : (s : Signature) (types : ArgTypes) (start : Option Fault) → Keeps s [] types →
      ArgsSoFar known s args first 0 first types start start
  none_yet s types start keeps = record {
    keeps = keeps;
    place = refl;
    faults = ap (λ f. least_with start (op_arg_faults s 0 f first (map known args))) keeps.fixed;
  }

  -- the place behind an argument
  module _ (i next : ℕ) (arg : Expr) (within : i < length args) (is : arg ≡ get_or args i arg)
      (told : KnownHere) (now noted : Option Fault) (tells : Tells (known arg) next told now noted)
      (place : next + trees_of_exprs (drop i args) ≡ first + trees_of_exprs args)
      (further : ℕ) (further_is : further ≡ next + told.trees) where
    trees_are : told.trees ≡ trees_of_expr arg
    trees_are = tells.trees ∙ trees_known around standing scope arg

    placed : further + trees_of_exprs (drop (i + 1) args) ≡ first + trees_of_exprs args
    placed = omega (arith, trees_left args i arg within is, trees_are)

    further_known : further ≡ next + (known arg).trees
    further_known = further_is ∙ ap (λ n. next + n) tells.trees

    left_known : map known (drop i args) ≡ known arg ∷ map known (drop (i + 1) args)
    left_known = ap (map known) (rest_is args i arg within is)

    pub next_given : (wanted : List (Option Ty)) (type : Option Ty) (start new : Option Fault) →
        least_with now (arg_faults (drop i wanted) next (map known (drop i args)))
        ≡ least_with start (arg_faults wanted first (map known args)) →
        type ≡ option_flatten (slice_get wanted i) → new
        ≡ least_with noted (wanting type next told.ty) →
        GivenSoFar known wanted args first (i + 1) further start new
    next_given wanted type start new so_far type_is new_is =
        let k : Known = known arg in
        let rest : List Known = map known (drop (i + 1) args) in
        let behind : List (Option Ty) = drop (i + 1) wanted in
        let wanted_here : option_flatten (slice_get (drop i wanted) 0) ≡ type =
        ap option_flatten (get_drop wanted i) ∙ sym type_is in
        let behind_is : drop 1 (drop i wanted) ≡ behind = drop-drop 1 i wanted in
        record {
          place = placed;
          faults = ap (λ n. least_with new (arg_faults behind n rest)) further_known
              ∙ ap (λ f. least_with f (arg_faults behind (next + k.trees) rest)) new_is
              ∙ ap (λ t. least_with (least_with noted (wanting type next t))
              (arg_faults behind (next + k.trees) rest)) tells.type
              ∙ ap (λ f. least_with (least_with f (wanting type next k.type))
              (arg_faults behind (next + k.trees) rest)) tells.faults
              ∙ ap (λ t. least_with (least_with (least_with now (k.faults next))
              (wanting t next k.type)) (arg_faults behind (next + k.trees) rest))
              (sym wanted_here)
              ∙ ap (λ b. least_with (least_with (least_with now (k.faults next))
              (wanting (option_flatten (slice_get (drop i wanted) 0)) next k.type))
              (arg_faults b (next + k.trees) rest)) (sym behind_is)
              ∙ sym (arg_one now (drop i wanted) next k rest)
              ∙ ap (λ ks. least_with now (arg_faults (drop i wanted) next ks)) (sym left_known)
              ∙ so_far;
        }

    -- the types so far with that of the argument
    types_more : known_types (map known (take (i + 1) args))
        ≡ known_types (map known (take i args)) ++ told.ty ∷ []
    types_more =
        ap (λ es. known_types (map known es)) (take_more args i arg within
        ∙ ap (λ e. take i args ++ e ∷ []) (sym is))
        ∙ ap known_types (map-append known (take i args) (arg ∷ []))
        ∙ map-append (λ (k : Known). k.type) (map known (take i args)) (known arg ∷ [])
        ∙ ap (λ t. known_types (map known (take i args)) ++ t ∷ []) (sym tells.type)

    count_so_far : length (known_types (map known (take i args))) ≡ i
    count_so_far =
        let before : i ≤ length args = omega arith in
        length-map (map known (take i args)) (λ (k : Known). k.type)
        ∙ length-map (take i args) known ∙ length-take-le i args before

    pub next_arg : (s : Signature) (types more : ArgTypes) (is_taken : Bool)
        (start new : Option Fault) →
        ArgsSoFar known s args first i next types start now →
        is_taken ≡ takes s types.count types.fixed told.ty →
        new ≡ least_with noted (unless is_taken next TypeOther) →
        ((ts : List (Option Ty)) → Keeps s ts types → Keeps s (ts ++ told.ty ∷ []) more) →
        ArgsSoFar known s args first (i + 1) further more start new
    next_arg s types more is_taken start new so_far taken_is new_is keeps_more =
        let k : Known = known arg in
        let rest : List Known = map known (drop (i + 1) args) in
        let so : List (Option Ty) = known_types (map known (take i args)) in
        let kept : Keeps s (so ++ told.ty ∷ []) more = keeps_more so so_far.keeps in
        let count : types.count ≡ i = so_far.keeps.count ∙ count_so_far in
        let fixed : more.fixed ≡ fixed_behind s i types.fixed k.type =
        kept.fixed ∙ fixed_last s so told.ty
        ∙ ap (λ n. fixed_behind s n (fixed_by s so) told.ty) count_so_far
        ∙ ap (λ f. fixed_behind s i f told.ty) (sym so_far.keeps.fixed)
        ∙ ap (fixed_behind s i types.fixed) tells.type in
        let own : List Fault = unless (takes s i types.fixed k.type) next TypeOther in
        let later : List Fault = op_arg_faults s (i + 1) (fixed_behind s i types.fixed k.type)
        (next + k.trees) rest in
        let taken : is_taken ≡ takes s i types.fixed k.type =
        taken_is ∙ ap (λ n. takes s n types.fixed told.ty) count
        ∙ ap (takes s i types.fixed) tells.type in
        record {
          keeps = subst (λ ts. Keeps s ts more) (sym types_more) kept;
          place = placed;
          faults = ap (λ f. least_with new (op_arg_faults s (i + 1) f further rest)) fixed
              ∙ ap (λ n. least_with new (op_arg_faults s (i + 1)
              (fixed_behind s i types.fixed k.type) n rest)) further_known
              ∙ ap (λ f. least_with f later) (new_is
              ∙ ap (λ b. least_with noted (unless b next TypeOther)) taken)
              ∙ ap (λ f. least_with (least_with f own) later) tells.faults
              ∙ sym (least_both (least_with now (k.faults next)) own later)
              ∙ sym (least_both now (k.faults next) (own ++ later))
              ∙ ap (λ ks. least_with now (op_arg_faults s i types.fixed next ks)) (sym left_known)
              ∙ so_far.faults;
        }

  module _ (i next : ℕ) (behind : length args ≤ i) where
    -- all arguments are noted
    pub all_given : (wanted : List (Option Ty)) (start now : Option Fault) →
        GivenSoFar known wanted args first i next start now → now
        ≡ least_with start (arg_faults wanted first (map known args))
    all_given wanted start now so_far =
        sym (ap (λ es. least_with now (arg_faults (drop i wanted) next (map known es)))
        (drop_all i args behind)
        ∙ ap (least_with now) (no_args (drop i wanted) next))
        ∙ so_far.faults

    module _ (s : Signature) (types : ArgTypes) (start now : Option Fault)
        (so_far : ArgsSoFar known s args first i next types start now) where
      pub all_kept : Keeps s (known_types (map known args)) types
      all_kept = subst (λ es. Keeps s (known_types (map known es)) types)
          (take_all i args behind) so_far.keeps

      pub all_taken : now ≡ least_with start (op_arg_faults s 0 None first (map known args))
      all_taken =
          sym (ap (λ es. least_with now (op_arg_faults s i types.fixed next (map known es)))
          (drop_all i args behind))
          ∙ so_far.faults

  -- the whole of given arguments
  pub given_told : (wanted : Option (List TypedName)) (at count : ℕ) (whole : List Expr)
      (old counted now : Option Fault) →
      args ≡ whole → count ≡ length whole → counted ≡ least_with old (count_fault wanted count at) →
      now ≡ least_with counted (arg_faults (wanted_types wanted) (at + 3) (map known args)) →
      now ≡ least_with old (given_faults wanted at (map known whole))
  given_told wanted at count whole old counted now same count_is counted_is now_is =
      let parts : List Known = map known whole in
      noted_both old (count_fault wanted (length parts) at)
      (arg_faults (wanted_types wanted) (at + 3) parts)
      (counted_is ∙ ap (λ n. least_with old (count_fault wanted n at)) (count_is
      ∙ sym (length-map whole known)))
      (now_is ∙ ap (λ es. least_with counted
      (arg_faults (wanted_types wanted) (at + 3) (map known es))) same)
      ∙ sym (ap (least_with old) (given_is wanted at parts))

  -- the whole of an operation
  pub apply_told : (op : Op) (at next : ℕ) (s : Signature) (types : ArgTypes)
      (firsts : List (Option Ty)) (fit : Bool) (rule : TypeRule)
      (given : Option Ty) (told : KnownHere) (old stated noted new : Option Fault) →
      s ≡ signature_of op → first ≡ at + 2 + length (numbers_of_op op) → next
      ≡ first + trees_of_exprs args →
      stated ≡ least_with old (stated_width (at + 2) s) →
      noted ≡ least_with stated (op_arg_faults s 0 None first (map known args)) →
      firsts ≡ take 3 (known_types (map known args)) → fit ≡ widths_fit s firsts → rule
      ≡ width_rule s →
      new ≡ least_with noted (unless fit at rule) →
      given ≡ type_given [] s (known_types (map known args)) →
      told ≡ record { trees = next - at; ty = given } →
      Tells (layered around standing scope (Apply op args)) at told old new
  apply_told op at next s types firsts fit rule given told old stated noted new s_is first_is
      next_is stated_is noted_is firsts_are fit_is rule_is new_is given_is told_is =
      let parts : List Known = map known args in
      let o : Signature = signature_of op in
      let start : ℕ = at + 2 + length (numbers_of_op op) in
      let last : List Fault = unless (widths_fit o (known_types parts)) at (width_rule o) in
      let fits : fit ≡ widths_fit o (known_types parts) =
      fit_is ∙ ap (widths_fit s) firsts_are ∙ widths_first s (known_types parts)
      ∙ ap (λ x. widths_fit x (known_types parts)) s_is in
      let count : next - at ≡ 2 + length (numbers_of_op op) + trees_of_parts parts =
      omega (arith, all_trees_known around standing scope args) in
      record {
        trees = ap (λ t. t.trees) told_is ∙ count;
        type = ap (λ t. t.ty) told_is ∙ given_is
            ∙ ap (λ x. type_given [] x (known_types parts)) s_is;
        faults = noted_both old (stated_width (at + 2) o)
            (op_arg_faults o 0 None start parts ++ last)
            (stated_is ∙ ap (λ x. least_with old (stated_width (at + 2) x)) s_is)
            (noted_both stated (op_arg_faults o 0 None start parts) last
            (noted_is ∙ ap (λ x. least_with stated (op_arg_faults x 0 None first parts)) s_is
            ∙ ap (λ n. least_with stated (op_arg_faults o 0 None n parts)) first_is)
            (new_is ∙ ap (λ b. least_with noted (unless b at rule)) fits
            ∙ ap (λ r. least_with noted (unless (widths_fit o (known_types parts)) at r)) (rule_is
            ∙ ap width_rule s_is)));
      }
