-- Typing of expressions: the type of each, where something fixes it, and its faults.
use Rattle.std.specs.Prelude.{ℕ, ◌+◌, ◌^◌, ◌==◌, ◌&&◌, not, nat_lt, Bool, true, false, List, [], ◌∷◌, ◌++◌, length, map, Option, None, Some, is_some, option_and_then}
use Rattle.std.specs.Option.{option_map, option_flatten}
use Rattle.kat_value.specs.declared.signature.Signature.{Signature}
use Rattle.kat_value.specs.declared.signature.Signature.TheVariants as signature
use Rattle.kat_value.specs.declared.types.Ty.{Ty}
use Rattle.kat_value.specs.declared.types.Ty.TheVariants as ty
use Rattle.kat_value.specs.Signatures.{signature_of, agree, bits_of, takes, fixed_behind, type_given, widths_fit}
use Rattle.kat_value.specs.Widths.{is_width}
use Rattle.kat_value.specs.Words.{numbers_of_op}
use Rattle.kat_ast.specs.declared.expr.Expr.{Expr}
use Rattle.kat_ast.specs.declared.expr.Expr.TheOpen.{Expr-F, Name as Named, Unit, Truth, Bits, Of, Make, Rec, Register, Kept, KeptCell, Before, After, BeforeCell, AfterCell, Apply, Get}
use Rattle.kat_ast.specs.declared.expr.Expr.TheFolds.{map-Expr, fold-Expr}
use Rattle.kat_ast.specs.declared.decl.RegisterKind.{RegisterKind}
use Rattle.kat_ast.specs.declared.decl.RegisterKind.TheVariants as register
use Rattle.kat_ast.specs.Expressions.{expr_trees}
use Rattle.kat_syntax.specs.Tables.{Name}
use Rattle.kat_syntax.specs.declared.type_rule.TypeRule.TheVariants.{TypeUnknown, NoWidth, NameUnknown, LiteralLarge, TypeOther, CountOther, SliceOutside, WidthOther, NotHere}
use Rattle.kat_syntax.specs.declared.type_rule.TypeRule.{TypeRule}
use Rattle.kat_syntax.specs.TypeRules.{Fault, unless}
use Rattle.kat_syntax.specs.Declares.{TypedName, types_of}
use Rattle.kat_syntax.specs.Around.{Around, RegisterSeen, CtorSeen, RecordSeen, a_member, a_ctor, a_register, meant, type_called, record_called, enum_called}
use Rattle.kat_syntax.specs.Memories.{kept_cell_type, is_protected_cell}
use Rattle.kat_syntax.specs.TypesWritten.{Scope, local_type}

-- where an expression stands
pub data Standing : Type 0 where
  -- in a statement, a guard, or an assertion of a predicate, a contract or a lemma
  Plain : Standing
  -- in a condition of the dispatch
  InDispatch : Standing
  -- in an assertion with kept values: the untrusted assertion, and entries
  WithKept : Standing
  -- in the change of a block
  InChange : Standing

-- whether registers may be read as such
abbrev pub may_read : Standing → Bool
may_read InDispatch = true
may_read _ = false

-- whether kept values may be named
abbrev pub may_keep : Standing → Bool
may_keep WithKept = true
may_keep _ = false

-- whether values before and after a block may be named
abbrev pub may_change : Standing → Bool
may_change InChange = true
may_change _ = false

-- what typing knows of a form: how many trees it has, its type where something fixes it, and its
-- faults where the form stands at a tree
pub record Known : Type 0 where
  pub trees : ℕ
  pub type : Option Ty
  pub faults : ℕ → List Fault

-- the fault of a tree that is of another type than the one wanted
abbrev pub wanting : Option Ty → ℕ → Option Ty → List Fault
wanting wanted at type = unless (agree wanted type) at TypeOther

-- the faults of the arguments of an operation, the first standing at this position and tree
abbrev pub op_arg_faults : Signature → ℕ → Option Ty → ℕ → List Known → List Fault
op_arg_faults signature k fixed at [] = []
op_arg_faults signature k fixed at (arg ∷ args) =
    arg.faults at
    ++ (unless (takes signature k fixed arg.type) at TypeOther
    ++ op_arg_faults signature (k + 1) (fixed_behind signature k fixed arg.type) (at + arg.trees)
    args)

-- the types of arguments
abbrev pub known_types : List Known → List (Option Ty)
known_types args = map (λ (arg : Known). arg.type) args

-- the faults of parts side by side, the first standing at this tree
abbrev pub parts_faults : ℕ → List Known → List Fault
parts_faults at [] = []
parts_faults at (part ∷ parts) = part.faults at ++ parts_faults (at + part.trees) parts

-- the faults of arguments of which these types are wanted, the first standing at this tree; what is
-- beyond them may be of any type
abbrev pub arg_faults : List (Option Ty) → ℕ → List Known → List Fault
arg_faults [] at args = parts_faults at args
arg_faults (type ∷ wanted) at [] = []
arg_faults (type ∷ wanted) at (arg ∷ args) =
    arg.faults at ++ (wanting type at arg.type ++ arg_faults wanted (at + arg.trees) args)

-- the faults of a list with a name and arguments, the list standing at this tree: their count, and
-- the arguments; where it is not known what is wanted, those of the arguments alone
abbrev pub given_faults : Option (List TypedName) → ℕ → List Known → List Fault
given_faults None at args = parts_faults (at + 3) args
given_faults (Some params) at args =
    unless (length args == length params) at CountOther
    ++ arg_faults (types_of params) (at + 3) args

-- the fault of a name at this tree of which nothing of the kind wanted is there
abbrev pub unknown : {A : Type 0} → ℕ → Option A → List Fault
unknown at found = unless (is_some found) at NameUnknown

-- the faults of a name at this tree that is to be a type declared earlier, and of the kind wanted
abbrev pub unknown_type : {A : Type 0} → ℕ → Option Ty → Option A → List Fault
unknown_type at None wanted = unless false at TypeUnknown
unknown_type at (Some type) wanted = unknown at wanted

-- the fault of a name at this tree that is no member of this enum, where there is one
abbrev pub member_fault : Option ℕ → ℕ → Option ℕ → List Fault
member_fault None at found = []
member_fault (Some p) at None = unless false at NameUnknown
member_fault (Some p) at (Some q) = unless (p == q) at NameUnknown

-- the fault of a name at this tree that is no field of this record, where there is one
abbrev pub field_fault : Option RecordSeen → ℕ → Name → List Fault
field_fault None at f = []
field_fault (Some seen) at f = unknown at (local_type seen.fields f)

-- the condition on widths that an operation has
abbrev pub width_rule : Signature → TypeRule
width_rule (signature.Slice hi lo) = SliceOutside
width_rule _ = WidthOther

-- the fault of an extension to no width, the number standing at this tree
abbrev pub stated_width : ℕ → Signature → List Fault
stated_width at (signature.Extension width) = unless (is_width width) at NoWidth
stated_width at _ = []

-- whether a register of this kind is outside
abbrev pub is_outside_kind : RegisterKind → Bool
is_outside_kind register.Outside = true
is_outside_kind _ = false

-- whether a register of this kind is protected
abbrev pub is_protected_kind : RegisterKind → Bool
is_protected_kind register.Protected = true
is_protected_kind _ = false

-- whether a register is of a kind, or unknown
abbrev pub is_of_kind : (RegisterKind → Bool) → Option RegisterSeen → Bool
is_of_kind kind None = true
is_of_kind kind (Some seen) = kind seen.kind

-- the type of a register, where it is known
abbrev pub type_of_register : Around → Name → Option Ty
type_of_register around r =
    option_and_then (λ (seen : RegisterSeen). seen.type) (meant a_register around r)

-- the faults of an expression at this tree that names a register: it may stand here, and the
-- register is of the kind wanted and known
abbrev pub register_faults : Around → Bool → (RegisterKind → Bool) → ℕ → Name → List Fault
register_faults around allowed kind at r =
    unless (allowed && is_of_kind kind (meant a_register around r)) at NotHere
    ++ unknown (at + 2) (meant a_register around r)

-- the fault of an expression at this tree that names a cell: it may stand here, and the cell is
-- protected
abbrev pub cell_faults : Around → Bool → ℕ → ℕ → List Fault
cell_faults around allowed at n = unless (allowed && is_protected_cell around n) at NotHere

-- the type of one layer of an expression
abbrev pub expr_type : Around → Scope → Expr-F Known → Option Ty
expr_type around scope (Named x) = option_flatten (local_type scope x)
expr_type around scope Unit = Some ty.Unit
expr_type around scope (Truth b) = Some ty.Bool
expr_type around scope (Bits width number) = bits_of width
expr_type around scope (Of e member) = option_map ty.Enum (enum_called around e)
expr_type around scope (Make k payload) =
    option_map (λ (seen : CtorSeen). ty.Union seen.of) (meant a_ctor around k)
expr_type around scope (Rec r fields) =
    option_map (λ (seen : RecordSeen). ty.Rec seen.of) (record_called around r)
expr_type around scope (Register r) = type_of_register around r
expr_type around scope (Kept r) = type_of_register around r
expr_type around scope (Before r) = type_of_register around r
expr_type around scope (After r) = type_of_register around r
expr_type around scope (KeptCell n) = kept_cell_type around
expr_type around scope (BeforeCell n) = kept_cell_type around
expr_type around scope (AfterCell n) = kept_cell_type around
expr_type around scope (Apply op args) = type_given [] (signature_of op) (known_types args)
expr_type around scope (Get r f value) =
    option_and_then (λ (seen : RecordSeen). option_flatten (local_type seen.fields f))
    (record_called around r)

-- the faults of one layer of an expression that stands at a tree: its own, and those of its parts
abbrev pub expr_faults : Around → Standing → Scope → Expr-F Known → ℕ → List Fault
expr_faults around standing scope (Named x) at = unknown at (local_type scope x)
expr_faults around standing scope Unit at = []
expr_faults around standing scope (Truth b) at = []
expr_faults around standing scope (Bits width number) at =
    unless (is_width width) (at + 2) NoWidth
    ++ unless (nat_lt number (2 ^ width)) (at + 3) LiteralLarge
expr_faults around standing scope (Of e member) at =
    unknown_type (at + 2) (type_called around e) (enum_called around e)
    ++ member_fault (enum_called around e) (at + 3) (meant a_member around member)
expr_faults around standing scope (Make k payload) at =
    unknown (at + 2) (meant a_ctor around k)
    ++ (payload.faults (at + 3)
    ++ wanting (option_and_then (λ (seen : CtorSeen). seen.payload) (meant a_ctor around k))
    (at + 3) payload.type)
expr_faults around standing scope (Rec r fields) at =
    unknown_type (at + 2) (type_called around r) (record_called around r)
    ++ given_faults (option_map (λ (seen : RecordSeen). seen.fields) (record_called around r))
    at fields
expr_faults around standing scope (Register r) at =
    register_faults around (may_read standing) (λ kind. not (is_outside_kind kind)) at r
expr_faults around standing scope (Kept r) at =
    register_faults around (may_keep standing) is_protected_kind at r
expr_faults around standing scope (Before r) at =
    register_faults around (may_change standing) is_protected_kind at r
expr_faults around standing scope (After r) at =
    register_faults around (may_change standing) is_protected_kind at r
expr_faults around standing scope (KeptCell n) at = cell_faults around (may_keep standing) at n
expr_faults around standing scope (BeforeCell n) at = cell_faults around (may_change standing) at n
expr_faults around standing scope (AfterCell n) at = cell_faults around (may_change standing) at n
expr_faults around standing scope (Apply op args) at =
    stated_width (at + 2) (signature_of op)
    ++ (op_arg_faults (signature_of op) 0 None (at + 2 + length (numbers_of_op op)) args
    ++ unless (widths_fit (signature_of op) (known_types args)) at (width_rule (signature_of op)))
expr_faults around standing scope (Get r f value) at =
    unknown_type (at + 2) (type_called around r) (record_called around r)
    ++ (field_fault (record_called around r) (at + 3) f
    ++ (value.faults (at + 4)
    ++ wanting (option_map (λ (seen : RecordSeen). ty.Rec seen.of) (record_called around r))
    (at + 4) value.type))

-- one layer of an expression, with what is known of each part in its place
abbrev pub expr_known : Around → Standing → Scope → Expr-F Known → Known
expr_known around standing scope layer = record {
  trees = expr_trees (map-Expr Known ℕ (λ part. part.trees) layer);
  type = expr_type around scope layer;
  faults = expr_faults around standing scope layer;
}

-- what is known of an expression that stands so, in this scope
abbrev pub known_of_expr : Around → Standing → Scope → Expr → Known
known_of_expr around standing scope = fold-Expr Known (expr_known around standing scope)
