-- What statements do, on concrete states.
use Rattle.std.specs.Prelude.{ℕ, Bool, ◌+◌, ◌==◌, ◌&&◌, if◌then◌else◌, List, [], ◌∷◌, ◌++◌, Option, None, Some, option_and_then}
use Rattle.std.specs.Option.{option_map}
use Rattle.std.specs.Str.{bytes_eq}
use Rattle.kat_value.specs.declared.types.TypeDecl.{TypeDecl}
use Rattle.kat_value.specs.declared.value.Value.{Value, out-Value}
use Rattle.kat_value.specs.declared.value.Value.TheOpen as layer
use Rattle.kat_value.specs.declared.value.Value.TheVariants.{Unit as UnitValue, Bool as Truth, Bits as Number}
use Rattle.kat_value.specs.Widths.{is_number}
use Rattle.kat_ast.specs.declared.place.Place.{Place}
use Rattle.kat_ast.specs.declared.decl.DeclForm.{DeclForm}
use Rattle.kat_ast.specs.declared.expr.Expr.{Expr}
use Rattle.kat_ast.specs.declared.stm.Stm.{Stm}
use Rattle.kat_ast.specs.declared.stm.CaseArm.{CaseArm}
use Rattle.kat_ast.specs.declared.stm.MatchArm.{MatchArm}
use Rattle.kat_ast.specs.declared.stm.Stm.TheOpen.{Stm-F, Ret, Let, Seq, If, Case, Match, Read, Write, Load, Store, Call, Check, Fail as FailStm, Open, Close, Lemma}
use Rattle.kat_ast.specs.declared.stm.Stm.TheFolds.{map-Stm, fold-Stm}
use Rattle.kat_ast.specs.Expressions.{trees_of_expr}
use Rattle.kat_ast.specs.Statements.{stm_trees}
use Rattle.kat_syntax.specs.Tables.{Name}
use Rattle.kat_syntax.specs.Memories.{Memory}
use Rattle.kat_syntax.specs.Machine.{MachineState, Progress}
use Rattle.kat_syntax.specs.NamedValues.{member_name, ctor_name}
use Rattle.kat_syntax.specs.TypeTable.{types_of_decls}
use Rattle.kat_syntax.specs.States.{register_value, written, cell_at, with_cell, memory_of}
use Rattle.kat_syntax.specs.Evaluation.{Locals, Nothing, Environment, value_of_expr, values_of_exprs}
use Rattle.kat_syntax.specs.Outcomes.{Outcome, Done, Fail, Stuck, StmSite, Here, There, then_do, given, at_site, inside}

-- what a call does: of this function, with these arguments
abbrev pub Calls : Type 0
Calls = Name → List Value → Progress → Outcome Place

-- what a part is known by: its count of trees, and what it does
pub record Part : Type 0 where
  pub trees : ℕ
  pub does : Locals → Progress → Outcome StmSite

-- where the expressions of statements are evaluated
abbrev pub plainly : List DeclForm → Locals → Environment
plainly decls locals = record { decls = decls; reads = Nothing; locals = locals }

-- a truth as such
abbrev pub truth_of : Value → Option Bool
truth_of (Truth b) = Some b
truth_of _ = None

-- a number of bits of this width as such
abbrev pub number_of : ℕ → Value → Option ℕ
number_of w (Number v n) = if (w == v) && is_number v n then Some n else None
number_of w _ = None

-- the value of an expression as a truth
abbrev pub truth_for : List DeclForm → Locals → Expr → Option Bool
truth_for decls locals e = option_and_then truth_of (value_of_expr (plainly decls locals) e)

-- the value of an expression as a number of this width
abbrev pub number_for : List DeclForm → ℕ → Locals → Expr → Option ℕ
number_for decls width locals e =
    option_and_then (number_of width) (value_of_expr (plainly decls locals) e)

-- done with unit, in this state
abbrev pub done_in : MachineState → Progress → Outcome StmSite
done_in state progress = Done UnitValue (record progress { state = state })

-- the number in a cell, of the width of cells; a failure outside the memory
abbrev pub loaded : ℕ → Option ℕ → Progress → Outcome StmSite
loaded width None progress = Fail (Here 0)
loaded width (Some n) progress = Done (Number width n) progress

-- a number put into a cell, which had this one before; a failure outside the memory
abbrev pub stored : ℕ → ℕ → Option ℕ → Progress → Outcome StmSite
stored i n None progress = Fail (Here 0)
stored i n (Some before) progress =
    Done UnitValue (record progress {
      state = with_cell i n progress.state;
      stores = progress.stores ++ i ∷ [];
    })

-- parts one after another, the first standing at this tree: every value but the last is dropped
abbrev pub in_sequence : ℕ → List Part → Locals → Progress → Outcome StmSite
in_sequence at [] locals progress = Stuck
in_sequence at (part ∷ []) locals progress = inside at (part.does locals progress)
in_sequence at (part ∷ next ∷ parts) locals progress =
    then_do (inside at (part.does locals progress))
    (λ value after. in_sequence (at + part.trees) (next ∷ parts) locals after)

-- the name of the member that a value is
abbrev pub member_of_layer : List TypeDecl → layer.Value-F Value → Option Name
member_of_layer types (layer.Member of index) = member_name types of index
member_of_layer types _ = None

-- the first arm of this member, the list of the first arm having this tree
abbrev pub case_arm : Name → ℕ → List (CaseArm Part) → Locals → Progress → Outcome StmSite
case_arm member at [] locals progress = Stuck
case_arm member at (arm ∷ arms) locals progress =
    if bytes_eq arm.member member
    then inside (at + 2) (arm.body.does locals progress)
    else case_arm member (at + 2 + arm.body.trees) arms locals progress

-- a constructor by its name, with a payload
pub record MadeWith : Type 0 where
  pub ctor : Name
  pub payload : Value

-- the constructor and the payload that a value is made of
abbrev pub made_of_layer : List TypeDecl → layer.Value-F Value → Option MadeWith
made_of_layer types (layer.Made of ctor inner) =
    option_map (λ k. record { ctor = k; payload = inner }) (ctor_name types of ctor)
made_of_layer types _ = None

-- the first arm of this constructor, the list of the first arm having this tree, with the payload
-- named
abbrev pub match_arm : MadeWith → ℕ → List (MatchArm Part) → Locals → Progress → Outcome StmSite
match_arm made at [] locals progress = Stuck
match_arm made at (arm ∷ arms) locals progress =
    if bytes_eq arm.ctor made.ctor
    then inside (at + 3) (arm.body.does ((arm.payload, made.payload) ∷ locals) progress)
    else match_arm made (at + 3 + arm.body.trees) arms locals progress

-- what one layer of a statement does, among these declarations. All expressions of a statement have
-- their values first, from left to right; then it acts
abbrev pub does_of : List DeclForm → Calls → Stm-F Part → Locals → Progress → Outcome StmSite
does_of decls calls (Ret e) locals progress =
    given (value_of_expr (plainly decls locals) e) (λ v. Done v progress)
does_of decls calls (Let x first second) locals progress =
    then_do (inside 3 (first.does locals progress))
    (λ v next. inside (3 + first.trees) (second.does ((x, v) ∷ locals) next))
does_of decls calls (Seq parts) locals progress = in_sequence 2 parts locals progress
does_of decls calls (If test first second) locals progress =
    given (truth_for decls locals test)
    (λ holds.
    if holds
    then inside (2 + trees_of_expr test) (first.does locals progress)
    else inside (2 + trees_of_expr test + first.trees) (second.does locals progress))
does_of decls calls (Case e arms) locals progress =
    given (option_and_then (λ v. member_of_layer (types_of_decls decls) (out-Value v))
    (value_of_expr (plainly decls locals) e))
    (λ member. case_arm member (2 + trees_of_expr e) arms locals progress)
does_of decls calls (Match e arms) locals progress =
    given (option_and_then (λ v. made_of_layer (types_of_decls decls) (out-Value v))
    (value_of_expr (plainly decls locals) e))
    (λ made. match_arm made (2 + trees_of_expr e) arms locals progress)
does_of decls calls (Read r) locals progress =
    given (register_value decls r progress.state.registers) (λ v. Done v progress)
does_of decls calls (Write r e) locals progress =
    given (option_and_then (λ v. written decls r v progress.state)
    (value_of_expr (plainly decls locals) e))
    (λ state. done_in state progress)
does_of decls calls (Load index) locals progress =
    given (memory_of decls) (λ (memory : Memory).
    given (number_for decls memory.index_width locals index) (λ i.
    loaded memory.cell_width (cell_at progress.state i) progress))
does_of decls calls (Store index e) locals progress =
    given (memory_of decls) (λ (memory : Memory).
    given (number_for decls memory.index_width locals index) (λ i.
    given (number_for decls memory.cell_width locals e) (λ n.
    stored i n (cell_at progress.state i) progress)))
does_of decls calls (Call f args) locals progress =
    given (values_of_exprs (plainly decls locals) args)
    (λ values. at_site There (calls f values progress))
does_of decls calls (Check e) locals progress =
    given (truth_for decls locals e)
    (λ holds. if holds then Done UnitValue progress else Fail (Here 0))
does_of decls calls FailStm locals progress = Fail (Here 0)
does_of decls calls (Open p inputs) locals progress = Done UnitValue progress
does_of decls calls (Close p inputs) locals progress = Done UnitValue progress
does_of decls calls (Lemma l args) locals progress = Done UnitValue progress

-- one layer of a statement
abbrev pub part_of : List DeclForm → Calls → Stm-F Part → Part
part_of decls calls layer = record {
  trees = stm_trees (map-Stm Part ℕ (λ part. part.trees) layer);
  does = does_of decls calls layer;
}

-- a whole statement
abbrev pub part_of_stm : List DeclForm → Calls → Stm → Part
part_of_stm decls calls = fold-Stm Part (part_of decls calls)

-- what a statement does
abbrev pub meaning : List DeclForm → Calls → Stm → Locals → Progress → Outcome StmSite
meaning decls calls stm = (part_of_stm decls calls stm).does
