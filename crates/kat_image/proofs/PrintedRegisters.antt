-- The lines of registers set each register to what it has.
use Rattle.std.proofs.Common.{◌≡◌, ℕ, suc, ◌+◌, List, [], ◌∷◌, ◌++◌, append_assoc, append-nil, length, Some, refl, sym, ap, ◌∙◌, subst, arith}
use Rattle.std.specs.List.{All}
use Rattle.std.specs.Prelude.{IsTrue, slice_get}
use Rattle.std.proofs.lemmas.Bool.{and_parts, false≢true}
use Rattle.std.proofs.lemmas.List.Elements.{All-nil, All-cons, All-append}
use Rattle.kat_value.specs.declared.types.Ty.{Ty}
use Rattle.kat_value.specs.declared.types.TypeDecl.{TypeDecl}
use Rattle.kat_value.specs.declared.value.Value.{Value}
use Rattle.kat_value.specs.Typing.{has_type}
use Rattle.kat_ast.specs.declared.decl.DeclForm.{DeclForm}
use Rattle.kat_ast.specs.declared.decl.DeclForm.TheVariants as d
use Rattle.kat_ast.specs.Spec.{Spec}
use Rattle.kat_syntax.specs.Machine.{MachineState}
use Rattle.kat_syntax.specs.States.{are_of_types, register_types, register_types_from}
use Rattle.kat_syntax.specs.Tables.{Name, register_names}
use Rattle.kat_syntax.specs.TypeTable.{types_of_decls}
use Rattle.kat_image.specs.declared.setting.Setting.TheVariants.{Register}
use Rattle.kat_image.specs.Image.{Line, Lacks}
use Rattle.kat_image.specs.ReadsBack.{RegisterLinesComeBack, register_text}
use Rattle.kat_image.proofs.PrintedPlaces.{ArePrinted, printed_next}
use Rattle.kat_image.proofs.PrintedSteps.{register_next}
use Rattle.kat_image.proofs.PrintedText.{register_texts}

-- each register has a name and a type
pub one_type_each : (all : List DeclForm) (k : ℕ) (decls : List DeclForm) →
    length (register_types_from all k decls) ≡ length (register_names decls)
one_type_each all k [] = refl
one_type_each all k (d.Register x type kind ∷ decls) = ap suc (one_type_each all (k + 1) decls)
one_type_each all k (_ ∷ decls) = one_type_each all (k + 1) decls

-- there are as many values as types
pub one_value_each : (types : List TypeDecl) (wanted : List Ty) (values : List Value) →
    IsTrue (are_of_types types wanted values) → length values ≡ length wanted
one_value_each types [] [] h = refl
one_value_each types [] (value ∷ values) h = absurd (false≢true h)
one_value_each types (type ∷ wanted) [] h = absurd (false≢true h)
one_value_each types (type ∷ wanted) (value ∷ values) h =
    ap suc (one_value_each types wanted values
    (and_parts (has_type types value type) (are_of_types types wanted values) h).1)

-- one list stands in another from a place on
abbrev pub StandsAt : {A : Type 0} → List A → ℕ → List A → Type 0
StandsAt all r xs = (k : ℕ) → slice_get all (r + k) ≡ slice_get xs k

pub stands_first : {A : Type 0} → (all : List A) → StandsAt all 0 all
stands_first all k = ap (slice_get all) (omega arith)

pub stands_here : {A : Type 0} → (all : List A) (r : ℕ) (x : A) (xs : List A) →
    StandsAt all r (x ∷ xs) → slice_get all r ≡ Some x
stands_here all r x xs h = ap (slice_get all) (omega arith) ∙ h 0

pub stands_behind : {A : Type 0} → (all : List A) (r : ℕ) (x : A) (xs : List A) →
    StandsAt all r (x ∷ xs) → StandsAt all (r + 1) xs
stands_behind all r x xs h k = ap (slice_get all) (omega arith) ∙ h (suc k)

module _ (spec : Spec) (state : MachineState) where
  -- lines are printed, and have no newline
  abbrev pub Printed : List Line → ℕ → ℕ → Type 0
  Printed lines r c = ArePrinted spec state lines r c × All (Lacks 10) lines

module _ (spec : Spec) (state : MachineState) (back : RegisterLinesComeBack spec) where
  abbrev types : List TypeDecl
  types = types_of_decls spec.decls

  -- the line of a register behind those that are printed
  one_line : (lines : List Line) (r : ℕ) (name : Name) (type : Ty) (value : Value) →
      slice_get (register_names spec.decls) r ≡ Some name →
      slice_get (register_types spec.decls) r ≡ Some type →
      slice_get state.registers r ≡ Some value → IsTrue (has_type types value type) →
      Printed spec state lines r 0 →
      Printed spec state (lines ++ register_text types name value ∷ []) (r + 1) 0
  one_line lines r name type value named typed there has printed =
      let line = register_text types name value in
      let read = back r name type value named typed has in (
        printed_next spec state lines line (Register r value) r 0 (r + 1) 0 read.0
            (register_next spec state r value there) printed.0,
        All-append (Lacks 10) lines (line ∷ []) printed.1
            (All-cons (Lacks 10) line [] read.1 (All-nil (Lacks 10))),
      )

  -- the lines of all registers from one on
  pub registers_printed : (names : List Name) (wanted : List Ty) (values : List Value) (r : ℕ)
      (lines : List Line) → length wanted ≡ length names →
      StandsAt (register_names spec.decls) r names →
      StandsAt (register_types spec.decls) r wanted → StandsAt state.registers r values →
      IsTrue (are_of_types types wanted values) → Printed spec state lines r 0 →
      Printed spec state (lines ++ register_texts types names values) (r + length values) 0
  registers_printed names [] (value ∷ values) r lines e ns ts vs are printed =
      absurd (false≢true are)
  registers_printed names (type ∷ wanted) [] r lines e ns ts vs are printed =
      absurd (false≢true are)
  registers_printed [] (type ∷ wanted) (value ∷ values) r lines e ns ts vs are printed =
      absurd (omega (arith, e))
  registers_printed (name ∷ names) [] [] r lines e ns ts vs are printed =
      absurd (omega (arith, e))
  registers_printed [] [] [] r lines e ns ts vs are printed =
      subst (λ k. Printed spec state (lines ++ []) k 0) (omega arith)
      (subst (λ ls. Printed spec state ls r 0) (sym (append-nil lines)) printed)
  registers_printed (name ∷ names) (type ∷ wanted) (value ∷ values) r lines e ns ts vs are
      printed =
      let both = and_parts (has_type types value type) (are_of_types types wanted values) are in
      let line = register_text types name value in
      let more = register_texts types names values in
      subst (λ k. Printed spec state (lines ++ line ∷ more) k 0) (omega arith)
      (subst (λ ls. Printed spec state ls (r + 1 + length values) 0)
      (append_assoc lines (line ∷ []) more)
      (registers_printed names wanted values (r + 1) (lines ++ line ∷ []) (omega (arith, e))
      (stands_behind (register_names spec.decls) r name names ns)
      (stands_behind (register_types spec.decls) r type wanted ts)
      (stands_behind state.registers r value values vs) both.1
      (one_line lines r name type value (stands_here (register_names spec.decls) r name names ns)
      (stands_here (register_types spec.decls) r type wanted ts)
      (stands_here state.registers r value values vs) both.0 printed)))
