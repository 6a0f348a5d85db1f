-- What is declared with a number is what the form of that number says.
use Rattle.std.proofs.Common.{◌≡◌, ℕ, suc, ◌+◌, List, [], ◌∷◌, ◌++◌, slice_get, Option, Some, refl, ap, ◌∙◌, arith, if◌then◌else◌}
use Rattle.std.specs.Prelude.{⊤}
use Rattle.std.specs.List.{AllByRecursion}
use Rattle.std.specs.Option.{option_map}
use Rattle.kat_value.specs.declared.types.Ty.{Ty}
use Rattle.kat_ast.specs.declared.type_name.Param.{Param}
use Rattle.kat_ast.specs.declared.type_name.TypeName.{TypeName}
use Rattle.kat_ast.specs.declared.decl.DeclForm.{DeclForm}
use Rattle.kat_ast.specs.declared.decl.DeclForm.TheVariants as d
use Rattle.kat_ast.specs.Types.{trees_of_param}
use Rattle.kat_syntax.specs.Tables.{Name}
use Rattle.kat_syntax.specs.Declares.{Declared, Meant, TypedName, ARegion, APredicate, AFunction, ALemma, typed_params, type_of_name, members_from, ctors_from, declared_in, declared_from, declared_by, is_type_decl}
use Rattle.kat_syntax.specs.Around.{FunctionSeen, ProofSeen}
use Rattle.kat_tables.specs.Forms.{region_params, predicate_params, function_types, lemma_params}

-- declarations that stand among all from a number on
pub record StandFrom (all : List DeclForm) (k : ℕ) (decls : List DeclForm) : Type 0 where
  pub at : (i : ℕ) → slice_get all (k + i) ≡ slice_get decls i

pub stand_here : {all : List DeclForm} {k : ℕ} {decl : DeclForm} {decls : List DeclForm} →
    StandFrom all k (decl ∷ decls) → slice_get all k ≡ Some decl
stand_here {all} {k} stand =
    let e : k ≡ k + 0 = omega arith in
    ap (slice_get all) e ∙ stand.at 0

pub stand_on : {all : List DeclForm} {k : ℕ} {decl : DeclForm} {decls : List DeclForm} →
    StandFrom all k (decl ∷ decls) → StandFrom all (k + 1) decls
stand_on {all} {k} stand = record {
  at = λ i.
      let e : k + 1 + i ≡ k + suc i = omega arith in
      ap (slice_get all) e ∙ stand.at (suc i);
}

pub all_stand : (all : List DeclForm) → StandFrom all 0 all
all_stand all = record { at = λ i. ap (slice_get all) (let e : 0 + i ≡ i = omega arith in e) }

-- what the form of this number says of a region
abbrev pub region_form : List DeclForm → ℕ → DeclForm → Option (List TypedName)
region_form all k form = option_map (typed_params all k) (region_params form)

-- a predicate with these inputs and outputs
abbrev pub predicate_seen : List DeclForm → ℕ → List Param × List Param → ProofSeen
predicate_seen all k parts = record {
  decl = k;
  inputs = typed_params all k parts.0;
  outputs = typed_params all k parts.1;
}

-- what the form of this number says of a predicate
abbrev pub predicate_form : List DeclForm → ℕ → DeclForm → Option ProofSeen
predicate_form all k form = option_map (predicate_seen all k) (predicate_params form)

-- a function with these typed parameters and this type of its result
abbrev pub seen_as : List TypedName → Option Ty → FunctionSeen
seen_as names type = record { params = names; result = type }

-- a function with these parameters and this type of its result, as they are written
abbrev pub function_seen : List DeclForm → ℕ → List Param × TypeName → FunctionSeen
function_seen all k parts =
    record { params = typed_params all k parts.0; result = type_of_name all k parts.1 }

-- what the form of this number says of a function
abbrev pub function_form : List DeclForm → ℕ → DeclForm → Option FunctionSeen
function_form all k form = option_map (function_seen all k) (function_types form)

-- a lemma with these parameters
abbrev pub lemma_seen : List DeclForm → ℕ → List Param → ProofSeen
lemma_seen all k params =
    record { decl = k; inputs = typed_params all k params; outputs = [] }

-- what the form of this number says of a lemma
abbrev pub lemma_form : List DeclForm → ℕ → DeclForm → Option ProofSeen
lemma_form all k form = option_map (lemma_seen all k) (lemma_params form)

-- whether the form of this number says that something is declared
abbrev pub Says : List DeclForm → ℕ → DeclForm → Meant → Type 0
Says all k form (ARegion params) = region_form all k form ≡ Some params
Says all k form (APredicate inputs outputs) =
    predicate_form all k form ≡ Some (record { decl = k; inputs = inputs; outputs = outputs })
Says all k form (AFunction params result) =
    function_form all k form ≡ Some (record { params = params; result = result })
Says all k form (ALemma params) =
    lemma_form all k form ≡ Some (record { decl = k; inputs = params; outputs = [] })
Says all k form _ = ⊤

-- what is declared is said by the form of its number
pub record IsSaid (all : List DeclForm) (one : Declared) : Type 0 where
  pub form : DeclForm
  pub at : slice_get all one.decl ≡ Some form
  pub says : Says all one.decl form one.is

said_members : (all : List DeclForm) (k p tree : ℕ) (members : List Name) (form : DeclForm) →
    slice_get all k ≡ Some form → AllByRecursion (IsSaid all) (members_from k p tree members)
said_members all k p tree [] form at = tt
said_members all k p tree (x ∷ members) form at = (
  record { form = form; at = at; says = tt },
  said_members all k p (tree + 1) members form at,
)

said_ctors : (all : List DeclForm) (k p at : ℕ) (ctors : List Param) (form : DeclForm) →
    slice_get all k ≡ Some form → AllByRecursion (IsSaid all) (ctors_from all k p at ctors)
said_ctors all k p at [] form is = tt
said_ctors all k p at (ctor ∷ ctors) form is = (
  record { form = form; at = is; says = tt },
  said_ctors all k p (at + trees_of_param ctor) ctors form is,
)

-- each thing that a declaration declares is said by its form
said_in : (all : List DeclForm) (k p : ℕ) (decl : DeclForm) → slice_get all k ≡ Some decl →
    AllByRecursion (IsSaid all) (declared_in all k p decl)
said_in all k p (d.Enum x members) is = (
  record { form = d.Enum x members; at = is; says = tt },
  said_members all k p 4 members (d.Enum x members) is,
)
said_in all k p (d.Union x ctors) is = (
  record { form = d.Union x ctors; at = is; says = tt },
  said_ctors all k p 4 ctors (d.Union x ctors) is,
)
said_in all k p (d.Record x fields) is =
    (record { form = d.Record x fields; at = is; says = tt }, tt)
said_in all k p (d.Register x type kind) is =
    (record { form = d.Register x type kind; at = is; says = tt }, tt)
said_in all k p (d.Region x params i e) is =
    (record { form = d.Region x params i e; at = is; says = refl }, tt)
said_in all k p (d.Predicate x inputs outputs definition) is =
    (record { form = d.Predicate x inputs outputs definition; at = is; says = refl }, tt)
said_in all k p (d.Fun x params result body) is =
    (record { form = d.Fun x params result body; at = is; says = refl }, tt)
said_in all k p (d.Lemma x params names pre post steps) is =
    (record { form = d.Lemma x params names pre post steps; at = is; says = refl }, tt)
said_in all k p (d.Block block) is =
    (record { form = d.Block block; at = is; says = tt }, tt)
said_in all k p _ is = tt

all_of_both : {A : Type 0} (P : A → Type 0) (xs ys : List A) →
    AllByRecursion P xs → AllByRecursion P ys → AllByRecursion P (xs ++ ys)
all_of_both P [] ys holds more = more
all_of_both P (x ∷ xs) ys holds more = (holds.0, all_of_both P xs ys holds.1 more)

said_from : (all : List DeclForm) (k p : ℕ) (decls : List DeclForm) → StandFrom all k decls →
    AllByRecursion (IsSaid all) (declared_from all k p decls)
said_from all k p [] stand = tt
said_from all k p (decl ∷ decls) stand =
    let next : ℕ = if is_type_decl decl then p + 1 else p in
    all_of_both (IsSaid all) (declared_in all k p decl) (declared_from all (k + 1) next decls)
    (said_in all k p decl (stand_here stand))
    (said_from all (k + 1) next decls (stand_on stand))

-- each thing that is declared is said by the form of its number
pub all_said : (all : List DeclForm) → AllByRecursion (IsSaid all) (declared_by all)
all_said all = said_from all 0 0 all (all_stand all)
