-- Specifications from the declarations that were read, and what a reader answers.
use Rattle.std.proofs.Common.{◌≡◌, ℕ, zero, suc, ◌+◌, ◌-◌, ◌<◌, List, [], ◌∷◌, ◌++◌, length, take, drop, map, refl, ap, sym, subst, ◌∙◌}
use Rattle.std.specs.Prelude.{codes, Result, Ok, Err, MatchResult}
use Rattle.std.specs.List.{AllByRecursion}
use Rattle.std.proofs.lemmas.List.{take_more, map-append}
use Rattle.kat_tree.specs.declared.tree.Tree.{Tree}
use Rattle.kat_tree.specs.declared.tree.Tree.TheVariants as variant
use Rattle.kat_ast.specs.declared.decl.DeclForm.{DeclForm}
use Rattle.kat_ast.specs.Parts.{number, form}
use Rattle.kat_ast.specs.Declarations.{tree_of_decl, IsDecl}
use Rattle.kat_ast.specs.Specifications.{Describes}
use Rattle.kat_shapes.specs.declared.sort.Sort.{Sort}
use Rattle.kat_shapes.specs.declared.sort.Sort.TheVariants as sort
use Rattle.kat_shapes.specs.declared.misfit.Misfit.{Misfit}
use Rattle.kat_shapes.specs.Places.{AllHaveForm, IsFirstMisfit as IsFirstMisfitOf}
use Rattle.kat_grammar.specs.Parts.{FitsSort, At}
use Rattle.kat_grammar.specs.Laws.{FormLaws}
use Rattle.kat_forms.specs.declared.error.FormError.{FormError}
use Rattle.kat_forms.specs.declared.error.FormError.TheVariants.{Wanted, Memory}
use Rattle.kat_forms.specs.Reading.{DescribesDecl, Names, Gives, GivesMisfit}

-- the parts behind others
pub all_behind : (P : Tree → Type 0) (n : ℕ) (trees : List Tree) → AllByRecursion P trees → AllByRecursion P (drop n trees)
all_behind P zero trees all = all
all_behind P (suc n) [] all = tt
all_behind P (suc n) (tree ∷ trees) all = all_behind P n trees all.1

-- the declarations behind the word and the version
pub decls_fit_here : (laws : FormLaws) (parts : List Tree) → FitsSort sort.Spec (variant.List parts) → AllByRecursion (FitsSort sort.Declaration) (take (length parts - 2) (drop 2 parts))
decls_fit_here laws parts fit =
    let found = laws.spec_parts parts fit in
    subst (AllByRecursion (FitsSort sort.Declaration)) (sym (laws.rest_is parts 2 ∙ ap (drop 2) found.1)) found.2

pub spec_made : (laws : FormLaws) (tree : Tree) (parts : List Tree) (decls : List DeclForm) → tree ≡ variant.List parts → FitsSort sort.Spec (variant.List parts) →
    map tree_of_decl decls ≡ take (length parts - 2) (drop 2 parts) → AllByRecursion IsDecl decls → Describes tree (record { version = 1; decls = decls })
spec_made laws tree parts decls is fit same all =
    let found = laws.spec_parts parts fit in
    let trees = same ∙ laws.rest_is parts 2 ∙ ap (drop 2) found.1 in
    record { tree_is = is ∙ ap variant.List found.1 ∙ ap (λ ts. form (codes "spec") (number 1 ∷ ts)) (sym trees); kept = record { version = refl; decls = all } }

-- the declarations that were made of the trees before a position
pub record Made (trees : List Tree) (made : List DeclForm) (at : ℕ) : Type 0 where
  pub same : map tree_of_decl made ≡ take at trees
  pub decls : AllByRecursion IsDecl made

all_and_one : (made : List DeclForm) (d : DeclForm) → AllByRecursion IsDecl made → IsDecl d → AllByRecursion IsDecl (made ++ d ∷ [])
all_and_one [] d all one = (one, tt)
all_and_one (m ∷ made) d all one = (all.0, all_and_one made d all.1 one)

pub one_made : (trees : List Tree) (made now : List DeclForm) (at : ℕ) (d : DeclForm) (tree : Tree) → now ≡ made ++ d ∷ [] → Made trees made at → at < length trees → At trees at tree →
    DescribesDecl tree d → Made trees now (at + 1)
one_made trees made now at d tree pushed so_far within here one = subst (λ ds. Made trees ds (at + 1)) (sym pushed) (record {
  same =
      map-append tree_of_decl made (d ∷ []) ∙ ap (λ ts. ts ++ tree_of_decl d ∷ []) so_far.same
      ∙ ap (λ t. take at trees ++ t ∷ []) (sym one.tree_is ∙ here) ∙ sym (take_more trees at tree within);
  decls = all_and_one made d so_far.decls one.kept;
})

-- what a reader answers that gives what a tree describes, or its first misfit
module _ {A : Type 0} (root : Sort) (tree : Tree) (Is : A → Type 0)
    (same : (a b : A) → Is a → Is b → a ≡ b) (has_form : (a : A) → Is a → AllHaveForm root tree)
    (never_both : (misfit : Misfit) → AllHaveForm root tree → IsFirstMisfitOf root tree misfit → ⊥)
    (one : (a b : Misfit) → IsFirstMisfitOf root tree a → IsFirstMisfitOf root tree b → a ≡ b) where
  abbrev Answers : Result A FormError → Type 0
  Answers result = MatchResult result (λ read. AllHaveForm root tree × Is read) (λ e. Names e (IsFirstMisfitOf root tree))

  pub gives : (result : Result A FormError) → Answers result → (a : A) → Is a → Gives result a
  gives (Ok read) found a is = same read a found.1 is
  gives (Err (Wanted place wanted)) found a is = never_both (record { place = place; wanted = wanted }) (has_form a is) found
  gives (Err Memory) found a is = tt

  pub gives_misfit : (result : Result A FormError) → Answers result → (misfit : Misfit) → IsFirstMisfitOf root tree misfit → GivesMisfit result misfit
  gives_misfit (Ok read) found misfit is = never_both misfit found.0 is
  gives_misfit (Err (Wanted place wanted)) found misfit is = one misfit (record { place = place; wanted = wanted }) is found
  gives_misfit (Err Memory) found misfit is = tt
