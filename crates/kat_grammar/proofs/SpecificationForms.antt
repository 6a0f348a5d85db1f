-- Specifications: what fits is one, and the tree of one fits.
use Rattle.std.proofs.Common.{◌≡◌, ℕ, suc, ◌+◌, ◌-◌, ◌<◌, ◌≤◌, ◌⊎◌, inl, inr, ⊎_elim, List, [], ◌∷◌, length, map, Option, Some, None, true, refl, ap, sym, subst, ◌∙◌, arith}
use Rattle.std.specs.Prelude.{codes, replicate, slice_get}
use Rattle.std.specs.List.{AllByRecursion}
use Rattle.std.proofs.lemmas.Bool.{eqb-true}
use Rattle.kat_tree.specs.declared.tree.Token.{Token}
use Rattle.kat_tree.specs.declared.tree.Token.TheVariants as token
use Rattle.kat_tree.specs.declared.tree.Tree.{Tree}
use Rattle.kat_tree.specs.declared.tree.Tree.TheVariants as variant
use Rattle.kat_tree.specs.Lexeme.{nesting}
use Rattle.kat_tree.specs.Preorder.{count_of}
use Rattle.kat_tree.specs.Written.{IsToken, tokens_of, IsWritable}
use Rattle.kat_ast.specs.declared.decl.DeclForm.{DeclForm}
use Rattle.kat_ast.specs.Spec.{Spec}
use Rattle.kat_ast.specs.Limits.{deepest_decl, decl_trees_bound}
use Rattle.kat_ast.specs.Parts.{word, number, form}
use Rattle.kat_ast.specs.Laws.{AreFormed}
use Rattle.kat_ast.specs.Declarations.{tree_of_decl, is_formed_decl, IsDecl}
use Rattle.kat_ast.specs.Specifications.{tree_of_spec, Describes}
use Rattle.kat_shapes.specs.declared.sort.Sort.TheVariants as sort
use Rattle.kat_shapes.specs.declared.misfit.Misfit.{Misfit}
use Rattle.kat_shapes.specs.Forms.{many, form_of, newest}
use Rattle.kat_shapes.specs.Places.{AllHaveForm, IsFirstMisfit as IsFirstMisfitOf}
use Rattle.kat_grammar.specs.Parts.{FitsSort, IsText, IsPartOfText, AreSmall, HasParts, HasOneForm}
use Rattle.kat_grammar.specs.Forms.{IsDeclForm}
use Rattle.kat_grammar.specs.Described.{DescribesDecl}
use Rattle.kat_grammar.proofs.Fitting.{by_layer, fits_of_token, token_fits, no_list, is_list, many_parts, rest_fits, one_form, form_fits, many_sorts, all_of_one}
use Rattle.kat_grammar.proofs.DeclarationForms.{decl_of, decl_fits}

-- the version is the number 1
no_version_list : (found : Option (List ℕ)) → form_of newest sort.Version found ≡ None
no_version_list None = refl
no_version_list (Some x) = refl

abbrev VersionIs : Tree → Type 0
VersionIs t = FitsSort sort.Version t → t ≡ number 1

version_atom : (t : Token) → VersionIs (variant.Atom t)
version_atom (token.Number n) fit = ap number (eqb-true n 1 (fits_of_token sort.Version (token.Number n) fit))
version_atom (token.Name x) fit = absurd (let e = fits_of_token sort.Version (token.Name x) fit in cc)

version_is : (t : Tree) → FitsSort sort.Version t → t ≡ number 1
version_is = by_layer VersionIs version_atom (λ parts fit. absurd (no_list sort.Version parts no_version_list fit))

one_spec : HasOneForm sort.Spec (codes "spec") (many (sort.Word ∷ sort.Version ∷ []) sort.Declaration)
one_spec = record { none = refl; some = λ x. refl; rows = refl; formed = refl }

behind_spec : (ts : List Tree) → HasParts (sort.Version ∷ replicate (length ts - 1) sort.Declaration) ts →
    (decls : List Tree) × (ts ≡ number 1 ∷ decls) × AllByRecursion (FitsSort sort.Declaration) decls
behind_spec [] h = absurd h.fit
behind_spec (v ∷ ts) h =
    (ts, ap (λ t. t ∷ ts) (version_is v h.fit.0), rest_fits (sort.Version ∷ []) sort.Declaration (length (v ∷ ts) - 1) (v ∷ ts) h)

-- the parts of a specification
pub spec_parts : (parts : List Tree) → FitsSort sort.Spec (variant.List parts) →
    (decls : List Tree) × (parts ≡ word (codes "spec") ∷ number 1 ∷ decls) × AllByRecursion (FitsSort sort.Declaration) decls
spec_parts parts fit =
    let one = one_form sort.Spec (codes "spec") _ one_spec parts fit in
    let found = behind_spec one.0 (many_parts sort.Spec (codes "spec") (sort.Version ∷ []) sort.Declaration one.0 refl one.2) in
    (found.0, one.1 ∙ ap (λ ts. word (codes "spec") ∷ ts) found.1, found.2)

-- a declaration of a text keeps what each keeps
pub is_decl : (tree : Tree) (d : DeclForm) → IsDeclForm tree d → IsPartOfText tree → IsDecl d
is_decl tree d is text = record {
  formed = is.1;
  tokens = subst (λ t. AllByRecursion IsToken (tokens_of t)) (sym is.0) text.writable.tokens;
  nesting = subst (λ t. nesting t ≤ deepest_decl) (sym is.0) text.nesting;
  small = subst (λ t. count_of t < decl_trees_bound) (sym is.0) text.small;
}

pub describes_decl : (tree : Tree) (d : DeclForm) → IsDeclForm tree d → IsPartOfText tree → DescribesDecl tree d
describes_decl tree d is text = record { tree_is = sym is.0; kept = is_decl tree d is text }

decls_of : (ts : List Tree) → AllByRecursion (FitsSort sort.Declaration) ts → AllByRecursion IsPartOfText ts →
    (ds : List DeclForm) × (map tree_of_decl ds ≡ ts) × AllByRecursion IsDecl ds
decls_of [] fit text = ([], refl, tt)
decls_of (t ∷ ts) fit text =
    let d = decl_of t fit.0 in let ds = decls_of ts fit.1 text.1 in
    (d.0 ∷ ds.0, ap (λ u. u ∷ map tree_of_decl ds.0) d.1.0 ∙ ap (λ us. t ∷ us) ds.1, (is_decl t d.0 d.1 text.0, ds.2))

-- what fits is described by a specification
pub spec_of : (tree : Tree) → FitsSort sort.Spec tree → ((parts : List Tree) → tree ≡ variant.List parts → AllByRecursion IsPartOfText parts) →
    (spec : Spec) × Describes tree spec
spec_of tree fit text =
    let list = is_list sort.Spec tree (record { numbers = λ n. refl; names = λ x. refl }) fit in
    let found = spec_parts list.0 (subst (FitsSort sort.Spec) list.1 fit) in
    let all = subst (AllByRecursion IsPartOfText) found.1 (text list.0 list.1) in
    let ds = decls_of found.0 found.2 all.1.1 in (
      record { version = 1; decls = ds.0 },
      record {
        tree_is = list.1 ∙ ap variant.List found.1 ∙ ap (λ ts. form (codes "spec") (number 1 ∷ ts)) (sym ds.1);
        kept = record { version = refl; decls = ds.2 };
      },
    )

pub decl_described : (tree : Tree) → FitsSort sort.Declaration tree → IsPartOfText tree → (d : DeclForm) × DescribesDecl tree d
decl_described tree fit text = let d = decl_of tree fit in (d.0, describes_decl tree d.0 d.1 text)

-- the parts of the root of a text
pub text_parts : (parts : List Tree) → AllByRecursion IsWritable parts → AreSmall parts →
    ((part : Tree) (i : ℕ) → slice_get parts i ≡ Some part → nesting part ≤ deepest_decl) → AllByRecursion IsPartOfText parts
text_parts [] writable small nests = tt
text_parts (part ∷ parts) writable small nests =
    (record { writable = writable.0; nesting = nests part 0 refl; small = small.0 }, text_parts parts writable.1 small.1 (λ p i e. nests p (suc i) e))

-- Of the tree of a text. The two premises are laws of trees.
pub text_of_parts : (tree : Tree) → ((parts : List Tree) → IsWritable (variant.List parts) → AllByRecursion IsWritable parts) →
    ((parts : List Tree) (part : Tree) (i : ℕ) → slice_get parts i ≡ Some part → nesting part < nesting (variant.List parts)) →
    IsText tree → (parts : List Tree) → tree ≡ variant.List parts → AllByRecursion IsPartOfText parts
text_of_parts tree parts_writable part_nesting text parts is =
    let whole = subst IsWritable is text.writable in
    text_parts parts (parts_writable parts whole) (text.small parts is)
    (λ part i at. let deeper = part_nesting parts part i at in let most = whole.nesting in omega arith)

-- what is described, or misfits
pub some_spec : (tree : Tree) → (AllHaveForm sort.Spec tree → FitsSort sort.Spec tree) → ((parts : List Tree) → tree ≡ variant.List parts → AllByRecursion IsPartOfText parts) →
    AllHaveForm sort.Spec tree ⊎ ((misfit : Misfit) × IsFirstMisfitOf sort.Spec tree misfit) →
    ((spec : Spec) × Describes tree spec) ⊎ ((misfit : Misfit) × IsFirstMisfitOf sort.Spec tree misfit)
some_spec tree fits text judged = ⊎_elim (λ (form : AllHaveForm sort.Spec tree). inl (spec_of tree (fits form) text)) (λ (m : (misfit : Misfit) × IsFirstMisfitOf sort.Spec tree misfit). inr m) judged

pub some_decl : (tree : Tree) → (AllHaveForm sort.Declaration tree → FitsSort sort.Declaration tree) → IsPartOfText tree →
    AllHaveForm sort.Declaration tree ⊎ ((misfit : Misfit) × IsFirstMisfitOf sort.Declaration tree misfit) →
    ((decl : DeclForm) × DescribesDecl tree decl) ⊎ ((misfit : Misfit) × IsFirstMisfitOf sort.Declaration tree misfit)
some_decl tree fits text judged = ⊎_elim (λ (form : AllHaveForm sort.Declaration tree). inl (decl_described tree (fits form) text)) (λ (m : (misfit : Misfit) × IsFirstMisfitOf sort.Declaration tree misfit). inr m) judged

-- the declarations of a specification of right form fit
decls_fit : (decls : List DeclForm) → AllByRecursion IsDecl decls → AllByRecursion (FitsSort sort.Declaration) (map tree_of_decl decls)
decls_fit [] all = tt
decls_fit (d ∷ decls) all = (decl_fits d all.0.formed, decls_fit decls all.1)

-- what describes a specification fits
pub described_fits : (tree : Tree) (spec : Spec) → Describes tree spec → FitsSort sort.Spec tree
described_fits tree spec d =
    let trees = map tree_of_decl spec.decls in
    subst (FitsSort sort.Spec) (sym (d.tree_is ∙ ap (λ v. form (codes "spec") (number v ∷ trees)) d.kept.version))
    (form_fits sort.Spec (codes "spec") (number 1 ∷ trees) (many (sort.Word ∷ sort.Version ∷ []) sort.Declaration) (sort.Version ∷ replicate (length trees) sort.Declaration) refl
    (many_sorts (sort.Word ∷ sort.Version ∷ []) sort.Declaration (length trees) (length (number 1 ∷ trees) + 1) (omega arith))
    (token_fits sort.Version (token.Number 1) refl, all_of_one sort.Declaration trees (decls_fit spec.decls d.kept.decls)))

pub described_decl_fits : (tree : Tree) (d : DeclForm) → DescribesDecl tree d → FitsSort sort.Declaration tree
described_decl_fits tree d is = subst (FitsSort sort.Declaration) (sym is.tree_is) (decl_fits d is.kept.formed)

all_formed : (decls : List DeclForm) → AllByRecursion IsDecl decls → AreFormed decls
all_formed [] all = tt
all_formed (d ∷ decls) all = (all.0.formed, all_formed decls all.1)

-- one tree is that of one specification, and of one declaration
abbrev pub OneSpec : Type 0
OneSpec = (a b : Spec) → AreFormed a.decls → AreFormed b.decls → tree_of_spec a ≡ tree_of_spec b → a ≡ b

pub same_spec : OneSpec → (tree : Tree) (a b : Spec) → Describes tree a → Describes tree b → a ≡ b
same_spec one tree a b da db = one a b (all_formed a.decls da.kept.decls) (all_formed b.decls db.kept.decls) (sym da.tree_is ∙ db.tree_is)

abbrev pub OneDecl : Type 0
OneDecl = (a b : DeclForm) → is_formed_decl a ≡ true → is_formed_decl b ≡ true → tree_of_decl a ≡ tree_of_decl b → a ≡ b

pub same_decl : OneDecl → (tree : Tree) (a b : DeclForm) → DescribesDecl tree a → DescribesDecl tree b → a ≡ b
same_decl one tree a b da db = one a b da.kept.formed db.kept.formed (sym da.tree_is ∙ db.tree_is)
