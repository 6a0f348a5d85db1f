-- How many inputs a predicate has: modes and typing look at the same declaration.
use Rattle.std.proofs.Common.{◌≡◌, ℕ, suc, ◌+◌, Bool, true, false, if◌then◌else◌, List, [], ◌∷◌, ◌++◌, length, Option, None, Some, refl, sym, ap, ◌∙◌}
use Rattle.std.specs.Option.{option_or}
use Rattle.std.specs.Str.{bytes_eq}
use Rattle.kat_ast.specs.declared.type_name.Param.{Param}
use Rattle.kat_ast.specs.declared.decl.DeclForm.{DeclForm}
use Rattle.kat_ast.specs.declared.decl.DeclForm.TheVariants as d
use Rattle.kat_ast.specs.Types.{trees_of_param}
use Rattle.kat_syntax.specs.Tables.{Name}
use Rattle.kat_syntax.specs.Declares.{Declared, typed_params, look_up, members_from, ctors_from, declared_from}
use Rattle.kat_syntax.specs.Around.{ProofSeen, a_predicate}
use Rattle.kat_syntax.specs.Modes.{inputs_among}
use Rattle.kat_mode.specs.Scopes.{inputs_seen, InputsAreTyped}

-- the predicate among declared names
abbrev found : List Declared → Name → Option ProofSeen
found names p = look_up a_predicate names p

-- a look-up goes on behind what is no predicate
passes : (b : Bool) (rest : Option ProofSeen) → (if b then option_or None rest else rest) ≡ rest
passes true rest = refl
passes false rest = refl

behind_members : (k q tree : ℕ) (members : List Name) (rest : List Declared) (p : Name) → found (members_from k q tree members ++ rest) p ≡ found rest p
behind_members k q tree [] rest p = refl
behind_members k q tree (x ∷ members) rest p =
    passes (bytes_eq x p) (found (members_from k q (tree + 1) members ++ rest) p)
    ∙ behind_members k q (tree + 1) members rest p

behind_ctors : (all : List DeclForm) (k q at : ℕ) (ctors : List Param) (rest : List Declared) (p : Name) → found (ctors_from all k q at ctors ++ rest) p ≡ found rest p
behind_ctors all k q at [] rest p = refl
behind_ctors all k q at (ctor ∷ ctors) rest p =
    passes (bytes_eq ctor.name p) (found (ctors_from all k q (at + trees_of_param ctor) ctors ++ rest) p)
    ∙ behind_ctors all k q (at + trees_of_param ctor) ctors rest p

-- parameters with their types are as many
as_many : (all : List DeclForm) (k : ℕ) (params : List Param) → length params ≡ length (typed_params all k params)
as_many all k [] = refl
as_many all k (param ∷ params) = ap suc (as_many all k params)

passed : (b : Bool) (rest : Option ProofSeen) (n : ℕ) → n ≡ inputs_seen rest → n ≡ inputs_seen (if b then option_or None rest else rest)
passed b rest n is = is ∙ ap inputs_seen (sym (passes b rest))

met_here : (b : Bool) (seen : ProofSeen) (rest : Option ProofSeen) (n m : ℕ) → n ≡ length seen.inputs → m ≡ inputs_seen rest →
    (if b then n else m) ≡ inputs_seen (if b then option_or (Some seen) rest else rest)
met_here true seen rest n m here behind = here
met_here false seen rest n m here behind = behind

inputs_from : (all : List DeclForm) (k q : ℕ) (decls : List DeclForm) (p : Name) → inputs_among decls p ≡ inputs_seen (found (declared_from all k q decls) p)
inputs_from all k q [] p = refl
inputs_from all k q (d.Enum x members ∷ decls) p =
    let rest = declared_from all (k + 1) (q + 1) decls in
    passed (bytes_eq x p) (found (members_from k q 4 members ++ rest) p) (inputs_among decls p)
    (inputs_from all (k + 1) (q + 1) decls p ∙ ap inputs_seen (sym (behind_members k q 4 members rest p)))
inputs_from all k q (d.Union x ctors ∷ decls) p =
    let rest = declared_from all (k + 1) (q + 1) decls in
    passed (bytes_eq x p) (found (ctors_from all k q 4 ctors ++ rest) p) (inputs_among decls p)
    (inputs_from all (k + 1) (q + 1) decls p ∙ ap inputs_seen (sym (behind_ctors all k q 4 ctors rest p)))
inputs_from all k q (d.Record x fields ∷ decls) p =
    passed (bytes_eq x p) (found (declared_from all (k + 1) (q + 1) decls) p) (inputs_among decls p) (inputs_from all (k + 1) (q + 1) decls p)
inputs_from all k q (d.Register x type kind ∷ decls) p =
    passed (bytes_eq x p) (found (declared_from all (k + 1) q decls) p) (inputs_among decls p) (inputs_from all (k + 1) q decls p)
inputs_from all k q (d.Memory a c lo hi ∷ decls) p = inputs_from all (k + 1) q decls p
inputs_from all k q (d.Cells kind lo hi ∷ decls) p = inputs_from all (k + 1) q decls p
inputs_from all k q (d.Code lo values ∷ decls) p = inputs_from all (k + 1) q decls p
inputs_from all k q (d.Region x params i guard ∷ decls) p =
    passed (bytes_eq x p) (found (declared_from all (k + 1) q decls) p) (inputs_among decls p) (inputs_from all (k + 1) q decls p)
inputs_from all k q (d.Predicate x ins outs definition ∷ decls) p =
    met_here (bytes_eq x p) (record { decl = k; inputs = typed_params all k ins; outputs = typed_params all k outs })
    (found (declared_from all (k + 1) q decls) p) (length ins) (inputs_among decls p)
    (as_many all k ins) (inputs_from all (k + 1) q decls p)
inputs_from all k q (d.Fun x params result body ∷ decls) p =
    passed (bytes_eq x p) (found (declared_from all (k + 1) q decls) p) (inputs_among decls p) (inputs_from all (k + 1) q decls p)
inputs_from all k q (d.Contract f names pre x post ∷ decls) p = inputs_from all (k + 1) q decls p
inputs_from all k q (d.Lemma x params names pre post steps ∷ decls) p =
    passed (bytes_eq x p) (found (declared_from all (k + 1) q decls) p) (inputs_among decls p) (inputs_from all (k + 1) q decls p)
inputs_from all k q (d.Step f ∷ decls) p = inputs_from all (k + 1) q decls p
inputs_from all k q (d.Dispatch cases otherwise ∷ decls) p = inputs_from all (k + 1) q decls p
inputs_from all k q (d.Untrusted holds ∷ decls) p = inputs_from all (k + 1) q decls p
inputs_from all k q (d.Block block ∷ decls) p =
    passed (bytes_eq block.name p) (found (declared_from all (k + 1) q decls) p) (inputs_among decls p) (inputs_from all (k + 1) q decls p)
inputs_from all k q (d.Boot x ∷ decls) p = inputs_from all (k + 1) q decls p

-- all declarations
pub inputs_are_typed : InputsAreTyped
inputs_are_typed decls p = inputs_from decls 0 0 decls p
