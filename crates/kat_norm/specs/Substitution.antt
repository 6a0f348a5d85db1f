-- Terms put in the place of variables.
use Rattle.std.specs.Prelude.{◌≡◌, ℕ, ◌==◌, if◌then◌else◌, List, [], ◌∷◌, Some, slice_get}
use Rattle.kat_value.specs.declared.types.Ty.{Ty}
use Rattle.kat_value.specs.declared.types.TypeDecl.{TypeDecl}
use Rattle.kat_term.specs.declared.term.Term.{Term}
use Rattle.kat_term.specs.declared.term.Term.TheOpen.{Term-F, Var, Lit, Apply, Make, Rec}
use Rattle.kat_term.specs.declared.term.Term.TheFolds.{fold-Term}
use Rattle.kat_term.specs.declared.term.Term.TheViews.{roll-Term}
use Rattle.kat_term.specs.Types.{IsTermOf}
use Rattle.kat_term.specs.Values.{Valuation, value_of}
use Rattle.kat_norm.specs.declared.substitution.Pair.{Pair}

-- the numbers of variables with the terms that take their places, in order
abbrev pub Substitution : Type 0
Substitution = List Pair

-- one layer, with a term in the place of the variable of this number
abbrev pub put_layer : ℕ → Term → Term-F Term → Term
put_layer number term (Var i) = if i == number then term else roll-Term (Var i)
put_layer number term (Lit x) = roll-Term (Lit x)
put_layer number term (Apply op args) = roll-Term (Apply op args)
put_layer number term (Make of ctor inner) = roll-Term (Make of ctor inner)
put_layer number term (Rec of fields) = roll-Term (Rec of fields)

-- a term with another in the place of a variable
abbrev pub put : ℕ → Term → Term → Term
put number term = fold-Term Term (put_layer number term)

-- the pairs are put in, in their order, each once and into what the one before left
abbrev pub substituted : Substitution → Term → Term
substituted [] t = t
substituted (pair ∷ pairs) t = substituted pairs (put pair.number pair.term t)

-- a valuation under which the variable of each pair has the value of its term
abbrev pub AreEqual : List TypeDecl → Valuation → Substitution → Type 0
AreEqual types v [] = Unit {0}
AreEqual types v (pair ∷ pairs) =
    (slice_get v pair.number ≡ value_of types v pair.term) × AreEqual types v pairs

-- a pair's term is of the type of its variable
pub record IsPairOf (types : List TypeDecl) (vars : List Ty) (pair : Pair) : Type 0 where
  pub of : Ty
  pub var : slice_get vars pair.number ≡ Some of
  pub term : IsTermOf types vars of pair.term

-- the term of each pair is
abbrev pub ArePairsOf : List TypeDecl → List Ty → Substitution → Type 0
ArePairsOf types vars [] = Unit {0}
ArePairsOf types vars (pair ∷ pairs) = IsPairOf types vars pair × ArePairsOf types vars pairs
