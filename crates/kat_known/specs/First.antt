-- The first part of a term that a test finds.
use Rattle.std.specs.Prelude.{◌≡◌, ℕ, Bool, true, List, [], ◌∷◌, Option, Some, None}
use Rattle.std.specs.Option.{option_or}
use Rattle.kat_value.specs.declared.op.Op.{Op}
use Rattle.kat_value.specs.declared.types.TypeDecl.{TypeDecl}
use Rattle.kat_value.specs.declared.value.Value.{Value}
use Rattle.kat_term.specs.declared.term.Term.{Term}
use Rattle.kat_term.specs.declared.term.Term.TheOpen.{Term-F, Var, Lit, Apply, Make, Rec}
use Rattle.kat_term.specs.declared.term.Term.TheVariants.{Var as VarTerm, Lit as LitTerm, Apply as ApplyTerm, Make as MakeTerm, Rec as RecTerm}
use Rattle.kat_term.specs.Values.{Valuation, value_of}
use Rattle.kat_known.specs.Parts.{Part, found_of}
use Rattle.kat_known.specs.Views.{where_so}

-- a part with the first term in it that a test finds
abbrev pub Found : Type 0
Found = Part (Option Term)

-- the first in a list of parts
abbrev pub first_found : List Found → Option Term
first_found [] = None
first_found (part ∷ parts) = option_or part.found (first_found parts)

-- the first within a term
abbrev pub found_within : Term-F Found → Option Term
found_within (Var i) = None
found_within (Lit x) = None
found_within (Apply op parts) = first_found parts
found_within (Make of ctor part) = part.found
found_within (Rec of parts) = first_found parts

-- one layer: the term itself, then what is within it
abbrev pub found_layer : (Term → Bool) → Term → Term-F Found → Option Term
found_layer test t layer = option_or (where_so (test t) (Some t)) (found_within layer)

-- the first part of a term that a test finds, outermost and leftmost first, the term included
abbrev pub first_where : (Term → Bool) → Term → Option Term
first_where test = found_of (found_layer test)

-- the first in a list of terms
abbrev pub first_among : (Term → Bool) → List Term → Option Term
first_among test [] = None
first_among test (t ∷ ts) = option_or (first_where test t) (first_among test ts)

-- a term itself, or what is found within it
abbrev pub itself_or : (Term → Bool) → Term → Option Term → Option Term
itself_or test t within = option_or (where_so (test t) (Some t)) within

-- the first part of each kind of term
pub record FoundByParts (test : Term → Bool) : Type 0 where
  pub variable : (i : ℕ) → first_where test (VarTerm i) ≡ itself_or test (VarTerm i) None
  pub literal : (x : Value) → first_where test (LitTerm x) ≡ itself_or test (LitTerm x) None
  pub application :
      (op : Op) (ts : List Term) →
      first_where test (ApplyTerm op ts) ≡ itself_or test (ApplyTerm op ts) (first_among test ts)
  pub making :
      (of ctor : ℕ) (t : Term) →
      first_where test (MakeTerm of ctor t)
      ≡ itself_or test (MakeTerm of ctor t) (first_where test t)
  pub fields :
      (of : ℕ) (ts : List Term) →
      first_where test (RecTerm of ts) ≡ itself_or test (RecTerm of ts) (first_among test ts)

-- of every test
abbrev pub AreFoundByParts : Type 0
AreFoundByParts = (test : Term → Bool) → FoundByParts test

-- what is found in a term that has a value has one, and the test finds it
abbrev pub FoundHaveValues : Type 0
FoundHaveValues =
    (types : List TypeDecl) (v : Valuation) (test : Term → Bool) (t part : Term) (x : Value) →
    first_where test t ≡ Some part → value_of types v t ≡ Some x →
    (test part ≡ true) × ((y : Value) × (value_of types v part ≡ Some y))
