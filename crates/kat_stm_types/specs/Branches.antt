-- Branches, as they are gone over.
use Rattle.std.specs.Prelude.{◌≡◌, ℕ, List, Option}
use Rattle.kat_value.specs.declared.types.Ty.{Ty}
use Rattle.kat_syntax.specs.TypingStatements.{first_known, all_agree}
use Rattle.kat_stm_types.specs.declared.branches.Branches.{Branches}

-- what is kept of branches of these types, which have so many trees
pub record IsBranches (types : List (Option Ty)) (trees : ℕ) (seen : Branches) : Type 0 where
  pub first : seen.first ≡ first_known types
  pub agrees : seen.agrees ≡ all_agree types
  pub counted : seen.trees ≡ trees
