-- An outside place is that of a register or of cells that are declared outside.
use Rattle.std.proofs.Common.{arith, ◌≡◌, ℕ, zero, suc, ◌+◌, ◌&&◌, true, List, [], ◌∷◌, slice_get, Some, refl, sym, ap, subst}
use Rattle.std.specs.Prelude.{nat_le, nat_lt}
use Rattle.std.specs.List.{list_any}
use Rattle.std.proofs.lemmas.Bool.{or_left, or_right}
use Rattle.std.proofs.lemmas.Option.{same_Some}
use Rattle.kat_ast.specs.declared.decl.CellsKind.TheVariants as cells
use Rattle.kat_ast.specs.declared.decl.DeclForm.{DeclForm}
use Rattle.kat_ast.specs.declared.decl.DeclForm.TheVariants as d
use Rattle.kat_ast.specs.declared.decl.RegisterKind.TheVariants as register
use Rattle.kat_syntax.specs.declared.places.OutsidePlace.{OutsidePlace}
use Rattle.kat_syntax.specs.declared.places.OutsidePlace.TheVariants.{Register as OutsideRegister, Cells as OutsideCells}
use Rattle.kat_syntax.specs.OutsideWrites.{outside_from}
use Rattle.kat_syntax.specs.Tables.{RegisterDecl, registers_of}
use Rattle.kat_claims.proofs.OutsideCells.{lets_write}
use Rattle.kat_claims.proofs.OutsideRegisters.{IsOutsideAt}

-- the register at this position, counted from the first register, is outside
pub record IsOutsideFrom (k : ℕ) (registers : List RegisterDecl) (at : ℕ) : Type 0 where
  pub further : ℕ
  pub is : at ≡ k + further
  pub there : IsOutsideAt registers further

-- a place is that of an outside register, or of cells that a declaration lets be written
abbrev pub IsPlaceOf : ℕ → List DeclForm → OutsidePlace → Type 0
IsPlaceOf k decls (OutsideRegister at width) = IsOutsideFrom k (registers_of decls) at
IsPlaceOf k decls (OutsideCells lo hi) =
    (i : ℕ) → (nat_le lo i && nat_lt i hi) ≡ true → list_any (lets_write i) decls ≡ true

-- with one register before
past_register :
    (k : ℕ) (register : RegisterDecl) (decls : List DeclForm) (place : OutsidePlace) →
    IsPlaceOf (k + 1) decls place →
    IsPlaceOf k (d.Register register.name register.type register.kind ∷ decls) place
past_register k register decls (OutsideRegister at width) from = record {
  further = suc from.further;
  is = let is = from.is in omega (arith, is);
  there = record {
    register = from.there.register;
    there = from.there.there;
    outside = from.there.outside;
  };
}
past_register k register decls (OutsideCells lo hi) lets = lets

-- with another declaration before
past_other :
    (k : ℕ) (decl : DeclForm) (decls : List DeclForm) (place : OutsidePlace) →
    registers_of (decl ∷ decls) ≡ registers_of decls → IsPlaceOf k decls place →
    IsPlaceOf k (decl ∷ decls) place
past_other k decl decls (OutsideRegister at width) same from =
    subst (λ registers. IsOutsideFrom k registers at) (sym same) from
past_other k decl decls (OutsideCells lo hi) same lets = λ i here.
    or_right (lets_write i decl) (list_any (lets_write i) decls) (lets i here)

-- each outside place is of a declaration
pub placed :
    (k : ℕ) (decls : List DeclForm) (n : ℕ) (place : OutsidePlace) →
    slice_get (outside_from k decls) n ≡ Some place → IsPlaceOf k decls place
placed k [] n place is = absurd (cc)
placed k (d.Register x type register.Outside ∷ decls) zero place is =
    subst (IsPlaceOf k (d.Register x type register.Outside ∷ decls)) (same_Some _ _ is) (record {
      further = 0;
      is = omega arith;
      there = record {
        register = record { name = x; type = type; kind = register.Outside };
        there = refl;
        outside = refl;
      };
    })
placed k (d.Register x type register.Outside ∷ decls) (suc n) place is =
    past_register k _ decls place (placed (k + 1) decls n place is)
placed k (d.Register x type register.Plain ∷ decls) n place is =
    past_register k _ decls place (placed (k + 1) decls n place is)
placed k (d.Register x type register.Protected ∷ decls) n place is =
    past_register k _ decls place (placed (k + 1) decls n place is)
placed k (d.Cells cells.Outside lo hi ∷ decls) zero place is =
    subst (IsPlaceOf k (d.Cells cells.Outside lo hi ∷ decls)) (same_Some _ place is) (λ i here.
    or_left ((nat_le lo i && nat_lt i hi) && true) (list_any (lets_write i) decls)
    (ap (λ b. b && true) here))
placed k (d.Cells cells.Outside lo hi ∷ decls) (suc n) place is =
    past_other k (d.Cells cells.Outside lo hi) decls place refl (placed k decls n place is)
placed k (d.Cells cells.Protected lo hi ∷ decls) n place is =
    past_other k (d.Cells cells.Protected lo hi) decls place refl (placed k decls n place is)
placed k (decl ∷ decls) n place is = past_other k decl decls place refl (placed k decls n place is)
