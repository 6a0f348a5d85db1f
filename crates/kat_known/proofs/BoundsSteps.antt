-- The bounds of a term by its form.
use Rattle.std.proofs.Common.{◌≡◌, ◌∙◌, List, map, refl, ap, sym}
use Rattle.kat_value.specs.declared.types.Ty.{Ty}
use Rattle.kat_value.specs.declared.value.Value.{Value}
use Rattle.kat_value.specs.declared.value.Value.TheVariants.{Bits}
use Rattle.kat_term.specs.declared.term.Term.{Term}
use Rattle.kat_term.specs.declared.term.Term.TheOpen.{Term-F, Var, Lit, Apply, Make, Rec}
use Rattle.kat_term.specs.declared.term.Term.TheViews.{out-Term, roll-Term, roll-out-Term}
use Rattle.kat_term.specs.declared.term.Term.TheVariants.{Lit as LitTerm, rolls-Var, rolls-Lit, rolls-Apply, rolls-Make, rolls-Rec}
use Rattle.kat_known.specs.declared.bounds.Interval.{Interval}
use Rattle.kat_known.specs.Bounds.{from_to, read_often, all_numbers, is_zext, begins_with, bounds_layer, bounds_of}
use Rattle.kat_known.specs.Parts.{part}
use Rattle.kat_known.proofs.PartLaws.{found-Var, found-Lit, found-Apply, found-Make, found-Rec}

-- what the bounds of a term are by its layer
abbrev pub bounds_by : List Ty → List Term → Term → Term-F Term → Interval
bounds_by vars list t (Lit (Bits w n)) = from_to n n
bounds_by vars list t (Lit _) = read_often t list (all_numbers vars t)
bounds_by vars list t (Var i) = read_often t list (all_numbers vars t)
bounds_by vars list t (Apply op args) =
    read_often t list (begins_with (is_zext op) (all_numbers vars t)
    (map (part (bounds_layer vars list)) args))
bounds_by vars list t (Make of ctor inner) = read_often t list (all_numbers vars t)
bounds_by vars list t (Rec of fields) = read_often t list (all_numbers vars t)

lit_by : (vars : List Ty) (list : List Term) (t : Term) (x : Value) →
    bounds_layer vars list t (Lit x) ≡ bounds_by vars list t (Lit x)
lit_by vars list t (Bits w n) = refl
lit_by vars list t _ = refl

pub bounds_by_layer : (vars : List Ty) (list : List Term) (t : Term) →
    bounds_of vars list t ≡ bounds_by vars list t (out-Term t)
bounds_by_layer vars list t = by (out-Term t) (roll-out-Term t) where
  by : (x : Term-F Term) → roll-Term x ≡ t → bounds_of vars list t ≡ bounds_by vars list t x
  by (Var i) is =
      let e = sym (rolls-Var i) ∙ is in ap (bounds_of vars list) (sym e)
      ∙ found-Var (bounds_layer vars list) i ∙ ap (λ u. bounds_by vars list u (Var i)) e
  by (Lit x) is =
      let e = sym (rolls-Lit x) ∙ is in
      ap (bounds_of vars list) (sym e) ∙ found-Lit (bounds_layer vars list) x
      ∙ lit_by vars list (LitTerm x) x ∙ ap (λ u. bounds_by vars list u (Lit x)) e
  by (Apply op args) is =
      let e = sym (rolls-Apply op args) ∙ is in
      ap (bounds_of vars list) (sym e) ∙ found-Apply (bounds_layer vars list) op args
      ∙ ap (λ u. bounds_by vars list u (Apply op args)) e
  by (Make of ctor inner) is =
      let e = sym (rolls-Make of ctor inner) ∙ is in
      ap (bounds_of vars list) (sym e) ∙ found-Make (bounds_layer vars list) of ctor inner
      ∙ ap (λ u. bounds_by vars list u (Make of ctor inner)) e
  by (Rec of fields) is =
      let e = sym (rolls-Rec of fields) ∙ is in
      ap (bounds_of vars list) (sym e) ∙ found-Rec (bounds_layer vars list) of fields
      ∙ ap (λ u. bounds_by vars list u (Rec of fields)) e

-- and so by its layer alone
pub bounds_at : (vars : List Ty) (list : List Term) (t : Term) (x : Term-F Term) → out-Term t ≡ x →
    bounds_by vars list t x ≡ bounds_of vars list t
bounds_at vars list t x is = ap (bounds_by vars list t) (sym is) ∙ sym (bounds_by_layer vars list t)

pub literal_at : (vars : List Ty) (list : List Term) (t : Term) (x : Value) → out-Term t ≡ Lit x →
    bounds_layer vars list t (Lit x) ≡ bounds_of vars list t
literal_at vars list t x is = lit_by vars list t x ∙ bounds_at vars list t (Lit x) is
