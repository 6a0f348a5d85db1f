-- The first part of a term that a test finds.
use Rattle.std.proofs.Common.{◌≡◌, ◌∙◌, ◌⊎◌, inl, inr, Bool, true, List, [], ◌∷◌, map, Option, Some, None, refl, ap, sym, subst}
use Rattle.std.specs.Prelude.{option_and_then}
use Rattle.std.specs.Option.{option_map, option_or}
use Rattle.kat_value.specs.declared.types.TypeDecl.{TypeDecl}
use Rattle.kat_value.specs.declared.value.Value.{Value}
use Rattle.kat_term.specs.declared.term.Term.{Term}
use Rattle.kat_term.specs.declared.term.Term.TheVariants.{Var as VarTerm, Lit as LitTerm, Apply as ApplyTerm, Make as MakeTerm, Rec as RecTerm}
use Rattle.kat_value.specs.Operations.{value_of_op}
use Rattle.kat_term.specs.Parts.{TermsByParts}
use Rattle.kat_value.specs.Making.{all_there, value_of_making, value_of_record}
use Rattle.kat_term.specs.Values.{Valuation, value_of}
use Rattle.kat_known.specs.First.{first_found, found_layer, first_where, first_among, itself_or, AreFoundByParts, FoundHaveValues}
use Rattle.kat_known.specs.Parts.{part}
use Rattle.kat_known.specs.Views.{where_so}
use Rattle.kat_known.proofs.PartLaws.{Each, induct, found-Var, found-Lit, found-Apply, found-Make, found-Rec}
use Rattle.kat_known.proofs.ViewLaws.{either_there, so_there}

among : (test : Term → Bool) (ts : List Term) →
    first_found (map (part (found_layer test)) ts) ≡ first_among test ts
among test [] = refl
among test (t ∷ ts) = ap (option_or (first_where test t)) (among test ts)

pub found_by_parts : AreFoundByParts
found_by_parts test = record {
  variable = λ i. found-Var (found_layer test) i;
  literal = λ x. found-Lit (found_layer test) x;
  application =
      λ op ts. found-Apply (found_layer test) op ts
      ∙ ap (itself_or test (ApplyTerm op ts)) (among test ts);
  making = λ of ctor t. found-Make (found_layer test) of ctor t;
  fields =
      λ of ts. found-Rec (found_layer test) of ts
      ∙ ap (itself_or test (RecTerm of ts)) (among test ts);
}

module _ (by_parts : TermsByParts) (types : List TypeDecl) (v : Valuation)
    (test : Term → Bool) where
  abbrev HasValue : Term → Type 0
  HasValue t = (x : Value) × (value_of types v t ≡ Some x)

  all_have : (ts : List Term) (xs : List Value) → all_there (map (value_of types v) ts) ≡ Some xs →
      Each HasValue ts
  all_have [] xs e = tt
  all_have (t ∷ ts) xs e = by (all_have ts) (value_of types v t) refl e where
    rest : ((ys : List Value) → all_there (map (value_of types v) ts) ≡ Some ys →
        Each HasValue ts) → (x : Value) →
        (o : Option (List Value)) → all_there (map (value_of types v) ts) ≡ o →
        option_map (λ ys. x ∷ ys) o ≡ Some xs → Each HasValue ts
    rest go x None all h = cc
    rest go x (Some ys) all h = go ys all

    by : ((ys : List Value) → all_there (map (value_of types v) ts) ≡ Some ys → Each HasValue ts) →
        (o : Option Value) → value_of types v t ≡ o →
        option_and_then (λ x. option_map (λ xs. x ∷ xs) (all_there (map (value_of types v) ts))) o
        ≡ Some xs → Each HasValue (t ∷ ts)
    by go None is h = cc
    by go (Some x) is h = ((x, is), rest go x (all_there (map (value_of types v) ts)) refl h)

  -- what goes on with values has them
  goes_on : {A : Type 0} (o : Option A) (go : A → Option Value) (x : Value) →
      option_and_then go o ≡ Some x → (y : A) × (o ≡ Some y)
  goes_on None go x e = cc
  goes_on (Some y) go x e = (y, refl)

  parts_have : (go : List Value → Option Value) (ts : List Term) (x : Value) →
      option_and_then go (all_there (map (value_of types v) ts)) ≡ Some x → Each HasValue ts
  parts_have go ts x e =
      let p = goes_on (all_there (map (value_of types v) ts)) go x e in all_have ts p.0 p.1

  abbrev Finds : Term → Type 0
  Finds part = (test part ≡ true) × HasValue part

  abbrev IsFound : Term → Type 0
  IsFound t = (part : Term) → first_where test t ≡ Some part → HasValue t → Finds part

  in_all : (ts : List Term) → Each IsFound ts → (part : Term) → first_among test ts ≡ Some part →
      Each HasValue ts → Finds part
  in_all [] all part found have = cc
  in_all (t ∷ ts) all part found have =
      by (λ h. in_all ts all.1 part h have.1)
      (either_there (first_where test t) (first_among test ts) part found) where
        by : (first_among test ts ≡ Some part → Finds part) →
            (first_where test t ≡ Some part) ⊎ (first_among test ts ≡ Some part) → Finds part
        by go (inl h) = all.0 part h have.0
        by go (inr h) = go h

  at_layer : (t : Term) (within : Option Term) → first_where test t ≡ itself_or test t within →
      ((part : Term) → within ≡ Some part → HasValue t → Finds part) → IsFound t
  at_layer t within is inner part e has =
      by (either_there (where_so (test t) (Some t)) within part (sym is ∙ e)) where
        by : (where_so (test t) (Some t) ≡ Some part) ⊎ (within ≡ Some part) → Finds part
        by (inl h) =
            let s = so_there (test t) (Some t) part h in
            let same : t ≡ part = let k = s.1 in cc in
            (ap test (sym same) ∙ s.0, subst HasValue same has)
        by (inr h) = inner part h has

  pub found_has : (t : Term) → IsFound t
  found_has = induct IsFound
      (λ i. at_layer (VarTerm i) None ((found_by_parts test).variable i) (λ part e has. cc))
      (λ x. at_layer (LitTerm x) None ((found_by_parts test).literal x) (λ part e has. cc))
      (λ op ts all. at_layer (ApplyTerm op ts) (first_among test ts)
      ((found_by_parts test).application op ts)
      (λ part e has. in_all ts all part e
      (parts_have (value_of_op op) ts has.0
      (sym ((by_parts.0 types v).application op ts) ∙ has.1))))
      (λ of ctor t is. at_layer (MakeTerm of ctor t) (first_where test t)
      ((found_by_parts test).making of ctor t)
      (λ part e has. is part e
      (goes_on (value_of types v t) (value_of_making types of ctor) has.0
      (sym ((by_parts.0 types v).making of ctor t) ∙ has.1))))
      (λ of ts all. at_layer (RecTerm of ts) (first_among test ts)
      ((found_by_parts test).fields of ts)
      (λ part e has. in_all ts all part e
      (parts_have (value_of_record types of) ts has.0
      (sym ((by_parts.0 types v).fields of ts) ∙ has.1))))

pub found_have_values : TermsByParts → FoundHaveValues
found_have_values by_parts types v test t part x e has =
    found_has by_parts types v test t part e (x, has)
