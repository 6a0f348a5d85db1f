-- Relations of terms that go into each kind of term: keeping values, and keeping types.
use Rattle.std.proofs.Common.{◌≡◌, ◌∙◌, ℕ, List, [], ◌∷◌, map, Option, Some, None, refl, ap, sym}
use Rattle.std.specs.Prelude.{option_and_then}
use Rattle.std.specs.Option.{option_map}
use Rattle.kat_value.specs.declared.op.Op.{Op}
use Rattle.kat_value.specs.declared.types.Ty.{Ty}
use Rattle.kat_value.specs.declared.types.TypeDecl.{TypeDecl}
use Rattle.kat_value.specs.declared.value.Value.{Value}
use Rattle.kat_term.specs.declared.term.Term.{Term}
use Rattle.kat_term.specs.declared.term.Term.TheVariants.{Apply as ApplyTerm, Make as MakeTerm, Rec as RecTerm}
use Rattle.kat_value.specs.Operations.{value_of_op}
use Rattle.kat_term.specs.Parts.{TermsByParts}
use Rattle.kat_value.specs.OperationTypes.{type_of_application, type_of_making, type_of_record}
use Rattle.kat_term.specs.Types.{type_of}
use Rattle.kat_value.specs.Making.{all_there, value_of_making, value_of_record}
use Rattle.kat_term.specs.Values.{Valuation, value_of}

-- a relation of terms, place by place in two lists
abbrev pub AllKept : (Term → Term → Type 0) → List Term → List Term → Type 0
AllKept K [] [] = Unit {0}
AllKept K [] (u ∷ us) = ⊥
AllKept K (t ∷ ts) [] = ⊥
AllKept K (t ∷ ts) (u ∷ us) = K t u × AllKept K ts us

-- a relation that holds of a term and itself, goes on, and goes into operations, constructors and records
pub record Keeping (K : Term → Term → Type 0) : Type 0 where
  pub itself : (t : Term) → K t t
  pub onward : (a b c : Term) → K a b → K b c → K a c
  pub within : (op : Op) (ts us : List Term) → AllKept K ts us →
      K (ApplyTerm op ts) (ApplyTerm op us)
  pub made : (of ctor : ℕ) (t u : Term) → K t u → K (MakeTerm of ctor t) (MakeTerm of ctor u)
  pub fields : (of : ℕ) (ts us : List Term) → AllKept K ts us → K (RecTerm of ts) (RecTerm of us)

-- what each result of a rule keeps
abbrev pub Keeps : (Term → Term → Type 0) → (Term → Option Term) → Type 0
Keeps K f = (t right : Term) → f t ≡ Some right → K t right

module _ (X : Type 0) (meaning : Term → Option X) where
  -- where the first means something, the second means the same
  abbrev pub SameMeaning : Term → Term → Type 0
  SameMeaning a b = (x : X) → meaning a ≡ Some x → meaning b ≡ Some x

  all_same : (ts us : List Term) → AllKept SameMeaning ts us → (xs : List X) →
      all_there (map meaning ts) ≡ Some xs → all_there (map meaning us) ≡ Some xs
  all_same [] [] kept xs e = e
  all_same [] (u ∷ us) kept xs e = absurd kept
  all_same (t ∷ ts) [] kept xs e = absurd kept
  all_same (t ∷ ts) (u ∷ us) kept xs e =
      by (λ ys is. all_same ts us kept.1 ys is) (meaning t) refl e where
        rest : ((ys : List X) → all_there (map meaning ts) ≡ Some ys →
            all_there (map meaning us) ≡ Some ys) → (x : X) → meaning t ≡ Some x →
            (o : Option (List X)) → all_there (map meaning ts) ≡ o →
            option_map (λ ys. x ∷ ys) o ≡ Some xs →
            option_and_then (λ y. option_map (λ ys. y ∷ ys) (all_there (map meaning us))) (meaning u)
            ≡ Some xs
        rest go x is None all h = cc
        rest go x is (Some ys) all h =
            ap (option_and_then (λ y. option_map (λ ys. y ∷ ys) (all_there (map meaning us))))
            (kept.0 x is) ∙ ap (option_map (λ ys. x ∷ ys)) (go ys all) ∙ h

        by : ((ys : List X) → all_there (map meaning ts) ≡ Some ys →
            all_there (map meaning us) ≡ Some ys) → (o : Option X) → meaning t ≡ o →
            option_and_then (λ x. option_map (λ xs. x ∷ xs) (all_there (map meaning ts))) o ≡ Some xs →
            option_and_then (λ y. option_map (λ ys. y ∷ ys) (all_there (map meaning us))) (meaning u)
            ≡ Some xs
        by go None is h = cc
        by go (Some x) is h = rest go x is (all_there (map meaning ts)) refl h

  -- what goes on with the meanings of parts, and with that of one part
  parts_same : (go : List X → Option X) (ts us : List Term) → AllKept SameMeaning ts us → (x : X) →
      option_and_then go (all_there (map meaning ts)) ≡ Some x →
      option_and_then go (all_there (map meaning us)) ≡ Some x
  parts_same go ts us kept x h = by (all_there (map meaning ts)) refl h where
    by : (o : Option (List X)) → all_there (map meaning ts) ≡ o → option_and_then go o ≡ Some x →
        option_and_then go (all_there (map meaning us)) ≡ Some x
    by None is h = cc
    by (Some xs) is h = ap (option_and_then go) (all_same ts us kept xs is) ∙ h

  part_same : (go : X → Option X) (t u : Term) → SameMeaning t u → (x : X) →
      option_and_then go (meaning t) ≡ Some x → option_and_then go (meaning u) ≡ Some x
  part_same go t u kept x h = by (meaning t) refl h where
    by : (o : Option X) → meaning t ≡ o → option_and_then go o ≡ Some x →
        option_and_then go (meaning u) ≡ Some x
    by None is h = cc
    by (Some y) is h = ap (option_and_then go) (kept y is) ∙ h

  module _ (of_op : Op → List X → Option X) (of_making : ℕ → ℕ → X → Option X)
      (of_record : ℕ → List X → Option X)
      (at_op : (op : Op) (ts : List Term) →
      meaning (ApplyTerm op ts) ≡ option_and_then (of_op op) (all_there (map meaning ts)))
      (at_make : (of ctor : ℕ) (t : Term) →
      meaning (MakeTerm of ctor t) ≡ option_and_then (of_making of ctor) (meaning t))
      (at_rec : (of : ℕ) (ts : List Term) →
      meaning (RecTerm of ts) ≡ option_and_then (of_record of) (all_there (map meaning ts)))
    where
      pub keeps_meaning : Keeping SameMeaning
      keeps_meaning = record {
        itself = λ t x has. has;
        onward = λ a b c first second x has. second x (first x has);
        within =
            λ op ts us kept x has. at_op op us
            ∙ parts_same (of_op op) ts us kept x (sym (at_op op ts) ∙ has);
        made =
            λ of ctor t u kept x has. at_make of ctor u
            ∙ part_same (of_making of ctor) t u kept x (sym (at_make of ctor t) ∙ has);
        fields =
            λ of ts us kept x has. at_rec of us
            ∙ parts_same (of_record of) ts us kept x (sym (at_rec of ts) ∙ has);
      }

pub keeps_values : TermsByParts → (types : List TypeDecl) (v : Valuation) →
    Keeping (SameMeaning Value (value_of types v))
keeps_values by_parts types v =
    let p = by_parts.0 types v in
    keeps_meaning Value (value_of types v) value_of_op (value_of_making types)
    (value_of_record types) p.application p.making p.fields

pub keeps_types : TermsByParts → (types : List TypeDecl) (vars : List Ty) →
    Keeping (SameMeaning Ty (type_of types vars))
keeps_types by_parts types vars =
    let p = by_parts.1 types vars in
    keeps_meaning Ty (type_of types vars) (type_of_application types) (type_of_making types)
    (type_of_record types) p.application p.making p.fields
