-- What is known is so, and reducing keeps values and types: the laws as the crate states them.
use Rattle.std.proofs.Common.{◌≡◌, ◌∙◌, Bool, true, List, [], Option, Some, None, Result, Ok, Err, refl, ap, sym, subst}
use Rattle.std.specs.Prelude.{not}
use Rattle.std.specs.Option.{option_map}
use Rattle.std.proofs.lemmas.Bool.{and_parts}
use Rattle.kat_value.specs.declared.types.Ty.{Ty}
use Rattle.kat_value.specs.declared.types.Ty.TheVariants as ty
use Rattle.kat_value.specs.declared.types.TypeDecl.{TypeDecl}
use Rattle.kat_value.specs.declared.value.Value.{Value}
use Rattle.kat_value.specs.declared.value.Value.TheOpen.{Bool as TruthLayer}
use Rattle.kat_value.specs.declared.value.Value.TheVariants.{Bool as Truth}
use Rattle.kat_value.specs.Typing.{has_type, layer_has_type}
use Rattle.kat_norm.specs.Kept.{ValuesAreKept, TypesAreKept}
use Rattle.kat_norm.specs.Norm.{norm_of}
use Rattle.kat_term.specs.declared.kind.Kind.{Kind}
use Rattle.kat_term.specs.declared.term.Term.{Term}
use Rattle.kat_term.specs.declared.term.Term.TheViews.{out-Term}
use Rattle.kat_term.specs.Growth.{WorldsHaveValuations}
use Rattle.kat_term.specs.Parts.{TermsByParts}
use Rattle.kat_term.specs.Types.{IsTermOf, IsValuation, type_of}
use Rattle.kat_term.specs.Values.{value_of}
use Rattle.kat_term.specs.Views.{truth}
use Rattle.kat_rules.specs.Values.{ToldTruths}
use Rattle.kat_rules.specs.Widths.{is_bool}
use Rattle.kat_known.specs.Bounded.{BoundsHold}
use Rattle.kat_known.specs.Kept.{KnownHolds, AtomsKeepValues, AtomsKeepTypes, NormalKeepsValues, NormalKeepsTypes, ReducedKeepsValues, StrictlyKeepsValues, ReducedKeepsTypes, StrictlyKeepsTypes}
use Rattle.kat_known.specs.Known.{known}
use Rattle.kat_known.specs.Normal.{within_limits}
use Rattle.kat_known.specs.Views.{is_joint, is_atom}
use Rattle.kat_known.proofs.BoundsSound.{bounds_in}
use Rattle.kat_known.proofs.KnownSound.{known_so, atoms_keep}
use Rattle.kat_known.proofs.LawsBelow.{LawsBelow}
use Rattle.kat_known.proofs.ReduceKeeps.{reduced_kept, reduced_strictly_kept}
use Rattle.kat_known.proofs.Relations.{SameMeaning, keeps_values, keeps_types}
use Rattle.kat_known.proofs.Typed.{truth_types}
use Rattle.kat_known.proofs.ViewLaws.{so_there}

pub bounds_hold : LawsBelow → BoundsHold
bounds_hold laws types vars v fits list holds t w n has =
    bounds_in laws types v vars fits list holds t w n has

pub known_holds : LawsBelow → ToldTruths → KnownHolds
known_holds laws bools types vars v fits norm keeps list holds t is p e =
    known_so laws types v list holds vars fits bools norm keeps t is p e

pub atoms_keep_values : LawsBelow → ToldTruths → AtomsKeepValues
atoms_keep_values laws bools types vars v fits norm keeps list holds =
    atoms_keep laws types v list holds vars fits bools norm keeps

-- truths are of one type
truths_typed : (types : List TypeDecl) (p q : Bool) (t : Ty) →
    layer_has_type types (TruthLayer p) t ≡ true → layer_has_type types (TruthLayer q) t ≡ true
truths_typed types p q ty.Bool h = refl
truths_typed types p q _ h = cc

pub atoms_keep_types : LawsBelow → ToldTruths → WorldsHaveValuations → AtomsKeepTypes
atoms_keep_types laws bools valued types vars have norm list t right e of typed =
    let s = so_there (is_atom vars t) (option_map truth (known vars norm list t)) right e in
    let atom = and_parts (is_bool vars t) (not (is_joint (out-Term t))) s.0 in
    let some = valued types (record { vars = vars; formulas = [] })
    (record { vars = have; formulas = tt }) in
    let has = (laws.types types vars some.0 some.1 of t).0 typed in
    let told = bools types vars some.0 some.1 t has.0 has.1 atom.0 in
    by some.0 some.1 (known vars norm list t) s.1 told.0
    (ap (λ x. has_type types x of) (sym told.1) ∙ has.2) where
      by : (v : List Value) → IsValuation types vars v → (o : Option Bool) →
          option_map truth o ≡ Some right → (q : Bool) →
          has_type types (Truth q) of ≡ true → IsTermOf types vars of right
      by v fits None h q is = cc
      by v fits (Some p) h q is =
          let same : truth p ≡ right = cc in
          subst (IsTermOf types vars of) same
          ((laws.types types vars v fits of (truth p)).1 (
            Truth p,
            (laws.meanings types v).truth p,
            truth_types types p of
                ∙ truths_typed types q p of (sym (truth_types types q of) ∙ is),
          ))

-- what passes no limit
within : (r : Result Term Kind) (n : Term) → within_limits r ≡ Some n → r ≡ Ok n
within (Ok m) n e = let same : m ≡ n = cc in ap Ok same
within (Err limit) n e = cc

pub normal_keeps_values : ValuesAreKept → NormalKeepsValues
normal_keeps_values kept types vars v fits t right e =
    kept vars [] t right (within (norm_of vars [] t) right e) types v fits tt

pub normal_keeps_types : TypesAreKept → NormalKeepsTypes
normal_keeps_types kept types vars have t right e of typed =
    kept vars [] t right (within (norm_of vars [] t) right e) types have tt of typed

pub reduced_keeps_values : TermsByParts → ReducedKeepsValues
reduced_keeps_values parts types v atoms norm atoms_kept norm_kept t =
    reduced_kept (SameMeaning Value (value_of types v))
    (keeps_values parts types v) atoms atoms_kept norm norm_kept t

pub strictly_keeps_values : TermsByParts → StrictlyKeepsValues
strictly_keeps_values parts types v atoms norm atoms_kept norm_kept =
    reduced_strictly_kept (SameMeaning Value (value_of types v))
    (keeps_values parts types v) atoms atoms_kept norm norm_kept

pub reduced_keeps_types : TermsByParts → ReducedKeepsTypes
reduced_keeps_types parts types vars atoms norm atoms_kept norm_kept t =
    reduced_kept (SameMeaning Ty (type_of types vars))
    (keeps_types parts types vars) atoms atoms_kept norm norm_kept t

pub strictly_keeps_types : TermsByParts → StrictlyKeepsTypes
strictly_keeps_types parts types vars atoms norm atoms_kept norm_kept =
    reduced_strictly_kept (SameMeaning Ty (type_of types vars))
    (keeps_types parts types vars) atoms atoms_kept norm norm_kept
