-- What an answer of `rewrite` keeps, from the laws of normal forms.
use Rattle.std.proofs.Common.{◌≡◌, List, Result, Ok, Err, subst}
use Rattle.std.specs.Prelude.{IfOk}
use Rattle.kat_value.specs.declared.types.Ty.{Ty}
use Rattle.kat_term.specs.declared.prover.NormError.{NormError}
use Rattle.kat_term.specs.declared.term.Term.{Term}
use Rattle.kat_term.specs.Provers.{AnswersNorm}
use Rattle.kat_rules.specs.Rules.{rule_of}
use Rattle.kat_norm.specs.Kept.{HasItsType, HasItsValue, TypesAreKept, ValuesAreKept}
use Rattle.kat_norm.specs.Norm.{norm_by, norm_of, normal_in}
use Rattle.kat_norm.specs.Substitution.{Substitution, substituted}

-- the normal form of a term with the pairs put in
pub rewritten : (r : Result Term NormError) (vars seen : List Ty) (pairs : Substitution) (t whole : Term) → seen ≡ vars → whole ≡ substituted pairs t →
    AnswersNorm r (normal_in (norm_by (rule_of seen) whole)) → AnswersNorm r (norm_of vars pairs t)
rewritten r vars seen pairs t whole same is answers =
    subst (λ us. AnswersNorm r (norm_of us pairs t)) same
    (subst (λ u. AnswersNorm r (normal_in (norm_by (rule_of seen) u))) is answers)

-- it has the value of the term
pub value_kept : (r : Result Term NormError) (vars : List Ty) (pairs : Substitution) (t : Term) → ValuesAreKept →
    AnswersNorm r (norm_of vars pairs t) → IfOk r (HasItsValue vars pairs t)
value_kept (Ok n) vars pairs t law e = law vars pairs t n e
value_kept (Err e) vars pairs t law is = tt

-- and it is of its type
pub type_kept : (r : Result Term NormError) (vars : List Ty) (pairs : Substitution) (t : Term) → TypesAreKept →
    AnswersNorm r (norm_of vars pairs t) → IfOk r (HasItsType vars pairs t)
type_kept (Ok n) vars pairs t law e = law vars pairs t n e
type_kept (Err e) vars pairs t law is = tt
