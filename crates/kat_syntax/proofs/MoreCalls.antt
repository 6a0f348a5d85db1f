-- With more calls allowed an outcome that is not Out stays.
use Rattle.std.proofs.Common.{◌≡◌, ◌∙◌, ℕ, zero, suc, ◌+◌, ◌≤◌, false, List, [], ◌∷◌, ◌++◌, refl, ap, sym, subst, arith}
use Rattle.kat_value.specs.declared.value.Value.{Value}
use Rattle.kat_ast.specs.declared.decl.DeclForm.{DeclForm}
use Rattle.kat_ast.specs.declared.place.Place.{Place}
use Rattle.kat_syntax.specs.Tables.{Name, Function, function_from}
use Rattle.kat_syntax.specs.Machine.{Progress}
use Rattle.kat_syntax.specs.Outcomes.{Outcome, Done, Out, Fail, Stuck, given, place_in}
use Rattle.kat_syntax.specs.Meaning.{meaning}
use Rattle.kat_syntax.specs.Cycle.{bound, body_of, call_of, spend_one}
use Rattle.kat_syntax.specs.MeaningLaws.{with_more, outcome_with_more, MoreCallsChangeNoOutcome}
use Rattle.kat_syntax.proofs.SideBySide.{Alike, ActsAlike, alike_at, alike_given, statements_alike}

-- the same progress with more calls left, of which at most so many are left here
pub record More (k m : ℕ) (p q : Progress) : Type 0 where
  pub is : q ≡ with_more k p
  pub few : p.left ≤ m

more_of : {S : Type 0} (k m l : ℕ) → m ≤ l → (o u : Outcome S) → Alike false (More k m) o u →
    Alike false (More k l) o u
more_of k m l less (Done v p) u is = (
  is.0,
  is.1,
  record { is = is.2.is; few = let few : p.left ≤ m = is.2.few in omega (arith, less, few) },
)
more_of k m l less Out u is = tt
more_of k m l less (Fail site) u is = is
more_of k m l less Stuck u is = is

module _ (decls : List DeclForm) (k : ℕ) where
  -- calls at two depths are alike, where as many calls are left at most
  abbrev AreAlike : ℕ → ℕ → ℕ → Type 0
  AreAlike m d e = (f : Name) (args : List Value) (p q : Progress) → More k m p q →
      Alike false (More k m) (call_of decls d f args p) (call_of decls e f args q)

  acts : (m d e : ℕ) → AreAlike m d e →
      ActsAlike false (More k m) (call_of decls d) (call_of decls e)
  acts m d e alike = record {
    state = λ p q is. ap (λ (r : Progress). r.state) is.is;
    write = λ p q state is. record {
      is = ap (λ (r : Progress). record r { state = state }) is.is;
      few = is.few;
    };
    store = λ p q state i is. record {
      is = ap (λ (r : Progress). record r { state = state; stores = r.stores ++ i ∷ [] }) is.is;
      few = is.few;
    };
    call = alike;
  }

  abbrev go : ℕ → Name → List Value → Progress → Outcome Place
  go d f args next = given (function_from 0 decls f) (body_of decls (call_of decls d) args next)

  bodies_alike : (m d e : ℕ) → AreAlike m d e → (f : Name) (args : List Value) (p q : Progress) →
      More k m p q → Alike false (More k m) (go d f args p) (go e f args q)
  bodies_alike m d e alike f args p q is =
      alike_given false (More k m) (function_from 0 decls f) _ _ (λ (function : Function).
      alike_given false (More k m) (bound function.params args) _ _ (λ locals.
      alike_at false (More k m) (place_in function.decl) _ _
      (alike_at false (More k m) _ _ _
      ((statements_alike false (More k m) decls (call_of decls d) (call_of decls e)
      (acts m d e alike) function.body).does locals p q is))))

  calls_alike : (d e m : ℕ) → m ≤ d → m + k ≤ e → AreAlike m d e
  calls_alike zero e m below above f args p q is = tt
  calls_alike (suc d) e m below above f args p q is =
      spent p.left refl e refl (calls_alike d) where
        spent : (left : ℕ) → p.left ≡ left → (depth : ℕ) → e ≡ depth →
            ((e m : ℕ) → m ≤ d → m + k ≤ e → AreAlike m d e) →
            Alike false (More k m) (spend_one left p (go d f args)) (call_of decls depth f args q)
        spent zero none depth is_depth alike = tt
        spent (suc left) one zero is_depth alike =
            let few : p.left ≤ m = is.few in absurd (omega (arith, above, one, is_depth, few))
        spent (suc left) one (suc depth) is_depth alike =
            let few : p.left ≤ m = is.few in
            let next : suc left + k ≡ suc (left + k) = omega arith in
            let more : q.left ≡ suc (left + k) =
            ap (λ (r : Progress). r.left) is.is ∙ ap (λ n. n + k) one ∙ next in
            subst (λ n. Alike false (More k m) (go d f args (record p { left = left }))
            (spend_one n q (go depth f args))) (sym more)
            (more_of k left m (omega (arith, one, few)) _ _
            (bodies_alike left d depth
            (alike depth left (omega (arith, one, few, below))
            (omega (arith, one, few, above, is_depth)))
            f args (record p { left = left }) (record q { left = left + k })
            (record {
              is = ap (λ (r : Progress). record r { left = left + k }) is.is;
              few = omega arith;
            })))

  -- what is beside an outcome that is not Out
  with_more_of : {S : Type 0} (m : ℕ) (o u : Outcome S) → Alike false (More k m) o u →
      (o ≡ Out → ⊥) → u ≡ outcome_with_more k o
  with_more_of m (Done v p) u is not_out = is.1 ∙ ap (Done v) is.2.is
  with_more_of m Out u is not_out = absurd (not_out refl)
  with_more_of m (Fail site) u is not_out = is
  with_more_of m Stuck u is not_out = is

pub more_calls_change_no_outcome : MoreCallsChangeNoOutcome
more_calls_change_no_outcome decls depth k stm locals p enough not_out =
    with_more_of decls k depth (meaning decls (call_of decls depth) stm locals p)
    (meaning decls (call_of decls (depth + k)) stm locals (with_more k p))
    ((statements_alike false (More k depth) decls (call_of decls depth) (call_of decls (depth + k))
    (acts decls k depth depth (depth + k)
    (calls_alike decls k depth (depth + k) depth (omega arith) (omega arith))) stm).does
    locals p (with_more k p) (record { is = refl; few = enough })) not_out
