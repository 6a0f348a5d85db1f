-- Calls that may stand deeper in one another than calls are left change nothing.
use Rattle.std.proofs.Common.{◌≡◌, ◌∙◌, ℕ, zero, suc, ◌+◌, ◌<◌, ◌≤◌, true, List, [], ◌∷◌, ◌++◌, refl, ap, sym, arith}
use Rattle.kat_value.specs.declared.value.Value.{Value}
use Rattle.kat_ast.specs.declared.decl.DeclForm.{DeclForm}
use Rattle.kat_ast.specs.declared.place.Place.{Place}
use Rattle.kat_ast.specs.declared.stm.Stm.{Stm}
use Rattle.kat_syntax.specs.Tables.{Name, Function, function_from}
use Rattle.kat_syntax.specs.Machine.{Progress}
use Rattle.kat_syntax.specs.Evaluation.{Locals}
use Rattle.kat_syntax.specs.Outcomes.{Outcome, Done, Out, Fail, Stuck, given, place_in}
use Rattle.kat_syntax.specs.Meaning.{meaning}
use Rattle.kat_syntax.specs.Cycle.{bound, body_of, call_of, spend_one}
use Rattle.kat_syntax.specs.MeaningLaws.{DepthIsEnough}
use Rattle.kat_syntax.proofs.SideBySide.{Alike, ActsAlike, alike_at, alike_given, statements_alike}
use Rattle.kat_syntax.proofs.SpentCalls.{left_never_rises}

-- the same progress, with no more calls left than this
pub record Same (m : ℕ) (p q : Progress) : Type 0 where
  pub is : p ≡ q
  pub few : p.left ≤ m

alike_of_same : {S : Type 0} (m : ℕ) (o u : Outcome S) → o ≡ u →
    ((v : Value) (r : Progress) → o ≡ Done v r → r.left ≤ m) → Alike true (Same m) o u
alike_of_same m (Done v p) u e few = (p, sym e, record { is = refl; few = few v p refl })
alike_of_same m Out u e few = sym e
alike_of_same m (Fail site) u e few = sym e
alike_of_same m Stuck u e few = sym e

same_of_alike : {S : Type 0} (m : ℕ) (o u : Outcome S) → Alike true (Same m) o u → o ≡ u
same_of_alike m (Done v p) u is = ap (λ r. Done v r) is.2.is ∙ sym is.1
same_of_alike m Out u is = sym is
same_of_alike m (Fail site) u is = sym is
same_of_alike m Stuck u is = sym is

module _ (decls : List DeclForm) where
  -- calls at two depths are the same, where as many calls are left at most
  abbrev AreSame : ℕ → ℕ → ℕ → Type 0
  AreSame m d e = (f : Name) (args : List Value) (p : Progress) → p.left ≤ m →
      call_of decls d f args p ≡ call_of decls e f args p

  acts : (m d e : ℕ) → AreSame m d e → ActsAlike true (Same m) (call_of decls d) (call_of decls e)
  acts m d e same = record {
    state = λ p q is. sym (ap (λ (r : Progress). r.state) is.is);
    write = λ p q state is. record {
      is = ap (λ (r : Progress). record r { state = state }) is.is;
      few = is.few;
    };
    store = λ p q state i is.
        record {
          is = ap (λ (r : Progress). record r { state = state; stores = r.stores ++ i ∷ [] })
              is.is;
          few = is.few;
        };
    call = λ f args p q is.
        alike_of_same m (call_of decls d f args p) (call_of decls e f args q)
        (same f args p is.few ∙ ap (call_of decls e f args) is.is)
        (λ v r done. let fewer : r.left < p.left = left_never_rises.call decls d f args p r v done
        in omega (arith, fewer, is.few));
  }

  abbrev go : ℕ → Name → List Value → Progress → Outcome Place
  go d f args next = given (function_from 0 decls f) (body_of decls (call_of decls d) args next)

  bodies_same : (m d e : ℕ) → AreSame m d e → (f : Name) (args : List Value) (next : Progress) →
      next.left ≤ m → go d f args next ≡ go e f args next
  bodies_same m d e same f args next few =
      same_of_alike m (go d f args next) (go e f args next)
      (alike_given true (Same m) (function_from 0 decls f) _ _ (λ (function : Function).
      alike_given true (Same m) (bound function.params args) _ _ (λ locals.
      alike_at true (Same m) (place_in function.decl) _ _
      (alike_at true (Same m) _ _ _
      ((statements_alike true (Same m) decls (call_of decls d) (call_of decls e) (acts m d e same)
      function.body).does locals next next (record { is = refl; few = few }))))))

  calls_same : (d e : ℕ) (f : Name) (args : List Value) (p : Progress) → p.left ≤ d → p.left ≤ e →
      call_of decls d f args p ≡ call_of decls e f args p
  calls_same zero zero f args p below above = refl
  calls_same zero (suc e) f args p below above =
      let none : p.left ≡ 0 = omega (arith, below) in
      sym (ap (λ n. spend_one n p (go e f args)) none)
  calls_same (suc d) zero f args p below above =
      let none : p.left ≡ 0 = omega (arith, above) in ap (λ n. spend_one n p (go d f args)) none
  calls_same (suc d) (suc e) f args p below above = spent (calls_same d e) p.left refl where
    spent : ((g : Name) (values : List Value) (q : Progress) → q.left ≤ d → q.left ≤ e →
        call_of decls d g values q ≡ call_of decls e g values q) →
        (left : ℕ) → p.left ≡ left → spend_one left p (go d f args) ≡ spend_one left p (go e f args)
    spent same zero is = refl
    spent same (suc left) is =
        let less : left ≤ d = omega (arith, is, below) in
        let more : left ≤ e = omega (arith, is, above) in
        bodies_same left d e
        (λ g values q few. same g values q (omega (arith, few, less)) (omega (arith, few, more)))
        f args (record p { left = left }) (omega arith)

  statements_same : (depth : ℕ) (stm : Stm) (locals : Locals) (p : Progress) → p.left ≤ depth →
      meaning decls (call_of decls depth) stm locals p
      ≡ meaning decls (call_of decls p.left) stm locals p
  statements_same depth stm locals p enough =
      same_of_alike p.left (meaning decls (call_of decls depth) stm locals p)
      (meaning decls (call_of decls p.left) stm locals p)
      ((statements_alike true (Same p.left) decls (call_of decls depth) (call_of decls p.left)
      (acts p.left depth p.left
      (λ f args q few. calls_same depth p.left f args q (omega (arith, few, enough)) few)) stm).does
      locals p p (record { is = refl; few = omega arith }))

pub depth_is_enough : DepthIsEnough
depth_is_enough = record {
  call = λ decls depth f args p enough. calls_same decls depth p.left f args p enough (omega arith);
  statement = statements_same;
}
