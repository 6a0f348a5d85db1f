use Rattle.std.proofs.Common.{◌≡◌, ℕ, List, Option, None, Some, Bor, refl, sym, ap, ◌∙◌}
use Rattle.std.specs.Option.{option_map}
use Rattle.kat_mode.specs.Inputs.{predicate_in}
use Rattle.kat_mode.proofs.Counted.{predicate_counted, other_counted}
use Rattle.kat_mode.proofs.inputs.Inputs.of.Goals.{in-Some+in_ok-add, in_default}
use Rattle.kat_mode.proofs.inputs.Inputs.of.Goals as goal

-- an option that is no `Some` is `None`
is_none : {A : Type 0} (o : Option A) → ((x : A) → o ≡ Some x → ⊥) → o ≡ None
is_none None never = refl
is_none (Some x) never = absurd (never x refl)

-- a declaration that declares a predicate, or none
pub loop-decl-preserved : goal.loop-decl-preserved
loop-decl-preserved c =
    elim c.match-predicate_in.branch [
      | in-Some+in_ok-add w ↦
          predicate_counted c.args.decls.now c.loop-decl.decl-index c.decl-item.result
          w.in-Some.name.now w.in-Some.inputs c.loop-decl.counts c.match-predicate_in.counts
          c.loop-decl-test.true c.decl-item.is
          (sym (ap predicate_in c.form.ensures.form) ∙ sym c.predicate_in.ensures
          ∙ ap (option_map (λ (found : Bor (List ℕ) × ℕ). (found.0.now, found.1))) w.in-Some.is)
          c.loop-decl.invariant (w.counts-is ∙ w.in_ok-add.ensures)
      | in_default w ↦
          rw (w.counts-is) (other_counted c.args.decls.now c.loop-decl.decl-index c.decl-item.result
          c.loop-decl.counts c.loop-decl-test.true c.decl-item.is
          (sym (ap predicate_in c.form.ensures.form) ∙ sym c.predicate_in.ensures
          ∙ ap (option_map (λ (found : Bor (List ℕ) × ℕ). (found.0.now, found.1)))
          (is_none c.predicate_in.result w.in_default.not-Some))
          c.loop-decl.invariant)
    ]
