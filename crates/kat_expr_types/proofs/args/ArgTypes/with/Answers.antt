-- One argument more is kept, in its place or not.
use Rattle.std.proofs.Common.{sym, subst, ◌+◌, ◌∷◌, ◌++◌, []}
use Rattle.kat_expr_types.specs.declared.args.ArgTypes.{ArgTypes}
use Rattle.kat_expr_types.specs.Operands.{Keeps}
use Rattle.kat_expr_types.proofs.Operands.{keeps_place, keeps_beyond}
use Rattle.kat_expr_types.proofs.args.ArgTypes.with.Goals.{then-types-lt3, else-types-lt3}
use Rattle.kat_expr_types.proofs.args.ArgTypes.with.Goals as goal

pub returns : goal.returns
returns c = λ types keeps.
    let s = c.args.signature in
    let type = c.args.ty in
    let kept = c.args.self in
    let fixed = c.fixed_behind-types.result in
    let made = λ (m : ArgTypes). Keeps s (types ++ type ∷ [])
    (record { count = m.count + 1; first = m.first; fixed = m.fixed }) in
    elim c.if-types-lt3.branch [
      | then-types-lt3 w ↦ subst made (sym w.types-is)
          (keeps_place s types type fixed kept keeps c.fixed_behind-types.ensures
          w.if-types-lt3.true)
      | else-types-lt3 w ↦ subst made (sym w.types-is)
          (keeps_beyond s types type fixed kept keeps c.fixed_behind-types.ensures
          w.if-types-lt3.false)
    ]
