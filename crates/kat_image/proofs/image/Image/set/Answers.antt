use Rattle.std.proofs.Common.{◌≡◌, ◌∙◌, ap, sym, subst}
use Rattle.kat_image.specs.declared.setting.Setting.TheVariants.{Cells}
use Rattle.kat_image.specs.Reader.{IsSetFree, IsTaken}
use Rattle.kat_image.proofs.Places.{register_free, register_taken, cells_free, cells_taken}
use Rattle.kat_image.proofs.image.Image.set.Goals as goal

pub returns-in-Register-clause-set : goal.returns-in-Register-clause-set
returns-in-Register-clause-set c = λ is spec.
    subst (λ s. IsSetFree spec c.args.self.now s c.set_register.new.self) (sym c.in-Register.is)
    (record { free = register_free spec c.args.self.now c.in-Register.at c.in-Register.value (c.set_register.ensures.free is); set = c.set_register.ensures.set is })

pub returns-in-Register-clause-taken : goal.returns-in-Register-clause-taken
returns-in-Register-clause-taken c = λ is spec.
    subst (IsTaken spec c.args.self.now) (sym c.in-Register.is) (register_taken spec c.args.self.now c.in-Register.at c.in-Register.value (c.set_register.ensures.taken is))

pub returns-in-Cells-clause-set : goal.returns-in-Cells-clause-set
returns-in-Cells-clause-set c = λ is spec.
    let numbers = c.as_slice.result.now in
    let it : c.args.setting ≡ Cells c.in-Cells.at numbers = c.in-Cells.is ∙ ap (Cells c.in-Cells.at) (sym c.as_slice.ensures) in
    subst (λ s. IsSetFree spec c.args.self.now s c.set_cells.new.self) (sym it)
    (record { free = cells_free spec c.args.self.now c.in-Cells.at numbers (c.set_cells.ensures.free is); set = c.set_cells.ensures.set is })

pub returns-in-Cells-clause-taken : goal.returns-in-Cells-clause-taken
returns-in-Cells-clause-taken c = λ is spec.
    let numbers = c.as_slice.result.now in
    let it : c.args.setting ≡ Cells c.in-Cells.at numbers = c.in-Cells.is ∙ ap (Cells c.in-Cells.at) (sym c.as_slice.ensures) in
    subst (IsTaken spec c.args.self.now) (sym it) (cells_taken spec c.args.self.now c.in-Cells.at numbers (c.set_cells.ensures.taken is))
