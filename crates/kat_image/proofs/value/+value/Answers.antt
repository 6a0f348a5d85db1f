use Rattle.std.proofs.Common.{refl, subst}
use Rattle.kat_value.specs.declared.types.Ty.TheVariants as ty
use Rattle.kat_syntax.specs.TypeTable.{types_of_decls}
use Rattle.kat_image.specs.Words.{IsReadAs}
use Rattle.kat_image.proofs.Levels.{word_level, made_level, record_level, one_below}
use Rattle.kat_image.proofs.value.+value.Goals as goal

pub value_front-returns-in-Unit : goal.value_front-returns-in-Unit
value_front-returns-in-Unit t c = subst (IsReadAs c.word_value.result _) (word_level (types_of_decls c.args.machine.now.decls) c.args.levels c.in-Some.below c.args.ty ty.Unit c.args.unread.now.rest.now (one_below c.args.levels c.in-Some.below c.in-Some.ensures) c.in-Unit.is refl) c.word_value.ensures

pub value_front-returns-in-Bool : goal.value_front-returns-in-Bool
value_front-returns-in-Bool t c = subst (IsReadAs c.word_value-in-Bool.result _) (word_level (types_of_decls c.args.machine.now.decls) c.args.levels c.in-Some.below c.args.ty ty.Bool c.args.unread.now.rest.now (one_below c.args.levels c.in-Some.below c.in-Some.ensures) c.in-Bool.is refl) c.word_value-in-Bool.ensures

pub value_front-returns-in-Bits : goal.value_front-returns-in-Bits
value_front-returns-in-Bits t c = subst (IsReadAs c.word_value-in-Bits.result _) (word_level (types_of_decls c.args.machine.now.decls) c.args.levels c.in-Some.below c.args.ty (ty.Bits c.in-Bits.field-0) c.args.unread.now.rest.now (one_below c.args.levels c.in-Some.below c.in-Some.ensures) c.in-Bits.is refl) c.word_value-in-Bits.ensures

pub value_front-returns-in-Enum : goal.value_front-returns-in-Enum
value_front-returns-in-Enum t c = subst (IsReadAs c.word_value-in-Enum.result _) (word_level (types_of_decls c.args.machine.now.decls) c.args.levels c.in-Some.below c.args.ty (ty.Enum c.in-Enum.field-0) c.args.unread.now.rest.now (one_below c.args.levels c.in-Some.below c.in-Some.ensures) c.in-Enum.is refl) c.word_value-in-Enum.ensures

pub value_front-returns-in-Union : goal.value_front-returns-in-Union
value_front-returns-in-Union t c = subst (IsReadAs c.made_front.result _) (made_level (types_of_decls c.args.machine.now.decls) c.args.levels c.in-Some.below c.args.ty c.in-Union.of c.args.unread.now.rest.now (one_below c.args.levels c.in-Some.below c.in-Some.ensures) c.in-Union.is) c.made_front.ensures

pub value_front-returns-in-Rec : goal.value_front-returns-in-Rec
value_front-returns-in-Rec t c = subst (IsReadAs c.record_front.result _) (record_level (types_of_decls c.args.machine.now.decls) c.args.levels c.in-Some.below c.args.ty c.in-Rec.of c.args.unread.now.rest.now (one_below c.args.levels c.in-Some.below c.in-Some.ensures) c.in-Rec.is) c.record_front.ensures
