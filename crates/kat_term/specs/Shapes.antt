-- The shape of a term: its outermost layer, with the parts behind references.
use Rattle.kat_term.specs.declared.shape.Shape.{Shape}
use Rattle.kat_term.specs.declared.shape.Shape.TheVariants.{Var as VarShape, Lit as LitShape, Apply as ApplyShape, Make as MakeShape, Rec as RecShape}
use Rattle.kat_term.specs.declared.term.Term.{Term}
use Rattle.kat_term.specs.declared.term.Term.TheOpen.{Term-F, Var as Variable, Lit as Literal, Apply as Application, Make as Making, Rec as Record}
use Rattle.kat_term.specs.declared.term.Term.TheVariants.{Var, Lit, Apply, Make, Rec}

-- the term of a shape
abbrev pub term_of_shape : Shape → Term
term_of_shape (VarShape i) = Var i
term_of_shape (LitShape x) = Lit x.now
term_of_shape (ApplyShape op args) = Apply op args.now
term_of_shape (MakeShape of ctor inner) = Make of ctor inner.now
term_of_shape (RecShape of fields) = Rec of fields.now

-- the layer of a shape
abbrev pub layer_of_shape : Shape → Term-F Term
layer_of_shape (VarShape i) = Variable i
layer_of_shape (LitShape x) = Literal x.now
layer_of_shape (ApplyShape op args) = Application op args.now
layer_of_shape (MakeShape of ctor inner) = Making of ctor inner.now
layer_of_shape (RecShape of fields) = Record of fields.now
