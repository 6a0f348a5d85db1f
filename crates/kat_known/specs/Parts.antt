-- Folds over terms that see each part whole.
use Rattle.kat_term.specs.declared.term.Term.{Term}
use Rattle.kat_term.specs.declared.term.Term.TheOpen.{Term-F}
use Rattle.kat_term.specs.declared.term.Term.TheViews.{roll-Term}
use Rattle.kat_term.specs.declared.term.Term.TheFolds.{fold-Term, map-Term}

-- a part of a term, and what is found of it
pub record Part (X : Type 0) : Type 0 where
  pub whole : Term
  pub found : X

-- the term of one layer of parts
abbrev pub whole_of : {X : Type 0} → Term-F (Part X) → Term
whole_of {X} layer = roll-Term (map-Term (Part X) Term (λ (part : Part X). part.whole) layer)

-- one layer of parts as a part
abbrev pub part_of : {X : Type 0} → (Term → Term-F (Part X) → X) → Term-F (Part X) → Part X
part_of find layer = record { whole = whole_of layer; found = find (whole_of layer) layer }

-- a term as a part
abbrev pub part : {X : Type 0} → (Term → Term-F (Part X) → X) → Term → Part X
part {X} find = fold-Term (Part X) (part_of find)

-- what is found of a term, from the term and what is found of its parts
abbrev pub found_of : {X : Type 0} → (Term → Term-F (Part X) → X) → Term → X
found_of find t = (part find t).found
