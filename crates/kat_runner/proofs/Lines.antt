-- The lines of registers, one at a time.
use Rattle.std.proofs.Common.{◌≡◌, ℕ, zero, suc, ◌+◌, ◌<◌, ◌≤◌, min, refl, ap, sym, ◌∙◌, arith, add-one, if◌then◌else◌, List, [], ◌∷◌, ◌++◌, length, drop, get_or, drop-cons}
use Rattle.std.proofs.lemmas.List.{drop_all}
use Rattle.kat_value.specs.declared.value.Value.{Value}
use Rattle.kat_value.specs.declared.types.TypeDecl.{TypeDecl}
use Rattle.kat_value.specs.Equality.{value_eq}
use Rattle.kat_syntax.specs.Tables.{Name}
use Rattle.kat_runner.specs.StateText.{register_lines, changed_registers}
use Rattle.kat_print.specs.Values.{register_line}

-- what is left at i is its element and what is left behind it
module _ {T : Type 0} (xs : List T) (i : ℕ) (x : T) where
  pub front_of_drop : i < length xs → x ≡ get_or xs i x → drop i xs ≡ x ∷ drop (i + 1) xs
  front_of_drop h x_is = rw (add-one, drop-cons xs i x) (ap (λ y. y ∷ drop (suc i) xs) (sym x_is))

module _ (types : List TypeDecl) where
  register_lines-no_values : (names : List Name) → register_lines types names [] ≡ []
  register_lines-no_values [] = refl
  register_lines-no_values (name ∷ names) = refl

  -- no line is left where the names or the values have ended
  pub register_lines-end : (n : ℕ) (names : List Name) (values : List Value) →
      min (length names) (length values) ≤ n →
      register_lines types (drop n names) (drop n values) ≡ []
  register_lines-end n [] values h =
      ap (λ ns. register_lines types ns (drop n values)) (drop_all n [] (omega arith))
  register_lines-end n (name ∷ names) [] h =
      ap (register_lines types (drop n (name ∷ names))) (drop_all n [] (omega arith))
      ∙ register_lines-no_values (drop n (name ∷ names))
  register_lines-end zero (name ∷ names) (value ∷ values) h = absurd (omega arith)
  register_lines-end (suc n) (name ∷ names) (value ∷ values) h =
      register_lines-end n names values (omega arith)

  changed_registers-no_before : (names : List Name) (after : List Value) →
      changed_registers types names [] after ≡ []
  changed_registers-no_before [] after = refl
  changed_registers-no_before (name ∷ names) after = refl

  changed_registers-no_after : (names : List Name) (before : List Value) →
      changed_registers types names before [] ≡ []
  changed_registers-no_after [] before = refl
  changed_registers-no_after (name ∷ names) [] = refl
  changed_registers-no_after (name ∷ names) (old ∷ before) = refl

  -- no line is left where the names, the values before or the values after have ended
  pub changed_registers-end : (n : ℕ) (names : List Name) (before after : List Value) →
      min (min (length names) (length before)) (length after) ≤ n →
      changed_registers types (drop n names) (drop n before) (drop n after) ≡ []
  changed_registers-end n [] before after h =
      ap (λ ns. changed_registers types ns (drop n before) (drop n after)) (drop_all n [] (omega
      arith))
  changed_registers-end n (name ∷ names) [] after h =
      ap (λ vs. changed_registers types (drop n (name ∷ names)) vs (drop n after)) (drop_all n []
      (omega arith))
      ∙ changed_registers-no_before (drop n (name ∷ names)) (drop n after)
  changed_registers-end n (name ∷ names) (old ∷ before) [] h =
      ap (changed_registers types (drop n (name ∷ names)) (drop n (old ∷ before))) (drop_all n []
      (omega arith))
      ∙ changed_registers-no_after (drop n (name ∷ names)) (drop n (old ∷ before))
  changed_registers-end zero (name ∷ names) (old ∷ before) (new ∷ after) h = absurd (omega arith)
  changed_registers-end (suc n) (name ∷ names) (old ∷ before) (new ∷ after) h =
      changed_registers-end n names before after (omega arith)

  -- the line of the register at i, and the lines behind it
  pub register_lines-at : (names : List Name) (values : List Value) (i : ℕ) (name : Name) (value :
      Value) →
      i < length names → i < length values → name ≡ get_or names i name →
      value ≡ get_or values i value →
      register_lines types (drop i names) (drop i values)
      ≡ register_line types name value ++ register_lines types (drop (i + 1) names) (drop (i + 1)
      values)
  register_lines-at names values i name value n v name_is value_is =
      ap (λ ns. register_lines types ns (drop i values)) (front_of_drop names i name n name_is)
      ∙ ap (register_lines types (name ∷ drop (i + 1) names)) (front_of_drop values i value v
      value_is)

  -- the line of the register at i, if its value is another than before, and the lines behind it
  pub changed_registers-at : (names : List Name) (before after : List Value) (i : ℕ) (name : Name)
      (old new : Value) →
      i < length names → i < length before → i < length after →
      name ≡ get_or names i name → old ≡ get_or before i old → new ≡ get_or after i new →
      changed_registers types (drop i names) (drop i before) (drop i after)
      ≡ (if value_eq old new then [] else register_line types name new) ++ changed_registers types
      (drop (i + 1) names) (drop (i + 1) before) (drop (i + 1) after)
  changed_registers-at names before after i name old new n b a name_is old_is new_is =
      ap (λ ns. changed_registers types ns (drop i before) (drop i after)) (front_of_drop names i
      name n name_is)
      ∙ ap (λ vs. changed_registers types (name ∷ drop (i + 1) names) vs (drop i after))
      (front_of_drop before i old b old_is)
      ∙ ap (changed_registers types (name ∷ drop (i + 1) names) (old ∷ drop (i + 1) before))
      (front_of_drop after i new a new_is)
