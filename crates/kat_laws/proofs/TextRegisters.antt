-- What the lines of registers tell.
use Rattle.std.proofs.Common.{◌≡◌, ◌≢◌, ℕ, suc, Bool, true, false, List, [], ◌∷◌, ◌++◌, drop, if◌then◌else◌, refl, sym, ap, ◌∙◌, arith, append_assoc}
use Rattle.std.specs.List.{All, AllByRecursion}
use Rattle.std.proofs.lemmas.List.{append_cancel_left}
use Rattle.std.proofs.lemmas.List.Elements.{All-head, All-tail}
use Rattle.kat_names.specs.Names.{AllDiffer}
use Rattle.kat_value.specs.declared.types.TypeDecl.{TypeDecl}
use Rattle.kat_value.specs.declared.value.Value.{Value}
use Rattle.kat_value.specs.Equality.{value_eq}
use Rattle.kat_value.specs.Typing.{HasType}
use Rattle.kat_syntax.specs.Tables.{Name}
use Rattle.kat_print.specs.Values.{text_of_value, register_line}
use Rattle.kat_runner.specs.StateText.{register_lines, changed_registers}
use Rattle.kat_laws.specs.TextLaw.{IsWord, HasValueNames}
use Rattle.kat_laws.proofs.TextNumbers.{word_told}
use Rattle.kat_laws.proofs.TextValues.{value_told}
use Rattle.kat_laws.proofs.TextLines.{AreApart, Tells, changed}
use Rattle.kat_laws.proofs.TypedRegisters.{TypedRegister, AreOf, names_of}

-- the names of two registers are words and differ
pub record NamesDiffer (one other : TypedRegister) : Type 0 where
  pub first : IsWord one.0
  pub second : IsWord other.0
  pub differ : one.0 ≢ other.0

-- a name differs from each one after it
first_differs : (name : Name) (names : List Name) → AllDiffer (name ∷ names) →
    All (λ other. name ≢ other) names
first_differs name names h = λ k d in'. h 0 (suc k) d (omega arith) (omega (arith, in'))

rest_differ : (name : Name) (names : List Name) → AllDiffer (name ∷ names) → AllDiffer names
rest_differ name names h = λ i j d less in'. h (suc i) (suc j) d (omega (arith, less))
    (omega (arith, in'))

one_apart : (one : TypedRegister) (registers : List TypedRegister) → IsWord one.0 →
    All IsWord (names_of registers) → All (λ other. one.0 ≢ other) (names_of registers) →
    AllByRecursion (NamesDiffer one) registers
one_apart one [] word words differ = tt
one_apart one (register ∷ registers) word words differ =
    let names : List Name = names_of registers in (
      record {
        first = word;
        second = All-head IsWord register.0 names words;
        differ = All-head (λ other. one.0 ≢ other) register.0 names differ;
      },
      one_apart one registers word (All-tail IsWord register.0 names words)
          (All-tail (λ other. one.0 ≢ other) register.0 names differ),
    )

-- registers whose names are words and differ
pub registers_apart : (registers : List TypedRegister) → All IsWord (names_of registers) →
    AllDiffer (names_of registers) → AreApart TypedRegister NamesDiffer registers
registers_apart [] words differ = tt
registers_apart (register ∷ registers) words differ =
    let names : List Name = names_of registers in
    let others : All IsWord names = All-tail IsWord register.0 names words in (
      one_apart register registers (All-head IsWord register.0 names words) others
          (first_differs register.0 names differ),
      registers_apart registers others (rest_differ register.0 names differ),
    )

-- no value is left out at boundary 0
abbrev pub never : Value → Value → Bool
never old new = false

module _ (types : List TypeDecl) (named : AllByRecursion HasValueNames types) where
  -- the line of a register
  abbrev pub line_of : TypedRegister → Value → List ℕ
  line_of register value = register_line types register.0 value

  -- a value is of the type of a register
  abbrev pub IsOf : TypedRegister → Value → Type 0
  IsOf register value = HasType types register.1 value

  -- a line and what follows, word by word
  line_words : (register : TypedRegister) (value : Value) (rest : List ℕ) →
      line_of register value ++ rest ≡ 114 ∷ 101 ∷ 103 ∷ 32 ∷
      (register.0 ++ 32 ∷ (text_of_value types value ++ 10 ∷ rest))
  line_words register value rest = simp append_assoc refl

  -- the lines of registers tell, whichever values are not shown, where these are known
  pub registers_tell : (same : Value → Value → Bool) →
      ((old u v : Value) → same old u ≡ true → same old v ≡ true → u ≡ v) →
      Tells TypedRegister Value same line_of 114 NamesDiffer IsOf
  registers_tell same hides = record {
    hides = hides;
    begins = λ register v r. refl;
    keys = λ one other u v r s apart e.
        apart.differ
        (word_told one.0 other.0 (32 ∷ (text_of_value types u ++ 10 ∷ r))
        (32 ∷ (text_of_value types v ++ 10 ∷ s)) apart.first apart.second (omega arith)
        (omega arith)
        (ap (drop 4) (sym (line_words one u r) ∙ e ∙ line_words other v s))).0;
    values = λ register u v r s p q e.
        let behind_name = append_cancel_left register.0
        (32 ∷ (text_of_value types u ++ 10 ∷ r)) (32 ∷ (text_of_value types v ++ 10 ∷ s))
        (ap (drop 4) (sym (line_words register u r) ∙ e ∙ line_words register v s)) in
        let parts = value_told types named u v register.1 (10 ∷ r) (10 ∷ s) p q (omega arith)
        (omega arith) (ap (drop 1) behind_name) in
        (parts.0, ap (drop 1) parts.1);
  }

  pub whole_are : (registers : List TypedRegister) (before values : List Value) →
      AreOf types registers before → AreOf types registers values →
      register_lines types (names_of registers) values
      ≡ changed TypedRegister Value never line_of registers before values
  whole_are [] before values p q = refl
  whole_are (register ∷ registers) [] values p q = absurd p
  whole_are (register ∷ registers) (old ∷ before) [] p q = absurd q
  whole_are (register ∷ registers) (old ∷ before) (value ∷ values) p q =
      ap (λ lines. line_of register value ++ lines) (whole_are registers before values p.1 q.1)

  pub changed_are : (registers : List TypedRegister) (before after : List Value) →
      changed_registers types (names_of registers) before after
      ≡ changed TypedRegister Value value_eq line_of registers before after
  changed_are [] before after = refl
  changed_are (register ∷ registers) [] after = refl
  changed_are (register ∷ registers) (old ∷ before) [] = refl
  changed_are (register ∷ registers) (old ∷ before) (new ∷ after) =
      ap (λ lines. (if value_eq old new then [] else line_of register new) ++ lines)
      (changed_are registers before after)
