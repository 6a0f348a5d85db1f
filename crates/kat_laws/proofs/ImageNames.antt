-- The names of a specification of the language's text are such as an image can be read back with.
use Rattle.std.proofs.Common.{◌≡◌, ◌≢◌, ℕ, ◌+◌, ◌-◌, ◌≤◌, ◌^◌, ◌||◌, ◌==◌, false, List, [], ◌∷◌, map, ap, subst, ◌∙◌, arith}
use Rattle.std.specs.Prelude.{IfSome, IsTrue, codes}
use Rattle.std.specs.List.{AllByRecursion}
use Rattle.std.proofs.lemmas.Bool.{ne_eqb}
use Rattle.std.proofs.lemmas.List.Elements.{All-weaker, recursion_from_All}
use Rattle.kat_value.specs.Widths.{is_width}
use Rattle.kat_value.specs.declared.types.TypeDecl.TheVariants as type
use Rattle.kat_tree.specs.declared.tree.Tree.TheVariants as tree
use Rattle.kat_tree.specs.Written.{IsNameToken, IsToken}
use Rattle.kat_ast.specs.Declarations.{word_of_register_kind, IsDecl}
use Rattle.kat_ast.specs.Parts.{word}
use Rattle.kat_ast.specs.Spec.{Spec}
use Rattle.kat_ast.specs.Types.{tree_of_type, tree_of_param, tree_of_params}
use Rattle.kat_ast.specs.declared.type_name.Param.{Param}
use Rattle.kat_ast.specs.declared.decl.DeclForm.{DeclForm}
use Rattle.kat_ast.specs.declared.decl.DeclForm.TheVariants as d
use Rattle.kat_syntax.specs.FirstTypeFault.{IsTyped}
use Rattle.kat_syntax.specs.Memories.{Memory, has_bounds, memory_from}
use Rattle.kat_syntax.specs.NamedValues.{names_of_fields}
use Rattle.kat_syntax.specs.Tables.{Name, register_names}
use Rattle.kat_syntax.specs.TypeTable.{NamesEarlierTypes, fields_of, types_from, types_of_decls}
use Rattle.kat_syntax.specs.declared.type_rule.TypeRule.TheVariants.{MemoryBounds, NoWidth}
use Rattle.kat_image.specs.ReadsBack.{HasImageNames, HasPlainNames, IsPlainWord, StatesComeBack}
use Rattle.kat_image.specs.Words.{ends_word}
use Rattle.kat_laws.specs.CleanDeclarations.{AreClean}
use Rattle.kat_laws.specs.Images.{PrintedImagesComeBack}
use Rattle.kat_laws.specs.Runs.{IsMachine, MachinesHaveNames}
use Rattle.kat_laws.specs.TextLaw.{IsWord}
use Rattle.kat_laws.proofs.Clean.{empty_first, empty_second, inner_clean, met}
use Rattle.kat_laws.proofs.DeclaredNames.{bounds_small}
use Rattle.kat_laws.proofs.NameWords.{IsSpelled, TokensByParts, name_is_word, spelled_parts}
use Rattle.kat_laws.proofs.TypePlaces.{ctors_found, members_found, types_found, types_in_order}

-- a byte of a word is no end of one
goes_on : (byte : ℕ) → 48 ≤ byte → ends_word byte ≡ false
goes_on byte high =
    ap (λ b. b || (byte == 41)) (ne_eqb byte 32 (λ e. omega (arith, e, high)))
    ∙ ne_eqb byte 41 (λ e. omega (arith, e, high))

-- a name token is a word of a line
plain_word : (name : Name) → IsNameToken name → IsPlainWord name
plain_word name token =
    let high : IsWord name = name_is_word name token in
    record {
      utf8 = token.utf8;
      goes_on = recursion_from_All (λ byte. ends_word byte ≡ false) name
          (All-weaker (λ byte. 48 ≤ byte) (λ byte. ends_word byte ≡ false) goes_on name high);
      one_line = All-weaker (λ byte. 48 ≤ byte) (λ byte. byte ≢ 10)
          (λ byte h e. omega (arith, e, h)) name high;
    }

module _ (tokens : TokensByParts) where
  -- a spelled name is a word of a line
  spelled_plain : (name : Name) → IsSpelled (word name) → IsPlainWord name
  spelled_plain name are =
      plain_word name (subst (AllByRecursion IsToken) (tokens.atom _) are).0

  plain_names : (names : List Name) → AllByRecursion IsSpelled (map word names) →
      AllByRecursion IsPlainWord names
  plain_names [] are = tt
  plain_names (name ∷ names) are = (spelled_plain name are.0, plain_names names are.1)

  plain_ctors : (all : List DeclForm) (k : ℕ) (ctors : List Param) →
      AllByRecursion IsSpelled (map tree_of_param ctors) →
      AllByRecursion IsPlainWord (names_of_fields (fields_of all k ctors))
  plain_ctors all k [] are = tt
  plain_ctors all k (ctor ∷ ctors) are =
      let parts = spelled_parts tokens (word ctor.name ∷ tree_of_type ctor.ty ∷ []) are.0 in
      (spelled_plain ctor.name parts.0, plain_ctors all k ctors are.1)

  plain_enum : (x : Name) (members : List Name) → IsDecl (d.Enum x members) →
      HasPlainNames (type.Enum x members)
  plain_enum x members is =
      let parts = spelled_parts tokens
      (word (codes "enum") ∷ word x ∷ tree.List (map word members) ∷ []) is.tokens in
      record {
        name = spelled_plain x parts.1.0;
        members = plain_names members (spelled_parts tokens (map word members) parts.1.1.0);
        ctors = tt;
      }

  plain_union : (all : List DeclForm) (k : ℕ) (x : Name) (ctors : List Param) →
      IsDecl (d.Union x ctors) → HasPlainNames (type.Union x (fields_of all k ctors))
  plain_union all k x ctors is =
      let parts = spelled_parts tokens
      (word (codes "union") ∷ word x ∷ tree_of_params ctors ∷ []) is.tokens in
      record {
        name = spelled_plain x parts.1.0;
        members = tt;
        ctors = plain_ctors all k ctors
            (spelled_parts tokens (map tree_of_param ctors) parts.1.1.0);
      }

  plain_record : (all : List DeclForm) (k : ℕ) (x : Name) (fields : List Param) →
      IsDecl (d.Record x fields) → HasPlainNames (type.Rec x (fields_of all k fields))
  plain_record all k x fields is =
      let parts = spelled_parts tokens
      (word (codes "record") ∷ word x ∷ tree_of_params fields ∷ []) is.tokens in
      record { name = spelled_plain x parts.1.0; members = tt; ctors = tt }

  plain_types : (all : List DeclForm) (k : ℕ) (decls : List DeclForm) →
      AllByRecursion IsDecl decls → AllByRecursion HasPlainNames (types_from all k decls)
  plain_types all k [] are = tt
  plain_types all k (d.Enum x members ∷ decls) are =
      (plain_enum x members are.0, plain_types all (k + 1) decls are.1)
  plain_types all k (d.Union x ctors ∷ decls) are =
      (plain_union all k x ctors are.0, plain_types all (k + 1) decls are.1)
  plain_types all k (d.Record x fields ∷ decls) are =
      (plain_record all k x fields are.0, plain_types all (k + 1) decls are.1)
  plain_types all k (_ ∷ decls) are = plain_types all (k + 1) decls are.1

  plain_registers : (decls : List DeclForm) → AllByRecursion IsDecl decls →
      AllByRecursion IsPlainWord (register_names decls)
  plain_registers [] are = tt
  plain_registers (d.Register x type kind ∷ decls) are = (
    spelled_plain x (spelled_parts tokens
        (word (codes "register") ∷ word x ∷ tree_of_type type
        ∷ word (word_of_register_kind kind) ∷ []) are.0.tokens).1.0,
    plain_registers decls are.1,
  )
  plain_registers (_ ∷ decls) are = plain_registers decls are.1

-- the cells of a memory have a width, and its indices are below 2 ^ 64
abbrev IsNarrow : Memory → Type 0
IsNarrow memory = IsTrue (is_width memory.cell_width) × (memory.hi ≤ 2 ^ 64)

end_small : (lo hi : ℕ) → lo + (hi - lo) ≤ 2 ^ 64 → hi ≤ 2 ^ 64
end_small lo hi small = omega (arith, small)

memory_narrow : (all : List DeclForm) (k : ℕ) (decls : List DeclForm) → AreClean all k decls →
    IfSome (memory_from k decls) IsNarrow
memory_narrow all k [] clean = tt
memory_narrow all k (d.Memory a c lo hi ∷ decls) clean =
    let inner = inner_clean all k (d.Memory a c lo hi) clean.0 in
    let widths = empty_second _ _ inner in
    let cells = empty_second _ _ widths in
    let bounds = met (has_bounds a lo hi) 0 MemoryBounds (empty_second _ _ cells) in (
      met (is_width c) 3 NoWidth (empty_first _ _ cells),
      end_small lo hi
          (bounds_small a lo hi (met (is_width a) 2 NoWidth (empty_first _ _ widths)) bounds),
    )
memory_narrow all k (_ ∷ decls) clean = memory_narrow all (k + 1) decls clean.1

-- types name earlier ones, as kat_syntax has it
abbrev NameEarlierOnes : Type 0
NameEarlierOnes = (spec : Spec) → IsTyped spec → NamesEarlierTypes (types_of_decls spec.decls)

-- a machine has the names that reading an image asks for
image_names : TokensByParts → MachinesHaveNames → NameEarlierOnes → (spec : Spec) →
    IsMachine spec → HasImageNames spec
image_names tokens names earlier spec machine =
    let named = names spec machine in
    let all = spec.decls in
    let types = types_of_decls all in
    let order = types_in_order all 0 all machine.typed in
    record {
      registers = plain_registers tokens all machine.written;
      registers_differ = named.registers.distinct;
      types = record {
        words = plain_types tokens all 0 all machine.written;
        types_differ = λ p one at. types_found all 0 types p one order at;
        ctors_differ = λ p k ctor at. ctors_found all 0 types p k ctor order named.types at;
        members_differ = λ p k name at. members_found types p k name named.types at;
        earlier = earlier spec machine.typed;
      };
      memory = λ memory e.
          subst (λ o. IfSome o IsNarrow) e (memory_narrow all 0 all machine.typed);
    }

-- of a machine each state is what its printed text stands for
pub printed_images : TokensByParts → MachinesHaveNames → NameEarlierOnes →
    ((spec : Spec) → HasImageNames spec → StatesComeBack spec) → PrintedImagesComeBack
printed_images tokens names earlier back spec state machine is =
    back spec (image_names tokens names earlier spec machine) state is
