-- The generated specification is one, and has so many declarations.
use Rattle.std.proofs.Common.{◌≡◌, ℕ, ◌+◌, ◌*◌, ◌<◌, ◌++◌, length, refl}
use Rattle.std.proofs.Common.{arith, length-append}
use Rattle.std.specs.List.{AllByRecursion}
use Rattle.kat_ast.specs.Declarations.{IsDecl}
use Rattle.kat_ast.specs.Specifications.{IsSpec}
use Rattle.kat_gen.specs.Generated.{IsAsked, boundary_decls, counter_of, cycle_decls, decls_of}
use Rattle.kat_gen.specs.Generated.{first_decls, for_each, generated_of}
use Rattle.kat_gen.proofs.Each.{all_each, all_more, length_each}
use Rattle.kat_gen.proofs.Declarations.{block_declared, boot_declared, contract_declared}
use Rattle.kat_gen.proofs.Declarations.{dispatch_declared, function_declared, hold_declared}
use Rattle.kat_gen.proofs.Declarations.{mode_declared, register_declared, step_declared}
use Rattle.kat_gen.proofs.Declarations.{step_function_declared, untrusted_declared}

-- the declarations of a number
counter_declared : (i : ℕ) → i < 500 → AllByRecursion IsDecl (counter_of i)
counter_declared i lt =
    (register_declared i lt, (function_declared i lt, (contract_declared i lt, tt)))

cycle_declared : (n : ℕ) → IsAsked n → AllByRecursion IsDecl (cycle_decls n)
cycle_declared n asked =
    (step_function_declared n asked, (step_declared, (dispatch_declared, tt)))

boundary_declared : (n : ℕ) → IsAsked n → AllByRecursion IsDecl (boundary_decls n)
boundary_declared n asked =
    (untrusted_declared n asked.few, (block_declared n asked.few, (boot_declared, tt)))

pub generated_is_spec : (n : ℕ) → IsAsked n → IsSpec (generated_of n)
unfolding decls_of
generated_is_spec n asked =
    let few = asked.few in
    record {
      version = refl;
      decls =
          all_more IsDecl (first_decls ++ for_each counter_of n ++ cycle_decls n) (boundary_decls n)
          (all_more IsDecl (first_decls ++ for_each counter_of n) (cycle_decls n)
          (all_more IsDecl first_decls (for_each counter_of n)
          (mode_declared, (hold_declared, tt))
          (all_each IsDecl counter_of n (λ i lt. counter_declared i (omega arith))))
          (cycle_declared n asked))
          (boundary_declared n asked);
    }

pub so_many : (n : ℕ) → length (decls_of n) ≡ 3 * n + 8
unfolding decls_of
so_many n =
    let each = length_each counter_of 3 (λ i. refl) n in
    let first = length-append first_decls (for_each counter_of n) in
    let more = length-append (first_decls ++ for_each counter_of n) (cycle_decls n) in
    let all =
    length-append (first_decls ++ for_each counter_of n ++ cycle_decls n) (boundary_decls n) in
    omega arith
