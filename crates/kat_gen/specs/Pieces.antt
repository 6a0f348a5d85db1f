-- The pieces of which the generated specification's text is written: joined, they are its canonical
-- text (`text_is` of proofs/Texts). What stands in a list stands behind a space.
use Rattle.std.specs.Prelude.{ℕ, ◌+◌, List, [], ◌∷◌, codes}
use Rattle.kat_tree.specs.Lexeme.{joined}
use Rattle.kat_gen.specs.Generated.{for_each, numbered}

-- `(register ri (bits 16) plain)`
abbrev pub register_pieces : ℕ → List (List ℕ)
register_pieces i = numbered (codes " (register r") i ∷ codes " (bits 16) plain)" ∷ []

-- `(fun fi () unit (let a (read ri) (if ..)))`
abbrev pub function_pieces : ℕ → List (List ℕ)
function_pieces i =
    numbered (codes " (fun f") i ∷ numbered (codes " () unit (let a (read r") i
    ∷ numbered (codes ") (if (ult a (bits 16 ") (i + 1) ∷ numbered (codes ")) (write r") i
    ∷ codes " (add a (bits 16 1))) (ret unit))))" ∷ []

-- `(contract fi () (pre A) (res z) (post A))`
abbrev pub contract_pieces : ℕ → List (List ℕ)
contract_pieces i =
    numbered (codes " (contract f") i
    ∷ numbered (codes " () (pre (exists (a (bits 16)) (reg r") i
    ∷ numbered (codes " a))) (res z) (post (exists (b (bits 16)) (reg r") i
    ∷ codes " b))))" ∷ []

-- the three declarations of a number
abbrev pub counter_pieces : ℕ → List (List ℕ)
counter_pieces i =
    joined (register_pieces i) ∷ joined (function_pieces i) ∷ joined (contract_pieces i) ∷ []

-- those of each number below n
abbrev pub counters_text : ℕ → List ℕ
counters_text = for_each (λ i. joined (counter_pieces i))

-- `(call fi)`
abbrev pub call_pieces : ℕ → List (List ℕ)
call_pieces i = numbered (codes " (call f") i ∷ codes ")" ∷ []

-- a call for each number below n
abbrev pub calls_text : ℕ → List ℕ
calls_text = for_each (λ i. joined (call_pieces i))

-- `(fun step () unit (let m (read mode) (if (eq m (bits 1 1)) .. (seq calls))))`
abbrev pub step_function_pieces : ℕ → List (List ℕ)
step_function_pieces n =
    codes " (fun step () unit (let m (read mode) (if (eq m (bits 1 1))"
    ∷ codes " (write mode (bits 1 0)) (seq" ∷ calls_text n ∷ codes "))))" ∷ []

-- `(exists (ai (bits 16)) (reg ri ai))`
abbrev pub part_pieces : ℕ → List (List ℕ)
part_pieces i =
    numbered (codes " (exists (a") i ∷ numbered (codes " (bits 16)) (reg r") i
    ∷ numbered (codes " a") i ∷ codes "))" ∷ []

-- a part for each number below n
abbrev pub parts_text : ℕ → List ℕ
parts_text = for_each (λ i. joined (part_pieces i))

-- `(star (reg mode (bits 1 MODE)) parts)`
abbrev pub all_parts_pieces : ℕ → ℕ → List (List ℕ)
all_parts_pieces mode n =
    numbered (codes "(star (reg mode (bits 1 ") mode ∷ codes "))" ∷ parts_text n
    ∷ codes ")" ∷ []

-- `(untrusted (star ..))`
abbrev pub untrusted_pieces : ℕ → List (List ℕ)
untrusted_pieces n = codes " (untrusted " ∷ joined (all_parts_pieces 0 n) ∷ codes ")" ∷ []

-- `(block boot_block (entry (star ..)) (within 1) (change ..))`
abbrev pub block_pieces : ℕ → List (List ℕ)
block_pieces n =
    codes " (block boot_block (entry " ∷ joined (all_parts_pieces 1 n)
    ∷ codes ") (within 1) (change (eq (after hold) (before hold))))" ∷ []

-- the registers of every generated specification
abbrev pub first_text : List ℕ
first_text = codes " (register mode (bits 1) plain) (register hold (bits 16) protected)"

-- what a cycle does, and what it is
abbrev pub cycle_pieces : ℕ → List (List ℕ)
cycle_pieces n =
    joined (step_function_pieces n) ∷ codes " (step step)"
    ∷ codes " (dispatch (when (eq (reg mode) (bits 1 1)) (block boot_block)) (else untrusted))"
    ∷ []

-- what holds between cycles, and how the machine starts
abbrev pub boundary_pieces : ℕ → List (List ℕ)
boundary_pieces n =
    joined (untrusted_pieces n) ∷ joined (block_pieces n) ∷ codes " (boot boot_block)" ∷ []

-- the declarations in their order
abbrev pub decls_pieces : ℕ → List (List ℕ)
decls_pieces n =
    first_text ∷ counters_text n ∷ joined (cycle_pieces n) ∷ joined (boundary_pieces n) ∷ []

-- the whole text
abbrev pub generated_pieces : ℕ → List (List ℕ)
generated_pieces n = codes "(spec 1" ∷ joined (decls_pieces n) ∷ codes ")\n" ∷ []
