use Rattle.std.proofs.Common.{subst, Ok, Err, List, ℕ}
use Rattle.std.specs.Str.{chars, valid_up_to}
use Rattle.kat_tree.specs.Machine.{Gives, run, start}
use Rattle.kat_tree.proofs.Outcomes.{gives_ok, gives_fault, gives_owed, no_text_owed}
use Rattle.kat_tree.proofs.read.read_tree.Goals as goal

pub returns-in-Ok-clause-found : goal.returns-in-Ok-clause-found
returns-in-Ok-clause-found c =
    let gives = subst (λ (bytes : List ℕ). Gives c.read_text.result (run 0 start (chars bytes))) c.in-Ok.ensures.cases.0 c.read_text.ensures in
    gives_ok c.args.bytes.now c.read_text.result c.in-Ok.ensures.cases.1 gives

pub returns-in-Ok-clause-only : goal.returns-in-Ok-clause-only
returns-in-Ok-clause-only c = λ tree spells.
    let gives = subst (λ (bytes : List ℕ). Gives c.read_text.result (run 0 start (chars bytes))) c.in-Ok.ensures.cases.0 c.read_text.ensures in
    gives_owed c.args.bytes.now c.read_text.result (Ok tree) c.in-Ok.ensures.cases.1 gives spells

pub returns-in-Ok-clause-fault : goal.returns-in-Ok-clause-fault
returns-in-Ok-clause-fault c =
    let gives = subst (λ (bytes : List ℕ). Gives c.read_text.result (run 0 start (chars bytes))) c.in-Ok.ensures.cases.0 c.read_text.ensures in
    gives_fault c.args.bytes.now c.read_text.result c.in-Ok.ensures.cases.1 gives

pub returns-in-Ok-clause-first : goal.returns-in-Ok-clause-first
returns-in-Ok-clause-first c = λ fault first.
    let gives = subst (λ (bytes : List ℕ). Gives c.read_text.result (run 0 start (chars bytes))) c.in-Ok.ensures.cases.0 c.read_text.ensures in
    gives_owed c.args.bytes.now c.read_text.result (Err fault) c.in-Ok.ensures.cases.1 gives first

pub returns-in-Err-clause-first : goal.returns-in-Err-clause-first
returns-in-Err-clause-first c = λ fault first.
    rw c.valid_up_to.ensures (no_text_owed c.args.bytes.now (Err fault) (valid_up_to c.in-Err.error) c.in-Err.ensures.cases.0 c.in-Err.ensures.cases.1 first)
