use Rattle.std.proofs.Common.{rules, ap, ap₂, ◌≡◌, ◌∙◌, true, false}
use Rattle.std.proofs.Common.{Option, Some, None, IsSomeAnd}
use Rattle.clap.specs.declared.builder.arg.Arg.{Arg}
use Rattle.clap.specs.Words.{Rule, app_of, rule_of, with_rule}
use Rattle.clap.specs.Simple.{Shape, app_of_fields, on_top}
use Rattle.kat_words.specs.Command.{bare_command, calls_rule, cycles_rule, devices_rule}
use Rattle.kat_words.specs.Command.{files_rule, job_rule}
use Rattle.kat_words.proofs.command.words_command.Goals as goal

some_is : {X : Type 0} (o : Option X) (y : X) → IsSomeAnd o (λ x. x ≡ y) → o ≡ Some y
some_is (Some x) y e = ap (λ z. Some z) e
some_is None y e = absurd e

abbrev local : Arg → Type 0
local a = a.global ≡ false

pub returns : goal.returns
returns c =
    let job_is : rule_of c.required-job.result ≡ job_rule =
    ap rule_of c.required-job.ensures
    ∙ ap (λ (r : Rule). record r { required = true }) c.new.ensures.rule in
    let files_is : rule_of c.num_args-files.result ≡ files_rule =
    ap rule_of c.num_args-files.ensures.0
    ∙ ap₂ (λ (r : Rule) n. record r { range = n })
    c.new-2.ensures.rule (some_is _ _ c.num_args-files.ensures.1) in
    let job_local : local c.required-job.result =
    ap (λ (a : Arg). a.global) c.required-job.ensures ∙ c.new.ensures.optional.1 in
    let files_local : local c.num_args-files.result =
    ap (λ (a : Arg). a.global) c.num_args-files.ensures.0 ∙ c.new-2.ensures.optional.1 in
    let cycles_is : rule_of c.long-cycles.result ≡ cycles_rule = search rules in
    let calls_is : rule_of c.long-calls.result ≡ calls_rule = search rules in
    let devices_is : rule_of c.long-devices.result ≡ devices_rule = search rules in
    let bare_is : app_of c.disable_version_flag-bare.result ≡ bare_command =
    ap app_of_fields c.disable_version_flag-bare.ensures
    ∙ ap (on_top (λ (s : Shape). record s { disable_version_flag = true }))
    (ap app_of_fields c.disable_help_flag.ensures
    ∙ ap (on_top (λ (s : Shape). record s { disable_help_flag = true }))
    (ap app_of_fields c.no_binary_name.ensures
    ∙ ap (on_top (λ (s : Shape). record s { no_binary_name = true })) c.new-6.ensures.app)) in
    c.in_ok-command.ensures.shape (search rules) ∙ ap₂ with_rule
    (c.in_ok-arg-4.ensures.shape (search rules) ∙ ap₂ with_rule
    (c.in_ok-arg-3.ensures.shape (search rules) ∙ ap₂ with_rule
    (c.in_ok-arg-2.ensures.shape files_local ∙ ap₂ with_rule
    (c.in_ok-arg.ensures.shape job_local ∙ ap₂ with_rule bare_is job_is)
    files_is) cycles_is) calls_is) devices_is
