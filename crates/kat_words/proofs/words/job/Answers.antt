use Rattle.std.proofs.Common.{◌∙◌, ◌≡◌, ap, sym, subst, map, Bool, Option, None, cond}
use Rattle.std.specs.String.{string_bytes}
use Rattle.clap.specs.Words.{matches_of}
use Rattle.kat_words.specs.Command.{words_command}
use Rattle.kat_words.specs.Jobs.{Gives, given_of, job_given, job_of}
use Rattle.kat_words.specs.Seen.{seen_given}
use Rattle.kat_words.specs.declared.asked.Job.{Job}
use Rattle.kat_words.proofs.words.job.Goals as goal

pub returns-clause-job : goal.returns-clause-job
unfolding job_of
returns-clause-job c =
    let words = map string_bytes c.args.words.now in
    let asked : Option Job = job_given (given_of (matches_of words_command words)) in
    let is : job_given (seen_given c.given.result) ≡ job_of words =
    ap job_given (c.given.ensures ∙ ap given_of c.in_ok-matches.ensures.1)
    ∙ sym (ap (λ (b : Bool). cond b asked None) c.in_ok-matches.ensures.0) in
    subst (λ (o : Option Job). Gives o c.job_given.result) is c.job_given.ensures.job
