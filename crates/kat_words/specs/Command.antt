-- The one command by which the words are read, as `clap` sees it.
use Rattle.std.specs.Prelude.{true, Some, codes}
use Rattle.clap.specs.Words.{App, Rule, new_app, new_rule, with_rule}
use Rattle.clap.specs.Lexer.{usize_max}

-- the first positional word, which has to be there
abbrev pub job_rule : Rule
job_rule = record (new_rule (codes "job")) { required = true }

-- the last positional, of one word or more
abbrev pub files_rule : Rule
files_rule = record (new_rule (codes "files")) {
  range = Some (record { start_inclusive = 1; end_inclusive = usize_max });
}

-- the option `--cycles`, of one value
abbrev pub cycles_rule : Rule
cycles_rule = record (new_rule (codes "cycles")) { long = Some (codes "cycles") }

-- the option `--calls`, of one value
abbrev pub calls_rule : Rule
calls_rule = record (new_rule (codes "calls")) { long = Some (codes "calls") }

-- the option `--devices`, of one value
abbrev pub devices_rule : Rule
devices_rule = record (new_rule (codes "devices")) { long = Some (codes "devices") }

-- a command without help or version; the program's name is not among the words
abbrev pub bare_command : App
bare_command = record (new_app (codes "katamaran")) {
  top = record (new_app (codes "katamaran")).top {
    no_binary_name = true;
    disable_help_flag = true;
    disable_version_flag = true;
  };
}

-- the command with its positional words
abbrev pub command_of_files : App
command_of_files = with_rule (with_rule bare_command job_rule) files_rule

-- the command with its options too
abbrev pub words_command : App
words_command =
    with_rule (with_rule (with_rule command_of_files cycles_rule) calls_rule) devices_rule
