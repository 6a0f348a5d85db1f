-- The classes of characters.
use Rattle.std.specs.Prelude.{ℕ, Bool, ◌||◌, ◌==◌}
use Rattle.std.specs.Char.{is_ascii_digit}
use Rattle.unicode_ident.specs.Ident.{is_xid_start}

-- a space, a tab, a newline or a carriage return
abbrev pub is_blank : ℕ → Bool
is_blank c = (c == 32) || ((c == 9) || ((c == 10) || (c == 13)))

-- `_`, or a letter as Unicode's property XID_Start has it
abbrev pub begins_name : ℕ → Bool
begins_name c = (c == 95) || is_xid_start c

-- a number begins with a digit
abbrev pub begins_word : ℕ → Bool
begins_word c = is_ascii_digit c || begins_name c
