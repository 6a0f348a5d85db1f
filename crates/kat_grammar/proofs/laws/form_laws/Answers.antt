use Rattle.kat_grammar.proofs.Lists.{two_are, three_are, four_are, five_are, no_parts, one_and, rest_is, with_last, each_fits, more_made, count-List, behind_fewer, part_among, rest_among}
use Rattle.kat_grammar.proofs.Fitting.{exact_parts, many_parts, between_parts, exact_place, many_place, part_fits, all_same, rest_fits, some_fit, behind_first, before_fits, last_fits, headed, arm_fits, headed_list, list_parts, list_holder, holder, held_part}
use Rattle.kat_grammar.proofs.ExpressionForms.{plain_word, plain_op, plain_is}
use Rattle.kat_grammar.proofs.SpecificationForms.{spec_parts, text_of_parts}
use Rattle.kat_grammar.proofs.laws.form_laws.Goals as goal

pub returns : goal.returns
returns c = record {
  exact_parts = exact_parts;
  many_parts = many_parts;
  between_parts = between_parts;
  exact_place = exact_place;
  many_place = many_place;
  part_fits = part_fits;
  all_same = all_same;
  rest_fits = rest_fits;
  some_fit = some_fit;
  behind_first = behind_first;
  before_fits = before_fits;
  last_fits = last_fits;
  headed = headed;
  arm_fits = arm_fits;
  headed_list = headed_list;
  list_parts = list_parts;
  list_holder = list_holder;
  holder = holder;
  held_part = λ s w inner has x tree part. held_part s w inner has x tree part;
  two_are = two_are;
  three_are = three_are;
  four_are = four_are;
  five_are = five_are;
  no_parts = no_parts;
  one_and = one_and;
  rest_is = rest_is;
  with_last = with_last;
  each_fits = each_fits;
  more_made = more_made;
  count_list = count-List;
  behind_fewer = behind_fewer;
  part_among = part_among;
  rest_among = rest_among;
  plain_word = plain_word;
  plain_op = plain_op;
  plain_is = plain_is;
  spec_parts = spec_parts;
  text_parts = λ tree text. text_of_parts tree c.written_layers.ensures.parts_writable c.written_layers.ensures.part_nesting text;
}
