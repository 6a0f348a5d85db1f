use Rattle.std.proofs.Common.{◌≡◌, ◌≤◌, [], Some, length}
use Rattle.kat_words.proofs.Parts.{with_parts_from}
use Rattle.kat_words.proofs.devices.Devices.of_list.Given as goal

-- the devices so far and the parts that are left make what all parts make; no part makes two
abbrev pub invariant-loop-part : goal.invariant-loop-part
invariant-loop-part l = record {
  same : with_parts_from (Some l.devices) l.part-items l.part-index
      ≡ with_parts_from (Some []) l.part-items 0;
  few : length l.devices ≤ l.part-index;
}
