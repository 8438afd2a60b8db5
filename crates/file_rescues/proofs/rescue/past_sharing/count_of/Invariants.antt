-- Those of the files so far.
use Rattle.std.proofs.Common.{◌≡◌, length, min, take}
use Rattle.std.specs.Prelude.{filter, nat_eq}
use Rattle.file_rescues.specs.rescue.Sharing.{numbers_of}
use Rattle.file_rescues.proofs.rescue.past_sharing.count_of.Given as goal

abbrev pub invariant-loop-file : goal.invariant-loop-file
invariant-loop-file l = record {
  count : l.count ≡ min 2 (length (filter (nat_eq l.fn.number) (numbers_of (take l.file-index l.files))));
}
