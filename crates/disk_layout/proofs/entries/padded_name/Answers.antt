-- The name's bytes, and what is left of the padding.
use Rattle.std.proofs.Common.{ap₂, length, replicate, sym, ◌++◌}
use Rattle.std.proofs.lemmas.List.{drop-replicate, length-take-le}
use Rattle.disk_layout.proofs.entries.padded_name.Goals as goal

pub slice_bounds-copy_from_slice-end : goal.slice_bounds-copy_from_slice-end
slice_bounds-copy_from_slice-end c =
    sym (length-take-le (length c.args.name.now) (replicate 16 160) c.requires)

pub copy_from_slice-requires : goal.copy_from_slice-requires
copy_from_slice-requires c = length-take-le (length c.args.name.now) (replicate 16 160) c.requires

pub returns : goal.returns
returns c = ap₂ ◌++◌ c.copy_from_slice.ensures.after (drop-replicate (length c.args.name.now) 16 160)
