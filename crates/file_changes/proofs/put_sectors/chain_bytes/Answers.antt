-- The link, and then the data.
use Rattle.std.proofs.Common.{◌++◌, ◌+◌, ◌∙◌, ℕ, ap, ap₂, append-nil, arith, length-take}
use Rattle.disk_layout.specs.Side.{link_bytes}
use Rattle.file_changes.proofs.put_sectors.chain_bytes.Goals as goal

pub returns : goal.returns
returns c = ap₂ ◌++◌
    (c.link-track.ensures
    ∙ ap (λ (n : ℕ). link_bytes c.args.next (n + 1)) (omega (arith, length-take 254 c.args.content.now, c.min.ensures)))
    (append-nil c.copy_from_slice.new.self ∙ c.copy_from_slice.ensures.after ∙ c.padded_data.ensures)
