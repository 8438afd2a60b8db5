-- The image that is made is that of the disk.
use Rattle.image_edits.proofs.NewMade.{made-weaker, new-image}
use Rattle.image_edits.proofs.new_disks.do_new.Goals as goal

pub returns : goal.returns
returns g c =
    made-weaker g.W.Write.contents _ _ _ c.args.out.now c.make_told.new.out c.make_told.result
    (λ made. (
      c.bytes.result.now,
      new-image _ c.args.id c.bytes.result.now _ c.bytes.ensures.size c.bytes.ensures.image
          (rw (← c.as_bytes.ensures) c.in_ok-disk.ensures.ok),
      made,
    ))
    c.make_told.ensures
