-- The cases of a play: it came to its end, or a fault ended it; and its file failed, or not.
use Rattle.std.proofs.Common.{◌≡◌, ◌∙◌, ap, ap₂}
use Rattle.d64_image.specs.Keeps.{kept_or}
use Rattle.d64_image.specs.Memory.{disk_image, sectors_in}
use Rattle.d64_image.specs.KeptMirrors.{mirror_image}
use Rattle.shop_commands.proofs.FileEnds.{handed_at_err, handed_at_ok, unloaded}
use Rattle.shop_commands.proofs.playing.play_file.Goals as goal

pub returns-in-Err : goal.returns-in-Err
returns-in-Err g c = record {
  ok = tt;
  err = unloaded g.F.SectorFile.keeps g.T.Replies.output c.args.image.now c.args.script.now c.args.file c.args.out.now
      c.in-Err.fault c.in-Err.ensures.err;
}

pub returns-in-Ok-play_image : goal.returns-in-Ok-play_image
returns-in-Ok-play_image g c =
    let start = c.new.result in
    let loaded = c.in-Ok.ensures.ok in
    let holds : mirror_image start ≡ sectors_in c.args.image.now =
    ap₂ (λ f d. kept_or (g.F.SectorFile.keeps.kept f) d) c.new.ensures.file
    (ap disk_image c.new.ensures.disk ∙ loaded.1) ∙ c.requires.agrees in
    let both = handed_at_ok g.T.Replies.output c.args.image.now c.args.script.now start c.new.ensures.whole c.new.ensures.untaken
    loaded.0 holds c.args.out.now c.play_image.new.out c.in-Ok-play_image.mirror c.args.file c.file_of.result
    c.new.ensures.file c.file_of.ensures.file c.in-Ok-play_image.ensures c.file_of.ensures.end in
    record { ok = both.0; err = both.1 }

pub returns-in-Err-play_image : goal.returns-in-Err-play_image
returns-in-Err-play_image g c =
    let start = c.new.result in
    let loaded = c.in-Ok.ensures.ok in
    let holds : mirror_image start ≡ sectors_in c.args.image.now =
    ap₂ (λ f d. kept_or (g.F.SectorFile.keeps.kept f) d) c.new.ensures.file
    (ap disk_image c.new.ensures.disk ∙ loaded.1) ∙ c.requires.agrees in
    let both = handed_at_err g.T.Replies.output c.args.image.now c.args.script.now start c.new.ensures.whole c.new.ensures.untaken
    loaded.0 holds c.args.out.now c.play_image.new.out c.in-Err-play_image.mirror c.args.file c.in-Err-play_image.fault
    c.file_of-in-Err-play_image.result c.new.ensures.file c.file_of-in-Err-play_image.ensures.file
    c.in-Err-play_image.ensures c.file_of-in-Err-play_image.ensures.end in
    record { ok = both.0; err = both.1 }
