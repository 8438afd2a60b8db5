-- Records that were printed, stored and printed again.
use Rattle.std.proofs.Common.{◌≡◌, ◌+◌, ◌++◌, List, ℕ, length, subst, sym, ap, ◌∙◌}
use Rattle.std.specs.Io.KnownBytes.{Appends}
use Rattle.d64_image.specs.Images.{Image}
use Rattle.d64_image.specs.Memory.{sectors_in}
use Rattle.disk_layout.specs.Layout.{IsLayout, record_length}
use Rattle.disk_layout.specs.Records.{records}
use Rattle.disk_changes.proofs.lemmas.lines.FileRecords.{file-few, file-low, file-records, image-of}
use Rattle.disk_changes.proofs.lemmas.lines.Lined.{text-append, text-is, text_from}
use Rattle.disk_changes.proofs.lemmas.lines.Returned.{found-back, none-behind, put-back}
use Rattle.file_rescues.specs.Records.{records_text}
use Rattle.disk_changes.specs.lines.Storing.{put_over}
use Rattle.disk_changes.proofs.laws.records_come_back.Goals as goal

pub returns-clause-stored : goal.returns-clause-stored
returns-clause-stored g c = λ source from image to file old new small is done same.
    let img = sectors_in source in
    let w = image-of source is.size small in
    put-back g.D.Sectors.history image to old new (records img file) (record_length file.slot)
    (file-low img is.layout is.number file from w is.is_layout is.first)
    (file-records img is.layout is.number file from w is.is_layout is.first)
    (file-few img is.layout is.number file from w is.is_layout is.first) done same

pub returns-clause-printed : goal.returns-clause-printed
returns-clause-printed g c = λ source from image to file old new small is done same after before out held printed.
    let S = g.D.Sectors.history in
    let img = sectors_in source in
    let w = image-of source is.size small in
    let rs = records img file in
    let it = printed.is_file in
    let back : records (S.image new) printed.file ≡ put_over rs (S.image old) done.run.file =
    found-back S image to old new rs (record_length file.slot)
    (file-low img is.layout is.number file from w is.is_layout is.first)
    (file-records img is.layout is.number file from w is.is_layout is.first)
    (file-few img is.layout is.number file from w is.is_layout is.first) done same
    it.layout it.number printed.file (subst (λ (i : Image). IsLayout i it.layout) held it.is_layout) it.first in
    subst (λ (ts : List (List ℕ)). Appends (g.W.Write.contents before) (g.W.Write.contents out) (records_text ts))
    (ap (λ (i : Image). records i printed.file) held ∙ back) printed.printed

pub returns-clause-front : goal.returns-clause-front
returns-clause-front g c = λ rs ts. (
  text_from (1 + length rs) ts,
  text-is (rs ++ ts) ∙ text-append 1 rs ts ∙ ap (λ (t : List ℕ). t ++ text_from (1 + length rs) ts) (sym (text-is rs)),
)

pub returns-clause-same : goal.returns-clause-same
returns-clause-same g c = λ d f rs few either. none-behind (g.D.Sectors.history.image d) f rs few either
