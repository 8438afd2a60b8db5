-- What a repair, and a drive switched on over the disk, leave of the shop.
use Rattle.std.proofs.Common.{Err, subst}
use Rattle.d64_image.specs.History.{Failed, History}
use Rattle.d64_image.specs.Images.{Image}
use Rattle.disk_layout.proofs.lemmas.layouts.Twice.{told-sound}
use Rattle.disk_layout.specs.Fault.{Holds, TellsFault}
use Rattle.disk_layout.specs.Layout.{IsSound, Layout}
use Rattle.disk_layout.specs.declared.faults.Fault.{Fault}
use Rattle.layout_check.specs.Repaired.{IsRepaired}
use Rattle.layout_check.specs.declared.survey_outcome.Survey.{Survey}
use Rattle.disk_layout.proofs.lemmas.layouts.Layouts.{IsLayout-one}
use Rattle.layout_check.specs.Mended.{IsMended}
use Rattle.host_session.specs.shop.Files.{Files, HasFiles}
use Rattle.host_session.proofs.lemmas.writing.Mended.{on-repair}

-- a repaired disk has the files of the one before
pub repaired-files : (old new : Image) (v : Survey) → IsRepaired old new v → (f : Files) → HasFiles old f
    → HasFiles new f
repaired-files old new v r f h =
    let P : Layout → Type 0 = λ l. IsMended old l new in
    on-repair old new f h (subst P (IsLayout-one old r.before h.layout r.sound h.is_layout)
    (record { layout = r.after; sound = r.clean.layout; same = r.same }))

-- a repair of a sound disk fails with the device alone
pub repair-failed : {D : Type 0} (S : History D) (a b : D) (fault : Fault) → IsSound (S.image a)
    → Holds (S.failed_at b) (S.image a) fault → TellsFault {T = Survey} S a b (Err fault) → Failed S a b
repair-failed S a b fault sound holds told =
    let (p, e, at) = told-sound (S.failed_at b) (S.image a) fault holds sound in
    subst (λ (x : Fault). TellsFault {T = Survey} S a b (Err x)) e told
